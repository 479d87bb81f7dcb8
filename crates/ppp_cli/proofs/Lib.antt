pub mod AgreementLemmas
pub mod AnswerLemmas
pub mod InputLemmas
pub mod ReplyLemmas
mod StandardFacts
