pub mod AutomatonLemmas
pub mod FrontLemmas
pub mod JudgedLemmas
pub mod ListLemmas
pub mod OutboxLemmas
pub mod ReplyLemmas
pub mod TakenLemmas
