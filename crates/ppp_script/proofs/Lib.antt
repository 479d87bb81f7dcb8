pub mod EventLemmas
pub mod FeedEventLemmas
pub mod FieldLemmas
pub mod OctetsLemmas
pub mod RowLemmas
pub mod ScriptLemmas
mod StandardFacts
mod TimerLemmas
