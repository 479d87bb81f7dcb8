pub mod BatchLemmas
pub mod BeginsLemmas
pub mod FragmenterLemmas
pub mod FragmentsLemmas
pub mod HeaderLemmas
pub mod PassageLemmas
pub mod SettlementLemmas
