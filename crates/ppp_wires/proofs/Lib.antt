pub mod ListedLemmas
pub mod PortsLemmas
pub mod JournalLemmas
pub mod ConnectedLemmas
