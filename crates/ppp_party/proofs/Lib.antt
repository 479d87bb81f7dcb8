pub mod CameLemmas
pub mod DoneLemmas
mod HeardLemmas
pub mod HeldLemmas
pub mod KeptLemmas
mod LedgerLemmas
pub mod ListLemmas
mod LoneLemmas
mod MoveLemmas
mod OrderLemmas
pub mod PartyLemmas
mod PostLemmas
mod QueueLemmas
mod ReadLemmas
mod ReaderLemmas
pub mod RebootLemmas
mod ResultLemmas
pub mod SeatLemmas
mod SendLemmas
pub mod SpansLemmas
mod StationLemmas
mod StepLemmas
mod SenderLemmas
