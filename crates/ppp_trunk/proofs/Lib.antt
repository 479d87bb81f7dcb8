pub mod BundleLemmas
pub mod CapLemmas
pub mod ControlLemmas
pub mod FrameLemmas
pub mod FramedLemmas
pub mod LinksLemmas
pub mod ListLemmas
pub mod MarkLemmas
pub mod MovesLemmas
pub mod OneTrunkLemmas
pub mod OrdersLemmas
pub mod PhaseLemmas
pub mod RanLemmas
pub mod RunLemmas
pub mod SignalLemmas
mod TrunkLemmas
mod StationOutLemmas
pub mod TrunkPhaseLemmas
pub mod SteadyLemmas
mod StepsLemmas
pub mod TurnLemmas
pub mod UpLemmas
pub mod WalkLemmas
pub mod WovenLemmas
