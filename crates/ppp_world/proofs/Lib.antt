pub mod AgreementLemmas
mod BundleLinesLemmas
pub mod CountedLemmas
pub mod DecidedLemmas
pub mod DifferenceLemmas
pub mod MakesLemmas
mod MovedLemmas
pub mod OrdinalsLemmas
pub mod ReplayLemmas
pub mod RunLemmas
pub mod ReportLemmas
pub mod SameControlLemmas
mod SearchLemmas
pub mod SoundLemmas
pub mod WidthLemmas
pub mod WorldLemmas
