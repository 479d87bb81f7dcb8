pub mod BundlesLemmas
pub mod ControlLemmas
pub mod KeyLemmas
mod ListLemmas
pub mod MirrorLemmas
mod NumbersLemmas
pub mod PeerLemmas
pub mod TableLemmas
