pub mod DiscLemmas
pub mod OptionLemmas
pub mod PacketLemmas
