pub mod HexLineLemmas
pub mod RestTextLemmas
pub mod ShownLemmas
