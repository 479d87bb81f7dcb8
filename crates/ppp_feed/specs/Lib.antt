pub mod EntryLine
pub mod Fed
pub mod Feed
