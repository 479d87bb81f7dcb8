pub mod Agreement
pub mod Answer
pub mod Command
pub mod Input
pub mod Output
pub mod Process
pub mod Reply
pub mod Status
