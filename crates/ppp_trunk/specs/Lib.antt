pub mod Caps
pub mod Control
pub mod Moves
pub mod Orders
pub mod Phases
pub mod Trunk
pub mod StationOut
pub mod Steps
