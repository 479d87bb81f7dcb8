pub mod Close
pub mod Crossing
pub mod Delivery
pub mod Match
pub mod Memory
pub mod Pair
pub mod Possibility
pub mod Response
