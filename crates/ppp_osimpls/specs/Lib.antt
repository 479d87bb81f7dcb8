pub mod Alignment
pub mod MplsTable
pub mod OsiLaw
pub mod OsiTable
