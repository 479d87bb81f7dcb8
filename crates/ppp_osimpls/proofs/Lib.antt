pub mod MplsLemmas
