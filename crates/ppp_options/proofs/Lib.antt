pub mod OwnListLemmas
