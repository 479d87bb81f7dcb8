pub mod FieldsLemmas
pub mod HexTextLemmas
pub mod LinesLemmas
pub mod NumbersLemmas
pub mod PartsLemmas
pub mod SplitLemmas
