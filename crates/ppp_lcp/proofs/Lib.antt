pub mod RowLemmas
pub mod SettingsLemmas
