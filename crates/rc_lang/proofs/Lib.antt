pub mod TableLemmas
pub mod SettingsLemmas
pub mod RunLemmas
pub mod SettingLaws
pub mod PrintedText
pub mod FitLemmas
pub mod OwnRows
