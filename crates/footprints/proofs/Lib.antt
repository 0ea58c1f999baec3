pub mod AdvertisementLemmas
pub mod LoggingLemmas
pub mod SettingsLemmas
