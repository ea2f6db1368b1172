pub mod Localized
