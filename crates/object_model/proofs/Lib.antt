pub mod Lists
pub mod SetLaws
pub mod StateLaws
pub mod MapLaws
pub mod SaidLaws
pub mod Merges
pub mod Logs
pub mod SaidViews
