pub mod Led
pub mod Ranks
pub mod Holding
pub mod Noted
pub mod Taking
pub mod Ruled
pub mod Mailing
pub mod Beside
pub mod Called
pub mod Heard
pub mod Begun
pub mod Found
pub mod Restarted
pub mod Forming
mod FirstEpoch
mod Refused
mod Said
mod Epochs
mod Looked
mod Opened
mod Outlasted
mod Settled
pub mod Reported
pub mod AtRest
pub mod Reacting
pub mod ReadLetters
pub mod Locking
pub mod ReadDids
pub mod LoggedIn
pub mod Fetched
pub mod HeardReads
