mod Choices
mod Closes
mod Mails
mod Lines
mod Entered
mod Units
mod Moving
mod Texts
