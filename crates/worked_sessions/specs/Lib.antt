pub mod OneMessage
pub mod OneDeletion
pub mod ThreeNodes
pub mod CrashedNode
pub mod WrongStores
pub mod WrongReaders
pub mod WrongReplies
pub mod WrongBooks
