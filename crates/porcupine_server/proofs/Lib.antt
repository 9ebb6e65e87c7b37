mod NextLine
mod GoodRun
mod GoodPlan
mod FewDrafts
mod Within
mod Placed
mod Complete
pub mod Serving
mod LeftOut
pub mod Promises
pub mod Named
pub mod OwnStores
pub mod FirstWords
mod PlanHead
pub mod Tasks
pub mod NoMemory
pub mod Nothing
mod SmallTape
mod PostedTape
mod WrongRuns
mod NotLeftOut
mod MachineOrders
mod Followed
mod Granted
