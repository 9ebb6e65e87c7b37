pub mod Words
pub mod ClusterOrders
pub mod Orders
pub mod PlanLines
pub mod Drafts
