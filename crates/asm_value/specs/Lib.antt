-- What contracts cite: values, domains, locations, states and sets of updates.
pub mod Domain
pub mod Enumerable
pub mod Living
pub mod Location
pub mod Members
pub mod Proper
pub mod Ranges
pub mod State
pub mod TotalOrders
pub mod UpdateSet
pub mod Value
