pub mod Cheapest
pub mod Semirings
pub mod Shares
pub mod YesNo
pub mod ValuesLemmas
pub mod Capped
