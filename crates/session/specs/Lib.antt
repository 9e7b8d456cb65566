pub mod Sessions
pub mod Outcomes
pub mod Doing
pub mod RuleTable
pub mod Laws
