pub mod Rules
pub mod Blocks
pub mod RulesLemmas
