pub mod Monomials
pub mod Operations
pub mod Orders
pub mod Rules
pub mod Weights
pub mod RulesLemmas
pub mod MonomialsLemmas
