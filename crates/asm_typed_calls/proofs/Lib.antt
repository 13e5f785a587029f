-- That what definitions call is named in them, and the laws that follow.
pub mod FunctionDefinitions
pub mod Laws
pub mod MacroDefinitions
pub mod Named
pub mod Places
pub mod RuleNames
pub mod TermNames
pub mod UsedNames
