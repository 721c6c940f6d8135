pub mod Expr
pub mod Cause
pub mod Judged
pub mod RegexBuild
pub mod People
pub mod Answer
pub mod Inner
