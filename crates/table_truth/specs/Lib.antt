-- What the theorems about the described table say.
pub mod BestSplit
pub mod Lowest
pub mod Buildable
