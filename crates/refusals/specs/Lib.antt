-- What the theorems about refusals are said with: the reason of an early refusal, the nodes that a walk visits, and
-- what a 10 and AGREE's 8 name.
pub mod Reason
pub mod Trace
pub mod Named
