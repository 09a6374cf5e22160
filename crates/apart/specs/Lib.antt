-- What the contracts of `apart` are said with.
pub mod Placed
pub mod Turned
pub mod Aside
