-- What the C interface says in numbers.
pub mod Codes
