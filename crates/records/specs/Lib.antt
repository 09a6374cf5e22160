-- What the desk holds afterwards, which tables are built then, the carried state in the words of the definitions
-- of the question program, and what a text line comes to.
pub mod Left
pub mod Built
pub mod Carried
pub mod Takes
pub mod Holds
