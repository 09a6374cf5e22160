-- Laws of the number that a walk hands back.
pub mod Ends
pub mod Dues
pub mod OneLevel
