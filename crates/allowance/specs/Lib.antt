-- What it means that the visits decide a question, and how many are enough.
pub mod Decides
pub mod Enough
