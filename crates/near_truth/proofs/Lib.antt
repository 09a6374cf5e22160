-- Demand 2 for NEAR and AGREE: what the exact test means, what a dismissal shows, what a walk and a reply are worth.
pub mod Within
pub mod Dismiss
pub mod NearReply
pub mod Agree
