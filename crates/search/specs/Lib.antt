pub mod Deciding
pub mod Keeping
pub mod Opening
pub mod Plans
pub mod Searching
