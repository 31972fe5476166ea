pub mod Changes
pub mod Connectedness
pub mod Masks
pub mod Offers
pub mod Sets
pub mod Tables
