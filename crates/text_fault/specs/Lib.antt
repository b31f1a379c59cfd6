pub mod Ascii
pub mod Fields
pub mod Kinds
pub mod Places
pub mod Names
