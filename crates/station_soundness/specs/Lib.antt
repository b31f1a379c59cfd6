pub mod Past
