pub mod BoundLaws
pub mod PassLaws
