pub mod LentLines
