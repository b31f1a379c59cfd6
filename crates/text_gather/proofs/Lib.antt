pub mod UnderWay
pub mod Seen
