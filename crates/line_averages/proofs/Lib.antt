pub mod DueLaws
pub mod RangeLaws
