pub mod SideLaws
pub mod ValidLaws
pub mod RangeLaws
