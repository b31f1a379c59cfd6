pub mod SampleLaws
pub mod SheetLaws
