pub mod SheetLaws
pub mod CallLaws
