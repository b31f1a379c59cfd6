pub mod DeviationLaws
