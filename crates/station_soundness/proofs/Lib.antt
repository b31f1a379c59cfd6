pub mod SoundLaws
pub mod FitsLaws
