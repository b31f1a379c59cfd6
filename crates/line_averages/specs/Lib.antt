-- What the contracts of the tests of averages cite, over the definitions of `rules`.
pub mod Ranges
