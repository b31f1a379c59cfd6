-- What the contracts of the market test's functions cite, over the definitions of `rules`.
pub mod Answers
