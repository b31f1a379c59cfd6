-- What the contracts of a call's first numbers cite, over the definitions of `rules`.
pub mod Entries
