-- What the contracts of the station's own functions cite, over the definitions of `rules`.
pub mod Accepted
