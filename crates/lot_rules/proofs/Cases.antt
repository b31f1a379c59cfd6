-- The worked cases hold.
use mathlib.Core.Path.{◌≡◌, refl}
use mathlib.Core.List.{map}
use Rattle.whole.specs.Rounding.{nearest_tenth}
use Rattle.lot_rules.specs.Lots.{single_tonnes, singles_of, basis_of, statement_of, bad_size, bad_sublot, unlike_basis, lot_checks, lot_of}
use Rattle.lot_rules.specs.Cases.{stated, refused, bounds}

pub stated_hold : map (λ c. c.gives) stated ≡ map (λ c. c.says) stated
unfolding stated single_tonnes singles_of basis_of statement_of bad_size bad_sublot unlike_basis lot_checks lot_of nearest_tenth
stated_hold = refl

pub refused_hold : map (λ c. c.gives) refused ≡ map (λ c. c.says) refused
unfolding refused single_tonnes singles_of basis_of statement_of bad_size bad_sublot unlike_basis lot_checks lot_of nearest_tenth
refused_hold = refl

pub bounds_hold : map (λ c. c.gives) bounds ≡ map (λ c. c.says) bounds
unfolding bounds single_tonnes singles_of basis_of statement_of bad_size bad_sublot unlike_basis lot_checks lot_of nearest_tenth
bounds_hold = refl
