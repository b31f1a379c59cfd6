-- Ranges of a market test's numbers; "for the standard basis both are equal".
use mathlib.Core.Path.{◌≡◌}
use mathlib.Core.Bool.{true}
use Prim.Native.Nat.{ℕ, ◌-◌, ◌<◌}
use native.Mathlib.Omega.{arith}
use lib.Dec.{lit<}
use lib.IntN.{ℤ, pos, nat_abs}
use lib.Signed.{le_z}
use Rattle.std.proofs.lemmas.Bool.{and_parts}
use Rattle.std.proofs.lemmas.Int.{ints}
use Rattle.whole.specs.Bounds.{Within}
use Rattle.whole.proofs.RoundLaws.{nearest_scaled}
use Rattle.station_rules.specs.Markets.{basis_from, corrected_value, within, tenths, tenths_at, certificate_of}
use Rattle.station_rules.specs.Laws.{StandardEqual}
use Rattle.station_rules.specs.declared.Asked.{Asked}
use Rattle.station_rules.specs.declared.Asked.TheVariants.{LineFigure, Gluten}
use Rattle.station_rules.proofs.RowFacts.{row_facts}

-- a value of 0..n
pub in_range_lem : (n : ℕ) (z : ℤ) → within 0 n z ≡ true → Within 0 n z
in_range_lem n z e =
    let p = and_parts (le_z (pos 0) z) (le_z z (pos n)) e in
    record { over = omega (arith, ints, p.0); under = omega (arith, ints, p.1) }

pub same_tenths : (a h : ℕ) → 0 < 10000 - a → tenths_at a a h ≡ tenths h
unfolding tenths tenths_at
same_tenths a h p = nearest_scaled h 10 (10000 - a) p

-- A is below 100 percent
pub basis_room : (row : ℕ) (asked : Asked) → 0 < 10000 - basis_from row asked
unfolding basis_from
basis_room row LineFigure = omega (arith, (row_facts row).basis_below)
basis_room row (Gluten class) = lit< tt

pub standard_equal : StandardEqual
unfolding certificate_of
standard_equal row v line scan asked = same_tenths (basis_from row asked) (nat_abs (corrected_value v scan asked line)) (basis_room row asked)
