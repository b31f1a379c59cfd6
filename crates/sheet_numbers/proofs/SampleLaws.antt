-- What number 5 leaves of a sample, and the test of −1.
use mathlib.Core.Path.{◌≡◌}
use mathlib.Core.Bool.{Bool, true, false, ◌||◌}
use Prim.Native.Nat.{zero, suc}
use native.Mathlib.Omega.{arith}
use lib.Dec.{T, leb, leb→le, eqb→eq}
use lib.IntN.{ℤ, pos, negsuc}
use Rattle.std.proofs.lemmas.Int.{ints}
use Rattle.whole.specs.Bounds.{Within}
use Rattle.whole.proofs.Tests.{and_r}
use Rattle.station_rules.specs.Sheets.{is_result, wrong_number}
use Rattle.station_rules.specs.declared.Sample.{Sample}
use Rattle.station_rules.proofs.SheetBounds.{in_ranges_lem}
use Rattle.sheet_numbers.specs.Samples.{allowed, Measured}

within_result : (z : ℤ) → T (is_result z) → Within 1 10000 z
within_result (pos n) t = let h = leb→le n 10000 (and_r (leb 0 n) (leb n 10000) t) in omega (arith, ints)
within_result (negsuc n) t = absurd t

within_allowed : (z : ℤ) → T (allowed z) → Within 1 10000 z
within_allowed (pos n) t = within_result (pos n) (or_no (is_result (pos n)) t)
  where
    or_no : (a : Bool) → T (a || false) → T a
    or_no true t = tt
    or_no false t = t
within_allowed (negsuc zero) t = omega (arith, ints)
within_allowed (negsuc (suc n)) t = absurd (omega (arith, eqb→eq (suc n) 0 t))

-- number 5 leaves each number measured or −1
pub measured : (s : Sample) → wrong_number s ≡ false → Measured s
measured s e =
    let r = in_ranges_lem s e in
    record {
      baseline = within_result s.baseline r.baseline;
      first = within_result s.first r.first;
      second = within_result s.second r.second;
      third = within_allowed s.third r.third;
      again_first = within_allowed s.again_first r.again_first;
      again_second = within_allowed s.again_second r.again_second;
    }
