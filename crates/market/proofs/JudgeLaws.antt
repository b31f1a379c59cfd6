-- The numbers of a test in the order of the code are those of the rules.
pub use Rattle.std.proofs.lemmas.Int.{to_z-of_z}
use Rattle.std.specs.Prelude.{Result, Err, Option, None, Some}
use mathlib.Core.Path.{◌≡◌, refl, sym}
use mathlib.Core.Bool.{Bool, true, false, cond, not, true≢false}
use Prim.Native.Nat.{ℕ, ◌<◌, ◌≤◌}
use native.Mathlib.Omega.{arith}
use lib.Ieee.{Float}
use lib.IntN.{ℤ, pos, negsuc, nat_abs, ◌+ℤ◌}
use mir.Syntax.{w32}
use mir.Val.{of_z, to_z}
use Rattle.std.proofs.lemmas.Int.{ints}
use Rattle.whole.specs.Bounds.{Within}
use Rattle.std.specs.Option.{unwrap_or}
use Rattle.station_rules.specs.Lines.{Values}
use Rattle.station_rules.specs.declared.Scan.{Scan}
use Rattle.station_rules.specs.declared.Asked.{Asked}
use Rattle.station_rules.specs.declared.Basis.{Basis}
use Rattle.station_rules.specs.declared.Certificate.{Certificate}
use Rattle.station_refusals.specs.declared.Refusal.{Refusal}
use Rattle.station_rules.specs.Markets.{basis_from, within, market_checks, certificate_of, corrected_value}
use Rattle.station_rules.proofs.Figures.{basis_room}
use Rattle.reading.specs.Reading.{answer_of}
use Rattle.reading.proofs.Laws.{answer_le}
use Rattle.market_scan.specs.Scans.{picked_of}
use Rattle.market_certificate.specs.Certified.{answer_by, certified_of}
use Rattle.market.specs.Answers.{if_found, judged_of, tested_of}

-- ---- the order of the code

-- an answer by a test
either_answer : (b : Bool) (o p : Option ℕ) (c : Certificate) → answer_by (cond b o p) c ≡ cond b (answer_by o c) (answer_by p c)
either_answer true o p c = refl
either_answer false o p c = refl

-- a test turned round
turned : {A : Type 0} (b : Bool) (x y : A) → cond (not b) x y ≡ cond b y x
turned true x y = refl
turned false x y = refl

-- what is found where a test holds
found_where : {A : Type 0} (b : Bool) (x : A) (r : Refusal) (rest : A → Result Certificate Refusal) → if_found (cond b (Some x) None) r rest ≡ cond b (rest x) (Err r)
found_where true x r rest = refl
found_where false x r rest = refl

pub judged : (row : ℕ) (v : Values) (day line : ℕ) (scan : Scan) (asked : Asked) (basis : Basis) → tested_of row v day line scan asked basis ≡ judged_of row v day line scan asked basis
unfolding tested_of judged_of certified_of market_checks certificate_of corrected_value picked_of answer_of
judged row v day line scan asked basis = simp (either_answer, turned, found_where)

-- ---- ranges

pub basis_below : (row : ℕ) (asked : Asked) → basis_from row asked < 10000
basis_below row asked = omega (arith, basis_room row asked)

-- here and in `size_is` the first part says nothing: it shows `grind` the call
pub reading_small : (x : Float) → (answer_of x ≡ answer_of x) × (unwrap_or (answer_of x) 0 ≤ 10000)
reading_small x = (refl, go (answer_of x) refl)
  where
    go : (o : Option ℕ) → answer_of x ≡ o → unwrap_or o 0 ≤ 10000
    go None e = omega arith
    go (Some n) e = answer_le x n e

-- a reading plus an intercept doesn't wrap
pub sum_is : (n : ℕ) (i : ℤ) → n ≤ 10000 → Within 20000000 20000000 i → to_z w32 (of_z w32 (to_z w32 n +ℤ to_z w32 (of_z w32 i))) ≡ pos n +ℤ i
sum_is n i few w = omega (arith, ints)

-- a value of 0..high and its size
pub size_is : (high : ℕ) (z : ℤ) → within 0 high z ≡ true → (within 0 high z ≡ within 0 high z) × (nat_abs z ≤ high) × (pos (nat_abs z) ≡ z)
size_is high (pos n) e = (refl, grind arith, refl)
size_is high (negsuc n) e = absurd (true≢false (sym e))

-- ---- what `market::judge` meets its contract by
pub ruleset judging = (judged, basis_below, reading_small, sum_is, size_is, to_z-of_z)
