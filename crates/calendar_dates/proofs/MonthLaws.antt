-- The month of a day of a year: by 31 up to the end of February, by the mean length of a month after it.
use mathlib.Core.Path.{◌≡◌, refl}
use mathlib.Core.Bool.{Bool, true, false, cond}
use Prim.Native.Nat.{ℕ, suc, ◌+◌, ◌-◌, ◌*◌, ◌/◌, ◌≤◌, ◌<◌}
use native.Mathlib.Omega.{arith}
use borrow.Author.Tests.{lt-leb}
use Rattle.std.proofs.lemmas.Bool.Decides.{nat_tests}
use Rattle.calendar_rules.specs.Counting.{lacking, month_start}
use Rattle.calendar_dates.specs.Parts.{InMonth}

-- January and February
pub january : (leap : Bool) (rest : ℕ) → rest < month_start leap 3 → InMonth leap rest (rest / 31 + 1)
unfolding month_start
january leap rest h =
    let s : rest < 62 = grind (arith, nat_tests) in
    record { from = omega arith; up_to = omega arith; begins = grind (arith, nat_tests); ends = grind (arith, nat_tests) }

-- the months from March on
march_start : (leap : Bool) → (month_start leap 3 + cond leap 1 2 ≡ 61) × (month_start leap 13 + cond leap 1 2 ≡ 367)
unfolding month_start
march_start true = (refl, refl)
march_start false = (refl, refl)

start_is : (leap : Bool) (m : ℕ) → 3 ≤ m → month_start leap m ≡ (367 * m - 362) / 12 - cond leap 1 2
unfolding month_start
start_is leap m h = simp (lt-leb m 2 (omega arith))

small : (leap : Bool) → cond leap 1 2 ≤ 2
small true = omega arith
small false = omega arith

-- from March on
pub march : (leap : Bool) (rest : ℕ) → month_start leap 3 ≤ rest → rest < month_start leap 13 → InMonth leap rest ((12 * (rest + lacking leap 3) + 373) / 367)
march leap rest h l = go (cond leap 1 2) (march_start leap).0 (march_start leap).1 (start_is leap)
  where
    go : (k : ℕ) → month_start leap 3 + k ≡ 61 → month_start leap 13 + k ≡ 367 → ((m : ℕ) → 3 ≤ m → month_start leap m ≡ (367 * m - 362) / 12 - k) → InMonth leap rest ((12 * (rest + k) + 373) / 367)
    go k a b is =
        let m = (12 * (rest + k) + 373) / 367 in
        let low : 3 ≤ m = omega arith in
        record { from = omega arith; up_to = omega arith; begins = omega (arith, is m low); ends = omega (arith, is (suc m) (omega arith)) }

-- a month begins within the year
pub month_small : (leap : Bool) (m : ℕ) → m ≤ 12 → month_start leap m ≤ 336
unfolding month_start
month_small leap m h = omega arith

-- the numbers of the code are small
pub lacks_little : (leap : Bool) (m : ℕ) → lacking leap m ≤ 2
lacks_little leap m = grind (arith, nat_tests, small leap)

pub lacks_fit : (leap : Bool) (m : ℕ) → 1 ≤ m → lacking leap m ≤ (367 * m - 362) / 12
lacks_fit leap m h = grind (arith, nat_tests, small leap)

pub year_small : (leap : Bool) → month_start leap 13 ≤ 366
year_small leap = omega (arith, (march_start leap).1, small leap, least leap)
  where
    least : (leap : Bool) → 1 ≤ cond leap 1 2
    least true = omega arith
    least false = omega arith
