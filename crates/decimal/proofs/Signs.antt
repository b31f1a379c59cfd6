-- The sign and the magnitude of a signed number, as the code computes them.
use mathlib.Core.Path.{◌≡◌, refl}
use mathlib.Core.Bool.{true, false, true≢false}
use Prim.Native.Nat.{suc, ◌<◌, ◌≤◌}
use lib.ListN.{length}
use Rattle.decimal.proofs.Show.{width_5}
use native.Mathlib.Omega.{arith}
use borrow.Author.Tests.{ltb-true}
use mathlib.Core.List.{◌∷◌}
use Rattle.decimal.specs.Show.{show, show_signed}
use lib.IntN.{ℤ, pos, negsuc, nat_abs}
use lib.Signed.{lt_z}

-- how a signed number is shown, by its sign
pub show_below : (z : ℤ) → lt_z z (pos 0) ≡ true → 45 ∷ show (nat_abs z) ≡ show_signed z
unfolding show_signed
show_below (pos n) e = absurd (omega (arith, ltb-true n 0 e))
show_below (negsuc n) e = refl

pub show_above : (z : ℤ) → lt_z z (pos 0) ≡ false → show (nat_abs z) ≡ show_signed z
unfolding show_signed
show_above (pos n) e = refl
show_above (negsuc n) e = absurd (true≢false e)

pub width_signed : (z : ℤ) → nat_abs z < 100000 → length (show_signed z) ≤ 6
unfolding show_signed
width_signed (pos n) h = omega (arith, width_5 n h)
width_signed (negsuc n) h = omega (arith, width_5 (suc n) h)
