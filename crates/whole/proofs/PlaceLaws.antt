-- A number that is never negative, as a place holds it, is its 32 bits without sign.
use mathlib.Core.Path.{◌≡◌, refl, ap, ◌∙◌}
use native.Mathlib.Omega.{arith}
use lib.IntN.{ℤ, pos, negsuc}
use mir.Syntax.{w32}
use mir.Val.{SFits, to_z}
use mir.ValLaws.{to_z-of_z}
use Rattle.std.specs.Int.{cast_unsigned}
use Rattle.whole.specs.Places.{natural}

pub natural_bits : (z : ℤ) → SFits w32 z → cast_unsigned w32 z ≡ natural z
natural_bits (pos n) f = refl
natural_bits (negsuc n) f = omega (arith, f.sfits)

-- the same, as code reads it
pub natural_read : {z : ℤ} → SFits w32 z → cast_unsigned w32 (to_z w32 (cast_unsigned w32 z)) ≡ natural z
natural_read {z} f = ap (cast_unsigned w32) (to_z-of_z w32 z f) ∙ natural_bits z f
