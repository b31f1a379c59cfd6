-- What the fields of a binary32 pattern say of a float's size in units of 2^−149, and that `units_of` is exact.
use mathlib.Core.Path.{◌≡◌, refl, sym, ap, ◌∙◌, subst}
use mathlib.Core.Bool.{Bool, true, false, cond}
use Prim.Native.Nat.{ℕ, zero, suc, ◌+◌, ◌*◌, ◌/◌, ◌%◌, ◌^◌}
use native.Mathlib.Nat.{mul-div_cancel, mul-one}
use lib.IntN.{ℤ}
use lib.Dec.{T, leb, eqb}
use lib.Ieee.{Float, nan, inf, fin, binary32, up, down, odd, fits, of_fields, of_bits, to_bits}
use lib.Ieee.Fits.{down_pos}
use lib.Ieee.Bits.{of_bits-to_bits}
use lib.Ieee.Exact.{HasValue, odd_sign}
use lib.Ieee.Scale.{finite}
use Rattle.reading.specs.Reading.{unit, units_of}

-- a float of size a / unit is a units
units_of_value : (x : Float) (s : Bool) (a : ℕ) → HasValue x s a unit → units_of x ≡ a
unfolding units_of
units_of_value nan s a h = absurd h
units_of_value (inf t) s a h = absurd h
units_of_value (fin t m e) s a h = ap (λ (k : ℕ). k / down e) h.1 ∙ mul-div_cancel a (down_pos e)

-- ---- a pattern's sign s, exponent field x and fraction t

-- the size in units: an exponent field of 0 has no leading digit, and counts as 1
unfoldable pub field_units : ℕ → ℕ → ℕ
field_units zero t = t
field_units (suc j) t = (2 ^ 23 + t) * 2 ^ j

-- a field of all ones is an infinity's or a NaN's
at_top : (a b s : Bool) (v : Float) → T (finite (cond a (cond b (inf s) nan) v)) → cond a (cond b (inf s) nan) v ≡ v
at_top true true s v p = absurd p
at_top true false s v p = absurd p
at_top false b s v p = refl

fields_value : (s : Bool) (x t : ℕ) → T (finite (of_fields binary32 s x t)) → HasValue (of_fields binary32 s x t) s (field_units x t) unit
unfolding of_fields field_units
fields_value s zero t p = subst (λ (a : ℕ). HasValue (odd 24 s t 0 149) s a unit) (mul-one t) (odd_sign 24 s t 0 149)
fields_value s (suc j) t p =
    let v = odd 24 s (2 ^ 23 + t) j 149 in
    subst (λ (k : Float). HasValue k s ((2 ^ 23 + t) * 2 ^ j) unit) (sym (at_top (eqb (suc j) 255) (eqb t 0) s v p)) (odd_sign 24 s (2 ^ 23 + t) j 149)

bits_are : (b : ℕ) → of_bits binary32 b ≡ of_fields binary32 (leb (2 ^ 31) b) (b % 2 ^ 31 / 2 ^ 23) (b % 2 ^ 23)
unfolding of_bits
bits_are b = refl

-- the size of a finite float that binary32 holds, by the fields of its pattern
abbrev Sized : Float → ℕ → Type 0
Sized x b = HasValue x (leb (2 ^ 31) b) (field_units (b % 2 ^ 31 / 2 ^ 23) (b % 2 ^ 23)) unit

sized_of : (b : ℕ) → T (finite (of_bits binary32 b)) → Sized (of_bits binary32 b) b
sized_of b p =
    subst (λ (k : Float). Sized k b) (sym (bits_are b))
    (fields_value (leb (2 ^ 31) b) (b % 2 ^ 31 / 2 ^ 23) (b % 2 ^ 23) (subst (λ (k : Float). T (finite k)) (bits_are b) p))

pub sized : (x : Float) → T (fits binary32 x) → T (finite x) → Sized x (to_bits binary32 x)
sized x F p =
    let b = to_bits binary32 x in
    subst (λ (k : Float). Sized k b) (of_bits-to_bits binary32 x F) (sized_of b (subst (λ (k : Float). T (finite k)) (sym (of_bits-to_bits binary32 x F)) p))

pub units_by_fields : (x : Float) → T (fits binary32 x) → T (finite x) → units_of x ≡ field_units (to_bits binary32 x % 2 ^ 31 / 2 ^ 23) (to_bits binary32 x % 2 ^ 23)
units_by_fields x F p =
    let b = to_bits binary32 x in
    units_of_value x (leb (2 ^ 31) b) (field_units (b % 2 ^ 31 / 2 ^ 23) (b % 2 ^ 23)) (sized x F p)

-- The division in `units_of` leaves no remainder: the size of a finite float that binary32 holds is a whole number of units, units / unit = m * up e / down e.
pub units_exact : (s : Bool) (m : ℕ) (e : ℤ) → T (fits binary32 (fin s m e)) → units_of (fin s m e) * down e ≡ m * up e * unit
units_exact s m e F = ap (λ (k : ℕ). k * down e) (units_by_fields (fin s m e) F tt) ∙ sym (sized (fin s m e) F tt).1
