-- Quotients rounded to a whole number: readings' corrections, figures as they are reported, and the means that charts plot.
use Rattle.std.specs.Prelude.{ℕ, ◌+◌, ◌*◌, ◌/◌, ℤ, pos, negsuc, neg_ℤ, nat_abs}

-- n over d, rounded to the nearest whole number, halves up
abbrev pub half_up : ℕ → ℕ → ℕ
half_up n d = (2 * n + d) / (2 * d)

-- z over n, rounded to the nearest whole number, halves away from zero
unfoldable pub rounded_away : ℤ → ℕ → ℤ
rounded_away z n = away z (half_up (nat_abs z) n)
  where
    away : ℤ → ℕ → ℤ
    away (pos k) r = pos r
    away (negsuc k) r = neg_ℤ (pos r)

-- a figure as it is reported: n over d tenths, rounded once to the nearest tenth, halves up
unfoldable pub nearest_tenth : ℕ → ℕ → ℕ
nearest_tenth n d = half_up n d
