-- The output line's length.
use mathlib.Core.Path.{◌≡◌, refl}
use mathlib.Core.Bool.{Bool, true, false}
use mathlib.Core.List.{[], ◌∷◌}
use Prim.Native.Nat.{ℕ, ◌≤◌, ◌<◌}
use native.Mathlib.Omega.{arith}
use lib.IntN.{nat_abs}
use lib.ListN.{length, length-append}
use Rattle.decimal.specs.Show.{shown, show, show_signed, bit}
use Rattle.decimal.proofs.Show.{width_5}
use Rattle.decimal.proofs.Signs.{width_signed}
use Rattle.chart_rules.specs.Lines.{truth, values_of, line_of}
use Rattle.chart_rules.specs.declared.ChartSet.{ChartSet}
use Rattle.chart_rules.specs.declared.Chart.{Chart}
use Rattle.chart_rules.specs.declared.Values.{Values}
use Rattle.chart_rules.proofs.Sets.{SoundSet}

-- a flag is one byte
pub truth_byte : (b : Bool) → show_signed (truth b) ≡ bit b ∷ []
unfolding show_signed show shown
truth_byte true = refl
truth_byte false = refl

pub line_short : (v : Values) → v.week < 100000 → v.count < 100000 → nat_abs v.plot < 100000 → v.range < 100000 → length (line_of v) ≤ 40
unfolding line_of show_signed
line_short v week count plot range =
    simp (length-append, truth_byte v.al, truth_byte v.tl, truth_byte v.run, truth_byte v.ral, truth_byte v.rtl)
    (omega (arith, width_5 v.week week, width_5 v.count count, width_signed v.plot plot, width_5 v.range range))

pub sound_short : (c : Chart) (week : ℕ) (s : ChartSet) → week ≤ 9999 → SoundSet s → length (line_of (values_of c week s)) ≤ 40
unfolding values_of
sound_short c week s h f =
    line_short (values_of c week s) (omega arith) (omega (arith, f.five)) (omega (arith, f.plot)) (omega (arith, f.range))
