-- The output line in the parts that the code writes one after another.
use mathlib.Core.Path.{◌≡◌, refl}
use mathlib.Core.List.{List, [], ◌∷◌, ◌++◌, append_assoc}
use Prim.Native.Nat.{ℕ, ◌≤◌}
use native.Mathlib.Omega.{arith}
use lib.ListN.{length}
use Rattle.decimal.specs.Bytes.{space, line_feed}
use Rattle.decimal.specs.Show.{show, show_signed}
use Rattle.chart_rules.specs.Lines.{values_of, line_of}
use Rattle.chart_line.specs.Values.{SmallValues, flag_bytes}
use Rattle.chart_rules.specs.declared.ChartSet.{ChartSet}
use Rattle.chart_rules.specs.declared.Chart.{Chart}
use Rattle.chart_rules.specs.declared.Values.{Values}
use Rattle.chart_rules.proofs.Lines.{truth_byte}
use Rattle.chart_rules.proofs.Sets.{SoundSet}

to_right : (a b c d e f : List ℕ) → a ++ (b ++ (c ++ (d ++ (e ++ f)))) ≡ a ++ b ++ c ++ d ++ e ++ f
to_right a b c d e f = simp append_assoc

pub line_parts : (v : Values)
    → line_of v ≡ show v.week ++ (space ∷ show v.count) ++ (space ∷ show_signed v.plot) ++ (space ∷ show v.range) ++ flag_bytes v ++ (line_feed ∷ [])
unfolding line_of flag_bytes show_signed
line_parts v =
    rw (truth_byte v.al, truth_byte v.tl, truth_byte v.run, truth_byte v.ral, truth_byte v.rtl)
    (to_right (show v.week) (space ∷ show v.count) (space ∷ show_signed v.plot) (space ∷ show v.range) (flag_bytes v) (line_feed ∷ []))

pub flags_length : (v : Values) → length (flag_bytes v) ≡ 10
unfolding flag_bytes
flags_length v = refl

pub values_small : (c : Chart) (week : ℕ) (s : ChartSet) → week ≤ 9999 → SoundSet s → SmallValues (values_of c week s)
unfolding values_of
values_small c week s h f = record { week = omega arith; count = omega (arith, f.five); plot = omega (arith, f.plot); range = omega (arith, f.range) }
