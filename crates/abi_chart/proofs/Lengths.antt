-- The lengths that the answers carry, for any call: a line has at most 40 bytes, a text's output at most 400000.
use mathlib.Core.Path.{◌≡◌, refl}
use mathlib.Core.List.{List}
use Prim.Native.Nat.{ℕ, ◌≤◌}
use native.Mathlib.Omega.{arith}
use lib.IntN.{ℤ}
use lib.ListN.{length}
use Rattle.std.specs.Prelude.{Result, Ok, Err}
use Rattle.chart_rules.specs.Places.{chart_at}
use Rattle.chart_rules.specs.Calls.{result_of, bytes_of, chart_set_of}
use Rattle.chart_rules.specs.InPlace.{chart_set_in}
use Rattle.chart_rules.specs.declared.Refusal.{Refusal}
use Rattle.chart_rules.specs.declared.Charted.{Charted}
use Rattle.chart_rules.proofs.Results.{charted_short}
use Rattle.chart_rules.specs.Output.{answer_of, chart_text_of}
use Rattle.chart_rules.specs.declared.RefusedText.{RefusedText}
use Rattle.chart_rules.proofs.GoodTexts.{program_fits}
use Rattle.abi_chart.specs.ChartAnswers.{line_length, text_length}

pub line_length_lem : (words : List ℤ) (week : ℕ) (numbers : List ℤ) (buffer : List ℕ) → line_length (chart_set_in words week numbers buffer).answer ≤ 40
unfolding chart_set_in chart_set_of bytes_of
line_length_lem words week numbers buffer = go (result_of (chart_at words) week numbers (length buffer)).answer refl
  where
    go : (a : Result Charted Refusal) → (result_of (chart_at words) week numbers (length buffer)).answer ≡ a → line_length a ≤ 40
    go (Ok charted) e = charted_short (chart_at words) week numbers (length buffer) charted e
    go (Err r) e = omega arith

pub text_length_lem : (text buffer : List ℕ) → text_length (chart_text_of text buffer).answer ≤ 400000
unfolding chart_text_of
text_length_lem text buffer = go (answer_of text (length buffer)) refl
  where
    go : (a : Result ℕ RefusedText) → answer_of text (length buffer) ≡ a → text_length a ≤ 400000
    go (Ok n) e = program_fits.fits text (length buffer) n e
    go (Err r) e = omega arith
