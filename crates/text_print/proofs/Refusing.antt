-- Which refusal is printed, by the answer that the code got.
use mathlib.Core.Path.{◌≡◌, refl, sym, ap, ◌∙◌}
use mathlib.Core.List.{List}
use Prim.Native.Nat.{ℕ, ◌≤◌}
use lib.ListN.{length}
use borrow.Author.Tests.{le-ltb}
use Rattle.std.specs.Prelude.{Result, Option}
use Rattle.std.specs.Result.{result_err}
use Rattle.chart_rules.specs.Output.{TextCharted, chart_text_of}
use Rattle.chart_rules.specs.declared.RefusedText.{RefusedText}
use Rattle.text_print.specs.Refusing.{refused_of}

pub refused_by : (text old mid : List ℕ) → 40 ≤ length old → (r : Result ℕ RefusedText)
    → ◌≡◌ {A = TextCharted} (chart_text_of text old) (record { answer = r; buffer = mid })
    → (said : Option RefusedText) → said ≡ result_err r → said ≡ refused_of text (length old)
unfolding refused_of chart_text_of
refused_by text old mid h r e said s =
    s ∙ sym (rw (le-ltb (length old) 40 h) (ap (λ (x : TextCharted). result_err x.answer) e))
