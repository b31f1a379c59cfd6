use mathlib.Core.Path.{◌≡◌, refl, ap, ◌∙◌}
use mathlib.Core.Bool.{Bool, false, ◌||◌}
use lib.IntN.{ℤ, ◌+ℤ◌}
use Rattle.std.specs.Prelude.{Ok}
use Rattle.std.proofs.Common.{arith}
use Rattle.std.proofs.lemmas.Int.{ints, to_z-of_z}
use Rattle.whole.proofs.ListLaws.{cond_no}
use Rattle.station_rules.specs.Sheets.{wrong_number, wrong_third, first_deviation}
use Rattle.station_rules.specs.declared.Sample.{Sample}
use Rattle.station_rules.specs.declared.Limits.{Limits}
use Rattle.sheet_numbers.specs.Samples.{has_again}
use Rattle.sheet_pass.specs.Passes.{widened, more, joined}
use Rattle.sheet_pass.specs.declared.Span.{Span}
use Rattle.sheet_pass.specs.declared.Found.{Found}
use Rattle.sheet_pass.proofs.joined.Goals as goal

-- the four parts of what one sample more comes to
joins : (limits : Limits) (intercept : ℤ) (t : Found) (s : Sample) {third again : Bool} {d : ℤ} {span : Span} {sum : ℤ}
    → wrong_number s ≡ false → d ≡ first_deviation limits intercept s → third ≡ t.third || wrong_third limits s → again ≡ t.again || has_again s
    → span ≡ widened limits t.span d → sum ≡ t.sum +ℤ d
    → Ok (record { third = third; again = again; span = span; sum = sum }) ≡ joined limits intercept t s
unfolding joined more
joins limits intercept t s right dev e f g h =
    ap Ok (λ i. record { third = e i; again = f i; span = (g ∙ ap (widened limits t.span) dev) i; sum = (h ∙ ap (λ (d : ℤ). t.sum +ℤ d) dev) i }) ∙ cond_no _ _ refl right

pub returns : goal.returns
returns c =
    let t = c.args.terms in
    let dev = c.first_deviation-d.ensures.0 ∙ ap (first_deviation t.limits t.intercept) c.in_ok-measured.ensures.1 in
    joins t.limits t.intercept c.args.t c.args.s c.in_ok-measured.ensures.0 dev (grind arith) (grind arith) (grind (arith, to_z-of_z)) (omega (arith, ints))
