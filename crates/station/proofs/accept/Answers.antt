-- `station::accept` meets its contract: each place that is written, by what its callee wrote.
use Rattle.std.specs.Prelude.{Ok}
use mathlib.Core.Path.{◌∙◌, ap, subst⁻¹}
use mathlib.Core.List.{List}
use Prim.Native.Nat.{ℕ, ◌<◌}
use native.Mathlib.Omega.{arith}
use lib.IntN.{ℤ}
use mir.Syntax.{w32}
use mir.Val.{SFits}
use Rattle.std.proofs.lemmas.Int.{ints, to_z-of_z}
use Rattle.station_rules.specs.Rows.{limits_of}
use Rattle.station_rules.specs.Lines.{verdict_of, change_of}
use Rattle.station_rules.specs.Held.{line_values, phase_said}
use Rattle.station_rules.specs.Places.{line_places, station_in}
use Rattle.station_rules.specs.InPlace.{sheet_line, with_day, with_line}
use Rattle.station_rules.specs.declared.Set.{Set}
use Rattle.station_rules.proofs.RowFacts.{row_facts}
use Rattle.station_rules.proofs.InPlace.{all_places}
use Rattle.line.specs.Ranges.{LineFits}
use Rattle.station_soundness.proofs.FitsLaws.{line_fits}
use Rattle.station.specs.Accepted.{Acceptable, accepted_in}
use borrow.Author.Rules.{rules}
use Rattle.station.proofs.accept.Goals as goal

-- the line is one of three
three : (w : List ℤ) (day line : ℕ) (set : Set) → Acceptable w day line set → line < 3
three w day line set h = let here = h.here in let most = (row_facts (station_in w).row).three_lines in omega arith

pub line_of-requires : goal.line_of-requires
line_of-requires c = let line = three _ _ _ _ c.requires in (all_places c.args.state.now c.requires.right, omega arith)

pub row_of-requires : goal.row_of-requires
row_of-requires c = all_places c.args.state.now c.requires.right

pub invariant_of-l : goal.invariant_of-l
invariant_of-l c =
    record { fits = subst⁻¹ LineFits c.line_of.ensures (line_fits (station_in c.args.state.now) c.args.line c.requires.right c.requires.here) }

pub verdict_on-v-requires : goal.verdict_on-v-requires
verdict_on-v-requires c = c.requires.fits

pub invariant_of-p : goal.invariant_of-p
invariant_of-p c =
    let today = c.requires.today in
    let range = c.requires.fits in
    record { fits = record { day = omega arith; sum = record { over = omega (arith, ints); under = omega (arith, ints) }; count = omega arith } }

pub enter_sheet-requires-clause-state_len : goal.enter_sheet-requires-clause-state_len
enter_sheet-requires-clause-state_len c = let line = three _ _ _ _ c.requires in (all_places c.args.state.now c.requires.right, omega arith)

pub enter_sheet-requires-clause-within : goal.enter_sheet-requires-clause-within
enter_sheet-requires-clause-within c =
    ((line_fits (station_in c.args.state.now) c.args.line c.requires.right c.requires.here).small, c.verdict_on-v.ensures.1)

pub put_day-requires : goal.put_day-requires
put_day-requires c = (c.enter_sheet.auto.state ∙ all_places c.args.state.now c.requires.right, c.requires.today)

pub returns : goal.returns
unfolding accepted_in
returns c =
    let s = c.args in
    let w = s.state.now in
    let limits_are = c.limits_of-limits.ensures ∙ ap (λ (row : ℕ). limits_of row s.line) c.row_of.ensures in
    let e = c.verdict_on-v.ensures.0 ∙ (λ i. verdict_of (limits_are i) (line_values (c.line_of.ensures i)) s.day s.set) in
    let f : SFits w32 s.set.sum = search rules in
    let g : SFits w32 c.change_of.result = search rules in
    let sum = to_z-of_z w32 s.set.sum f in
    λ i. record {
      answer = Ok (record {
        sum = sum i;
        count = s.set.count;
        phase = (c.phase_said.ensures ∙ ap phase_said e) i;
        change = (to_z-of_z w32 c.change_of.result g ∙ c.change_of.ensures ∙ ap change_of e) i;
      });
      places = (c.put_day.ensures
          ∙ ap (λ (x : List ℤ). with_day x s.day)
          (c.enter_sheet.ensures ∙ (λ j. with_line w s.line (sheet_line (line_places w s.line) (record { day = s.day; sum = sum j; count = s.set.count }) (e j))))) i;
    }
