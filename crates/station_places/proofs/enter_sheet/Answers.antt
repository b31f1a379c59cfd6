use mathlib.Core.Path.{subst⁻¹}
use Prim.Native.Nat.{ℕ}
use lib.IntN.{ℤ}
use lib.ListN.{take, drop}
use Rattle.whole.specs.Bounds.{Within}
use Rattle.whole.specs.Places.{place}
use Rattle.station_rules.specs.Lines.{change_of}
use Rattle.station_rules.specs.Places.{line_start}
use Rattle.station_places.proofs.LentLines.{line_long, same_intercept}
use Rattle.station_places.proofs.enter_sheet.Goals as goal

pub enter_sheet-requires-clause-within : goal.enter_sheet-requires-clause-within
enter_sheet-requires-clause-within c =
    let w = c.args.state.now in
    let line = c.args.line in
    subst⁻¹ (λ (k : ℕ). (Within 1000 1000 (place (take k (drop (line_start line) w)) 0)) × (Within 2000000 2000000 (change_of c.args.v))) (line_long (line_start line))
    (subst⁻¹ (λ (z : ℤ). Within 1000 1000 z) (same_intercept w line c.requires.state_len.1) c.requires.within.0, c.requires.within.1)
