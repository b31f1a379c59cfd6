use mathlib.Core.Path.{◌∙◌, ap}
use Prim.Native.Nat.{ℕ}
use lib.ListN.{take, drop}
use Rattle.station_rules.specs.Places.{line_in, line_start}
use Rattle.station_rules.proofs.InPlace.{line_there}
use Rattle.station_places.proofs.LentLines.{line_long}
use Rattle.station_places.proofs.line_of.Goals as goal

pub returns : goal.returns
returns c =
    let w = c.args.state.now in
    let line = c.args.line in
    c.line_in.ensures ∙ ap (λ (k : ℕ). line_in (take k (drop (line_start line) w))) (line_long (line_start line)) ∙ line_there w line c.requires.1
