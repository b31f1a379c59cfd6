use mathlib.Core.Path.{◌≡◌}
use mathlib.Core.List.{map}
use lib.ListN.{drop}
use Rattle.station_soundness.specs.Past.{sound_kind}
use Rattle.station_soundness.proofs.SoundLaws.{set_of}
use Rattle.station_soundness.proofs.sound_kind.Given as goal

abbrev pub invariant-loop-set : goal.invariant-loop-set
invariant-loop-set l = sound_kind l.zeros l.n l.last (map set_of (drop l.set-index l.sets)) ≡ sound_kind l.zeros l.n l.day (map set_of l.sets)
