-- The closest of a sample's pairs is as small as its results.
use Rattle.whole.specs.Bounds.{Within}
use Rattle.station_rules.specs.Sheets.{Pair, pair, closer, closest_pair}
use Rattle.station_rules.specs.declared.Sample.{Sample}
use Rattle.station_rules.proofs.SheetBounds.{closer_keeps}
use Rattle.sheet_numbers.specs.Samples.{Measured}

abbrev pub In : Pair → Type 0
In p = Within 1 10000 p.one × Within 1 10000 p.other

pub closest_in : (s : Sample) → Measured s → In (closest_pair s)
unfolding closest_pair
closest_in s m =
    closer_keeps In (closer (pair s.first s.second) (pair s.first s.third)) (pair s.second s.third)
    (closer_keeps In (pair s.first s.second) (pair s.first s.third) (m.first, m.second) (m.first, m.third)) (m.second, m.third)
