-- For the proofs of the code, no rule: what an iterator over a sheet's samples has left.
use Rattle.std.specs.Prelude.{List}
use Rattle.station_rules.specs.Sheets.{samples_of}
use Rattle.station_rules.specs.declared.Sample.{Sample}
use Rattle.sheet_numbers.specs.declared.SheetSamples.{SheetSamples}

-- the samples that are left
abbrev pub samples_left : SheetSamples → List Sample
samples_left s = samples_of s.numbers.now
