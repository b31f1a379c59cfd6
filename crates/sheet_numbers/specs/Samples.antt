-- For the proofs of the code, no rule: a sample taken from its part of the sheet, and the ranges in which nothing wraps (docs/SPECIFICATION.md, "The reference sheet").
use Rattle.std.specs.Prelude.{Bool, not, ◌&&◌, ◌||◌, List, ℤ, pos, get_or}
use Rattle.whole.specs.Bounds.{Within}
use Rattle.station_rules.specs.Sheets.{is_result, absent}
use Rattle.station_rules.specs.declared.Sample.{Sample}

-- the sample of a list's first six numbers
abbrev pub sample_from : List ℤ → Sample
sample_from l =
    record {
      baseline = get_or l 0 (pos 0);
      first = get_or l 1 (pos 0);
      second = get_or l 2 (pos 0);
      third = get_or l 3 (pos 0);
      again_first = get_or l 4 (pos 0);
      again_second = get_or l 5 (pos 0);
    }

-- a number of 0..10000, or −1
abbrev pub allowed : ℤ → Bool
allowed z = is_result z || absent z

-- no number lies outside 0..10000, but −1 where allowed
abbrev pub in_ranges : Sample → Bool
in_ranges s =
    is_result s.baseline && is_result s.first && is_result s.second
    && allowed s.third && allowed s.again_first && allowed s.again_second

-- its again pair is measured
abbrev pub has_again : Sample → Bool
has_again s = not (absent s.again_first)

-- what number 5 leaves of a sample: each number is −1 or one of 0..10000
pub record Measured (s : Sample) : Type 0 where
  pub baseline : Within 1 10000 s.baseline
  pub first : Within 1 10000 s.first
  pub second : Within 1 10000 s.second
  pub third : Within 1 10000 s.third
  pub again_first : Within 1 10000 s.again_first
  pub again_second : Within 1 10000 s.again_second
