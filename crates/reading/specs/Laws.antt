-- docs/SPECIFICATION.md, "Analyser readings" and number 9: what is promised of every float's reading. The theorem is `reading_laws` of proofs/Laws.antt.
use Rattle.std.specs.Prelude.{◌≡◌, Bool, true, cond, ℕ, ◌+◌, ◌*◌, ◌≤◌, ◌<◌, ℤ, T, Float}
use Rattle.std.specs.Float.{fin, binary32}
use Rattle.std.specs.Float.Ieee.{up, down, fits}
use Rattle.std.specs.Float.Ieee.Scale.{finite}
use Rattle.reading.specs.Reading.{unit, units_of, in_range, reading_of, answer_of, hundredths, refused_by, said_by}

pub record ReadingLaws (x : Float) : Type 0 where
  -- the answer says the reading, or number 9
  pub said : said_by (answer_of x) ≡ cond (in_range x) (hundredths (reading_of x)) (refused_by 9)
  -- the units are exact for every f32: units / unit is m * up e / down e, with nothing left over
  pub exact : (s : Bool) (m : ℕ) (e : ℤ) → x ≡ fin s m e → T (fits binary32 x) → units_of x * down e ≡ m * up e * unit
  -- reading / 100 lies at most 1/200 above units / unit, and less than 1/200 below: an exact half goes up
  pub not_above : 2 * unit * reading_of x ≤ 200 * units_of x + unit
  pub below : 200 * units_of x < 2 * unit * reading_of x + unit
  -- no other whole number does
  pub only : (r : ℕ) → 2 * unit * r ≤ 200 * units_of x + unit → 200 * units_of x < 2 * unit * r + unit → r ≡ reading_of x
  -- a float in range is a number, is not negative unless it is minus zero, and is at most 100
  pub number : T (in_range x) → T (finite x)
  pub sign : (s : Bool) (m : ℕ) (e : ℤ) → x ≡ fin s m e → T (in_range x) → s ≡ true → m ≡ 0
  pub up_to : T (in_range x) → units_of x ≤ 100 * unit
  -- and every such f32 is in range
  pub accepted : (s : Bool) (m : ℕ) (e : ℤ) → x ≡ fin s m e → T (fits binary32 x) → (s ≡ true → m ≡ 0) → units_of x ≤ 100 * unit → T (in_range x)
  -- its reading is at most 100.00
  pub most : T (in_range x) → reading_of x ≤ 10000
