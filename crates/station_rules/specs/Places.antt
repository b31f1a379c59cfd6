-- A station in the 68 places (int32_t) of its caller: row, day, then three lines of 22 places each: intercept, phase, how many newest sets are held and
-- these two, how many non-zero sets are held and these four, newest first, three places each: day, S, N. Reading is total: whatever stands there is a station,
-- sound or not.
use Rattle.std.specs.Prelude.{ℕ, ◌+◌, ◌*◌, cond, List, [], ◌∷◌, eqb, ℤ, length, take, drop}
use Rattle.whole.specs.Places.{place, natural}
use Rattle.station_rules.specs.Held.{Station}
use Rattle.station_rules.specs.declared.PastSet.{PastSet}
use Rattle.station_rules.specs.declared.Line.{Line}

-- the past set whose three places begin there
abbrev pub set_at : List ℤ → ℕ → PastSet
set_at words i = record { day = natural (place words i); sum = place words (i + 1); count = natural (place words (i + 2)) }

-- the line in 22 places
unfoldable pub line_in : List ℤ → Line
line_in words =
    record {
      intercept = place words 0;
      phase = natural (place words 1);
      newest_held = natural (place words 2);
      newest = set_at words 3 ∷ set_at words 6 ∷ [];
      nonzero_held = natural (place words 9);
      nonzero = set_at words 10 ∷ set_at words 13 ∷ set_at words 16 ∷ set_at words 19 ∷ [];
    }

-- where a line's places begin
abbrev pub line_start : ℕ → ℕ
line_start line = 2 + 22 * line

-- a line's 22 places
abbrev pub line_places : List ℤ → ℕ → List ℤ
line_places words line = take 22 (drop (line_start line) words)

-- the row; places that aren't 68 have one that there isn't, so that they are no sound station (number 0)
unfoldable pub row_in : List ℤ → ℕ
row_in words = cond (eqb (length words) 68) (natural (place words 0)) 4294967295

-- the station in its places
unfoldable pub station_in : List ℤ → Station
station_in words =
    record {
      row = row_in words;
      day = natural (place words 1);
      lines = line_in (line_places words 0) ∷ line_in (line_places words 1) ∷ line_in (line_places words 2) ∷ [];
    }
