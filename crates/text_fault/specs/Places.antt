-- The value line that a refusal names, in its place.
use Rattle.std.specs.Prelude.{ℕ, zero, suc, ◌-◌, ◌≡◌, ◌≢◌, ◌<◌, ◌≤◌, List, length, drop, true, false, Option, Some, None, Err, is_ok}
use Rattle.chart_rules.specs.TextLines.{LineRead, line_at, names_line}
use Rattle.chart_rules.specs.Judging.{judged, ruling}
use Rattle.chart_rules.specs.declared.RefusedText.{RefusedText}
use Rattle.chart_rules.specs.declared.TextRefusal.TheVariants.{BadLine}
use Rattle.text_fault.specs.Fields.{fields}
use Rattle.text_fault.specs.declared.places.Place.{Place}

-- the line behind one that was read, with its week and its sample
abbrev pub behind_line : LineRead → (Place → Option Place) → Option Place
behind_line (Some (v, next)) go = go (record { at = next; week = v.week; sample = v.sample })
behind_line None go = None

-- the place behind this many value lines more
unfoldable pub passed : ℕ → List ℕ → Place → Option Place
passed zero text place = Some place
passed (suc k) text place = behind_line (line_at text place.at) (passed k text)

-- the first value line, and no line before it
abbrev pub first_place : Place
first_place = record { at = length names_line; week = 0; sample = 0 }

-- the place of a text line, the first value line being line 2
abbrev pub place_of : List ℕ → ℕ → Option Place
place_of text line = passed (line - 2) text first_place

-- why a line is refused in its place: it has a fault, which is number 17; or it is a value line, and its ruling is the
-- refusal, another number
abbrev pub Why : RefusedText → LineRead → Place → Type 0
Why r None place = r.refusal ≡ BadLine
Why r (Some (v, next)) place = (ruling place.week place.sample r.line v ≡ Err r) × (r.refusal ≢ BadLine)

-- a refused value line: its place is found, inside the text, and tells why it is refused
pub record RefusedLine (text : List ℕ) (r : RefusedText) (place : Place) : Type 0 where
  pub placed : place_of text r.line ≡ Some place
  pub inside : place.at < length text
  pub why : Why r (line_at text place.at) place
  -- for number 17 there is a fault to speak of, and for no other number
  pub fault : r.refusal ≡ BadLine → is_ok (fields (drop place.at text)) ≡ false
  pub fine : r.refusal ≢ BadLine → is_ok (fields (drop place.at text)) ≡ true

-- where the rules refuse a text at a value line, that line's place is found
abbrev pub LineFound : Type 0
LineFound =
    (text : List ℕ) (r : RefusedText) → judged text ≡ Err r → 2 ≤ r.line → (place : Place) × RefusedLine text r place
