-- docs/SPECIFICATION.md, "Control charts": the sets of a text, gathered from its lines.
use Rattle.std.specs.Prelude.{ℕ, cond, List, [], ◌∷◌, ◌++◌, ℤ, length, eqb, Option, Some, None}
use Rattle.chart_rules.specs.Judging.{pair}
use Rattle.chart_rules.specs.declared.ValueLine.{ValueLine}

-- a set of a text: its week and its results, original and monitor in turn
pub record Gathered : Type 0 where
  pub week : ℕ
  pub numbers : List ℤ

-- no set under way
abbrev pub none : Gathered
none = record { week = 0; numbers = [] }

-- a line's pair added
abbrev pub joined : Gathered → ValueLine → Gathered
joined s v = record { week = v.week; numbers = s.numbers ++ pair v }

-- a set under way is a set if it has any result
unfoldable pub finished : Gathered → List Gathered
finished s = cond (eqb (length s.numbers) 0) [] (s ∷ [])

-- a line with sample 1 ends the set under way and begins the next; any other goes on with it
unfoldable pub closed : Gathered → ValueLine → List Gathered
closed s v = cond (eqb v.sample 1) (finished s) []

-- what is under way when the line comes: nothing before a sample 1, else the set so far
unfoldable pub kept : Gathered → ValueLine → Gathered
kept s v = cond (eqb v.sample 1) none s

-- the sets of some lines, after a set under way
unfoldable pub sets_of : Gathered → List (Option ValueLine) → List Gathered
sets_of s [] = finished s
sets_of s (None ∷ ls) = finished s
sets_of s (Some v ∷ ls) = closed s v ++ sets_of (joined (kept s v) v) ls
