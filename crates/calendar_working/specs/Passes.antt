-- What one holiday more does to the day found so far.
use Rattle.std.specs.Prelude.{ℕ, ◌+◌, ◌%◌, ◌≡◌, true, ◌&&◌, cond, eqb, leb, ltb}
use Rattle.calendar_rules.specs.Working.{monday_to_friday}
use Rattle.calendar_rules.specs.Laws.{up_to}

-- the day is of Monday to Friday, and up to it there are so many from day 1 on
pub record HasUpTo (count day : ℕ) : Type 0 where
  pub counts : up_to monday_to_friday day ≡ count
  pub itself : monday_to_friday day ≡ true

-- three days after a Friday, and the day after any other day
unfoldable pub next_of : ℕ → ℕ
next_of day = cond (eqb ((day + 5) % 7) 4) (day + 3) (day + 1)

-- a holiday of Monday to Friday that was counted on the way from the day to the one found: the next is found instead
unfoldable pub passed_of : ℕ → ℕ → ℕ → ℕ
passed_of day holiday found = cond (ltb day holiday && leb holiday found && monday_to_friday holiday) (next_of found) found
