-- What the working-day call answers of the day found in the end.
use Rattle.std.specs.Prelude.{ℕ, cond, ltb, Result, Ok, Err}
use Rattle.calendar_rules.specs.declared.Refusal.{Refusal}
use Rattle.calendar_rules.specs.declared.Refusal.TheVariants.{NoSuchDay}

-- a day found past 99999 is none
unfoldable pub within_last : ℕ → Result ℕ Refusal
within_last found = cond (ltb 99999 found) (Err NoSuchDay) (Ok found)
