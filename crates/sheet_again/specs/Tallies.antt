-- For the proofs of the code, no rule: number 7, S and N in an again round (docs/SPECIFICATION.md, "The reference sheet", rules 3 and 4).
use Rattle.std.specs.Prelude.{true, ◌||◌, cond, List, map, ◌+◌, ◌*◌, ℤ, ◌+ℤ◌, length}
use Rattle.whole.specs.Lists.{any, total}
use Rattle.station_rules.specs.Lists.{keep}
use Rattle.station_rules.specs.Sheets.{wrong_again, final_deviation, kept}
use Rattle.station_rules.specs.declared.Sample.{Sample}
use Rattle.station_rules.specs.declared.Limits.{Limits}
use Rattle.station_rules.specs.declared.Set.{Set}
use Rattle.sheet_again.specs.declared.Tally.{Tally}

module _ (limits : Limits) (intercept : ℤ) where
  -- a kept sample's deviation joins S, and 2 joins N
  unfoldable pub tallied : Set → Sample → Set
  tallied t s =
      cond (kept limits intercept true s) (record { sum = t.sum +ℤ final_deviation limits intercept true s; count = t.count + 2 }) t

  -- S and N of the samples that are kept
  unfoldable pub totals : List Sample → Set
  totals ss =
      record {
        sum = total (map (final_deviation limits intercept true) (keep (kept limits intercept true) ss));
        count = 2 * length (keep (kept limits intercept true) ss);
      }

  -- one sample more: number 7, and S and N with it
  unfoldable pub added : Tally → Sample → Tally
  added t s = record { wrong = t.wrong || wrong_again limits intercept true s; set = tallied t.set s }

  -- all samples: number 7, and S and N, whether or not 7 applies
  unfoldable pub counted : List Sample → Tally
  counted ss = record { wrong = any (wrong_again limits intercept true) ss; set = totals ss }
