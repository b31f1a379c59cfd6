-- For the proofs of the code, no rule: what the records so far come to, with one more, and what that states (docs/SPECIFICATION.md, "Ship lots").
use Rattle.std.specs.Prelude.{◌+◌, min, max, false, not, ◌||◌, cond, ℤ, nat_abs, Result, Ok, Err}
use Rattle.std.specs.Ordering.{int_eq}
use Rattle.whole.specs.Rounding.{nearest_tenth}
use Rattle.lot_rules.specs.Lots.{bad_sublot}
use Rattle.lot_rules.specs.Laws.{tonnes_in, weight_of}
use Rattle.lot_rules.specs.declared.Sublot.{Sublot}
use Rattle.lot_rules.specs.declared.Statement.{Statement}
use Rattle.lot_rules.specs.declared.Refusal.{Refusal}
use Rattle.lot_rules.specs.declared.Refusal.TheVariants.{BadSublot, UnlikeBasis}
use Rattle.lot.specs.declared.Tally.{Tally}

-- of no record
abbrev pub no_record : ℤ → Tally
no_record basis = record { basis = basis; unlike = false; lowest = 1000; highest = 0; tonnes = 0; weighted_sum = 0 }

-- with one record more, within its bounds
unfoldable pub added : Tally → Sublot → Tally
added t r =
    record {
      basis = t.basis;
      unlike = t.unlike || not (int_eq r.basis t.basis);
      lowest = min t.lowest (nat_abs r.figure);
      highest = max t.highest (nat_abs r.figure);
      tonnes = t.tonnes + tonnes_in r;
      weighted_sum = t.weighted_sum + weight_of r;
    }

-- with one record more
unfoldable pub with_record : Tally → Sublot → Result Tally Refusal
with_record t r = cond (bad_sublot r) (Err BadSublot) (Ok (added t r))

-- the statement of a tally
abbrev pub statement_by : Tally → Statement
statement_by t =
    record {
      basis = t.basis;
      lowest = t.lowest;
      highest = t.highest;
      tonnes = t.tonnes;
      weighted_sum = t.weighted_sum;
      mean = nearest_tenth t.weighted_sum t.tonnes;
    }

-- what is stated, unless bases are unlike
unfoldable pub stated : Tally → Result Statement Refusal
stated t = cond t.unlike (Err UnlikeBasis) (Ok (statement_by t))
