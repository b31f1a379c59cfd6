-- For the proofs of the code, no rule: what the pass over a sheet's samples finds (docs/SPECIFICATION.md, "The reference sheet").
use Rattle.std.specs.Prelude.{Result, Ok, Err, Bool, ◌&&◌, ◌||◌, cond, List, map, ℕ, ◌*◌, ℤ, pos, ◌+ℤ◌, ◌-ℤ◌}
use Rattle.std.specs.Int.Signed.{lt_z}
use Rattle.whole.specs.Bounds.{Within}
use Rattle.whole.specs.Lists.{any, total, larger_of, smaller_of, largest, smallest}
use Rattle.station_rules.specs.Sheets.{wrong_number, wrong_third, deviates, first_deviation}
use Rattle.station_rules.specs.declared.Sample.{Sample}
use Rattle.station_rules.specs.declared.Limits.{Limits}
use Rattle.station_refusals.specs.declared.Refusal.{Refusal}
use Rattle.station_refusals.specs.declared.Refusal.TheVariants.{SheetNumber}
use Rattle.sheet_numbers.specs.Samples.{has_again}
use Rattle.sheet_pass.specs.declared.Span.{Span}
use Rattle.sheet_pass.specs.declared.Found.{Found}

-- how far the sum and the deviations of n samples lie from 0
pub record Bounded (n : ℕ) (t : Found) : Type 0 where
  pub sum : Within (25000 * n) (25000 * n) t.sum
  pub high : Within 25000 25000 t.span.high
  pub low : Within 25000 25000 t.span.low

module _ (limits : Limits) where
  -- a span with one deviation more
  abbrev pub widened : Span → ℤ → Span
  widened s d =
      record { deviating = s.deviating || deviates limits d; high = larger_of s.high d; low = smaller_of s.low d }

  -- rule 3, by the span of all deviations
  abbrev pub round_of : Span → Bool
  round_of s = s.deviating && lt_z (pos (2 * limits.range)) (s.high -ℤ s.low)

module _ (limits : Limits) (intercept : ℤ) where
  -- one sample more, none of its numbers wrong
  unfoldable pub more : Found → Sample → Found
  more t s =
      let d = first_deviation limits intercept s in
      record { third = t.third || wrong_third limits s; again = t.again || has_again s; span = widened limits t.span d; sum = t.sum +ℤ d }

  -- one sample more
  unfoldable pub joined : Found → Sample → Result Found Refusal
  joined t s = cond (wrong_number s) (Err SheetNumber) (Ok (more t s))

  -- of all samples, none of their numbers wrong: whether 6 applies, whether an again pair is there, the span and the sum of the deviations
  abbrev pub all_of : List Sample → Found
  all_of ss =
      let ds = map (first_deviation limits intercept) ss in
      record {
        third = any (wrong_third limits) ss;
        again = any has_again ss;
        span = record { deviating = any (deviates limits) ds; high = largest ds; low = smallest ds };
        sum = total ds;
      }

  -- of a sheet's samples: number 5, else that
  unfoldable pub found_of : List Sample → Result Found Refusal
  found_of ss = cond (any wrong_number ss) (Err SheetNumber) (Ok (all_of ss))
