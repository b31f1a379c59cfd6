-- What a call is answered in the rules' own terms, and the number and values that each case of each answer stands for.
use Rattle.std.specs.Prelude.{Result, Ok, Err, ℕ, ℤ}
use Rattle.station_rules.specs.Refusals.{number_of}
use Rattle.station_rules.specs.Lines.{Phase}
use Rattle.station_rules.specs.Held.{said_word}
use Rattle.station_rules.specs.declared.Outcome.{Outcome}
use Rattle.station_rules.specs.declared.Certificate.{Certificate}
use Rattle.station_refusals.specs.declared.Refusal.{Refusal}

-- the number of a refusal; an opening accepted; S, N, the phase after it and the change of a sheet's outcome; a repair accepted; the newest set's day,
-- the intercept, B, the figure of h and the figure at B of a certificate
pub data Reply : Type 0 where
  refused_by : (number : ℕ) → Reply
  opening : Reply
  outcome : (sum : ℤ) (count : ℕ) (phase : Phase) (change : ℤ) → Reply
  repaired : Reply
  certificate : (day : ℕ) (intercept basis : ℤ) (figure converted : ℕ) → Reply

abbrev pub open_reply : Result Unit Refusal → Reply
open_reply (Ok tt) = opening
open_reply (Err r) = refused_by (number_of r)

abbrev pub sheet_reply : Result Outcome Refusal → Reply
sheet_reply (Ok o) = outcome o.sum o.count (said_word o.phase) o.change
sheet_reply (Err r) = refused_by (number_of r)

abbrev pub repair_reply : Result Unit Refusal → Reply
repair_reply (Ok tt) = repaired
repair_reply (Err r) = refused_by (number_of r)

abbrev pub market_reply : Result Certificate Refusal → Reply
market_reply (Ok c) = certificate c.day c.intercept c.basis c.figure c.converted
market_reply (Err r) = refused_by (number_of r)
