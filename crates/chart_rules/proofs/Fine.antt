-- What a call that is not refused knows.
use mathlib.Core.Path.{◌≡◌, refl}
use mathlib.Core.Bool.{Bool, true, false, cond}
use mathlib.Core.List.{List}
use Prim.Native.Nat.{ℕ, ◌≤◌}
use lib.IntN.{ℤ}
use lib.ListN.{length}
use borrow.Author.Tests.{ltb-false, not-false}
use Rattle.std.specs.Prelude.{Result, Ok, Err}
use Rattle.chart_rules.specs.Refusals.{bad_week, bad_size, bad_result, refusal_of}
use Rattle.chart_rules.specs.Charts.{sound}
use Rattle.chart_rules.specs.declared.Chart.{Chart}

-- the first of some checks doesn't apply, nor any behind it
pub fine_head : {R : Type 0} (b : Bool) (r : R) (rest : Result (Unit {0}) R) → cond b (Err r) rest ≡ Ok tt → (b ≡ false) × (rest ≡ Ok tt)
fine_head true r rest e = absurd cc
fine_head false r rest e = (refl, e)

pub record FineCall (c : Chart) (week : ℕ) (numbers : List ℤ) (room : ℕ) : Type 0 where
  pub whole : sound c ≡ true
  pub time : bad_week c.week week ≡ false
  pub size : bad_size (length numbers) ≡ false
  pub results : bad_result numbers ≡ false
  pub place : 40 ≤ room

pub fine_call : (c : Chart) (week : ℕ) (numbers : List ℤ) (room : ℕ) → refusal_of c week numbers room ≡ Ok tt → FineCall c week numbers room
unfolding refusal_of
fine_call c week numbers room e =
    let a = fine_head _ _ _ e in
    let b = fine_head _ _ _ a.1 in
    let d = fine_head _ _ _ b.1 in
    let f = fine_head _ _ _ d.1 in
    let g = fine_head _ _ _ f.1 in
    record { whole = not-false _ a.0; time = b.0; size = d.0; results = f.0; place = ltb-false room 40 g.0 }
