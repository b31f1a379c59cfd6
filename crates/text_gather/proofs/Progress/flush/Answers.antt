-- `text_gather::Progress::flush` meets its contract.
use mathlib.Core.Path.{refl, sym, ap}
use Prim.Native.Nat.{ℕ, ◌+◌}
use native.Mathlib.Omega.{arith}
use lib.ListN.{length}
use borrow.Author.Rules.{rules}
use Rattle.decimal.proofs.Put.{put_is, put_none}
use Rattle.chart_rules.specs.Places.{chart_at}
use Rattle.chart_rules.specs.Calls.{bytes_of}
use Rattle.chart_rules.specs.Output.{chart_all, chart_after}
use Rattle.std.specs.Prelude.{Result}
use Rattle.chart_rules.specs.declared.Refusal.{Refusal}
use Rattle.chart_rules.specs.declared.Charted.{Charted}
use Rattle.text_gather.proofs.Seen.{seen_none}
use Rattle.text_gather.proofs.UnderWay.{flush_length, flush_end, flush_done}
use Rattle.text_gather.proofs.Progress.flush.Goals as goal

pub returns-then-set-eq0 : goal.returns-then-set-eq0
unfolding chart_all chart_after
returns-then-set-eq0 c =
    let p = c.args.self.now in
    let e = seen_none p.set c.if-set-eq0.true in (
      record { after = sym (ap (chart_after (chart_at p.chart)) e); set = c.none-self.ensures },
      put_is (put_none _ _) (sym (ap (chart_all (chart_at p.chart)) e)),
    )

pub overflow_add-self : goal.overflow_add-self
overflow_add-self c =
    let p = c.args.self.now in
    let value = c.in-Ok.ensures.value in
    let length = flush_length p c.if-set-eq0.false (search rules) c.requires c.held.ensures value _ refl in
    omega (arith, length, flush_end p c.if-set-eq0.false (search rules) c.requires c.held.ensures value)

pub returns-in-Ok : goal.returns-in-Ok
returns-in-Ok c =
    let p = c.args.self.now in
    let e = c.in-Ok.ensures in
    let length = flush_length p c.if-set-eq0.false (search rules) c.requires c.held.ensures e.value _ refl in
    flush_done p c.if-set-eq0.false (search rules) c.requires c.held.ensures e.value _ _ _ e.state_after c.none-self.ensures (ap (λ (n : ℕ). p.end + n) length) e.put

pub returns-in_default : goal.returns-in_default
unfolding bytes_of
returns-in_default c =
    let p = c.args.self.now in
    let e = c.chart_set_at-answer.ensures in
    let none = ap (λ (a : Result Charted Refusal). length (bytes_of a)) c.in_default.is in
    flush_done p c.if-set-eq0.false (search rules) c.requires c.held.ensures e.value _ _ _ e.state_after c.none-self.ensures (omega (arith, none)) e.put
