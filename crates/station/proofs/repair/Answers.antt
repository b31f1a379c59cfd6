-- `station::repair` meets its contract: by what numbers 0 and 2 come to, one law of `repair_in`.
use Rattle.std.proofs.Common.{Ok, List, ℤ, arith, ap, ◌∙◌}
use Rattle.std.proofs.lemmas.Result.{err_from_is_err_and}
use Rattle.station_rules.specs.InPlace.{with_day, with_repaired, repair_places}
use Rattle.station_entry.proofs.EntryLaws.{let_through, serves}
use Rattle.station.proofs.CallLaws.{repair_by_lem}
use Rattle.station.proofs.repair.Goals as goal

pub returns-in_err-judge_day : goal.returns-in_err-judge_day
returns-in_err-judge_day c =
    let p = err_from_is_err_and c.from_residual.result c.from_residual.ensures.1 in
    rw (p.1, p.2) (repair_by_lem c.args.state.now c.args.day _ c.in_err-judge_day.ensures)

pub repair_line-requires : goal.repair_line-requires
repair_line-requires c = ((serves _ c.args.day (let_through tt _ c.in_ok-judge_day.ensures).0).full, omega arith)

pub repair_line-requires-2 : goal.repair_line-requires-2
repair_line-requires-2 c =
    let known = serves _ c.args.day (let_through tt _ c.in_ok-judge_day.ensures).0 in
    (c.repair_line.auto.state ∙ known.full, omega arith)

pub repair_line-requires-3 : goal.repair_line-requires-3
repair_line-requires-3 c =
    let known = serves _ c.args.day (let_through tt _ c.in_ok-judge_day.ensures).0 in
    (c.repair_line-2.auto.state ∙ c.repair_line.auto.state ∙ known.full, omega arith)

pub put_day-requires : goal.put_day-requires
put_day-requires c =
    let known = serves _ c.args.day (let_through tt _ c.in_ok-judge_day.ensures).0 in
    (c.repair_line-3.auto.state ∙ c.repair_line-2.auto.state ∙ c.repair_line.auto.state ∙ known.full, known.today)

pub returns : goal.returns
unfolding repair_places
returns c =
    let w = c.args.state.now in
    let two = c.repair_line-2.ensures ∙ ap (λ (words : List ℤ). with_repaired words 1) c.repair_line.ensures in
    let all = c.repair_line-3.ensures ∙ ap (λ (words : List ℤ). with_repaired words 2) two in
    let done = c.put_day.ensures ∙ ap (λ (words : List ℤ). with_day words c.args.day) all in
    (λ i. record { answer = Ok tt; places = done i })
    ∙ repair_by_lem w c.args.day (Ok tt) c.in_ok-judge_day.ensures
