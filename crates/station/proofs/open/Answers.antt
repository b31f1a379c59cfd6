-- `station::open` meets its contract.
use Rattle.std.specs.Prelude.{Ok, Err, List, [], ℤ, ◌++◌, drop, length}
use Rattle.std.proofs.Common.{◌≡◌, ◌<◌, sym, ◌∙◌, refl, ap, pos, arith, replicate, to_z, w32}
use lib.ListN.{set}
use borrow.Rule.Slice.PartMut.{put_mid, post_of}
use Rattle.std.proofs.lemmas.Int.{to_z_pos}
use Rattle.std.proofs.lemmas.List.{drop_all, drop-drop}
use Rattle.std.proofs.lemmas.Bool.{ltb-true}
use Rattle.station_refusals.specs.declared.Refusal.TheVariants.{UnknownRow}
use Rattle.station.proofs.CallLaws.{open_none, open_some}
use Rattle.station.proofs.open.Goals as goal

-- both halves written, whatever stood there
halves : (old first second : List ℤ) → length old ≡ 68 → first ≡ replicate 34 (pos 0) → second ≡ replicate 34 (pos 0)
    → put_mid 34 34 (first ++ post_of 0 34 old) second ≡ replicate 68 (pos 0)
halves old first second long e f =
    let behind : drop 34 (drop 34 old) ≡ [] = drop-drop 34 34 old ∙ drop_all 68 old (omega (arith, long)) in
    ap (λ (l : List ℤ). put_mid 34 34 (l ++ post_of 0 34 old) second) e
    ∙ ap (put_mid 34 34 (replicate 34 (pos 0) ++ post_of 0 34 old)) f
    ∙ ap (λ (l : List ℤ). replicate 34 (pos 0) ++ (replicate 34 (pos 0) ++ l)) behind

pub returns-then-not-row_exists : goal.returns-then-not-row_exists
returns-then-not-row_exists c =
    let z = halves c.args.state.now _ _ (search arith) c.put_zeros.ensures c.put_zeros-2.ensures in
    (λ j. record { answer = Err UnknownRow; places = z j }) ∙ open_none c.args.row (sym c.row_exists.ensures ∙ c.if-not-row_exists.true)

pub returns : goal.returns
returns c =
    let exists = sym c.row_exists.ensures ∙ c.if-not-row_exists.false in
    let two : c.args.row < 2 = ltb-true c.args.row 2 exists in
    let is : to_z w32 c.args.row ≡ pos c.args.row = to_z_pos w32 c.args.row (omega arith) in
    let z = halves c.args.state.now _ _ (search arith) c.put_zeros.ensures c.put_zeros-2.ensures in
    (λ j. record { answer = Ok tt; places = set (z j) 0 (is j) }) ∙ open_some c.args.row exists
