-- `text_print::print_text` meets its contract.
use mathlib.Core.Path.{refl}
use native.Mathlib.Omega.{arith}
use Rattle.decimal.proofs.Put.{put_whole}
use Rattle.chart_rules.proofs.Printing.{printed_written, written_room, printed_refused}
use Rattle.text_print.proofs.Refusing.{refused_by}
use Rattle.text_print.proofs.print_text.Goals as goal

pub returns-in-Ok : goal.returns-in-Ok
returns-in-Ok c =
    let room = c.if-out-lt-LINE_ROOM.false in
    record {
      printed = printed_written _ _ _ room _ c.in-Ok.ensures _ refl;
      refused = refused_by _ _ _ room _ c.in-Ok.ensures _ refl;
      fits = written_room _ _ _ room _ c.in-Ok.ensures _ refl;
    }

pub returns-in-Err : goal.returns-in-Err
returns-in-Err c =
    let room = c.if-out-lt-LINE_ROOM.false in
    let put = c.put_refusal.ensures in
    let whole = put_whole put.0 (omega (arith, put.0.behind, put.1, c.chart_text.auto.out, room)) in
    record {
      printed = printed_refused _ _ _ room _ c.in-Err.ensures _ refl _ _ _ c.from-number.ensures whole.1 whole.0;
      refused = refused_by _ _ _ room _ c.in-Err.ensures _ refl;
      fits = omega (arith, put.1, room);
    }
