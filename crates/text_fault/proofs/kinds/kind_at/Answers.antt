use mathlib.Core.Path.{sym, ◌∙◌}
use Rattle.text_fault.specs.Kinds.{kind_at}
use Rattle.text_fault.proofs.AtFault.{rest_is, kind_inside}
use Rattle.text_fault.proofs.kinds.kind_at.Goals as goal

pub returns : goal.returns
unfolding kind_at
returns c =
    let line = c.args.line.now in
    c.byte_kind.ensures
    ∙ rw (c.begins_zero.ensures, c.all_stand-all.ensures, rest_is line c.args.at, rest_is line c.args.start) (sym (kind_inside line c.args.at _ c.if-line-at.false))
