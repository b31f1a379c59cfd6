-- `reading::reading` meets its contract: `proofs/Pattern.antt` says what the comparisons and the masks give.
use mathlib.Core.Path.{sym, subst, ◌∙◌}
use native.Mathlib.Omega.{arith}
use lib.Dec.{T}
use lib.Ieee.{binary32, fits, to_bits}
use lib.Ieee.Bits.{to_bits-lt}
use Rattle.reading.specs.Reading.{in_range}
use Rattle.reading.proofs.Pattern.{refused_nan, refused_below, refused_above, refused_bits, in_range_lem, no_nan, fraction_lt, exponent_le, normal, subnormal, answer}
use Rattle.reading.proofs.reading.Goals as goal

pub returns-then-x : goal.returns-then-x
returns-then-x c = refused_nan c.args.x c.if-x.true

pub returns-then-x-2 : goal.returns-then-x-2
returns-then-x-2 c = refused_below c.args.x c.if-x-2.true

pub returns-then-x-3 : goal.returns-then-x-3
returns-then-x-3 c = refused_above c.args.x c.if-x-3.true

-- what owning an `f32` tells, that the format holds it; and its range, after the three comparisons
pub float_to_bits-bits : goal.float_to_bits-bits
float_to_bits-bits c =
    let held : T (fits binary32 c.args.x) = subst T (sym c.well_formed.0.1) tt in
    no_nan c.args.x held (in_range_lem c.args.x c.if-x.false c.if-x-2.false c.if-x-3.false)

pub returns-then-bits-gt-MINUS_ZERO : goal.returns-then-bits-gt-MINUS_ZERO
returns-then-bits-gt-MINUS_ZERO c =
    let held : T (fits binary32 c.args.x) = subst T (sym c.well_formed.0.1) tt in
    refused_bits c.args.x held c.if-bits-gt-MINUS_ZERO.true

pub overflow_cast-bits : goal.overflow_cast-bits
overflow_cast-bits c =
    let held : T (fits binary32 c.args.x) = subst T (sym c.well_formed.0.1) tt in
    omega (arith, to_bits-lt binary32 c.args.x held)

pub overflow_sub-exponent : goal.overflow_sub-exponent
overflow_sub-exponent c =
    let held : T (fits binary32 c.args.x) = subst T (sym c.well_formed.0.1) tt in
    let ranged : T (in_range c.args.x) = in_range_lem c.args.x c.if-x.false c.if-x-2.false c.if-x-3.false in
    omega (arith, exponent_le c.args.x held ranged c.if-exponent-eq0.false)

pub rounded-requires-else-exponent-eq0 : goal.rounded-requires-else-exponent-eq0
rounded-requires-else-exponent-eq0 c =
    let held : T (fits binary32 c.args.x) = subst T (sym c.well_formed.0.1) tt in
    let ranged : T (in_range c.args.x) = in_range_lem c.args.x c.if-x.false c.if-x-2.false c.if-x-3.false in
    omega (arith, fraction_lt (to_bits binary32 c.args.x), exponent_le c.args.x held ranged c.if-exponent-eq0.false)

pub returns-then-exponent-eq0 : goal.returns-then-exponent-eq0
returns-then-exponent-eq0 c =
    let held : T (fits binary32 c.args.x) = subst T (sym c.well_formed.0.1) tt in
    let ranged : T (in_range c.args.x) = in_range_lem c.args.x c.if-x.false c.if-x-2.false c.if-x-3.false in
    answer c.args.x held ranged c.rounded.result (subnormal c.args.x held ranged c.if-exponent-eq0.true ∙ sym c.rounded.ensures)

pub returns-else-exponent-eq0 : goal.returns-else-exponent-eq0
returns-else-exponent-eq0 c =
    let held : T (fits binary32 c.args.x) = subst T (sym c.well_formed.0.1) tt in
    let ranged : T (in_range c.args.x) = in_range_lem c.args.x c.if-x.false c.if-x-2.false c.if-x-3.false in
    answer c.args.x held ranged c.rounded-else-exponent-eq0.result (normal c.args.x held ranged c.if-exponent-eq0.false ∙ sym c.rounded-else-exponent-eq0.ensures)
