use Rattle.std.proofs.Common.{◌≡◌, sym, ap, ◌∙◌, arith}
use Rattle.std.proofs.lemmas.Int.{ints}
use Rattle.whole.proofs.Read.{rd}
use Rattle.chart_rules.specs.Sets.{pairs_of, plot_of, set_of}
use Rattle.chart_rules.proofs.Bounds.{size_facts}
use Rattle.chart_rules.proofs.Plots.{pairs_length}
use Rattle.chart_sets.proofs.Pairs.{first_good, begun, next, pair_good, sum_fits, after, ended, plotted}
use Rattle.chart_sets.proofs.set_of.Goals as goal

pub overflow_sub-first : goal.overflow_sub-first
overflow_sub-first c = omega (arith, ints, first_good _ c.requires.0 c.requires.1)

pub loop-pair-init : goal.loop-pair-init
loop-pair-init c =
    let same = c.into_iter-pair-iterator.ensures.into_iter_gives in
    let items = c.chunks_exact-pair-items.ensures in
    (ap (λ i. i.size) same ∙ items.size, rw (ap (λ i. i.rest.now) same ∙ items.rest) (begun c.args.numbers.now c.requires.0 c.requires.1))

pub overflow_sub-difference : goal.overflow_sub-difference
overflow_sub-difference c =
    let e = c.in-Some.ensures.steps in
    omega (arith, ints, pair_good (next _ _ c.loop-pair.invariant.1 e.1.0 (e.1.1 ∙ c.loop-pair.invariant.0)))

pub overflow_add-originals : goal.overflow_add-originals
overflow_add-originals c =
    let e = c.in-Some.ensures.steps in
    let t = next _ _ c.loop-pair.invariant.1 e.1.0 (e.1.1 ∙ c.loop-pair.invariant.0) in
    sum_fits t _ _ t.originals.near (pair_good t).original

pub overflow_add-monitors : goal.overflow_add-monitors
overflow_add-monitors c =
    let e = c.in-Some.ensures.steps in
    let t = next _ _ c.loop-pair.invariant.1 e.1.0 (e.1.1 ∙ c.loop-pair.invariant.0) in
    sum_fits t _ _ t.monitors.near (pair_good t).monitor

pub loop-pair-preserved : goal.loop-pair-preserved
loop-pair-preserved c =
    let e = c.in-Some.ensures.steps in
    (e.0 ∙ c.loop-pair.invariant.0, after (next _ _ c.loop-pair.invariant.1 e.1.0 (e.1.1 ∙ c.loop-pair.invariant.0)) _ _ c.max-largest.ensures.value c.min-smallest.ensures.value)

pub overflow_sub-largest : goal.overflow_sub-largest
overflow_sub-largest c = (ended c.loop-pair.invariant.1 (omega (arith, c.in-None.ensures.steps.1, c.loop-pair.invariant.0))).fits

pub plot-requires : goal.plot-requires
plot-requires c =
    let d = ended c.loop-pair.invariant.1 (omega (arith, c.in-None.ensures.steps.1, c.loop-pair.invariant.0)) in
    let n = size_facts _ c.requires.0 in
    (omega (arith, ints, d.originals.1), (omega (arith, ints, d.monitors.1), (omega (arith, n), omega (arith, n))))

pub returns : goal.returns
unfolding set_of
returns c =
    let numbers = c.args.numbers.now in
    let d = ended c.loop-pair.invariant.1 (omega (arith, c.in-None.ensures.steps.1, c.loop-pair.invariant.0)) in
    let totals = plotted d c.cast_unsigned.result c.cast_unsigned-2.result (omega (arith, ints, d.originals.1)) (omega (arith, ints, d.monitors.1)) in
    let plot : rd c.plot.result ≡ plot_of (pairs_of numbers) = omega (arith, ints) ∙ c.plot.ensures ∙ totals in
    let range = c.unsigned_abs.ensures.value ∙ d.range in
    λ i. record { count = sym (pairs_length numbers) i; plot = plot i; range = range i }
