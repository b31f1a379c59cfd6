use Rattle.std.proofs.Common.{rules, ◌≡◌, sym, ◌∙◌, ℕ, ◌≤◌, map, get_or, ℤ, w32, arith}
use Rattle.std.specs.Prelude.{nat_abs}
use Rattle.std.proofs.lemmas.Int.{ints, to_z-of_z}
use Rattle.whole.specs.Lists.{total}
use Rattle.whole.proofs.Spelled.{elements, spelled}
use Rattle.chart_rules.specs.declared.ChartSet.{ChartSet}
use Rattle.chart_rules.specs.Sets.{blank_set}
use Rattle.chart_rules.specs.Run.{run_by}
use Rattle.chart_run.proofs.run_by.Goals as goal

-- a plot has 32 bits
pub overflow_add-sum-3 : goal.overflow_add-sum-3
overflow_add-sum-3 c =
    let s : nat_abs c.from.result ≤ 2147483648 = omega (arith, ints) in
    let p : nat_abs c.from-2.result ≤ 2147483648 = omega (arith, ints) in
    let q : nat_abs c.from-3.result ≤ 2147483648 = omega (arith, ints) in
    omega (arith, ints)

-- the four sets spelled out, the sum of their plots is the code's
pub returns-then-one_side : goal.returns-then-one_side
unfolding run_by elements
returns-then-one_side c =
    let four = c.args.four.now in
    let plot : ℕ → ℤ = λ i. (get_or four i blank_set).plot in
    let s : c.from.result ≡ plot 0 = c.from.ensures ∙ to_z-of_z w32 (plot 0) (search rules) in
    let p : c.from-2.result ≡ plot 1 = c.from-2.ensures ∙ to_z-of_z w32 (plot 1) (search rules) in
    let q : c.from-3.result ≡ plot 2 = c.from-3.ensures ∙ to_z-of_z w32 (plot 2) (search rules) in
    let w : c.from-4.result ≡ plot 3 = c.from-4.ensures ∙ to_z-of_z w32 (plot 3) (search rules) in
    let sum : c.unsigned_abs.result ≡ nat_abs (total (map (λ (s : ChartSet). s.plot) four)) = rw (← spelled blank_set four 4 c.told-four, ← s, ← p, ← q, ← w) (omega (arith, ints)) in
    rw (sym c.one_side.ensures, c.if-one_side.true, c.from-then-one_side.ensures, sum) (grind arith)
