-- Cases of charts, of wheat where a row matters, and of chart texts; those that carry a star are in the crate `starred`.
use Rattle.std.specs.Prelude.{ℕ, suc, ◌+◌, ◌-◌, ◌*◌, ◌/◌, Option, None, Some, List, [], ◌∷◌, ◌++◌, map, ℤ, pos, negsuc, drop, take, replicate}
use Rattle.decimal.specs.Bytes.{bytes}
use Rattle.chart_rules.specs.Sets.{pairs_of, plot_of}
use Rattle.chart_rules.specs.Charts.{fresh_chart, next_chart}
use Rattle.chart_rules.specs.Calls.{result_of, chart_says}
use Rattle.chart_rules.specs.TextLines.{names_line}
use Rattle.chart_rules.specs.Output.{output_names}
use Rattle.chart_rules.specs.Printing.{printed}
use Rattle.chart_rules.specs.Laws.{program_room}
use Rattle.chart_rules.specs.declared.Chart.{Chart}

-- ---- charts

pub record Case : Type 0 where
  pub gives : List ℤ
  pub says : List ℤ

-- pairs of these originals, every monitor result 1000
abbrev pub by_1000 : List ℕ → List ℤ
by_1000 [] = []
by_1000 (original ∷ rest) = pos original ∷ pos 1000 ∷ by_1000 rest

-- five such pairs whose differences sum to this, the last four alike; no sum is below −5000
abbrev pub five : ℤ → List ℤ
five (pos n) = by_1000 ((1000 + (n - 4 * (n / 5))) ∷ replicate 4 (1000 + n / 5))
five (negsuc m) =
    let n = suc m in
    by_1000 ((1000 - (n - 4 * (n / 5))) ∷ replicate 4 (1000 - n / 5))

-- the last answer's values, of these sets in weeks 1, 2, .. on a chart
abbrev pub after : Chart → ℕ → List ℤ → List (List ℤ) → List ℤ
after c week last [] = last
after c week last (numbers ∷ sets) =
    let r = result_of c (week + 1) numbers 40 in
    after r.chart (week + 1) (chart_says r.answer).values sets

-- average absolute, tolerance and run of the last of these sets
abbrev pub averages_of : List (List ℤ) → List ℤ
averages_of sets = take 3 (drop 4 (after (fresh_chart 0) 0 [] sets))

-- and of sets with these sums
abbrev pub averages : List ℤ → List ℤ
averages sums = averages_of (map five sums)

-- four of 53 plot 11 each: run; of 52, which plot 10: none
unfoldable pub runs : List Case
runs =
    record { gives = averages (replicate 4 (pos 53)); says = pos 0 ∷ pos 0 ∷ pos 1 ∷ [] }
    ∷ record { gives = averages (replicate 4 (pos 52)); says = pos 0 ∷ pos 0 ∷ pos 0 ∷ [] }
    -- one 11 and three 10: the mean of four is not rounded, so they are a run
    ∷ record { gives = averages (pos 53 ∷ replicate 3 (pos 52)); says = pos 0 ∷ pos 0 ∷ pos 1 ∷ [] }
    -- behind three of 20 a sum of 3 plots 1 and makes a run; a sum of 2 plots 0, which lies on no side
    ∷ record { gives = averages (replicate 3 (pos 98) ++ (pos 3 ∷ [])); says = pos 0 ∷ pos 0 ∷ pos 1 ∷ [] }
    ∷ record { gives = averages (replicate 3 (pos 98) ++ (pos 2 ∷ [])); says = pos 0 ∷ pos 0 ∷ pos 0 ∷ [] }
    -- three of 8 of five pairs and one of 19 of one pair: each counts once
    ∷ record { gives = averages_of (replicate 3 (five (pos 40)) ++ (by_1000 (1019 ∷ []) ∷ [])); says = pos 0 ∷ pos 0 ∷ pos 1 ∷ [] }
    ∷ []

-- the pairs of the handbook's example, week 26
abbrev pub week26 : List ℤ
week26 = pos 1315 ∷ pos 1307 ∷ pos 1018 ∷ pos 1054 ∷ pos 1447 ∷ pos 1479 ∷ pos 1256 ∷ pos 1223 ∷ pos 1857 ∷ pos 1877 ∷ []

-- and its output line
abbrev pub line26 : List ℕ
line26 = bytes "26 5 -9 69 0 0 0 1 0\n"

-- what a set of these results plots
abbrev pub plot : List ℤ → List ℤ
plot numbers = plot_of (pairs_of numbers) ∷ []

unfoldable pub plots : List Case
plots =
    -- week 26: 1379 − 1388
    record { gives = plot week26; says = negsuc 8 ∷ [] }
    -- two pairs: a sum of 39 plots 20, of −39 −19
    ∷ record { gives = plot (by_1000 (1020 ∷ 1019 ∷ [])); says = pos 20 ∷ [] }
    ∷ record { gives = plot (by_1000 (980 ∷ 981 ∷ [])); says = negsuc 18 ∷ [] }
    -- no rounded mean of the differences: they sum to 4 and plot 0, they sum to 1 and plot 1
    ∷ record { gives = plot (pos 1001 ∷ pos 999 ∷ pos 1001 ∷ pos 999 ∷ replicate 6 (pos 1000)); says = pos 0 ∷ [] }
    ∷ record { gives = plot (pos 1003 ∷ pos 1002 ∷ replicate 8 (pos 1000)); says = pos 1 ∷ [] }
    -- a half of the monitor mean: 1000 − 1001, though the mean of the differences, −0.5, would be rounded to 0
    ∷ record { gives = plot (pos 1000 ∷ pos 1000 ∷ pos 1000 ∷ pos 1001 ∷ []); says = negsuc 0 ∷ [] }
    -- one pair plots its difference, up to the largest magnitude
    ∷ record { gives = plot (pos 10000 ∷ pos 0 ∷ []); says = pos 10000 ∷ [] }
    ∷ record { gives = plot (pos 0 ∷ pos 10000 ∷ []); says = negsuc 9999 ∷ [] }
    ∷ []

pub record HeldCase : Type 0 where
  pub gives : Option ℕ
  pub says : Option ℕ

-- the number, if any, by which a set is refused on a chart that holds one of this count and plot
abbrev pub behind : ℕ → ℤ → Option ℕ
behind count plot =
    let c = next_chart (fresh_chart 0) 1 (record { count = count; plot = plot; range = 0 }) in
    (chart_says (result_of c 2 (by_1000 (1000 ∷ [])) 40).answer).number

-- the bound on a held plot is the same for every count; the count is 1 to 5
unfoldable pub helds : List HeldCase
helds =
    record { gives = behind 1 (pos 10000); says = None }
    ∷ record { gives = behind 5 (pos 10000); says = None }
    ∷ record { gives = behind 5 (negsuc 9999); says = None }
    ∷ record { gives = behind 1 (pos 10001); says = Some 0 }
    ∷ record { gives = behind 5 (pos 10001); says = Some 0 }
    ∷ record { gives = behind 5 (negsuc 10000); says = Some 0 }
    ∷ record { gives = behind 0 (pos 0); says = Some 0 }
    ∷ record { gives = behind 6 (pos 0); says = Some 0 }
    ∷ []

-- ---- texts

pub record TextCase : Type 0 where
  pub gives : List ℕ
  pub says : List ℕ

-- the text of week 26
abbrev pub text26 : List ℕ
text26 = names_line ++ bytes "26 1 1315 1307\n26 2 1018 1054\n26 3 1447 1479\n26 4 1256 1223\n26 5 1857 1877\n"

-- what the program prints of a text
abbrev pub prints : List ℕ → List ℕ → TextCase
prints text says = record { gives = printed text program_room; says = says }

-- a line after week 26 by which the text is refused
abbrev pub refuses : List ℕ → List ℕ → TextCase
refuses line says = prints (text26 ++ line) says

unfoldable pub texts : List TextCase
texts =
    prints text26 (output_names ++ line26)
    -- a names line alone prints the names line
    ∷ prints names_line output_names
    -- no text
    ∷ prints [] (bytes "refused 16 1\n")
    -- a last line without a line feed
    ∷ refuses (bytes "27 1 5 5") (bytes "refused 17 7\n")
    -- a leading zero
    ∷ refuses (bytes "27 1 05 5\n") (bytes "refused 17 7\n")
    -- a sixth sample
    ∷ refuses (bytes "26 6 5 5\n") (bytes "refused 18 7\n")
    -- the same week started again
    ∷ refuses (bytes "26 1 5 5\n") (bytes "refused 18 7\n")
    -- a week below
    ∷ refuses (bytes "25 1 5 5\n") (bytes "refused 19 7\n")
    -- a result above 10000
    ∷ refuses (bytes "27 1 10001 5\n") (bytes "refused 21 7\n")
    ∷ []
