-- docs/SPECIFICATION.md, "Control charts": the run of the average of a set after the sets before it, newest first. A set's average is what it plots; the
-- mean of four is exact, its denominator multiplied out.
use Rattle.std.specs.Prelude.{ℕ, zero, suc, ◌*◌, Bool, ◌&&◌, ◌||◌, List, [], ◌∷◌, ◌++◌, map, nat_abs, ltb}
use Rattle.whole.specs.Lists.{any, all, above, below, total}
use Rattle.chart_rules.specs.declared.ChartSet.{ChartSet}

-- the sets' averages lie strictly on one side of zero
unfoldable pub one_side : List ChartSet → Bool
one_side sets = all (λ s. above s.plot) sets || all (λ s. below s.plot) sets

-- four sets lie strictly on one side of zero, and the magnitude of the mean of their averages is above the limit: both times 4
unfoldable pub run_by : ℕ → List ChartSet → Bool
run_by limit four = one_side four && ltb (4 * limit) (nat_abs (total (map (λ s. s.plot) four)))

-- every choice of k elements, each in the list's order
abbrev pub choose : {A : Type 0} → ℕ → List A → List (List A)
choose zero l = [] ∷ []
choose (suc k) [] = []
choose {A} (suc k) (x ∷ xs) = map (λ (c : List A). x ∷ c) (choose k xs) ++ choose (suc k) xs

-- run: this set and three of the previous four (or of all, if fewer); any such choice suffices
unfoldable pub run : ℕ → ChartSet → List ChartSet → Bool
run limit s past = any (λ (three : List ChartSet). run_by limit (s ∷ three)) (choose 3 past)
