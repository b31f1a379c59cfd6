-- Days that pass a test, counted: the count rises where one does; a day taken out of them; and the day that the working-day rule finds.
use mathlib.Core.Path.{◌≡◌, refl, sym, ap}
use mathlib.Core.Bool.{Bool, true, false, not, ◌&&◌, cond}
use mathlib.Core.List.{List}
use Prim.Native.Nat.{ℕ, zero, suc, ◌+◌, ◌-◌, ◌≤◌, ◌<◌}
use native.Mathlib.Omega.{arith}
use lib.IntN.{ℤ}
use lib.Dec.{eqb}
use borrow.Author.Tests.{eqb-true, eqb-false}
use Rattle.std.specs.Prelude.{Result, Ok, Err}
use Rattle.std.proofs.lemmas.Bool.Decides.{nat_tests}
use Rattle.whole.proofs.ListLaws.{by_test}
use Rattle.calendar_rules.specs.Working.{is_working, counted}
use Rattle.calendar_rules.specs.Laws.{up_to, WorkingDaysAfter}
use Rattle.calendar_rules.specs.declared.Refusal.{Refusal}
use Rattle.calendar_rules.specs.declared.Refusal.TheVariants.{NoSuchDay}

-- ---- days counted

abbrev one : Bool → ℕ
one t = cond t 1 0

module _ (p : ℕ → Bool) where
  pub next_yes : (n : ℕ) → p (suc n) ≡ true → up_to p (suc n) ≡ suc (up_to p n)
  unfolding up_to
  next_yes n e = omega (arith, ap one e)

  pub next_no : (n : ℕ) → p (suc n) ≡ false → up_to p (suc n) ≡ up_to p n
  unfolding up_to
  next_no n e = omega (arith, ap one e)

  -- no fewer up to a later day
  pub no_fewer : (m n : ℕ) → m ≤ n → up_to p m ≤ up_to p n
  unfolding up_to
  no_fewer m zero h = let e : m ≡ 0 = omega arith in omega (arith, ap (up_to p) e)
  no_fewer m (suc n) h =
      let last : m ≡ suc n → up_to p m ≡ up_to p (suc n) = ap (up_to p) in
      grind (arith, no_fewer m n)

  -- more up to a later day that passes
  pub more : (m n : ℕ) → m < n → p n ≡ true → up_to p m < up_to p n
  more m zero h e = absurd (omega arith)
  more m (suc n) h e = omega (arith, no_fewer m n (omega arith), next_yes n e)

-- ---- a day taken out of those that pass

module _ (p q : ℕ → Bool) (h : ℕ) (is : (x : ℕ) → q x ≡ p x && not (eqb h x)) where
  pub other_day : (x : ℕ) → (h ≡ x → ⊥) → q x ≡ p x
  other_day x n = grind (arith, nat_tests, is x)

  -- before it nothing changes
  pub before_it : (n : ℕ) → n < h → up_to q n ≡ up_to p n
  unfolding up_to
  before_it zero l = refl
  before_it (suc n) l = grind (arith, nat_tests, is (suc n), before_it n)

  -- from it on there is one fewer
  pub from_it : 1 ≤ h → p h ≡ true → (n : ℕ) → h ≤ n → suc (up_to q n) ≡ up_to p n
  unfolding up_to
  from_it o e zero l = absurd (omega arith)
  from_it o e (suc n) l =
      grind (arith, nat_tests, is (suc n), before_it n, from_it o e n)

  -- if it didn't pass nothing changes
  pub unchanged : p h ≡ false → (x : ℕ) → q x ≡ p x
  unchanged e x = grind (arith, nat_tests, is x)

  pub not_in_it : p h ≡ false → (n : ℕ) → up_to q n ≡ up_to p n
  unfolding up_to
  not_in_it e zero = refl
  not_in_it e (suc n) = omega (arith, ap one (unchanged e (suc n)), not_in_it e n)

-- ---- the day that is found

never : (d : ℕ) → Err NoSuchDay ≡ Ok d → ⊥
never d f = let z : ◌≡◌ {A = ℕ} 0 1 = cc in omega arith

module _ (hs : List ℤ) where
  abbrev works : ℕ → Bool
  works = is_working hs

  -- where some are to be counted, the day found lies after this one
  pub later_than : (day count d : ℕ) → (count ≡ 0 → ⊥) → WorkingDaysAfter hs day count d → day < d
  later_than day count d n a =
      let same : day ≡ d → up_to works day ≡ up_to works d = ap (up_to works) in
      grind (arith, a.later, a.counts, n)

  -- and is the one found after the next
  further : (day count d : ℕ) → (count ≡ 0 → ⊥) → WorkingDaysAfter hs day count d → WorkingDaysAfter hs (suc day) (count - one (works (suc day))) d
  further day count d n a =
      let l : day < d = later_than day count d n a in
      let then : works d ≡ true = a.some (omega (arith, n)) in
      record {
        later = l;
        counts = grind (arith, nat_tests, a.counts, next_yes works day, next_no works day, n);
        none = λ z. grind (arith, nat_tests, a.counts, next_yes works day, next_no works day, n, λ (x : suc day < d). more works (suc day) d x then);
        some = λ z. then;
      }

  pub finds : (left day count d : ℕ) → WorkingDaysAfter hs day count d → d ≤ day + left → counted hs left day count ≡ Ok d
  unfolding counted
  finds zero day count d a l =
      by_test (eqb count 0) (λ (t : Bool). cond t (Ok day) (Err NoSuchDay) ≡ Ok d) (λ e. ap Ok (sym (a.none (eqb-true count 0 e)))) (λ e. absurd (omega (arith, later_than day count d (eqb-false count 0 e) a)))
  finds (suc left) day count d a l =
      by_test (eqb count 0) (λ (t : Bool). cond t (Ok day) (counted hs left (suc day) (count - one (works (suc day)))) ≡ Ok d) (λ e. ap Ok (sym (a.none (eqb-true count 0 e)))) (λ e. finds left (suc day) (count - one (works (suc day))) d (further day count d (eqb-false count 0 e) a) (omega arith))

  -- too few working days are left
  pub runs_out : (left day count : ℕ) → up_to works (day + left) < up_to works day + count → counted hs left day count ≡ Err NoSuchDay
  unfolding counted
  runs_out zero day count l =
      let s : day + 0 ≡ day = omega arith in
      by_test (eqb count 0) (λ (t : Bool). cond t (Ok day) (Err NoSuchDay) ≡ Err NoSuchDay) (λ e. absurd (omega (arith, eqb-true count 0 e, ap (up_to works) s))) (λ e. refl)
  runs_out (suc left) day count l =
      let s : day + suc left ≡ suc day + left = omega arith in
      let f : day ≤ day + suc left = omega arith in
      by_test (eqb count 0) (λ (t : Bool). cond t (Ok day) (counted hs left (suc day) (count - one (works (suc day)))) ≡ Err NoSuchDay)
      (λ e. absurd (omega (arith, eqb-true count 0 e, no_fewer works day (day + suc left) f)))
      (λ e.
      runs_out left (suc day) (count - one (works (suc day)))
      (by_test (works (suc day)) (λ (t : Bool). up_to works (suc day + left) < up_to works (suc day) + (count - one t))
      (λ y. omega (arith, next_yes works day y, ap (up_to works) s, eqb-false count 0 e)) (λ y. omega (arith, next_no works day y, ap (up_to works) s))))

  -- a count of 0 gives the day itself
  pub itself : (day count d left : ℕ) → count ≡ 0 → d ≡ day → (d ≤ day + left) × WorkingDaysAfter hs day count d
  itself day count d left z e =
      (omega arith, record { later = omega arith; counts = omega (arith, ap (up_to works) e); none = λ x. e; some = λ x. absurd (omega arith) })

  -- the day found after the next is the one found after this
  nearer : (day count d : ℕ) → (count ≡ 0 → ⊥) → WorkingDaysAfter hs (suc day) (count - one (works (suc day))) d → WorkingDaysAfter hs day count d
  nearer day count d n a =
      record {
        later = omega (arith, a.later);
        counts = grind (arith, nat_tests, a.counts, next_yes works day, next_no works day, n);
        none = λ z. absurd (n z);
        some = λ z. grind (arith, nat_tests, a.none, a.some, n);
      }

  -- no day later than those that are left is found, and none that isn't so many working days after
  pub found_is : (left day count d : ℕ) → counted hs left day count ≡ Ok d → (d ≤ day + left) × WorkingDaysAfter hs day count d
  unfolding counted
  found_is zero day count d =
      by_test (eqb count 0) (λ (t : Bool). cond t (Ok day) (Err NoSuchDay) ≡ Ok d → (d ≤ day + 0) × WorkingDaysAfter hs day count d)
      (λ e f. itself day count d 0 (eqb-true count 0 e) (cc)) (λ e f. absurd (never d f))
  found_is (suc left) day count d =
      by_test (eqb count 0) (λ (t : Bool). cond t (Ok day) (counted hs left (suc day) (count - one (works (suc day)))) ≡ Ok d → (d ≤ day + suc left) × WorkingDaysAfter hs day count d)
      (λ e f. itself day count d (suc left) (eqb-true count 0 e) (cc))
      (λ e f.
      let r = found_is left (suc day) (count - one (works (suc day))) d f in
      (omega (arith, r.0), nearer day count d (eqb-false count 0 e) r.1))

  -- where no day is found it is 27
  pub else_27 : (P : Result ℕ Refusal → Type 0) (left day count : ℕ) → ((d : ℕ) → counted hs left day count ≡ Ok d → P (Ok d)) → P (Err NoSuchDay) → P (counted hs left day count)
  unfolding counted
  else_27 P zero day count f r =
      by_test (eqb count 0) (λ (t : Bool). ((d : ℕ) → cond t (Ok day) (Err NoSuchDay) ≡ Ok d → P (Ok d)) → P (cond t (Ok day) (Err NoSuchDay))) (λ e g. g day refl) (λ e g. r) f
  else_27 P (suc left) day count f r =
      let next = counted hs left (suc day) (count - one (works (suc day))) in
      by_test (eqb count 0) (λ (t : Bool). ((d : ℕ) → cond t (Ok day) next ≡ Ok d → P (Ok d)) → P (cond t (Ok day) next))
      (λ e g. g day refl) (λ e g. else_27 P left (suc day) (count - one (works (suc day))) g r) f
