-- A line has no fault exactly where the rules read a value line.
use mathlib.Core.Path.{◌≡◌, refl, sym, ap, ◌∙◌, subst}
use mathlib.Core.Bool.{true, false, cond, ◌&&◌, false≢true}
use mathlib.Core.List.{List, [], ◌∷◌}
use mathlib.Core.Logic.{⊎_elim}
use Prim.Native.Nat.{ℕ, zero, suc, ◌+◌, ◌-◌, ◌*◌, ◌≤◌, ◌<◌}
use native.Mathlib.Omega.{arith}
use lib.ListN.{drop, take}
use lib.Seq.{drop-drop}
use lib.Dec.{ltb, eqb}
use borrow.Author.Tests.{lt-ltb, le-ltb, ne_eqb, eqb-false}
use Rattle.decimal.specs.Bytes.{space, line_feed}
use Rattle.std.specs.List.{prefix_len}
use Rattle.std.specs.Prelude.{Some, None, Result, Ok, Err, is_ok, is_some}
use Rattle.std.proofs.lemmas.Bool.{cond_both, cases_Bool}
use Rattle.chart_rules.specs.TextLines.{is_digit, digits, number, number_at, begins, ended, field, Number, LineRead, then, line_at}
use Rattle.chart_rules.proofs.Numbers.{digit_range}
use Rattle.text_fault.specs.Fields.{number_length, behind, go_on, fields, FaultExact}
use Rattle.text_fault.specs.declared.fields.Field.{Field}
use Rattle.text_fault.specs.declared.fields.Field.TheVariants.{Week, Sample, Original, Monitor}
use Rattle.text_fault.specs.declared.fields.Fault.{Fault}
use Rattle.text_fault.specs.declared.fields.Columns.{Columns}

-- ---- a number

-- behind n, k more digits make five
abbrev Room : ℕ → ℕ → Type 0
Room zero n = 10000 ≤ n
Room (suc k) n = (n < 10000) × ((d : ℕ) → d < 10 → Room k (10 * n + d))

room_4 : (n : ℕ) → 0 < n → n < 10 → Room 4 n
room_4 n p h = (omega arith, λ a i. (omega arith, λ b j. (omega arith, λ c k. (omega arith, λ d l. omega arith))))

-- a digit isn't the byte that ends a number
not_end : (c e : ℕ) → is_digit c ≡ true → is_digit e ≡ false → eqb c e ≡ false
not_end c e d f = ne_eqb c e (λ p. false≢true (sym f ∙ ap is_digit (sym p) ∙ d))

-- the digits go on as far as this many; where there are more than five, the byte behind these ends no number
abbrev Digits : ℕ → ℕ → ℕ → List ℕ → Number → Type 0
Digits k i e cs (Some (n, j)) = j ≡ i + prefix_len is_digit (take k cs)
Digits k i e cs None = begins e (drop (prefix_len is_digit (take k cs)) cs) ≡ false

-- behind the first byte
drop_more : (n c : ℕ) (cs : List ℕ) → drop (1 + n) (c ∷ cs) ≡ drop n cs
drop_more n c cs = sym (drop-drop n 1 (c ∷ cs))

digits_more : (k c : ℕ) (cs : List ℕ) → is_digit c ≡ true → prefix_len is_digit (take (suc k) (c ∷ cs)) ≡ 1 + prefix_len is_digit (take k cs)
digits_more k c cs d = rw d

one_more : (k i e c : ℕ) (cs : List ℕ) (x : Number) → is_digit c ≡ true → Digits k (i + 1) e cs x → Digits (suc k) i e (c ∷ cs) x
one_more k i e c cs (Some (n, j)) d h = omega (arith, digits_more k c cs d, h)
one_more k i e c cs None d h =
    ap (λ (n : ℕ). begins e (drop n (c ∷ cs))) (digits_more k c cs d) ∙ ap (begins e) (drop_more (prefix_len is_digit (take k cs)) c cs) ∙ h

digits_shape : (k n i e : ℕ) (cs : List ℕ) → is_digit e ≡ false → Room k n → Digits k i e cs (digits n i cs)
unfolding digits
digits_shape zero n i e [] f r = omega arith
digits_shape (suc k) n i e [] f r = omega arith
digits_shape zero n i e (c ∷ cs) f r =
    ⊎_elim
    (λ (d : is_digit c ≡ true). rw (d, le-ltb n 10000 r) (not_end c e d f))
    (λ (d : is_digit c ≡ false). rw d (omega arith))
    (cases_Bool (is_digit c))
digits_shape (suc k) n i e (c ∷ cs) f r =
    ⊎_elim
    (λ (d : is_digit c ≡ true).
    let range = digit_range c d in
    rw (d, lt-ltb n 10000 r.0)
    (one_more k i e c cs _ d (digits_shape k (10 * n + (c - 48)) (i + 1) e cs f (r.1 (c - 48) (omega arith)))))
    (λ (d : is_digit c ≡ false).
    let none : prefix_len is_digit (take (suc k) (c ∷ cs)) ≡ 0 = rw d in
    rw d (omega (arith, none)))
    (cases_Bool (is_digit c))

-- a number is as long as it can be; where there is none, this many bytes are none, or the byte behind them ends none
abbrev Shape : ℕ → ℕ → List ℕ → Number → Type 0
Shape p e cs (Some (n, j)) = (0 < number_length cs) × (j ≡ p + number_length cs)
Shape p e cs None = (ltb 0 (number_length cs) && begins e (drop (number_length cs) cs)) ≡ false

module _ (p c : ℕ) (cs : List ℕ) where
  number_zero : eqb c 48 ≡ true → (number p (c ∷ cs) ≡ Some (0, p + 1)) × (number_length (c ∷ cs) ≡ 1)
  unfolding number number_length
  number_zero z = (rw z, rw z)

  number_more : eqb c 48 ≡ false → is_digit c ≡ true
      → (number p (c ∷ cs) ≡ digits (c - 48) (p + 1) cs) × (number_length (c ∷ cs) ≡ 1 + prefix_len is_digit (take 4 cs))
  unfolding number number_length
  number_more z d = (rw (z, d), rw (z, d))

  number_other : eqb c 48 ≡ false → is_digit c ≡ false → (number p (c ∷ cs) ≡ None) × (number_length (c ∷ cs) ≡ 0)
  unfolding number number_length
  number_other z d = (rw (z, d), rw (z, d))

  first_more : (e : ℕ) (x : Number) → number_length (c ∷ cs) ≡ 1 + prefix_len is_digit (take 4 cs) → Digits 4 (p + 1) e cs x → Shape p e (c ∷ cs) x
  first_more e (Some (n, j)) l h = (omega (arith, l), omega (arith, l, h))
  first_more e None l h =
      let n = prefix_len is_digit (take 4 cs) in
      let rest : begins e (drop (1 + n) (c ∷ cs)) ≡ false = ap (begins e) (drop_more n c cs) ∙ h in
      rw (l, lt-ltb 0 (1 + n) (omega arith), rest)

number_none : (p e : ℕ) → Shape p e [] (number p [])
unfolding number number_length
number_none p e = refl

number_shape : (p e : ℕ) (cs : List ℕ) → is_digit e ≡ false → Shape p e cs (number p cs)
number_shape p e [] f = number_none p e
number_shape p e (c ∷ cs) f =
    ⊎_elim
    (λ (z : eqb c 48 ≡ true).
    let is = number_zero p c cs z in
    rw is.0 (omega (arith, is.1), omega (arith, is.1)))
    (λ (z : eqb c 48 ≡ false).
    ⊎_elim
    (λ (d : is_digit c ≡ true).
    let is = number_more p c cs z d in
    let range = digit_range c d in
    let positive : 0 < c - 48 = omega (arith, eqb-false c 48 z) in
    rw is.0 (first_more p c cs e _ is.1 (digits_shape 4 (c - 48) (p + 1) e cs f (room_4 (c - 48) positive (omega arith)))))
    (λ (d : is_digit c ≡ false).
    let is = number_other p c cs z d in
    rw is.0 (rw is.1 refl))
    (cases_Bool (is_digit c)))
    (cases_Bool (eqb c 48))

-- ---- a line

-- what is read at a position of the text, and where the line goes on
abbrev Agree : ℕ → Number → Result ℕ Fault → Type 0
Agree at (Some (n, j)) (Ok next) = j ≡ at + next
Agree at (Some (n, j)) (Err fault) = ⊥
Agree at None (Ok next) = ⊥
Agree at None (Err fault) = Unit {0}

ended_agree : (text : List ℕ) (e at start k : ℕ) (x : Number) (fault : Fault)
    → k ≡ number_length (drop (at + start) text) → Shape (at + start) e (drop (at + start) text) x
    → Agree at (ended text e x) (cond (ltb 0 k && begins e (drop (at + start + k) text)) (Ok (start + k + 1)) (Err fault))
unfolding ended
ended_agree text e at start k (Some (n, j)) fault q (positive, p) =
    let long : 0 < k = omega (arith, positive, q) in
    let here : j ≡ at + start + k = omega (arith, p, q) in
    rw (lt-ltb 0 k long, here)
    (cond_both (begins e (drop (at + start + k) text)) _ _
    (λ y. Agree at y (cond (begins e (drop (at + start + k) text)) (Ok (start + k + 1)) (Err fault)))
    (λ b. rw b (omega arith))
    (λ b. rw b tt))
ended_agree text e at start k None fault q s =
    let apart : (ltb 0 k && begins e (drop (at + start + k) text)) ≡ false =
    rw (q, sym (drop-drop (number_length (drop (at + start) text)) (at + start) text)) s in
    rw apart tt

field_agree : (text : List ℕ) (at start e : ℕ) (f : Field) → is_digit e ≡ false → Agree at (field text e (at + start)) (behind (drop at text) f start e)
unfolding field number_at behind
field_agree text at start e f d =
    let same : drop start (drop at text) ≡ drop (at + start) text = drop-drop start at text in
    let n = number_length (drop (at + start) text) in
    let place : drop (start + n) (drop at text) ≡ drop (at + start + n) text = drop-drop (start + n) at text ∙ ap (λ (k : ℕ). drop k text) (omega arith) in
    rw (same, place) (ended_agree text e at start n _ _ refl (number_shape (at + start) e (drop (at + start) text) d))

then_agree : (at : ℕ) (x : Number) (r : Result ℕ Fault) (read : ℕ → ℕ → LineRead) (rest : ℕ → Result Columns Fault)
    → Agree at x r → ((n next : ℕ) → is_ok (rest next) ≡ is_some (read n (at + next))) → is_ok (go_on r rest) ≡ is_some (then x read)
unfolding then go_on
then_agree at (Some (n, j)) (Ok next) read rest a h = h n next ∙ ap (λ (i : ℕ). is_some (read n i)) (sym a)
then_agree at (Some (n, j)) (Err fault) read rest a h = absurd a
then_agree at None (Ok next) read rest a h = absurd a
then_agree at None (Err fault) read rest a h = refl

pub fault_exact : FaultExact
unfolding fields line_at
fault_exact text at =
    let front : at + 0 ≡ at = omega arith in
    then_agree at _ _ _ _ (subst (λ (i : ℕ). Agree at (field text space i) (behind (drop at text) Week 0 space)) front (field_agree text at 0 space Week refl)) (λ week i.
    then_agree at _ _ _ _ (field_agree text at i space Sample refl) (λ sample j.
    then_agree at _ _ _ _ (field_agree text at j space Original refl) (λ original k.
    then_agree at _ _ _ _ (field_agree text at k line_feed Monitor refl) (λ monitor next. refl))))
