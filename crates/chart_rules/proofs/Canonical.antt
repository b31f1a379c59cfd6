-- The reader takes a line exactly where the text has it as it is written: both ways.
use mathlib.Core.Path.{◌≡◌, refl, sym, ap, ◌∙◌, subst}
use mathlib.Core.Bool.{true, false, false≢true}
use mathlib.Core.List.{List, [], ◌∷◌, ◌++◌, append_assoc}
use Prim.Native.Nat.{ℕ, ◌+◌, ◌-◌, ◌*◌, ◌/◌, ◌%◌, ◌≤◌, ◌<◌}
use native.Mathlib.Omega.{arith}
use lib.ListN.{length, drop, length-append}
use lib.Seq.{drop-drop, drop-append_seam}
use lib.Dec.{ltb, eqb}
use borrow.Author.Tests.{eq-eqb, eqb-true, eqb-false, ltb-true}
use Rattle.decimal.specs.Bytes.{space, line_feed}
use Rattle.decimal.specs.Show.{show}
use Rattle.decimal.proofs.Show.{show_small, show_step}
use Rattle.chart_rules.specs.TextLines.{is_digit, digits, number, number_at, begins, ended, field, Number, LineRead, then, line_at, value_line, FiveDigits}
use Rattle.chart_rules.specs.Laws.{LinesExact}
use Rattle.chart_rules.specs.declared.ValueLine.{ValueLine}
use Rattle.chart_rules.proofs.Numbers.{digit_range}
use Rattle.chart_rules.proofs.RoundTrip.{read_show}
use Rattle.std.specs.Prelude.{Some, None}
use Rattle.std.proofs.lemmas.Bool.{cond_both}

-- ---- what is written is read

-- what stands behind a piece of the text
pub behind : (text : List ℕ) (at : ℕ) (a b : List ℕ) → drop at text ≡ a ++ b → drop (at + length a) text ≡ b
behind text at a b e = sym (drop-drop (length a) at text) ∙ ap (drop (length a)) e ∙ drop-append_seam a b

module _ (text : List ℕ) (e at n : ℕ) (rest : List ℕ) (p : drop at text ≡ show n ++ (e ∷ rest)) where
  -- the text behind the byte that ends the number
  next_is : drop (at + length (show n) + 1) text ≡ rest
  next_is = behind text (at + length (show n)) (e ∷ []) rest (behind text at (show n) (e ∷ rest) p)

  field_show : n < 100000 → is_digit e ≡ false → field text e at ≡ Some (n, at + length (show n) + 1)
  unfolding field number_at ended
  field_show small stop =
      rw (p, read_show n at (e ∷ rest) small stop, behind text at (show n) (e ∷ rest) p, eq-eqb e e refl)

-- a piece of a line stands in front of the rest of the text
piece : (text : List ℕ) (at n e : ℕ) (more rest : List ℕ) → drop at text ≡ (show n ++ (e ∷ more)) ++ rest → drop at text ≡ show n ++ (e ∷ more ++ rest)
piece text at n e more rest p = p ∙ append_assoc (show n) (e ∷ more) rest

length_line : (v : ValueLine) → length (value_line v) ≡ length (show v.week) + length (show v.sample) + length (show v.original) + length (show v.monitor) + 4
unfolding value_line
length_line v =
    simp length-append (omega arith)

-- a line with more behind it, piece by piece
line_front : (v : ValueLine) (rest : List ℕ)
    → value_line v ++ rest ≡ show v.week ++ (space ∷ show v.sample ++ (space ∷ show v.original ++ (space ∷ show v.monitor ++ (line_feed ∷ rest))))
unfolding value_line
line_front v rest = simp append_assoc

-- what is written is read
line_show : (text : List ℕ) (at : ℕ) (v : ValueLine) (rest : List ℕ) → drop at text ≡ value_line v ++ rest → FiveDigits v → line_at text at ≡ Some (v, at + length (value_line v))
unfolding line_at then value_line FiveDigits
line_show text at v rest p s =
    let w = show v.week in
    let p₁ = piece text at v.week space _ rest p in
    let i = at + length w + 1 in
    let p₂ = piece text i v.sample space _ rest (next_is text space at v.week _ p₁) in
    let j = i + length (show v.sample) + 1 in
    let p₃ = piece text j v.original space _ rest (next_is text space i v.sample _ p₂) in
    let k = j + length (show v.original) + 1 in
    let p₄ = piece text k v.monitor line_feed _ rest (next_is text space j v.original _ p₃) in
    let e : k + length (show v.monitor) + 1 ≡ at + length (value_line v) = omega (arith, length_line v) in
    rw (
      field_show text space at v.week _ p₁ s.0 refl,
      field_show text space i v.sample _ p₂ s.1 refl,
      field_show text space j v.original _ p₃ s.2 refl,
      field_show text line_feed k v.monitor _ p₄ s.3 refl,
    ) (ap (λ (n : ℕ). Some (v, n)) e)

-- ---- what is read was written

-- cs is a number as it is written, which is read, and more
Reads : List ℕ → ℕ → Number → Type 0
Reads cs i (Some (n, j)) = (n < 100000) × (j ≡ i + length (show n)) × ((rest : List ℕ) × (cs ≡ show n ++ rest))
Reads cs i None = Unit {0}

-- a digit behind n makes ten times n and the digit
show_digit : (n c : ℕ) → 0 < n → 48 ≤ c → c ≤ 57 → show (10 * n + (c - 48)) ≡ show n ++ (c ∷ [])
show_digit n c p l h =
    let m : ℕ = 10 * n + (c - 48) in
    let q : m / 10 ≡ n = omega arith in
    let r : 48 + m % 10 ≡ c = omega arith in
    show_step m (omega arith) ∙ ap (λ (k : ℕ). show k ++ ((48 + m % 10) ∷ [])) q ∙ ap (λ (d : ℕ). show n ++ (d ∷ [])) r

digits_sound : (n i : ℕ) (cs : List ℕ) → 0 < n → n < 100000 → Reads (show n ++ cs) i (digits n (i + length (show n)) cs)
unfolding Reads digits
digits_sound n i [] p h = (h, refl, ([], refl))
digits_sound n i (c ∷ cs) p h =
    cond_both (is_digit c) _ _ (Reads (show n ++ (c ∷ cs)) i)
    (λ d. cond_both (ltb n 10000) _ _ (Reads (show n ++ (c ∷ cs)) i)
    (λ t.
    let range = digit_range c d in
    let m : ℕ = 10 * n + (c - 48) in
    let e = show_digit n c p range.0 range.1 in
    let whole : show m ++ cs ≡ show n ++ (c ∷ cs) = ap (λ (l : List ℕ). l ++ cs) e ∙ append_assoc (show n) (c ∷ []) cs in
    let place : i + length (show m) ≡ i + length (show n) + 1 = omega (arith, simp length-append at (ap length e)) in
    subst (λ (l : List ℕ). Reads l i (digits m (i + length (show n) + 1) cs)) whole
    (subst (λ (k : ℕ). Reads (show m ++ cs) i (digits m k cs)) place
    (digits_sound m i cs (omega arith) (omega (arith, ltb-true n 10000 t, range)))))
    (λ t. tt))
    (λ d. (h, refl, (c ∷ cs, refl)))

number_sound : (i : ℕ) (cs : List ℕ) → Reads cs i (number i cs)
unfolding Reads number
number_sound i [] = tt
number_sound i (c ∷ cs) =
    cond_both (eqb c 48) _ _ (Reads (c ∷ cs) i)
    (λ z.
    let e = show_small 0 (omega arith) in
    (omega arith, omega (arith, ap length e), (cs, ap (λ (d : ℕ). d ∷ cs) (eqb-true c 48 z) ∙ ap (λ (l : List ℕ). l ++ cs) (sym e))))
    (λ z. cond_both (is_digit c) _ _ (Reads (c ∷ cs) i)
    (λ d.
    let range = digit_range c d in
    let one : show (c - 48) ≡ c ∷ [] = show_small (c - 48) (omega arith) ∙ ap (λ (k : ℕ). k ∷ []) (omega arith) in
    let pos : 0 < c - 48 = omega (arith, eqb-false c 48 z) in
    subst (λ (l : List ℕ). Reads (l ++ cs) i (digits (c - 48) (i + length l) cs)) one (digits_sound (c - 48) i cs pos (omega arith)))
    (λ d. tt))

begins_is : (e : ℕ) (l : List ℕ) → begins e l ≡ true → l ≡ e ∷ drop 1 l
begins_is e [] b = absurd (false≢true b)
begins_is e (c ∷ l) b = ap (λ (x : ℕ). x ∷ l) (eqb-true c e b)

-- the text has at position at a number as it is written, and e behind it
Ends : List ℕ → ℕ → ℕ → Number → Type 0
Ends text e at (Some (n, j)) = (n < 100000) × (j ≡ at + length (show n) + 1) × (drop at text ≡ show n ++ (e ∷ drop j text))
Ends text e at None = Unit {0}

ended_sound : (text : List ℕ) (e at : ℕ) (x : Number) → Reads (drop at text) at x → Ends text e at (ended text e x)
unfolding Reads Ends ended
ended_sound text e at (Some (n, i)) (h, q, (rest, p)) =
    cond_both (begins e (drop i text)) _ _ (Ends text e at)
    (λ b.
    let here : drop i text ≡ rest = ap (λ (k : ℕ). drop k text) q ∙ behind text at (show n) rest p in
    let split : rest ≡ e ∷ drop (i + 1) text =
    sym here ∙ begins_is e (drop i text) b ∙ ap (λ (l : List ℕ). e ∷ l) (drop-drop 1 i text) in
    (h, omega arith, p ∙ ap (λ (l : List ℕ). show n ++ l) split))
    (λ b. tt)
ended_sound text e at None r = tt

field_sound : (text : List ℕ) (e at : ℕ) → Ends text e at (field text e at)
unfolding field number_at
field_sound text e at = ended_sound text e at (number at (drop at text)) (number_sound at (drop at text))

then_sound : (P : LineRead → Type 0) (text : List ℕ) (e at : ℕ) (x : Number) (next : ℕ → ℕ → LineRead)
    → P None → Ends text e at x → ((n i : ℕ) → Ends text e at (Some (n, i)) → P (next n i)) → P (then x next)
unfolding then
then_sound P text e at (Some (n, i)) next bad r f = f n i r
then_sound P text e at None next bad r f = bad

-- the text has the line at position at, with at most five digits to a number, and next is the position behind it
unfoldable pub Written : List ℕ → ℕ → LineRead → Type 0
Written text at (Some (v, next)) = FiveDigits v × (next ≡ at + length (value_line v)) × (drop at text ≡ value_line v ++ drop next text)
Written text at None = Unit {0}

line_whole : (text : List ℕ) (at w s o m i j k next : ℕ) → Ends text space at (Some (w, i)) → Ends text space i (Some (s, j)) → Ends text space j (Some (o, k)) → Ends text line_feed k (Some (m, next))
    → Written text at (Some ((record { week = w; sample = s; original = o; monitor = m }), next))
unfolding Ends Written FiveDigits
line_whole text at w s o m i j k next p₁ p₂ p₃ p₄ =
    let v : ValueLine = record { week = w; sample = s; original = o; monitor = m } in (
      (p₁.0, p₂.0, p₃.0, p₄.0),
      omega (arith, length_line v),
      p₁.2 ∙ ap (λ (l : List ℕ). show w ++ (space ∷ l)) (p₂.2 ∙ ap (λ (l : List ℕ). show s ++ (space ∷ l)) (p₃.2 ∙ ap (λ (l : List ℕ). show o ++ (space ∷ l)) p₄.2))
          ∙ sym (line_front v (drop next text)),
    )

line_written : (text : List ℕ) (at : ℕ) → Written text at (line_at text at)
unfolding line_at Written
line_written text at =
    let Q = Written text at in
    then_sound Q text space at _ _ tt (field_sound text space at) (λ w i p₁.
    then_sound Q text space i _ _ tt (field_sound text space i) (λ s j p₂.
    then_sound Q text space j _ _ tt (field_sound text space j) (λ o k p₃.
    then_sound Q text line_feed k _ _ tt (field_sound text line_feed k) (λ m next p₄.
    line_whole text at w s o m i j k next p₁ p₂ p₃ p₄))))

-- what is read was written
line_read : (text : List ℕ) (at next : ℕ) (v : ValueLine) → line_at text at ≡ Some (v, next)
    → FiveDigits v × (next ≡ at + length (value_line v)) × (drop at text ≡ value_line v ++ drop next text)
unfolding Written
line_read text at next v e = rw e at (line_written text at)

-- a value line's bytes and its numbers determine each other
pub lines_exact : LinesExact
lines_exact = record { written_read = line_show; read_written = line_read }

-- a line has some bytes
pub some_bytes : (v : ValueLine) → 0 < length (value_line v)
some_bytes v = omega (arith, length_line v)

-- a line that was read ends behind where it began
pub line_forward : (text : List ℕ) (at next : ℕ) (v : ValueLine) → line_at text at ≡ Some (v, next) → at < next
line_forward text at next v e = omega (arith, (line_read text at next v e).1, some_bytes v)
