-- The column is the first byte at which no value line goes on: a line that has the same bytes up to there is none.
use mathlib.Core.Path.{◌≡◌, refl, sym, ap, ◌∙◌}
use mathlib.Core.Bool.{Bool, true, false, cond, ◌&&◌}
use mathlib.Core.List.{List, [], ◌∷◌, ◌++◌}
use mathlib.Core.Logic.{◌⊎◌, inl, inr, ⊎_elim}
use Prim.Native.Nat.{ℕ, zero, suc, ◌+◌, ◌≤◌, ◌<◌}
use native.Mathlib.Omega.{arith}
use lib.ListN.{length, drop, take, length-drop}
use lib.Dec.{ltb}
use Rattle.decimal.specs.Bytes.{space, line_feed}
use Rattle.std.specs.List.{prefix_len}
use Rattle.std.specs.Prelude.{Result, Ok, Err, is_ok}
use Rattle.std.proofs.lemmas.Bool.{cases_Bool}
use Rattle.chart_rules.specs.TextLines.{is_digit, begins}
use Rattle.text_fault.specs.Kinds.{kind_at}
use Rattle.text_fault.specs.Fields.{number_length, behind, go_on, fields, FirstByte}
use Rattle.text_fault.specs.declared.fields.Field.{Field}
use Rattle.text_fault.specs.declared.fields.Field.TheVariants.{Week, Sample, Original, Monitor}
use Rattle.text_fault.specs.declared.fields.Fault.{Fault}
use Rattle.text_fault.specs.declared.fields.Columns.{Columns}

-- ---- what stands in the same front

same_digits : (k : ℕ) (p more other : List ℕ) → prefix_len is_digit (take k (p ++ more)) < length p
    → prefix_len is_digit (take k (p ++ other)) ≡ prefix_len is_digit (take k (p ++ more))
same_digits zero p more other h = refl
same_digits (suc k) [] more other h = absurd (omega arith)
same_digits (suc k) (c ∷ p) more other h =
    ⊎_elim
    (λ (d : is_digit c ≡ true).
    let one : prefix_len is_digit (take (suc k) ((c ∷ p) ++ more)) ≡ 1 + prefix_len is_digit (take k (p ++ more)) = rw d in
    let two : prefix_len is_digit (take (suc k) ((c ∷ p) ++ other)) ≡ 1 + prefix_len is_digit (take k (p ++ other)) = rw d in
    omega (arith, one, two, same_digits k p more other (omega (arith, one, h))))
    (λ (d : is_digit c ≡ false).
    let one : prefix_len is_digit (take (suc k) ((c ∷ p) ++ more)) ≡ 0 = rw d in
    let two : prefix_len is_digit (take (suc k) ((c ∷ p) ++ other)) ≡ 0 = rw d in
    two ∙ sym one)
    (cases_Bool (is_digit c))

module _ (c : ℕ) (p more other : List ℕ) where
  zero_first : begins 48 ((c ∷ p) ++ more) ≡ true → number_length ((c ∷ p) ++ other) ≡ number_length ((c ∷ p) ++ more)
  unfolding number_length
  zero_first z = rw z

  digits_first : begins 48 ((c ∷ p) ++ more) ≡ false → number_length ((c ∷ p) ++ more) < suc (length p)
      → number_length ((c ∷ p) ++ other) ≡ number_length ((c ∷ p) ++ more)
  unfolding number_length
  digits_first z h =
      let one : cond (begins 48 ((c ∷ p) ++ more)) 1 (prefix_len is_digit (take 5 ((c ∷ p) ++ more))) ≡ prefix_len is_digit (take 5 ((c ∷ p) ++ more)) = rw z in
      let two : cond (begins 48 ((c ∷ p) ++ other)) 1 (prefix_len is_digit (take 5 ((c ∷ p) ++ other))) ≡ prefix_len is_digit (take 5 ((c ∷ p) ++ other)) = rw z in
      two ∙ same_digits 5 (c ∷ p) more other (omega (arith, one, h)) ∙ sym one

same_number : (p more other : List ℕ) → number_length (p ++ more) < length p → number_length (p ++ other) ≡ number_length (p ++ more)
same_number [] more other h = absurd (omega arith)
same_number (c ∷ p) more other h =
    ⊎_elim
    (λ (z : begins 48 ((c ∷ p) ++ more) ≡ true). zero_first c p more other z)
    (λ (z : begins 48 ((c ∷ p) ++ more) ≡ false). digits_first c p more other z (omega (arith, h)))
    (cases_Bool (begins 48 ((c ∷ p) ++ more)))

same_begins : (e n : ℕ) (p more other : List ℕ) → n < length p → begins e (drop n (p ++ other)) ≡ begins e (drop n (p ++ more))
same_begins e n [] more other h = absurd (omega arith)
same_begins e zero (c ∷ p) more other h = refl
same_begins e (suc n) (c ∷ p) more other h = same_begins e n p more other (omega arith)

pub drop_front : (start : ℕ) (p more : List ℕ) → start ≤ length p → drop start (p ++ more) ≡ drop start p ++ more
drop_front zero p more h = refl
drop_front (suc start) [] more h = absurd (omega arith)
drop_front (suc start) (c ∷ p) more h = drop_front start p more (omega arith)

-- ---- a line with the same front

module _ (p more other : List ℕ) (start e : ℕ) (f : Field) (h : start + number_length (drop start (p ++ more)) < length p) where
  same_length : number_length (drop start (p ++ other)) ≡ number_length (drop start (p ++ more))
  same_length =
      let one = drop_front start p more (omega arith) in
      let two = drop_front start p other (omega arith) in
      let long : length (drop start p) + start ≡ length p = omega (arith, length-drop start p) in
      ap number_length two ∙ same_number (drop start p) more other (omega (arith, ap number_length one, long)) ∙ sym (ap number_length one)

  same_byte : begins e (drop (start + number_length (drop start (p ++ other))) (p ++ other)) ≡ begins e (drop (start + number_length (drop start (p ++ more))) (p ++ more))
  same_byte = ap (λ (n : ℕ). begins e (drop (start + n) (p ++ other))) same_length ∙ same_begins e _ p more other h

  same_test : (ltb 0 (number_length (drop start (p ++ other))) && begins e (drop (start + number_length (drop start (p ++ other))) (p ++ other)))
      ≡ (ltb 0 (number_length (drop start (p ++ more))) && begins e (drop (start + number_length (drop start (p ++ more))) (p ++ more)))
  same_test = λ i. ltb 0 (same_length i) && same_byte i

-- a number is read and its end, or it has the fault
cases_behind : (b : Bool) (next : ℕ) (fault f : Fault) (rest : ℕ → Result Columns Fault) → go_on (cond b (Ok next) (Err fault)) rest ≡ Err f
    → ((b ≡ true) × (rest next ≡ Err f)) ⊎ ((b ≡ false) × (fault ≡ f))
unfolding go_on
cases_behind true next fault f rest q = inl (refl, q)
cases_behind false next fault f rest q = inr (refl, cc)

ok_next : (b : Bool) (next : ℕ) (fault : Fault) (rest : ℕ → Result Columns Fault) → b ≡ true → is_ok (go_on (cond b (Ok next) (Err fault)) rest) ≡ is_ok (rest next)
unfolding go_on
ok_next b next fault rest e = rw e

ok_fault : (b : Bool) (next : ℕ) (fault : Fault) (rest : ℕ → Result Columns Fault) → b ≡ false → is_ok (go_on (cond b (Ok next) (Err fault)) rest) ≡ false
unfolding go_on
ok_fault b next fault rest e = rw e

module _ (f : Fault) where
  -- a number's fault lies behind its start
  Later : (ℕ → Result Columns Fault) → Type 0
  Later rest = (next : ℕ) → rest next ≡ Err f → next < f.column

  later : (line : List ℕ) (field : Field) (e : ℕ) (rest : ℕ → ℕ → Result Columns Fault) → ((start : ℕ) → Later (rest start))
      → Later (λ start. go_on (behind line field start e) (rest start))
  unfolding Later behind
  later line field e rest go start q =
      let n = number_length (drop start line) in
      ⊎_elim
      (λ (r : ((ltb 0 n && begins e (drop (start + n) line)) ≡ true) × (rest start (start + n + 1) ≡ Err f)). omega (arith, go start _ r.1))
      (λ (r : ((ltb 0 n && begins e (drop (start + n) line)) ≡ false)
      × (record { field = field; start = start; column = start + n + 1; kind = kind_at line field start (start + n) } ≡ f)).
      omega (arith, ap (λ (x : Fault). x.column) r.1))
      (cases_behind _ _ _ f (rest start) q)

  -- what follows refuses the other line too
  Refuses : (ℕ → Result Columns Fault) → (ℕ → Result Columns Fault) → Type 0
  Refuses rest rest' = (next : ℕ) → rest next ≡ Err f → is_ok (rest' next) ≡ false

  module _ (p more other : List ℕ) (long : f.column ≡ length p) where
    refuses : (field : Field) (e : ℕ) (rest rest' : ℕ → ℕ → Result Columns Fault) → ((start : ℕ) → Later (rest start)) → ((start : ℕ) → Refuses (rest start) (rest' start))
        → Refuses (λ start. go_on (behind (p ++ more) field start e) (rest start)) (λ start. go_on (behind (p ++ other) field start e) (rest' start))
    unfolding Later Refuses behind
    refuses field e rest rest' go refused start q =
        let n = number_length (drop start (p ++ more)) in
        ⊎_elim
        (λ (r : ((ltb 0 n && begins e (drop (start + n) (p ++ more))) ≡ true) × (rest start (start + n + 1) ≡ Err f)).
        let h : start + n < length p = omega (arith, go start _ r.1, long) in
        ok_next _ _ _ (rest' start) (same_test p more other start e field h ∙ r.0)
        ∙ ap (λ (m : ℕ). is_ok (rest' start (start + m + 1))) (same_length p more other start e field h)
        ∙ refused start _ r.1)
        (λ (r : ((ltb 0 n && begins e (drop (start + n) (p ++ more))) ≡ false)
        × (record { field = field; start = start; column = start + n + 1; kind = kind_at (p ++ more) field start (start + n) } ≡ f)).
        let h : start + n < length p = omega (arith, ap (λ (x : Fault). x.column) r.1, long) in
        ok_fault _ _ _ (rest' start) (same_test p more other start e field h ∙ r.0))
        (cases_behind _ _ _ f (rest start) q)

-- the end of a line, from each of its numbers on
abbrev monitor_from : List ℕ → ℕ → ℕ → ℕ → Result Columns Fault
monitor_from line sample original monitor =
    go_on (behind line Monitor monitor line_feed) (λ next. Ok (record { sample = sample + 1; original = original + 1; monitor = monitor + 1 }))

abbrev original_from : List ℕ → ℕ → ℕ → Result Columns Fault
original_from line sample original = go_on (behind line Original original space) (monitor_from line sample original)

abbrev sample_from : List ℕ → ℕ → Result Columns Fault
sample_from line sample = go_on (behind line Sample sample space) (original_from line sample)

last : List ℕ → ℕ → ℕ → ℕ → ℕ → Result Columns Fault
last line sample original monitor next = Ok (record { sample = sample + 1; original = original + 1; monitor = monitor + 1 })

last_later : (f : Fault) (line : List ℕ) (sample original monitor : ℕ) → Later f (last line sample original monitor)
unfolding Later last
last_later f line sample original monitor next q = absurd cc

last_refuses : (f : Fault) (line line' : List ℕ) (sample original monitor : ℕ) → Refuses f (last line sample original monitor) (last line' sample original monitor)
unfolding Refuses last
last_refuses f line line' sample original monitor next q = absurd cc

module _ (p more other : List ℕ) (f : Fault) (long : f.column ≡ length p) where
  monitor_later : (sample original : ℕ) → Later f (monitor_from (p ++ more) sample original)
  unfolding last
  monitor_later sample original = later f (p ++ more) Monitor line_feed (last (p ++ more) sample original) (last_later f (p ++ more) sample original)

  original_later : (sample : ℕ) → Later f (original_from (p ++ more) sample)
  original_later sample = later f (p ++ more) Original space (monitor_from (p ++ more) sample) (monitor_later sample)

  sample_later : Later f (sample_from (p ++ more))
  sample_later = later f (p ++ more) Sample space (original_from (p ++ more)) original_later

  monitor_refuses : (sample original : ℕ) → Refuses f (monitor_from (p ++ more) sample original) (monitor_from (p ++ other) sample original)
  unfolding last
  monitor_refuses sample original =
      refuses f p more other long Monitor line_feed (last (p ++ more) sample original) (last (p ++ other) sample original)
      (last_later f (p ++ more) sample original) (last_refuses f (p ++ more) (p ++ other) sample original)

  original_refuses : (sample : ℕ) → Refuses f (original_from (p ++ more) sample) (original_from (p ++ other) sample)
  original_refuses sample =
      refuses f p more other long Original space (monitor_from (p ++ more) sample) (monitor_from (p ++ other) sample) (monitor_later sample) (monitor_refuses sample)

  sample_refuses : Refuses f (sample_from (p ++ more)) (sample_from (p ++ other))
  sample_refuses = refuses f p more other long Sample space (original_from (p ++ more)) (original_from (p ++ other)) original_later original_refuses

  fields_refuse : fields (p ++ more) ≡ Err f → is_ok (fields (p ++ other)) ≡ false
  unfolding fields Refuses
  fields_refuse q =
      refuses f p more other long Week space (λ start. sample_from (p ++ more)) (λ start. sample_from (p ++ other)) (λ start. sample_later) (λ start. sample_refuses) 0 q

pub first_byte : FirstByte
first_byte front more other f q e = fields_refuse front more other f e q
