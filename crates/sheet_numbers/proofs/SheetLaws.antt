-- The samples of a sheet's numbers, as its parts of six come one after another, and a pass over them that stops at the first that it refuses.
use mathlib.Core.Path.{◌≡◌, refl, sym, ap, ◌∙◌, subst⁻¹}
use mathlib.Core.Bool.{Bool, true, false, ◌||◌, cond}
use mathlib.Core.List.{List, [], ◌∷◌, ◌++◌}
use Rattle.std.specs.Prelude.{Result, Ok, Err}
use Prim.Native.Nat.{ℕ, zero, suc, ◌+◌, ◌*◌, ◌≤◌, ◌<◌}
use native.Mathlib.Omega.{arith}
use lib.IntN.{ℤ}
use lib.ListN.{length}
use Rattle.whole.specs.Lists.{any}
use Rattle.std.specs.List.{fold}
use Rattle.whole.proofs.ListLaws.{by_test, cond_yes}
use Rattle.station_rules.specs.Sheets.{samples_of}
use Rattle.station_rules.specs.declared.Sample.{Sample}
use Rattle.sheet_numbers.specs.Samples.{sample_from}

pub samples_length : (n : ℕ) (l : List ℤ) → length l ≡ 6 * n → length (samples_of l) ≡ n
unfolding samples_of
samples_length zero [] h = refl
samples_length zero (a ∷ l) h = absurd (omega arith)
samples_length (suc n) [] h = absurd (omega arith)
samples_length (suc n) (a ∷ []) h = absurd (omega arith)
samples_length (suc n) (a ∷ b ∷ []) h = absurd (omega arith)
samples_length (suc n) (a ∷ b ∷ c ∷ []) h = absurd (omega arith)
samples_length (suc n) (a ∷ b ∷ c ∷ d ∷ []) h = absurd (omega arith)
samples_length (suc n) (a ∷ b ∷ c ∷ d ∷ e ∷ []) h = absurd (omega arith)
samples_length (suc n) (a ∷ b ∷ c ∷ d ∷ e ∷ f ∷ l) h = ap suc (samples_length n l (omega arith))

-- a part of six is a sample, before those of the rest
part_first : (part rest : List ℤ) → length part ≡ 6 → samples_of (part ++ rest) ≡ sample_from part ∷ samples_of rest
unfolding samples_of
part_first [] rest h = absurd (omega arith)
part_first (a ∷ []) rest h = absurd (omega arith)
part_first (a ∷ b ∷ []) rest h = absurd (omega arith)
part_first (a ∷ b ∷ c ∷ []) rest h = absurd (omega arith)
part_first (a ∷ b ∷ c ∷ d ∷ []) rest h = absurd (omega arith)
part_first (a ∷ b ∷ c ∷ d ∷ e ∷ []) rest h = absurd (omega arith)
part_first (a ∷ b ∷ c ∷ d ∷ e ∷ f ∷ []) rest h = refl
part_first (a ∷ b ∷ c ∷ d ∷ e ∷ f ∷ g ∷ l) rest h = absurd (omega arith)

pub next_part : {l : List ℤ} (part rest : List ℤ) → l ≡ part ++ rest → length part ≡ 6 → samples_of l ≡ sample_from part ∷ samples_of rest
next_part part rest e h = ap samples_of e ∙ part_first part rest h

-- fewer than six are no sample
pub no_part : (l : List ℤ) → length l < 6 → samples_of l ≡ []
unfolding samples_of
no_part [] h = refl
no_part (a ∷ []) h = refl
no_part (a ∷ b ∷ []) h = refl
no_part (a ∷ b ∷ c ∷ []) h = refl
no_part (a ∷ b ∷ c ∷ d ∷ []) h = refl
no_part (a ∷ b ∷ c ∷ d ∷ e ∷ []) h = refl
no_part (a ∷ b ∷ c ∷ d ∷ e ∷ f ∷ l) h = absurd (omega arith)

-- at least six are one at least
pub some_part : (P : List Sample → Type 0) (l : List ℤ) → 6 ≤ length l → ((s : Sample) (ss : List Sample) → P (s ∷ ss)) → P (samples_of l)
unfolding samples_of
some_part P [] h p = absurd (omega arith)
some_part P (a ∷ []) h p = absurd (omega arith)
some_part P (a ∷ b ∷ []) h p = absurd (omega arith)
some_part P (a ∷ b ∷ c ∷ []) h p = absurd (omega arith)
some_part P (a ∷ b ∷ c ∷ d ∷ []) h p = absurd (omega arith)
some_part P (a ∷ b ∷ c ∷ d ∷ e ∷ []) h p = absurd (omega arith)
some_part P (a ∷ b ∷ c ∷ d ∷ e ∷ f ∷ l) h p = p (sample_from (a ∷ b ∷ c ∷ d ∷ e ∷ f ∷ [])) (samples_of l)

-- ---- a refusal by a test: what an answer tells of it

pub accepted_by : {A E : Type 0} (b : Bool) (x : E) {y r : A} → Ok r ≡ cond b (Err x) (Ok y) → (b ≡ false) × (r ≡ y)
accepted_by true x e = absurd cc
accepted_by false x e = (refl, cc)

pub refused_by : {A E : Type 0} (b : Bool) (y : A) {x r : E} → Err r ≡ cond b (Err x) (Ok y) → (b ≡ true) × (r ≡ x)
refused_by true y e = (refl, cc)
refused_by false y e = absurd cc

-- ---- a pass: a sample that is bad is refused, any other joins what the ones before it came to

module _ {S E : Type 0} (bad : Sample → Bool) (refusal : E) (more : S → Sample → S) where
  abbrev pub with_one : S → Sample → Result S E
  with_one t s = cond (bad s) (Err refusal) (Ok (more t s))

  unfoldable pub passed : S → List Sample → Result S E
  passed t [] = Ok t
  passed t (s ∷ ss) = cond (bad s) (Err refusal) (passed (more t s) ss)

  -- what it comes to: refused where some sample is bad, else the fold
  pub passed_is : (t : S) (ss : List Sample) → passed t ss ≡ cond (any bad ss) (Err refusal) (Ok (fold more t ss))
  unfolding passed
  passed_is t [] = refl
  passed_is t (s ∷ ss) =
      by_test (bad s) (λ b. cond b (Err refusal) (passed (more t s) ss) ≡ cond (b || any bad ss) (Err refusal) (Ok (fold more (more t s) ss)))
      (λ e. refl) (λ e. passed_is (more t s) ss)

  -- a loop over the samples, with those that are left: what is to come from t is the whole, and P bounds what a number of samples comes to
  module _ (P : ℕ → S → Type 0) (whole : Result S E) where
    pub record Going (left : List Sample) (t : S) : Type 0 where
      pub comes : passed t left ≡ whole
      pub before : ℕ
      pub few : before + length left ≤ 1000
      pub bounded : P before t

    module _ {left rest : List Sample} {t : S} (g : Going left t) (s : Sample) (split : left ≡ s ∷ rest) where
      pub going_next : ((n : ℕ) → bad s ≡ false → P n t → P (n + 1) (more t s)) → {r : S} → Ok r ≡ with_one t s → Going rest r
      unfolding passed
      going_next keep {r} e =
          let a = accepted_by (bad s) _ e in
          let count : length left ≡ suc (length rest) = ap length split in
          record {
            comes = ap (λ (u : S). passed u rest) a.1 ∙ sym (ap (λ (b : Bool). cond b (Err refusal) (passed (more t s) rest)) a.0) ∙ sym (ap (passed t) split) ∙ g.comes;
            before = g.before + 1;
            few = omega (arith, g.few);
            bounded = subst⁻¹ (P (g.before + 1)) a.1 (keep g.before a.0 g.bounded);
          }

      pub going_stop : {x : E} → Err x ≡ with_one t s → Err x ≡ whole
      unfolding passed
      going_stop e =
          let a = refused_by (bad s) _ e in
          ap Err a.1 ∙ cond_yes _ _ refl a.0 ∙ sym (ap (passed t) split) ∙ g.comes

    pub going_end : {left : List Sample} {t : S} → Going left t → left ≡ [] → Ok t ≡ whole
    unfolding passed
    going_end {left} {t} g none = sym (ap (passed t) none) ∙ g.comes
