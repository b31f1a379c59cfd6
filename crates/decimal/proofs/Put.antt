-- The laws of `Put`: one byte, one writer after another, and a whole buffer.
use mathlib.Core.Path.{◌≡◌, refl, sym, ap, ◌∙◌, subst}
use mathlib.Core.List.{List, [], ◌∷◌, ◌++◌, append_assoc}
use Prim.Native.Nat.{ℕ, suc, ◌+◌, ◌≤◌}
use native.Mathlib.Nat.{add-zero, add-suc, suc-add, zero-add}
use native.Mathlib.Omega.{arith}
use lib.ListN.{length, take, drop, set, length-append}
use lib.Seq.{sets, sets-eq, length-sets, drop-drop}
use borrow.Rule.Slice.PartMut.{put_mid}
use Rattle.decimal.specs.Put.{Put, overwritten}

module _ {A : Type 0} where
  pub sets_append : (a b l : List A) (i : ℕ) → sets (sets l i a) (i + length a) b ≡ sets l i (a ++ b)
  sets_append [] b l i = rw add-zero
  sets_append (x ∷ a) b l i =
      ap (λ (k : ℕ). sets (sets (set l i x) (suc i) a) k b) (add-suc i (length a) ∙ sym (suc-add i (length a)))
      ∙ sets_append a b (set l i x) (suc i)

  -- one place
  pub put_byte : (old : List A) (at : ℕ) (b : A) → Put old at (b ∷ []) (set old at b) (at + 1)
  put_byte old at b = record { written = refl; behind = refl }

  -- nothing
  pub put_none : (old : List A) (at : ℕ) → Put old at [] old at
  put_none old at = record { written = refl; behind = omega arith }

  -- one after another
  pub put_then : {old mid new a b : List A} {at k n : ℕ} → Put old at a mid k → Put mid k b new n → Put old at (a ++ b) new n
  put_then {old} {mid} {new} {a} {b} {at} {k} {n} p q =
      record {
        written =
            q.written
            ∙ ap (λ (l : List A). sets l k b) p.written
            ∙ ap (λ (j : ℕ). sets (sets old at a) j b) p.behind
            ∙ sets_append a b old at;
        behind = omega (arith, p.behind, q.behind, length-append a b);
      }

  -- a part of the buffer written over
  pub put_part : (old part what : List A) (at k : ℕ) → at + length what ≤ length old → part ≡ what → k ≡ length what
      → Put old at what (put_mid at k old part) (at + length what)
  put_part old part what at k h e n =
      record {
        written =
            (λ i. take at old ++ (e i ++ drop (n i) (drop at old)))
            ∙ ap (λ (l : List A). take at old ++ (what ++ l)) (drop-drop (length what) at old)
            ∙ sym (append_assoc (take at old) what _)
            ∙ sym (sets-eq what old at h);
        behind = refl;
      }

  -- the same, said otherwise
  pub put_is : {old new a b : List A} {at n : ℕ} → Put old at a new n → a ≡ b → Put old at b new n
  put_is {old} {new} {a} {b} {at} {n} p e = subst (λ (bytes : List A). Put old at bytes new n) e p

  pub put_length : {old new a : List A} {at n : ℕ} → Put old at a new n → length new ≡ length old
  put_length {old} {new} {a} {at} {n} p = ap length p.written ∙ length-sets old at a

  -- from a buffer's start: what was written, and then what the buffer had there
  pub put_whole : {old new a : List A} {n : ℕ} → Put old 0 a new n → length a ≤ length old → (new ≡ overwritten a old) × (n ≡ length a)
  put_whole {old} {new} {a} {n} p h =
      (p.written ∙ sets-eq a old 0 (omega arith) ∙ ap (λ (k : ℕ). a ++ drop k old) (zero-add (length a)), omega (arith, p.behind))
