-- What the writes after a set come to: the places are spelled out, and the rest is computed.
use mathlib.Core.Path.{◌≡◌, refl, subst}
use mathlib.Core.List.{List, [], ◌∷◌}
use lib.IntN.{ℤ, pos}
use lib.ListN.{length, take, drop, set}
use Prim.Native.Nat.{suc, min}
use borrow.Rule.Slice.PartMut.{mid_of, put_mid}
use Rattle.whole.specs.Places.{place, natural, joined_sets}
use Rattle.whole.proofs.Spelled.{elements, spelled}

-- the week written, and a set joined in front in the places behind
abbrev pub written : List ℤ → ℤ → ℤ → ℤ → ℤ → List ℤ
written words week count plot range =
    let old = set words 1 week in
    put_mid 2 13 old (joined_sets 4 (mid_of 2 13 old) (count ∷ plot ∷ range ∷ []))

pub joined : (words : List ℤ) (week count plot range : ℤ) → length words ≡ 15
    → written words week count plot range ≡ place words 0 ∷ week ∷ pos (min 4 (suc (natural (place words 2)))) ∷ count ∷ plot ∷ range ∷ take 9 (drop 3 words)
unfolding elements
joined words week count plot range full =
    subst (λ (w : List ℤ). written w week count plot range ≡ place w 0 ∷ week ∷ pos (min 4 (suc (natural (place w 2)))) ∷ count ∷ plot ∷ range ∷ take 9 (drop 3 w))
    (spelled (pos 0) words 15 full) refl
