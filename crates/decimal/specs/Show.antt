-- A number written in decimal.
use Rattle.std.specs.Prelude.{ℕ, zero, suc, ◌+◌, ◌/◌, ◌%◌, Bool, true, false, List, [], ◌∷◌, ◌++◌, ltb, ℤ, pos, negsuc}

-- n's digits, the most significant first, where k of them are enough
unfoldable pub shown : ℕ → ℕ → List ℕ
shown zero n = []
shown (suc k) n = elim (ltb n 10) [ true ↦ (48 + n) ∷ [] | false ↦ shown k (n / 10) ++ ((48 + n % 10) ∷ []) ]

-- n in decimal, with no leading zero: n + 1 digits are always enough
unfoldable pub show : ℕ → List ℕ
show n = shown (suc n) n

-- a whole number in decimal, with a minus sign below zero
unfoldable pub show_signed : ℤ → List ℕ
show_signed (pos n) = show n
show_signed (negsuc n) = 45 ∷ show (suc n)

-- 1 or 0
abbrev pub bit : Bool → ℕ
bit true = 49
bit false = 48
