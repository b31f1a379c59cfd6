-- Worked cases of ship lots: the mean at its edges, the bounds of a record, and the order of the refusals.
use Rattle.std.specs.Prelude.{ℕ, List, [], ◌∷◌, replicate, ℤ, pos, negsuc, None, Some}
use Rattle.whole.specs.Says.{Says}
use Rattle.lot_rules.specs.Lots.{lot_of, lot_says}
use Rattle.lot_rules.specs.declared.Sublot.{Sublot}

pub record Case : Type 0 where
  pub gives : Says
  pub says : Says

-- a record's figure, basis and tonnes
abbrev pub sublot : ℤ → ℤ → ℤ → Sublot
sublot figure basis tonnes = record { figure = figure; basis = basis; tonnes = tonnes }

-- wheat at its standard basis, of a figure and tonnes
abbrev pub wheat : ℕ → ℕ → Sublot
wheat figure tonnes = sublot (pos figure) (pos 1200) (pos tonnes)

abbrev pub lot : List Sublot → Says → Case
lot records says = record { gives = lot_says (lot_of records); says = says }

-- what is stated at a basis: lowest and highest, tonnes, the sum of figure times tonnes, the mean
abbrev pub states_at : ℕ → ℕ → ℕ → ℕ → ℕ → ℕ → Says
states_at basis lowest highest tonnes weighted_sum mean =
    record { number = None; values = pos basis ∷ pos lowest ∷ pos highest ∷ pos tonnes ∷ pos weighted_sum ∷ pos mean ∷ [] }

abbrev pub states : ℕ → ℕ → ℕ → ℕ → ℕ → Says
states = states_at 1200

abbrev pub refuses : ℕ → Says
refuses number = record { number = Some number; values = [] }

-- the mean is rounded once, from the sum over the tonnes: below a half down, from an exact half on up
unfoldable pub stated : List Case
stated =
    lot (wheat 44 11 ∷ wheat 45 9 ∷ []) (states 44 45 20 889 44)
    ∷ lot (wheat 44 10 ∷ wheat 45 10 ∷ []) (states 44 45 20 890 45)
    ∷ lot (wheat 44 9 ∷ wheat 45 11 ∷ []) (states 44 45 20 891 45)
    ∷ lot (wheat 44 1 ∷ wheat 45 1 ∷ []) (states 44 45 2 89 45)
    ∷ lot (wheat 44 1 ∷ wheat 45 2 ∷ []) (states 44 45 3 134 45)
    ∷ lot (wheat 44 2 ∷ wheat 45 1 ∷ []) (states 44 45 3 133 44)
    -- in another order, and the first sublot in two records
    ∷ lot (wheat 45 9 ∷ wheat 44 11 ∷ []) (states 44 45 20 889 44)
    ∷ lot (wheat 44 5 ∷ wheat 45 9 ∷ wheat 44 6 ∷ []) (states 44 45 20 889 44)
    -- the lowest and the highest stand in the middle and last
    ∷ lot (wheat 120 3 ∷ wheat 118 1 ∷ wheat 125 2 ∷ []) (states 118 125 6 728 121)
    -- one record; the least and the largest figure
    ∷ lot (wheat 135 7 ∷ []) (states 135 135 7 945 135)
    ∷ lot (wheat 0 1 ∷ wheat 1000 1 ∷ []) (states 0 1000 2 1000 500)
    ∷ []

-- each number over the whole list before the next; 501 records are too many whatever they are
unfoldable pub refused : List Case
refused =
    lot [] (refuses 29)
    ∷ lot (replicate 501 (wheat 44 0)) (refuses 29)
    ∷ lot (wheat 44 1 ∷ sublot (pos 44) (pos 1400) (pos 1) ∷ wheat 44 0 ∷ []) (refuses 30)
    ∷ lot (wheat 44 1 ∷ sublot (pos 44) (pos 1400) (pos 1) ∷ []) (refuses 31)
    ∷ lot (wheat 44 1 ∷ wheat 44 1 ∷ sublot (pos 44) (pos 1199) (pos 1) ∷ []) (refuses 31)
    ∷ []

-- a record's bounds
unfoldable pub bounds : List Case
bounds =
    lot (sublot (pos 44) (pos 1200) (pos 0) ∷ []) (refuses 30)
    ∷ lot (sublot (pos 44) (pos 1200) (negsuc 0) ∷ []) (refuses 30)
    ∷ lot (sublot (pos 44) (pos 1200) (pos 1000001) ∷ []) (refuses 30)
    ∷ lot (sublot (negsuc 0) (pos 1200) (pos 1) ∷ []) (refuses 30)
    ∷ lot (sublot (pos 1001) (pos 1200) (pos 1) ∷ []) (refuses 30)
    ∷ lot (sublot (pos 44) (negsuc 0) (pos 1) ∷ []) (refuses 30)
    ∷ lot (sublot (pos 44) (pos 5001) (pos 1) ∷ []) (refuses 30)
    ∷ lot (wheat 44 1 ∷ wheat 44 1 ∷ wheat 1001 1 ∷ []) (refuses 30)
    -- a basis of 0 and of 5000 is within them
    ∷ lot (sublot (pos 44) (pos 0) (pos 1) ∷ []) (states_at 0 44 44 1 44 44)
    ∷ lot (sublot (pos 44) (pos 5000) (pos 1) ∷ []) (states_at 5000 44 44 1 44 44)
    ∷ []
