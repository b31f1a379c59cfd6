-- docs/SPECIFICATION.md, "Ship lots" and "Refused calls": a lot's single tonnes, what is stated of them, numbers 29 to 31, and the number and values of an answer.
use Rattle.std.specs.Prelude.{ℕ, Bool, not, ◌||◌, List, [], ◌∷◌, map, length, replicate, flat_map, ltb, eqb, ℤ, pos, nat_abs, Result, Ok, Err, None, Some}
use Rattle.std.specs.Int.Signed.{lt_z}
use Rattle.std.specs.Ordering.{int_eq}
use Rattle.whole.specs.Lists.{any, Check, first_applying, total, largest, smallest}
use Rattle.whole.specs.Rounding.{nearest_tenth}
use Rattle.whole.specs.Says.{Says}
use Rattle.lot_rules.specs.declared.Sublot.{Sublot}
use Rattle.lot_rules.specs.declared.Statement.{Statement}
use Rattle.lot_rules.specs.declared.Refusal.{Refusal}
use Rattle.lot_rules.specs.declared.Refusal.TheVariants.{LotSize, BadSublot, UnlikeBasis}

-- the refusal's number
abbrev pub number_of : Refusal → ℕ
number_of LotSize = 29
number_of BadSublot = 30
number_of UnlikeBasis = 31

-- ---- the lot

-- a record's figure and basis, of one tonne
abbrev pub one_tonne : Sublot → Sublot
one_tonne r = record { figure = r.figure; basis = r.basis; tonnes = pos 1 }

-- a record of n tonnes counts as n records of one
unfoldable pub single_tonnes : Sublot → List Sublot
single_tonnes r = replicate (nat_abs r.tonnes) (one_tonne r)

-- the lot's single tonnes
unfoldable pub singles_of : List Sublot → List Sublot
singles_of records = flat_map single_tonnes records

-- the basis of the first record
unfoldable pub basis_of : List Sublot → ℤ
basis_of [] = pos 0
basis_of (r ∷ records) = r.basis

abbrev pub figure_of : Sublot → ℤ
figure_of r = r.figure

-- what is stated of single tonnes: their basis, lowest and highest figure, how many they are, the sum of their figures, and the mean, rounded as figures are reported
unfoldable pub statement_of : List Sublot → Statement
statement_of singles =
    let figures = map figure_of singles in
    record {
      basis = basis_of singles;
      lowest = nat_abs (smallest figures);
      highest = nat_abs (largest figures);
      tonnes = length singles;
      weighted_sum = nat_abs (total figures);
      mean = nearest_tenth (nat_abs (total figures)) (length singles);
    }

-- ---- numbers 29 to 31

-- outside low..high
abbrev pub outside : ℕ → ℕ → ℤ → Bool
outside low high z = lt_z z (pos low) || lt_z (pos high) z

-- 29: no record or more than 500
unfoldable pub bad_size : List Sublot → Bool
bad_size records = eqb (length records) 0 || ltb 500 (length records)

-- 30: tonnes outside 1..1000000, figure outside 0..1000 or basis outside 0..5000
unfoldable pub bad_sublot : Sublot → Bool
bad_sublot r = outside 1 1000000 r.tonnes || outside 0 1000 r.figure || outside 0 5000 r.basis

-- 31: two of the records are of unlike basis
unfoldable pub unlike_basis : List Sublot → Bool
unlike_basis records = any (λ r. any (λ q. not (int_eq q.basis r.basis)) records) records

-- each over the whole list before the next
unfoldable pub lot_checks : List Sublot → List (Check Refusal)
lot_checks records =
    record { applies = bad_size records; answer = LotSize }
    ∷ record { applies = any bad_sublot records; answer = BadSublot }
    ∷ record { applies = unlike_basis records; answer = UnlikeBasis }
    ∷ []

-- the statement of a lot
unfoldable pub lot_of : List Sublot → Result Statement Refusal
lot_of records = first_applying (Ok (statement_of (singles_of records))) Err (lot_checks records)

-- ---- the number and the values of an answer

-- the refusal's number, or basis, lowest, highest, tonnes, the sum of figure times tonnes, and the mean in tenths
abbrev pub lot_says : Result Statement Refusal → Says
lot_says (Ok s) =
    record { number = None; values = s.basis ∷ pos s.lowest ∷ pos s.highest ∷ pos s.tonnes ∷ pos s.weighted_sum ∷ pos s.mean ∷ [] }
lot_says (Err r) = record { number = Some (number_of r); values = [] }
