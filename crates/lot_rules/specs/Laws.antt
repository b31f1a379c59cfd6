-- What a lot's statement promises besides the call's contract.
use Rattle.std.specs.Prelude.{ℕ, ◌+◌, ◌*◌, ◌≤◌, ◌<◌, ◌≡◌, ◌↔◌, false, List, ◌∷◌, ◌++◌, map, length, ℤ, pos, nat_abs, ◌≤ℤ◌, Ok}
use Rattle.std.specs.Prelude.{All, sum_by}
use mathlib.Core.List.{Permᴰ}
use Rattle.whole.specs.Lists.{total, largest, smallest}
use Rattle.whole.specs.Rounding.{nearest_tenth}
use Rattle.lot_rules.specs.Lots.{figure_of, basis_of, outside, lot_of}
use Rattle.lot_rules.specs.declared.Sublot.{Sublot}
use Rattle.lot_rules.specs.declared.Statement.{Statement}

-- ---- record by record

abbrev pub tonnes_in : Sublot → ℕ
tonnes_in r = nat_abs r.tonnes

-- figure times tonnes
abbrev pub weight_of : Sublot → ℕ
weight_of r = nat_abs r.figure * nat_abs r.tonnes

-- the statement worked out from the records, each taken once
unfoldable pub by_records : List Sublot → Statement
by_records records =
    record {
      basis = basis_of records;
      lowest = nat_abs (smallest (map figure_of records));
      highest = nat_abs (largest (map figure_of records));
      tonnes = sum_by tonnes_in records;
      weighted_sum = sum_by weight_of records;
      mean = nearest_tenth (sum_by weight_of records) (sum_by tonnes_in records);
    }

-- ---- which lots are stated

-- a record within its bounds
pub record InBounds (r : Sublot) : Type 0 where
  pub tonnes : (pos 1 ≤ℤ r.tonnes) × (r.tonnes ≤ℤ pos 1000000)
  pub figure : (pos 0 ≤ℤ r.figure) × (r.figure ≤ℤ pos 1000)
  pub basis : (pos 0 ≤ℤ r.basis) × (r.basis ≤ℤ pos 5000)

-- 1 to 500 records within their bounds, all of one basis
pub record GoodLot (records : List Sublot) (basis : ℤ) : Type 0 where
  pub size : (1 ≤ length records) × (length records ≤ 500)
  pub bounds : All InBounds records
  pub one_basis : All (λ r. r.basis ≡ basis) records

-- the mean's tenth lies between the lowest and the highest figure, and at most half a tenth from the sum over the tonnes, a half going up
pub record MeanBetween (s : Statement) : Type 0 where
  pub lowest : s.lowest ≤ s.mean
  pub highest : s.mean ≤ s.highest
  pub not_above : 2 * s.mean * s.tonnes ≤ 2 * s.weighted_sum + s.tonnes
  pub not_below : 2 * s.weighted_sum < 2 * s.mean * s.tonnes + s.tonnes

-- the sums' bounds
pub record SumsWithin (s : Statement) : Type 0 where
  pub some_tonnes : 1 ≤ s.tonnes
  pub most_tonnes : s.tonnes ≤ 500000000
  pub most_weight : s.weighted_sum ≤ 500000000000

pub record LotExact : Type 0 where
  -- a lot is stated exactly where it is good, and then by what its records come to, each taken once
  pub exactly : (records : List Sublot) (s : Statement) → (lot_of records ≡ Ok s) ↔ (GoodLot records s.basis × (s ≡ by_records records))
  pub mean : (records : List Sublot) (s : Statement) → lot_of records ≡ Ok s → MeanBetween s
  pub sums : (records : List Sublot) (s : Statement) → lot_of records ≡ Ok s → SumsWithin s

-- ---- the same lot

-- a sublot split into several of its figure and basis: a tonne each at least, and together its tonnes
pub record SplitInto (r : Sublot) (parts : List Sublot) : Type 0 where
  pub alike : All (λ p. (p.figure ≡ r.figure) × (p.basis ≡ r.basis)) parts
  pub tonnes : All (λ p. pos 1 ≤ℤ p.tonnes) parts
  pub together : total (map (λ p. p.tonnes) parts) ≡ r.tonnes

-- the same lot has the same statement, or the same refusal
pub record SameLot : Type 0 where
  -- its records in another order
  pub order : (records others : List Sublot) → Permᴰ records others → lot_of records ≡ lot_of others
  -- a sublot of 1 to 1000000 tonnes split, wherever it stands, as far as 500 records allow; read the other way round, sublots joined into one of at most 1000000 tonnes
  pub split : (before after parts : List Sublot) (r : Sublot) → outside 1 1000000 r.tonnes ≡ false → SplitInto r parts → length (before ++ (parts ++ after)) ≤ 500
      → lot_of (before ++ (parts ++ after)) ≡ lot_of (before ++ (r ∷ after))
