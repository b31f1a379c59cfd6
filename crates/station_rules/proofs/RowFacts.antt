-- What the proofs need of the table of product rows, for an arbitrary row: one test computed over the table, and one law.
use mathlib.Core.Path.{◌≡◌}
use mathlib.Core.Bool.{Bool, true, ◌&&◌}
use native.Mathlib.Omega.{arith}
use Prim.Native.Nat.{ℕ, ◌≤◌, ◌<◌}
use lib.Dec.{T, leb, ltb}
use lib.ListN.{length, get_or}
use Rattle.whole.specs.Lists.{all}
use Rattle.std.proofs.lemmas.Bool.{and_parts}
use Rattle.std.proofs.lemmas.Bool.Decides.{nat_tests}
use Rattle.std.proofs.lemmas.List.Sums.{AllPass-from_list_all}
use lib.Ieee.Bits.{is_true}
use Rattle.station_rules.specs.Rows.{Row, rows, corn, limits, row_of, samples, standard_basis, line_count, limits_of}
use Rattle.station_rules.specs.declared.Limits.{Limits}
use Rattle.whole.proofs.Elements.{at_all}

-- a limit of 1..1000
abbrev limit_fine : ℕ → Bool
limit_fine n = leb 1 n && leb n 1000

abbrev limits_fine : Limits → Bool
limits_fine l =
    limit_fine l.pair && limit_fine l.sample && limit_fine l.range
    && limit_fine l.one && limit_fine l.two && limit_fine l.three && limit_fine l.five && limit_fine l.check

abbrev row_fine : Row → Bool
row_fine r =
    leb 1 r.samples && leb r.samples 6 && ltb r.basis 10000 && leb (length r.lines) 3 && all limits_fine r.lines

-- the table passes
table_fine : T (all row_fine rows)
table_fine = tt

pub record LimitFacts (n : ℕ) : Type 0 where
  pub least : 1 ≤ n
  pub most : n ≤ 1000

pub record LimitsFacts (l : Limits) : Type 0 where
  pub pair : LimitFacts l.pair
  pub sample : LimitFacts l.sample
  pub range : LimitFacts l.range
  pub one : LimitFacts l.one
  pub two : LimitFacts l.two
  pub three : LimitFacts l.three
  pub five : LimitFacts l.five
  pub check : LimitFacts l.check

pub record RowFacts (row : ℕ) : Type 0 where
  pub some_samples : 1 ≤ samples row
  pub six_samples : samples row ≤ 6
  pub basis_below : standard_basis row < 10000
  pub three_lines : line_count row ≤ 3
  pub line_limits : (line : ℕ) → line < line_count row → LimitsFacts (limits_of row line)

limit_facts : (n : ℕ) → limit_fine n ≡ true → LimitFacts n
limit_facts n e = record { least = grind (arith, nat_tests); most = grind (arith, nat_tests) }

limits_facts : (l : Limits) → limits_fine l ≡ true → LimitsFacts l
limits_facts l e =
    record {
      pair = limit_facts l.pair (grind arith);
      sample = limit_facts l.sample (grind arith);
      range = limit_facts l.range (grind arith);
      one = limit_facts l.one (grind arith);
      two = limit_facts l.two (grind arith);
      three = limit_facts l.three (grind arith);
      five = limit_facts l.five (grind arith);
      check = limit_facts l.check (grind arith);
    }

pub row_facts : (row : ℕ) → RowFacts row
unfolding samples standard_basis line_count limits_of row_of
row_facts row =
    let r = get_or rows row corn in
    let e : row_fine r ≡ true = is_true (row_fine r) (at_all row_fine corn rows tt table_fine row) in
    record {
      some_samples = grind (arith, nat_tests);
      six_samples = grind (arith, nat_tests);
      basis_below = grind (arith, nat_tests);
      three_lines = grind (arith, nat_tests);
      line_limits = λ line h. limits_facts (get_or r.lines line (limits 0 0 0 0 0 0 0 0)) (AllPass-from_list_all limits_fine r.lines (and_parts _ (all limits_fine r.lines) e).1 line (limits 0 0 0 0 0 0 0 0) h);
    }
