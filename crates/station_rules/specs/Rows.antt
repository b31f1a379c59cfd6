-- docs/SPECIFICATION.md, "Product rows": the table. Limits are whole hundredths of a percent.
use Rattle.std.specs.Prelude.{ℕ, Bool, List, [], ◌∷◌, length, get_or, ltb}
use Rattle.station_rules.specs.declared.Limits.{Limits}

-- samples a sheet, standard basis A, and the limits of each line
pub record Row : Type 0 where
  pub samples : ℕ
  pub basis : ℕ
  pub lines : List Limits

-- pair limit, sample limit, range limit; averages for one, two, three, five sets; check limit
abbrev pub limits : (pair sample range one two three five check : ℕ) → Limits
limits pair sample range one two three five check =
    record { pair = pair; sample = sample; range = range; one = one; two = two; three = three; five = five; check = check }

-- row 0: protein
abbrev pub wheat : Row
wheat = record { samples = 6; basis = 1200; lines = limits 30 40 50 10 7 5 3 5 ∷ [] }

-- row 1: protein, oil, starch
abbrev pub corn : Row
corn =
    record {
      samples = 4;
      basis = 0;
      lines = limits 30 40 50 15 10 7 5 7 ∷ limits 40 50 60 15 10 7 6 7 ∷ limits 90 80 150 35 25 20 15 20 ∷ [];
    }

abbrev pub rows : List Row
rows = wheat ∷ corn ∷ []

-- the product row exists
abbrev pub row_exists : ℕ → Bool
row_exists row = ltb row (length rows)

-- the row of a number; no call is judged by what stands for a row past the table's end (numbers 0 and 1)
unfoldable pub row_of : ℕ → Row
row_of row = get_or rows row corn

-- samples a sheet
unfoldable pub samples : ℕ → ℕ
samples row = (row_of row).samples

-- the standard basis A
unfoldable pub standard_basis : ℕ → ℕ
standard_basis row = (row_of row).basis

-- how many lines the row has
unfoldable pub line_count : ℕ → ℕ
line_count row = length (row_of row).lines

-- the limits of a row's line; no call is judged by what stands for a line that the row lacks (number 3)
unfoldable pub limits_of : ℕ → ℕ → Limits
limits_of row line = get_or (row_of row).lines line (limits 0 0 0 0 0 0 0 0)
