-- docs/SPECIFICATION.md, "Control charts": the rows.
use Rattle.std.specs.Prelude.{ℕ, Bool, List, [], ◌∷◌, length, get_or, ltb}
use Rattle.chart_rules.specs.declared.Limits.{Limits}

-- average absolute, tolerance, run; range absolute, tolerance
abbrev pub limits : ℕ → ℕ → ℕ → ℕ → ℕ → Limits
limits al tl run ral rtl = record { al = al; tl = tl; run = run; ral = ral; rtl = rtl }

-- the rows 0 to 3
abbrev pub rows : List Limits
rows =
    limits 20 15 10 60 40  -- wheat protein
    ∷ limits 25 20 10 70 50  -- barley protein
    ∷ limits 25 20 15 80 60  -- soybean protein; of 0.40 and 0.60 for the range tolerance the table decides
    ∷ limits 20 15 10 60 45  -- soybean oil
    ∷ []

-- the chart row exists
abbrev pub row_exists : ℕ → Bool
row_exists row = ltb row (length rows)

-- a row's limits (of a row that doesn't exist: 0)
unfoldable pub limits_of : ℕ → Limits
limits_of row = get_or rows row (limits 0 0 0 0 0)
