-- docs/SPECIFICATION.md, "Analyser readings" and "Wet gluten": the scan, and what it has of what is asked. A float's exact value in units of 2^−149, its reading and number 9's test are those of the crate `reading`.
use Rattle.std.specs.Prelude.{ℕ, zero, suc, Bool, true, false, ◌&&◌, Float}
use Rattle.std.specs.Float.{nan}
use Rattle.station_rules.specs.declared.CornSet.{CornSet}
use Rattle.station_rules.specs.declared.Scan.{Scan}
use Rattle.station_rules.specs.declared.Scan.TheVariants.{Wheat, Corn, Fault, WheatGluten}
use Rattle.station_rules.specs.declared.Asked.{Asked}
use Rattle.station_rules.specs.declared.Asked.TheVariants.{LineFigure, Gluten}

-- the scan is of the row's grain, wheat (0) or corn, and no fault
unfoldable pub scan_fits : ℕ → Scan → Bool
scan_fits zero (Wheat x) = true
scan_fits zero (Corn c) = false
scan_fits zero (Fault code) = false
scan_fits zero (WheatGluten w) = true
scan_fits (suc n) (Wheat x) = false
scan_fits (suc n) (Corn c) = true
scan_fits (suc n) (Fault code) = false
scan_fits (suc n) (WheatGluten w) = false

-- a corn set's float of a line: protein, oil, starch
unfoldable pub corn_float : CornSet → ℕ → Float
corn_float c zero = c.protein
corn_float c (suc zero) = c.oil
corn_float c (suc (suc line)) = c.starch

-- the line's float; a fault has none
unfoldable pub line_float : Scan → ℕ → Float
unfolding corn_float
line_float (Wheat x) line = x
line_float (Corn c) line = corn_float c line
line_float (Fault code) line = nan
line_float (WheatGluten w) line = w.protein

-- ---- gluten

-- the scan brings a gluten float; only a wheat scan may
unfoldable pub brings_gluten : Scan → Bool
brings_gluten (Wheat x) = false
brings_gluten (Corn c) = false
brings_gluten (Fault code) = false
brings_gluten (WheatGluten w) = true

-- the gluten float; no other scan has one
unfoldable pub gluten_float : Scan → Float
gluten_float (Wheat x) = nan
gluten_float (Corn c) = nan
gluten_float (Fault code) = nan
gluten_float (WheatGluten w) = w.gluten

-- ---- what is asked

-- the scan is of the row's grain and no fault, and where gluten is asked it brings that float
unfoldable pub scan_serves : ℕ → Scan → Asked → Bool
scan_serves row scan LineFigure = scan_fits row scan
scan_serves row scan (Gluten class) = scan_fits row scan && brings_gluten scan

-- the float asked for: the line's, or gluten's
unfoldable pub asked_float : Scan → Asked → ℕ → Float
asked_float scan LineFigure line = line_float scan line
asked_float scan (Gluten class) line = gluten_float scan
