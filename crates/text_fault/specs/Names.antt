-- The names line's fault: it stands at the first byte that isn't the names line's.
use Rattle.std.specs.Prelude.{ℕ, ◌≡◌, ◌↔◌, true, List, length, nat_eq}
use Rattle.std.specs.List.{common_prefix_len}
use Rattle.chart_rules.specs.TextLines.{names_line, starts_with}

-- all bytes of the names line stand at a text's front exactly where the rules read it
abbrev pub NamesExact : Type 0
NamesExact =
    (text : List ℕ) → (starts_with names_line text ≡ true) ↔ (common_prefix_len nat_eq text names_line ≡ length names_line)
