-- What a sentence is made of: printable ASCII, a space to a tilde.
use Rattle.std.specs.Prelude.{ℕ, Bool, ◌&&◌, List, leb, IsTrue}
use Rattle.std.specs.List.{list_all}

abbrev pub is_printable : ℕ → Bool
is_printable c = leb 32 c && leb c 126

-- nothing but printable bytes: no line feed, no other control character
abbrev pub IsPrintable : List ℕ → Type 0
IsPrintable bytes = IsTrue (list_all is_printable bytes)
