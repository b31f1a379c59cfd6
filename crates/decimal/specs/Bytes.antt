-- A text as its bytes, so that a definition can be read: `bytes "ab"` is 97 ∷ 98 ∷ []. The characters are ASCII's.
use Rattle.std.specs.Prelude.{ℕ, List}
use Prim.Native.Char.{code}
use Prim.Native.String.{String, [], ◌∷◌}
use mathlib.Core.List as L

abbrev pub bytes : String → List ℕ
bytes [] = L.[]
bytes (c ∷ cs) = L.◌∷◌ (code c) (bytes cs)

-- what stands between two fields, and what ends a line
abbrev pub space : ℕ
space = code " "

abbrev pub line_feed : ℕ
line_feed = code "\n"
