-- Laws of tests, as propositions and as equations: the library's, under the names that proofs cite here, and one of a conjunction's parts.
pub use mathlib.Core.Bool.{and-true as and_true, and-false as and_false, or-false as or_false, or-true as or_true, or_assoc}
pub use lib.Ieee.Fits.{and_l, and_r}
pub use lib.Ieee.Bits.{is_true as to_true}
pub use Rattle.std.specs.Bool.{passes as of_true}
pub use Rattle.std.proofs.lemmas.Bool.{and_parts as and_both, or_parts as or_none}
use mathlib.Core.Path.{◌≡◌}
use mathlib.Core.Bool.{Bool, ◌&&◌}

pub and2 : {a b x y : Bool} → a ≡ x → b ≡ y → a && b ≡ x && y
and2 p q = λ i. p i && q i
