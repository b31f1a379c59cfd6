-- All bytes of the names line stand at a text's front exactly where the rules read it.
use mathlib.Core.Path.{◌≡◌, refl, ap, ◌∙◌}
use mathlib.Core.Bool.{true, false}
use mathlib.Core.List.{List, [], ◌∷◌, ◌++◌}
use mathlib.Core.Logic.{⊎_elim}
use Prim.Native.Nat.{ℕ, ◌+◌}
use native.Mathlib.Omega.{arith}
use lib.ListN.{length, drop}
use lib.Dec.{eqb}
use borrow.Author.Tests.{eq-eqb, eqb-true}
use Rattle.std.specs.List.{common_prefix_len}
use Rattle.std.specs.Prelude.{nat_eq}
use Rattle.std.proofs.lemmas.Bool.{cases_Bool}
use Rattle.std.proofs.lemmas.Bool.Decides.{Decides-eqb}
use Rattle.std.proofs.lemmas.Slice.Eq.{starts_is}
use Rattle.chart_rules.specs.TextLines.{names_line, starts_with}
use Rattle.text_fault.specs.Names.{NamesExact}
use Rattle.text_fault.proofs.Lengths.{same_none}

same_front : (hs rest : List ℕ) → common_prefix_len nat_eq (hs ++ rest) hs ≡ length hs
same_front [] rest = same_none rest
same_front (h ∷ hs) rest =
    let one : common_prefix_len nat_eq ((h ∷ hs) ++ rest) (h ∷ hs) ≡ 1 + common_prefix_len nat_eq (hs ++ rest) hs = rw (eq-eqb h h refl) in
    omega (arith, one, same_front hs rest)

front_is : (cs hs : List ℕ) → common_prefix_len nat_eq cs hs ≡ length hs → (rest : List ℕ) × (cs ≡ hs ++ rest)
front_is cs [] e = (cs, refl)
front_is [] (h ∷ hs) e = absurd (omega arith)
front_is (c ∷ cs) (h ∷ hs) e =
    ⊎_elim
    (λ (b : eqb c h ≡ true).
    let one : common_prefix_len nat_eq (c ∷ cs) (h ∷ hs) ≡ 1 + common_prefix_len nat_eq cs hs = rw b in
    let more = front_is cs hs (omega (arith, one, e)) in
    (more.0, λ i. eqb-true c h b i ∷ more.1 i))
    (λ (b : eqb c h ≡ false).
    let none : common_prefix_len nat_eq (c ∷ cs) (h ∷ hs) ≡ 0 = rw b in
    absurd (omega (arith, none, e)))
    (cases_Bool (eqb c h))

pub names_exact : NamesExact
names_exact text =
    let says = starts_is Decides-eqb text names_line (starts_with names_line text) refl in (
      λ e. ap (λ (l : List ℕ). common_prefix_len nat_eq l names_line) (says.0 e) ∙ same_front names_line (drop (length names_line) text),
      λ e. let front = front_is text names_line e in says.1 front.0 front.1,
    )
