-- What a writer leaves in its buffer.
use Rattle.std.specs.Prelude.{ℕ, ◌+◌, ◌≡◌, List, ◌++◌, length, drop}
use Rattle.std.proofs.lemmas.List.Edits.{sets}

module _ {A : Type 0} where
  -- what is written stands in the buffer from position at on, every other place is as it was, and next is the position behind it
  pub record Put (old : List A) (at : ℕ) (what new : List A) (next : ℕ) : Type 0 where
    pub written : new ≡ sets old at what
    pub behind : next ≡ at + length what

  -- a buffer with this at its start: every place behind it is as it was
  abbrev pub overwritten : List A → List A → List A
  overwritten what buffer = what ++ drop (length what) buffer
