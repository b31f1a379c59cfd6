-- The book's intercept is the sum of the changes that its replies gave; the book's row stays; the reply at a place of the list.
use mathlib.Core.Path.{◌≡◌, refl, sym, ◌∙◌, ap}
use mathlib.Core.Bool.{Bool, true, false, cond}
use mathlib.Core.List.{List, [], ◌∷◌, ◌++◌, map}
use Rattle.std.specs.Prelude.{Option, None, Some}
use Prim.Native.Nat.{ℕ}
use native.Mathlib.Omega.{arith}
use lib.Dec.{eqb}
use lib.ListN.{length}
use Rattle.std.specs.List.{slice_get}
use lib.IntN.{ℤ, pos, ◌+ℤ◌, +ℤ_idl, +ℤ_idr}
use Rattle.std.proofs.lemmas.Int.{ints}
use Rattle.whole.specs.Lists.{total}
use Rattle.station_rules.specs.Replies.{refused_by}
use Rattle.station_rules.specs.Calls.{Call, sheet_call, repair_call, market_call}
use Rattle.station_rules.specs.Books.{Book, fresh_book, sheets_of, book_intercept, book_number, entry_of, accepted, granted_reply, or_refused, or_same, book_reply, book_after, book_replies, book_after_all}
use Rattle.station_rules.specs.Demand3.{change_in, is_sheet_of, changes_given}

-- a refused call gives no change
refused_change : (line : ℕ) (c : Call) (n : ℕ) → cond (is_sheet_of line c) (change_in (refused_by n)) (pos 0) ≡ pos 0
refused_change line c n = go (is_sheet_of line c)
  where
    go : (t : Bool) → cond t (pos 0) (pos 0) ≡ pos 0
    go true = refl
    go false = refl

-- an accepted call's change is added
accepted_change : (line : ℕ) (b : Book) (c : Call)
    → book_intercept line (accepted b c).entries
    ≡ cond (is_sheet_of line c) (change_in (granted_reply b c)) (pos 0) +ℤ book_intercept line b.entries
unfolding book_intercept accepted granted_reply entry_of
accepted_change line b (sheet_call day l numbers) = go (eqb l line)
  where
    go : (t : Bool)
        → total (map (λ e. e.change) (cond t (entry_of b day l numbers ∷ sheets_of line b.entries) (sheets_of line b.entries)))
        ≡ cond t (change_in (granted_reply b (sheet_call day l numbers))) (pos 0) +ℤ book_intercept line b.entries
    go true = refl
    go false = sym (+ℤ_idl (book_intercept line b.entries))
accepted_change line b (repair_call day) = sym (+ℤ_idl (book_intercept line b.entries))
accepted_change line b (market_call day l scan asked basis) = sym (+ℤ_idl (book_intercept line b.entries))

-- a call's change is added
call_change : (line : ℕ) (b : Book) (c : Call)
    → book_intercept line (book_after b c).entries
    ≡ cond (is_sheet_of line c) (change_in (book_reply b c)) (pos 0) +ℤ book_intercept line b.entries
unfolding book_after book_reply
call_change line b c = go (book_number b c)
  where
    go : (o : Option ℕ)
        → book_intercept line (or_same o b (accepted b c)).entries
        ≡ cond (is_sheet_of line c) (change_in (or_refused o (granted_reply b c))) (pos 0) +ℤ book_intercept line b.entries
    go None = accepted_change line b c
    go (Some n) = sym (ap (λ (z : ℤ). z +ℤ book_intercept line b.entries) (refused_change line c n) ∙ +ℤ_idl (book_intercept line b.entries))

-- x + i and then g is i and then x + g
regroup : (x i g : ℤ) → (x +ℤ i) +ℤ g ≡ i +ℤ (x +ℤ g)
regroup x i g = omega (arith, ints)

changes_from : (line : ℕ) (b : Book) (calls : List Call)
    → book_intercept line (book_after_all b calls).entries ≡ book_intercept line b.entries +ℤ changes_given line calls (book_replies b calls)
changes_from line b [] = sym (+ℤ_idr (book_intercept line b.entries))
changes_from line b (c ∷ cs) =
    changes_from line (book_after b c) cs
    ∙ ap (λ (z : ℤ). z +ℤ changes_given line cs (book_replies (book_after b c) cs)) (call_change line b c)
    ∙ regroup (cond (is_sheet_of line c) (change_in (book_reply b c)) (pos 0)) (book_intercept line b.entries) (changes_given line cs (book_replies (book_after b c) cs))

-- from a fresh book, the intercept is the sum of the changes given
pub changes : (line row : ℕ) (calls : List Call)
    → book_intercept line (book_after_all (fresh_book row) calls).entries ≡ changes_given line calls (book_replies (fresh_book row) calls)
unfolding book_intercept
changes line row calls = changes_from line (fresh_book row) calls ∙ +ℤ_idl (changes_given line calls (book_replies (fresh_book row) calls))

-- ---- the book's row stays

accepted_row : (b : Book) (c : Call) → (accepted b c).row ≡ b.row
unfolding accepted
accepted_row b (sheet_call day line numbers) = refl
accepted_row b (repair_call day) = refl
accepted_row b (market_call day line scan asked basis) = refl

row_after : (b : Book) (c : Call) → (book_after b c).row ≡ b.row
unfolding book_after
row_after b c = go (book_number b c)
  where
    go : (o : Option ℕ) → (or_same o b (accepted b c)).row ≡ b.row
    go None = accepted_row b c
    go (Some n) = refl

pub row_after_all : (b : Book) (calls : List Call) → (book_after_all b calls).row ≡ b.row
row_after_all b [] = refl
row_after_all b (c ∷ cs) = row_after_all (book_after b c) cs ∙ row_after b c

-- ---- the reply at a place

pub reply_at : (b : Book) (before after : List Call) (c : Call)
    → slice_get (book_replies b (before ++ c ∷ after)) (length before) ≡ Some (book_reply (book_after_all b before) c)
reply_at b [] after c = refl
reply_at b (x ∷ xs) after c = reply_at (book_after b x) xs after c
