-- By the numbers 12, 25 and 26 every list of calls is answered as by the former number 12, but for that number.
use mathlib.Core.Path.{◌≡◌, refl, sym, ◌∙◌, ap, ap₂}
use mathlib.Core.Bool.{Bool, true, false, not, ◌||◌, cond}
use mathlib.Core.List.{List, [], ◌∷◌, ◌++◌, map}
use lib.ListN.{take, drop}
use lib.Ieee.Fits.{and_l, and_r}
use Rattle.std.specs.Prelude.{Option, None, Some}
use Prim.Native.Nat.{ℕ, zero, suc, ◌+◌}
use native.Mathlib.Omega.{arith}
use lib.Dec.{T, ltb, eqb, eqb→eq}
use Rattle.std.specs.List.{slice_get}
use lib.IntN.{ℤ, nat_abs}
use Rattle.whole.specs.Lists.{all, Check}
use Rattle.station_rules.specs.Refusals.{first_number, number_of, refusal_of}
use Rattle.station_rules.specs.Sheets.{sheet_checks}
use Rattle.station_rules.specs.Lines.{LinePhase, Values}
use Rattle.station_rules.specs.Markets.{is_new, is_adjusted, is_shut, basis_of, basis_from, corrected_value, newest_day, too_high, market_checks, certificate_of}
use Rattle.station_rules.specs.Judging.{day_check, line_check, sheet_numbers, market_numbers}
use Rattle.station_rules.specs.Held.{Station}
use Rattle.station_rules.specs.Soundness.{sound_check}
use Rattle.station_rules.specs.Stations.{values_of, market_station, market_result, market_of}
use Rattle.station_rules.specs.Replies.{Reply, refused_by, certificate, market_reply}
use Rattle.station_rules.specs.Calls.{Call, sheet_call, repair_call, market_call, station_after, station_reply, replies, station_after_all}
use Rattle.station_rules.specs.Books.{or_refused}
use Rattle.station_rules.specs.Former.{is_open, former_checks, former_market, former_after, former_reply, former_replies, former_after_all, former_number, as_formerly}
use Rattle.station_rules.specs.Laws.{CertifiedAsBefore}
use Rattle.station_rules.specs.declared.Scan.{Scan}
use Rattle.station_rules.specs.declared.Asked.{Asked}
use Rattle.station_rules.specs.declared.Basis.{Basis}
use Rattle.station_rules.specs.declared.Certificate.{Certificate}
use Rattle.station_rules.proofs.Checks.{number_passes, known_number}
use Rattle.station_rules.proofs.Agreement.{checks_of, granted_of, all_known, reply_is, agrees}

-- ---- the number

abbrev formerly : Option ℕ → Option ℕ
formerly None = None
formerly (Some n) = Some (former_number n)

-- a check of both lists
same_check : (a : Bool) (n : ℕ) (o p : Option ℕ) → former_number n ≡ n → p ≡ formerly o → cond a (Some n) p ≡ formerly (cond a (Some n) o)
same_check true n o p e h = ap Some (sym e)
same_check false n o p e h = h

-- the numbers in the place of 12, and those after it
phase_checks : (phase : LinePhase) (old high : Bool)
    → cond (not (is_open phase)) (Some 12) (cond old (Some 13) (cond high (Some 14) None))
    ≡ formerly (cond (is_new phase) (Some 12) (cond (is_adjusted phase) (Some 25) (cond (is_shut phase) (Some 26) (cond old (Some 13) (cond high (Some 14) None)))))
phase_checks phase old high = grind arith

-- a number that was always the same: neither 25 nor 26
abbrev stays : ℕ → Bool
stays n = eqb (former_number n) n

-- checks of both lists, before others
same_before : (before after was : List (Check ℕ)) → T (all (λ c. stays c.answer) before) → first_number was ≡ formerly (first_number after)
    → first_number (before ++ was) ≡ formerly (first_number (before ++ after))
same_before [] after was t e = e
same_before (c ∷ cs) after was t e =
    same_check c.applies c.answer (first_number (cs ++ after)) (first_number (cs ++ was))
    (eqb→eq (former_number c.answer) c.answer (and_l (stays c.answer) (all (λ c. stays c.answer) cs) t))
    (same_before cs after was (and_r (stays c.answer) (all (λ c. stays c.answer) cs) t) e)

module _ (s : Station) (day line : ℕ) (scan : Scan) (asked : Asked) (basis : Basis) where
  abbrev v : Values
  v = values_of s line

  former_all : List (Check ℕ)
  former_all = sound_check s ∷ day_check s.day day ∷ line_check s.row line ∷ former_checks s.row v line scan asked basis day

  number_was : first_number former_all ≡ formerly (first_number (checks_of s (market_call day line scan asked basis)))
  unfolding former_all former_checks checks_of market_numbers market_checks
  number_was =
      let a = basis_from s.row asked in
      same_before (take 9 former_all) (drop 9 (checks_of s (market_call day line scan asked basis))) (drop 9 former_all) tt
      (phase_checks v.phase (ltb (newest_day v.newest + 7) day) (too_high a (nat_abs (basis_of a basis)) (nat_abs (corrected_value v scan asked line))))

-- ---- a market test

module _ (s next : Station) (c : Certificate) where
  same_station : (o : Option ℕ) → (market_result (formerly o) s next c).station ≡ (market_result o s next c).station
  same_station None = refl
  same_station (Some n) = refl

  known_former : (n : ℕ) → number_of (refusal_of n) ≡ n → number_of (refusal_of (former_number n)) ≡ former_number n
  known_former n e = go (eqb n 25 || eqb n 26)
    where
      go : (b : Bool) → number_of (refusal_of (cond b 12 n)) ≡ cond b 12 n
      go true = refl
      go false = e

  reply_was_lem : (o : Option ℕ) → ((n : ℕ) → o ≡ Some n → number_of (refusal_of n) ≡ n)
      → market_reply (market_result (formerly o) s next c).answer ≡ as_formerly (market_reply (market_result o s next c).answer)
  reply_was_lem None k = refl
  reply_was_lem (Some n) k = ap refused_by (known_former n (k n refl) ∙ ap former_number (sym (k n refl)))

-- ---- a call

after_same : (s : Station) (c : Call) → former_after s c ≡ station_after s c
unfolding former_after station_after former_market market_of checks_of former_all
after_same s (sheet_call day line numbers) = refl
after_same s (repair_call day) = refl
after_same s (market_call day line scan asked basis) =
    let c = certificate_of s.row (values_of s line) line scan asked basis in
    ap (λ (o : Option ℕ). (market_result o s (market_station s day) c).station) (number_was s day line scan asked basis)
    ∙ same_station s (market_station s day) c (first_number (checks_of s (market_call day line scan asked basis)))

-- a number of a sheet or a repair stays
refused_same : (cs : List (Check ℕ)) (reply : Reply) → ((n : ℕ) → first_number cs ≡ Some n → T (stays n)) → reply ≡ as_formerly reply
    → or_refused (first_number cs) reply ≡ as_formerly (or_refused (first_number cs) reply)
refused_same cs reply f e = go (first_number cs) refl
  where
    go : (o : Option ℕ) → first_number cs ≡ o → or_refused o reply ≡ as_formerly (or_refused o reply)
    go None q = e
    go (Some n) q = ap refused_by (sym (eqb→eq (former_number n) n (f n q)))

reply_same : (s : Station) (c : Call) → former_reply s c ≡ as_formerly (station_reply s c)
unfolding former_reply station_reply former_market market_of checks_of granted_of sheet_numbers sheet_checks former_all
reply_same s (sheet_call day line numbers) =
    let c = sheet_call day line numbers in
    reply_is s c ∙ refused_same (checks_of s c) (granted_of s c) (λ n. number_passes stays (checks_of s c) n tt) refl ∙ ap as_formerly (sym (reply_is s c))
reply_same s (repair_call day) =
    let c = repair_call day in
    reply_is s c ∙ refused_same (checks_of s c) (granted_of s c) (λ n. number_passes stays (checks_of s c) n tt) refl ∙ ap as_formerly (sym (reply_is s c))
reply_same s (market_call day line scan asked basis) =
    let call = market_call day line scan asked basis in
    let c = certificate_of s.row (values_of s line) line scan asked basis in
    ap (λ (o : Option ℕ). market_reply (market_result o s (market_station s day) c).answer) (number_was s day line scan asked basis)
    ∙ reply_was_lem s (market_station s day) c (first_number (checks_of s call)) (λ n. known_number (checks_of s call) n (all_known s call))

-- ---- every list of calls

answers_same : (s : Station) (calls : List Call) → former_replies s calls ≡ map as_formerly (replies s calls)
answers_same s [] = refl
answers_same s (c ∷ cs) =
    ap₂ (λ (r : Reply) (rs : List Reply). r ∷ rs) (reply_same s c)
    (ap (λ (t : Station). former_replies t cs) (after_same s c) ∙ answers_same (station_after s c) cs)

after_all_same : (s : Station) (calls : List Call) → former_after_all s calls ≡ station_after_all s calls
after_all_same s [] = refl
after_all_same s (c ∷ cs) = ap (λ (t : Station). former_after_all t cs) (after_same s c) ∙ after_all_same (station_after s c) cs

-- ---- certificates

abbrev reply_was : Option Reply → Option Reply
reply_was None = None
reply_was (Some r) = Some (as_formerly r)

at_place : (rs : List Reply) (place : ℕ) → slice_get (map as_formerly rs) place ≡ reply_was (slice_get rs place)
at_place [] place = refl
at_place (r ∷ rs) zero = refl
at_place (r ∷ rs) (suc place) = at_place rs place

module _ (d : ℕ) (i b : ℤ) (figure converted : ℕ) where
  abbrev given : Reply
  given = certificate d i b figure converted

  was_certificate : (o : Option Reply) → reply_was o ≡ Some given → o ≡ Some given
  was_certificate o e = grind arith

pub certified_as_before : CertifiedAsBefore
certified_as_before =
    record {
      answers = answers_same;
      after = after_all_same;
      book = λ row exists calls. answers_same _ calls ∙ ap (map as_formerly) (agrees row exists calls);
      certificates = λ s calls place d i b figure converted.
          let was = ap (λ (rs : List Reply). slice_get rs place) (answers_same s calls) ∙ at_place (replies s calls) place in (
            (λ e. was ∙ ap reply_was e),
            (λ e. was_certificate d i b figure converted (slice_get (replies s calls) place) (sym was ∙ e)),
          );
    }
