-- The order of samples through the exported function: it gives and leaves what the station's call does.
use Rattle.std.specs.Prelude.{Result}
use mathlib.Core.Path.{◌≡◌, ap}
use mathlib.Core.List.{List}
use Prim.Native.Nat.{ℕ}
use lib.IntN.{ℤ}
use Rattle.station_rules.specs.InPlace.{Left, sheet_in}
use Rattle.station_rules.specs.Sheets.{numbers_of}
use Rattle.station_rules.proofs.Order.{order_free}
use Rattle.abi_station.specs.StationAnswers.{sheet_given, sheet_call}
use Rattle.abi_station.specs.Laws.{OrderFreeCall}
use Rattle.station_rules.specs.declared.Outcome.{Outcome}
use Rattle.station_refusals.specs.declared.Refusal.{Refusal}

given : (words : List ℤ) (day line : ℕ) (l k : List ℤ) → sheet_in words day line l ≡ sheet_in words day line k → sheet_call words day line l ≡ sheet_call words day line k
unfolding sheet_call
given words day line l k e = ap (λ (left : Left (Result Outcome Refusal)). record { answer = sheet_given left.answer; places = left.places }) e

pub order_free_call : OrderFreeCall
order_free_call =
    record {
      samples = λ words day line ss ts d. given words day line (numbers_of ss) (numbers_of ts) (order_free.places words day line ss ts d);
      numbers = λ words day line l k same d. given words day line l k (order_free.numbers words day line l k same d);
    }
