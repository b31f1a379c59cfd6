use mathlib.Core.Path.{◌≡◌, subst⁻¹}
use Rattle.std.proofs.Common.{arith}
use Rattle.std.proofs.lemmas.Int.{to_z-of_z}
use Rattle.station_rules.specs.Sheets.{closest_pair}
use Rattle.sheet_pairs.specs.Pairs.{pair_of}
use Rattle.sheet_pairs.proofs.PairLaws.{In, closest_in}
use Rattle.sheet_pairs.proofs.closest_pair.Goals as goal

pub returns : goal.returns
unfolding closest_pair
returns c =
    let e : pair_of c.closer-2.result ≡ closest_pair c.args.s.sample = grind (arith, to_z-of_z) in
    (e, subst⁻¹ In e (closest_in c.args.s.sample c.args.s.fine))
