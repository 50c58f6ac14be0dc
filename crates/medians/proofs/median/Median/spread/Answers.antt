use Rattle.std.proofs.Common.{◌≤◌, length, take, arith, rules, w64, SFits}
use Rattle.std.proofs.lemmas.Int.{to_z-of_z}
use Rattle.medians.proofs.Charged.{length_held, fee_is}
use Rattle.medians.proofs.median.Median.spread.Goals as goal

pub returns : goal.returns
returns c =
    let m = c.args.self.now in
    let ps = take m.list.len m.list.places.now in
    let fit : SFits w64 c.balance_of.result = search rules in
    let within : c.args.t ≤ length ps = omega (arith, length_held ps, c.requires.within) in
    record { fee = grind (arith, fee_is ps m.order c.args.s c.args.t c.requires.some within, to_z-of_z w64 c.balance_of.result fit) }
