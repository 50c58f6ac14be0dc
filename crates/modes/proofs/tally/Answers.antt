use Rattle.std.proofs.Common.{get_or, pos, sym, refl, ◌∙◌, arith, w64, SFits, rules}
use Rattle.std.proofs.lemmas.List.{get_or-replicate, length-set}
use Rattle.std.proofs.lemmas.Int.{to_z-of_z}
use Rattle.modes.proofs.Counting.{count_more}
use Rattle.modes.proofs.tally.Goals as goal

pub loop-reading-init : goal.loop-reading-init
loop-reading-init c = (refl, λ i lt. get_or-replicate 32 i 0 0 lt)

pub loop-reading-preserved : goal.loop-reading-preserved
loop-reading-preserved c =
    let xs = c.args.readings.now in
    let at = c.loop-reading.reading-index in
    let n = c.symbol_of-symbol.result in
    let fit : SFits w64 (get_or xs at (pos 0)) = search rules in
    let is = sym (to_z-of_z w64 (get_or xs at (pos 0)) fit) ∙ c.symbol_of-symbol.ensures.value in (
      length-set c.loop-reading.counts n _ ∙ c.loop-reading.invariant.0,
      count_more c.loop-reading.counts xs at n (omega arith) is (omega (arith, c.symbol_of-symbol.ensures.small, c.loop-reading.invariant.0)) c.loop-reading.invariant.1,
    )
