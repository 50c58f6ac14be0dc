use Rattle.std.proofs.Common.{get_or, ◌∙◌, arith}
use Rattle.modes.specs.Modes.{occurrences}
use Rattle.modes.proofs.Counting.{first_same}
use Rattle.modes.proofs.Shows.{both_counts}
use Rattle.modes.proofs.mode_in.Goals as goal

pub returns : goal.returns
returns c =
    let xs = c.args.readings.now in
    let n = c.first_greatest-symbol.result in
    let told = c.tally-counts.ensures.counts in
    record {
      symbol = c.first_greatest-symbol.ensures.value ∙ first_same (λ i. get_or c.tally-counts.result i 0) (occurrences xs) 31 (λ i le. told i (omega arith));
      small = c.first_greatest-symbol.ensures.small;
      others = omega (arith, told n c.first_greatest-symbol.ensures.small, both_counts xs n);
    }
