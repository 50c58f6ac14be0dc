use Rattle.std.proofs.Common.{◌∙◌}
use Rattle.fixed_levels.proofs.Running.{last_keeps}
use Rattle.fixed_levels.proofs.Sums.before.Goals as goal

pub returns : goal.returns
returns c =
    let all = c.args.self.now in
    let k = last_keeps all.places.now c.args.at c.copied.result c.unwrap_or_default.result all.sums c.requires.within (c.copied.ensures ∙ c.last.ensures.value) c.unwrap_or_default.ensures in
    record { sum = k.0; squares = k.1 }
