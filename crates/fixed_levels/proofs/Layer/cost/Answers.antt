use Rattle.std.proofs.Common.{ap, ◌∙◌, w64}
use Rattle.std.proofs.lemmas.Int.{to_z-of_z}
use Rattle.fixed_levels.specs.Sums.{squares_about}
use Rattle.fixed_levels.proofs.Spreading.{back}
use Rattle.fixed_levels.proofs.Cutting.{whole_told, cost_told}
use Rattle.fixed_levels.proofs.Layer.cost.Goals as goal

pub spread-requires-clause-whole : goal.spread-requires-clause-whole
spread-requires-clause-whole c =
    whole_told c.args.self.now (back c.args.level) c.totals.ensures.count c.totals.ensures.sum c.totals.ensures.squares

pub returns : goal.returns
returns c =
    record { value = cost_told c.args.self.now (back c.args.level) c.totals.ensures.count c.totals.ensures.sum c.totals.ensures.squares c.spread.result c.spread.ensures.value ∙ ap (λ x. squares_about x c.args.self.now) (to_z-of_z w64 c.args.level c.ranges.level) }
