use Rattle.fixed_levels.proofs.Spreading.{product_fits, twice_fits, less_fits, result_cast, result_is}
use Rattle.fixed_levels.proofs.Totals.spread.Goals as goal

pub overflow_mul-result : goal.overflow_mul-result
overflow_mul-result c = product_fits c.args.self c.args.level c.requires.number c.requires.whole c.square_of.ensures.value

pub overflow_mul-result-2 : goal.overflow_mul-result-2
overflow_mul-result-2 c = twice_fits c.args.self c.args.level c.requires.number c.requires.whole c.square_of.ensures.value

pub overflow_sub-result : goal.overflow_sub-result
overflow_sub-result c = less_fits c.args.self c.args.level c.requires.number c.requires.whole c.square_of.ensures.value

pub overflow_cast-result-2 : goal.overflow_cast-result-2
overflow_cast-result-2 c = result_cast c.args.self c.args.level c.requires.number c.requires.whole c.square_of.ensures.value

pub returns : goal.returns
returns c = record { value = result_is c.args.self c.args.level c.requires.number c.requires.whole c.square_of.ensures.value }
