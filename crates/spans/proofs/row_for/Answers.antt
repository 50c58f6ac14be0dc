use Rattle.std.proofs.Common.{arith}
use Rattle.spans.proofs.Powers.{double, rows_are}
use Rattle.spans.proofs.row_for.Goals as goal

pub returns-clause-value : goal.returns-clause-value
returns-clause-value c = rows_are c.args.n c.ilog2.result c.ilog2.ensures.power_le (omega (arith, double c.ilog2.result))
