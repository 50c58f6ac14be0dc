use Rattle.std.proofs.Common.{arith}
use Rattle.std.proofs.lemmas.List.{length-take-le}
use Rattle.spans.proofs.Powers.{cells_enough}
use Rattle.spans.proofs.table.Spans.stands.Goals as goal

pub returns-clause-held : goal.returns-clause-held
returns-clause-held g c = let spans = c.args.self.now in length-take-le spans.count spans.cells.now (omega (arith, spans.few, spans.room, cells_enough spans.capacity spans.small))
