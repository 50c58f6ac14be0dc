use Rattle.ranges.proofs.Charged.{held_is}
use Rattle.ranges.proofs.Shows.{range_laws}
use Rattle.ranges.proofs.range.RangeCharge.count.Goals as goal

pub returns-clause-laws : goal.returns-clause-laws
returns-clause-laws c = range_laws _ c.args.self.now.spans.small

pub returns-clause-held : goal.returns-clause-held
returns-clause-held c = let l = c.args.self.now.spans in held_is l.capacity l.count l.cells.now l.few l.small l.room c.args.self.now.points
