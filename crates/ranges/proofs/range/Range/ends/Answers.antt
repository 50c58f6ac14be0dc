use Rattle.std.proofs.Common.{◌∙◌}
use Rattle.ranges.proofs.Charged.{told, ends_numbers}
use Rattle.ranges.proofs.range.Range.ends.Goals as goal

pub returns-clause-value : goal.returns-clause-value
returns-clause-value c = let l = c.args.self.now.spans in c.joined.ensures.value ∙ told l.capacity l.count l.cells.now l.few l.small l.room c.args.self.now.points c.args.s c.args.t

pub returns-clause-numbers : goal.returns-clause-numbers
returns-clause-numbers c =
    let l = c.args.self.now.spans in
    ends_numbers l.capacity l.count l.cells.now l.few l.small l.room c.args.self.now.points c.args.s c.args.t c.joined.result (c.joined.ensures.value ∙ told l.capacity l.count l.cells.now l.few l.small l.room c.args.self.now.points c.args.s c.args.t)
