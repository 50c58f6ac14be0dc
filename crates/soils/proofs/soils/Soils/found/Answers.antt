use Rattle.std.proofs.Common.{◌∙◌}
use Rattle.soils.proofs.Charged.{told, found_kinds}
use Rattle.soils.proofs.soils.Soils.found.Goals as goal

pub returns-clause-value : goal.returns-clause-value
returns-clause-value c = let l = c.args.self.now.spans in c.joined.ensures.value ∙ told l.capacity l.count l.cells.now l.few l.small l.room c.args.self.now.singles c.args.s c.args.t

pub returns-clause-count : goal.returns-clause-count
returns-clause-count c =
    let l = c.args.self.now.spans in
    found_kinds l.capacity l.count l.cells.now l.few l.small l.room c.args.self.now.singles c.args.s c.args.t c.joined.result (c.joined.ensures.value ∙ told l.capacity l.count l.cells.now l.few l.small l.room c.args.self.now.singles c.args.s c.args.t)
