use Rattle.std.proofs.Common.{◌≡◌, ◌+◌, ◌-◌, Some, arith, rules}
use Rattle.spans.specs.Rows.{joined_cells_lem}
use Rattle.spans.proofs.Powers.{row_inside}
use Rattle.spans.proofs.Spans.{joined_is}
use Rattle.spans.proofs.joined_in.Goals as goal

pub span_in-first-requires : goal.span_in-first-requires
span_in-first-requires g c = record { inside = omega (arith, row_inside c.args.capacity c.row_for-row.result (c.args.s + c.power.result - 1) c.requires.small (omega arith) (omega arith)) }

pub span_in-last-requires : goal.span_in-last-requires
span_in-last-requires g c = record { inside = omega (arith, row_inside c.args.capacity c.row_for-row.result (c.args.t - 1) c.requires.small (omega arith) (omega arith)) }

pub returns-clause-built : goal.returns-clause-built
returns-clause-built g c n built le =
    let value : Some c.joined.result ≡ joined_cells_lem g.T.Joining.join c.args.capacity c.args.cells.now c.args.s c.args.t = search rules in
    joined_is g.T.Joining.join g.met.T.Joining.assoc g.met.T.Joining.idem c.args.capacity n c.args.cells.now c.requires.small c.requires.room built c.args.s c.args.t c.requires.some le c.requires.held c.joined.result value
