-- The rows below have the span that ends at the new element.
use Rattle.std.proofs.Common.{◌+◌}
use Rattle.spans.proofs.Spans.{Filled}
use Rattle.spans.proofs.push_in.Given as goal

abbrev pub invariant-loop-row : goal.invariant-loop-row
invariant-loop-row g l = Filled g.T.Joining.join l.capacity l.count l.fn.cells l.fn.element (l.row + 1) l.cells
