use Rattle.std.proofs.Common.{◌≡◌, ℕ, ◌+◌, ◌<◌, length, subst, arith, rules}
use Rattle.spans.specs.Rows.{cell, pushed_cell}
use Rattle.spans.proofs.Powers.{power_le, half_before, next_inside, cells_enough}
use Rattle.spans.proofs.Spans.{Filled, filled_first, filled_more, filled_cells, built_after}
use Rattle.spans.proofs.push_in.Goals as goal

pub offset_bounds-cells-count : goal.offset_bounds-cells-count
offset_bounds-cells-count g c = let inside : c.args.count < length c.args.cells.now = omega (arith, cells_enough c.args.capacity c.requires.small) in search rules

pub bounds-cells-count : goal.bounds-cells-count
bounds-cells-count g c = omega (arith, cells_enough c.args.capacity c.requires.small)

pub loop-row-init : goal.loop-row-init
loop-row-init g c = filled_first g.T.Joining.join c.args.capacity c.args.count c.args.cells.now c.args.element c.requires.small c.requires.free c.requires.room

pub overflow_sub-end : goal.overflow_sub-end
overflow_sub-end g c =
    let fits = power_le (c.loop-row.row + 1) c.row_for-row-end.result (omega arith) in
    omega (arith, half_before c.loop-row.row c.args.count (omega (arith, fits)))

pub fill-requires : goal.fill-requires
fill-requires g c =
    let fits = power_le (c.loop-row.row + 1) c.row_for-row-end.result (omega arith) in
    let inside = next_inside c.args.capacity c.loop-row.row c.args.count c.requires.small c.requires.free (omega (arith, fits)) in
    let long = c.loop-row.invariant.long in
    record { left = omega (arith, inside, long); right = omega (arith, inside, long); inside = omega (arith, inside, long) }

pub loop-row-preserved : goal.loop-row-preserved
loop-row-preserved g c =
    let fits = power_le (c.loop-row.row + 1) c.row_for-row-end.result (omega arith) in
    filled_more g.T.Joining.join c.args.capacity c.args.count c.args.cells.now c.args.element c.requires.small c.requires.free c.requires.room c.loop-row.row c.loop-row.cells c.loop-row.invariant (omega (arith, fits)) c.power.result c.power.ensures.value c.args.element c.fill.new.cells (c.fill.ensures.after c.args.element)

pub returns : goal.returns
returns g c =
    let join = g.T.Joining.join in
    let n = c.args.count in
    let w = c.args.capacity in
    let old = c.args.cells.now in
    let x = c.args.element in
    let now = c.loop-row.cells in
    let top = c.row_for-row-end in
    let filled = c.loop-row.invariant in
    let end : c.loop-row.row ≡ top.result = omega arith in
    let all = subst (λ k. Filled join w n old x (k + 1) now) end filled in
    let told : (i : ℕ) → cell now i ≡ pushed_cell join w n old x i = filled_cells join w n old x c.requires.small c.requires.free c.requires.room top.result now all top.ensures.reached top.ensures.passed in
    record {
      elements = filled.front;
      cells = told;
      beyond = filled.rest;
      built = λ b. built_after join w n old x c.requires.free (omega (arith, cells_enough w c.requires.small)) g.met.T.Joining.assoc b now filled.front told;
    }
