-- What a span table holds.
use Rattle.std.specs.Prelude.{◌≡◌, List, take, drop}
use Rattle.spans.specs.declared.Joining.{Ghosts}
use Rattle.spans.specs.declared.table.Spans.{Spans}
use Rattle.spans.specs.Rows.{cells_for}

module _ {T : Type 0} {J : Ghosts T} where
  -- its elements, in order
  abbrev pub elements : Spans T J → List T
  elements s = take s.count s.cells.now

  -- the cells past what the capacity needs are as they were, and the memory is the one that was lent
  abbrev pub same_past : Spans T J → Spans T J → Type 0
  same_past s later = (drop (cells_for s.capacity) later.cells.now ≡ drop (cells_for s.capacity) s.cells.now) × (later.cells.ghost_name ≡ s.cells.ghost_name)
