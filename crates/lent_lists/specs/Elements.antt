-- What a lent list holds.
use Rattle.std.specs.Prelude.{◌≡◌, List, take, drop}
use Rattle.lent_lists.specs.declared.LentList.{LentList}

-- its elements, in order
abbrev pub elements : {T : Type 0} → LentList T → List T
elements l = take l.len l.places.now

-- the places past the elements of the later one are as they were, and the memory is the one that was lent
abbrev pub same_beyond : {T : Type 0} → LentList T → LentList T → Type 0
same_beyond l later = (drop later.len later.places.now ≡ drop later.len l.places.now) × (later.places.ghost_name ≡ l.places.ghost_name)
