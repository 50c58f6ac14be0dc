-- A level set as a list.
use Rattle.std.specs.Prelude.{List, take, ℤ}
use Rattle.level_sets.specs.declared.LevelSet.{LevelSet}

-- its levels, in rising order
abbrev pub levels_of : LevelSet → List ℤ
levels_of s = take s.len s.levels
