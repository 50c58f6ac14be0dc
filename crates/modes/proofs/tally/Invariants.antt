-- What came by is counted.
use Rattle.std.proofs.Common.{◌≡◌, ℕ, ◌<◌, length, get_or, take}
use Rattle.modes.specs.Modes.{occurrences}
use Rattle.modes.proofs.tally.Given as goal

abbrev pub invariant-loop-reading : goal.invariant-loop-reading
invariant-loop-reading l = (length l.counts ≡ 32) × ((i : ℕ) → i < 32 → get_or l.counts i 0 ≡ occurrences (take l.reading-index l.readings) i)
