-- Of the symbols below i, the first of the greatest count.
use Rattle.std.proofs.Common.{◌≡◌, ◌-◌, ◌<◌, get_or}
use Rattle.modes.specs.Modes.{first_most}
use Rattle.modes.proofs.first_greatest.Given as goal

abbrev pub invariant-loop-i : goal.invariant-loop-i
invariant-loop-i l = (l.best < 32) × (l.best ≡ first_most (λ i. get_or l.fn.counts i 0) (l.i - 1))
