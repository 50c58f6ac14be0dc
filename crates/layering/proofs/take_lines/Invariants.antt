-- The rules stay as they were.
use Rattle.std.proofs.Common.{◌≡◌}
use Rattle.layering.proofs.take_lines.Given as goal

abbrev pub invariant-loop-i : goal.invariant-loop-i
invariant-loop-i g l = (g.C.Charge.rules l.charge ≡ g.C.Charge.rules l.initial.charge) × (g.C.Charge.leveling l.charge ≡ g.C.Charge.leveling l.initial.charge)
