use Rattle.std.proofs.Common.{ℕ, get_or, sym, refl, ◌∙◌, arith}
use Rattle.modes.specs.Modes.{first_most}
use Rattle.modes.proofs.Counting.{first_keeps, first_moves}
use Rattle.modes.proofs.first_greatest.Goals as goal
use Rattle.modes.proofs.first_greatest.Goals.{then-commoner, else-commoner}

pub loop-i-init : goal.loop-i-init
unfolding first_most
loop-i-init c = (omega arith, refl)

pub loop-i-preserved : goal.loop-i-preserved
loop-i-preserved c =
    let f : ℕ → ℕ = λ i. get_or c.args.counts.now i 0 in
    let i = c.loop-i.i in
    let best = c.loop-i.best in
    elim c.if-commoner.branch [
      | then-commoner w ↦
          (omega (arith, w.best-is), w.best-is ∙ first_moves f i best c.loop-i.invariant.1 (sym c.commoner.ensures.value ∙ w.if-commoner.true))
      | else-commoner w ↦
          (omega (arith, w.best-is, c.loop-i.invariant.0), w.best-is ∙ first_keeps f i best c.loop-i.invariant.1 (sym c.commoner.ensures.value ∙ w.if-commoner.false))
    ]
