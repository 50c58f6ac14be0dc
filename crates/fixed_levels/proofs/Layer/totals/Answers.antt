use Rattle.std.proofs.Common.{◌≡◌, ℕ, ◌<◌, ◌≤◌, length, take, ap, ◌∙◌, arith}
use Rattle.std.proofs.lemmas.List.{length-map}
use Rattle.fixed_levels.specs.declared.Sums.{Sums}
use Rattle.fixed_levels.specs.declared.place.Place.{Place}
use Rattle.fixed_levels.specs.Sums.{sum_of, squares_of, readings_of}
use Rattle.fixed_levels.proofs.Cutting.{Ends, less_fits, less_back, less_size, squares_less, squares_is, squares_small}
use Rattle.fixed_levels.proofs.Layer.totals.Goals as goal

-- the sums that the two calls answer
abbrev Before : Sums → ℕ → Place → Type 0
Before l at p = (p.sum ≡ sum_of (take at (readings_of l.places.now))) × (p.squares ≡ squares_of (take at (readings_of l.places.now)))

ends : (l : Sums) (s t : ℕ) (all before : Place) → (s < t) × (t ≤ length l.places.now) → Before l t all → Before l s before → Ends (readings_of l.places.now) s t all.sum before.sum all.squares before.squares
ends l s t all before h a b =
    let n : length (readings_of l.places.now) ≡ length l.places.now = length-map l.places.now (λ p. p.reading) in
    record { some = h.0; within = omega arith; few = omega arith; numbers = l.numbers; sum_all = a.0; sum-before = b.0; squares_all = a.1; squares_before = b.1 }

pub overflow_sub-result-2 : goal.overflow_sub-result-2
overflow_sub-result-2 c =
    let i = c.self.inside in
    less_fits (ends i.sums i.s i.t c.before-all.result c.before-before.result c.self.invariant (c.before-all.ensures.sum, c.before-all.ensures.squares) (c.before-before.ensures.sum, c.before-before.ensures.squares))

pub overflow_sub-result-3 : goal.overflow_sub-result-3
overflow_sub-result-3 c =
    let i = c.self.inside in
    squares_less (ends i.sums i.s i.t c.before-all.result c.before-before.result c.self.invariant (c.before-all.ensures.sum, c.before-all.ensures.squares) (c.before-before.ensures.sum, c.before-before.ensures.squares))

pub returns-clause-sum : goal.returns-clause-sum
returns-clause-sum c =
    let i = c.self.inside in
    less_back (ends i.sums i.s i.t c.before-all.result c.before-before.result c.self.invariant (c.before-all.ensures.sum, c.before-all.ensures.squares) (c.before-before.ensures.sum, c.before-before.ensures.squares)) ∙ ap sum_of c.self.view_is

pub returns-clause-squares : goal.returns-clause-squares
returns-clause-squares c =
    let i = c.self.inside in
    squares_is (ends i.sums i.s i.t c.before-all.result c.before-before.result c.self.invariant (c.before-all.ensures.sum, c.before-all.ensures.squares) (c.before-before.ensures.sum, c.before-before.ensures.squares)) ∙ ap squares_of c.self.view_is

pub invariant_of-result-clause-sum_small : goal.invariant_of-result-clause-sum_small
invariant_of-result-clause-sum_small c =
    let i = c.self.inside in
    less_size (ends i.sums i.s i.t c.before-all.result c.before-before.result c.self.invariant (c.before-all.ensures.sum, c.before-all.ensures.squares) (c.before-before.ensures.sum, c.before-before.ensures.squares))

pub invariant_of-result-clause-squares_small : goal.invariant_of-result-clause-squares_small
invariant_of-result-clause-squares_small c =
    let i = c.self.inside in
    squares_small (ends i.sums i.s i.t c.before-all.result c.before-before.result c.self.invariant (c.before-all.ensures.sum, c.before-all.ensures.squares) (c.before-before.ensures.sum, c.before-before.ensures.squares))
