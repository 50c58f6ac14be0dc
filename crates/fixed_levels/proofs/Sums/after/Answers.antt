use Rattle.std.proofs.Common.{◌≡◌, length, ap, ◌∙◌, arith, w64}
use Rattle.std.proofs.lemmas.List.{take_all, length-map}
use Rattle.std.proofs.lemmas.Int.{ints, to_z-of_z}
use Rattle.readings.proofs.Ranges.{number_size}
use Rattle.charges.proofs.Lawful.{all_from_pass}
use Rattle.readings.specs.Numbers.{number_reading}
use Rattle.fixed_levels.specs.Fixed.{square}
use Rattle.fixed_levels.specs.Sums.{sum_of, squares_of, readings_of}
use Rattle.fixed_levels.proofs.About.{number_square, sum_size, squares_size}
use Rattle.fixed_levels.proofs.Running.{summed_push}
use Rattle.fixed_levels.proofs.Sums.after.Goals as goal

pub overflow_add-result : goal.overflow_add-result
overflow_add-result c =
    let all = c.args.self.now in
    let h = readings_of all.places.now in
    let n : length h ≡ length all.places.now = length-map all.places.now (λ p. p.reading) in
    let e : c.before-before.result.sum ≡ sum_of h = c.before-before.ensures.sum ∙ ap sum_of (take_all (length all.places.now) h (omega arith)) in
    let size = sum_size h (all_from_pass number_reading h all.numbers) in
    omega (arith, ints, number_size c.args.reading c.requires.number)

pub overflow_add-result-2 : goal.overflow_add-result-2
overflow_add-result-2 c =
    let all = c.args.self.now in
    let h = readings_of all.places.now in
    let n : length h ≡ length all.places.now = length-map all.places.now (λ p. p.reading) in
    let e : c.before-before.result.squares ≡ squares_of h = c.before-before.ensures.squares ∙ ap squares_of (take_all (length all.places.now) h (omega arith)) in
    let q = c.square_of.ensures.value ∙ ap square (to_z-of_z w64 c.args.reading c.ranges.reading) in
    omega (arith, squares_size h (all_from_pass number_reading h all.numbers), number_square c.args.reading c.requires.number)

pub returns-clause-sums : goal.returns-clause-sums
returns-clause-sums c =
    let all = c.args.self.now in
    let h = readings_of all.places.now in
    let n : length h ≡ length all.places.now = length-map all.places.now (λ p. p.reading) in
    let e : c.before-before.result.sum ≡ sum_of h = c.before-before.ensures.sum ∙ ap sum_of (take_all (length all.places.now) h (omega arith)) in
    let f : c.before-before.result.squares ≡ squares_of h = c.before-before.ensures.squares ∙ ap squares_of (take_all (length all.places.now) h (omega arith)) in
    let q = c.square_of.ensures.value ∙ ap square (to_z-of_z w64 c.args.reading c.ranges.reading) in
    let size = sum_size h (all_from_pass number_reading h all.numbers) in
    let k = number_size c.args.reading c.requires.number in
    let r = to_z-of_z w64 c.args.reading c.ranges.reading in
    summed_push all.places.now _ all.sums (omega (arith, ints)) (omega (arith, ap square r))
