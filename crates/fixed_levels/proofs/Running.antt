-- The sums that the places keep.
use Rattle.std.proofs.Common.{◌≡◌, ℕ, zero, suc, ◌+◌, ◌-◌, ◌<◌, ◌≤◌, true, ◌&&◌, eqb, List, [], ◌∷◌, ◌++◌, length, get_or, take, ℤ, pos, ◌+ℤ◌, Option, Some, slice_get, refl, ap, ◌∙◌, subst, arith}
use Rattle.std.specs.Option.{UnwrapsOrElse}
use Rattle.std.proofs.lemmas.List.{length-take-le, get_or-take}
use Rattle.std.proofs.lemmas.Option.{slice_get-get_or}
use Rattle.std.proofs.lemmas.Int.{ints}
use Rattle.std.proofs.lemmas.Bool.{and_parts, and_from, eqb-true, eq-eqb}
use Rattle.fixed_levels.specs.declared.place.Place.{Place}
use Rattle.fixed_levels.specs.Fixed.{square}
use Rattle.readings.proofs.Ranges.{both_int_le, int_le-itself}
use Rattle.fixed_levels.specs.Sums.{sum_of, squares_of, readings_of, same_number, summed_from, summed}

same-itself : (a b : ℤ) → a ≡ b → same_number a b ≡ true
same-itself a b e = subst (λ x. same_number a x ≡ true) e (int_le-itself a)

-- what the parts of the test say
record Starts (a : ℤ) (b : ℕ) (p : Place) (ps : List Place) : Type 0 where
  sum : p.sum ≡ a +ℤ p.reading
  squares : p.squares ≡ b + square p.reading
  rest : summed_from p.sum p.squares ps ≡ true

starts : (a : ℤ) (b : ℕ) (p : Place) (ps : List Place) → summed_from a b (p ∷ ps) ≡ true → Starts a b p ps
starts a b p ps h =
    let one = and_parts (same_number p.sum (a +ℤ p.reading)) (eqb p.squares (b + square p.reading) && summed_from p.sum p.squares ps) h in
    let two = and_parts (eqb p.squares (b + square p.reading)) (summed_from p.sum p.squares ps) one.1 in
    record { sum = both_int_le _ _ one.0; squares = eqb-true _ _ two.0; rest = two.1 }

-- the sums at a place
sum_from : (a : ℤ) (b : ℕ) (ps : List Place) (i : ℕ) (d : Place) → summed_from a b ps ≡ true → i < length ps → (get_or ps i d).sum ≡ a +ℤ sum_of (take (suc i) (readings_of ps))
unfolding sum_of
sum_from a b [] i d h lt = absurd (omega arith)
sum_from a b (p ∷ ps) zero d h lt = (starts a b p ps h).sum ∙ omega (arith, ints)
sum_from a b (p ∷ ps) (suc i) d h lt =
    let s = starts a b p ps h in
    sum_from p.sum p.squares ps i d s.rest (omega arith) ∙ omega (arith, ints, s.sum)

squares_from : (a : ℤ) (b : ℕ) (ps : List Place) (i : ℕ) (d : Place) → summed_from a b ps ≡ true → i < length ps → (get_or ps i d).squares ≡ b + squares_of (take (suc i) (readings_of ps))
unfolding squares_of
squares_from a b [] i d h lt = absurd (omega arith)
squares_from a b (p ∷ ps) zero d h lt = (starts a b p ps h).squares ∙ omega arith
squares_from a b (p ∷ ps) (suc i) d h lt =
    let s = starts a b p ps h in
    squares_from p.sum p.squares ps i d s.rest (omega arith) ∙ omega (arith, s.squares)

-- what the last of the first places keeps, and zeros where there is none
abbrev Keeps : List Place → ℕ → Place → Type 0
Keeps ps at r = (r.sum ≡ sum_of (take at (readings_of ps))) × (r.squares ≡ squares_of (take at (readings_of ps)))

abbrev Zeros : Place → Type 0
Zeros r = (r.reading ≡ pos 0) × ((r.sum ≡ pos 0) × (r.squares ≡ 0))

pub last_keeps : (ps : List Place) (at : ℕ) (o : Option Place) (r : Place) → summed ps ≡ true → at ≤ length ps → o ≡ slice_get (take at ps) (length (take at ps) - 1) → UnwrapsOrElse o Zeros r → Keeps ps at r
unfolding sum_of squares_of
last_keeps ps zero o r h le e is = let z = subst (λ w. UnwrapsOrElse w Zeros r) e is in (z.1.0, z.1.1)
last_keeps ps (suc n) o r h le e is =
    let long : length (take (suc n) ps) ≡ suc n = length-take-le (suc n) ps le in
    let lt : n < length (take (suc n) ps) = omega arith in
    let last : length (take (suc n) ps) - 1 ≡ n = omega arith in
    let there : o ≡ Some (get_or ps n r) = e ∙ (ap (slice_get (take (suc n) ps)) last ∙ (slice_get-get_or (take (suc n) ps) n r lt ∙ ap Some (get_or-take (suc n) ps n r (omega arith)))) in
    let same : r ≡ get_or ps n r = subst (λ w. UnwrapsOrElse w Zeros r) there is in (
      ap (λ p. p.sum) same ∙ (sum_from (pos 0) 0 ps n r h (omega arith) ∙ omega (arith, ints)),
      ap (λ p. p.squares) same ∙ (squares_from (pos 0) 0 ps n r h (omega arith) ∙ omega arith),
    )

-- one place more
push_from : (a : ℤ) (b : ℕ) (ps : List Place) (p : Place) → summed_from a b ps ≡ true → p.sum ≡ (a +ℤ sum_of (readings_of ps)) +ℤ p.reading → p.squares ≡ (b + squares_of (readings_of ps)) + square p.reading → summed_from a b (ps ++ (p ∷ [])) ≡ true
unfolding sum_of squares_of
push_from a b [] p h e f =
    let sum : p.sum ≡ a +ℤ p.reading = omega (arith, ints) in
    let squares : p.squares ≡ b + square p.reading = omega arith in
    and_from _ _ (same-itself _ _ sum) (and_from _ _ (eq-eqb _ _ squares) refl)
push_from a b (q ∷ qs) p h e f =
    let s = starts a b q qs h in
    let one = and_parts (same_number q.sum (a +ℤ q.reading)) (eqb q.squares (b + square q.reading) && summed_from q.sum q.squares qs) h in
    let two = and_parts (eqb q.squares (b + square q.reading)) (summed_from q.sum q.squares qs) one.1 in
    and_from _ _ one.0 (and_from _ _ two.0 (push_from q.sum q.squares qs p two.1 (omega (arith, ints, s.sum)) (omega (arith, s.squares))))

pub summed_push : (ps : List Place) (p : Place) → summed ps ≡ true → p.sum ≡ sum_of (readings_of ps) +ℤ p.reading → p.squares ≡ squares_of (readings_of ps) + square p.reading → summed (ps ++ (p ∷ [])) ≡ true
summed_push ps p h e f = push_from (pos 0) 0 ps p h (omega (arith, ints)) (omega arith)
