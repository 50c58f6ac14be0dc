-- The sums of a segment, and how large they are.
use Rattle.std.proofs.Common.{◌≡◌, ℕ, ◌+◌, ◌-◌, ◌*◌, ◌<◌, ◌≤◌, true, List, ◌++◌, length, take, drop, ℤ, ◌+ℤ◌, nat_abs, sym, ap, ◌∙◌, subst, arith}
use Rattle.std.specs.List.{AllByRecursion}
use Rattle.std.proofs.lemmas.List.{take-take, drop-take, take-append-drop}
use Rattle.charges.specs.Rules.{segment}
use Rattle.charges.proofs.Lawful.{all_from_pass}
use Rattle.readings.specs.Numbers.{number_reading, all_numbers}
use Rattle.readings.proofs.Segments.{length-segment, segment_has}
use Rattle.fixed_levels.specs.Sums.{sum_of, squares_of}
use Rattle.fixed_levels.proofs.About.{sum-append, squares_append, sum_size, squares_size}

-- the readings before t are those before s and then the segment
module _ (h : List ℤ) (s t : ℕ) (lt : s < t) where
  cut : take s h ++ segment h s t ≡ take t h
  cut =
      let e : s + (t - s) ≡ t = omega arith in
      let rest : segment h s t ≡ drop s (take t h) = sym (drop-take s (t - s) h) ∙ ap (λ n. drop s (take n h)) e in
      ap (λ l. take s h ++ l) rest ∙ (ap (λ l. l ++ drop s (take t h)) (sym (take-take s t h (omega arith))) ∙ take-append-drop s (take t h))

  pub sum_cut : sum_of (take t h) ≡ sum_of (take s h) +ℤ sum_of (segment h s t)
  sum_cut = ap sum_of (sym cut) ∙ sum-append (take s h) (segment h s t)

  pub squares_cut : squares_of (take t h) ≡ squares_of (take s h) + squares_of (segment h s t)
  squares_cut = ap squares_of (sym cut) ∙ squares_append (take s h) (segment h s t)

  segment_numbers : all_numbers h ≡ true → AllByRecursion (λ x. number_reading x ≡ true) (segment h s t)
  segment_numbers n = segment_has (λ x. number_reading x ≡ true) h s t (all_from_pass number_reading h n)

  pub sum_bound : t ≤ length h → all_numbers h ≡ true → nat_abs (sum_of (segment h s t)) ≤ (t - s) * 1000000
  sum_bound le n = subst (λ k. nat_abs (sum_of (segment h s t)) ≤ k * 1000000) (length-segment h s t le) (sum_size (segment h s t) (segment_numbers n))

  pub squares_bound : t ≤ length h → all_numbers h ≡ true → squares_of (segment h s t) ≤ (t - s) * 1000000000000
  squares_bound le n = subst (λ k. squares_of (segment h s t) ≤ k * 1000000000000) (length-segment h s t le) (squares_size (segment h s t) (segment_numbers n))
