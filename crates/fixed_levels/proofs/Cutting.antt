-- The sums of a segment, from those before its two ends.
use Rattle.std.proofs.Common.{◌≡◌, ℕ, ◌+◌, ◌-◌, ◌*◌, ◌<◌, ◌≤◌, true, List, length, take, ℤ, pos, ◌+ℤ◌, ◌-ℤ◌, ◌*ℤ◌, nat_abs, ◌≤ℤ◌, sym, ap, ◌∙◌, subst, arith, length-take, w64, SFits}
use Rattle.std.proofs.ByRecursion.{All-take}
use Rattle.std.proofs.lemmas.Int.{ints, to_z-of_z}
use Rattle.charges.specs.Rules.{segment}
use Rattle.readings.specs.Numbers.{number_reading, all_numbers}
use Rattle.charges.proofs.Lawful.{all_from_pass}
use Rattle.fixed_levels.specs.Fixed.{square}
use Rattle.fixed_levels.specs.Sums.{sum_of, squares_of, squares_about}
use Rattle.fixed_levels.proofs.About.{about_is, sum_size}
use Rattle.fixed_levels.proofs.Holding.{sum_cut, squares_cut, sum_bound, squares_bound}
use Rattle.fixed_levels.proofs.Spreading.{back, same_less}

difference : (a b c : ℤ) → a ≡ b +ℤ c → a -ℤ b ≡ c
difference a b c e = omega (arith, ints)

sum-small : (z : ℤ) (n : ℕ) → nat_abs z ≤ n * 1000000 → n ≤ 1024 → SFits w64 z
sum-small z n h k = omega (arith, ints)

not_more : (d n : ℕ) (z : ℤ) → pos d ≡ pos n -ℤ z → z ≤ℤ pos n
not_more d n z e = omega (arith, ints)

-- the segment (s, t) of h, where a and p are the sums before t, and b and q those before s
pub record Ends (h : List ℤ) (s t : ℕ) (a b : ℤ) (p q : ℕ) : Type 0 where
  pub some : s < t
  pub within : t ≤ length h
  pub few : length h ≤ 1024
  pub numbers : all_numbers h ≡ true
  pub sum_all : a ≡ sum_of (take t h)
  pub sum-before : b ≡ sum_of (take s h)
  pub squares_all : p ≡ squares_of (take t h)
  pub squares_before : q ≡ squares_of (take s h)

sum_fits : (h : List ℤ) (n : ℕ) (a : ℤ) → all_numbers h ≡ true → length h ≤ 1024 → a ≡ sum_of (take n h) → SFits w64 a
sum_fits h n a numbers few e =
    let size = sum_size (take n h) (All-take (λ x. number_reading x ≡ true) n h (all_from_pass number_reading h numbers)) in
    subst (SFits w64) (sym e) (sum-small (sum_of (take n h)) (length (take n h)) size (simp length-take (omega arith)))

module _ {h : List ℤ} {s t : ℕ} {a b : ℤ} {p q : ℕ} (g : Ends h s t a b p q) where
  abbrev layer : List ℤ
  layer = segment h s t

  less_is : back a -ℤ back b ≡ sum_of layer
  less_is =
      same_less (to_z-of_z w64 a (sum_fits h t a g.numbers g.few g.sum_all)) (to_z-of_z w64 b (sum_fits h s b g.numbers g.few g.sum-before))
      ∙ difference a b (sum_of layer) (g.sum_all ∙ (sum_cut h s t g.some ∙ ap (λ z. z +ℤ sum_of layer) (sym g.sum-before)))

  pub less_fits : SFits w64 (back a -ℤ back b)
  less_fits = subst (SFits w64) (sym less_is) (sum-small (sum_of layer) (t - s) (sum_bound h s t g.some g.within g.numbers) (omega (arith, g.within, g.few)))

  pub less_back : back (back a -ℤ back b) ≡ sum_of layer
  less_back = to_z-of_z w64 (back a -ℤ back b) less_fits ∙ less_is

  pub less_size : nat_abs (back (back a -ℤ back b)) ≤ (t - s) * 1000000
  less_size = subst (λ z. nat_abs z ≤ (t - s) * 1000000) (sym less_back) (sum_bound h s t g.some g.within g.numbers)

  pub squares_less : q ≤ p
  squares_less = omega (arith, squares_cut h s t g.some, g.squares_all, g.squares_before)

  pub squares_is : p - q ≡ squares_of layer
  squares_is = omega (arith, squares_cut h s t g.some, g.squares_all, g.squares_before)

  pub squares_small : p - q ≤ (t - s) * 1000000000000
  squares_small = omega (arith, squares_is, squares_bound h s t g.some g.within g.numbers)

-- the sum of squared distances to l of the readings u, from their totals n, s and q
module _ (u : List ℤ) (l : ℤ) {n q : ℕ} {s : ℤ} (count : n ≡ length u) (sum : s ≡ sum_of u) (squares : q ≡ squares_of u) where
  about_told : pos (squares_about l u) ≡ pos (q + n * square l) -ℤ pos 2 *ℤ (l *ℤ s)
  about_told =
      about_is l u
      ∙ (ap (λ k. pos (k + length u * square l) -ℤ pos 2 *ℤ (l *ℤ sum_of u)) (sym squares)
      ∙ (ap (λ k. pos (q + k * square l) -ℤ pos 2 *ℤ (l *ℤ sum_of u)) (sym count)
      ∙ ap (λ z. pos (q + n * square l) -ℤ pos 2 *ℤ (l *ℤ z)) (sym sum)))

  pub whole_told : (pos 2 *ℤ (l *ℤ s)) ≤ℤ pos (q + n * square l)
  whole_told = not_more (squares_about l u) _ _ about_told

  pub cost_told : (r : ℕ) → pos r ≡ pos (q + n * square l) -ℤ pos 2 *ℤ (l *ℤ s) → r ≡ squares_about l u
  cost_told r e = ap nat_abs (e ∙ sym about_told)
