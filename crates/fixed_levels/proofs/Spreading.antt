-- The numbers that a sum of squared distances is worked out from fit 64 bits.
use Rattle.std.proofs.Common.{◌≡◌, ℕ, ◌+◌, ◌*◌, ◌≤◌, true, T, ℤ, pos, ◌-ℤ◌, ◌*ℤ◌, nat_abs, ◌≤ℤ◌, sym, ap, ◌∙◌, subst, arith, w64, Fits, SFits, to_z, of_z, rules}
use lib.Signed.{non_neg}
use Rattle.std.proofs.lemmas.Nat.{mul-le}
use Rattle.std.proofs.lemmas.Int.{ints, to_z-of_z, to_z_pos}
use Rattle.readings.specs.Numbers.{number_reading}
use Rattle.readings.proofs.Ranges.{number_size}
use Rattle.fixed_levels.specs.declared.Totals.{Totals}
use Rattle.fixed_levels.specs.Fixed.{square}
use Rattle.fixed_levels.proofs.About.{number_square}
use Rattle.fixed_levels.proofs.Products.{nat_abs_product}

-- a number as it comes back from 64 bits
abbrev pub back : ℤ → ℤ
back z = to_z w64 (of_z w64 z)

small_fits : (z : ℤ) → nat_abs z ≤ 1024000000000000 → SFits w64 z
small_fits z h = omega (arith, ints)

twice_small_fits : (z : ℤ) → nat_abs z ≤ 1024000000000000 → SFits w64 (pos 2 *ℤ z)
twice_small_fits z h = omega (arith, ints)

less_small_fits : (n : ℕ) (z : ℤ) → n ≤ 2048000000000000 → nat_abs z ≤ 1024000000000000 → SFits w64 (pos n -ℤ pos 2 *ℤ z)
less_small_fits n z h k = omega (arith, ints)

pub same_less : {a b x y : ℤ} → a ≡ x → b ≡ y → a -ℤ b ≡ x -ℤ y
same_less e f = cc

same_product : {a b x y : ℤ} → a ≡ x → b ≡ y → a *ℤ b ≡ x *ℤ y
same_product e f = cc

from_zero : (n : ℕ) (z : ℤ) → z ≤ℤ pos n → pos (nat_abs (pos n -ℤ z)) ≡ pos n -ℤ z
from_zero n z h = omega (arith, ints)

cast_whole : (z : ℤ) (d : ℕ) → z ≡ pos d → SFits w64 z → T (non_neg z) × Fits w64 (nat_abs z)
cast_whole z d e fit = let small : SFits w64 (pos d) = subst (SFits w64) e fit in subst (λ y. T (non_neg y) × Fits w64 (nat_abs y)) (sym e) (tt, search rules)

-- n readings with the sum s and the squares q, the level l, and its square w as it was worked out
module _ (t : Totals) (l : ℤ) (number : number_reading l ≡ true) (whole : (pos 2 *ℤ (l *ℤ t.sum)) ≤ℤ pos (t.squares + t.count * square l)) {w : ℕ} (squared : w ≡ square (back l)) where
  abbrev n : ℕ
  n = t.count

  abbrev s : ℤ
  s = t.sum

  abbrev q : ℕ
  q = t.squares

  level_fits : SFits w64 l
  level_fits = let h = number_size l number in small_fits l (omega arith)

  sum_fits : SFits w64 s
  sum_fits = small_fits s (omega (arith, t.sum_small, t.few))

  square-back : w ≡ square l
  square-back = squared ∙ ap square (to_z-of_z w64 l level_fits)

  counted : n * w ≤ 1024 * 1000000000000
  counted = mul-le n w 1024 1000000000000 t.few (omega (arith, square-back, number_square l number))

  above : q + n * w ≤ 2048000000000000
  above = omega (arith, counted, t.squares_small, t.few)

  product_small : nat_abs (l *ℤ s) ≤ 1024000000000000
  product_small = omega (arith, nat_abs_product l s, mul-le (nat_abs l) (nat_abs s) 1000000 1024000000 (number_size l number) (omega (arith, t.sum_small, t.few)))

  product_is : back l *ℤ back s ≡ l *ℤ s
  product_is = same_product (to_z-of_z w64 l level_fits) (to_z-of_z w64 s sum_fits)

  pub product_fits : SFits w64 (back l *ℤ back s)
  product_fits = subst (SFits w64) (sym product_is) (small_fits (l *ℤ s) product_small)

  product_back : back (back l *ℤ back s) ≡ l *ℤ s
  product_back = to_z-of_z w64 (back l *ℤ back s) product_fits ∙ product_is

  pub twice_fits : SFits w64 (pos 2 *ℤ back (back l *ℤ back s))
  twice_fits = subst (λ z. SFits w64 (pos 2 *ℤ z)) (sym product_back) (twice_small_fits (l *ℤ s) product_small)

  less_is : to_z w64 (q + n * w) -ℤ back (pos 2 *ℤ back (back l *ℤ back s)) ≡ pos (q + n * w) -ℤ pos 2 *ℤ (l *ℤ s)
  less_is =
      same_less (to_z_pos w64 (q + n * w) (omega (arith, above))) (to_z-of_z w64 (pos 2 *ℤ back (back l *ℤ back s)) twice_fits ∙ ap (λ z. pos 2 *ℤ z) product_back)

  pub less_fits : SFits w64 (to_z w64 (q + n * w) -ℤ back (pos 2 *ℤ back (back l *ℤ back s)))
  less_fits = subst (SFits w64) (sym less_is) (less_small_fits (q + n * w) (l *ℤ s) above product_small)

  abbrev result : ℤ
  result = back (to_z w64 (q + n * w) -ℤ back (pos 2 *ℤ back (back l *ℤ back s)))

  result_back : result ≡ pos (q + n * square l) -ℤ pos 2 *ℤ (l *ℤ s)
  result_back = to_z-of_z w64 _ less_fits ∙ (less_is ∙ ap (λ k. pos (q + n * k) -ℤ pos 2 *ℤ (l *ℤ s)) square-back)

  whole_result : result ≡ pos (nat_abs (pos (q + n * square l) -ℤ pos 2 *ℤ (l *ℤ s)))
  whole_result = result_back ∙ sym (from_zero (q + n * square l) (pos 2 *ℤ (l *ℤ s)) whole)

  result_fits : SFits w64 result
  result_fits = subst (SFits w64) (sym (to_z-of_z w64 _ less_fits)) less_fits

  pub result_cast : T (non_neg result) × Fits w64 (nat_abs result)
  result_cast = cast_whole result _ whole_result result_fits

  pub result_is : pos (nat_abs result) ≡ pos (q + n * square l) -ℤ pos 2 *ℤ (l *ℤ s)
  result_is = ap (λ z. pos (nat_abs z)) result_back ∙ from_zero (q + n * square l) (pos 2 *ℤ (l *ℤ s)) whole
