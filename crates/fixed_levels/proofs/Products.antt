-- Products of signed numbers.
use Rattle.std.proofs.Common.{◌≡◌, suc, ◌+◌, ◌*◌, ℤ, pos, negsuc, ◌+ℤ◌, ◌*ℤ◌, neg_ℤ, nat_abs, sym, refl, ap, ◌∙◌, arith}
use borrow.Author.Differences.{up, down, sum_is_lem}
use lib.IntN.{+ℤ_invr, zero-*ℤ, *ℤ_comm}
use Rattle.std.proofs.lemmas.Int.{ints}
use Rattle.fixed_levels.specs.Fixed.{square}

pub square-is : (z : ℤ) → pos (square z) ≡ z *ℤ z
square-is (pos n) = refl
square-is (negsuc n) = refl

pub nat_abs-neg : (z : ℤ) → nat_abs (neg_ℤ z) ≡ nat_abs z
nat_abs-neg z = omega (arith, ints)

pub nat_abs_product : (a b : ℤ) → nat_abs (a *ℤ b) ≡ nat_abs a * nat_abs b
nat_abs_product (pos a) (pos b) = refl
nat_abs_product (pos a) (negsuc b) = nat_abs-neg (pos (a * suc b))
nat_abs_product (negsuc a) (pos b) = nat_abs-neg (pos (suc a * b))
nat_abs_product (negsuc a) (negsuc b) = refl

pub distributes : (a b c : ℤ) → (a +ℤ b) *ℤ c ≡ a *ℤ c +ℤ b *ℤ c
distributes a b c =
    let e : (up (a +ℤ b) + down a + down b) * up c ≡ (down (a +ℤ b) + up a + up b) * up c = ap (λ n. n * up c) (sum_is_lem a b) in
    let f : (up (a +ℤ b) + down a + down b) * down c ≡ (down (a +ℤ b) + up a + up b) * down c = ap (λ n. n * down c) (sum_is_lem a b) in
    omega (arith, ints)

opposite : (a b : ℤ) → a +ℤ b ≡ pos 0 → b ≡ neg_ℤ a
opposite a b e = omega (arith, ints)

pub neg_product : (a b : ℤ) → neg_ℤ a *ℤ b ≡ neg_ℤ (a *ℤ b)
neg_product a b = opposite (a *ℤ b) (neg_ℤ a *ℤ b) (sym (distributes a (neg_ℤ a) b) ∙ (ap (λ z. z *ℤ b) (+ℤ_invr a) ∙ zero-*ℤ b))

twice_neg : (a : ℤ) → neg_ℤ (neg_ℤ a) ≡ a
twice_neg a = omega (arith, ints)

pub neg-square : (a : ℤ) → neg_ℤ a *ℤ neg_ℤ a ≡ a *ℤ a
neg-square a = neg_product a (neg_ℤ a) ∙ (ap neg_ℤ (*ℤ_comm a (neg_ℤ a) ∙ neg_product a a) ∙ twice_neg (a *ℤ a))
