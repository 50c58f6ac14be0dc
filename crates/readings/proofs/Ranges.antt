-- How large a number reading is.
use Rattle.std.proofs.Common.{◌≡◌, ◌≤◌, true, ◌&&◌, ℤ, pos, negsuc, ◌-ℤ◌, nat_abs, ◌≤ℤ◌, arith}
use lib.Signed.{le_z}
use Rattle.std.proofs.lemmas.Int.{ints}
use Rattle.std.proofs.lemmas.Bool.{and_parts}
use Rattle.readings.specs.Numbers.{number_reading}

-- two numbers, neither above the other
pub both_int_le : (a b : ℤ) → (le_z a b && le_z b a) ≡ true → a ≡ b
both_int_le a b h = grind (arith, ints)

pub int_le-itself : (a : ℤ) → (le_z a a && le_z a a) ≡ true
int_le-itself a = grind (arith, ints)

int_le_le : (a b : ℤ) → le_z a b ≡ true → a ≤ℤ b
int_le_le a b h = grind (arith, ints)

pub number_low : (x : ℤ) → number_reading x ≡ true → negsuc 999999 ≤ℤ x
number_low x h = int_le_le _ _ (and_parts _ (le_z x (pos 1000000)) h).0

pub number_high : (x : ℤ) → number_reading x ≡ true → x ≤ℤ pos 1000000
number_high x h = int_le_le _ _ (and_parts (le_z (negsuc 999999) x) _ h).1

pub number_size : (x : ℤ) → number_reading x ≡ true → nat_abs x ≤ 1000000
number_size x h = let a = number_low x h in let b = number_high x h in omega (arith, ints)

pub number_apart : (x y : ℤ) → number_reading x ≡ true → number_reading y ≡ true → nat_abs (x -ℤ y) ≤ 2000000
number_apart x y h k = omega (arith, ints, number_low x h, number_high x h, number_low y k, number_high y k)
