-- The set of the symbols of a list, digit by digit.
use Rattle.std.proofs.Common.{◌≡◌, ℕ, zero, suc, ◌+◌, ◌*◌, ◌^◌, ◌<◌, ◌≤◌, Bool, true, false, cond, ◌||◌, eqb, List, [], ◌∷◌, ◌++◌, ℤ, nat_abs, sym, refl, ap, ◌∙◌, ap₂, ⊎_elim, arith}
use lib.Bits.{bit_or, or_block}
use lib.Count.{ones, ones_cat}
use Rattle.std.proofs.lemmas.Nat.{pow_pos, pow-add, pow_below}
use Rattle.std.proofs.lemmas.Bool.{cases_eq, eq-eqb, ne_eqb}
use Rattle.soils.specs.Soils.{occurs, different_below, set_below}

abbrev digit : Bool → ℕ
digit b = cond b 1 0

digit_small : (b : Bool) → digit b ≤ 1
digit_small true = omega arith
digit_small false = omega arith

twice : (n : ℕ) → 2 ^ suc n ≡ 2 ^ n + 2 ^ n
twice n = omega (arith, pow-add 2 1 n)

digit_below : (b : Bool) (n r : ℕ) → r < 2 ^ n → digit b * 2 ^ n + r < 2 ^ suc n
digit_below true n r lt = omega (arith, lt, twice n)
digit_below false n r lt = omega (arith, lt, twice n)

pub set-small : (n : ℕ) (u : List ℤ) → set_below n u < 2 ^ n
unfolding set_below
set-small zero u = omega arith
set-small (suc n) u = digit_below (occurs n u) n (set_below n u) (set-small n u)

digit_ones : (b : Bool) → ones (digit b) ≡ digit b
unfolding ones
digit_ones true = refl
digit_ones false = refl

pub ones_different : (n : ℕ) (u : List ℤ) → ones (set_below n u) ≡ different_below n u
unfolding set_below different_below ones
ones_different zero u = refl
ones_different (suc n) u = ones_cat n (digit (occurs n u)) (set_below n u) (set-small n u) ∙ ap₂ (λ a b. a + b) (digit_ones (occurs n u)) (ones_different n u)

-- a symbol from n on changes nothing below n
past : (n : ℕ) (x : ℤ) (xs : List ℤ) → n ≤ nat_abs x → set_below n (x ∷ xs) ≡ set_below n xs
unfolding set_below
past zero x xs le = refl
past (suc n) x xs le =
    let ne : eqb (nat_abs x) n ≡ false = ne_eqb (nat_abs x) n (λ e. omega (arith, e, le)) in
    ap₂ (λ b r. digit (b || occurs n xs) * 2 ^ n + r) ne (past n x xs (omega (arith, le)))

digit_or : (b : Bool) → bit_or 1 (digit b) ≡ 1
digit_or true = refl
digit_or false = refl

module _ (n : ℕ) (x : ℤ) (xs : List ℤ) where
  abbrev OneMore : Type 0
  OneMore = digit (eqb (nat_abs x) n || occurs n xs) * 2 ^ n + set_below n (x ∷ xs) ≡ bit_or (2 ^ nat_abs x) (digit (occurs n xs) * 2 ^ n + set_below n xs)

  one_here : nat_abs x ≡ n → OneMore
  one_here e =
      let r = set_below n xs in
      let b = digit (occurs n xs) in
      let one : 2 ^ nat_abs x ≡ 1 * 2 ^ n + 0 = ap (λ k. 2 ^ k) e ∙ omega arith in
      ap₂ (λ t s. digit (t || occurs n xs) * 2 ^ n + s) (eq-eqb (nat_abs x) n e) (past n x xs (omega (arith, e)))
      ∙ sym (ap (λ k. bit_or k (b * 2 ^ n + r)) one ∙ (or_block n 1 b 0 r (pow_pos n) (set-small n xs) ∙ ap (λ k. k * 2 ^ n + r) (digit_or (occurs n xs))))

  one_before : nat_abs x < n → set_below n (x ∷ xs) ≡ bit_or (2 ^ nat_abs x) (set_below n xs) → OneMore
  one_before small more =
      let r = set_below n xs in
      let b = digit (occurs n xs) in
      let low : 2 ^ nat_abs x ≡ 0 * 2 ^ n + 2 ^ nat_abs x = omega arith in
      ap₂ (λ t s. digit (t || occurs n xs) * 2 ^ n + s) (ne_eqb (nat_abs x) n (λ e. omega (arith, e, small))) more
      ∙ sym (ap (λ k. bit_or k (b * 2 ^ n + r)) low ∙ or_block n 0 b (2 ^ nat_abs x) r (pow_below (nat_abs x) n small) (set-small n xs))

-- one symbol more
pub with_one : (n : ℕ) (x : ℤ) (xs : List ℤ) → nat_abs x < n → set_below n (x ∷ xs) ≡ bit_or (2 ^ nat_abs x) (set_below n xs)
unfolding set_below
with_one zero x xs lt = absurd (omega (arith, lt))
with_one (suc n) x xs lt = ⊎_elim (λ e. one_here n x xs e) (λ ne. one_before n x xs (omega (arith, ne, lt)) (with_one n x xs (omega (arith, ne, lt)))) (cases_eq (nat_abs x) n)

pub set_none : (n : ℕ) → set_below n [] ≡ 0
unfolding set_below
set_none zero = refl
set_none (suc n) = omega (arith, set_none n)

-- more readings, more symbols
or_left_le : (b c d : Bool) → digit c ≤ digit d → digit (b || c) ≤ digit (b || d)
or_left_le true c d le = omega arith
or_left_le false c d le = le

or_right_le : (b c d : Bool) → digit c ≤ digit d → digit c ≤ digit (b || d)
or_right_le true c d le = digit_small c
or_right_le false c d le = le

occurs_left : (k : ℕ) (u v : List ℤ) → digit (occurs k u) ≤ digit (occurs k (u ++ v))
occurs_left k [] v = omega arith
occurs_left k (x ∷ xs) v = or_left_le (eqb (nat_abs x) k) (occurs k xs) (occurs k (xs ++ v)) (occurs_left k xs v)

occurs_right : (k : ℕ) (u v : List ℤ) → digit (occurs k v) ≤ digit (occurs k (u ++ v))
occurs_right k [] v = omega arith
occurs_right k (x ∷ xs) v = or_right_le (eqb (nat_abs x) k) (occurs k v) (occurs k (xs ++ v)) (occurs_right k xs v)

pub different_left : (n : ℕ) (u v : List ℤ) → different_below n u ≤ different_below n (u ++ v)
unfolding different_below
different_left zero u v = omega arith
different_left (suc n) u v = omega (arith, occurs_left n u v, different_left n u v)

pub different_right : (n : ℕ) (u v : List ℤ) → different_below n v ≤ different_below n (u ++ v)
unfolding different_below
different_right zero u v = omega arith
different_right (suc n) u v = omega (arith, occurs_right n u v, different_right n u v)

pub different-few : (n : ℕ) (u : List ℤ) → different_below n u ≤ n
unfolding different_below
different-few zero u = omega arith
different-few (suc n) u = omega (arith, digit_small (occurs n u), different-few n u)
