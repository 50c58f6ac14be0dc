-- How many powers of two are not above a capacity.
use Rattle.std.proofs.Common.{◌≡◌, ℕ, zero, suc, ◌+◌, ◌-◌, ◌*◌, ◌^◌, ◌<◌, ◌≤◌, cond, sym, refl, ap, ◌∙◌, subst, ⊎_elim, add-one, add-mul, arith}
use Rattle.std.proofs.Math.Nat.{pow-le-pow_right}
use Rattle.std.proofs.lemmas.Nat.{pow_pos, pow-add, mul-add-lt, leading_top}
use Rattle.std.proofs.lemmas.Bool.{cases_lt, cases_eq, le-leb, lt-leb}
use Rattle.spans.specs.Rows.{powers_upto, row_count, cells_for}

pub power_le : (j k : ℕ) → j ≤ k → 2 ^ j ≤ 2 ^ k
power_le j k le = pow-le-pow_right (omega arith) le

pub double : (k : ℕ) → 2 ^ (k + 1) ≡ 2 ^ k + 2 ^ k
double k = omega (arith, pow-add 2 k 1)

-- half of the span that ends at n lies before n
pub half_before : (k n : ℕ) → 2 ^ (k + 1) ≤ n + 1 → 2 ^ k ≤ n
half_before k n fits = omega (arith, double k, pow_pos k)

above-itself : (j : ℕ) → j < 2 ^ j
above-itself zero = omega arith
above-itself (suc j) = omega (arith, above-itself j, pow-add 2 1 j)

-- 2^k is not above what 2^m is above
pub below_power : (k m n : ℕ) → 2 ^ k ≤ n → n < 2 ^ m → k < m
below_power k m n p q = ⊎_elim (λ lt. lt) (λ ge. absurd (omega (arith, power_le m k ge))) (cases_lt k m)

module _ (c j : ℕ) (low : 2 ^ j ≤ c) (high : c < 2 ^ (j + 1)) where
  few : (n : ℕ) → n ≤ j + 1 → powers_upto c n ≡ n
  unfolding powers_upto
  few zero le = refl
  few (suc n) le = omega (arith, few n (omega (arith, le)), ap {B = ℕ} (λ b. cond b 1 0) (le-leb (2 ^ n) c (omega (arith, low, power_le n j (omega (arith, le))))))

  many : (n : ℕ) → j + 1 ≤ n → powers_upto c n ≡ j + 1
  unfolding powers_upto
  many zero le = absurd (omega (arith, le))
  many (suc n) le =
      ⊎_elim
      (λ e. few (suc n) (omega (arith, e)) ∙ sym e)
      (λ ne. omega (arith, many n (omega (arith, le, ne)), ap {B = ℕ} (λ b. cond b 1 0) (lt-leb (2 ^ n) c (omega (arith, high, power_le (j + 1) n (omega (arith, le, ne)))))))
      (cases_eq (j + 1) (suc n))

  pub rows_are : row_count c ≡ j + 1
  rows_are = many c (omega (arith, low, above-itself j))

-- the greatest power of two not above n
greatest : (n : ℕ) → 0 < n → n ≤ 1024 → (j : ℕ) × (2 ^ j ≤ n) × (n < 2 ^ (j + 1))
greatest n some small = let top = leading_top 64 n some (omega (arith, small)) in (top.0, top.2, subst (λ i. n < 2 ^ i) (sym (add-one top.0)) top.3)

-- a cell of a row that the capacity has
pub row_inside : (c j n : ℕ) → c ≤ 1024 → n < c → 2 ^ j ≤ n + 1 → j * c + n < cells_for c
row_inside c j n small lt fits =
    let top = greatest c (omega (arith, lt)) small in
    let is : cells_for c ≡ c * (top.0 + 1) = ap (λ i. c * i) (rows_are c top.0 top.1 top.2) in
    omega (arith, is, mul-add-lt j c n (top.0 + 1) (below_power j (top.0 + 1) c (omega (arith, fits, lt)) top.2) lt)

-- and that of the next row
pub next_inside : (c k n : ℕ) → c ≤ 1024 → n < c → 2 ^ (k + 1) ≤ n + 1 → k * c + n + c < cells_for c
next_inside c k n small lt fits = omega (arith, add-mul k 1 c, row_inside c (k + 1) n small lt fits)

-- the row of the longest spans that fit n elements
pub row_of : (n : ℕ) → 0 < n → n ≤ 1024 → (2 ^ (row_count n - 1) ≤ n) × (n < 2 ^ (row_count n - 1 + 1))
row_of n some small =
    let top = greatest n some small in
    let is : row_count n - 1 ≡ top.0 = omega (arith, rows_are n top.0 top.1 top.2) in
    (subst (λ i. 2 ^ i ≤ n) (sym is) top.1, subst (λ i. n < 2 ^ (i + 1)) (sym is) top.2)

-- at least one row
pub cells_enough : (c : ℕ) → c ≤ 1024 → c ≤ cells_for c
cells_enough c small = ⊎_elim (λ some. omega (arith, row_inside c 0 (c - 1) small (omega (arith, some)) (omega arith))) (λ none. omega (arith, none)) (cases_lt 0 c)
