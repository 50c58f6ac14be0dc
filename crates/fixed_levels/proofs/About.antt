-- The sum of squared distances to a level, from the sums of the readings and of their squares.
use Rattle.std.proofs.Common.{◌≡◌, ℕ, suc, ◌+◌, ◌*◌, ◌≤◌, true, List, [], ◌∷◌, ◌++◌, length, ℤ, pos, ◌+ℤ◌, ◌-ℤ◌, ◌*ℤ◌, neg_ℤ, nat_abs, ap, ◌∙◌, arith}
use lib.IntN.{*ℤ_comm}
use Rattle.std.specs.List.{AllByRecursion}
use Rattle.std.proofs.lemmas.Nat.{mul-le}
use Rattle.std.proofs.lemmas.Int.{ints}
use Rattle.readings.specs.Numbers.{number_reading}
use Rattle.readings.proofs.Ranges.{number_size}
use Rattle.fixed_levels.specs.Fixed.{square, squared_distance_lem}
use Rattle.fixed_levels.specs.Sums.{sum_of, squares_of, squares_about}
use Rattle.fixed_levels.proofs.Products.{square-is, distributes, neg_product, neg-square}

binomial_sum : (dd xd nd xx nx nn lx ll : ℤ) → dd ≡ xd +ℤ nd → xd ≡ xx +ℤ nx → nd ≡ nx +ℤ nn → nx ≡ neg_ℤ lx → nn ≡ ll → dd ≡ xx -ℤ pos 2 *ℤ lx +ℤ ll
binomial_sum dd xd nd xx nx nn lx ll e f g h i = omega (arith, ints)

-- (x - l)² is x² - 2 l x + l²
binomial : (x l : ℤ) → (x -ℤ l) *ℤ (x -ℤ l) ≡ x *ℤ x -ℤ pos 2 *ℤ (l *ℤ x) +ℤ l *ℤ l
binomial x l =
    let n = neg_ℤ l in
    let d = x +ℤ n in
    let left : x *ℤ d ≡ x *ℤ x +ℤ n *ℤ x = *ℤ_comm x d ∙ distributes x n x in
    let right : n *ℤ d ≡ n *ℤ x +ℤ n *ℤ n = *ℤ_comm n d ∙ (distributes x n n ∙ ap (λ z. z +ℤ n *ℤ n) (*ℤ_comm x n)) in
    binomial_sum (d *ℤ d) (x *ℤ d) (n *ℤ d) (x *ℤ x) (n *ℤ x) (n *ℤ n) (l *ℤ x) (l *ℤ l) (distributes x n d) left right (neg_product l x) (neg-square l)

one_more : (xx ll dd lx ls lz : ℤ) (sx sl sd n q d : ℕ) → pos sd ≡ dd → dd ≡ xx -ℤ pos 2 *ℤ lx +ℤ ll → pos sx ≡ xx → pos sl ≡ ll → lz ≡ lx +ℤ ls → pos d ≡ pos (q + n * sl) -ℤ pos 2 *ℤ ls → pos (sd + d) ≡ pos ((sx + q) + suc n * sl) -ℤ pos 2 *ℤ lz
one_more xx ll dd lx ls lz sx sl sd n q d e f g h i j = omega (arith, ints)

pub about_is : (l : ℤ) (u : List ℤ) → pos (squares_about l u) ≡ pos (squares_of u + length u * square l) -ℤ pos 2 *ℤ (l *ℤ sum_of u)
unfolding sum_of squares_of squares_about
about_is l [] = omega (arith, ints)
about_is l (x ∷ xs) =
    let s = sum_of xs in
    let spread : l *ℤ (x +ℤ s) ≡ l *ℤ x +ℤ l *ℤ s = *ℤ_comm l (x +ℤ s) ∙ (distributes x s l ∙ (ap (λ z. z +ℤ s *ℤ l) (*ℤ_comm x l) ∙ ap (λ z. l *ℤ x +ℤ z) (*ℤ_comm s l))) in
    one_more (x *ℤ x) (l *ℤ l) ((x -ℤ l) *ℤ (x -ℤ l)) (l *ℤ x) (l *ℤ s) (l *ℤ (x +ℤ s)) (square x) (square l) (squared_distance_lem x l) (length xs) (squares_of xs) (squares_about l xs)
    (square-is (x -ℤ l)) (binomial x l) (square-is x) (square-is l) spread (about_is l xs)

pub sum-append : (u v : List ℤ) → sum_of (u ++ v) ≡ sum_of u +ℤ sum_of v
unfolding sum_of
sum-append [] v = omega (arith, ints)
sum-append (x ∷ xs) v = omega (arith, ints, sum-append xs v)

pub squares_append : (u v : List ℤ) → squares_of (u ++ v) ≡ squares_of u + squares_of v
unfolding squares_of
squares_append [] v = omega arith
squares_append (x ∷ xs) v = omega (arith, squares_append xs v)

pub number_square : (x : ℤ) → number_reading x ≡ true → square x ≤ 1000000000000
number_square x h = mul-le (nat_abs x) (nat_abs x) 1000000 1000000 (number_size x h) (number_size x h)

pub sum_size : (u : List ℤ) → AllByRecursion (λ x. number_reading x ≡ true) u → nat_abs (sum_of u) ≤ length u * 1000000
unfolding sum_of
sum_size [] a = omega arith
sum_size (x ∷ xs) a = let s = number_size x a.0 in let r = sum_size xs a.1 in omega (arith, ints)

pub squares_size : (u : List ℤ) → AllByRecursion (λ x. number_reading x ≡ true) u → squares_of u ≤ length u * 1000000000000
unfolding squares_of
squares_size [] a = omega arith
squares_size (x ∷ xs) a = omega (arith, number_square x a.0, squares_size xs a.1)
