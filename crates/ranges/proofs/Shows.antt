-- The range charge shows the laws.
use Rattle.ranges.specs.Hulls.{min_assoc, max_assoc}
use Rattle.readings.proofs.Segments.{parts_cost}
use Rattle.std.proofs.Common.{◌≡◌, ℕ, ◌+◌, ◌*◌, ◌<◌, ◌≤◌, true, List, [], ◌∷◌, ◌++◌, length, ℤ, ◌-ℤ◌, nat_abs, ◌≤ℤ◌, sym, refl, ap, ◌∙◌, subst, ap₂, arith}
use Rattle.std.specs.Int.{int_min, int_max}
use Rattle.std.specs.List.{AllByRecursion}
use Rattle.std.proofs.lemmas.Nat.{mul-le}
use Rattle.std.proofs.lemmas.Int.{ints, clamps}
use Rattle.std.proofs.lemmas.Bool.{le-leb}
use Rattle.amounts.specs.Kinds.{whole_kind}
use Rattle.charges.specs.Rules.{ChargeLaws}
use Rattle.charges.proofs.Lawful.{all_from_pass}
use Rattle.readings.specs.Numbers.{number_reading}
use Rattle.readings.proofs.Ranges.{number_apart}
use Rattle.ranges.specs.Ranges.{lowest, highest, lowest_of, highest_of, range, range_rules}
use Rattle.ranges.proofs.Extents.{number_ends}

lowest-append : (x y : ℤ) (xs ys : List ℤ) → lowest_of x (xs ++ (y ∷ ys)) ≡ int_min (lowest_of x xs) (lowest_of y ys)
lowest-append x y [] ys = refl
lowest-append x y (z ∷ zs) ys = ap (int_min x) (lowest-append z y zs ys) ∙ sym (min_assoc x (lowest_of z zs) (lowest_of y ys))

highest-append : (x y : ℤ) (xs ys : List ℤ) → highest_of x (xs ++ (y ∷ ys)) ≡ int_max (highest_of x xs) (highest_of y ys)
highest-append x y [] ys = refl
highest-append x y (z ∷ zs) ys = ap (int_max x) (highest-append z y zs ys) ∙ sym (max_assoc x (highest_of z zs) (highest_of y ys))

min-below : (a b : ℤ) → int_min a b ≤ℤ a
min-below a b = omega (arith, ints, clamps)

min_below_right : (a b : ℤ) → int_min a b ≤ℤ b
min_below_right a b = omega (arith, ints, clamps)

max-above : (a b : ℤ) → a ≤ℤ int_max a b
max-above a b = omega (arith, ints, clamps)

max_above_right : (a b : ℤ) → b ≤ℤ int_max a b
max_above_right a b = omega (arith, ints, clamps)

chain : (a b c d : ℤ) → a ≤ℤ b → b ≤ℤ c → c ≤ℤ d → a ≤ℤ d
chain a b c d p q r = omega (arith, ints, p, q, r)

ordered : (x : ℤ) (xs : List ℤ) → lowest_of x xs ≤ℤ highest_of x xs
ordered x [] = omega (arith, ints)
ordered x (y ∷ ys) = chain _ _ _ _ (min_below_right x (lowest_of y ys)) (ordered y ys) (max_above_right x (highest_of y ys))

wider : (l h l' h' : ℤ) → l' ≤ℤ l → l ≤ℤ h → h ≤ℤ h' → nat_abs (h -ℤ l) ≤ nat_abs (h' -ℤ l')
wider l h l' h' p q r = omega (arith, ints, p, q, r)

-- the range of each part is at most that of the whole
part_range : (u v : List ℤ) → 0 < length u → 0 < length v → (range u ≤ range (u ++ v)) × (range v ≤ range (u ++ v))
part_range [] v p q = absurd (omega (arith, p))
part_range (x ∷ xs) [] p q = absurd (omega (arith, q))
part_range (x ∷ xs) (y ∷ ys) p q =
    let l = lowest_of x xs in
    let h = highest_of x xs in
    let m = lowest_of y ys in
    let k = highest_of y ys in
    let e : nat_abs (int_max h k -ℤ int_min l m) ≡ range ((x ∷ xs) ++ (y ∷ ys)) = ap₂ (λ a b. nat_abs (b -ℤ a)) (sym (lowest-append x y xs ys)) (sym (highest-append x y xs ys)) in (
      subst (λ n. nat_abs (h -ℤ l) ≤ n) e (wider l h (int_min l m) (int_max h k) (min-below l m) (ordered x xs) (max-above h k)),
      subst (λ n. nat_abs (k -ℤ m) ≤ n) e (wider m k (int_min l m) (int_max h k) (min_below_right l m) (ordered y ys) (max_above_right h k)),
    )

range-splits : (u v : List ℤ) → 0 < length u → 0 < length v → length u * range u + length v * range v ≤ length (u ++ v) * range (u ++ v)
range-splits u v p q = let r = part_range u v p q in parts_cost u v (range u) (range v) (range (u ++ v)) r.0 r.1

range-weight : (u : List ℤ) → 0 < length u → AllByRecursion (λ x. number_reading x ≡ true) u → length u * range u ≤ length u * 2000000
range-weight u p a = let n = number_ends u p a in mul-le (length u) (range u) (length u) 2000000 (omega arith) (number_apart (highest u) (lowest u) n.1 n.0)

pub range_laws : (c : ℕ) → c ≤ 1024 → ChargeLaws whole_kind (range_rules c)
range_laws c few = record {
  capacity = few;
  bound = omega arith;
  splitting = λ u v p q short. le-leb _ _ (range-splits u v p.some q.some);
  weight = λ u p. range-weight u p.some (all_from_pass number_reading u p.lawful);
}
