-- Extents, and the readings of a table of them.
use Rattle.std.proofs.Common.{◌≡◌, ◌<◌, true, ◌&&◌, List, [], ◌∷◌, ◌++◌, map, length, ℤ, Some, sym, refl, ap, ap₂, arith}
use Rattle.std.specs.Prelude.{int_le, int_lt}
use Rattle.std.specs.List.{AllByRecursion}
use Rattle.std.proofs.lemmas.Bool.{and_parts, and_from, cond_both}
use Rattle.readings.specs.Numbers.{number_reading}
use Rattle.readings.proofs.Ranges.{both_int_le, int_le-itself}
use Rattle.spans.specs.Joinings.{both, joining}
use Rattle.ranges.specs.declared.extent.Extent.{Extent}
use Rattle.ranges.specs.Ranges.{lowest, highest, lowest_of, highest_of}
use Rattle.ranges.specs.Extents.{extent, hull, point, all_points}

abbrev Number : ℤ → Type 0
Number x = number_reading x ≡ true

abbrev pub low_of : Extent → ℤ
low_of e = e.low

pub points_are : (es : List Extent) → all_points es ≡ true → es ≡ map point (map low_of es)
points_are [] h = refl
points_are (e ∷ es) h =
    let p = and_parts (int_le e.low e.high && int_le e.high e.low) (number_reading e.low && all_points es) h in
    let q = and_parts (number_reading e.low) (all_points es) p.1 in
    ap₂ (λ x xs. x ∷ xs) (ap (extent e.low) (sym (both_int_le e.low e.high p.0))) (points_are es q.1)

pub points_numbers : (es : List Extent) → all_points es ≡ true → AllByRecursion Number (map low_of es)
points_numbers [] h = tt
points_numbers (e ∷ es) h =
    let p = and_parts (int_le e.low e.high && int_le e.high e.low) (number_reading e.low && all_points es) h in
    let q = and_parts (number_reading e.low) (all_points es) p.1 in
    (q.0, points_numbers es q.1)

pub points_push : (es : List Extent) (x : ℤ) → all_points es ≡ true → Number x → all_points (es ++ (point x ∷ [])) ≡ true
points_push [] x h n = and_from _ _ (int_le-itself x) (and_from _ _ n refl)
points_push (e ∷ es) x h n =
    let p = and_parts (int_le e.low e.high && int_le e.high e.low) (number_reading e.low && all_points es) h in
    let q = and_parts (number_reading e.low) (all_points es) p.1 in
    and_from _ _ p.0 (and_from _ _ q.0 (points_push es x q.1 n))

pub joining_points : (x : ℤ) (xs : List ℤ) → joining hull (map point (x ∷ xs)) ≡ Some (extent (lowest_of x xs) (highest_of x xs))
joining_points x [] = refl
joining_points x (y ∷ ys) = ap (both hull (Some (point x))) (joining_points y ys)

pub joining_readings : (u : List ℤ) → 0 < length u → joining hull (map point u) ≡ Some (extent (lowest u) (highest u))
joining_readings [] some = absurd (omega (arith, some))
joining_readings (x ∷ xs) some = joining_points x xs

pub lowest_number : (x : ℤ) (xs : List ℤ) → AllByRecursion Number (x ∷ xs) → Number (lowest_of x xs)
lowest_number x [] a = a.0
lowest_number x (y ∷ ys) a = cond_both (int_lt (lowest_of y ys) x) (lowest_of y ys) x Number (λ _. lowest_number y ys a.1) (λ _. a.0)

pub highest_number : (x : ℤ) (xs : List ℤ) → AllByRecursion Number (x ∷ xs) → Number (highest_of x xs)
highest_number x [] a = a.0
highest_number x (y ∷ ys) a = cond_both (int_lt (highest_of y ys) x) x (highest_of y ys) Number (λ _. a.0) (λ _. highest_number y ys a.1)

pub number_ends : (u : List ℤ) → 0 < length u → AllByRecursion Number u → Number (lowest u) × Number (highest u)
number_ends [] some a = absurd (omega (arith, some))
number_ends (x ∷ xs) some a = (lowest_number x xs a, highest_number x xs a)
