-- The median charge shows the laws.
use Rattle.std.proofs.Common.{◌≡◌, ℕ, ◌+◌, ◌*◌, ◌<◌, ◌≤◌, true, List, ◌++◌, length, ℤ, filter, ap, subst, arith}
use Rattle.std.specs.List.{AllByRecursion}
use Rattle.std.proofs.ByRecursion.{All-weaker, sum_by_le}
use Rattle.std.proofs.lemmas.List.Sums.{sum_by-append}
use Rattle.std.proofs.lemmas.Bool.{le-leb}
use Rattle.amounts.specs.Kinds.{whole_kind}
use Rattle.charges.specs.Rules.{ChargeLaws}
use Rattle.charges.proofs.Lawful.{all_from_pass}
use Rattle.readings.specs.Numbers.{number_reading}
use Rattle.readings.proofs.Ranges.{number_apart}
use Rattle.readings.proofs.Segments.{segment_all}
use Rattle.medians.specs.Medians.{distance, distances, half_upto, median, median_rules}
use Rattle.medians.specs.Ranks.{ranked}
use Rattle.medians.specs.Walks.{picked}
use Rattle.medians.proofs.Rising.{In, in_all, kept_in, lowest_in}
use Rattle.medians.proofs.Middles.{Same, same_length, middle_of, median-middle, kept_middle, middle-least}
use Rattle.medians.proofs.Ranking.{same-picked, rising-picked}

-- the whole list in rising order
abbrev sorted : List ℤ → List ℤ
sorted u = picked 0 (length u) (ranked u)

sorted_same : (u : List ℤ) → Same u (sorted u)
sorted_same u = subst (λ v. Same v (sorted u)) (segment_all u) (same-picked u 0 (length u))

module _ (u : List ℤ) (some : 0 < length u) where
  sorted_some : 0 < length (sorted u)
  sorted_some = omega (arith, same_length (sorted_same u))

  median_sorted : median u ≡ middle_of (sorted u)
  median_sorted = median-middle (sorted u) (rising-picked u 0 (length u)) sorted_some u (sorted_same u)

  pub median-least : (x : ℤ) → distances (median u) u ≤ distances x u
  median-least x =
      let e = ap (λ m. distances m u) median_sorted in
      let f = (sorted_same u).sums (distance (middle_of (sorted u))) in
      let g = (sorted_same u).sums (distance x) in
      omega (arith, middle-least (sorted u) (rising-picked u 0 (length u)) sorted_some x)

  median_in : In (median u) u
  median_in =
      let k = kept_middle (sorted u) (rising-picked u 0 (length u)) sorted_some u (sorted_same u) in
      kept_in (half_upto u) (median u) u (lowest_in (middle_of (sorted u)) (filter (half_upto u) u) k)

  pub median_number : AllByRecursion (λ x. number_reading x ≡ true) u → number_reading (median u) ≡ true
  median_number a = in_all (λ x. number_reading x ≡ true) (median u) u a median_in

  median-weight : AllByRecursion (λ x. number_reading x ≡ true) u → distances (median u) u ≤ length u * 2000000
  median-weight a =
      let m = median_number a in
      sum_by_le (distance (median u)) 2000000 u (All-weaker (λ x. number_reading x ≡ true) (λ x. distance (median u) x ≤ 2000000) (λ x h. number_apart (median u) x m h) u a)

median-splits : (u v : List ℤ) → 0 < length u → 0 < length v → distances (median u) u + distances (median v) v ≤ distances (median (u ++ v)) (u ++ v)
median-splits u v p q =
    let m = median (u ++ v) in
    omega (arith, sum_by-append (distance m) u v, median-least u p m, median-least v q m)

pub median-laws : (c : ℕ) → c ≤ 1024 → ChargeLaws whole_kind (median_rules c)
median-laws c few = record {
  capacity = few;
  bound = omega arith;
  splitting = λ u v p q short. le-leb _ _ (median-splits u v p.some q.some);
  weight = λ u p. median-weight u p.some (all_from_pass number_reading u p.lawful);
}
