-- The steps of the passes over the places.
use Rattle.std.proofs.Common.{◌≡◌, ℕ, zero, suc, ◌+◌, ◌*◌, ◌<◌, ◌≤◌, Bool, true, false, List, [], ◌∷◌, map, length, get_or, take, ℤ, pos, ◌+ℤ◌, ◌≤ℤ◌, nat_abs, fold, filter, Option, sym, ap, ◌∙◌, subst, add-one, arith, length-take, w64, SFits}
use lib.Signed.{le_z}
use Rattle.std.specs.List.{AllByRecursion, enumerate_from}
use Rattle.std.specs.List.Sorted.{IsPartitionedBy, IsPartitionPoint}
use Rattle.std.specs.Iterator.{Yields}
use Rattle.std.specs.Iterator.Runs.{EachRunFrom, YieldsRun}
use Rattle.std.proofs.ByRecursion.{All-take, All-get_or, all_kept_by}
use Rattle.std.proofs.lemmas.Int.{ints}
use Rattle.std.proofs.lemmas.Iterator.{YieldsList}
use Rattle.std.proofs.lemmas.Iterator.Consumers.{YieldsList-so_far}
use Rattle.std.proofs.lemmas.List.{length-map, map-id}
use Rattle.std.proofs.lemmas.List.FromFn.{length-enumerate_from, get_or-enumerate_from}
use Rattle.std.proofs.lemmas.List.Sums.{prefix_len_is, length-filter, count_by-le-length}
use Rattle.readings.specs.Numbers.{number_reading}
use Rattle.readings.proofs.Ranges.{number_size}
use Rattle.medians.specs.declared.place.Place.{Place}
use Rattle.medians.specs.Ranks.{place, rank, readings_of, in_rank}
use Rattle.medians.specs.Walks.{in_segment_lem, share, balance}
use Rattle.medians.proofs.Rising.{Rising, none}
use Rattle.medians.proofs.Ranking.{readings, readings_all, rising-ranked, ranked_from_test}

-- ---- the rank of a reading

-- no place further on holds a lesser reading
rising_places : (ps : List Place) (i j : ℕ) (d : Place) → Rising (readings ps) → i ≤ j → j < length ps → (get_or ps i d).reading ≤ℤ (get_or ps j d).reading
rising_places [] i j d r h lt = none j lt
rising_places (p ∷ ps) zero zero d r h lt = omega (arith, ints)
rising_places (p ∷ ps) zero (suc j) d r h lt = All-get_or (λ q. p.reading ≤ℤ q.reading) ps j d (omega arith) (readings_all (λ y. p.reading ≤ℤ y) ps r.0)
rising_places (p ∷ ps) (suc i) zero d r h lt = none i (omega arith)
rising_places (p ∷ ps) (suc i) (suc j) d r h lt = rising_places ps i j d r.1 (omega arith) (omega arith)

le_before : (a b x : ℤ) → a ≤ℤ b → le_z b x ≡ true → le_z a x ≡ true
le_before a b x h k = grind (arith, ints)

-- it holds a reading of at most x
abbrev pub below : ℤ → Place → Bool
below x p = le_z p.reading x

pub below_first : (ps : List Place) (x : ℤ) → in_rank ps ≡ true → IsPartitionedBy (below x) ps
below_first ps x order i j d h lt =
    let up = subst (λ l. Rising (readings l)) (ranked_from_test ps order) (rising-ranked (readings_of ps)) in
    le_before _ _ x (rising_places ps i j d up h lt)

pub rank_from_point : (ps : List Place) (x : ℤ) (n : ℕ) → n ≤ length ps → IsPartitionPoint (λ p. below x p ≡ true) (λ p. below x p ≡ false) ps n → n ≡ rank x ps
rank_from_point ps x n h point =
    let d = place (pos 0) 0 in
    sym (prefix_len_is (below x) ps n d h (λ k lt. point.0 k d (omega arith) lt) (λ lt. point.1 n d (omega arith) lt))

-- ---- the balance

-- what each reading adds, from the j-th on
abbrev pub shares : ℕ → ℕ → ℕ → List Place → List ℤ
shares low high j ps = map (λ e. share low high e.0 e.1.reading) (enumerate_from j ps)

length-shares : (low high j : ℕ) (ps : List Place) → length (shares low high j ps) ≡ length ps
length-shares low high j ps = length-map (enumerate_from j ps) (λ e. share low high e.0 e.1.reading) ∙ length-enumerate_from j ps

pub balance-shares : (low high j : ℕ) (a : ℤ) (ps : List Place) → fold ◌+ℤ◌ a (shares low high j ps) ≡ a +ℤ balance low high j (readings ps)
unfolding balance
balance-shares low high j a [] = omega (arith, ints)
balance-shares low high j a (p ∷ ps) = rw add-one (omega (arith, ints, balance-shares low high (suc j) (a +ℤ share low high j p.reading) ps))

abbrev Small : ℤ → Type 0
Small z = nat_abs z ≤ 1000000

share_small : (low high j : ℕ) (y : ℤ) → Small y → Small (share low high j y)
share_small low high j y h = grind (arith, ints)

shares_small : (low high j : ℕ) (ps : List Place) → AllByRecursion (λ p. number_reading p.reading ≡ true) ps → AllByRecursion Small (shares low high j ps)
shares_small low high j [] a = tt
shares_small low high j (p ∷ ps) a = (share_small low high j p.reading (number_size p.reading a.0), shares_small low high (j + 1) ps a.1)

sum_small : (a : ℤ) (zs : List ℤ) → AllByRecursion Small zs → nat_abs (fold ◌+ℤ◌ a zs) ≤ nat_abs a + 1000000 * length zs
sum_small a [] h = omega arith
sum_small a (z ∷ zs) h = omega (arith, ints, h.0, sum_small (a +ℤ z) zs h.1)

-- the places of the segment (s, t)
module _ (s t : ℕ) (ps : List Place) (numbers : AllByRecursion (λ p. number_reading p.reading ≡ true) ps) where
  abbrev inside : Place → Bool
  inside p = in_segment_lem s t p.at

  abbrev here : List Place
  here = filter inside ps

  here_numbers : AllByRecursion (λ p. number_reading p.reading ≡ true) here
  here_numbers = all_kept_by inside (λ p. number_reading p.reading ≡ true) ps numbers

  pub number_turn : (e : ℕ × Place) (k : ℕ) → k < length (enumerate_from 0 here) → e ≡ get_or (enumerate_from 0 here) k e → number_reading e.1.reading ≡ true
  number_turn e k lt is =
      let few : k < length here = omega (arith, length-enumerate_from 0 here) in
      ap (λ d. number_reading d.1.reading) (is ∙ get_or-enumerate_from 0 here k e few) ∙ All-get_or (λ p. number_reading p.reading ≡ true) here k e.1 few here_numbers

  front_fits : (low high k : ℕ) → length ps ≤ 1024 → SFits w64 (fold ◌+ℤ◌ (pos 0) (take k (shares low high 0 here)))
  front_fits low high k few =
      let all = shares low high 0 here in
      let small = sum_small (pos 0) (take k all) (All-take Small k all (shares_small low high 0 here here_numbers)) in
      let short = count_by-le-length inside ps in
      let long : length (take k all) ≤ 1024 = omega (arith, length-take k all, length-shares low high 0 here, length-filter inside ps, short) in
      omega (arith, ints)

  -- the sum of each front of them fits
  pub balance_fits : {S : Type 0} {steps : S → Option ℤ → S → Type 0} {from : S} (low high : ℕ) → length ps ≤ 1024 → YieldsList steps (λ x. x) from (shares low high 0 here) → EachRunFrom steps from (λ p. SFits w64 (fold ◌+ℤ◌ (pos 0) p.items))
  unfolding YieldsRun
  balance_fits {steps = steps} low high few road = λ p _ at.
      let front = YieldsList-so_far road p.items p.gave.0.0 (subst (λ u. Yields steps u p.items p.gave.0.0) at p.gave.0.1) in
      subst (λ l. SFits w64 (fold ◌+ℤ◌ (pos 0) l)) (sym (sym (map-id p.items) ∙ front)) (front_fits low high (length p.items) few)
