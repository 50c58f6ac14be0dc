-- The charge with fixed levels shows the laws.
use Rattle.std.proofs.Common.{◌≡◌, ℕ, suc, ◌+◌, ◌<◌, ◌≤◌, true, cond, ◌&&◌, leb, List, [], ◌∷◌, length, get_or, ℤ, pos, ◌-ℤ◌, nat_abs, refl, ap, ◌∙◌, arith}
use Rattle.std.proofs.lemmas.Nat.{mul-le}
use Rattle.std.proofs.ByRecursion.{All-get_or}
use Rattle.std.proofs.lemmas.Bool.{and_parts, leb-true}
use Rattle.amounts.specs.Kinds.{whole, whole_kind}
use Rattle.amounts.specs.Lawful.{whole_laws}
use Rattle.charges.specs.Levels.{LevelLaws, price_total, best_upto}
use Rattle.charges.specs.Rules.{ChargeLaws}
use Rattle.charges.proofs.Leveled.{leveled-splits, leveled-weight}
use Rattle.readings.specs.Numbers.{number_reading, all_numbers}
use Rattle.readings.proofs.Ranges.{number_apart}
use Rattle.charges.proofs.Lawful.{all_from_pass}
use Rattle.level_sets.specs.LevelSets.{rising, level_set_lawful}
use Rattle.fixed_levels.specs.Fixed.{squared_distance_lem, fixed_levels, fixed_level, fixed_rules}
use Rattle.fixed_levels.specs.Sums.{squares_about}

-- what the parts of the test say
record Set (ls : List ℤ) : Type 0 where
  some : 1 ≤ length ls
  few : length ls ≤ 32
  numbers : all_numbers ls ≡ true

set : (ls : List ℤ) → level_set_lawful ls ≡ true → Set ls
set ls h =
    let one = and_parts (leb 1 (length ls)) (leb (length ls) 32 && (rising ls && all_numbers ls)) h in
    let two = and_parts (leb (length ls) 32) (rising ls && all_numbers ls) one.1 in
    record { some = leb-true _ _ one.0; few = leb-true _ _ two.0; numbers = (and_parts (rising ls) (all_numbers ls) two.1).1 }

pub total_is : (ls : List ℤ) (i : ℕ) (u : List ℤ) → price_total whole_kind (fixed_levels ls) i u ≡ whole (squares_about (get_or ls i (pos 0)) u)
unfolding price_total squares_about
total_is ls i [] = refl
total_is ls i (x ∷ xs) = ap (λ v. whole (squared_distance_lem x (get_or ls i (pos 0)) + v.number)) (total_is ls i xs)

module _ (ls : List ℤ) (lawful : level_set_lawful ls ≡ true) where
  pub set-some : 1 ≤ length ls
  set-some = (set ls lawful).some

  pub set_number : (i : ℕ) (d : ℤ) → i < length ls → number_reading (get_or ls i d) ≡ true
  set_number i d lt = All-get_or (λ x. number_reading x ≡ true) ls i d lt (all_from_pass number_reading ls (set ls lawful).numbers)

  price-weight : (x : ℤ) (i : ℕ) → number_reading x ≡ true → i < length ls → squared_distance_lem x (get_or ls i (pos 0)) ≤ 4000000000000
  price-weight x i h lt =
      let d = number_apart x (get_or ls i (pos 0)) h (set_number i (pos 0) lt) in
      mul-le (nat_abs (x -ℤ get_or ls i (pos 0))) (nat_abs (x -ℤ get_or ls i (pos 0))) 2000000 2000000 d d

  pub level-laws : (c : ℕ) → LevelLaws whole_kind (fixed_rules ls c) (fixed_level ls) (fixed_levels ls)
  level-laws c = record {
    some = omega (arith, set-some);
    few = (set ls lawful).few;
    weight = price-weight;
    fee = λ u p. refl;
    level = λ u p. refl;
  }

  pub charge-laws : (c : ℕ) → c ≤ 1024 → ChargeLaws whole_kind (fixed_rules ls c)
  charge-laws c few = record {
    capacity = few;
    bound = omega arith;
    splitting = λ u v p q short. leveled-splits whole_laws (fixed_rules ls c) (fixed_level ls) (fixed_levels ls) (level-laws c) u v p q;
    weight = leveled-weight whole_laws (fixed_rules ls c) (fixed_level ls) (fixed_levels ls) (level-laws c);
  }

pub best_more : (ls u : List ℤ) (n : ℕ) → best_upto whole_kind (fixed_levels ls) (suc n) u ≡ (let b = best_upto whole_kind (fixed_levels ls) n u in cond (leb (squares_about (get_or ls b (pos 0)) u) (squares_about (get_or ls (suc n) (pos 0)) u)) b (suc n))
unfolding best_upto
best_more ls u n =
    let b = best_upto whole_kind (fixed_levels ls) n u in
    ap (λ v. cond (leb v.number (price_total whole_kind (fixed_levels ls) (suc n) u).number) b (suc n)) (total_is ls b u)
    ∙ ap (λ v. cond (leb (squares_about (get_or ls b (pos 0)) u) v.number) b (suc n)) (total_is ls (suc n) u)
