-- The choice among the levels, one after the other, ends at the best one.
use Rattle.std.proofs.Common.{◌≡◌, ℕ, suc, ◌+◌, ◌-◌, ◌<◌, ◌≤◌, Bool, true, false, cond, not, ltb, leb, List, [], ◌∷◌, length, get_or, map, ℤ, pos, sym, refl, ap, ◌∙◌, arith}
use Rattle.std.proofs.lemmas.Bool.{leb-true, leb-false, le-ltb, lt-ltb}
use Rattle.std.specs.List.{fold, enumerate_from}
use Rattle.amounts.specs.Kinds.{whole_kind}
use Rattle.charges.specs.Levels.{best_upto}
use Rattle.fixed_levels.specs.declared.Choice.{Choice}
use Rattle.fixed_levels.specs.Fixed.{best, fixed_levels}
use Rattle.fixed_levels.specs.Sums.{squares_about}
use Rattle.level_sets.specs.LevelSets.{level_set_lawful}
use Rattle.readings.specs.Numbers.{number_reading}
use Rattle.std.proofs.lemmas.List.FromFn.{length-enumerate_from, get_or-enumerate_from}
use Rattle.fixed_levels.proofs.Shows.{best_more, set_number}

abbrev pub cheaper : Choice → Choice → Choice
cheaper a b = cond (ltb b.cost a.cost) b a

-- at the layer u: the choice of a number and a level, and of the level with that number
abbrev pub choice_of : List ℤ → ℕ × ℤ → Choice
choice_of u p = record { level = p.0; cost = squares_about p.1 u }

abbrev pub choice : List ℤ → List ℤ → ℕ → Choice
choice ls u i = choice_of u (i, get_or ls i (pos 0))

turned : (x y : ℕ) (t : Bool) → leb x y ≡ t → ltb y x ≡ not t
turned x y true h = le-ltb y x (leb-true x y h)
turned x y false h = lt-ltb y x (leb-false x y h)

module _ (ls u : List ℤ) where
  abbrev upto : ℕ → ℕ
  upto n = best_upto whole_kind (fixed_levels ls) n u

  pick : (s t : Bool) (i j : ℕ) → s ≡ not t → cond s (choice ls u j) (choice ls u i) ≡ choice ls u (cond t i j)
  pick s true i j e = ap (λ b. cond b (choice ls u j) (choice ls u i)) e
  pick s false i j e = ap (λ b. cond b (choice ls u j) (choice ls u i)) e

  step : (n : ℕ) → cheaper (choice ls u (upto n)) (choice ls u (suc n)) ≡ choice ls u (upto (suc n))
  step n =
      let a = (choice ls u (upto n)).cost in
      let b = (choice ls u (suc n)).cost in
      pick (ltb b a) (leb a b) (upto n) (suc n) (turned a b (leb a b) refl) ∙ ap (choice ls u) (sym (best_more ls u n))

  -- from the best of the levels up to n, over the others
  chosen_from : (rest : List ℤ) (n : ℕ) → ((j : ℕ) → get_or rest j (pos 0) ≡ get_or ls (suc n + j) (pos 0)) → fold cheaper (choice ls u (upto n)) (map (choice_of u) (enumerate_from (suc n) rest)) ≡ choice ls u (upto (n + length rest))
  chosen_from [] n e = let z : n ≡ n + 0 = omega arith in ap (λ k. choice ls u (upto k)) z
  chosen_from (x ∷ xs) n e =
      let one : suc n + 0 ≡ suc n = omega arith in
      let at : x ≡ get_or ls (suc n) (pos 0) = e 0 ∙ ap (λ k. get_or ls k (pos 0)) one in
      let first : cheaper (choice ls u (upto n)) (choice_of u (suc n, x)) ≡ choice ls u (upto (suc n)) = ap (λ y. cheaper (choice ls u (upto n)) (choice_of u (suc n, y))) at ∙ step n in
      let more : suc n + 1 ≡ suc (suc n) = omega arith in
      let all : suc n + length xs ≡ n + suc (length xs) = omega arith in
      let later : (j : ℕ) → get_or xs j (pos 0) ≡ get_or ls (suc (suc n) + j) (pos 0) = λ j. let k : suc n + suc j ≡ suc (suc n) + j = omega arith in e (suc j) ∙ ap (λ k. get_or ls k (pos 0)) k in
      ap (λ c. fold cheaper c (map (choice_of u) (enumerate_from (suc n + 1) xs))) first
      ∙ (ap (λ m. fold cheaper (choice ls u (upto (suc n))) (map (choice_of u) (enumerate_from m xs))) more
      ∙ (chosen_from xs (suc n) later ∙ ap (λ k. choice ls u (upto k)) all))

pub chosen : (ls u : List ℤ) → 1 ≤ length ls → (x : Choice) (xs : List Choice) (r : Choice) → x ∷ xs ≡ map (choice_of u) (enumerate_from 0 ls) → r ≡ fold cheaper x xs → r ≡ choice ls u (best ls u)
unfolding best_upto
chosen [] u some x xs r e f = absurd (omega arith)
chosen (l ∷ ls) u some x xs r e f =
    let first : x ≡ choice (l ∷ ls) u 0 = cc in
    let one : 0 + 1 ≡ 1 = omega arith in
    let others : xs ≡ map (choice_of u) (enumerate_from (0 + 1) ls) = cc in
    let at : (j : ℕ) → get_or ls j (pos 0) ≡ get_or (l ∷ ls) (1 + j) (pos 0) = λ j. let k : suc j ≡ 1 + j = omega arith in ap (λ i. get_or (l ∷ ls) i (pos 0)) k in
    let all : 0 + length ls ≡ length (l ∷ ls) - 1 = omega arith in
    f ∙ (ap (λ c. fold cheaper c xs) first
    ∙ (ap (fold cheaper (choice (l ∷ ls) u 0)) (others ∙ ap (λ n. map (choice_of u) (enumerate_from n ls)) one)
    ∙ (chosen_from (l ∷ ls) u ls 0 at ∙ ap (λ k. choice (l ∷ ls) u (best_upto whole_kind (fixed_levels (l ∷ ls)) k u)) all)))

-- the levels that are gone through are number readings
pub number_item : (ls : List ℤ) → level_set_lawful ls ≡ true → (x : ℕ × ℤ) (k : ℕ) → k < length (enumerate_from 0 ls) → x ≡ get_or (enumerate_from 0 ls) k x → number_reading x.1 ≡ true
number_item ls h x k lt e =
    let within : k < length ls = omega (arith, length-enumerate_from 0 ls) in
    let is : x.1 ≡ get_or ls k x.1 = ap (λ p. p.1) (e ∙ get_or-enumerate_from 0 ls k x within) in
    ap number_reading is ∙ set_number ls h k x.1 within
