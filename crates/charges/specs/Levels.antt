-- What a level charge means besides: levels, and the price of a reading at each.
--   level charge: a charge that chooses between a few levels, numbered from 0.
--   price: what one reading costs at one level, an amount.
--   best level: of a list, the lowest-numbered level of least price sum.
use Rattle.std.specs.Prelude.{◌≡◌, ℕ, zero, suc, ◌-◌, ◌<◌, ◌≤◌, true, cond, ◌&&◌, List, [], ◌∷◌, length, ℤ, pos, Ok, Err, Result, nat_lt, slice_index_or}
use Rattle.amounts.specs.Kind.{Kind}
use Rattle.charges.specs.Rules.{Rules, Layable}
use Rattle.charges.specs.declared.Refusal.{Refusal}
use Rattle.charges.specs.declared.Refusal.TheVariants.{Outside}

-- the levels offered: how many, the signed value of each, and the price of each lawful reading at each
pub record Levels (V : Type 0) : Type 0 where
  pub offered : ℕ
  pub value : ℕ → ℤ
  pub price : ℤ → ℕ → V

module _ {V : Type 0} (k : Kind V) (l : Levels V) where
  -- the prices of the readings at level i, added up
  unfoldable pub price_total : ℕ → List ℤ → V
  price_total i [] = k.nothing
  price_total i (x ∷ xs) = k.plus (l.price x i) (price_total i xs)

  -- of the levels 0 to n, the first of least price total
  unfoldable pub best_upto : ℕ → List ℤ → ℕ
  best_upto zero u = zero
  best_upto (suc n) u = let b = best_upto n u in cond (k.at_most (price_total b u) (price_total (suc n) u)) b (suc n)

  abbrev pub best_level : List ℤ → ℕ
  best_level u = best_upto (l.offered - 1) u

-- the level law: the fee of a list is its least price total, and its level the value of the best level
pub record LevelLaws {V : Type 0} (k : Kind V) (r : Rules V) (leveling : List ℤ → ℤ) (l : Levels V) : Type 0 where
  pub some : 0 < l.offered
  pub few : l.offered ≤ 32
  pub weight : (x : ℤ) (i : ℕ) → r.lawful x ≡ true → i < l.offered → k.weight (l.price x i) ≤ r.bound
  pub fee : (u : List ℤ) → Layable r u → r.fee u ≡ price_total k l (best_level k l u) u
  pub level : (u : List ℤ) → Layable r u → leveling u ≡ l.value (best_level k l u)

-- the price of the reading at a place, at a level
abbrev pub price_told : {V : Type 0} → Levels V → List ℤ → ℕ → ℕ → Result V Refusal
price_told l h place level = cond (nat_lt place (length h) && nat_lt level l.offered) (Ok (l.price (slice_index_or h place (pos 0)) level)) (Err Outside)
