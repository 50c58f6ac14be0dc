-- What a charge means, and the laws that every charge shows.
--   reading: one number that was sounded; the list of readings runs downward from the top of the hole.
--   charge: holds readings, and says what a run of them costs as one layer.
--   fee: that cost, an amount.
--   reading bound: a fee weighs at most this much for each of its readings.
--   lawful: a reading that the charge takes.
use Rattle.std.specs.Prelude.{◌≡◌, ℕ, ◌+◌, ◌-◌, ◌*◌, ◌^◌, ◌<◌, ◌≤◌, Bool, true, List, ◌++◌, length, take, drop, ℤ}
use Rattle.std.specs.List.{list_all}
use Rattle.amounts.specs.Kind.{Kind}

-- what never changes in the life of a charge; the fee rule speaks of non-empty lists of lawful readings
pub record Rules (V : Type 0) : Type 0 where
  pub capacity : ℕ
  pub bound : ℕ
  pub lawful : ℤ → Bool
  pub fee : List ℤ → V

abbrev pub all_lawful : {V : Type 0} → Rules V → List ℤ → Bool
all_lawful r u = list_all r.lawful u

-- the lists that the rules speak of
pub record Layable {V : Type 0} (r : Rules V) (u : List ℤ) : Type 0 where
  pub some : 0 < length u
  pub lawful : all_lawful r u ≡ true

-- of every list, not only of the one held
pub record ChargeLaws {V : Type 0} (k : Kind V) (r : Rules V) : Type 0 where
  pub capacity : r.capacity ≤ 1024
  pub bound : r.bound ≤ 2 ^ 47
  -- cutting a layer in two makes its fees no dearer
  pub splitting : (u v : List ℤ) → Layable r u → Layable r v → length u + length v ≤ 1024 → k.at_most (k.plus (r.fee u) (r.fee v)) (r.fee (u ++ v)) ≡ true
  pub weight : (u : List ℤ) → Layable r u → k.weight (r.fee u) ≤ length u * r.bound

-- of the list held
pub record Held {V : Type 0} (r : Rules V) (h : List ℤ) : Type 0 where
  pub few : length h ≤ r.capacity
  pub lawful : all_lawful r h ≡ true

-- the segment (s, t): the readings s to t - 1
abbrev pub segment : List ℤ → ℕ → ℕ → List ℤ
segment h s t = take (t - s) (drop s h)
