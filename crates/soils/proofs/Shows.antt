-- The soils charge shows the laws.
use Rattle.readings.proofs.Segments.{parts_cost}
use Rattle.std.proofs.Common.{ℕ, ◌+◌, ◌-◌, ◌*◌, ◌≤◌, List, ◌++◌, length, ℤ, arith}
use Rattle.std.proofs.lemmas.Nat.{mul-le}
use Rattle.std.proofs.lemmas.Bool.{le-leb}
use Rattle.amounts.specs.Kinds.{whole_kind}
use Rattle.charges.specs.Rules.{ChargeLaws}
use Rattle.soils.specs.Soils.{different, soils_rules}
use Rattle.soils.proofs.Counts.{different_left, different_right, different-few}

soils_split : (u v : List ℤ) → length u * (different u - 1) + length v * (different v - 1) ≤ length (u ++ v) * (different (u ++ v) - 1)
soils_split u v =
    parts_cost u v (different u - 1) (different v - 1) (different (u ++ v) - 1) (omega (arith, different_left 32 u v)) (omega (arith, different_right 32 u v))

pub soils_laws : (c : ℕ) → c ≤ 1024 → ChargeLaws whole_kind (soils_rules c)
soils_laws c few = record {
  capacity = few;
  bound = omega arith;
  splitting = λ u v p q short. le-leb _ _ (soils_split u v);
  weight = λ u p. mul-le (length u) (different u - 1) (length u) 31 (omega arith) (omega (arith, different-few 32 u));
}
