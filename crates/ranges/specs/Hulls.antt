-- The hull of extents is associative, commutative and idempotent.
use Rattle.std.specs.Prelude.{◌≡◌, ℤ}
use Rattle.std.proofs.Common.{ap₂, arith}
use Rattle.std.specs.Int.{int_min, int_max}
use Rattle.std.proofs.lemmas.Int.{ints, clamps}
use Rattle.ranges.specs.declared.extent.Extent.{Extent}
use Rattle.ranges.specs.Extents.{extent, hull}

pub min_assoc : (a b c : ℤ) → int_min (int_min a b) c ≡ int_min a (int_min b c)
min_assoc a b c = omega (arith, ints, clamps)

pub max_assoc : (a b c : ℤ) → int_max (int_max a b) c ≡ int_max a (int_max b c)
max_assoc a b c = omega (arith, ints, clamps)

min_comm : (a b : ℤ) → int_min a b ≡ int_min b a
min_comm a b = omega (arith, ints, clamps)

max_comm : (a b : ℤ) → int_max a b ≡ int_max b a
max_comm a b = omega (arith, ints, clamps)

min_idem : (a : ℤ) → int_min a a ≡ a
min_idem a = omega (arith, ints, clamps)

max_idem : (a : ℤ) → int_max a a ≡ a
max_idem a = omega (arith, ints, clamps)

pub hull_assoc : (x y z : Extent) → hull (hull x y) z ≡ hull x (hull y z)
hull_assoc x y z = ap₂ extent (min_assoc x.low y.low z.low) (max_assoc x.high y.high z.high)

pub hull_comm : (x y : Extent) → hull x y ≡ hull y x
hull_comm x y = ap₂ extent (min_comm x.low y.low) (max_comm x.high y.high)

pub hull_idem : (x : Extent) → hull x x ≡ x
hull_idem x = ap₂ extent (min_idem x.low) (max_idem x.high)
