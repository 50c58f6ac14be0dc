-- The laws of a charge, as laws of the places of a hole of lawful readings.
use Rattle.std.specs.Prelude.{List, ◌++◌, length, ℤ}
use Rattle.amounts.specs.Kind.{Kind}
use Rattle.charges.specs.Rules.{Rules}
use Rattle.charges.specs.Levels.{Levels}
use Rattle.theory.specs.Pruned.{Splits}
use Rattle.theory.specs.Levels.{Leveled}
use Rattle.theory.specs.Weights.{FeesWeigh, PricesWeigh}
use Rattle.theory.specs.TheoremsOfGrowth.{FeesAlike, PricesAlike}
use Rattle.holes.specs.Holes.{fee_of, price_of}

module _ {V : Type 0} (kind : Kind V) (r : Rules V) (h : List ℤ) where
  pub record HoleLaws : Type 0 where
    pub splits : Splits kind (fee_of r h) (length h)
    pub fees_weigh : FeesWeigh kind (fee_of r h) r.bound (length h)

  pub record HoleLevelLaws (l : Levels V) : Type 0 where
    pub leveled : Leveled kind (fee_of r h) (price_of l h) l.offered (length h)
    pub prices_weigh : PricesWeigh kind (price_of l h) l.offered r.bound (length h)

-- readings that follow change nothing of the segments before them
pub record Grows {V : Type 0} (r : Rules V) (l : Levels V) (h more : List ℤ) : Type 0 where
  pub fees : FeesAlike (fee_of r h) (fee_of r (h ++ more)) (length h)
  pub prices : PricesAlike (price_of l h) (price_of l (h ++ more)) l.offered (length h)
