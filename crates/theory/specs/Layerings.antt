-- Layerings of the first j readings, and what they cost.
--   place: a number from 0 to j; the segment (s, t) is the readings s to t - 1.
--   layering: the places p1 < .. < pm = j above p0 = 0. Its layers are the segments between neighbours.
--   break of a layer: the place where it starts; the last break is that of the last layer. Of two breaks the greater lies deeper.
--   cost: the sum, over the layers, of the fee and the penalty.
use Rattle.std.specs.Prelude.{◌≡◌, ℕ, ◌<◌, List, [], ◌∷◌, ◌++◌}
use Rattle.amounts.specs.Kind.{Kind}

-- above s the places rise strictly, and the last is j
abbrev pub Rising : ℕ → List ℕ → ℕ → Type 0
Rising s [] j = s ≡ j
Rising s (q ∷ ps) j = (s < q) × Rising q ps j

abbrev pub Layering : ℕ → List ℕ → Type 0
Layering j ps = Rising 0 ps j

-- (s, t) is a layer of the places ps
pub record Layer (ps : List ℕ) (s t : ℕ) : Type 0 where
  pub before : List ℕ
  pub after : List ℕ
  pub neighbours : 0 ∷ ps ≡ before ++ (s ∷ (t ∷ after))

-- the place before the last, of s and then ps
abbrev pub last_break_from : ℕ → List ℕ → ℕ
last_break_from s [] = s
last_break_from s (q ∷ []) = s
last_break_from s (q ∷ (r ∷ ps)) = last_break_from q (r ∷ ps)

abbrev pub last_break : List ℕ → ℕ
last_break ps = last_break_from 0 ps

-- counted from the last, at the first break where the two differ, that of ps is the deeper one
pub record Deeper (ps qs : List ℕ) : Type 0 where
  pub mine : List ℕ
  pub theirs : List ℕ
  pub shared : List ℕ
  pub my_break : ℕ
  pub their_break : ℕ
  pub mine_is : 0 ∷ ps ≡ mine ++ (my_break ∷ shared)
  pub theirs_is : 0 ∷ qs ≡ theirs ++ (their_break ∷ shared)
  pub deeper : their_break < my_break

module _ {V : Type 0} (kind : Kind V) (fee : ℕ → ℕ → V) (penalty : V) where
  abbrev pub cost_from : ℕ → List ℕ → V
  cost_from s [] = kind.nothing
  cost_from s (q ∷ ps) = kind.plus (kind.plus (fee s q) penalty) (cost_from q ps)

  abbrev pub cost : List ℕ → V
  cost ps = cost_from 0 ps
