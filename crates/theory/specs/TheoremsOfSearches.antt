-- What is true of the three searches.
--   sound: a keeping test that drops no break which is still to be a last break, so that the kept breaks give total and back.
use Rattle.std.specs.Prelude.{◌≡◌, ℕ, suc, ◌+◌, ◌<◌, ◌≤◌, Bool, true, false, cond, not, ◌⊎◌, List, [], ◌∷◌, ◌++◌, length, Decides, filter, ◌≢◌}
use Rattle.amounts.specs.Kind.{Kind}
use Rattle.theory.specs.Least.{Lowest, argmin}
use Rattle.theory.specs.Layerings.{last_break}
use Rattle.theory.specs.Totals
use Rattle.theory.specs.Keeping.{KeepingTest, kept_breaks, plain_keeps}
use Rattle.theory.specs.Pruned
use Rattle.theory.specs.Pruned.{Dropped}
use Rattle.theory.specs.Levels
use Rattle.theory.specs.Levels.{LevelKept}
use Rattle.theory.specs.Tallies.{dropped_count, pairs_tried, plain_fees}

-- under any keeping test, what is tallied
pub record Tallied (keep : KeepingTest) : Type 0 where
  pub dropped_rest : (n : ℕ) → dropped_count keep n + length (kept_breaks keep n) ≡ suc n
  pub pairs_more : (n : ℕ) → pairs_tried keep (suc n) ≡ pairs_tried keep n + length (kept_breaks keep n)

pub record PlainTallied : Type 0 where
  pub none_dropped : (n : ℕ) → dropped_count plain_keeps n ≡ 0
  pub all_pairs : (n : ℕ) → pairs_tried plain_keeps n ≡ plain_fees n

module _ {V : Type 0} (kind : Kind V) (fee : ℕ → ℕ → V) (penalty : V) where
  abbrev total : ℕ → V
  total = Totals.total kind fee penalty

  abbrev through : ℕ → ℕ → V
  through = Totals.through kind fee penalty total

  abbrev back : ℕ → ℕ
  back = Totals.back kind fee penalty

  abbrev given : ℕ → List ℕ
  given = Totals.given kind fee penalty

  -- of a search that keeps breaks by this test, for a hole of N readings
  pub record Sound (keep : KeepingTest) (N : ℕ) : Type 0 where
    pub newest : (n : ℕ) → keep n n ≡ true
    -- a later break is still kept, or has not come up yet
    pub not_lost : (n t : ℕ) → n < t → t ≤ N → (n < back t) ⊎ (keep n (back t) ≡ true)
    -- so what is dropped is no later break, and no later layering's last break; and it stays dropped
    pub unused : (n s t : ℕ) → s ≤ n → keep n s ≡ false → n < t → t ≤ N → back t ≢ s
    pub unused_last : (n s j : ℕ) → s ≤ n → keep n s ≡ false → n < j → j ≤ N → last_break (given j) ≢ s
    pub stays : (n m s : ℕ) → s ≤ n → n ≤ m → keep n s ≡ false → keep m s ≡ false
    -- the least over the kept breaks, with the greatest at ties, is total and back
    pub lowest : (n : ℕ) → n < N → Lowest kind (λ s. (s ≤ n) × (keep n s ≡ true)) (through (suc n)) (back (suc n))
    pub search_back : (n : ℕ) → n < N → argmin kind (through (suc n)) (kept_breaks keep n) ≡ back (suc n)
    pub search_total : (n : ℕ) → n < N → through (suc n) (argmin kind (through (suc n)) (kept_breaks keep n)) ≡ total (suc n)

  abbrev pruned_kept : ℕ → List ℕ
  pruned_kept = kept_breaks (Pruned.pruned_keeps kind fee penalty)

  abbrev drops : ℕ → ℕ → Bool
  drops = Pruned.drops kind fee penalty

  pub record Pruning : Type 0 where
    pub told : (n s : ℕ) → Decides (Pruned.dropped kind fee penalty n s) (Dropped kind fee penalty n s)
    -- before the first reading, and after one more: what was kept and is not dropped by the new total, and the newest
    pub kept_none : pruned_kept 0 ≡ 0 ∷ []
    pub kept_more : (n : ℕ) → pruned_kept (suc n) ≡ filter (λ s. not (drops (suc n) s)) (pruned_kept n) ++ (suc n ∷ [])

  module _ (price : ℕ → ℕ → V) (k : ℕ) where
    abbrev held : ℕ → ℕ → ℕ
    held = Levels.held kind fee penalty price

    abbrev worth : ℕ → ℕ → V
    worth = Levels.worth kind fee penalty price

    abbrev takes_up : ℕ → ℕ → Bool
    takes_up = Levels.takes_up kind fee penalty price

    abbrev winner : ℕ → ℕ
    winner = Levels.winner kind fee penalty price k

    -- what levels hold, before the first reading and after one reading more
    pub record Holding : Type 0 where
      pub told : (n s : ℕ) → Decides (Levels.level_keeps kind fee penalty price k n s) (LevelKept kind fee penalty price k n s)
      pub held_is : (l n : ℕ) → 0 < n → Lowest kind (λ s. s < n) (Levels.at_level kind fee penalty price l n) (held l n)
      pub held_none : (l : ℕ) → held l 0 ≡ 0
      pub worth_none : (l : ℕ) → worth l 0 ≡ kind.nothing
      pub held_more : (l n : ℕ) → held l (suc n) ≡ cond (takes_up l n) n (held l n)
      pub worth_more : (l n : ℕ) → worth l (suc n) ≡ cond (takes_up l n) (Levels.taken_up kind fee penalty price l n) (Levels.carried_on kind fee penalty price l n)

    -- the least over the levels; of several that reach it, back is the deepest break that they hold
    pub record LevelSearch (N : ℕ) : Type 0 where
      pub least : (t l : ℕ) → 0 < t → t ≤ N → l < k → kind.at_most (total t) (kind.plus (worth l t) penalty) ≡ true
      pub reached : (t : ℕ) → 0 < t → t ≤ N → (l : ℕ) × (l < k) × (held l t ≡ back t) × (kind.plus (worth l t) penalty ≡ total t)
      pub deepest : (t l : ℕ) → 0 < t → t ≤ N → l < k → kind.plus (worth l t) penalty ≡ total t → held l t ≤ back t
      pub winner_offered : (t : ℕ) → 0 < t → t ≤ N → winner t < k
      pub winner_total : (t : ℕ) → 0 < t → t ≤ N → kind.plus (worth (winner t) t) penalty ≡ total t
      pub winner_back : (t : ℕ) → 0 < t → t ≤ N → held (winner t) t ≡ back t
