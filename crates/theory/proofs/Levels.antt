-- The level search: what the levels hold gives total and back, and a break that none holds is never used again.
use Rattle.std.proofs.Common.{◌≡◌, ℕ, zero, suc, ◌<◌, ◌≤◌, Bool, true, false, cond, not, ◌&&◌, ◌||◌, eqb, leb, ◌⊎◌, Decides, sym, refl, ap, ◌∙◌, subst, inl, inr, arith}
use native.Mathlib.Decide.{le_ind}
use Rattle.std.proofs.lemmas.Bool.{cases_Bool, cases_lt, cases_cond, both_ways, and_parts, and_from, and_cases, or_cases, or_left, or_right, or_parts, not-true, not-false, not_from_false, leb-true, leb-false, le-leb, lt-leb, cond-true, eq-eqb}
use Rattle.std.proofs.lemmas.Bool.Decides.{Decides-eqb, Decides-or, Decides-below_or, not_from_Decides}
use Rattle.amounts.specs.Kind.{Kind, Laws}
use Rattle.theory.specs.Least.{Lowest, choose}
use Rattle.theory.specs.Totals.{through, total, back}
use Rattle.theory.specs.Levels.{price_sum, Leveled, at_level, held, worth, taken_up, carried_on, takes_up, winner, LevelKept, some_holds, level_keeps}
use Rattle.theory.specs.TheoremsOfSearches.{Sound, Holding, LevelSearch}
use Rattle.theory.proofs.Order.{at_most_else, below-at_most, plus_left, plus_right}
use Rattle.theory.proofs.Choosing.{below_or_at, Ranked, ranked-by_amount, chosen_like, chosen_unique, chosen_alone, chosen_more, choose-below}
use Rattle.theory.proofs.Totals.{total-zero, total-through, total-least, back-lowest}
use Rattle.theory.proofs.Keeping.{sound_from}

module _ {V : Type 0} {kind : Kind V} (laws : Laws kind) where
  module _ (price : ℕ → ℕ → V) (l : ℕ) where
    pub price_sum_none : (s : ℕ) → price_sum kind price l s s ≡ kind.nothing
    price_sum_none zero = refl
    price_sum_none (suc n) = rw (lt-leb (suc n) n (omega arith))

    pub price_sum_more : (s t : ℕ) → s ≤ t → price_sum kind price l s (suc t) ≡ kind.plus (price_sum kind price l s t) (price t l)
    price_sum_more s t h = cond-true _ _ _ (le-leb s t h)

  -- by worth W, and at equal worth by the held break H
  module _ (W : ℕ → V) (H : ℕ → ℕ) where
    abbrev Wins : ℕ → ℕ → Bool
    Wins l m = kind.at_most (W l) (W m) && (not (kind.at_most (W m) (W l)) || leb (H m) (H l))

    wins_parts : (l m : ℕ) → Wins l m ≡ true → (kind.at_most (W l) (W m) ≡ true) × (kind.at_most (W m) (W l) ≡ true → H m ≤ H l)
    wins_parts l m e =
        let parts = and_parts (kind.at_most (W l) (W m)) _ e in
        (parts.0, λ tie. elim (or_cases _ _ parts.1) [ inl less ↦ absurd (both_ways _ (not-true _ less) tie) | inr le ↦ leb-true (H m) (H l) le ])

    wins_from : (l m : ℕ) → kind.at_most (W l) (W m) ≡ true → (kind.at_most (W m) (W l) ≡ true → H m ≤ H l) → Wins l m ≡ true
    wins_from l m le deep =
        and_from _ _ le (elim (cases_Bool (kind.at_most (W m) (W l))) [ inl tie ↦ or_right _ _ (le-leb (H m) (H l) (deep tie)) | inr less ↦ or_left _ _ (not_from_false _ less) ])

    wins_either : (l m : ℕ) → Wins l m ≡ false → Wins m l ≡ true
    wins_either l m e =
        elim (and_cases _ _ e) [
          | inl more ↦ wins_from m l (at_most_else laws _ _ more) (λ le. absurd (both_ways _ more le))
          | inr tie ↦ let parts = or_parts _ _ tie in let shallow = leb-false (H m) (H l) parts.1 in wins_from m l (not-false _ parts.0) (λ le. omega arith)
        ]

    wins_chain : (l m n : ℕ) → Wins l m ≡ true → Wins m n ≡ true → Wins l n ≡ true
    wins_chain l m n x y =
        let p = wins_parts l m x in
        let q = wins_parts m n y in
        wins_from l n (laws.transitive _ _ _ p.0 q.0)
        (λ tie. omega (arith, p.1 (laws.transitive _ _ _ q.0 tie), q.1 (laws.transitive _ _ _ tie p.0)))

    wins-ranked : Ranked Wins
    wins-ranked = record { either = wins_either; chain = wins_chain }

  module _ (fee : ℕ → ℕ → V) (penalty : V) (price : ℕ → ℕ → V) where
    abbrev T : ℕ → V
    T = total kind fee penalty

    abbrev At : ℕ → ℕ → ℕ → V
    At = at_level kind fee penalty price

    abbrev H : ℕ → ℕ → ℕ
    H = held kind fee penalty price

    abbrev W : ℕ → ℕ → V
    W = worth kind fee penalty price

    abbrev Kept : ℕ → ℕ → ℕ → Type 0
    Kept = LevelKept kind fee penalty price

    pub held_none : (l : ℕ) → H l 0 ≡ 0
    unfolding held choose
    held_none l = refl

    pub held-lowest : (l n : ℕ) → 0 < n → Lowest kind (λ s. s < n) (At l n) (H l n)
    unfolding held
    held-lowest l n h = choose-below (ranked-by_amount laws _) n h

    pub held-within : (l n : ℕ) → H l n ≤ n
    held-within l zero = omega (arith, held_none l)
    held-within l (suc n) = omega (arith, (held-lowest l (suc n) (omega arith)).among)

    -- what a level makes of s, one reading later
    at_more : (l n s : ℕ) → s ≤ n → At l (suc n) s ≡ kind.plus (At l n s) (price n l)
    at_more l n s h = ap (kind.plus (T s)) (price_sum_more price l s n h) ∙ sym (laws.plus_assoc _ _ _)

    at_newest : (l n : ℕ) → At l (suc n) n ≡ taken_up kind fee penalty price l n
    at_newest l n = at_more l n n (omega arith) ∙ ap (λ v. kind.plus (kind.plus (T n) v) (price n l)) (price_sum_none price l n) ∙ ap (λ v. kind.plus v (price n l)) (laws.plus_nothing _)

    at_held : (l n : ℕ) → At l (suc n) (H l n) ≡ carried_on kind fee penalty price l n
    at_held l n = at_more l n (H l n) (held-within l n)

    pub worth_none : (l : ℕ) → W l 0 ≡ kind.nothing
    worth_none l = ap (At l 0) (held_none l) ∙ laws.plus_nothing _ ∙ total-zero laws fee penalty

    held_then : (l n : ℕ) → Lowest kind (λ s. s < suc n) (At l (suc n)) (cond (takes_up kind fee penalty price l n) n (H l n))
    held_then l zero = subst (Lowest kind (λ s. s < 1) (At l 1)) (sym (same _)) (chosen_alone (ranked-by_amount laws (At l 1)) 0 (omega arith) (λ s h. omega arith))
      where
        same : (t : Bool) → cond t 0 (H l 0) ≡ 0
        same true = refl
        same false = held_none l
    held_then l (suc n) =
        let old = held-lowest l (suc n) (omega arith) in
        let moved : (s u : ℕ) → s < suc n → u < suc n → kind.at_most (At l (suc n) s) (At l (suc n) u) ≡ kind.at_most (At l (suc (suc n)) s) (At l (suc (suc n)) u) = λ s u hs hu. rw (at_more l (suc n) s (omega arith), at_more l (suc n) u (omega arith)) (sym (laws.cancels _ _ _)) in
        chosen_more (ranked-by_amount laws (At l (suc (suc n)))) (H l (suc n)) (suc n)
        (chosen_like (λ s h. h) (λ s h. h) moved old) (omega arith) (λ s h. (omega arith, h)) (λ s h. below_or_at s (suc n) h)
        _ (ap (λ v. kind.at_most v (At l (suc (suc n)) (H l (suc n)))) (at_newest l (suc n)) ∙ ap (kind.at_most (taken_up kind fee penalty price l (suc n))) (at_held l (suc n)))

    pub held_more : (l n : ℕ) → H l (suc n) ≡ cond (takes_up kind fee penalty price l n) n (H l n)
    held_more l n = chosen_unique (held-lowest l (suc n) (omega arith)) (held_then l n)

    pub worth_more : (l n : ℕ) → W l (suc n) ≡ cond (takes_up kind fee penalty price l n) (taken_up kind fee penalty price l n) (carried_on kind fee penalty price l n)
    worth_more l n = ap (At l (suc n)) (held_more l n) ∙ by _
      where
        by : (t : Bool) → At l (suc n) (cond t n (H l n)) ≡ cond t (taken_up kind fee penalty price l n) (carried_on kind fee penalty price l n)
        by true = at_newest l n
        by false = at_held l n

    module _ (k : ℕ) where
      pub level_decides : (n s : ℕ) → Decides (level_keeps kind fee penalty price k n s) (Kept k n s)
      unfolding some_holds
      level_decides n s =
          Decides-or _ _ (Decides-eqb s n)
          (Decides-below_or (λ l. eqb (H l n) s) (λ l. H l n ≡ s) (λ m. some_holds kind fee penalty price m n s) (λ l. Decides-eqb (H l n) s) refl (λ m. refl) k)

      pub holding : Holding kind fee penalty price k
      holding = record {
        told = level_decides;
        held_is = held-lowest;
        held_none = held_none;
        worth_none = worth_none;
        held_more = held_more;
        worth_more = worth_more;
      }

      kept_before : (n s : ℕ) → s ≤ n → Kept k (suc n) s → Kept k n s
      kept_before n s h (inl e) = absurd (omega arith)
      kept_before n s h (inr x) = elim (cases_cond _ _ _ _ (sym x.2 ∙ held_more x.0 n)) [ inl top ↦ inl top | inr same ↦ inr (x.0, x.1, sym same) ]

      kept_earlier : (n m s : ℕ) → s ≤ n → n ≤ m → Kept k m s → Kept k n s
      kept_earlier n m s sn nm = le_ind (λ x. Kept k x s → Kept k n s) (λ h. h) (λ x nx old h. old (kept_before x s (omega arith) h)) m nm

      stays : (n m s : ℕ) → s ≤ n → n ≤ m → level_keeps kind fee penalty price k n s ≡ false → level_keeps kind fee penalty price k m s ≡ false
      stays n m s sn nm e =
          elim (cases_Bool (level_keeps kind fee penalty price k m s))
          [ inl t ↦ absurd (not_from_Decides _ (level_decides n s) e (kept_earlier n m s sn nm ((level_decides m s).0 t))) | inr f ↦ f ]

      module _ (N : ℕ) (law : Leveled kind fee price k N) where
        -- no level makes less of a break than the fee does
        above-fee : (l t s : ℕ) → s < t → t ≤ N → l < k → kind.at_most (kind.plus (T s) (fee s t)) (At l t s) ≡ true
        above-fee l t s h top lk = plus_left laws _ _ (T s) (law.least s t l h top lk)

        above-through : (l t s : ℕ) → s < t → t ≤ N → l < k → kind.at_most (through kind fee penalty T t s) (kind.plus (At l t s) penalty) ≡ true
        above-through l t s h top lk = plus_right laws _ _ penalty (above-fee l t s h top lk)

        least : (t l : ℕ) → 0 < t → t ≤ N → l < k → kind.at_most (T t) (kind.plus (W l t) penalty) ≡ true
        least t l h top lk =
            let under = (held-lowest l t h).among in
            laws.transitive _ _ _ (total-least laws fee penalty t _ under) (above-through l t _ under top lk)

        deepest : (t l : ℕ) → 0 < t → t ≤ N → l < k → kind.plus (W l t) penalty ≡ T t → H l t ≤ back kind fee penalty t
        deepest t l h top lk e =
            let under = (held-lowest l t h).among in
            elim (cases_lt (back kind fee penalty t) (H l t)) [
              | inl lt ↦ absurd (both_ways _ ((back-lowest laws fee penalty t h).last _ under lt) (rw (e, total-through laws fee penalty t h) at (above-through l t _ under top lk)))
              | inr ge ↦ ge
            ]

        reached : (t : ℕ) → 0 < t → t ≤ N → (l : ℕ) × (l < k) × (H l t ≡ back kind fee penalty t) × (kind.plus (W l t) penalty ≡ T t)
        reached t h top =
            let b = back kind fee penalty t in
            let low = back-lowest laws fee penalty t h in
            let r = law.reached b t low.among top in
            let l = r.0 in
            let here : kind.plus (T b) (fee b t) ≡ At l t b = ap (kind.plus (T b)) r.2 in
            let mine : Lowest kind (λ s. s < t) (At l t) b = record {
              among = low.among;
              best = λ s hs. laws.transitive _ _ _ (subst (λ v. kind.at_most v (kind.plus (T s) (fee s t)) ≡ true) here (sym (laws.cancels _ _ _) ∙ low.best s hs)) (above-fee l t s hs top r.1);
              last = λ s hs lt. below-at_most laws _ _ _ (subst (λ v. kind.at_most (kind.plus (T s) (fee s t)) v ≡ false) here (sym (laws.cancels _ _ _) ∙ low.last s hs lt)) (above-fee l t s hs top r.1);
            } in
            let holds = chosen_unique (held-lowest l t h) mine in
            (l, r.1, holds, ap (λ s. kind.plus (At l t s) penalty) holds ∙ ap (λ v. kind.plus v penalty) (sym here) ∙ sym (total-through laws fee penalty t h))

        abbrev Winner : ℕ → ℕ
        Winner = winner kind fee penalty price k

        winner-wins : (t : ℕ) → 0 < t → t ≤ N → (Winner t < k) × (kind.plus (W (Winner t) t) penalty ≡ T t) × (H (Winner t) t ≡ back kind fee penalty t)
        winner-wins t h top =
            let r = reached t h top in
            let won = choose-below (wins-ranked (λ l. W l t) (λ l. H l t)) k (omega (arith, r.1)) in
            let parts = wins_parts (λ l. W l t) (λ l. H l t) (Winner t) r.0 (won.best r.0 r.1) in
            let over : kind.at_most (W r.0 t) (W (Winner t) t) ≡ true = sym (laws.cancels _ _ penalty) ∙ (rw r.3 (least t (Winner t) h top won.among)) in
            let same : kind.plus (W (Winner t) t) penalty ≡ T t = ap (λ v. kind.plus v penalty) (laws.antisymmetric _ _ parts.0 over) ∙ r.3 in
            (won.among, same, omega (arith, parts.1 over, deepest t (Winner t) h top won.among same, r.2))

        pub level_search : LevelSearch kind fee penalty price k N
        level_search = record {
          least = least;
          reached = reached;
          deepest = deepest;
          winner_offered = λ t h top. (winner-wins t h top).0;
          winner_total = λ t h top. (winner-wins t h top).1;
          winner_back = λ t h top. (winner-wins t h top).2;
        }

        not_lost : (n t : ℕ) → n < t → t ≤ N → (n < back kind fee penalty t) ⊎ (level_keeps kind fee penalty price k n (back kind fee penalty t) ≡ true)
        not_lost n t h top =
            let r = reached t (omega arith) top in
            elim (cases_lt n (back kind fee penalty t)) [
              | inl lt ↦ inl lt
              | inr le ↦ inr ((level_decides n _).1 (kept_earlier n t _ le (omega arith) (inr (r.0, r.1, r.2))))
            ]

        pub level_sound : Sound kind fee penalty (level_keeps kind fee penalty price k) N
        level_sound = sound_from laws fee penalty (level_keeps kind fee penalty price k) N not_lost (λ n. or_left _ _ (eq-eqb n n refl)) stays
