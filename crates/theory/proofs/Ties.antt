-- Of the layerings of least cost the given one has the deepest breaks.
use Rattle.std.proofs.Common.{◌≡◌, ℕ, ◌<◌, true, ◌⊎◌, List, [], ◌∷◌, ◌++◌, sym, refl, ap, ◌∙◌, inl, inr, append_assoc, arith}
use Rattle.std.proofs.lemmas.Bool.{cases_order, both_ways}
use Rattle.amounts.specs.Kind.{Kind, Laws}
use Rattle.theory.specs.Layerings.{Rising, Layering, Deeper, cost}
use Rattle.theory.specs.Totals.{through, total, back, given}
use Rattle.theory.specs.Theorems.{Ties}
use Rattle.theory.proofs.Order.{plus_right, plus_injective}
use Rattle.theory.proofs.Totals.{total-through, back-lowest}
use Rattle.theory.proofs.Layerings.{rising_le, cost-push, given-zero, given-push, given-layering, given-cost, no_better, by_breaks}

-- the last layer of a layering
record LastLayer (s : ℕ) (qs : List ℕ) (j : ℕ) : Type 0 where
  start : ℕ
  rest : List ℕ
  cut : qs ≡ rest ++ (j ∷ [])
  rising : Rising s rest start
  less : start < j

last_layer : (s : ℕ) (qs : List ℕ) (j : ℕ) → Rising s qs j → s < j → LastLayer s qs j
last_layer s [] j h lt = absurd (omega arith)
last_layer s (q ∷ []) j h lt = record { start = s; rest = []; cut = ap (λ x. x ∷ []) h.1; rising = refl; less = lt }
last_layer s (q ∷ (r ∷ qs)) j h lt =
    let l = last_layer q (r ∷ qs) j h.1 (omega (arith, h.1.0, rising_le r qs j h.1.1)) in
    record { start = l.start; rest = q ∷ l.rest; cut = ap (λ x. q ∷ x) l.cut; rising = (h.0, l.rising); less = l.less }

no_layer : (qs : List ℕ) → Layering 0 qs → qs ≡ []
no_layer [] h = refl
no_layer (q ∷ qs) h = absurd (omega (arith, h.0, rising_le q qs 0 h.1))

ends : (s : ℕ) (ps : List ℕ) (j : ℕ) → Rising s ps j → (front : List ℕ) × (s ∷ ps ≡ front ++ (j ∷ []))
ends s [] j h = ([], ap (λ x. x ∷ []) h)
ends s (q ∷ ps) j h = let e = ends q ps j h.1 in (s ∷ e.0, ap (λ x. s ∷ x) e.1)

push : (ps front : List ℕ) (a : ℕ) (shared : List ℕ) (j : ℕ) → 0 ∷ ps ≡ front ++ (a ∷ shared) → 0 ∷ (ps ++ (j ∷ [])) ≡ front ++ (a ∷ (shared ++ (j ∷ [])))
push ps front a shared j e = ap (λ x. x ++ (j ∷ [])) e ∙ append_assoc front (a ∷ shared) (j ∷ [])

-- they differ further up
deeper-above : {ps qs : List ℕ} (j : ℕ) → Deeper ps qs → Deeper (ps ++ (j ∷ [])) (qs ++ (j ∷ []))
deeper-above {ps} {qs} j d = record {
  mine = d.mine;
  theirs = d.theirs;
  shared = d.shared ++ (j ∷ []);
  my_break = d.my_break;
  their_break = d.their_break;
  mine_is = push ps _ _ _ j d.mine_is;
  theirs_is = push qs _ _ _ j d.theirs_is;
  deeper = d.deeper;
}

-- they differ in the last break
deeper_here : (ps qs : List ℕ) (a b j : ℕ) → Layering a ps → Layering b qs → b < a → Deeper (ps ++ (j ∷ [])) (qs ++ (j ∷ []))
deeper_here ps qs a b j x y lt =
    let m = ends 0 ps a x in
    let t = ends 0 qs b y in
    record { mine = m.0; theirs = t.0; shared = j ∷ []; my_break = a; their_break = b; mine_is = push ps m.0 a [] j m.1; theirs_is = push qs t.0 b [] j t.1; deeper = lt }

module _ {V : Type 0} {kind : Kind V} (laws : Laws kind) (fee : ℕ → ℕ → V) (penalty : V) where
  abbrev T : ℕ → V
  T = total kind fee penalty

  abbrev C : List ℕ → V
  C = cost kind fee penalty

  abbrev G : ℕ → List ℕ
  G = given kind fee penalty

  abbrev Tied : ℕ → Type 0
  Tied j = (qs : List ℕ) → Layering j qs → C qs ≡ T j → (G j ≡ qs) ⊎ Deeper (G j) qs

  tied_more : (j : ℕ) → 0 < j → Tied (back kind fee penalty j) → Tied j
  tied_more j h old qs lay e =
      let b = back kind fee penalty j in
      let low = back-lowest laws fee penalty j h in
      let l = last_layer 0 qs j lay h in
      let m = l.start in
      let split : kind.plus (kind.plus (C l.rest) (fee m j)) penalty ≡ T j = sym (cost-push laws fee penalty 0 l.rest m j l.rising) ∙ ap C (sym l.cut) ∙ e in
      let under = plus_right laws _ _ penalty (plus_right laws _ _ (fee m j) (no_better laws fee penalty m l.rest l.rising)) in
      let reach : kind.at_most (through kind fee penalty T j m) (through kind fee penalty T j b) ≡ true = rw (split, total-through laws fee penalty j h) at under in
      elim (cases_order m b) [
        | inl same ↦
            let rest_cost : C l.rest ≡ T m = plus_injective laws _ _ _ (plus_injective laws _ _ _ (split ∙ total-through laws fee penalty j h ∙ ap (through kind fee penalty T j) (sym same))) in
            elim (old l.rest (rw same at l.rising) (rw same at rest_cost)) [
              | inl eq ↦ inl (given-push laws fee penalty j h ∙ ap (λ x. x ++ (j ∷ [])) eq ∙ sym l.cut)
              | inr d ↦ inr (rw (given-push laws fee penalty j h, l.cut) (deeper-above j d))
            ]
        | inr differ ↦
            elim differ [
              | inl lt ↦ inr (rw (given-push laws fee penalty j h, l.cut) (deeper_here (G b) l.rest b m j (given-layering laws fee penalty b) l.rising lt))
              | inr gt ↦ absurd (both_ways _ (low.last m l.less gt) reach)
            ]
      ]

  pub ties : Ties kind fee penalty
  ties j qs lay e =
      by_breaks laws fee penalty Tied (λ qs lay e. inl (given-zero laws fee penalty ∙ sym (no_layer qs lay))) tied_more j qs lay (e ∙ given-cost laws fee penalty j)
