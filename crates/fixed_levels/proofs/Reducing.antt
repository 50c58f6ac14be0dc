-- What `reduce` answers at a chain whose list is known, where the closure computes h.
use Rattle.std.proofs.Common.{◌≡◌, List, [], ◌∷◌, Option, Some, sym, refl, ap, ◌∙◌, subst}
use denote.Param.Members.{Mut, Called}
use Rattle.std.specs.Iterator.{ReducesItems, FoldTurn}
use Rattle.std.specs.List.{FoldsTo, fold}
use Rattle.std.proofs.lemmas.Iterator.{YieldsList, items_from_drains}
use Rattle.std.proofs.lemmas.List.{map-id}

module _ {A F : Type 0} (g : Mut F (A × (A × Unit {0})) A) (h : A → A → A) {f : F} (calls : (a b c : A) (q : F) → Called g f (a, (b, tt)) c q → (q ≡ f) × (c ≡ h a b)) where
  folded : (xs : List A) (p : F × A) (x y : A) (q : F) → p.0 ≡ f → p.1 ≡ x → FoldsTo {P = F × A} (FoldTurn g) p xs (q, y) → y ≡ fold h x xs
  folded [] p x y q e d s = sym (ap (λ (w : F × A). w.1) s) ∙ d
  folded (z ∷ zs) p x y q e d s =
      let k = calls p.1 z s.0.1 s.0.0 (subst (λ w. Called g w (p.1, (z, tt)) s.0.1 s.0.0) e s.1) in
      folded zs s.0 (h x z) y q k.0 (k.1 ∙ ap (λ a. h a z) d) s.2

  pub folded_from_reduce : {S : Type 0} {steps : S → Option A → S → Type 0} {s : S} {all : List A} (r : Option A) (y : A) → ReducesItems steps g s f r → r ≡ Some y → YieldsList steps (λ x. x) s all → (x : A) × (xs : List A) × (x ∷ xs ≡ all) × (y ≡ fold h x xs)
  folded_from_reduce {steps = steps} {s = s} r y ran e road =
      let m = subst (λ o. ReducesItems steps g s f o) e ran in
      let d = m.3 in
      let same : m.0 ∷ m.1 ≡ _ = sym (map-id (m.0 ∷ m.1)) ∙ items_from_drains (m.0 ∷ m.1) (d.1.0, d.1.1, λ _. (d.0, d.1.2)) road in
      (m.0, m.1, same, folded m.1 (f, m.0) m.0 y m.2 refl refl m.4)
