-- Joining lists: two that overlap join to what they cover together.
use Rattle.readings.proofs.Segments.{cut_at}
use Rattle.std.proofs.Common.{◌≡◌, ℕ, ◌≤◌, List, [], ◌∷◌, ◌++◌, Some, None, Option, sym, refl, ap, ◌∙◌, ap₂, arith}
use Rattle.std.specs.List.{between}
use Rattle.spans.specs.Joinings.{both, joining}

pub between_split : {X : Type 0} (i m j : ℕ) (xs : List X) → i ≤ m → m ≤ j → between i j xs ≡ between i m xs ++ between m j xs
between_split i m j xs p q = cut_at xs i m j p q

module _ {T : Type 0} (join : T → T → T) (assoc : (x y z : T) → join (join x y) z ≡ join x (join y z)) where
  pub both_assoc : (a b c : Option T) → both join (both join a b) c ≡ both join a (both join b c)
  both_assoc None b c = refl
  both_assoc (Some x) None c = refl
  both_assoc (Some x) (Some y) None = refl
  both_assoc (Some x) (Some y) (Some z) = ap Some (assoc x y z)

  pub joining-append : (xs ys : List T) → joining join (xs ++ ys) ≡ both join (joining join xs) (joining join ys)
  joining-append [] ys = refl
  joining-append (x ∷ xs) ys = ap (both join (Some x)) (joining-append xs ys) ∙ sym (both_assoc (Some x) (joining join xs) (joining join ys))

  pub joining_split : (i m j : ℕ) (xs : List T) → i ≤ m → m ≤ j → joining join (between i j xs) ≡ both join (joining join (between i m xs)) (joining join (between m j xs))
  joining_split i m j xs p q = ap (joining join) (between_split i m j xs p q) ∙ joining-append (between i m xs) (between m j xs)

  module _ (idem : (x : T) → join x x ≡ x) where
    both_idem : (a : Option T) → both join a a ≡ a
    both_idem None = refl
    both_idem (Some x) = ap Some (idem x)

    -- what both share counts once
    shared : (a b c : Option T) → both join (both join a b) (both join b c) ≡ both join a (both join b c)
    shared a b c =
        both_assoc a b (both join b c) ∙ ap (both join a) (sym (both_assoc b b c) ∙ ap (λ x. both join x c) (both_idem b))

    pub covering : (s m n t : ℕ) (xs : List T) → s ≤ m → m ≤ n → n ≤ t → both join (joining join (between s n xs)) (joining join (between m t xs)) ≡ joining join (between s t xs)
    covering s m n t xs p q r =
        ap₂ (both join) (joining_split s m n xs p q) (joining_split m n t xs q r)
        ∙ (shared (joining join (between s m xs)) (joining join (between m n xs)) (joining join (between n t xs))
        ∙ (ap (both join (joining join (between s m xs))) (sym (joining_split m n t xs q r)) ∙ sym (joining_split s m t xs p (omega arith))))
