-- Reckoning with amounts: what follows from the laws of a kind.
use Rattle.std.proofs.Common.{◌≡◌, true, false, sym, ◌∙◌, inl, inr}
use Rattle.std.proofs.lemmas.Bool.{cases_Bool, both_ways}
use Rattle.amounts.specs.Kind.{Kind, Laws}

module _ {V : Type 0} {kind : Kind V} (laws : Laws kind) where
  pub at_most_refl : (a : V) → kind.at_most a a ≡ true
  at_most_refl a = elim (laws.total a a) [ inl e ↦ e | inr e ↦ e ]

  pub at_most_eq : (a b : V) → a ≡ b → kind.at_most a b ≡ true
  at_most_eq a b e = rw e (at_most_refl b)

  pub at_most_else : (a b : V) → kind.at_most a b ≡ false → kind.at_most b a ≡ true
  at_most_else a b f = elim (laws.total a b) [ inl t ↦ absurd (both_ways _ f t) | inr t ↦ t ]

  -- a < b ≤ c
  pub below-at_most : (a b c : V) → kind.at_most b a ≡ false → kind.at_most b c ≡ true → kind.at_most c a ≡ false
  below-at_most a b c ba bc = elim (cases_Bool (kind.at_most c a)) [ inl e ↦ absurd (both_ways _ ba (laws.transitive b c a bc e)) | inr e ↦ e ]

  pub nothing-plus : (a : V) → kind.plus kind.nothing a ≡ a
  nothing-plus a = laws.plus_comm kind.nothing a ∙ laws.plus_nothing a

  pub plus_right : (a b c : V) → kind.at_most a b ≡ true → kind.at_most (kind.plus a c) (kind.plus b c) ≡ true
  plus_right a b c h = laws.cancels a b c ∙ h

  pub plus_left : (a b c : V) → kind.at_most a b ≡ true → kind.at_most (kind.plus c a) (kind.plus c b) ≡ true
  plus_left a b c h = rw (laws.plus_comm c a, laws.plus_comm c b) (plus_right a b c h)

  pub plus_injective : (a b c : V) → kind.plus a c ≡ kind.plus b c → a ≡ b
  plus_injective a b c e = laws.antisymmetric a b (sym (laws.cancels a b c) ∙ at_most_eq _ _ e) (sym (laws.cancels b a c) ∙ at_most_eq _ _ (sym e))
