-- Lists of readings that all pass a test, as lawful readings do.
use Rattle.std.proofs.Common.{◌≡◌, Bool, true, List, [], ◌∷◌, ◌++◌, ℤ, refl}
use Rattle.std.specs.List.{list_all, AllByRecursion}
use Rattle.std.proofs.ByRecursion.{All-push}
use Rattle.std.proofs.lemmas.Bool.{and_parts, and_from}

module _ (p : ℤ → Bool) where
  abbrev Passes : ℤ → Type 0
  Passes x = p x ≡ true

  pub all_from_pass : (u : List ℤ) → list_all p u ≡ true → AllByRecursion (λ x. p x ≡ true) u
  all_from_pass [] h = tt
  all_from_pass (x ∷ xs) h = let q = and_parts (p x) (list_all p xs) h in (q.0, all_from_pass xs q.1)

  pub pass_from_all : (u : List ℤ) → AllByRecursion (λ x. p x ≡ true) u → list_all p u ≡ true
  pass_from_all [] a = refl
  pass_from_all (x ∷ xs) a = and_from (p x) (list_all p xs) a.0 (pass_from_all xs a.1)

  pub pass_push : (u : List ℤ) (x : ℤ) → list_all p u ≡ true → p x ≡ true → list_all p (u ++ (x ∷ [])) ≡ true
  pass_push u x h l = pass_from_all (u ++ (x ∷ [])) (All-push Passes u x (all_from_pass u h) l)
