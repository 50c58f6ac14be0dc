-- Lists in rising order, lists with the same sums, and what stands in a list.
use Rattle.std.proofs.Common.{◌≡◌, ℕ, zero, suc, ◌<◌, Bool, true, false, cond, ◌⊎◌, List, [], ◌∷◌, length, get_or, take, drop, ℤ, pos, ◌≤ℤ◌, fold, filter, refl, ap, ◌∙◌, subst, inl, inr, arith}
use lib.Signed.{lt_z}
use Rattle.std.specs.Int.{int_min}
use Rattle.std.specs.List.{AllByRecursion}
use Rattle.std.proofs.lemmas.Int.{ints, clamps}
use Rattle.std.proofs.lemmas.Bool.{false≢true}
use Rattle.medians.specs.Medians.{lowest}

abbrev pub Rising : List ℤ → Type 0
Rising [] = Unit {0}
Rising (x ∷ xs) = AllByRecursion (λ y. x ≤ℤ y) xs × Rising xs

pub none : {X : Type 0} (k : ℕ) → k < 0 → X
none k h = absurd (let z : ⊥ = omega arith in z)

pub rising-below : (w : List ℤ) (k : ℕ) → Rising w → k < length w → AllByRecursion (λ y. y ≤ℤ get_or w k (pos 0)) (take (suc k) w)
rising-below [] k r h = tt
rising-below (x ∷ xs) zero r h = (omega (arith, ints), tt)
rising-below (x ∷ xs) (suc k) r h = (first x xs k r.0 (omega arith), rising-below xs k r.1 (omega arith))
  where
    first : (x : ℤ) (xs : List ℤ) (k : ℕ) → AllByRecursion (λ y. x ≤ℤ y) xs → k < length xs → x ≤ℤ get_or xs k (pos 0)
    first x [] k a h = none k h
    first x (y ∷ ys) zero a h = a.0
    first x (y ∷ ys) (suc k) a h = first x ys k a.1 (omega arith)

pub rising-above : (w : List ℤ) (k : ℕ) → Rising w → k < length w → AllByRecursion (λ y. get_or w k (pos 0) ≤ℤ y) (drop k w)
rising-above [] k r h = none k h
rising-above (x ∷ xs) zero r h = (omega (arith, ints), r.0)
rising-above (x ∷ xs) (suc k) r h = rising-above xs k r.1 (omega arith)

-- y stands in the list
abbrev pub In : ℤ → List ℤ → Type 0
In y [] = ⊥
In y (x ∷ xs) = (x ≡ y) ⊎ In y xs

pub in_get_or : (w : List ℤ) (k : ℕ) → k < length w → In (get_or w k (pos 0)) w
in_get_or [] k h = none k h
in_get_or (x ∷ xs) zero h = inl refl
in_get_or (x ∷ xs) (suc k) h = inr (in_get_or xs k (omega arith))

pub in_all : (P : ℤ → Type 0) (y : ℤ) (xs : List ℤ) → AllByRecursion P xs → In y xs → P y
in_all P y [] a i = elim i [ ]
in_all P y (x ∷ xs) a (inl e) = subst P e a.0
in_all P y (x ∷ xs) a (inr i) = in_all P y xs a.1 i

in_kept_here : (y x : ℤ) (ks : List ℤ) (b : Bool) → b ≡ true → x ≡ y → In y (cond b (x ∷ ks) ks)
in_kept_here y x ks true h e = inl e
in_kept_here y x ks false h e = absurd (false≢true h)

in_kept_later : (y x : ℤ) (ks : List ℤ) (b : Bool) → In y ks → In y (cond b (x ∷ ks) ks)
in_kept_later y x ks true i = inr i
in_kept_later y x ks false i = i

pub in_kept : (p : ℤ → Bool) (y : ℤ) (xs : List ℤ) → p y ≡ true → In y xs → In y (filter p xs)
in_kept p y [] h i = i
in_kept p y (x ∷ xs) h (inl e) = in_kept_here y x (filter p xs) (p x) (ap p e ∙ h) e
in_kept p y (x ∷ xs) h (inr i) = in_kept_later y x (filter p xs) (p x) (in_kept p y xs h i)

kept_in_at : (y x : ℤ) (xs ks : List ℤ) (b : Bool) → (In y ks → In y xs) → In y (cond b (x ∷ ks) ks) → In y (x ∷ xs)
kept_in_at y x xs ks true f (inl e) = inl e
kept_in_at y x xs ks true f (inr i) = inr (f i)
kept_in_at y x xs ks false f i = inr (f i)

pub kept_in : (p : ℤ → Bool) (y : ℤ) (xs : List ℤ) → In y (filter p xs) → In y xs
kept_in p y [] i = i
kept_in p y (x ∷ xs) i = kept_in_at y x xs (filter p xs) (p x) (kept_in p y xs) i

-- ---- the smallest of a list

int_min_le : (a x : ℤ) → (int_min a x ≤ℤ a) × (int_min a x ≤ℤ x)
int_min_le a x = (omega (arith, ints, clamps), omega (arith, ints, clamps))

le_trans : (a b c : ℤ) → a ≤ℤ b → b ≤ℤ c → a ≤ℤ c
le_trans a b c h k = omega (arith, ints)

lowest_first : (a : ℤ) (xs : List ℤ) → fold int_min a xs ≤ℤ a
lowest_first a [] = omega (arith, ints)
lowest_first a (x ∷ xs) = le_trans _ _ _ (lowest_first (int_min a x) xs) (int_min_le a x).0

lowest_rest : (a y : ℤ) (xs : List ℤ) → In y xs → fold int_min a xs ≤ℤ y
lowest_rest a y [] i = elim i [ ]
lowest_rest a y (x ∷ xs) (inl e) = let P : ℤ → Type 0 = λ z. fold int_min (int_min a x) xs ≤ℤ z in subst P e (le_trans _ _ _ (lowest_first (int_min a x) xs) (int_min_le a x).1)
lowest_rest a y (x ∷ xs) (inr i) = lowest_rest (int_min a x) y xs i

pub lowest_le : (y : ℤ) (xs : List ℤ) → In y xs → lowest xs ≤ℤ y
lowest_le y [] i = elim i [ ]
lowest_le y (x ∷ xs) (inl e) = let P : ℤ → Type 0 = λ z. fold int_min x xs ≤ℤ z in subst P e (lowest_first x xs)
lowest_le y (x ∷ xs) (inr i) = lowest_rest x y xs i

int_min_either : (b : Bool) (a x : ℤ) → (a ≡ cond b x a) ⊎ (x ≡ cond b x a)
int_min_either true a x = inr refl
int_min_either false a x = inl refl

lowest_moves : (a x y : ℤ) (xs : List ℤ) → (a ≡ int_min a x) ⊎ (x ≡ int_min a x) → In y (int_min a x ∷ xs) → In y (a ∷ (x ∷ xs))
lowest_moves a x y xs (inl e) (inl f) = inl (e ∙ f)
lowest_moves a x y xs (inr e) (inl f) = inr (inl (e ∙ f))
lowest_moves a x y xs c (inr i) = inr (inr i)

lowest_in_from : (a : ℤ) (xs : List ℤ) → In (fold int_min a xs) (a ∷ xs)
lowest_in_from a [] = inl refl
lowest_in_from a (x ∷ xs) = lowest_moves a x _ xs (int_min_either (lt_z x a) a x) (lowest_in_from (int_min a x) xs)

pub lowest_in : (y : ℤ) (xs : List ℤ) → In y xs → In (lowest xs) xs
lowest_in y [] i = i
lowest_in y (x ∷ xs) i = lowest_in_from x xs
