-- Going through the places of a list finds the greatest that is as good as any.
use Rattle.std.proofs.Common.{◌≡◌, ℕ, zero, suc, ◌+◌, ◌<◌, Bool, true, false, cond, ◌&&◌, ◌⊎◌, List, [], ◌∷◌, ◌++◌, length, get_or, take, filter, sym, refl, ap, ◌∙◌, subst, inl, inr, arith}
use mathlib.Core.Path.{fun_ext}
use Rattle.std.specs.List.{range_with_len}
use Rattle.std.proofs.lemmas.List.Elements.{filter-append}
use Rattle.std.proofs.lemmas.List.{append-nil, take_more}
use Rattle.std.proofs.lemmas.List.Sums.{fold_push}
use Rattle.std.proofs.lemmas.Bool.{cases_Bool, cases_order, cases_lt, both_ways}
use Rattle.amounts.specs.Kind.{Kind, Laws}
use Rattle.theory.specs.Least.{Chosen, by_amount, choose, argmin}
use Rattle.theory.specs.Totals.{below}
use Rattle.theory.proofs.Order.{at_most_else}

pub below_or_at : (s n : ℕ) → s < suc n → (s < n) ⊎ (s ≡ n)
below_or_at s n h = elim (cases_lt s n) [ inl lt ↦ inl lt | inr ge ↦ inr (omega arith) ]

counting_push : (a n j : ℕ) → a + n ≡ j → range_with_len a (suc n) ≡ range_with_len a n ++ (j ∷ [])
counting_push a zero j e = let same : a ≡ j = omega arith in ap (λ k. k ∷ []) same
counting_push a (suc n) j e = ap (λ l. a ∷ l) (counting_push (a + 1) n j (omega arith))

pub below-push : (n : ℕ) → below (suc n) ≡ below n ++ (n ∷ [])
below-push n = counting_push 0 n n (omega arith)

pub kept_by_push : (keep : ℕ → Bool) (n : ℕ) → filter keep (below (suc n)) ≡ filter keep (below n) ++ cond (keep n) (n ∷ []) []
kept_by_push keep n = ap (filter keep) (below-push n) ∙ filter-append keep (below n) (n ∷ [])

pub kept_by_all : (xs : List ℕ) → filter (λ _. true) xs ≡ xs
kept_by_all [] = refl
kept_by_all (x ∷ xs) = ap (λ l. x ∷ l) (kept_by_all xs)

-- filters that agree on the places below n keep alike
pub kept_by_like : (keep other : ℕ → Bool) (n : ℕ) → ((s : ℕ) → s < n → keep s ≡ other s) → filter keep (below n) ≡ filter other (below n)
kept_by_like keep other zero same = refl
kept_by_like keep other (suc n) same =
    let before = kept_by_like keep other n (λ s h. same s (omega arith)) in
    kept_by_push keep n ∙ ap (λ l. l ++ cond (keep n) (n ∷ []) []) before ∙ ap (λ t. filter other (below n) ++ cond t (n ∷ []) []) (same n (omega arith)) ∙ sym (kept_by_push other n)

kept_by_step : (other : ℕ → Bool) (x : ℕ) (l : List ℕ) (t : Bool) → filter other (cond t (x ∷ l) l) ≡ cond (t && other x) (x ∷ filter other l) (filter other l)
kept_by_step other x l true = refl
kept_by_step other x l false = refl

pub kept_by_twice : (keep other : ℕ → Bool) (xs : List ℕ) → filter other (filter keep xs) ≡ filter (λ s. keep s && other s) xs
kept_by_twice keep other [] = refl
kept_by_twice keep other (x ∷ xs) = kept_by_step other x (filter keep xs) (keep x) ∙ ap (λ l. cond (keep x && other x) (x ∷ l) l) (kept_by_twice keep other xs)

-- one place more, and the same as the steps of a loop over a list or over the places below n
module _ (good : ℕ → ℕ → Bool) where
  pub choose-push : (c : ℕ) (cs : List ℕ) (x : ℕ) → choose good ((c ∷ cs) ++ (x ∷ [])) ≡ cond (good x (choose good (c ∷ cs))) x (choose good (c ∷ cs))
  unfolding choose
  choose-push c cs x = fold_push (λ b s. cond (good s b) s b) c cs x

  pub choose_take_one : (xs : List ℕ) (d : ℕ) → 0 < length xs → choose good (take 1 xs) ≡ get_or xs 0 d
  unfolding choose
  choose_take_one [] d h = absurd (omega arith)
  choose_take_one (x ∷ xs) d h = refl

  pub choose_take_more : (xs : List ℕ) (i d : ℕ) → 0 < i → i < length xs → choose good (take (i + 1) xs) ≡ cond (good (get_or xs i d) (choose good (take i xs))) (get_or xs i d) (choose good (take i xs))
  choose_take_more [] i d h lt = absurd (omega arith)
  choose_take_more (x ∷ xs) zero d h lt = absurd (omega arith)
  choose_take_more (x ∷ xs) (suc i) d h lt = ap (choose good) (take_more (x ∷ xs) (suc i) d lt) ∙ choose-push x (take i xs) (get_or xs i d)

  pub choose_below_one : choose good (below 1) ≡ 0
  unfolding choose
  choose_below_one = refl

  pub choose_below_more : (n : ℕ) → 0 < n → choose good (below (suc n)) ≡ cond (good n (choose good (below n))) n (choose good (below n))
  choose_below_more zero h = absurd (omega arith)
  choose_below_more (suc n) h = ap (choose good) (below-push (suc n)) ∙ choose-push 0 (range_with_len 1 n) (suc n)

-- the test is a total order up to ties
pub record Ranked (good : ℕ → ℕ → Bool) : Type 0 where
  pub either : (s u : ℕ) → good s u ≡ false → good u s ≡ true
  pub chain : (s u t : ℕ) → good s u ≡ true → good u t ≡ true → good s t ≡ true

pub ranked-by_amount : {V : Type 0} {kind : Kind V} → Laws kind → (f : ℕ → V) → Ranked (by_amount kind f)
ranked-by_amount laws f = record {
  either = λ s u. at_most_else laws (f s) (f u);
  chain = λ s u t. laws.transitive (f s) (f u) (f t);
}

-- the same candidates and the same outcomes of the test on them
pub chosen_like : {P Q : ℕ → Type 0} {good other : ℕ → ℕ → Bool} {b : ℕ} → ((s : ℕ) → P s → Q s) → ((s : ℕ) → Q s → P s) → ((s u : ℕ) → P s → P u → good s u ≡ other s u) → Chosen good P b → Chosen other Q b
chosen_like {b = b} to from same c = record {
  among = to b c.among;
  best = λ s h. sym (same b s c.among (from s h)) ∙ c.best s (from s h);
  last = λ s h lt. sym (same s b (from s h) c.among) ∙ c.last s (from s h) lt;
}

pub chosen_unique : {P : ℕ → Type 0} {good : ℕ → ℕ → Bool} {a b : ℕ} → Chosen good P a → Chosen good P b → a ≡ b
chosen_unique {a = a} {b = b} x y =
    elim (cases_order a b) [
      | inl e ↦ e
      | inr d ↦
          elim d [
            | inl lt ↦ absurd (both_ways _ (x.last b y.among lt) (y.best a x.among))
            | inr gt ↦ absurd (both_ways _ (y.last a x.among gt) (x.best b y.among))
          ]
    ]

module _ {good : ℕ → ℕ → Bool} (ranked : Ranked good) where
  good_refl : (s : ℕ) → good s s ≡ true
  good_refl s = elim (cases_Bool (good s s)) [ inl e ↦ e | inr e ↦ ranked.either s s e ]

  pub chosen_alone : {P : ℕ → Type 0} (c : ℕ) → P c → ((s : ℕ) → P s → s ≡ c) → Chosen good P c
  chosen_alone c here only = record {
    among = here;
    best = λ s h. rw (only s h) (good_refl c);
    last = λ s h lt. absurd (omega (arith, only s h));
  }

  -- one candidate more, above the others
  pub chosen_more : {P Q : ℕ → Type 0} (b c : ℕ) → Chosen good P b → Q c → ((s : ℕ) → P s → Q s × (s < c)) → ((s : ℕ) → Q s → P s ⊎ (s ≡ c)) → (t : Bool) → good c b ≡ t → Chosen good Q (cond t c b)
  chosen_more b c old here under cases true e = record {
    among = here;
    best = λ s h. elim (cases s h) [ inl was ↦ ranked.chain c b s e (old.best s was) | inr is ↦ rw is (good_refl c) ];
    last = λ s h lt. elim (cases s h) [ inl was ↦ absurd (omega (arith, (under s was).1)) | inr is ↦ absurd (omega arith) ];
  }
  chosen_more b c old here under cases false e = record {
    among = (under b old.among).0;
    best = λ s h. elim (cases s h) [ inl was ↦ old.best s was | inr is ↦ rw is (ranked.either c b e) ];
    last = λ s h lt. elim (cases s h) [ inl was ↦ old.last s was lt | inr is ↦ rw is e ];
  }

  -- what going through the list cs of all candidates finds
  abbrev Found : (ℕ → Type 0) → List ℕ → Type 0
  Found P [] = (s : ℕ) → P s → ⊥
  Found P (c ∷ cs) = Chosen good P (choose good (c ∷ cs))

  module _ (keep : ℕ → Bool) where
    abbrev Candidate : ℕ → ℕ → Type 0
    Candidate n s = (s < n) × (keep s ≡ true)

    under_more : (n s : ℕ) → Candidate n s → Candidate (suc n) s × (s < n)
    under_more n s h = ((omega (arith, h.0), h.1), h.0)

    cases_more : (n s : ℕ) → Candidate (suc n) s → Candidate n s ⊎ (s ≡ n)
    cases_more n s h = elim (below_or_at s n h.0) [ inl lt ↦ inl (lt, h.1) | inr is ↦ inr is ]

    passed_by : (n s : ℕ) → keep n ≡ false → Candidate (suc n) s → Candidate n s
    passed_by n s e h = elim (cases_more n s h) [ inl was ↦ was | inr is ↦ absurd (both_ways _ e (rw is at h.1)) ]

    found_more : (n : ℕ) (cs : List ℕ) (t : Bool) → keep n ≡ t → Found (Candidate n) cs → Found (Candidate (suc n)) (cs ++ cond t (n ∷ []) [])
    unfolding choose
    found_more n [] true e old = chosen_alone n (omega arith, e) (λ s h. elim (cases_more n s h) [ inl was ↦ absurd (old s was) | inr is ↦ is ])
    found_more n [] false e old = λ s h. old s (passed_by n s e h)
    found_more n (c ∷ cs) true e old =
        subst (Chosen good (Candidate (suc n))) (sym (choose-push good c cs n))
        (chosen_more (choose good (c ∷ cs)) n old (omega arith, e) (under_more n) (cases_more n) _ refl)
    found_more n (c ∷ cs) false e old =
        subst (λ l. Chosen good (Candidate (suc n)) (choose good (c ∷ l))) (sym (append-nil cs))
        (chosen_like (λ s h. (under_more n s h).0) (λ s h. passed_by n s e h) (λ s u x y. refl) old)

    found : (n : ℕ) → Found (Candidate n) (filter keep (below n))
    found zero = λ s h. absurd (omega (arith, h.0))
    found (suc n) = subst (Found (Candidate (suc n))) (sym (kept_by_push keep n)) (found_more n (filter keep (below n)) _ refl (found n))

    -- where there is a candidate, going through them finds the chosen one
    pub choose_finds : (n b : ℕ) → Chosen good (Candidate n) b → choose good (filter keep (below n)) ≡ b
    choose_finds n b c = go _ (found n)
      where
        go : (cs : List ℕ) → Found (Candidate n) cs → choose good cs ≡ b
        go [] none = absurd (none b c.among)
        go (x ∷ xs) other = chosen_unique other c

    pub choose_chosen : (n s : ℕ) → s < n → keep s ≡ true → Chosen good (Candidate n) (choose good (filter keep (below n)))
    choose_chosen n s lt e = go _ (found n)
      where
        go : (cs : List ℕ) → Found (Candidate n) cs → Chosen good (Candidate n) (choose good cs)
        go [] none = absurd (none s (lt, e))
        go (x ∷ xs) other = other

  pub choose-below : (n : ℕ) → 0 < n → Chosen good (λ s. s < n) (choose good (below n))
  choose-below n h =
      chosen_like (λ s h. h.0) (λ s h. (h, refl)) (λ s u x y. refl)
      (subst (λ l. Chosen good (Candidate (λ _. true) n) (choose good l)) (kept_by_all (below n)) (choose_chosen (λ _. true) n 0 h refl))

-- the same amount added everywhere moves no choice
pub argmin-plus : {V : Type 0} {kind : Kind V} → Laws kind → (f : ℕ → V) (c : V) (cs : List ℕ) → argmin kind (λ s. kind.plus (f s) c) cs ≡ argmin kind f cs
argmin-plus laws f c cs = ap (λ good. choose good cs) (fun_ext (λ s. fun_ext (λ u. laws.cancels (f s) (f u) c)))

-- tests that agree on the places below n choose alike
pub choose_like : {good other : ℕ → ℕ → Bool} → Ranked good → Ranked other → (n : ℕ) → ((s u : ℕ) → s < n → u < n → good s u ≡ other s u) → choose good (below n) ≡ choose other (below n)
unfolding choose
choose_like r q zero same = refl
choose_like r q (suc n) same =
    chosen_unique (chosen_like (λ s h. h) (λ s h. h) same (choose-below r (suc n) (omega arith))) (choose-below q (suc n) (omega arith))

pub argmin_like : {V : Type 0} {kind : Kind V} → Laws kind → (f g : ℕ → V) (n : ℕ) → ((s : ℕ) → s < n → f s ≡ g s) → argmin kind f (below n) ≡ argmin kind g (below n)
argmin_like {kind = kind} laws f g n same =
    choose_like (ranked-by_amount laws f) (ranked-by_amount laws g) n
    (λ s u hs hu. ap (λ v. kind.at_most v (f u)) (same s hs) ∙ ap (kind.at_most (g s)) (same u hu))
