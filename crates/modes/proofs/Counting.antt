-- The steps of the pass over a segment.
use Rattle.std.proofs.Common.{◌≡◌, ℕ, zero, suc, ◌+◌, ◌-◌, ◌<◌, ◌≤◌, true, false, cond, not, leb, List, length, get_or, take, set, ℤ, pos, sym, refl, ap, ◌∙◌, ⊎_elim, arith}
use Rattle.std.proofs.lemmas.List.{get_or-set_same, get_or-set_other}
use Rattle.std.proofs.lemmas.List.Sums.{sum_by_more}
use Rattle.std.proofs.lemmas.Bool.{cases_eq, cond_both, cond-true, cond-false, not-true, not-false}
use Rattle.std.proofs.lemmas.Bool.Decides.{nat_tests}
use Rattle.modes.specs.Modes.{is, occurrences, first_most}

same_symbol : (n j : ℕ) → n ≡ j → ◌≡◌ {A = ℕ} (cond (is (pos n) j) 1 0) 1
same_symbol n j e = grind (arith, nat_tests)

other_symbol : (n j : ℕ) → (j ≡ n → ⊥) → ◌≡◌ {A = ℕ} (cond (is (pos n) j) 1 0) 0
other_symbol n j ne = grind (arith, nat_tests)

-- one reading more is counted
pub count_more : (counts : List ℕ) (readings : List ℤ) (i n : ℕ) → i < length readings → get_or readings i (pos 0) ≡ pos n → n < length counts → ((j : ℕ) → j < 32 → get_or counts j 0 ≡ occurrences (take i readings) j) → (j : ℕ) → j < 32 → get_or (set counts n (get_or counts n 0 + 1)) j 0 ≡ occurrences (take (i + 1) readings) j
count_more counts readings i n lt x fits was j few =
    let more = sum_by_more (λ y. cond (is y j) 1 0) readings i (pos 0) lt in
    let here : ◌≡◌ {A = ℕ} (cond (is (get_or readings i (pos 0)) j) 1 0) (cond (is (pos n) j) 1 0) = ap (λ (y : ℤ). cond (is y j) 1 0) x in
    ⊎_elim
    (λ e. ap (λ m. get_or (set counts n (get_or counts n 0 + 1)) m 0) e ∙ (get_or-set_same counts n (get_or counts n 0 + 1) 0 fits ∙ omega (arith, ap (λ m. get_or counts m 0) e, was j few, same_symbol n j (sym e))))
    (λ ne. get_or-set_other counts n j (get_or counts n 0 + 1) 0 ne ∙ omega (arith, was j few, other_symbol n j ne))
    (cases_eq j n)

first_more_at : (f : ℕ → ℕ) (m b : ℕ) → b ≡ first_most f m → cond (leb (f (suc m)) (f b)) b (suc m) ≡ first_most f (suc m)
unfolding first_most
first_more_at f m b e = ap (λ n. cond (leb (f (suc m)) (f n)) n (suc m)) e

-- the first symbol is the best of itself
first_alone : (f : ℕ → ℕ) (b : ℕ) → b ≡ first_most f 0 → cond (leb (f 0) (f b)) b 0 ≡ first_most f 0
unfolding first_most
first_alone f b e = cond_both (leb (f 0) (f b)) b 0 (λ m. m ≡ 0) (λ _. e) (λ _. refl)

first_more : (f : ℕ → ℕ) (i b : ℕ) → b ≡ first_most f (i - 1) → cond (leb (f i) (f b)) b i ≡ first_most f (i + 1 - 1)
first_more f zero b was = first_alone f b was
first_more f (suc i) b was =
    let e : suc i - 1 ≡ i = omega arith in
    let g : suc i ≡ suc i + 1 - 1 = omega arith in
    first_more_at f i b (was ∙ ap (first_most f) e) ∙ ap (first_most f) g

module _ (f : ℕ → ℕ) (i b : ℕ) (was : b ≡ first_most f (i - 1)) where
  pub first_keeps : not (leb (f i) (f b)) ≡ false → b ≡ first_most f (i + 1 - 1)
  first_keeps h = let t : leb (f i) (f b) ≡ true = not-false _ h in sym (cond-true _ b i t) ∙ first_more f i b was

  pub first_moves : not (leb (f i) (f b)) ≡ true → i ≡ first_most f (i + 1 - 1)
  first_moves h = let t : leb (f i) (f b) ≡ false = not-true _ h in sym (cond-false _ b i t) ∙ first_more f i b was

first_within : (f : ℕ → ℕ) (n : ℕ) → first_most f n ≤ n
unfolding first_most
first_within f zero = omega arith
first_within f (suc n) =
    let b = first_most f n in
    cond_both (leb (f (suc n)) (f b)) b (suc n) (λ m. m ≤ suc n) (λ _. omega (arith, first_within f n)) (λ _. omega arith)

pub first_same : (f g : ℕ → ℕ) (n : ℕ) → ((i : ℕ) → i ≤ n → f i ≡ g i) → first_most f n ≡ first_most g n
unfolding first_most
first_same f g zero h = refl
first_same f g (suc n) h =
    let b = first_most g n in
    let e = first_same f g n (λ i le. h i (omega arith)) in
    let k : b ≤ suc n = omega (arith, first_within g n) in
    ap (λ m. cond (leb (f (suc n)) (f m)) m (suc n)) e
    ∙ (ap (λ m. cond (leb m (f b)) b (suc n)) (h (suc n) (omega arith)) ∙ ap (λ m. cond (leb (g (suc n)) m) b (suc n)) (h b k))
