-- The mode charge shows the laws.
use Rattle.std.proofs.Common.{◌≡◌, ℕ, zero, suc, ◌+◌, ◌≤◌, Bool, true, false, cond, not, leb, List, [], ◌∷◌, length, ℤ, pos, sym, refl, ap, ◌∙◌, arith}
use Rattle.std.proofs.lemmas.List.Sums.{sum_by-cons}
use Rattle.std.proofs.lemmas.Bool.Decides.{nat_tests}
use Rattle.amounts.specs.Kinds.{whole, whole_kind}
use Rattle.amounts.specs.declared.Whole.{Whole}
use Rattle.amounts.specs.Lawful.{whole_laws}
use Rattle.charges.specs.Rules.{ChargeLaws}
use Rattle.charges.specs.Levels.{LevelLaws, price_total, best_upto, best_level}
use Rattle.charges.proofs.Leveled.{leveled-splits, leveled-weight}
use Rattle.modes.specs.Modes.{is, occurrences, differing, first_most, mode, mode_rules, mode_levels}

apart : (b : Bool) → cond b 1 0 + cond (not b) 1 0 ≡ 1
apart true = refl
apart false = refl

-- each reading is the symbol or differs from it
pub both_counts : (u : List ℤ) (i : ℕ) → occurrences u i + differing u i ≡ length u
both_counts [] i = refl
both_counts (x ∷ xs) i =
    omega (arith, sum_by-cons (λ y. cond (is y i) 1 0) x xs, sum_by-cons (λ y. cond (not (is y i)) 1 0) x xs, apart (is x i), both_counts xs i)

price-is : (b : Bool) → ◌≡◌ {A = ℕ} (cond b 0 1) (cond (not b) 1 0)
price-is true = refl
price-is false = refl

pub total_is : (u : List ℤ) (i : ℕ) → price_total whole_kind mode_levels i u ≡ whole (differing u i)
unfolding price_total
total_is [] i = refl
total_is (x ∷ xs) i =
    ap (λ (w : Whole). whole (cond (is x i) 0 1 + w.number)) (total_is xs i) ∙ ap whole (omega (arith, price-is (is x i), sum_by-cons (λ y. cond (not (is y i)) 1 0) x xs))

test_is : (n a b c d : ℕ) → a + c ≡ n → b + d ≡ n → leb c d ≡ leb b a
test_is n a b c d e f = grind (arith, nat_tests)

-- most occurrences are fewest differing readings
pub best-is : (u : List ℤ) (n : ℕ) → best_upto whole_kind mode_levels n u ≡ first_most (occurrences u) n
unfolding best_upto first_most
best-is u zero = refl
best-is u (suc n) =
    let b = first_most (occurrences u) n in
    let t = test_is (length u) (occurrences u b) (occurrences u (suc n)) (differing u b) (differing u (suc n)) (both_counts u b) (both_counts u (suc n)) in
    ap (λ m. cond (whole_kind.at_most (price_total whole_kind mode_levels m u) (price_total whole_kind mode_levels (suc n) u)) m (suc n)) (best-is u n)
    ∙ (ap (λ (w : Whole). cond (leb w.number (price_total whole_kind mode_levels (suc n) u).number) b (suc n)) (total_is u b)
    ∙ (ap (λ (w : Whole). cond (leb (differing u b) w.number) b (suc n)) (total_is u (suc n)) ∙ ap (λ v. cond v b (suc n)) t))

price-small : (b : Bool) → cond b 0 1 ≤ 1
price-small true = omega arith
price-small false = omega arith

pub mode_level_laws : (c : ℕ) → LevelLaws whole_kind (mode_rules c) mode mode_levels
mode_level_laws c = record {
  some = omega arith;
  few = omega arith;
  weight = λ x i l lt. price-small (is x i);
  fee = λ u p. sym (total_is u (best_level whole_kind mode_levels u) ∙ ap (λ i. whole (differing u i)) (best-is u 31));
  level = λ u p. ap pos (sym (best-is u 31));
}

pub mode_laws : (c : ℕ) → c ≤ 1024 → ChargeLaws whole_kind (mode_rules c)
mode_laws c few = record {
  capacity = few;
  bound = omega arith;
  splitting = λ u v p q short. leveled-splits whole_laws (mode_rules c) mode mode_levels (mode_level_laws c) u v p q;
  weight = λ u p. leveled-weight whole_laws (mode_rules c) mode mode_levels (mode_level_laws c) u p;
}
