-- What the tallies count.
use Rattle.std.proofs.Common.{◌≡◌, ℕ, zero, suc, ◌+◌, ◌*◌, ◌/◌, not, length, sym, refl, ap, ◌∙◌, suc-mul, mul-suc, arith}
use native.Mathlib.Nat.{mul-div_right}
use Rattle.std.proofs.lemmas.List.FromFn.{length-range_with_len}
use Rattle.std.proofs.lemmas.List.Filters.{length-filter_both}
use Rattle.std.proofs.lemmas.List.Sums.{length-filter}
use Rattle.theory.specs.Totals.{below}
use Rattle.theory.specs.Keeping.{KeepingTest, kept_breaks, plain_keeps}
use Rattle.theory.specs.Tallies.{dropped_count, pairs_tried}
use Rattle.theory.specs.TheoremsOfSearches.{Tallied, PlainTallied}
use Rattle.theory.proofs.Choosing.{kept_by_all}

module _ (keep : KeepingTest) where
  dropped_rest : (n : ℕ) → dropped_count keep n + length (kept_breaks keep n) ≡ suc n
  dropped_rest n =
      let both = length-filter_both (keep n) (λ s. not (keep n s)) (λ s. refl) (below (suc n)) in
      omega (arith, both, length-filter (λ s. not (keep n s)) (below (suc n)), length-range_with_len 0 (suc n))

  pairs_more : (n : ℕ) → pairs_tried keep (suc n) ≡ pairs_tried keep n + length (kept_breaks keep n)
  unfolding pairs_tried
  pairs_more n = ap (λ m. pairs_tried keep n + m) (sym (length-filter (keep n) (below (suc n))))

  pub tallied : Tallied keep
  tallied = record { dropped_rest = dropped_rest; pairs_more = pairs_more }

all_kept : (n : ℕ) → length (kept_breaks plain_keeps n) ≡ suc n
all_kept n = ap length (kept_by_all (below (suc n))) ∙ length-range_with_len 0 (suc n)

twice_pairs : (n : ℕ) → 2 * pairs_tried plain_keeps n ≡ n * (n + 1)
unfolding pairs_tried
twice_pairs zero = refl
twice_pairs (suc n) = omega (arith, pairs_more plain_keeps n, all_kept n, twice_pairs n, mul-suc n n, suc-mul n (suc n + 1))

pub plain_tallied : PlainTallied
plain_tallied = record {
  none_dropped = λ n. omega (arith, dropped_rest plain_keeps n, all_kept n);
  all_pairs = λ n. sym (ap (λ m. m / 2) (sym (twice_pairs n)) ∙ mul-div_right (pairs_tried plain_keeps n) (omega arith));
}
