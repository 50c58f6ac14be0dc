-- Totals stay light enough that every addition of a search is exact.
use Rattle.std.proofs.Common.{◌≡◌, ℕ, zero, suc, ◌+◌, ◌-◌, ◌*◌, ◌^◌, ◌<◌, ◌≤◌, sym, ap, ◌∙◌, inl, inr, add-mul, mul-le-mul, mul-add, arith}
use Rattle.amounts.specs.Kind.{Kind, Laws}
use Rattle.theory.specs.Totals.{total, back}
use Rattle.theory.specs.Levels.{price_sum, at_level, held, worth}
use Rattle.theory.specs.Weights.{FeesWeigh, heaviest, TotalsWeigh, Limits, Exact}
use Rattle.theory.proofs.Choosing.{below_or_at}
use Rattle.theory.proofs.Totals.{total-zero, total-through, back_below}
use Rattle.theory.proofs.Layerings.{by_breaks}
use Rattle.theory.proofs.Levels.{price_sum_none, price_sum_more, held-lowest, held-within, worth_none}

-- s readings with a penalty each, the readings from s to t without
room : (s t bound w : ℕ) → s ≤ t → s * (bound + w) + (t - s) * bound + (t - s) * w ≡ t * (bound + w)
room s t bound w h =
    let all : s + (t - s) ≡ t = omega arith in
    let joined = ap (λ n. n * (bound + w)) (sym all) ∙ add-mul s (t - s) (bound + w) in
    omega (arith, joined, mul-add (t - s) bound w)

-- and one penalty more
room_penalty : (s t bound w : ℕ) → s < t → s * (bound + w) + (t - s) * bound + w ≤ t * (bound + w)
room_penalty s t bound w h =
    let one : 1 * w ≤ (t - s) * w = mul-le-mul {n₁ = 1} {n₂ = t - s} (omega arith) (omega arith) in
    omega (arith, room s t bound w (omega arith))

module _ {V : Type 0} {kind : Kind V} (laws : Laws kind) (fee : ℕ → ℕ → V) (penalty : V) where
  abbrev T : ℕ → V
  T = total kind fee penalty

  abbrev w : ℕ
  w = kind.weight penalty

  pub totals_weigh : (bound N : ℕ) → FeesWeigh kind fee bound N → TotalsWeigh kind fee penalty bound N
  totals_weigh bound N fees =
      by_breaks laws fee penalty (λ t. t ≤ N → kind.weight (T t) ≤ t * (bound + w))
      (λ h. omega (arith, ap kind.weight (total-zero laws fee penalty), laws.weight_nothing)) more
    where
      more : (t : ℕ) → 0 < t → (back kind fee penalty t ≤ N → kind.weight (T (back kind fee penalty t)) ≤ back kind fee penalty t * (bound + w)) → t ≤ N → kind.weight (T t) ≤ t * (bound + w)
      more t h old top =
          let b = back kind fee penalty t in
          let low = back_below laws fee penalty t h in
          omega (arith, ap kind.weight (total-through laws fee penalty t h), laws.weight_plus (kind.plus (T b) (fee b t)) penalty, laws.weight_plus (T b) (fee b t), old (omega arith), fees b t low top, room_penalty b t bound w low)

  module _ (price : ℕ → ℕ → V) (k bound N : ℕ) (limits : Limits kind fee penalty price k bound N) where
    abbrev W : ℕ → ℕ → V
    W = worth kind fee penalty price

    abbrev H : ℕ → ℕ → ℕ
    H = held kind fee penalty price

    total_weighs : (t : ℕ) → t ≤ N → kind.weight (T t) ≤ t * (bound + w)
    total_weighs = totals_weigh bound N limits.fees

    price_sum_weighs : (l s t : ℕ) → s ≤ t → t ≤ N → l < k → kind.weight (price_sum kind price l s t) ≤ (t - s) * bound
    price_sum_weighs l s zero h top lk = omega (arith, laws.weight_nothing)
    price_sum_weighs l s (suc t) h top lk =
        elim (below_or_at s (suc t) (omega arith)) [
          | inl lt ↦
              let longer : suc t - s ≡ suc (t - s) = omega arith in
              omega (arith, ap kind.weight (price_sum_more laws price l s t (omega arith)), laws.weight_plus (price_sum kind price l s t) (price t l), price_sum_weighs l s t (omega arith) (omega arith) lk, limits.prices t l (omega arith) lk, ap (λ d. d * bound) longer)
          | inr is ↦ omega (arith, ap (λ x. kind.weight (price_sum kind price l x (suc t))) is, ap kind.weight (price_sum_none laws price l (suc t)), laws.weight_nothing)
        ]

    -- what a level makes of a break
    at_level_weighs : (l s t : ℕ) → s ≤ t → t ≤ N → l < k → kind.weight (at_level kind fee penalty price l t s) ≤ s * (bound + w) + (t - s) * bound
    at_level_weighs l s t h top lk = omega (arith, laws.weight_plus (T s) (price_sum kind price l s t), total_weighs s (omega arith), price_sum_weighs l s t h top lk)

    worth_weighs : (l t : ℕ) → t ≤ N → l < k → kind.weight (W l t) ≤ t * (bound + w)
    worth_weighs l t top lk =
        let within = held-within laws fee penalty price l t in
        omega (arith, at_level_weighs l (H l t) t within top lk, room (H l t) t bound w within)

    light : (t : ℕ) → t ≤ N → t * (bound + w) ≤ heaviest
    light t top = mul-le-mul {n₁ = t} {m₁ = bound + w} {n₂ = 1024} {m₂ = 2 ^ 47 + 1000000000} (omega arith) (omega arith)

    fee_added : (s t : ℕ) → s < t → t ≤ N → kind.weight (T s) + kind.weight (fee s t) ≤ heaviest
    fee_added s t h top = omega (arith, total_weighs s (omega arith), limits.fees s t h top, room_penalty s t bound w h, light t top)

    penalty_added : (s t : ℕ) → s < t → t ≤ N → kind.weight (kind.plus (T s) (fee s t)) + w ≤ heaviest
    penalty_added s t h top = omega (arith, laws.weight_plus (T s) (fee s t), total_weighs s (omega arith), limits.fees s t h top, room_penalty s t bound w h, light t top)

    price_added : (n l : ℕ) → n < N → l < k → kind.weight (T n) + kind.weight (price n l) ≤ heaviest
    price_added n l h lk = omega (arith, total_weighs n (omega arith), limits.prices n l h lk, light (suc n) h)

    worth_carried : (n l : ℕ) → n < N → l < k → kind.weight (W l n) + kind.weight (price n l) ≤ heaviest
    worth_carried n l h lk = omega (arith, worth_weighs l n (omega arith) lk, limits.prices n l h lk, light (suc n) h)

    worth_charged : (t l : ℕ) → t ≤ N → l < k → kind.weight (W l t) + w ≤ heaviest
    worth_charged zero l top lk = omega (arith, ap kind.weight (worth_none laws fee penalty price l), laws.weight_nothing)
    worth_charged (suc t) l top lk =
        let under = (held-lowest laws fee penalty price l (suc t) (omega arith)).among in
        omega (arith, at_level_weighs l (H l (suc t)) (suc t) (omega arith) top lk, room_penalty (H l (suc t)) (suc t) bound w under, light (suc t) top)

    pub exact : Exact kind fee penalty price k N
    exact = record {
      limit = omega arith;
      fee_added = fee_added;
      penalty_added = penalty_added;
      price_added = price_added;
      worth_carried = worth_carried;
      worth_charged = worth_charged;
    }
