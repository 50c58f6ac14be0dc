-- The laws of a charge hold of the places of a hole.
use Rattle.std.proofs.Common.{◌≡◌, ℕ, zero, suc, ◌-◌, ◌*◌, ◌<◌, ◌≤◌, true, leb, List, [], ◌∷◌, ◌++◌, length, get_or, ℤ, pos, sym, ap, ◌∙◌, subst, ⊎_elim, arith}
use Rattle.std.proofs.ByRecursion.{All-get_or}
use Rattle.std.proofs.lemmas.List.{get_or_append_left}
use Rattle.std.proofs.lemmas.Bool.{cases_lt, cond-true, le-leb, lt-leb, cond-false}
use Rattle.amounts.specs.Kind.{Kind, Laws}
use Rattle.charges.specs.Rules.{Rules, ChargeLaws, Layable, all_lawful, segment}
use Rattle.charges.specs.Levels.{Levels, LevelLaws, price_total, best_level}
use Rattle.charges.proofs.Lawful.{all_from_pass}
use Rattle.charges.proofs.Leveled.{total-append, best-within, best-least}
use Rattle.readings.proofs.Segments.{length-segment, segment_passes}
use Rattle.theory.specs.Levels.{price_sum}
use Rattle.holes.specs.Holes.{fee_of, price_of}
use Rattle.holes.specs.Laws.{HoleLaws, HoleLevelLaws, Grows}
use Rattle.holes.proofs.Cuts.{segment_cut, segment_more, segment-before, segment_empty}

layable : {V : Type 0} (r : Rules V) (h : List ℤ) (s t : ℕ) → all_lawful r h ≡ true → s < t → t ≤ length h → Layable r (segment h s t)
layable r h s t l lt le = record { some = omega (arith, length-segment h s t le); lawful = segment_passes r.lawful h s t l }

module _ {V : Type 0} {k : Kind V} (r : Rules V) (h : List ℤ) (lawful : all_lawful r h ≡ true) where
  pub hole_laws : ChargeLaws k r → length h ≤ 1024 → HoleLaws k r h
  hole_laws so few = record {
    splits = λ s u t su ut le.
        let p = layable r h s u lawful su (omega arith) in
        let q = layable r h u t lawful ut le in
        let n = length-segment h s u (omega arith) in
        let m = length-segment h u t le in
        ap (λ v. k.at_most (k.plus (fee_of r h s u) (fee_of r h u t)) (r.fee v)) (segment_cut h s u t (omega arith) (omega arith)) ∙ so.splitting (segment h s u) (segment h u t) p q (omega arith);
    fees_weigh = λ s t lt le. let P : ℕ → Type 0 = λ n. k.weight (fee_of r h s t) ≤ n * r.bound in subst P (length-segment h s t le) (so.weight (segment h s t) (layable r h s t lawful lt le));
  }

  module _ (a : Laws k) (leveling : List ℤ → ℤ) (l : Levels V) (so : LevelLaws k r leveling l) where
    none_is : (i s t : ℕ) → t ≤ s → k.nothing ≡ price_total k l i (segment h s t)
    unfolding price_total
    none_is i s t le = ap (price_total k l i) (sym (segment_empty h s t le))

    one_more : (i : ℕ) (u : List ℤ) (x : ℤ) → k.plus (price_total k l i u) (l.price x i) ≡ price_total k l i (u ++ (x ∷ []))
    unfolding price_total
    one_more i u x = sym (total-append a l i u (x ∷ []) ∙ ap (k.plus (price_total k l i u)) (a.plus_nothing (l.price x i)))

    -- the prices added up by places are those of the segment's list
    sum_is : (i s t : ℕ) → t ≤ length h → price_sum k (price_of l h) i s t ≡ price_total k l i (segment h s t)
    sum_is i s zero le = none_is i s zero (omega arith)
    sum_is i s (suc t) le =
        ⊎_elim
        (λ lt. cond-false (leb s t) _ _ (lt-leb s t lt) ∙ none_is i s (suc t) (omega arith))
        (λ st. cond-true (leb s t) _ _ (le-leb s t st)
        ∙ (ap (λ v. k.plus v (price_of l h t i)) (sum_is i s t (omega arith))
        ∙ (one_more i (segment h s t) (get_or h t (pos 0)) ∙ ap (price_total k l i) (sym (segment_more h s t st (omega arith))))))
        (cases_lt t s)

    pub hole_level_laws : HoleLevelLaws k r h l
    hole_level_laws = record {
      leveled = record {
        least = λ s t i lt le off.
            ap (λ v. k.at_most v (price_sum k (price_of l h) i s t)) (so.fee (segment h s t) (layable r h s t lawful lt le))
            ∙ (ap (k.at_most (price_total k l (best_level k l (segment h s t)) (segment h s t))) (sum_is i s t le) ∙ best-least a l (l.offered - 1) (segment h s t) i (omega (arith, so.some)));
        reached = λ s t lt le.
            let b = best_level k l (segment h s t) in
            (b, omega (arith, best-within a l (l.offered - 1) (segment h s t), so.some), so.fee (segment h s t) (layable r h s t lawful lt le) ∙ sym (sum_is b s t le));
      };
      prices_weigh = λ i j lt off. so.weight (get_or h i (pos 0)) j (All-get_or (λ x. r.lawful x ≡ true) h i (pos 0) lt (all_from_pass r.lawful h lawful)) off;
    }

pub grows : {V : Type 0} (r : Rules V) (l : Levels V) (h more : List ℤ) → Grows r l h more
grows r l h more = record {
  fees = λ s t lt le. ap r.fee (sym (segment-before h more s t (omega arith) le));
  prices = λ i j lt off. ap (λ x. l.price x j) (sym (get_or_append_left h more (pos 0) i lt));
}
