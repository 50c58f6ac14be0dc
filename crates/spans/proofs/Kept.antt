-- Readings that are kept in the first cells of a span table, one each: what is joined of the cells is told of the readings.
use Rattle.std.proofs.Common.{◌≡◌, ℕ, ◌-◌, ◌<◌, ◌≤◌, true, cond, ◌&&◌, List, map, length, take, drop, ℤ, Some, Ok, Err, Result, sym, ap, ◌∙◌, subst, arith, length-take}
use Rattle.std.specs.Prelude.{IfOk, nat_lt, nat_le}
use Rattle.std.specs.List.{between}
use Rattle.std.proofs.lemmas.Bool.{cond-true, cond-false, cond_both}
use Rattle.std.proofs.lemmas.Bool.Decides.{nat_tests}
use Rattle.std.proofs.lemmas.List.{length-map, take-map, drop-map}
use Rattle.charges.specs.Rules.{Rules, Held, all_lawful, segment}
use Rattle.charges.specs.Told.{inside, segment_told}
use Rattle.charges.specs.declared.Refusal.{Refusal}
use Rattle.charges.specs.declared.Refusal.TheVariants.{Outside}
use Rattle.readings.proofs.Segments.{length-segment}
use Rattle.spans.specs.Joinings.{joining, ok_of, joined_told}
use Rattle.spans.specs.Rows.{cells_for}
use Rattle.spans.proofs.Powers.{cells_enough}

module _ {T : Type 0} (reading : T → ℤ) (capacity count : ℕ) (cells : List T) (few : count ≤ capacity) (small : capacity ≤ 1024) (room : cells_for capacity ≤ length cells) where
  -- the readings kept
  abbrev pub kept : List ℤ
  kept = map reading (take count cells)

  long : length kept ≡ count
  long = length-map (take count cells) reading ∙ (length-take count cells ∙ omega (arith, few, room, cells_enough capacity small))

  pub held_kept : {V : Type 0} (r : Rules V) → r.capacity ≡ capacity → all_lawful r kept ≡ true → Held r kept
  held_kept r e lawful = record { few = omega (arith, e, few, long); lawful = lawful }

  module _ (s t : ℕ) where
    abbrev pub layer : List ℤ
    layer = segment kept s t

    layer_some : inside kept s t ≡ true → 0 < length layer
    layer_some h =
        let some : s < t = grind (arith, nat_tests) in
        let within : t ≤ length kept = grind (arith, nat_tests) in
        omega (arith, some, length-segment kept s t within)

    -- `single` is the cell of a reading, and `of` what the cells of some readings join to
    module _ (single : ℤ → T) (join : T → T → T) (of : List ℤ → T) (singles : take count cells ≡ map single kept) (joins : 0 < length layer → joining join (map single layer) ≡ Some (of layer)) where
      cells_between : between s t (take count cells) ≡ map single layer
      cells_between = ap (between s t) singles ∙ (ap (take (t - s)) (drop-map single s kept) ∙ take-map single (t - s) (drop s kept))

      pub told_kept : joined_told join (take count cells) s t ≡ segment_told of kept s t
      told_kept =
          let same : length (take count cells) ≡ length kept = sym (length-map (take count cells) reading) in
          let answer = ok_of (joining join (between s t (take count cells))) in
          ap (λ n. cond (nat_lt s t && nat_le t n) answer (Err Outside)) same
          ∙ cond_both (inside kept s t) answer (Err Outside) (λ r. r ≡ segment_told of kept s t)
          (λ h. ap ok_of (ap (joining join) cells_between ∙ joins (layer_some h)) ∙ sym (cond-true _ _ _ h))
          (λ h. sym (cond-false _ _ _ h))

    -- what is so of the layer is so of what is told
    pub told_has : (of : List ℤ → T) (P : T → Type 0) → (0 < length layer → P (of layer)) → (r : Result T Refusal) → r ≡ segment_told of kept s t → IfOk r P
    told_has of P has r is = subst (λ q. IfOk q P) (sym is) (cond_both (inside kept s t) (Ok (of layer)) (Err Outside) (λ q. IfOk q P) (λ h. has (layer_some h)) (λ _. tt))
