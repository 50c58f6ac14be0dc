-- What the cells of a span table hold, and after a push.
use Rattle.std.proofs.Common.{◌≡◌, ℕ, zero, suc, ◌+◌, ◌-◌, ◌*◌, ◌/◌, ◌%◌, ◌^◌, ◌<◌, ◌≤◌, eqb, leb, ltb, List, [], ◌∷◌, ◌++◌, length, get_or, take, drop, set, Some, Ok, sym, refl, ap, ◌∙◌, subst, ap₂, ⊎_elim, add-one, add-mul, arith}
use Rattle.std.specs.List.{between}
use Rattle.std.proofs.lemmas.Nat.{pow_pos, div-add-mod', div-mul-add, mod-mul-add, same_from_place}
use Rattle.std.proofs.lemmas.List.{take-take, take_at, length_push, length-take, length-take-le, length-set, take-set-le, drop-set-lt, take_more_set, get_or_push, get_or-set_same}
use Rattle.std.proofs.lemmas.List.Edits.{between_none, between_more}
use Rattle.std.proofs.lemmas.Option.{slice_get-get_or}
use Rattle.std.proofs.lemmas.Slice.{between_is}
use Rattle.std.proofs.lemmas.Bool.{both_ways, and_left, ne_eqb, cases_eq, cases_Bool, and_from, and_parts, cond-true, cond-false, eq-eqb, eqb-true, le-leb, lt-ltb, leb-true}
use Rattle.spans.specs.Joinings.{both, joining, ok_of, joined_told}
use Rattle.spans.specs.Rows.{row_count, cells_for, cell, span, Built, written, new_span, pushed_cell, joined_cells_lem}
use Rattle.spans.proofs.Joins.{joining_split, covering}
use Rattle.spans.proofs.Powers.{power_le, below_power, double, half_before, next_inside, cells_enough, row_of}

module _ {T : Type 0} where
  cell_set_same : (l : List T) (i : ℕ) (x : T) → i < length l → cell (set l i x) i ≡ Some x
  cell_set_same l i x h = slice_get-get_or (set l i x) i x (omega (arith, h, length-set l i x)) ∙ ap Some (get_or-set_same l i x x h)

  cell_set_other : (l : List T) (i j : ℕ) (x : T) → (i ≡ j → ⊥) → cell (set l j x) i ≡ cell l i
  cell_set_other [] i j x h = refl
  cell_set_other (y ∷ ys) zero zero x h = absurd (h refl)
  cell_set_other (y ∷ ys) zero (suc j) x h = refl
  cell_set_other (y ∷ ys) (suc i) zero x h = refl
  cell_set_other (y ∷ ys) (suc i) (suc j) x h = cell_set_other ys i j x (λ e. h (ap suc e))

  between_front : (n i j : ℕ) (l : List T) → j ≤ n → between i j (take n l) ≡ between i j l
  between_front n i j l le = between_is (take n l) i j ∙ (ap (drop i) (take-take j n l le) ∙ sym (between_is l i j))

module _ {T : Type 0} (join : T → T → T) (c n : ℕ) (old : List T) (x : T) where
  -- the first k rows have the span that ends at the new element
  pub record Filled (k : ℕ) (now : List T) : Type 0 where
    pub long : length now ≡ length old
    pub front : take (n + 1) now ≡ take n old ++ (x ∷ [])
    pub rest : drop (cells_for c) now ≡ drop (cells_for c) old
    pub rows : (j : ℕ) → j < k → cell now (j * c + n) ≡ new_span join c n old x j
    pub others : (i : ℕ) → ((j : ℕ) → j < k → i ≡ j * c + n → ⊥) → cell now i ≡ cell old i

  module _ (small : c ≤ 1024) (free : n < c) (room : cells_for c ≤ length old) where
    held : n < length old
    held = omega (arith, cells_enough c small)

    zero_row : 0 * c + n ≡ n
    zero_row = omega arith

    pub filled_first : Filled 1 (set old n x)
    unfolding new_span
    filled_first = record {
      long = length-set old n x;
      front = take_more_set old n x held;
      rest = drop-set-lt (cells_for c) old n x (omega (arith, cells_enough c small));
      rows = λ j lt. let z : j ≡ 0 = omega (arith, lt) in subst (λ i. cell (set old n x) (i * c + n) ≡ new_span join c n old x i) (sym z) (ap (cell (set old n x)) zero_row ∙ cell_set_same old n x held);
      others = λ i ne. cell_set_other old i n x (λ e. ne 0 (omega arith) (e ∙ sym zero_row));
    }

    new_span-next : (k : ℕ) → both join (cell old (k * c + n - 2 ^ k)) (new_span join c n old x k) ≡ new_span join c n old x (k + 1)
    unfolding new_span
    new_span-next k = ap (new_span join c n old x) (sym (add-one k))

    module _ (k : ℕ) (now : List T) (filled : Filled (k + 1) now) (fits : 2 ^ (k + 1) ≤ n + 1) where
      abbrev next : ℕ
      next = k * c + n + c

      next-is : next ≡ (k + 1) * c + n
      next-is = omega (arith, add-mul k 1 c)

      half : 2 ^ k ≤ n
      half = half_before k n fits

      left : cell now (k * c + n - 2 ^ k) ≡ cell old (k * c + n - 2 ^ k)
      left =
          let i : k * c + n - 2 ^ k ≡ k * c + (n - 2 ^ k) = omega (arith, half) in
          filled.others (k * c + n - 2 ^ k) (λ j lt e. omega (arith, half, pow_pos k, (same_from_place k (n - 2 ^ k) j n c (omega (arith, free)) free (sym i ∙ e)).1))

      pub filled_more : (p : ℕ) → p ≡ 2 ^ k → (d : T) (new : List T) → new ≡ set now next (join (get_or now (k * c + n - p) d) (get_or now (k * c + n) d)) → Filled (k + 1 + 1) new
      filled_more p is d new after =
          let next-inside = next_inside c k n small free fits in
          let v = join (get_or now (k * c + n - p) d) (get_or now (k * c + n) d) in
          let inside : next < length now = omega (arith, next-inside, filled.long, room) in
          let value : Some v ≡ new_span join c n old x (k + 1) =
          sym (ap₂ (both join) (slice_get-get_or now (k * c + n - p) d (omega (arith, inside))) (slice_get-get_or now (k * c + n) d (omega (arith, inside))))
          ∙ (ap₂ (both join) (ap (λ i. cell now (k * c + n - i)) is ∙ left) (filled.rows k (omega arith)) ∙ new_span-next k) in
          subst (Filled (k + 1 + 1)) (sym after)
          record {
            long = length-set now next v ∙ filled.long;
            front = take-set-le (n + 1) now next v (omega (arith, free)) ∙ filled.front;
            rest = drop-set-lt (cells_for c) now next v next-inside ∙ filled.rest;
            rows = λ j lt. ⊎_elim
                (λ e. subst (λ i. cell (set now next v) i ≡ new_span join c n old x j) (next-is ∙ ap (λ i. i * c + n) (sym e)) (cell_set_same now next v inside ∙ (value ∙ ap (new_span join c n old x) (sym e))))
                (λ ne. cell_set_other now (j * c + n) next v (λ e. ne (same_from_place j n (k + 1) n c free free (e ∙ next-is)).0) ∙ filled.rows j (omega (arith, lt, ne)))
                (cases_eq j (k + 1));
            others = λ i ne. cell_set_other now i next v (λ e. ne (k + 1) (omega arith) (e ∙ next-is)) ∙ filled.others i (λ j lt. ne j (omega (arith, lt)));
          }

    -- all rows are filled
    pub filled_cells : (top : ℕ) (now : List T) → Filled (top + 1) now → 2 ^ top ≤ n + 1 → n + 1 < 2 ^ (top + 1) → (i : ℕ) → cell now i ≡ pushed_cell join c n old x i
    filled_cells top now filled low high i =
        ⊎_elim
        (λ y. let p = and_parts (eqb (i % c) n) (leb (2 ^ (i / c)) (n + 1)) y in
        let at : i ≡ (i / c) * c + n = sym (div-add-mod' i c) ∙ ap (λ m. (i / c) * c + m) (eqb-true (i % c) n p.0) in
        ap (cell now) at ∙ (filled.rows (i / c) (below_power (i / c) (top + 1) (n + 1) (leb-true _ _ p.1) high) ∙ sym (cond-true _ _ _ y)))
        (λ z. filled.others i (λ j lt e. both_ways (written c n i) z (and_from _ _ (eq-eqb (i % c) n (ap (λ m. m % c) e ∙ mod-mul-add j c n free)) (le-leb _ _ (subst (λ m. 2 ^ m ≤ n + 1) (sym (ap (λ m. m / c) e ∙ div-mul-add j c n free)) (omega (arith, low, power_le j top (omega (arith, lt)))))))) ∙ sym (cond-false _ _ _ z))
        (cases_Bool (written c n i))

module _ {T : Type 0} (join : T → T → T) (c n : ℕ) (old : List T) (x : T) (free : n < c) (room : n < length old) where
  abbrev elements : List T
  elements = take n old ++ (x ∷ [])

  -- what was worked out is the joining of the elements
  module _ (assoc : (x y z : T) → join (join x y) z ≡ join x (join y z)) (built : Built join c n old) where
    length_front : length (take n old) ≡ n
    length_front = length-take-le n old (omega (arith, room))

    front_same : take n elements ≡ take n old
    front_same = take_at (take n old) (x ∷ []) n length_front

    -- spans that end before the new element
    span-before : (k e : ℕ) → e < n → span join (take n old) k e ≡ span join elements k e
    span-before k e lt = ap (λ l. span join l k e) (sym front_same) ∙ ap (joining join) (between_front n (e + 1 - 2 ^ k) (e + 1) elements (omega (arith, lt)))

    span_one : span join elements 0 n ≡ Some x
    span_one =
        let a : n + 1 - 1 ≡ n = omega arith in
        ap (λ i. joining join (between i (n + 1) elements)) a
        ∙ (ap (joining join) (between_more elements n n x (omega arith) (omega (arith, length_push (take n old) x, length_front)) ∙ ap (λ l. l ++ (get_or elements n x ∷ [])) (between_none elements n))
        ∙ ap Some (get_or_push (take n old) x x n length_front))

    joins : (k : ℕ) → 2 ^ (k + 1) ≤ n + 1 → both join (span join elements k (n - 2 ^ k)) (span join elements k n) ≡ span join elements (k + 1) n
    joins k fits =
        let two = double k in
        let a : n - 2 ^ k + 1 - 2 ^ k ≡ n + 1 - 2 ^ (k + 1) = omega (arith, two, fits, pow_pos k) in
        let b : n - 2 ^ k + 1 ≡ n + 1 - 2 ^ k = omega (arith, two, fits, pow_pos k) in
        ap₂ (λ i j. both join (joining join (between i j elements)) (span join elements k n)) a b
        ∙ sym (joining_split join assoc (n + 1 - 2 ^ (k + 1)) (n + 1 - 2 ^ k) (n + 1) elements (omega (arith, two)) (omega arith))

    new_span-is : (k : ℕ) → 2 ^ k ≤ n + 1 → new_span join c n old x k ≡ span join elements k n
    unfolding new_span
    new_span-is zero fits = sym span_one
    new_span-is (suc k) fits =
        let two = double k in
        let pos = pow_pos k in
        let s : suc k ≡ k + 1 = omega arith in
        let le : 2 ^ (k + 1) ≤ n + 1 = subst (λ i. 2 ^ i ≤ n + 1) s fits in
        let i : k * c + n - 2 ^ k ≡ k * c + (n - 2 ^ k) = omega (arith, two, pos, le) in
        ap₂ (both join)
        (ap (cell old) i ∙ (built k (n - 2 ^ k) (omega (arith, two, pos, le)) (omega (arith, two, pos, le)) ∙ span-before k (n - 2 ^ k) (omega (arith, two, pos, le))))
        (new_span-is k (omega (arith, two, pos, le)))
        ∙ (joins k le ∙ ap (λ j. span join elements j n) (sym s))

    pub built_after : (now : List T) → take (n + 1) now ≡ elements → ((i : ℕ) → cell now i ≡ pushed_cell join c n old x i) → Built join c (n + 1) now
    built_after now front told k e fits lt =
        ⊎_elim
        (λ is. subst (λ i. cell now (k * c + i) ≡ span join (take (n + 1) now) k i) (sym is)
        (let fits' : 2 ^ k ≤ n + 1 = subst (λ i. 2 ^ k ≤ i + 1) is fits in
        told (k * c + n)
        ∙ (cond-true _ _ _ (and_from _ _ (eq-eqb ((k * c + n) % c) n (mod-mul-add k c n free)) (le-leb _ _ (subst (λ m. 2 ^ m ≤ n + 1) (sym (div-mul-add k c n free)) fits')))
        ∙ (ap (new_span join c n old x) (div-mul-add k c n free) ∙ (new_span-is k fits' ∙ ap (λ l. span join l k n) (sym front))))))
        (λ ne. told (k * c + e)
        ∙ (cond-false _ _ _ (and_left _ _ (ne_eqb ((k * c + e) % c) n (λ h. ne (sym (mod-mul-add k c e (omega (arith, lt, free))) ∙ h))))
        ∙ (built k e fits (omega (arith, lt, ne)) ∙ (span-before k e (omega (arith, lt, ne)) ∙ ap (λ l. span join l k e) (sym front)))))
        (cases_eq e n)

module _ {T : Type 0} (join : T → T → T) (assoc : (x y z : T) → join (join x y) z ≡ join x (join y z)) (idem : (x : T) → join x x ≡ x) where
  -- two spans that cover the segment and lie inside it
  pub covered : (es : List T) (s t k : ℕ) → s < t → 2 ^ k ≤ t - s → t - s < 2 ^ (k + 1) → both join (span join es k (s + 2 ^ k - 1)) (span join es k (t - 1)) ≡ joining join (between s t es)
  covered es s t k lt low high =
      let pos = pow_pos k in
      let two = double k in
      let a : s + 2 ^ k - 1 + 1 - 2 ^ k ≡ s = omega (arith, pos) in
      let b : s + 2 ^ k - 1 + 1 ≡ s + 2 ^ k = omega (arith, pos) in
      let d : t - 1 + 1 - 2 ^ k ≡ t - 2 ^ k = omega (arith, lt) in
      let e : t - 1 + 1 ≡ t = omega (arith, lt) in
      ap₂ (both join) (ap₂ (λ i j. joining join (between i j es)) a b) (ap₂ (λ i j. joining join (between i j es)) d e)
      ∙ covering join assoc idem s (t - 2 ^ k) (s + 2 ^ k) t es (omega (arith, low, lt)) (omega (arith, two, high, lt)) (omega (arith, low, lt))

  pub answered : (c n : ℕ) (cells : List T) → Built join c n cells → (s t : ℕ) → s < t → t ≤ n → t ≤ 1024 → joined_cells_lem join c cells s t ≡ joining join (between s t (take n cells))
  answered c n cells built s t lt le small =
      let k = row_count (t - s) - 1 in
      let p = row_of (t - s) (omega (arith, lt)) (omega (arith, small)) in
      let pos = pow_pos k in
      ap₂ (both join) (built k (s + 2 ^ k - 1) (omega (arith, pos)) (omega (arith, p.0, le, lt, pos))) (built k (t - 1) (omega (arith, p.0, lt)) (omega (arith, le, lt)))
      ∙ covered (take n cells) s t k lt p.0 p.1

  pub joined_is : (c n : ℕ) (cells : List T) → c ≤ 1024 → cells_for c ≤ length cells → Built join c n cells → (s t : ℕ) → s < t → t ≤ n → t ≤ c → (v : T) → Some v ≡ joined_cells_lem join c cells s t → Ok v ≡ joined_told join (take n cells) s t
  joined_is c n cells small room built s t lt le few v value =
      ap ok_of (value ∙ answered c n cells built s t lt le (omega (arith, few, small)))
      ∙ sym (cond-true _ _ _ (and_from (ltb s t) (leb t (length (take n cells))) (lt-ltb s t lt) (le-leb t (length (take n cells)) (omega (arith, length-take n cells, cells_enough c small, few, le, room)))))
