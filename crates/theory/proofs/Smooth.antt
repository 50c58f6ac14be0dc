-- Every reading of a layering gets the level of its layer.
use Rattle.std.proofs.Common.{◌≡◌, ℕ, ◌-◌, ◌<◌, ◌≤◌, List, [], ◌∷◌, ◌++◌, length, get_or, replicate, sym, ap, ◌∙◌, arith}
use Rattle.std.proofs.lemmas.List.{append-nil, append_assoc, length-append, length-replicate, get_or-replicate, get_or_append_left, get_or-append_right}
use Rattle.theory.specs.Layerings.{Rising, Layering}
use Rattle.theory.specs.Smooth.{smooth_from, smooth}
use Rattle.theory.specs.Theorems.{Smoothed}
use Rattle.theory.proofs.Layerings.{rising_le}

-- a place of a rising list is not above one that comes later in it
first_le : (q : ℕ) (ps : List ℕ) (j : ℕ) (before : List ℕ) (s : ℕ) (after : List ℕ) → Rising q ps j → q ∷ ps ≡ before ++ (s ∷ after) → q ≤ s
first_le q ps j [] s after h e = let same : q ≡ s = cc in omega arith
first_le q [] j (b ∷ before) s after h e = absurd (omega (arith, ap length e, length-append before (s ∷ after)))
first_le q (r ∷ ps) j (b ∷ before) s after h e =
    let rest : r ∷ ps ≡ before ++ (s ∷ after) = cc in
    omega (arith, h.0, first_le r ps j before s after h.1 rest)

module _ {L : Type 0} (level : ℕ → ℕ → L) where
  smooth-length : (s : ℕ) (ps : List ℕ) (j : ℕ) → Rising s ps j → length (smooth_from level s ps) ≡ j - s
  unfolding smooth_from
  smooth-length s [] j h = omega arith
  smooth-length s (q ∷ ps) j h =
      omega (arith, h.0, rising_le q ps j h.1, length-append (replicate (q - s) (level s q)) (smooth_from level q ps), length-replicate (q - s) (level s q), smooth-length q ps j h.1)

  -- one layer more at the end
  pub smooth-push : (s : ℕ) (ps : List ℕ) (m j : ℕ) → Rising s ps m → smooth_from level s (ps ++ (j ∷ [])) ≡ smooth_from level s ps ++ replicate (j - m) (level m j)
  unfolding smooth_from
  smooth-push s [] m j h = append-nil (replicate (j - s) (level s j)) ∙ ap (λ x. replicate (j - x) (level x j)) h
  smooth-push s (q ∷ ps) m j h = ap (λ r. replicate (q - s) (level s q) ++ r) (smooth-push q ps m j h.1) ∙ sym (append_assoc (replicate (q - s) (level s q)) (smooth_from level q ps) (replicate (j - m) (level m j)))

  smooth_at : (a : ℕ) (ps : List ℕ) (j : ℕ) (before : List ℕ) (s t : ℕ) (after : List ℕ) (i : ℕ) (other : L) → Rising a ps j → a ∷ ps ≡ before ++ (s ∷ (t ∷ after)) → s ≤ i → i < t → get_or (smooth_from level a ps) (i - a) other ≡ level s t
  unfolding smooth_from
  smooth_at a [] j before s t after i other h e low high = absurd (omega (arith, ap length e, length-append before (s ∷ (t ∷ after))))
  smooth_at a (q ∷ ps) j [] s t after i other h e low high =
      let start : a ≡ s = cc in
      let end : q ≡ t = cc in
      get_or_append_left (replicate (q - a) (level a q)) (smooth_from level q ps) other (i - a) (omega (arith, h.0, length-replicate (q - a) (level a q)))
      ∙ get_or-replicate (q - a) (i - a) (level a q) other (omega (arith, h.0))
      ∙ ap (λ x. level x q) start
      ∙ ap (level s) end
  smooth_at a (q ∷ ps) j (b ∷ before) s t after i other h e low high =
      let rest : q ∷ ps ≡ before ++ (s ∷ (t ∷ after)) = cc in
      let above = first_le q ps j before s (t ∷ after) h.1 rest in
      get_or-append_right (replicate (q - a) (level a q)) (smooth_from level q ps) (q - a) (i - a) other (length-replicate (q - a) (level a q)) (omega (arith, h.0))
      ∙ ap (λ x. get_or (smooth_from level q ps) x other) (omega (arith, h.0))
      ∙ smooth_at q ps j before s t after i other h.1 rest low high

  pub smoothed : (j : ℕ) (ps : List ℕ) → Layering j ps → Smoothed level j ps
  smoothed j ps h = record {
    one_each = smooth-length 0 ps j h ∙ omega arith;
    each = λ s t i other layer low high. ap (λ x. get_or (smooth level ps) x other) (omega arith) ∙ smooth_at 0 ps j layer.before s t layer.after i other h layer.neighbours low high;
  }
