-- Segments cut in two, lengthened by one reading, or of a longer hole.
use Rattle.readings.proofs.Segments.{cut_at}
use Rattle.std.proofs.Common.{◌≡◌, ℕ, suc, ◌+◌, ◌-◌, ◌<◌, ◌≤◌, List, [], ◌∷◌, ◌++◌, length, get_or, take, drop, ℤ, pos, ap, ◌∙◌, arith, length-drop}
use Rattle.std.proofs.lemmas.List.{take_more, drop-append-le, take-append-le, get_or-drop}
use Rattle.charges.specs.Rules.{segment}

pub segment_cut : (h : List ℤ) (s u t : ℕ) → s ≤ u → u ≤ t → segment h s t ≡ segment h s u ++ segment h u t
segment_cut h s u t su ut = cut_at h s u t su ut

pub segment_more : (h : List ℤ) (s t : ℕ) → s ≤ t → t < length h → segment h s (suc t) ≡ segment h s t ++ (get_or h t (pos 0) ∷ [])
segment_more h s t st lt =
    let e : suc t - s ≡ (t - s) + 1 = omega arith in
    let f : s + (t - s) ≡ t = omega arith in
    ap (λ n. take n (drop s h)) e
    ∙ (take_more (drop s h) (t - s) (pos 0) (simp length-drop (omega arith)) ∙ ap (λ x. segment h s t ++ (x ∷ [])) (get_or-drop s h (t - s) (pos 0) ∙ ap (λ n. get_or h n (pos 0)) f))

pub segment-before : (h more : List ℤ) (s t : ℕ) → s ≤ t → t ≤ length h → segment (h ++ more) s t ≡ segment h s t
segment-before h more s t st le =
    ap (take (t - s)) (drop-append-le s h more (omega arith)) ∙ take-append-le (t - s) (drop s h) more (simp length-drop (omega arith))

pub segment_empty : (h : List ℤ) (s t : ℕ) → t ≤ s → segment h s t ≡ []
segment_empty h s t le = let e : t - s ≡ 0 = omega arith in ap (λ n. take n (drop s h)) e
