-- Segments of the readings held.
use Rattle.std.proofs.Common.{◌≡◌, ℕ, ◌-◌, ◌<◌, ◌≤◌, Bool, true, cond, ◌&&◌, ltb, leb, List, [], ◌∷◌, ◌++◌, length, take, drop, ℤ, sym, ap, ◌∙◌, ⊎_elim, append-nil, arith, length-drop, length-take, ◌+◌, ◌*◌, add-mul, length-append, take-add}
use Rattle.std.specs.List.{list_all, AllByRecursion}
use Rattle.std.proofs.ByRecursion.{All-take, All-drop}
use Rattle.std.proofs.lemmas.List.{length_push, take_all, take-append-le, drop_all, drop-append-le, drop-drop}
use Rattle.std.proofs.lemmas.Bool.{cases_lt, lt-ltb, le-ltb, le-leb, lt-leb, and_from, and_left, and_right}
use Rattle.std.proofs.lemmas.Nat.{mul-le}
use Rattle.charges.specs.Rules.{segment}
use Rattle.charges.proofs.Lawful.{all_from_pass, pass_from_all}

pub length-segment : (h : List ℤ) (s t : ℕ) → t ≤ length h → length (segment h s t) ≡ t - s
length-segment h s t le = simp (length-take, length-drop) (omega arith)

pub segment_all : (h : List ℤ) → segment h 0 (length h) ≡ h
segment_all h = take_all (length h - 0) h (omega arith)

pub segment_none : (s t : ℕ) → segment [] s t ≡ []
segment_none s t = ap (take (t - s)) (drop_all {X = ℤ} s [] (omega arith)) ∙ take_all {A = ℤ} (t - s) [] (omega arith)

-- what lies from s to t, cut at u
pub cut_at : {X : Type 0} (l : List X) (s u t : ℕ) → s ≤ u → u ≤ t → take (t - s) (drop s l) ≡ take (u - s) (drop s l) ++ take (t - u) (drop u l)
cut_at l s u t su ut =
    let e : t - s ≡ (u - s) + (t - u) = omega arith in
    let f : s + (u - s) ≡ u = omega arith in
    ap (λ n. take n (drop s l)) e
    ∙ (take-add (u - s) (t - u) (drop s l) ∙ ap (λ r. take (u - s) (drop s l) ++ take (t - u) r) (drop-drop (u - s) s l ∙ ap (λ n. drop n l) f))

-- two parts, each at a price for each of its readings that is no more than m
pub parts_cost : (u v : List ℤ) (a b m : ℕ) → a ≤ m → b ≤ m → length u * a + length v * b ≤ length (u ++ v) * m
parts_cost u v a b m p q =
    let e = ap (λ n. n * m) (length-append u v) ∙ add-mul (length u) (length v) m in
    omega (arith, mul-le (length u) a (length u) m (omega arith) p, mul-le (length v) b (length v) m (omega arith) q, e)

-- what is so of all readings is so of those of a segment
pub segment_has : (P : ℤ → Type 0) (l : List ℤ) (s t : ℕ) → AllByRecursion P l → AllByRecursion P (segment l s t)
segment_has P l s t a = All-take P (t - s) (drop s l) (All-drop P s l a)

-- what all readings pass, those of a segment do
pub segment_passes : (p : ℤ → Bool) (l : List ℤ) (s t : ℕ) → list_all p l ≡ true → list_all p (segment l s t) ≡ true
segment_passes p l s t h =
    pass_from_all p (segment l s t) (segment_has (λ x. p x ≡ true) l s t (all_from_pass p l h))

-- one reading more stands in the segments that reach past it
module _ (h : List ℤ) (x : ℤ) (s t : ℕ) where
  abbrev reaches : Bool
  reaches = leb s (length h) && ltb (length h) t

  abbrev Pushed : Type 0
  Pushed = segment (h ++ (x ∷ [])) s t ≡ segment h s t ++ cond reaches (x ∷ []) []

  ends_before : s ≤ length h → t ≤ length h → Pushed
  ends_before le lt =
      ap (take (t - s)) (drop-append-le s h (x ∷ []) le)
      ∙ (take-append-le (t - s) (drop s h) (x ∷ []) (simp length-drop (omega arith))
      ∙ (sym (append-nil (segment h s t)) ∙ ap (λ b. segment h s t ++ cond b (x ∷ []) []) (sym (and_right (leb s (length h)) _ (le-ltb (length h) t lt)))))

  ends_behind : s ≤ length h → length h < t → Pushed
  ends_behind le lt =
      let all : take (t - s) (drop s h) ≡ drop s h = take_all (t - s) (drop s h) (simp length-drop (omega arith)) in
      ap (take (t - s)) (drop-append-le s h (x ∷ []) le)
      ∙ (take_all (t - s) (drop s h ++ (x ∷ [])) (simp (length_push, length-drop) (omega arith))
      ∙ (ap (λ l. l ++ (x ∷ [])) (sym all) ∙ ap (λ b. segment h s t ++ cond b (x ∷ []) []) (sym (and_from _ _ (le-leb s (length h) le) (lt-ltb (length h) t lt)))))

  starts_behind : length h < s → Pushed
  starts_behind lt =
      let one = length_push h x in
      let here : drop s h ≡ [] = drop_all s h (omega arith) in
      ap (take (t - s)) (drop_all s (h ++ (x ∷ [])) (omega arith) ∙ sym here)
      ∙ (sym (append-nil (segment h s t)) ∙ ap (λ b. segment h s t ++ cond b (x ∷ []) []) (sym (and_left _ (ltb (length h) t) (lt-leb s (length h) lt))))

  pub segment-push : Pushed
  segment-push = ⊎_elim (λ lt. starts_behind lt) (λ le. ⊎_elim (λ lt. ends_behind le lt) (λ ge. ends_before le ge) (cases_lt (length h) t)) (cases_lt (length h) s)
