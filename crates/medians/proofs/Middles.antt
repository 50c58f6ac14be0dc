-- The median of a list, found in the same readings in rising order, and that it is a least point of the sum of distances.
use Rattle.std.proofs.Common.{◌≡◌, ℕ, zero, suc, ◌+◌, ◌-◌, ◌*◌, ◌/◌, ◌<◌, ◌≤◌, true, cond, ◌&&◌, leb, ◌⊎◌, List, [], ◌∷◌, ◌++◌, length, get_or, take, drop, ℤ, pos, ◌+ℤ◌, ◌-ℤ◌, neg_ℤ, ◌≤ℤ◌, ◌<ℤ◌, sum_by, filter, sym, refl, ap, ◌∙◌, subst, inl, inr, ⊎_elim, add-one, arith, length-drop, length-take}
use lib.Signed.{le_z}
use Rattle.std.specs.List.{between, AllByRecursion}
use Rattle.std.proofs.lemmas.List.Edits.{split_between, between_none, between_more, length-between}
use Rattle.std.proofs.ByRecursion.{All-take, All-drop, kept_by_passes}
use Rattle.std.proofs.lemmas.List.{take-take, drop-drop}
use Rattle.std.proofs.lemmas.Int.{ints, by_lt_z}
use Rattle.std.proofs.lemmas.List.Sums.{sum_by-cons, sum_by-append, sum_by-take-drop, count_by-le-length}
use Rattle.std.proofs.lemmas.Bool.{leb-true, le-leb, lt-leb, lt-ltb, le-ltb, cases_eq}
use Rattle.medians.specs.Walks.{share, balance}
use Rattle.medians.specs.Medians.{distance, distances, upto, half_upto, lowest, median}
use Rattle.medians.proofs.Rising.{Rising, rising-below, rising-above, In, in_get_or, in_all, in_kept, lowest_le, lowest_in, none}

-- the two lists have the same sums, so the same readings in some order
pub record Same (u w : List ℤ) : Type 0 where
  pub sums : (f : ℤ → ℕ) → sum_by f w ≡ sum_by f u

sum_ones : (u : List ℤ) → sum_by (λ _. 1) u ≡ length u
sum_ones [] = refl
sum_ones (x ∷ xs) = sum_by-cons (λ _. 1) x xs ∙ omega (arith, sum_ones xs)

pub same_length : {u w : List ℤ} → Same u w → length w ≡ length u
same_length {u} {w} e = sym (sum_ones w) ∙ (e.sums (λ _. 1) ∙ sum_ones u)

-- how often y stands in a list
abbrev often : ℤ → ℤ → ℕ
often y z = cond (le_z z y && le_z y z) 1 0

often_itself : (y : ℤ) → often y y ≡ 1
often_itself y = grind (arith, ints)

often_same : (y z : ℤ) → 0 < often y z → z ≡ y
often_same y z h = grind (arith, ints)

in_often : (y : ℤ) (xs : List ℤ) → In y xs → 0 < sum_by (often y) xs
in_often y [] i = elim i [ ]
in_often y (x ∷ xs) (inl e) = omega (arith, sum_by-cons (often y) x xs, ap (often y) e ∙ often_itself y)
in_often y (x ∷ xs) (inr i) = omega (arith, sum_by-cons (often y) x xs, in_often y xs i)

often_in_at : (y x : ℤ) (xs : List ℤ) (n : ℕ) → often y x ≡ n → 0 < n + sum_by (often y) xs → (0 < sum_by (often y) xs → In y xs) → In y (x ∷ xs)
often_in_at y x xs zero e h f = inr (f (omega arith))
often_in_at y x xs (suc n) e h f = inl (often_same y x (omega arith))

often_in : (y : ℤ) (xs : List ℤ) → 0 < sum_by (often y) xs → In y xs
often_in y [] h = none 0 h
often_in y (x ∷ xs) h = often_in_at y x xs (often y x) refl (omega (arith, sum_by-cons (often y) x xs)) (often_in y xs)

pub same_in : {u w : List ℤ} → Same u w → (y : ℤ) → In y w → In y u
same_in {u} {w} e y i = often_in y u (omega (arith, in_often y w i, e.sums (often y)))

-- ---- counting the readings that do not exceed x

one_le : (x y : ℤ) → y ≤ℤ x → ◌≡◌ {A = ℕ} (cond (le_z y x) 1 0) 1
one_le x y h = grind (arith, ints)

one_gt : (x y : ℤ) → x <ℤ y → ◌≡◌ {A = ℕ} (cond (le_z y x) 1 0) 0
one_gt x y h = grind (arith, ints)

upto_all : (x : ℤ) (ys : List ℤ) → AllByRecursion (λ y. y ≤ℤ x) ys → upto x ys ≡ length ys
upto_all x [] a = refl
upto_all x (y ∷ ys) a =
    sum_by-cons (λ z. cond (le_z z x) 1 0) y ys ∙ omega (arith, one_le x y a.0, upto_all x ys a.1)

upto_none : (x : ℤ) (ys : List ℤ) → AllByRecursion (λ y. x <ℤ y) ys → upto x ys ≡ 0
upto_none x [] a = refl
upto_none x (y ∷ ys) a = sum_by-cons (λ z. cond (le_z z x) 1 0) y ys ∙ omega (arith, one_gt x y a.0, upto_none x ys a.1)

less_all : (x m : ℤ) (ys : List ℤ) → x <ℤ m → AllByRecursion (λ y. m ≤ℤ y) ys → AllByRecursion (λ y. x <ℤ y) ys
less_all x m [] h a = tt
less_all x m (y ∷ ys) h a = (omega (arith, ints, a.0), less_all x m ys h a.1)

-- of w in rising order, the reading in the middle, the lower one of two
abbrev pub middle : List ℤ → ℕ
middle w = (length w - 1) / 2

abbrev pub middle_of : List ℤ → ℤ
middle_of w = get_or w (middle w) (pos 0)

module _ (w : List ℤ) (up : Rising w) (some : 0 < length w) where
  middle-within : middle w < length w
  middle-within = omega arith

  middle_half : length w ≤ 2 * upto (middle_of w) w
  middle_half =
      let all = upto_all (middle_of w) (take (suc (middle w)) w) (rising-below w (middle w) up middle-within) in
      omega (arith, sum_by-take-drop (λ z. cond (le_z z (middle_of w)) 1 0) w (suc (middle w)), simp length-take at all)

  middle_first : (x : ℤ) → x <ℤ middle_of w → 2 * upto x w < length w
  middle_first x h =
      let no = upto_none x (drop (middle w) w) (less_all x (middle_of w) (drop (middle w) w) h (rising-above w (middle w) up middle-within)) in
      let few = count_by-le-length (λ z. le_z z x) (take (middle w) w) in
      omega (arith, sum_by-take-drop (λ z. cond (le_z z x) 1 0) w (middle w), no, simp length-take at few)

  module _ (u : List ℤ) (e : Same u w) where
    half_same : (x : ℤ) → half_upto u x ≡ half_upto w x
    half_same x = ap (λ n. leb n (2 * upto x u)) (sym (same_length e)) ∙ ap (λ n. leb (length w) (2 * n)) (sym (e.sums (λ y. cond (le_z y x) 1 0)))

    pub kept_middle : In (middle_of w) (filter (half_upto u) u)
    kept_middle =
        in_kept (half_upto u) (middle_of w) u
        (half_same (middle_of w) ∙ le-leb _ _ middle_half)
        (same_in e (middle_of w) (in_get_or w (middle w) middle-within))

    none_below : (x : ℤ) → half_upto u x ≡ true → middle_of w ≤ℤ x
    none_below x h =
        by_lt_z x (middle_of w)
        (λ lt. none 0 (omega (arith, middle_first x lt, leb-true _ _ (sym (half_same x) ∙ h))))
        (λ le. le)

    pub median-middle : median u ≡ middle_of w
    median-middle =
        let k = filter (half_upto u) u in
        let low = lowest_le (middle_of w) k kept_middle in
        let high = none_below (lowest k) (in_all (λ y. half_upto u y ≡ true) (lowest k) k (kept_by_passes (half_upto u) u) (lowest_in (middle_of w) k kept_middle)) in
        omega (arith, ints)

-- ---- sums of distances

abbrev pub int_sum : List ℤ → ℤ
int_sum [] = pos 0
int_sum (x ∷ xs) = x +ℤ int_sum xs

far_apart : (x a b : ℤ) → (b -ℤ a) ≤ℤ pos (distance x a + distance x b)
far_apart x a b = omega (arith, ints)

between_them : (m a b : ℤ) → a ≤ℤ m → m ≤ℤ b → b -ℤ a ≡ pos (distance m a + distance m b)
between_them m a b h k = omega (arith, ints)

-- two lists of one length, paired off: no point is nearer to all of them than the difference of their sums
pub paired_least : (x : ℤ) (ls hs : List ℤ) → length ls ≡ length hs → (int_sum hs -ℤ int_sum ls) ≤ℤ pos (distances x ls + distances x hs)
paired_least x [] [] e = omega (arith, ints)
paired_least x [] (b ∷ hs) e = absurd (let z : ⊥ = omega arith in z)
paired_least x (a ∷ ls) [] e = absurd (let z : ⊥ = omega arith in z)
paired_least x (a ∷ ls) (b ∷ hs) e =
    omega (arith, ints, far_apart x a b, paired_least x ls hs (omega arith), sum_by-cons (distance x) a ls, sum_by-cons (distance x) b hs)

-- and a point between them is just as near
pub paired_exact : (m : ℤ) (ls hs : List ℤ) → length ls ≡ length hs → AllByRecursion (λ y. y ≤ℤ m) ls → AllByRecursion (λ y. m ≤ℤ y) hs → int_sum hs -ℤ int_sum ls ≡ pos (distances m ls + distances m hs)
paired_exact m [] [] e p q = refl
paired_exact m [] (b ∷ hs) e p q = absurd (let z : ⊥ = omega arith in z)
paired_exact m (a ∷ ls) [] e p q = absurd (let z : ⊥ = omega arith in z)
paired_exact m (a ∷ ls) (b ∷ hs) e p q =
    omega (arith, ints, between_them m a b p.0 q.0, paired_exact m ls hs (omega arith) p.1 q.1, sum_by-cons (distance m) a ls, sum_by-cons (distance m) b hs)

-- ---- the balance of a list

pub balance-append : (low high j : ℕ) (xs ys : List ℤ) → balance low high j (xs ++ ys) ≡ balance low high j xs +ℤ balance low high (j + length xs) ys
unfolding balance
balance-append low high j [] ys = let e : j + 0 ≡ j = omega arith in rw e (omega (arith, ints))
balance-append low high j (x ∷ xs) ys =
    let e : j + suc (length xs) ≡ suc j + length xs = omega arith in
    rw e (omega (arith, ints, balance-append low high (suc j) xs ys))

share_low : (low high j : ℕ) (y : ℤ) → j < low → share low high j y ≡ neg_ℤ y
share_low low high j y h = rw lt-ltb

share_mid : (low high j : ℕ) (y : ℤ) → low ≤ j → j < high → share low high j y ≡ pos 0
share_mid low high j y h k = rw (le-ltb, lt-leb)

share_high : (low high j : ℕ) (y : ℤ) → low ≤ j → high ≤ j → share low high j y ≡ y
share_high low high j y h k = rw (le-ltb, le-leb)

balance_low : (low high j : ℕ) (ys : List ℤ) → j + length ys ≤ low → balance low high j ys ≡ neg_ℤ (int_sum ys)
unfolding balance
balance_low low high j [] h = refl
balance_low low high j (y ∷ ys) h =
    omega (arith, ints, share_low low high j y (omega arith), balance_low low high (suc j) ys (omega arith))

balance_mid : (low high j : ℕ) (ys : List ℤ) → low ≤ j → j + length ys ≤ high → balance low high j ys ≡ pos 0
unfolding balance
balance_mid low high j [] h k = refl
balance_mid low high j (y ∷ ys) h k =
    omega (arith, ints, share_mid low high j y h (omega arith), balance_mid low high (suc j) ys (omega arith) (omega arith))

balance_high : (low high j : ℕ) (ys : List ℤ) → low ≤ j → high ≤ j → balance low high j ys ≡ int_sum ys
unfolding balance
balance_high low high j [] h k = refl
balance_high low high j (y ∷ ys) h k =
    omega (arith, ints, share_high low high j y h k, balance_high low high (suc j) ys (omega arith) (omega arith))

balance_parts : (low high : ℕ) (ls ms hs : List ℤ) → length ls ≡ low → low + length ms ≡ high → balance low high 0 (ls ++ (ms ++ hs)) ≡ int_sum hs -ℤ int_sum ls
balance_parts low high ls ms hs e f =
    let a = balance-append low high 0 ls (ms ++ hs) in
    let b = balance-append low high (0 + length ls) ms hs in
    let l = balance_low low high 0 ls (omega arith) in
    let m = balance_mid low high (0 + length ls) ms (omega arith) (omega arith) in
    let h = balance_high low high (0 + length ls + length ms) hs (omega arith) (omega arith) in
    omega (arith, ints)

-- how many readings stand above the middle one
abbrev pub upper : List ℤ → ℕ
upper w = length w - suc (middle w)

abbrev lows : List ℤ → List ℤ
lows w = take (upper w) w

abbrev mids : List ℤ → List ℤ
mids w = between (upper w) (suc (middle w)) w

abbrev highs : List ℤ → List ℤ
highs w = drop (suc (middle w)) w

distances_parts : (x : ℤ) (ls ms hs : List ℤ) → distances x (ls ++ (ms ++ hs)) ≡ distances x ls + (distances x ms + distances x hs)
distances_parts x ls ms hs = sum_by-append (distance x) ls (ms ++ hs) ∙ ap (λ n. distances x ls + n) (sum_by-append (distance x) ms hs)

one_middle : (w : List ℤ) (i : ℕ) → i < length w → between i (i + 1) w ≡ get_or w i (pos 0) ∷ []
one_middle w i h = between_more w i i (pos 0) (omega arith) h ∙ ap (λ l. l ++ (get_or w i (pos 0) ∷ [])) (between_none w i)

itself : (m : ℤ) → distances m (m ∷ []) ≡ 0
itself m = omega (arith, ints)

mids_near : (w : List ℤ) (low k : ℕ) → k < length w → (low ≡ k) ⊎ (low ≡ suc k) → distances (get_or w k (pos 0)) (between low (suc k) w) ≡ 0
mids_near w low k h (inl e) =
    let one : between low (suc k) w ≡ get_or w k (pos 0) ∷ [] = rw e (rw (sym (add-one k)) (one_middle w k h)) in
    ap (distances (get_or w k (pos 0))) one ∙ itself (get_or w k (pos 0))
mids_near w low k h (inr e) = rw e (ap (distances (get_or w k (pos 0))) (between_none w (suc k)))

module _ (w : List ℤ) (up : Rising w) (some : 0 < length w) where
  parts : w ≡ lows w ++ (mids w ++ highs w)
  parts = split_between w (upper w) (suc (middle w)) (omega arith)

  lows_length : length (lows w) ≡ upper w
  lows_length = simp length-take (omega arith)

  highs_length : length (highs w) ≡ upper w
  highs_length = simp length-drop (omega arith)

  mids_length : upper w + length (mids w) ≡ suc (middle w)
  mids_length = omega (arith, length-between w (upper w) (suc (middle w)) (omega arith))

  distances_split : (x : ℤ) → distances x w ≡ distances x (lows w) + (distances x (mids w) + distances x (highs w))
  distances_split x = ap (distances x) parts ∙ distances_parts x (lows w) (mids w) (highs w)

  lows_below : AllByRecursion (λ y. y ≤ℤ middle_of w) (lows w)
  lows_below =
      let P : ℤ → Type 0 = λ y. y ≤ℤ middle_of w in
      subst (AllByRecursion P) (take-take (upper w) (suc (middle w)) w (omega arith))
      (All-take P (upper w) (take (suc (middle w)) w) (rising-below w (middle w) up (omega arith)))

  highs_above : AllByRecursion (λ y. middle_of w ≤ℤ y) (highs w)
  highs_above =
      let P : ℤ → Type 0 = λ y. middle_of w ≤ℤ y in
      subst (AllByRecursion P) (drop-drop 1 (middle w) w ∙ ap (λ n. drop n w) (add-one (middle w)))
      (All-drop P 1 (drop (middle w) w) (rising-above w (middle w) up (omega arith)))

  upper_cases : (upper w ≡ middle w) ⊎ (upper w ≡ suc (middle w))
  upper_cases = ⊎_elim (λ e. inl e) (λ ne. inr (omega arith)) (cases_eq (upper w) (middle w))

  spread : int_sum (highs w) -ℤ int_sum (lows w) ≡ pos (distances (middle_of w) w)
  spread =
      let near = mids_near w (upper w) (middle w) (omega arith) upper_cases in
      let e = paired_exact (middle_of w) (lows w) (highs w) (lows_length ∙ sym highs_length) lows_below highs_above in
      omega (arith, ints, distances_split (middle_of w))

  pub balance-middle : balance (upper w) (suc (middle w)) 0 w ≡ pos (distances (middle_of w) w)
  balance-middle = ap (balance (upper w) (suc (middle w)) 0) parts ∙ (balance_parts (upper w) (suc (middle w)) (lows w) (mids w) (highs w) lows_length mids_length ∙ spread)

  pub middle-least : (x : ℤ) → distances (middle_of w) w ≤ distances x w
  middle-least x = omega (arith, ints, spread, distances_split x, paired_least x (lows w) (highs w) (lows_length ∙ sym highs_length))
