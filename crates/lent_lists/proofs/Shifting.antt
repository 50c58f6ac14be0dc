-- Elements moved one place further, and one written in between.
use Rattle.std.proofs.Common.{◌≡◌, ℕ, ◌+◌, ◌-◌, ◌<◌, ◌≤◌, List, [], ◌∷◌, ◌++◌, length, take, drop, ap, sym, ◌∙◌, subst, arith, append_assoc}
use Rattle.std.proofs.Math.ListN.{set}
use Rattle.std.proofs.Math.Seq.{take-set-lt}
use Rattle.std.proofs.lemmas.List.{set-append_left, take_more_set, take-take, drop-take, take_at, length-take-le}
use Rattle.std.proofs.lemmas.List.Edits.{length-insert}
use Rattle.std.proofs.lemmas.Slice.{drop-append-drop}
use Rattle.std.specs.List.{insert, copy_within}

shifted_by : {X : Type 0} (old : List X) (at m : ℕ) (e : X) → at + m < length old → set (take (at + 1) old ++ (take m (drop at old) ++ drop (at + 1 + m) old)) at e ≡ insert (take (at + m) old) at e ++ drop (at + m + 1) old
shifted_by old at m e lt =
    let front = length-take-le (at + 1) old (omega arith) in
    let one : set (take (at + 1) old) at e ≡ take at old ++ e ∷ [] = sym (take-set-lt (at + 1) old at e (omega arith)) ∙ take_more_set old at e (omega arith) in
    let k : at + 1 + m ≡ at + m + 1 = omega arith in
    let a = take-take at (at + m) old (omega arith) in
    let d = drop-take at m old in
    set-append_left (take (at + 1) old) (take m (drop at old) ++ drop (at + 1 + m) old) at e (omega (arith, front))
    ∙ (ap (λ l. l ++ (take m (drop at old) ++ drop (at + 1 + m) old)) one
    ∙ rw (a, d, k) (simp append_assoc))

-- what the places hold afterwards
pub shifted : {X : Type 0} (old : List X) (at n : ℕ) (e : X) → at ≤ n → n < length old → set (copy_within old at n (at + 1)) at e ≡ insert (take n old) at e ++ drop (n + 1) old
shifted old at n e le lt =
    let k : at + (n - at) ≡ n = omega arith in
    rw append_assoc
    (subst (λ j. set (take (at + 1) old ++ (take (n - at) (drop at old) ++ drop (at + 1 + (n - at)) old)) at e ≡ insert (take j old) at e ++ drop (j + 1) old) k (shifted_by old at (n - at) e (omega arith)))

front_length : {X : Type 0} (old : List X) (at n : ℕ) (e : X) → at ≤ n → n < length old → length (insert (take n old) at e) ≡ n + 1
front_length old at n e le lt =
    let l = length-take-le n old (omega arith) in
    omega (arith, length-insert (take n old) at e (omega (arith, l)), l)

pub shifted_elements : {X : Type 0} (old : List X) (at n : ℕ) (e : X) → at ≤ n → n < length old → take (n + 1) (set (copy_within old at n (at + 1)) at e) ≡ insert (take n old) at e
shifted_elements old at n e le lt = rw (shifted old at n e le lt) (take_at _ _ (n + 1) (front_length old at n e le lt))

pub shifted_beyond : {X : Type 0} (old : List X) (at n : ℕ) (e : X) → at ≤ n → n < length old → (c : ℕ) → n < c → drop c (set (copy_within old at n (at + 1)) at e) ≡ drop c old
shifted_beyond old at n e le lt c more = rw (shifted old at n e le lt) (drop-append-drop (n + 1) old (insert (take n old) at e) c (omega arith) (front_length old at n e le lt))
