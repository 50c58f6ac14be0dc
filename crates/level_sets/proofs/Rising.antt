-- A list rises exactly where each element is below the next.
use Rattle.std.proofs.Common.{◌≡◌, ℕ, zero, suc, ◌+◌, ◌<◌, Bool, true, false, ◌&&◌, List, [], ◌∷◌, length, get_or, ℤ, pos, sym, refl, ap, ◌∙◌, arith, add-one}
use Rattle.std.specs.List.{IsAllAdjacentAnswer}
use lib.Signed.{lt_z}
use Rattle.level_sets.specs.LevelSets.{rising, rising_from}

rises_from : (l : ℤ) (ls : List ℤ) → ((k : ℕ) → k < length ls → lt_z (get_or (l ∷ ls) k (pos 0)) (get_or ls k (pos 0)) ≡ true) → rising_from l ls ≡ true
rises_from l [] h = refl
rises_from l (m ∷ ms) h = ap (λ b. b && rising_from m ms) (h 0 (omega arith)) ∙ rises_from m ms (λ k lt. h (suc k) (omega arith))

none : (b : Bool) → (b && false) ≡ false
none true = refl
none false = refl

falls_from : (l : ℤ) (ls : List ℤ) (k : ℕ) → k < length ls → lt_z (get_or (l ∷ ls) k (pos 0)) (get_or ls k (pos 0)) ≡ false → rising_from l ls ≡ false
falls_from l [] k lt h = absurd (omega arith)
falls_from l (m ∷ ms) zero lt h = ap (λ b. b && rising_from m ms) h
falls_from l (m ∷ ms) (suc k) lt h = ap (λ b. lt_z l m && b) (falls_from m ms k (omega arith) h) ∙ none (lt_z l m)

-- the element behind the first k + 1
next_of : (l : ℤ) (ls : List ℤ) (k : ℕ) → get_or (l ∷ ls) (k + 1) (pos 0) ≡ get_or ls k (pos 0)
next_of l ls k = ap (λ n. get_or (l ∷ ls) n (pos 0)) (add-one k)

pub adjacent_rise : (ls : List ℤ) (r : Bool) → IsAllAdjacentAnswer (λ x y b. b ≡ lt_z x y) ls r → r ≡ rising ls
adjacent_rise [] true h = refl
adjacent_rise (l ∷ ls) true h = sym (rises_from l ls (λ k lt. ap (lt_z (get_or (l ∷ ls) k (pos 0))) (sym (next_of l ls k)) ∙ sym (h k (pos 0) (omega arith))))
adjacent_rise [] false h = absurd (omega (arith, h.1))
adjacent_rise (l ∷ ls) false h = sym (falls_from l ls h.0 (omega (arith, h.1)) (ap (lt_z (get_or (l ∷ ls) h.0 (pos 0))) (sym (next_of l ls h.0)) ∙ sym (h.2 (pos 0))))
