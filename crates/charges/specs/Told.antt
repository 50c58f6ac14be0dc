-- What each call of a charge answers, and what it holds afterwards; the tests run from the top down.
use Rattle.std.specs.Prelude.{ℕ, Bool, cond, ◌&&◌, List, [], ◌∷◌, ◌++◌, length, ℤ, is_ok, Ok, Err, Result, nat_le, nat_lt}
use Rattle.charges.specs.Rules.{Rules, segment}
use Rattle.charges.specs.declared.Refusal.{Refusal}
use Rattle.charges.specs.declared.Refusal.TheVariants.{Full, Unlawful, Outside}

abbrev pub take_told : {V : Type 0} → Rules V → List ℤ → ℤ → Result (Unit {0}) Refusal
take_told r h x = cond (nat_le r.capacity (length h)) (Err Full) (cond (r.lawful x) (Ok tt) (Err Unlawful))

-- the readings held after take: one more at the end, or those before
abbrev pub after_take : {V : Type 0} → Rules V → List ℤ → ℤ → List ℤ
after_take r h x = cond (is_ok (take_told r h x)) (h ++ x ∷ []) h

-- (s, t) is a segment of the readings held: s < t ≤ n
abbrev pub inside : List ℤ → ℕ → ℕ → Bool
inside h s t = nat_lt s t && nat_le t (length h)

-- what a rule on lists says of the segment (s, t)
abbrev pub segment_told : {V : Type 0} → (List ℤ → V) → List ℤ → ℕ → ℕ → Result V Refusal
segment_told rule h s t = cond (inside h s t) (Ok (rule (segment h s t))) (Err Outside)
