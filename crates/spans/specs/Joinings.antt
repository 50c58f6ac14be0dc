-- What it is to join the elements of a list.
--   joining: how two elements become one; it is associative, commutative, and an element joined with itself is itself.
use Rattle.std.specs.Prelude.{ℕ, cond, ◌&&◌, List, [], ◌∷◌, length, Some, None, Ok, Err, Option, Result, nat_le, nat_lt}
use Rattle.std.specs.List.{between}
use Rattle.charges.specs.declared.Refusal.{Refusal}
use Rattle.charges.specs.declared.Refusal.TheVariants.{Outside}

module _ {T : Type 0} (join : T → T → T) where
  abbrev pub both : Option T → Option T → Option T
  both None b = b
  both (Some a) None = Some a
  both (Some a) (Some b) = Some (join a b)

  -- the joining of a list, in order; of no elements there is none
  abbrev pub joining : List T → Option T
  joining [] = None
  joining (x ∷ xs) = both (Some x) (joining xs)

abbrev pub ok_of : {T : Type 0} → Option T → Result T Refusal
ok_of None = Err Outside
ok_of (Some x) = Ok x

-- what a span table answers of the elements s to t - 1
abbrev pub joined_told : {T : Type 0} → (T → T → T) → List T → ℕ → ℕ → Result T Refusal
joined_told join elements s t = cond (nat_lt s t && nat_le t (length elements)) (ok_of (joining join (between s t elements))) (Err Outside)
