-- What one pass over the ranked readings works out.
use Rattle.std.specs.Prelude.{ℕ, suc, Bool, cond, ◌&&◌, List, [], ◌∷◌, map, ℤ, pos, ◌+ℤ◌, neg_ℤ, filter, nat_le, nat_lt}
use Rattle.medians.specs.declared.place.Place.{Place}

abbrev pub in_segment_lem : ℕ → ℕ → ℕ → Bool
in_segment_lem s t n = nat_le s n && nat_lt n t

-- the readings of the segment (s, t), in the order of the places
abbrev pub picked : ℕ → ℕ → List Place → List ℤ
picked s t ps = map (λ p. p.reading) (filter (λ p. in_segment_lem s t p.at) ps)

-- the j-th reading counts as taken off below `low`, as added from `high` on, and not at all between
abbrev pub share : ℕ → ℕ → ℕ → ℤ → ℤ
share low high j y = cond (nat_lt j low) (neg_ℤ y) (cond (nat_le high j) y (pos 0))

unfoldable pub balance : ℕ → ℕ → ℕ → List ℤ → ℤ
balance low high j [] = pos 0
balance low high j (y ∷ ys) = share low high j y +ℤ balance low high (suc j) ys
