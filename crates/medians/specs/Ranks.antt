-- How the table keeps the readings: in rising order, each with its place in the hole.
--   ranked: the readings in rising order, an earlier one first among equals.
use Rattle.std.specs.Prelude.{ℕ, zero, suc, Bool, true, false, cond, ◌&&◌, List, [], ◌∷◌, ◌++◌, length, take, ℤ, pos, ◌==◌, int_le}
use Rattle.std.specs.List.{prefix_len, insert}
use Rattle.medians.specs.declared.place.Place.{Place}

abbrev pub place : ℤ → ℕ → Place
place x n = record { reading = x; at = n }

-- how many places at the front hold readings of at most x
abbrev pub rank : ℤ → List Place → ℕ
rank x ps = prefix_len (λ p. int_le p.reading x) ps

-- one place more, behind those of at most its reading
abbrev pub ranked_with : Place → List Place → List Place
ranked_with p ps = insert ps (rank p.reading ps) p

unfoldable pub ranked_from : ℕ → List Place → List ℤ → List Place
ranked_from n ps [] = ps
ranked_from n ps (x ∷ xs) = ranked_from (suc n) (ranked_with (place x n) ps) xs

abbrev pub ranked : List ℤ → List Place
ranked h = ranked_from 0 [] h

-- the reading whose place in the hole is n
abbrev pub reading_at : ℕ → List Place → ℤ
reading_at n [] = pos 0
reading_at n (p ∷ ps) = cond (p.at == n) p.reading (reading_at n ps)

-- the first n readings of the hole, and all of them
unfoldable pub readings_upto : ℕ → List Place → List ℤ
readings_upto zero ps = []
readings_upto (suc n) ps = readings_upto n ps ++ (reading_at n ps ∷ [])

abbrev pub readings_of : List Place → List ℤ
readings_of ps = readings_upto (length ps) ps

abbrev pub same_places : List Place → List Place → Bool
same_places [] [] = true
same_places [] (q ∷ qs) = false
same_places (p ∷ ps) [] = false
same_places (p ∷ ps) (q ∷ qs) = (int_le p.reading q.reading && int_le q.reading p.reading) && (p.at == q.at && same_places ps qs)

-- the places hold the readings of a hole, ranked
abbrev pub in_rank : List Place → Bool
in_rank ps = same_places (ranked (readings_of ps)) ps

-- the readings that the first places of a table hold, in the order of the hole
abbrev pub held_in : List Place → ℕ → List ℤ
held_in table count = readings_of (take count table)
