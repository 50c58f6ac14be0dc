-- The two kinds of amounts.
--   whole amounts: whole numbers from 0, each its own weight.
--   pair amounts: a cost and a number of layers, added by parts, ordered by cost and then by layers; a pair weighs its larger part.
use Rattle.std.specs.Prelude.{ℕ, ◌+◌, max, Bool, ◌&&◌, ◌||◌, ◌==◌, nat_le, nat_lt}
use Rattle.amounts.specs.Kind.{Kind}
use Rattle.amounts.specs.declared.Whole.{Whole}
use Rattle.amounts.specs.declared.Pair.{Pair}

abbrev pub whole : ℕ → Whole
whole n = record { number = n }

abbrev pub pair : ℕ → ℕ → Pair
pair c l = record { cost = c; layers = l }

abbrev pub whole_kind : Kind Whole
whole_kind = record {
  nothing = whole 0;
  plus = λ a b. whole (a.number + b.number);
  at_most = λ a b. nat_le a.number b.number;
  weight = λ a. a.number;
  words = λ a. (a.number, 0);
  of_words = λ w. whole w.0;
}

abbrev pub pair_at_most : Pair → Pair → Bool
pair_at_most a b = nat_lt a.cost b.cost || (a.cost == b.cost && nat_le a.layers b.layers)

abbrev pub pair_kind : Kind Pair
pair_kind = record {
  nothing = pair 0 0;
  plus = λ a b. pair (a.cost + b.cost) (a.layers + b.layers);
  at_most = pair_at_most;
  weight = λ a. max a.cost a.layers;
  words = λ a. (a.cost, a.layers);
  of_words = λ w. pair w.0 w.1;
}
