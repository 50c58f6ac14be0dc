-- Whole and pair amounts show the laws.
use Rattle.std.specs.Prelude.{◌≡◌, ℕ, true, refl}
use Rattle.std.proofs.Common.{ap, arith}
use Rattle.std.proofs.lemmas.Bool.Decides.{nat_tests}
use Rattle.amounts.specs.Kind.{Laws}
use Rattle.amounts.specs.Kinds.{whole, whole_kind, pair, pair_at_most, pair_kind}
use Rattle.amounts.specs.declared.Pair.{Pair}

pub whole_laws : Laws whole_kind
whole_laws = record {
  plus_assoc = λ a b c. ap whole (omega arith);
  plus_comm = λ a b. ap whole (omega arith);
  plus_nothing = λ a. ap whole (omega arith);
  total = λ a b. grind (arith, nat_tests);
  transitive = λ a b c h k. grind (arith, nat_tests);
  antisymmetric = λ a b h k. ap whole (grind (arith, nat_tests));
  nothing_least = λ a. grind (arith, nat_tests);
  cancels = λ a b c. grind (arith, nat_tests);
  weight_nothing = refl;
  weight_plus = λ a b. omega arith;
  words_read = λ a h. refl;
  words_weigh = λ a h. omega arith;
  read_weighs = λ w. omega arith;
}

pair_is : {a b c d : ℕ} → a ≡ b → c ≡ d → pair a c ≡ pair b d
pair_is e f = cc

both_ways : (a b : Pair) → pair_at_most a b ≡ true → pair_at_most b a ≡ true → a ≡ b
both_ways a b h k =
    let e : a.cost ≡ b.cost = grind (arith, nat_tests) in
    let f : a.layers ≡ b.layers = grind (arith, nat_tests) in
    pair_is e f

pub pair_laws : Laws pair_kind
pair_laws = record {
  plus_assoc = λ a b c. pair_is (omega arith) (omega arith);
  plus_comm = λ a b. pair_is (omega arith) (omega arith);
  plus_nothing = λ a. pair_is (omega arith) (omega arith);
  total = λ a b. grind (arith, nat_tests);
  transitive = λ a b c h k. grind (arith, nat_tests);
  antisymmetric = both_ways;
  nothing_least = λ a. grind (arith, nat_tests);
  cancels = λ a b c. grind (arith, nat_tests);
  weight_nothing = refl;
  weight_plus = λ a b. omega arith;
  words_read = λ a h. refl;
  words_weigh = λ a h. refl;
  read_weighs = λ w. omega arith;
}
