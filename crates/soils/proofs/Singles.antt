-- Sets of one symbol, and the readings of a table of them.
use Rattle.std.proofs.Common.{◌≡◌, ℕ, zero, suc, ◌*◌, ◌/◌, ◌%◌, ◌^◌, ◌<◌, ◌≤◌, true, ◌&&◌, eqb, ltb, List, [], ◌∷◌, ◌++◌, map, length, ℤ, pos, nat_abs, Some, sym, refl, ap, ◌∙◌, ap₂, arith}
use lib.Bits.{bit_or, or_zero_r}
use lib.Count.{count_trailing_zeros, under}
use lib.Signed.{le_z}
use Rattle.std.specs.List.{AllByRecursion}
use Rattle.std.proofs.lemmas.Nat.{pow-add}
use Rattle.std.proofs.lemmas.Int.{ints}
use Rattle.std.proofs.lemmas.Bool.{and_parts, and_from, ltb-true, eqb-true, lt-ltb, eq-eqb}
use Rattle.readings.specs.Symbols.{symbol_reading}
use Rattle.spans.specs.Joinings.{both, joining}
use Rattle.soils.specs.declared.symbols.Symbols.{Symbols}
use Rattle.soils.specs.Soils.{set_of}
use Rattle.soils.specs.Sets.{symbols, union, single, symbol_of, all_single}
use Rattle.soils.proofs.Counts.{with_one, set_none}

double : (j : ℕ) → 2 ^ suc j ≡ 2 ^ j * 2
double j = omega (arith, pow-add 2 1 j)

pub zeros_power : (k j : ℕ) → j < k → count_trailing_zeros k (2 ^ j) ≡ j
unfolding count_trailing_zeros
zeros_power zero j lt = absurd (omega (arith, lt))
zeros_power (suc k) zero lt = refl
zeros_power (suc k) (suc j) lt =
    let even : 2 ^ suc j % 2 ≡ 0 = omega (arith, double j) in
    let half : 2 ^ suc j / 2 ≡ 2 ^ j = omega (arith, double j) in
    ap₂ (λ a b. under a (count_trailing_zeros k b)) even half ∙ ap suc (zeros_power k j (omega (arith, lt)))

abbrev Symbol : ℤ → Type 0
Symbol x = symbol_reading x ≡ true

int_le_pos : (n m : ℕ) → n ≤ m → le_z (pos n) (pos m) ≡ true
int_le_pos n m le = grind (arith, ints)

pos_symbol : (n : ℕ) → n < 32 → Symbol (pos n)
pos_symbol n lt = and_from _ _ (int_le_pos 0 n (omega arith)) (int_le_pos n 31 (omega (arith, lt)))

-- a symbol is a number below 32
pub symbol_is : (x : ℤ) → Symbol x → (x ≡ pos (nat_abs x)) × (nat_abs x < 32)
symbol_is x h =
    let p = and_parts (le_z (pos 0) x) (le_z x (pos 31)) h in
    (at_least x p.0, at_most x p.0 p.1)
  where
    at_least : (x : ℤ) → le_z (pos 0) x ≡ true → x ≡ pos (nat_abs x)
    at_least x a = grind (arith, ints)

    at_most : (x : ℤ) → le_z (pos 0) x ≡ true → le_z x (pos 31) ≡ true → nat_abs x < 32
    at_most x a b = grind (arith, ints)

pub symbol_single : (x : ℤ) → Symbol x → symbol_of (single x) ≡ x
symbol_single x h = let p = symbol_is x h in ap pos (zeros_power 32 (nat_abs x) p.1) ∙ sym p.0

pub single_test : (x : ℤ) → Symbol x → all_single (single x ∷ []) ≡ true
single_test x h =
    let p = symbol_is x h in
    let z = zeros_power 32 (nat_abs x) p.1 in
    and_from _ _ (and_from _ _ (lt-ltb _ 32 (omega (arith, z, p.1))) (eq-eqb _ _ (ap (λ k. 2 ^ k) (sym z)))) refl

pub singles_are : (l : List Symbols) → all_single l ≡ true → l ≡ map single (map symbol_of l)
singles_are [] h = refl
singles_are (a ∷ l) h =
    let p = and_parts (ltb (count_trailing_zeros 32 a.bits) 32 && eqb a.bits (2 ^ count_trailing_zeros 32 a.bits)) (all_single l) h in
    let q = and_parts (ltb (count_trailing_zeros 32 a.bits) 32) (eqb a.bits (2 ^ count_trailing_zeros 32 a.bits)) p.0 in
    ap₂ (λ x xs. x ∷ xs) (ap symbols (eqb-true a.bits (2 ^ count_trailing_zeros 32 a.bits) q.1)) (singles_are l p.1)

pub singles_symbols : (l : List Symbols) → all_single l ≡ true → AllByRecursion Symbol (map symbol_of l)
singles_symbols [] h = tt
singles_symbols (a ∷ l) h =
    let p = and_parts (ltb (count_trailing_zeros 32 a.bits) 32 && eqb a.bits (2 ^ count_trailing_zeros 32 a.bits)) (all_single l) h in
    let q = and_parts (ltb (count_trailing_zeros 32 a.bits) 32) (eqb a.bits (2 ^ count_trailing_zeros 32 a.bits)) p.0 in
    (pos_symbol (count_trailing_zeros 32 a.bits) (ltb-true _ 32 q.0), singles_symbols l p.1)

pub singles_push : (l : List Symbols) (x : ℤ) → all_single l ≡ true → Symbol x → all_single (l ++ (single x ∷ [])) ≡ true
singles_push [] x h n = single_test x n
singles_push (a ∷ l) x h n =
    let p = and_parts (ltb (count_trailing_zeros 32 a.bits) 32 && eqb a.bits (2 ^ count_trailing_zeros 32 a.bits)) (all_single l) h in
    and_from _ _ p.0 (singles_push l x p.1 n)

pub joining_singles : (x : ℤ) (xs : List ℤ) → AllByRecursion Symbol (x ∷ xs) → joining union (map single (x ∷ xs)) ≡ Some (symbols (set_of (x ∷ xs)))
joining_singles x [] a = ap (λ n. Some (symbols n)) (sym (with_one 32 x [] (symbol_is x a.0).1 ∙ (ap (bit_or (2 ^ nat_abs x)) (set_none 32) ∙ or_zero_r (2 ^ nat_abs x))))
joining_singles x (y ∷ ys) a =
    ap (both union (Some (single x))) (joining_singles y ys a.1) ∙ ap (λ n. Some (symbols n)) (sym (with_one 32 x (y ∷ ys) (symbol_is x a.0).1))

pub joining_readings : (u : List ℤ) → 0 < length u → AllByRecursion Symbol u → joining union (map single u) ≡ Some (symbols (set_of u))
joining_readings [] some a = absurd (omega (arith, some))
joining_readings (x ∷ xs) some a = joining_singles x xs a
