-- What a kind of amounts is, and the laws that every kind shows.
--   amount: what a fee, a penalty or a total is. Amounts have no upper limit.
--   weight: a whole number for each amount, by which limits are stated.
--   words: two 64-bit numbers as which an amount can be kept.
use Rattle.std.specs.Prelude.{◌≡◌, ℕ, ◌+◌, ◌^◌, ◌≤◌, max, Bool, true, ◌⊎◌}

pub record Kind (V : Type 0) : Type 0 where
  pub nothing : V
  pub plus : V → V → V
  -- the order, as a test
  pub at_most : V → V → Bool
  pub weight : V → ℕ
  pub words : V → ℕ × ℕ
  pub of_words : ℕ × ℕ → V

pub record Laws {V : Type 0} (k : Kind V) : Type 0 where
  pub plus_assoc : (a b c : V) → k.plus (k.plus a b) c ≡ k.plus a (k.plus b c)
  pub plus_comm : (a b : V) → k.plus a b ≡ k.plus b a
  pub plus_nothing : (a : V) → k.plus a k.nothing ≡ a
  pub total : (a b : V) → (k.at_most a b ≡ true) ⊎ (k.at_most b a ≡ true)
  pub transitive : (a b c : V) → k.at_most a b ≡ true → k.at_most b c ≡ true → k.at_most a c ≡ true
  pub antisymmetric : (a b : V) → k.at_most a b ≡ true → k.at_most b a ≡ true → a ≡ b
  pub nothing_least : (a : V) → k.at_most k.nothing a ≡ true
  -- a is at most b exactly when a + c is at most b + c
  pub cancels : (a b c : V) → k.at_most (k.plus a c) (k.plus b c) ≡ k.at_most a b
  pub weight_nothing : k.weight k.nothing ≡ 0
  pub weight_plus : (a b : V) → k.weight (k.plus a b) ≤ k.weight a + k.weight b
  -- an amount of weight at most 2^62 is read back from its words, and weighs as much as the larger one
  pub words_read : (a : V) → k.weight a ≤ 2 ^ 62 → k.of_words (k.words a) ≡ a
  pub words_weigh : (a : V) → k.weight a ≤ 2 ^ 62 → k.weight a ≡ max (k.words a).0 (k.words a).1
  -- any two words read as some amount, no heavier than the larger one
  pub read_weighs : (w : ℕ × ℕ) → k.weight (k.of_words w) ≤ max w.0 w.1
