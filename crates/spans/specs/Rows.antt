-- How a span table keeps its elements.
--   row: as many cells as the capacity; row k has the cells from k * capacity on. Row 0 holds the elements.
--   span: elements that follow each other, as many as a power of two. Cell e of row k holds the joining of the 2^k that end at e.
use Rattle.std.specs.Prelude.{◌≡◌, ℕ, zero, suc, ◌+◌, ◌-◌, ◌*◌, ◌/◌, ◌%◌, ◌^◌, ◌<◌, ◌≤◌, Bool, cond, ◌&&◌, List, length, take, is_ok, Some, Ok, Err, Option, Result, ◌==◌, nat_le, nat_lt}
use Rattle.std.specs.Coded.{Coded, Coded-set, coded_option}
use Rattle.std.specs.List.{between, slice_get}
use Rattle.charges.specs.declared.Refusal.{Refusal}
use Rattle.charges.specs.declared.Refusal.TheVariants.{Full, Outside}
use Rattle.readings.specs.Makings.{making_told}
use Rattle.spans.specs.Joinings.{both, joining, ok_of}

-- how many of the first n powers of two, 2^0 to 2^(n - 1), are not above c
unfoldable pub powers_upto : ℕ → ℕ → ℕ
powers_upto c zero = 0
powers_upto c (suc n) = powers_upto c n + cond (nat_le (2 ^ n) c) 1 0

-- a row for each power of two not above the capacity c; 2^c is above c already
abbrev pub row_count : ℕ → ℕ
row_count c = powers_upto c c

-- how many cells the capacity needs
abbrev pub cells_for : ℕ → ℕ
cells_for c = c * row_count c

-- the cell with a number, if there is one
abbrev pub cell : {T : Type 0} → List T → ℕ → Option T
cell cells i = slice_get cells i

-- the joining of the 2^k elements that end at e
abbrev pub span : {T : Type 0} → (T → T → T) → List T → ℕ → ℕ → Option T
span join elements k e = joining join (between (e + 1 - 2 ^ k) (e + 1) elements)

-- every span of the n elements that is kept is their joining
abbrev pub Built : {T : Type 0} → (T → T → T) → ℕ → ℕ → List T → Type 0
Built join c n cells = (k e : ℕ) → 2 ^ k ≤ e + 1 → e < n → cell cells (k * c + e) ≡ span join (take n cells) k e

-- it has at most one proof, so a struct can carry it as it is
pub Built-prop : {T : Type 0} → Coded T → (join : T → T → T) (c n : ℕ) (cells : List T) → IsProp (Built join c n cells)
Built-prop code join c n cells = hlevel (Coded-set (coded_option code))

-- a push onto n elements writes one cell of each row that has a span ending at the new one
abbrev pub written : ℕ → ℕ → ℕ → Bool
written c n i = i % c == n && nat_le (2 ^ (i / c)) (n + 1)

-- what a push of x works out for row k: x itself, and then the span before it joined with what was worked out for the row before
unfoldable pub new_span : {T : Type 0} → (T → T → T) → ℕ → ℕ → List T → T → ℕ → Option T
new_span join c n cells x zero = Some x
new_span join c n cells x (suc k) = both join (cell cells (k * c + n - 2 ^ k)) (new_span join c n cells x k)

-- what cell i holds after x was pushed onto n elements
abbrev pub pushed_cell : {T : Type 0} → (T → T → T) → ℕ → ℕ → List T → T → ℕ → Option T
pushed_cell join c n cells x i = cond (written c n i) (new_span join c n cells x (i / c)) (cell cells i)

-- as many cells as the capacity needs, for a capacity from 1 to 1,024
abbrev pub ready : {T : Type 0} → ℕ → List T → Bool
ready c cells = is_ok (making_told c (cells_for c) (length cells))

abbrev pub push_told : {T : Type 0} → ℕ → ℕ → List T → Result (Unit {0}) Refusal
push_told c n cells = cond (ready c cells && nat_lt n c) (Ok tt) (Err Full)

-- what a push onto n elements answers
abbrev pub full_told : ℕ → ℕ → Result (Unit {0}) Refusal
full_told c n = cond (nat_le c n) (Err Full) (Ok tt)

-- the two spans of one row, as long as fit, from s on and up to t - 1, joined
abbrev pub joined_cells_lem : {T : Type 0} → (T → T → T) → ℕ → List T → ℕ → ℕ → Option T
joined_cells_lem join c cells s t = let k = row_count (t - s) - 1 in both join (cell cells (k * c + (s + 2 ^ k - 1))) (cell cells (k * c + (t - 1)))

abbrev pub joined_cells_told : {T : Type 0} → (T → T → T) → ℕ → List T → ℕ → ℕ → Result T Refusal
joined_cells_told join c cells s t = cond (ready c cells && (nat_lt s t && nat_le t c)) (ok_of (joined_cells_lem join c cells s t)) (Err Outside)
