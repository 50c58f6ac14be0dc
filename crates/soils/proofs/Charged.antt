-- What a soils charge holds and tells, from what its table holds.
use Rattle.std.proofs.Common.{◌≡◌, ℕ, ◌≤◌, true, List, length, take, Result, refl}
use lib.Count.{ones}
use Rattle.std.specs.Prelude.{IfOk}
use Rattle.charges.specs.Rules.{Held, segment}
use Rattle.charges.specs.Told.{segment_told}
use Rattle.charges.specs.declared.Refusal.{Refusal}
use Rattle.charges.proofs.Lawful.{pass_from_all}
use Rattle.readings.specs.Symbols.{symbol_reading}
use Rattle.readings.proofs.Segments.{segment_has}
use Rattle.spans.specs.Joinings.{joined_told}
use Rattle.spans.specs.Rows.{cells_for}
use Rattle.spans.proofs.Kept.{held_kept, layer, told_kept, told_has}
use Rattle.soils.specs.declared.symbols.Symbols.{Symbols}
use Rattle.soils.specs.Soils.{different, set_of, soils_rules}
use Rattle.soils.specs.Sets.{symbols, union, single, symbol_of, all_single, held_in}
use Rattle.soils.proofs.Counts.{ones_different}
use Rattle.soils.proofs.Singles.{singles_are, singles_symbols, joining_readings}

module _ (capacity count : ℕ) (cells : List Symbols) (few : count ≤ capacity) (small : capacity ≤ 1024) (room : cells_for capacity ≤ length cells) (singles : all_single (take count cells) ≡ true) where
  pub held_is : Held (soils_rules capacity) (held_in cells count)
  held_is = held_kept symbol_of capacity count cells few small room (soils_rules capacity) refl (pass_from_all symbol_reading (held_in cells count) (singles_symbols (take count cells) singles))

  module _ (s t : ℕ) where
    pub told : joined_told union (take count cells) s t ≡ segment_told (λ u. symbols (set_of u)) (held_in cells count) s t
    told =
        told_kept symbol_of capacity count cells few small room s t single union (λ u. symbols (set_of u)) (singles_are (take count cells) singles)
        (λ some. joining_readings (layer symbol_of capacity count cells few small room s t) some (segment_has _ (held_in cells count) s t (singles_symbols (take count cells) singles)))

    pub found_kinds : (r : Result Symbols Refusal) → r ≡ segment_told (λ u. symbols (set_of u)) (held_in cells count) s t → IfOk r (λ f. ones f.bits ≡ different (segment (held_in cells count) s t))
    found_kinds =
        told_has symbol_of capacity count cells few small room s t (λ u. symbols (set_of u)) (λ f. ones f.bits ≡ different (segment (held_in cells count) s t)) (λ _. ones_different 32 (segment (held_in cells count) s t))
