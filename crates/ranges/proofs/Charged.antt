-- What a range charge holds and tells, from what its table holds.
use Rattle.std.proofs.Common.{◌≡◌, ℕ, ◌≤◌, true, List, length, take, Result, refl}
use Rattle.std.specs.Prelude.{IfOk}
use Rattle.charges.specs.Rules.{Held}
use Rattle.charges.specs.Told.{segment_told}
use Rattle.charges.specs.declared.Refusal.{Refusal}
use Rattle.charges.proofs.Lawful.{pass_from_all}
use Rattle.readings.specs.Numbers.{number_reading}
use Rattle.readings.proofs.Segments.{segment_has}
use Rattle.spans.specs.Joinings.{joined_told}
use Rattle.spans.specs.Rows.{cells_for}
use Rattle.spans.proofs.Kept.{held_kept, layer, told_kept, told_has}
use Rattle.ranges.specs.declared.extent.Extent.{Extent}
use Rattle.ranges.specs.Ranges.{lowest, highest, range_rules}
use Rattle.ranges.specs.Extents.{extent, hull, point, all_points, held_in}
use Rattle.ranges.proofs.Extents.{low_of, points_are, points_numbers, joining_readings, number_ends}

module _ (capacity count : ℕ) (cells : List Extent) (few : count ≤ capacity) (small : capacity ≤ 1024) (room : cells_for capacity ≤ length cells) (points : all_points (take count cells) ≡ true) where
  pub held_is : Held (range_rules capacity) (held_in cells count)
  held_is = held_kept low_of capacity count cells few small room (range_rules capacity) refl (pass_from_all number_reading (held_in cells count) (points_numbers (take count cells) points))

  module _ (s t : ℕ) where
    pub told : joined_told hull (take count cells) s t ≡ segment_told (λ u. extent (lowest u) (highest u)) (held_in cells count) s t
    told = told_kept low_of capacity count cells few small room s t point hull (λ u. extent (lowest u) (highest u)) (points_are (take count cells) points) (joining_readings (layer low_of capacity count cells few small room s t))

    pub ends_numbers : (r : Result Extent Refusal) → r ≡ segment_told (λ u. extent (lowest u) (highest u)) (held_in cells count) s t → IfOk r (λ e. (number_reading e.low ≡ true) × (number_reading e.high ≡ true))
    ends_numbers =
        told_has low_of capacity count cells few small room s t (λ u. extent (lowest u) (highest u)) (λ e. (number_reading e.low ≡ true) × (number_reading e.high ≡ true))
        (λ some. number_ends _ some (segment_has _ (held_in cells count) s t (points_numbers (take count cells) points)))
