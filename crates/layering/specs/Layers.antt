-- The line of one layer in a report, and the whole hole as one layer.
use Rattle.std.specs.Prelude.{ℕ, cond, List, ◌++◌, length, ℤ, Ok, Err, codes, decimal, Result, ◌==◌}
use Rattle.std.specs.Fmt.{signed_decimal}
use Rattle.amounts.specs.declared.Whole.{Whole}
use Rattle.charges.specs.Rules.{Rules}
use Rattle.charges.specs.declared.Refusal.{Refusal}
use Rattle.charges.specs.declared.Refusal.TheVariants.{Outside}
use Rattle.layering.specs.declared.layer.Layer.{Layer}

-- first reading counted from 1, last reading, level, fee
abbrev pub layer_line : Layer → List ℕ
layer_line l = decimal l.first ++ (codes " " ++ (decimal l.last ++ (codes " " ++ (signed_decimal l.level ++ (codes " " ++ decimal l.fee)))))

abbrev pub layer_of_lem : Rules Whole → (List ℤ → ℤ) → List ℤ → Layer
layer_of_lem r leveling h = record { first = 1; last = length h; level = leveling h; fee = (r.fee h).number }

-- the readings held as one layer, or a refusal where there is none
abbrev pub whole_hole : Rules Whole → (List ℤ → ℤ) → List ℤ → Result Layer Refusal
whole_hole r leveling h = cond (length h == 0) (Err Outside) (Ok (layer_of_lem r leveling h))
