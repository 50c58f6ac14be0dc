use Rattle.std.proofs.Common.{rules}
use Rattle.std.proofs.lemmas.List.Sorted.{answers_always}
use lib.Signed.{lt_z}
use Rattle.level_sets.proofs.Rising.{adjacent_rise}
use Rattle.level_sets.proofs.all_rise.Goals as goal

pub returns : goal.returns
returns c = record { value = adjacent_rise c.args.levels.now c.is_sorted_by.result (c.is_sorted_by.ensures.cases lt_z (answers_always _ _ _ (λ f a r g h. search rules))) }
