use Rattle.std.proofs.Common.{rules}
use Rattle.std.proofs.lemmas.List.Sorted.{IsPartitionPoint-from_clause}
use Rattle.medians.proofs.Walking.{below, below_first, rank_from_point}
use Rattle.medians.proofs.rank_of.Goals as goal

pub returns : goal.returns
returns c =
    let ps = c.args.places.now in
    let x = c.args.reading in
    let parted = below_first ps x c.requires.order in
    let point = IsPartitionPoint-from_clause (below x) ps _ c.partition_point.ensures.partitioned parted (λ a r q k. search rules) in
    record { value = rank_from_point ps x _ c.partition_point.ensures.bound point }
