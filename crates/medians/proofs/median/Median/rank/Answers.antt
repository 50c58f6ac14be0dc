use Rattle.std.proofs.Common.{◌≡◌, ◌≤◌, ◌++◌, ◌∷◌, [], take, true, is_ok, ap, ◌∙◌, arith, rules, w64, to_z, of_z}
use Rattle.std.proofs.lemmas.Int.{to_z-of_z}
use Rattle.medians.specs.Ranks.{rank, readings_of}
use Rattle.medians.proofs.Ranking.{rank-within}
use Rattle.medians.proofs.Charged.{put_held}
use Rattle.medians.proofs.median.Median.rank.Goals as goal

pub returns-clause-held : goal.returns-clause-held
returns-clause-held c =
    let m = c.args.self.now in
    let ps = take m.list.len m.list.places.now in
    let x = to_z w64 (of_z w64 c.args.reading) in
    let at = c.rank_of-rank.ensures.value ∙ ap (rank x) c.as_slice.ensures.elements in
    let within : c.rank_of-rank.result ≤ m.list.len = omega (arith, rank-within x ps, c.len-at.ensures.value, c.len-at.ensures.same) in
    let fine : is_ok c.insert.result ≡ true = search rules in
    ap (λ k. readings_of (take k c.insert.new.self.places.now)) (c.insert.ensures.len fine)
    ∙ (ap readings_of (c.insert.ensures.elements fine)
    ∙ (put_held ps c.rank_of-rank.result c.len-at.result x m.order at c.len-at.ensures.value
    ∙ ap (λ y. readings_of ps ++ (y ∷ [])) (to_z-of_z w64 c.args.reading c.ranges.reading)))
