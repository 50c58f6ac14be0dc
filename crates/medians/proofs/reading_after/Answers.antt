use Rattle.std.proofs.Common.{sym, ◌∙◌, rules, tests}
use Rattle.std.proofs.lemmas.Iterator.{YieldsList-from_slice, YieldsList-from_map}
use Rattle.std.proofs.lemmas.Iterator.Adapters.{option_map_id}
use Rattle.std.proofs.lemmas.Iterator.Consumers.{YieldsList-from_filter, YieldsList-at, nth_from_yields_List}
use Rattle.medians.specs.Walks.{in_segment_lem}
use Rattle.medians.proofs.reading_after.Goals as goal

pub returns : goal.returns
returns c = record {
  value =
      sym (option_map_id c.nth.result)
      ∙ nth_from_yields_List c.nth.result _ c.args.before c.nth.ensures.ran
      (YieldsList-from_map _ (λ p. p.reading)
      (YieldsList-at c.map.ensures.source
      (YieldsList-from_filter _ (λ p. in_segment_lem c.args.s c.args.t p.at) (YieldsList-at c.filter.ensures.source (YieldsList-from_slice c.args.places.now c.iter.ensures.rest)) c.filter.ensures.closure (λ x r q k. search (rules, tests))))
      c.map.ensures.closure (λ x r q k. search (rules, tests)));
}
