use Rattle.std.proofs.Common.{◌∙◌, pos, filter, rules, tests, of_calls, arith, w64, SFits}
use Rattle.std.proofs.lemmas.Int.{ints, to_z-of_z}
use Rattle.std.proofs.lemmas.Iterator.{YieldsList-from_slice, YieldsList-from_map}
use Rattle.std.proofs.lemmas.Iterator.Adapters.{serves_from_places, total_from_yields_List}
use Rattle.std.proofs.lemmas.Iterator.Consumers.{YieldsList-from_filter, YieldsList-from_enumerate, YieldsList-at}
use Rattle.std.proofs.iter.Serving.{serving}
use Rattle.medians.specs.Walks.{in_segment_lem, share}
use Rattle.medians.proofs.Walking.{number_turn, balance_fits, balance-shares}
use Rattle.medians.proofs.balance_of.Goals as goal

pub sum-requires-clause-can : goal.sum-requires-clause-can
sum-requires-clause-can c = (
  grind serving,
  serves_from_places
      (YieldsList-at c.map.ensures.source
      (YieldsList-from_enumerate
      (YieldsList-at c.enumerate.ensures.source
      (YieldsList-from_filter _ (λ p. in_segment_lem c.args.s c.args.t p.at) (YieldsList-at c.filter.ensures.source (YieldsList-from_slice c.args.places.now c.iter.ensures.rest)) c.filter.ensures.closure (λ x r q k. search (rules, tests))))
      c.enumerate.ensures.count))
      (λ x q k. search (rules, of_calls))
      (λ x k lt e. let h = number_turn c.args.s c.args.t c.args.places.now c.requires.numbers (x.0, x.1.now) k lt e in search (rules, h)),
)

pub sum-requires-clause-fits : goal.sum-requires-clause-fits
sum-requires-clause-fits c =
    balance_fits c.args.s c.args.t c.args.places.now c.requires.numbers c.args.low c.args.high c.requires.few
    (YieldsList-from_map _ (λ e. share c.args.low c.args.high e.0 e.1.reading)
    (YieldsList-at c.map.ensures.source
    (YieldsList-from_enumerate
    (YieldsList-at c.enumerate.ensures.source
    (YieldsList-from_filter _ (λ p. in_segment_lem c.args.s c.args.t p.at) (YieldsList-at c.filter.ensures.source (YieldsList-from_slice c.args.places.now c.iter.ensures.rest)) c.filter.ensures.closure (λ x r q k. search (rules, tests))))
    c.enumerate.ensures.count))
    c.map.ensures.closure (λ x r q k. search (rules, tests)))

pub returns : goal.returns
returns c =
    let fit : SFits w64 c.sum.result = search rules in
    let here = filter (λ p. in_segment_lem c.args.s c.args.t p.at) c.args.places.now in
    let total =
    total_from_yields_List _ (pos 0) c.sum.result c.sum.ensures.ran
    (YieldsList-from_map _ (λ e. share c.args.low c.args.high e.0 e.1.reading)
    (YieldsList-at c.map.ensures.source
    (YieldsList-from_enumerate
    (YieldsList-at c.enumerate.ensures.source
    (YieldsList-from_filter _ (λ p. in_segment_lem c.args.s c.args.t p.at) (YieldsList-at c.filter.ensures.source (YieldsList-from_slice c.args.places.now c.iter.ensures.rest)) c.filter.ensures.closure (λ x r q k. search (rules, tests))))
    c.enumerate.ensures.count))
    c.map.ensures.closure (λ x r q k. search (rules, tests))) in
    record { value = to_z-of_z w64 c.sum.result fit ∙ omega (arith, ints, total, balance-shares c.args.low c.args.high 0 (pos 0) here) }
