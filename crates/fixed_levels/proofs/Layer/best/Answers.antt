use Rattle.std.proofs.Common.{◌≡◌, ◌-◌, length, take, sym, ap, ◌∙◌, arith, rules}
use Rattle.std.proofs.lemmas.Iterator.{YieldsList-from_slice, YieldsList-from_map}
use Rattle.std.proofs.lemmas.Iterator.Adapters.{serves_from_places}
use Rattle.std.proofs.lemmas.Iterator.Consumers.{YieldsList-at, YieldsList-from_enumerate}
use Rattle.amounts.specs.Lawful.{whole_laws}
use Rattle.charges.proofs.Leveled.{best-within}
use Rattle.fixed_levels.specs.Fixed.{best, fixed_levels}
use Rattle.fixed_levels.proofs.Reducing.{folded_from_reduce}
use Rattle.fixed_levels.proofs.Choosing.{cheaper, choice, choice_of, chosen, number_item}
use Rattle.fixed_levels.proofs.Shows.{set-some, total_is}
use Rattle.fixed_levels.proofs.Layer.best.Goals as goal

pub reduce-requires-clause-can : goal.reduce-requires-clause-can
reduce-requires-clause-can c =
    let ls = take c.args.set.now.len c.args.set.now.levels in
    (search rules, serves_from_places (YieldsList-at c.map.ensures.source (YieldsList-from_enumerate (YieldsList-at c.enumerate.ensures.source (YieldsList-from_slice ls (c.iter.ensures.rest ∙ c.as_slice.ensures.value))) c.enumerate.ensures.count)) (λ x q r. search rules) (λ x k lt e. let n = number_item ls c.args.set.now.lawful (x.0, x.1.now) k lt e in search rules))

pub returns : goal.returns
returns c =
    let ls = take c.args.set.now.len c.args.set.now.levels in
    let u = c.args.self.now in
    let f = folded_from_reduce _ cheaper (λ a b r q k. search rules) c.reduce.result c.unwrap.result c.reduce.ensures.ran c.unwrap.ensures (YieldsList-from_map _ (choice_of u) (YieldsList-at c.map.ensures.source (YieldsList-from_enumerate (YieldsList-at c.enumerate.ensures.source (YieldsList-from_slice ls (c.iter.ensures.rest ∙ c.as_slice.ensures.value))) c.enumerate.ensures.count)) c.map.ensures.closure (λ x r q k. search rules)) in
    let some = set-some ls c.args.set.now.lawful in
    let r : c.unwrap.result ≡ choice ls u (best ls u) = chosen ls u some f.0 f.1 c.unwrap.result f.2 f.3 in
    record {
      level = ap (λ v. v.level) r;
      offered = omega (arith, ap (λ v. v.level) r, best-within whole_laws (fixed_levels ls) (length ls - 1) u, some);
      cost = ap (λ v. v.cost) r ∙ ap (λ v. v.number) (sym (total_is ls (best ls u) u));
    }
