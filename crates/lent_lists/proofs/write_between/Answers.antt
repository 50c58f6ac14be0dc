use Rattle.std.proofs.Common.{ap, ◌∙◌, ◌+◌, take, drop}
use Rattle.std.proofs.Math.ListN.{set}
use Rattle.lent_lists.proofs.Shifting.{shifted_elements, shifted_beyond}
use Rattle.lent_lists.proofs.write_between.Goals as goal

pub returns-clause-elements : goal.returns-clause-elements
returns-clause-elements g c = let a = c.args in ap (λ l. take (a.len + 1) (set l a.at a.element)) c.copy_within.ensures.after ∙ shifted_elements a.places.now a.at a.len a.element c.requires.within c.requires.room

pub returns-clause-beyond : goal.returns-clause-beyond
returns-clause-beyond g c k more = let a = c.args in ap (λ l. drop k (set l a.at a.element)) c.copy_within.ensures.after ∙ shifted_beyond a.places.now a.at a.len a.element c.requires.within c.requires.room k more
