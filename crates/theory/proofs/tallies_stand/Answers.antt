use Rattle.theory.proofs.Tallies.{tallied, plain_tallied}
use Rattle.theory.proofs.tallies_stand.Goals as goal

pub returns : goal.returns
returns c = record { any = λ keep. tallied keep; plain = plain_tallied }
