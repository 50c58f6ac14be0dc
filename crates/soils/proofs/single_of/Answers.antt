use Rattle.std.proofs.Common.{rules, ◌≡◌, ◌*◌, ◌%◌, ◌^◌, ap, ◌∙◌, nat_abs, to_z, of_z, w64}
use Rattle.soils.specs.Sets.{symbols, single, symbol_of}
use Rattle.soils.proofs.Singles.{symbol_single}
use Rattle.soils.proofs.single_of.Goals as goal

pub returns-clause-symbol : goal.returns-clause-symbol
returns-clause-symbol c =
    let x = c.args.reading in
    let is : symbols (1 * 2 ^ nat_abs (to_z w64 (of_z w64 x)) % 4294967296) ≡ single x = search rules in
    ap symbol_of is ∙ symbol_single x c.requires.symbol
