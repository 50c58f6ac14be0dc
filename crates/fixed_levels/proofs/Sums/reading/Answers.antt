use Rattle.std.proofs.Common.{◌≡◌, true, length, get_or, pos, sym, ap, ◌∙◌, arith, w64, SFits, rules}
use Rattle.std.proofs.ByRecursion.{All-get_or}
use Rattle.std.proofs.lemmas.Int.{to_z-of_z}
use Rattle.std.proofs.lemmas.List.{length-map, get_or-map}
use Rattle.charges.proofs.Lawful.{all_from_pass}
use Rattle.readings.specs.Numbers.{number_reading}
use Rattle.fixed_levels.specs.Sums.{readings_of}
use Rattle.fixed_levels.proofs.Sums.reading.Goals as goal

pub returns : goal.returns
returns c =
    let all = c.args.self.now in
    let h = readings_of all.places.now in
    let i = c.args.place in
    let p = get_or all.places.now i (record { reading = pos 0; sum = pos 0; squares = 0 }) in
    let fit : SFits w64 p.reading = search rules in
    let value = to_z-of_z w64 p.reading fit ∙ sym (get_or-map (λ q. q.reading) all.places.now i _ (pos 0) c.requires.within) in
    let n : length h ≡ length all.places.now = length-map all.places.now (λ q. q.reading) in
    record { value = value; number = ap number_reading value ∙ All-get_or (λ x. number_reading x ≡ true) h i (pos 0) (omega arith) (all_from_pass number_reading h all.numbers) }
