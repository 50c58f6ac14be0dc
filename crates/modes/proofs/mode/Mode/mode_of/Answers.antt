use Rattle.std.proofs.Common.{◌-◌, take, drop, ap, ◌∙◌}
use Rattle.readings.specs.Symbols.{symbol_reading, all_symbols}
use Rattle.readings.proofs.Segments.{segment_passes}
use Rattle.modes.proofs.mode.Mode.mode_of.Goals as goal

pub mode_in-requires : goal.mode_in-requires
mode_in-requires c =
    let l = c.args.self.now.list in
    ap (λ u. all_symbols (take (c.args.t - c.args.s) (drop c.args.s u))) c.as_slice.ensures.elements
    ∙ segment_passes symbol_reading (take l.len l.places.now) c.args.s c.args.t c.args.self.now.symbols
