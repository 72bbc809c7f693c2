use Rattle.std.proofs.Common.{◌≡◌, sym, ap, arith}
use Rattle.astc_model.specs.Levels.{count_of}
use Rattle.colour_bounds.proofs.ValueLaws.{whole_value}
use Rattle.colour_bounds.proofs.part_scan.value_of.Goals as goal

pub returns-in-TwoFiftySix : goal.returns-in-TwoFiftySix
returns-in-TwoFiftySix c =
    let whole : count_of c.args.level ≡ 256 = ap count_of c.in-TwoFiftySix.is in
    sym (whole_value c.args.level c.args.integer whole (omega (arith, c.requires.range, whole)))
