use Rattle.std.proofs.Common.{◌∙◌, ap}
use Rattle.astc_model.specs.Shapes.{taken_bits, greatest_fit}
use Rattle.block_mode.proofs.LevelLaws.{if-greatest_fit, is-greatest_fit}
use Rattle.block_mode.proofs.colours.colour_level.Goals as goal

pub returns-clause-greatest : goal.returns-clause-greatest
returns-clause-greatest c =
    if-greatest_fit (taken_bits c.args.mode.now c.args.parts c.args.selector) c.args.integers
    c.greatest_level.result
    (c.greatest_level.ensures
    ∙ ap (λ taken. greatest_fit taken c.args.integers) c.bits_beside_colours.ensures.taken)

pub returns-clause-none : goal.returns-clause-none
returns-clause-none c =
    is-greatest_fit (taken_bits c.args.mode.now c.args.parts c.args.selector) c.args.integers
    c.greatest_level.result
    (c.greatest_level.ensures
    ∙ ap (λ taken. greatest_fit taken c.args.integers) c.bits_beside_colours.ensures.taken)
