use Rattle.std.proofs.Common.{◌*◌}
use Rattle.astc_model.specs.Places.{channel}
use Rattle.moments.specs.Floors.{factor_of}
use Rattle.error_tables.specs.Floors.{widening_of}
use Rattle.error_tables.proofs.RowLaws.{four_floors}
use Rattle.error_tables.proofs.row_floors.least_with_first.Goals as goal

pub returns : goal.returns
returns c = λ second forms.
    four_floors _ _ _ _ _ _ _ _ _ _ _ _
    (c.least_of_channel.ensures.floor
    (factor_of (widening_of c.args.tables.now.decoded.flavour 0) * channel 0 second)
    forms.red_form)
    (c.least_of_channel-2.ensures.floor
    (factor_of (widening_of c.args.tables.now.decoded.flavour 1) * channel 1 second)
    forms.green_form)
    (c.least_of_channel-3.ensures.floor
    (factor_of (widening_of c.args.tables.now.decoded.flavour 2) * channel 2 second)
    forms.blue_form)
    (c.least_of_channel-4.ensures.floor
    (factor_of (widening_of c.args.tables.now.decoded.flavour 3) * channel 3 second)
    forms.alpha_form)
