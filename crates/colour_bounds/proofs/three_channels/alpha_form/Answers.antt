use Rattle.std.proofs.Common.{◌∙◌}
use Rattle.colour_bounds.proofs.ThreeChannelsLaws.{alone_more}
use Rattle.colour_bounds.proofs.three_channels.alpha_form.Goals as goal

pub returns-clause-more : goal.returns-clause-more
returns-clause-more c =
    rw (c.new.ensures, c.new-2.ensures, c.new-3.ensures) at c.form_of.ensures.more
    ∙ alone_more _ _ _ _ _ _ _ _ _ _
