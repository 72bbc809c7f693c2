use Rattle.std.proofs.Common.{sym, ◌∙◌}
use Rattle.colour_bounds.proofs.ThreeChannelsLaws.{first_more, first_less, second_more, second_less, with_alpha, with_alpha_exchanged}
use Rattle.colour_bounds.proofs.three_channels.three_channels.Goals as goal

pub returns-then-place-eq1-clause-more : goal.returns-then-place-eq1-clause-more
returns-then-place-eq1-clause-more c = λ r g b.
    with_alpha _ _ _ _ _ _ _ _ _ _ _ (c.together.ensures.more r g b)
    (c.one_channel-red.ensures.more r _) (c.one_channel-green.ensures.more g _)
    (c.one_channel-blue.ensures.more b _) c.alpha_form.ensures.more c.new.ensures.more
    c.new-2.ensures.more
    ∙ sym (first_more c.args.tables.now c.args.floor.now c.args.place r g b c.args.ends.now
    c.if-place-eq1.true)

pub returns-then-place-eq1-clause-less : goal.returns-then-place-eq1-clause-less
returns-then-place-eq1-clause-less c = λ r g b.
    with_alpha _ _ _ _ _ _ _ _ _ _ _ (c.together.ensures.less r g b)
    (c.one_channel-red.ensures.less r _) (c.one_channel-green.ensures.less g _)
    (c.one_channel-blue.ensures.less b _) c.alpha_form.ensures.less c.new.ensures.less
    c.new-2.ensures.less
    ∙ sym (first_less c.args.tables.now c.args.floor.now c.args.place r g b c.args.ends.now
    c.if-place-eq1.true)

pub returns-else-place-eq1-clause-more : goal.returns-else-place-eq1-clause-more
returns-else-place-eq1-clause-more c = λ r g b.
    with_alpha_exchanged _ _ _ _ _ _ _ _ _ _ _ _ _ _ (c.together-else-place-eq1.ensures.more r g b)
    (c.exchanged.ensures.more r _) (c.exchanged-else-place-eq1.ensures.more g _)
    (c.exchanged-else-place-eq1-2.ensures.more b _) (c.one_channel-red.ensures.more _ r)
    (c.one_channel-green.ensures.more _ g) (c.one_channel-blue.ensures.more _ b)
    c.alpha_form.ensures.more c.new.ensures.more c.new-2.ensures.more
    ∙ sym (second_more c.args.tables.now c.args.floor.now c.args.place r g b c.args.ends.now
    c.if-place-eq1.false)

pub returns-else-place-eq1-clause-less : goal.returns-else-place-eq1-clause-less
returns-else-place-eq1-clause-less c = λ r g b.
    with_alpha_exchanged _ _ _ _ _ _ _ _ _ _ _ _ _ _ (c.together-else-place-eq1.ensures.less r g b)
    (c.exchanged.ensures.less r _) (c.exchanged-else-place-eq1.ensures.less g _)
    (c.exchanged-else-place-eq1-2.ensures.less b _) (c.one_channel-red.ensures.less _ r)
    (c.one_channel-green.ensures.less _ g) (c.one_channel-blue.ensures.less _ b)
    c.alpha_form.ensures.less c.new.ensures.less c.new-2.ensures.less
    ∙ sym (second_less c.args.tables.now c.args.floor.now c.args.place r g b c.args.ends.now
    c.if-place-eq1.false)
