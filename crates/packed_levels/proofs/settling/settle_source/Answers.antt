use Rattle.std.proofs.Common.{◌≡◌, ◌∙◌, ◌∷◌, [], subst, sym, ap}
use Rattle.encoder.specs.Shown.{shown_block}
use Rattle.packed_levels.specs.Settling.{IsSettledFor}
use Rattle.packed_levels.specs.Settled.{proposed_at, way_by}
use Rattle.packed_levels.proofs.SettledLaws.{proposed-one, proposed-none}
use Rattle.packed_levels.proofs.settling.settle_source.Goals as goal

pub returns-in-Some-clause-settled : goal.returns-in-Some-clause-settled
returns-in-Some-clause-settled g c =
    let way = way_by g.row.W g.row.H c.args.encoder.now in
    let found = c.in-Some.ensures.lookup in
    let one : proposed_at way c.args.others.now c.args.number ≡ c.shown_block.result ∷ [] =
    proposed-one way c.args.others.now c.args.number c.in-Some.bytes.now found.3.0
    ∙ ap (λ bytes. shown_block g.row.W g.row.H bytes ∷ []) (sym found.1)
    ∙ ap (λ block. block ∷ []) (sym c.shown_block.ensures.exact) in
    subst (λ proposals. IsSettledFor way c.args.source.now proposals c.settle.result.0
    c.settle.result.1) (sym one) c.settle.ensures.settled

pub returns-in-None-clause-settled : goal.returns-in-None-clause-settled
returns-in-None-clause-settled g c =
    let way = way_by g.row.W g.row.H c.args.encoder.now in
    subst (λ proposals. IsSettledFor way c.args.source.now proposals c.settle-in-None.result.0
    c.settle-in-None.result.1)
    (sym (proposed-none way c.args.others.now c.args.number c.in-None.ensures.lookup.3))
    c.settle-in-None.ensures.settled
