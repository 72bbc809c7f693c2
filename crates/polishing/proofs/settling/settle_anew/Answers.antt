use Rattle.std.proofs.Common.{ap, sym, ◌∙◌, subst}
use Rattle.images.specs.Chains.{chain_of}
use Rattle.pam_image.specs.Reading.{IsWanted}
use Rattle.astc_audit.specs.Audits.{settings_for}
use Rattle.astc_audit.specs.Ends.{want_of}
use Rattle.polishing.specs.Steps.{inputs_of}
use Rattle.packed_levels.proofs.SourceLaws.{chain-levels}
use Rattle.polishing.proofs.PolishLaws.{all-polished}
use Rattle.polishing.proofs.settling.settle_anew.Goals as goal

pub settle_range-requires-clause-levels : goal.settle_range-requires-clause-levels
settle_range-requires-clause-levels c =
    let wanted = subst (λ s. IsWanted (want_of s) c.args.images) (sym c.layout-layout.ensures)
    c.requires.wanted in
    chain-levels c.layout-layout.result c.args.images c.deref.result.now c.requires.images
    wanted.sides.0 wanted.sides.1 wanted.count
    (c.deref.ensures.value ∙ c.in_ok-levels.ensures.levels
    ∙ ap (chain_of c.args.images) c.levels.ensures.exact)

pub returns : goal.returns
returns c =
    let done = c.in_ok-settle_range in
    let job = c.args.job.now in
    all-polished job (inputs_of c.args.ktx.now c.args.images) c.layout-layout.result
    c.settings_for-settings.result c.deref.result.now c.blocks-2.result.now
    done.field-0.blocks.items done.field-0.errors.items c.all_blocks.result
    c.layout-layout.ensures (c.settings_for-settings.ensures
    ∙ ap (λ s. settings_for job s.flavour) c.shape.ensures.same)
    (c.deref.ensures.value ∙ c.in_ok-levels.ensures.levels
    ∙ ap (chain_of c.args.images) c.levels.ensures.exact) c.blocks-2.ensures.same
    c.all_blocks.ensures.exact c.blocks-2.ensures.full done.ensures.settled done.ensures.full
