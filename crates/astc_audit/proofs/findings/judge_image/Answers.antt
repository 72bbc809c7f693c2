use Rattle.std.proofs.Common.{◌≡◌, ◌+◌, ◌-◌, length, take, drop, ◌∙◌, arith, subst}
use Rattle.std.proofs.lemmas.List.{get_or_default}
use Rattle.texture.specs.Shapes.{image_count}
use Rattle.astc_audit.specs.Audits.{IsAudited}
use Rattle.astc_audit.proofs.ImageLaws.{cut-counted, image-audited, image-small}
use Rattle.astc_audit.proofs.findings.judge_image.Given.{Over}
use Rattle.astc_audit.proofs.findings.judge_image.Goals as goal
use Rattle.astc_audit.proofs.findings.judge_image.Goals.{After-judge_blocks}

-- as many blocks were judged as the image has
counted : (g : Over) (c : After-judge_blocks g)
    → length (take (c.first_block-first.result + c.image_blocks-count.result
    - c.first_block-first.result)
    (drop c.first_block-first.result c.blocks-2.result.now)) ≡ c.image_blocks-count.result
counted g c =
    let within = rw c.layout-layout.ensures at c.first_block-first.ensures.within in
    let count = rw c.layout-layout.ensures at c.image_blocks-count.ensures.exact in
    cut-counted c.first_block-first.result c.image_blocks-count.result c.blocks-2.result.now
    (omega (arith, within, count, c.blocks-2.ensures.full.count))

pub returns-clause-audited : goal.returns-clause-audited
returns-clause-audited g c = λ d.
    let file = c.args.ktx.now in
    let encoder = c.args.encoder.now in
    let place = c.args.at in
    let all : c.first_block-first.result + c.image_blocks-count.result - c.first_block-first.result
    ≡ c.image_blocks-count.result = omega arith in
    let judged =
    rw (
      counted g c,
      all,
      c.first_block-first.ensures.exact,
      c.image_blocks-count.ensures.exact,
      c.columns.ensures.exact,
      c.shape.ensures.same,
      c.layout-layout.ensures,
      c.blocks-2.ensures.same,
      c.requires.flavour,
    ) at c.judge_blocks.ensures.judged
    in
    subst (λ images. IsAudited file images encoder.preset encoder.weights place
    c.judge_blocks.result) (c.index-levels-at.is
    ∙ get_or_default c.args.levels.now place.level _ d
    (omega (arith, c.requires.levels.count, c.requires.place.level)))
    (image-audited file c.index-levels-at.result encoder.preset encoder.weights place g.row.W
    g.row.H c.requires.sides c.judge_blocks.result judged)

pub returns-clause-small : goal.returns-clause-small
returns-clause-small g c =
    image-small (image_count c.args.ktx.now.shape) c.image_blocks-count.result
    c.judge_blocks.result.error (rw (counted g c) at c.judge_blocks.ensures.small)
    (rw c.layout-layout.ensures at c.image_blocks-count.ensures.all)
