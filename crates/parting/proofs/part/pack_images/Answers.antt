use Rattle.std.proofs.Common.{◌∙◌, List, ap, refl}
use Rattle.images.specs.Pictures.{Pictures}
use Rattle.images.specs.Chains.{chain_of}
use Rattle.packing.specs.Packed.{shape_of}
use Rattle.packed_levels.proofs.SourceLaws.{chain-levels}
use Rattle.outcomes.proofs.EndLaws.{ends-read_as}
use Rattle.parting.specs.Parts.{SettlesPart, BeginsSettled, MakesPart, BeginsPart}
use Rattle.parting.proofs.part.pack_images.Goals as goal

pub pack_levels-requires-clause-levels : goal.pack_levels-requires-clause-levels
pack_levels-requires-clause-levels g c =
    rw c.layout_of-layout.ensures
    (chain-levels (shape_of c.args.job.now.pack c.args.images) c.args.images c.deref.result.now
    c.requires.images refl refl c.requires.wanted.count
    (c.deref.ensures.value ∙ c.in-Ok.ensures.levels
    ∙ ap (chain_of c.args.images) (c.levels.ensures.exact
    ∙ ap (λ s. s.levels) c.layout_of-layout.ensures)))

pub returns-in-Ok-clause-ends : goal.returns-in-Ok-clause-ends
returns-in-Ok-clause-ends g c =
    let job = c.args.job.now in
    let shape = shape_of job.pack c.args.images in
    let levels : List Pictures = chain_of c.args.images shape.levels in
    let ends = rw (
      c.deref.ensures.value,
      c.in-Ok.ensures.levels,
      c.levels.ensures.exact,
      c.layout_of-layout.ensures,
    ) at c.pack_levels.ensures.ends in
    ends-read_as (SettlesPart job shape) (BeginsSettled job shape) (MakesPart job)
    (BeginsPart job) levels c.args.images c.args.output.now _ _ c.pack_levels.result
    (λ file lines made. made) (λ k file begun. begun) ends
