use Rattle.std.proofs.Common.{◌∙◌, List, ap, refl}
use Rattle.images.specs.Pictures.{Pictures}
use Rattle.images.specs.Chains.{chain_of}
use Rattle.packed_levels.specs.Packed.{PacksLevels, BeginsPacked}
use Rattle.packing.specs.Packed.{Packs, BeginsPack, shape_of, options_of}
use Rattle.outcomes.proofs.EndLaws.{ends-read_as}
use Rattle.packed_levels.proofs.SourceLaws.{chain-levels}
use Rattle.packing.proofs.command.pack_images.Goals as goal

pub pack_levels-requires-clause-levels : goal.pack_levels-requires-clause-levels
pack_levels-requires-clause-levels g c =
    rw (c.shape-shape.ensures.same ∙ c.layout_of.ensures)
    (chain-levels (shape_of c.args.job.now c.args.images) c.args.images c.deref.result.now
    c.requires.images refl refl c.requires.wanted.count
    (c.deref.ensures.value ∙ c.in-Ok.ensures.levels ∙ ap (λ s. chain_of c.args.images s.levels)
    (c.shape-shape.ensures.same ∙ c.layout_of.ensures)))

pub returns-in-Ok-clause-ends : goal.returns-in-Ok-clause-ends
returns-in-Ok-clause-ends g c =
    let shape = shape_of c.args.job.now c.args.images in
    let levels : List Pictures = chain_of c.args.images shape.levels in
    let ends = rw (
      c.deref.ensures.value,
      c.in-Ok.ensures.levels,
      (c.shape-shape.ensures.same
          ∙ c.layout_of.ensures),
    ) at c.pack_levels.ensures.ends in
    ends-read_as (PacksLevels shape (options_of c.args.job.now c.args.pool.now.fits) _ _)
    (BeginsPacked shape (options_of c.args.job.now c.args.pool.now.fits))
    (Packs c.args.job.now c.args.pool.now.fits _ _) (BeginsPack c.args.job.now c.args.pool.now.fits)
    levels c.args.images c.args.output.now _ _ c.pack_levels.result
    (λ file lines made. made) (λ k file begun. begun) ends
