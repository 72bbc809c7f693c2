use Rattle.std.proofs.Common.{◌∙◌}
use Rattle.packed_levels.specs.Packed.{PacksLevels, BeginsPacked}
use Rattle.packing.specs.Packed.{options_of}
use Rattle.outcomes.proofs.EndLaws.{ends-read_as}
use Rattle.packing.specs.SourcePacked.{PacksSource, BeginsSourcePack, shape_of}
use Rattle.packing.proofs.source.pack_stored.Goals as goal

pub returns-clause-ends : goal.returns-clause-ends
returns-clause-ends g c =
    let source = c.args.source.now in
    let shape = shape_of c.args.job.now source in
    let ends = rw (c.levels.ensures.same, (c.shape-shape.ensures.same ∙ c.layout_of.ensures))
    at c.pack_levels.ensures.ends in
    ends-read_as (PacksLevels shape (options_of c.args.job.now c.args.pool.now.fits) _ _)
    (BeginsPacked shape (options_of c.args.job.now c.args.pool.now.fits))
    (PacksSource c.args.job.now c.args.pool.now.fits _ _)
    (BeginsSourcePack c.args.job.now c.args.pool.now.fits)
    source.levels source c.args.output.now _ _ c.pack_levels.result
    (λ file lines made. made) (λ k file begun. begun) ends
