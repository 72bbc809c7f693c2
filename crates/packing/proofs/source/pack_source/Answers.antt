use Rattle.std.proofs.Common.{refl}
use Rattle.ktx_source.specs.Sources.{source_of}
use Rattle.outcomes.specs.Outcomes.{source_fault_of}
use Rattle.outcomes.proofs.EndLaws.{complete, after-reading, reads-ends}
use Rattle.packing.specs.SourcePacked.{PacksSource, BeginsSourcePack}
use Rattle.packing.proofs.source.pack_source.Goals as goal

pub returns-in-Ok-clause-ends : goal.returns-in-Ok-clause-ends
returns-in-Ok-clause-ends g c =
    complete source_of (PacksSource c.args.job.now c.args.pool.now.fits _ _)
    (BeginsSourcePack c.args.job.now c.args.pool.now.fits) c.args.input.now c.args.output.now _ _
    source_fault_of c.pack_stored.result
    (reads-ends source_of source_fault_of refl refl refl refl
    (PacksSource c.args.job.now c.args.pool.now.fits _ _)
    (BeginsSourcePack c.args.job.now c.args.pool.now.fits)
    c.in-Ok.source c.args.input.now c.args.output.now _ _ c.pack_stored.result
    c.in-Ok.ensures.loads
    (after-reading (PacksSource c.args.job.now c.args.pool.now.fits _ _)
    (BeginsSourcePack c.args.job.now c.args.pool.now.fits) c.in-Ok.source c.args.output.now
    _ _ _ c.pack_stored.result
    (rw (c.load.ensures.rest.files, c.load.ensures.rest.target, c.load.ensures.rest.write_faults)
    at c.pack_stored.ensures.ends)))
