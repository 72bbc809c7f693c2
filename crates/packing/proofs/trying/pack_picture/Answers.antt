use Rattle.std.proofs.Common.{ap, refl}
use Rattle.packing.proofs.TrialLaws.{never-rose, pack-ends}
use Rattle.packing.proofs.trying.pack_picture.Goals as goal

pub returns-clause-ends : goal.returns-clause-ends
returns-clause-ends g c =
    pack-ends c.args.job.now c.pack_of.result _ _ _ c.args.shelf.now.files _ _ c.pack.result
    c.pack.ensures.ends c.requires.small c.pack_of.ensures c.new-pool.ensures.plain
    (rw c.new-pool.ensures.none refl)
    (rw (c.pack.ensures.untouched (ap (λ job. job.advised) c.pack_of.ensures))
    (rw c.new-pool.ensures.none refl)) refl c.requires.there never-rose
