use Rattle.std.proofs.Common.{sym}
use Rattle.astc_model.specs.Bounds.{texel_in}
use Rattle.candidates.proofs.BoundsLaws.{bounds_below_none}
use Rattle.candidates.proofs.bounds.bounds_of.Goals as goal

pub loop-p-init : goal.loop-p-init
loop-p-init c = sym (bounds_below_none (texel_in c.args.parts.now c.args.part c.args.places.now))
