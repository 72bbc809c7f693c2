use Rattle.std.proofs.Common.{◌≡◌, ◌++◌, length}
use Rattle.pam_image.specs.Reading.{from_grey_alpha}
use Rattle.pam_image.proofs.widening.push_grey_alpha.Given as goal

-- the texels so far left the rest to be added
abbrev pub invariant-loop-rest : goal.invariant-loop-rest
invariant-loop-rest l = l.texels.items ++ from_grey_alpha l.rest
    ≡ l.fn.texels.items ++ from_grey_alpha l.raster

abbrev pub decreases-loop-rest : goal.decreases-loop-rest
decreases-loop-rest l = length l.rest
