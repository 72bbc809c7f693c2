use Rattle.std.proofs.Common.{◌∙◌, ap, sym, Err}
use Rattle.pam_image.proofs.FrontLaws.{image_header-none, image_header-some}
use Rattle.pam_image.proofs.raster.header_in_front.Goals as goal

pub returns-then-is_empty-clause-exact : goal.returns-then-is_empty-clause-exact
returns-then-is_empty-clause-exact c =
    λ rest ended. ap Err c.no_image.ensures.same
    ∙ sym (image_header-none c.args.image c.args.front.now rest (sym c.is_empty.ensures
    ∙ c.if-is_empty.true) ended)

pub returns-clause-exact : goal.returns-clause-exact
returns-clause-exact c =
    λ rest ended. c.header_at.ensures.same rest ended
    ∙ sym (image_header-some c.args.image c.args.front.now rest (sym c.is_empty.ensures
    ∙ c.if-is_empty.false))
