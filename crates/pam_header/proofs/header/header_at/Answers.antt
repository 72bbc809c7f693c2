use Rattle.std.proofs.Common.{◌∙◌, ap, sym}
use Rattle.pam_header.specs.Headers.{settled}
use Rattle.pam_header.proofs.FrontLaws.{header_of-front}
use Rattle.pam_header.proofs.header.header_at.Goals as goal

pub returns-clause-same : goal.returns-clause-same
returns-clause-same c =
    λ rest ended. c.settled.ensures.same
    ∙ sym (header_of-front c.args.image c.args.front.now rest c.requires ended
    ∙ ap (settled c.args.image _) (sym c.header_in.ensures.same))
