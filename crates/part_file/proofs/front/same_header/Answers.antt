use Rattle.std.proofs.Common.{◌∙◌, sym, ap}
use Rattle.ktx_header.specs.Words.{first_difference}
use Rattle.ktx_file.specs.Framing.{header_of}
use Rattle.part_file.specs.Fronts.{same_header}
use Rattle.part_file.proofs.front.same_header.Goals as goal

pub returns-in-None : goal.returns-in-None
returns-in-None c =
    let same = ap (λ bytes. first_difference 16 bytes c.args.bytes.now)
    (ap header_of (sym c.shape.ensures.same) ∙ sym c.header.ensures)
    ∙ sym c.difference.ensures in
    sym (ap same_header (same ∙ c.in-None.is))

pub returns-in-Some : goal.returns-in-Some
returns-in-Some c =
    let same = ap (λ bytes. first_difference 16 bytes c.args.bytes.now)
    (ap header_of (sym c.shape.ensures.same) ∙ sym c.header.ensures)
    ∙ sym c.difference.ensures in
    sym (ap same_header (same ∙ c.in-Some.is))
