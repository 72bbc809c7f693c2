use Rattle.std.proofs.Common.{◌≡◌, true, ap, sym, ◌∙◌}
use Rattle.parting.specs.Joins.{is_of}
use Rattle.parting.specs.Gathering.{seen}
use Rattle.parting.proofs.GatherLaws.{slots-changed}
use Rattle.parting.proofs.gathering.add_part.Goals as goal

pub returns-then-is_of-clause-slots : goal.returns-then-is_of-clause-slots
returns-then-is_of-clause-slots c =
    let parts = c.args.parts.now in
    let same : is_of (seen parts) c.args.part.front ≡ true =
    ap (is_of (seen parts)) (sym c.front.ensures.same) ∙ sym c.is_of.ensures
    ∙ c.if-is_of.true in
    slots-changed c.args.word (seen parts) (seen c.place_part.new.parts) c.args.part _
    c.place_part.result c.requires.slots c.requires.part same c.place_part.ensures
