use Rattle.std.proofs.Common.{◌∙◌, sym, ap}
use Rattle.ktx_header.specs.Words.{first_difference}
use Rattle.ktx_file.specs.Framing.{header_of}
use Rattle.part_file.specs.Marks.{mark_in}
use Rattle.part_file.specs.Fronts.{shape_in, same_header}
use Rattle.part_file.proofs.MarkLemmas.{front_read, rest_from}
use Rattle.part_file.proofs.front.front_in.Goals as goal

pub returns-clause-exact : goal.returns-clause-exact
returns-clause-exact c =
    let front = c.args.front.now in
    let shape = c.in_ok-layout.layout in
    sym
    (front_read front shape c.mark_in.result c.word_at-place.result c.word_at-count.result
    (sym c.no_other_file.ensures ∙ c.in_ok-no_other_file.was)
    (sym c.long_enough.ensures ∙ c.in_ok-long_enough.was)
    (sym c.identified.ensures ∙ c.in_ok-identified.was)
    (ap shape_in (rest_from 16 front) ∙ sym c.layout_in.ensures ∙ c.in_ok-layout.was)
    (ap (λ bytes. same_header (first_difference 16 (header_of shape) bytes)) (rest_from 16 front)
    ∙ sym c.same_header.ensures ∙ c.in_ok-same_header.was)
    c.word_at-place.ensures c.word_at-count.ensures
    (sym c.place_fits.ensures.same ∙ c.in_ok-place_fits.was) (c.mark_in.ensures.same
    ∙ ap mark_in (sym (rest_from 116 front))))
