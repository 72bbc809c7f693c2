use Rattle.std.proofs.Common.{◌≡◌, ◌*◌, sym, subst, ap, ◌∙◌}
use Rattle.astc_model.specs.Bounds.{part_map}
use Rattle.candidates.specs.Pieces.{bounds_by_part, ends_from}
use Rattle.candidates.proofs.PieceLaws.{ends_from-is}
use Rattle.line_floors.specs.Lines.{HasColours}
use Rattle.listed_walk.specs.Shared.{level_ends}
use Rattle.listed_walk.proofs.levels.lines_at.Goals as goal

pub returns : goal.returns
returns g c =
    let aim = c.args.goal.now in
    let layout = c.args.layout.now in
    let shape = layout.shape.now in
    let level = c.args.level in
    let is = c.requires.layout in
    let map = part_map g.row.W g.row.H shape.parts shape.seed in
    let bounds : layout.bounds.now ≡ bounds_by_part map shape.parts aim.places (g.row.W * g.row.H) =
    is.bounds ∙ ap (λ parts. bounds_by_part parts shape.parts aim.places (g.row.W * g.row.H))
    is.mapped.map
    in
    let ends : c.ends_at_level-ends.result.items ≡ level_ends g.row.W g.row.H aim shape level =
    c.ends_at_level-ends.ensures.ends layout.bounds.now is.ideals
    ∙ ap (ends_from shape level) bounds ∙ ends_from-is shape level map aim.places
    (g.row.W * g.row.H)
    in
    record {
      ends = ends;
      floor = λ coded has. c.distances-distances.ensures.floor layout.parts.now coded is.sums
          (subst (λ es. HasColours g.row.W g.row.H shape.plane layout.parts.now es coded)
          (sym (c.as_slice.ensures.value ∙ ends)) has);
    }
