use Rattle.std.proofs.Common.{◌≡◌, ◌∙◌, take, set, ap}
use Rattle.std.proofs.Math.Seq.{take-set-lt}
use Rattle.astc_model.specs.Endpoints.{endpoint_integers, endpoint_colours}
use Rattle.colour_bounds.proofs.part_scan.ends_with.Goals as goal

pub returns : goal.returns
returns c =
    let own : c.split_at.result.0.now ≡ take (endpoint_integers c.args.scan.now.cem)
    (set c.args.scan.now.values c.args.place c.args.value) =
    rw (c.from.ensures, c.from-2.ensures) at c.split_at.ensures.front
    in
    c.endpoints.ensures
    ∙ ap (endpoint_colours c.args.scan.now.cem)
    (own ∙ take-set-lt (endpoint_integers c.args.scan.now.cem) c.args.scan.now.values c.args.place
    c.args.value c.requires.place)
