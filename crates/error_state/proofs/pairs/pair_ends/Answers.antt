use Rattle.std.proofs.Common.{◌≡◌, ◌∙◌, ◌*◌, ◌+◌, take, set, ap, arith}
use Rattle.astc_model.specs.Endpoints.{endpoint_integers, endpoint_colours}
use Rattle.error_tables.proofs.PairTrial.{take_pair}
use Rattle.error_state.proofs.pairs.pair_ends.Goals as goal

pub returns : goal.returns
returns c =
    let own : c.split_at.result.0.now ≡ take (endpoint_integers c.args.scan.now.cem)
    (set (set c.args.scan.now.values (2 * c.args.pair) c.args.first)
    (2 * c.args.pair + 1) c.args.second) =
    rw (c.from-place.ensures, c.from.ensures) at c.split_at.ensures.front
    in
    c.endpoints.ensures
    ∙ ap (endpoint_colours c.args.scan.now.cem)
    (own ∙ take_pair (endpoint_integers c.args.scan.now.cem) c.args.scan.now.values
    (2 * c.args.pair) c.args.first c.args.second (omega (arith, c.requires.pair)))
