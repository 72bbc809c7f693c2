use Rattle.std.proofs.Common.{◌≡◌, ◌*◌, ◌/◌, ◌∙◌, false, length, map, sym, ◌<◌, refl}
use Rattle.std.proofs.lemmas.List.Elements.{All-map}
use Rattle.astc_model.specs.Shapes.{weight_range}
use Rattle.texel_error.specs.Decoding.{AreNumerators}
use Rattle.error_tables.specs.Changed.{with_weight}
use Rattle.error_tables.specs.Kept.{IsKept}
use Rattle.error_tables.proofs.ChangedLaws.{shaped_weight, weight_range-is}
use Rattle.error_tables.specs.Reached.{is_among, is_touched_inside}
use Rattle.error_tables.proofs.RenewLaws.{among_is}
use Rattle.error_tables.proofs.WeightTrial.{untouched_stays}
use Rattle.error_state.proofs.state.ErrorState.set_weight.Goals as goal

pub block_numerators-numerators-requires : goal.block_numerators-numerators-requires
block_numerators-numerators-requires g c =
    let is : IsKept g.row.W g.row.H c.self.inside.tables = c.self.invariant.0 in
    let range : c.args.value < weight_range c.self.inside.tables.block =
    rw (← c.self.view_is) at c.requires.range in
    rw c.with_weight-block.ensures
    (shaped_weight g.row.W g.row.H _ _ _ c.args.i c.args.value is.is_shaped
    (rw (weight_range-is g.row.W g.row.H _ _ _ is.is_shaped) at range))

pub follow-requires-clause-shaped : goal.follow-requires-clause-shaped
follow-requires-clause-shaped g c =
    let is : IsKept g.row.W g.row.H c.self.inside.tables = c.self.invariant.0 in
    let range : c.args.value < weight_range c.self.inside.tables.block =
    rw (← c.self.view_is) at c.requires.range in
    rw c.with_weight-block.ensures
    (shaped_weight g.row.W g.row.H _ _ _ c.args.i c.args.value is.is_shaped
    (rw (weight_range-is g.row.W g.row.H _ _ _ is.is_shaped) at range))

pub follow-requires-clause-decoded : goal.follow-requires-clause-decoded
follow-requires-clause-decoded g c =
    let is : IsKept g.row.W g.row.H c.self.inside.tables = c.self.invariant.0 in
    let weighed : AreNumerators g.row.W g.row.H
    (with_weight c.self.inside.tables.block c.args.i c.args.value) c.self.inside.tables.mode
    c.block_numerators-numerators.result =
    rw c.with_weight-block.ensures at c.block_numerators-numerators.ensures
    in
    rw c.with_weight-block.ensures (record {
      sound = record {
        part_numbers = is.is_decoded.sound.part_numbers;
        small_numerators = weighed.small;
        all_parts = is.is_decoded.sound.all_parts;
        all_numerators = weighed.all;
      };
      flavour_is = refl;
      plane_is = is.is_decoded.plane_is;
      parts_are = is.is_decoded.parts_are;
      ends_are = is.is_decoded.ends_are;
      pairs = weighed.pairs;
      numerators_are = weighed.exact;
    })

pub follow-requires-clause-within : goal.follow-requires-clause-within
follow-requires-clause-within g c =
    rw (c.as_slice-2.ensures.value, c.places_of-reach.ensures, c.as_slice.ensures.value)
    (All-map (λ p. p < g.row.W * g.row.H) (λ touch. touch.0) c.reach_of_weight-touches.result.items
    c.reach_of_weight-touches.ensures.are.within)

pub follow-requires-clause-stays : goal.follow-requires-clause-stays
follow-requires-clause-stays g c = λ p below off.
    let is : IsKept g.row.W g.row.H c.self.inside.tables = c.self.invariant.0 in
    let integer : c.args.i < length c.self.inside.tables.block.weights.items =
    rw (← c.self.view_is) at c.requires.integer in
    let range : c.args.value < weight_range c.self.inside.tables.block =
    rw (← c.self.view_is) at c.requires.range in
    let far : is_among p (map (λ touch. touch.0) c.reach_of_weight-touches.result.items) ≡ false =
    rw (c.as_slice-2.ensures.value, c.places_of-reach.ensures, c.as_slice.ensures.value) at off
    in
    let untouched : is_touched_inside g.row.W g.row.H c.self.inside.tables.mode
    (c.args.i / c.self.inside.tables.mode.planes) c.self.inside.tables.places.now p ≡ false =
    sym (among_is (is_touched_inside g.row.W g.row.H c.self.inside.tables.mode
    (c.args.i / c.self.inside.tables.mode.planes) c.self.inside.tables.places.now)
    (g.row.W * g.row.H) p
    (map (λ touch. touch.0) c.reach_of_weight-touches.result.items)
    c.reach_of_weight-touches.ensures.are.are below) ∙ far
    in
    rw c.with_weight-block.ensures
    (untouched_stays g.row.W g.row.H c.self.inside.tables is c.args.i c.args.value integer
    (rw (weight_range-is g.row.W g.row.H _ _ _ is.is_shaped) at range) p below untouched)
