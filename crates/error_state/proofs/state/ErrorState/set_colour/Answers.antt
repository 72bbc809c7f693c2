use Rattle.std.proofs.Common.{arith, ◌≡◌, ◌*◌, ◌∙◌, ℕ, false, sym, ◌<◌, refl}
use Rattle.astc_model.specs.Shapes.{colour_range}
use Rattle.error_tables.specs.Kept.{IsKept}
use Rattle.error_tables.proofs.ChangedLaws.{shaped_colour, colour_range-is}
use Rattle.error_tables.specs.Changed.{HasColour}
use Rattle.error_tables.specs.Reached.{is_among, is_part_inside}
use Rattle.error_tables.proofs.RenewLaws.{among_is}
use Rattle.error_tables.proofs.ColourTrial.{other_stays}
use Rattle.error_state.proofs.state.ErrorState.set_colour.Goals as goal

pub part_ends-ends-requires : goal.part_ends-ends-requires
part_ends-ends-requires g c =
    let is : IsKept g.row.W g.row.H c.self.inside.tables = c.self.invariant.0 in
    let range : c.args.value < colour_range c.self.inside.tables.block =
    rw (← c.self.view_is) at c.requires.range in
    rw c.with_colour-block.ensures
    (shaped_colour g.row.W g.row.H _ _ _ c.args.i c.args.value is.is_shaped
    (rw (colour_range-is g.row.W g.row.H _ _ _ is.is_shaped) at range))

pub follow-requires-clause-shaped : goal.follow-requires-clause-shaped
follow-requires-clause-shaped g c =
    let is : IsKept g.row.W g.row.H c.self.inside.tables = c.self.invariant.0 in
    let range : c.args.value < colour_range c.self.inside.tables.block =
    rw (← c.self.view_is) at c.requires.range in
    rw c.with_colour-block.ensures
    (shaped_colour g.row.W g.row.H _ _ _ c.args.i c.args.value is.is_shaped
    (rw (colour_range-is g.row.W g.row.H _ _ _ is.is_shaped) at range))

pub follow-requires-clause-decoded : goal.follow-requires-clause-decoded
follow-requires-clause-decoded g c =
    let is : IsKept g.row.W g.row.H c.self.inside.tables = c.self.invariant.0 in
    rw c.with_colour-block.ensures (record {
      sound = record {
        part_numbers = is.is_decoded.sound.part_numbers;
        small_numerators = is.is_decoded.sound.small_numerators;
        all_parts = is.is_decoded.sound.all_parts;
        all_numerators = is.is_decoded.sound.all_numerators;
      };
      flavour_is = refl;
      plane_is = is.is_decoded.plane_is;
      parts_are = is.is_decoded.parts_are;
      ends_are = rw c.with_colour-block.ensures at c.part_ends-ends.ensures;
      pairs = is.is_decoded.pairs;
      numerators_are = is.is_decoded.numerators_are;
    })

pub follow-requires-clause-stays : goal.follow-requires-clause-stays
follow-requires-clause-stays g c = λ p below off.
    let is : IsKept g.row.W g.row.H c.self.inside.tables = c.self.invariant.0 in
    let range : c.args.value < colour_range c.self.inside.tables.block =
    rw (← c.self.view_is) at c.requires.range in
    let part : ℕ = c.part_with-part.result in
    let has : HasColour c.self.inside.tables.block part c.args.i = record {
      own = c.part_with-part.ensures.part;
      one = omega (
        arith,
        c.part_with-part.ensures.part,
        is.is_shaped.four_parts,
        is.is_shaped.four_modes,
      );
      from = c.part_with-part.ensures.from;
      below = c.part_with-part.ensures.below;
    } in
    let far : is_among p c.part_places-reach.result.items ≡ false =
    rw c.as_slice.ensures.value at off in
    let other : is_part_inside g.row.W g.row.H c.self.inside.tables.block part
    c.self.inside.tables.places.now p ≡ false =
    sym (among_is (is_part_inside g.row.W g.row.H c.self.inside.tables.block part
    c.self.inside.tables.places.now)
    (g.row.W * g.row.H) p c.part_places-reach.result.items c.part_places-reach.ensures.are
    below) ∙ far
    in
    rw c.with_colour-block.ensures
    (other_stays g.row.W g.row.H c.self.inside.tables is c.args.i c.args.value part has
    (rw (colour_range-is g.row.W g.row.H _ _ _ is.is_shaped) at range) p below other)
