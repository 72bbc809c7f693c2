use Rattle.std.proofs.Common.{ℕ, List, get_or, set, sym, subst, ◌∙◌}
use Rattle.std.specs.Prelude.{IsTrue}
use Rattle.std.proofs.lemmas.List.{set-get_or}
use Rattle.astc_model.specs.ColourValues.{colour_value}
use Rattle.colour_bounds.specs.OneChannel.{moves_one}
use Rattle.colour_bounds.proofs.TrendLaws.{offsetting_is, bases_stay}
use Rattle.colour_bounds.proofs.own_walk.walk_in.Goals as goal

pub value_walk-requires-then-is_offsetting-clause-alone :
    goal.value_walk-requires-then-is_offsetting-clause-alone
value_walk-requires-then-is_offsetting-clause-alone g c = λ value range out.
    let values : List ℕ = c.args.scan.now.values in
    let mode : ℕ = c.args.scan.now.cem in
    let present : ℕ = get_or values c.args.place 0 in
    let on : IsTrue (moves_one c.args.trend mode (set values c.args.place present) c.args.place) =
    subst (λ xs. IsTrue (moves_one c.args.trend mode xs c.args.place))
    (sym (set-get_or values c.args.place 0))
    (sym c.moves_one.ensures ∙ c.if-not-moves_one.false) in
    let stays = bases_stay c.args.trend mode c.args.place present
    (colour_value c.args.scan.now.tables.now.level value) values c.requires.scan.eight_values
    (offsetting_is mode (sym c.is_offsetting.ensures ∙ c.if-is_offsetting.true)) c.requires.place
    c.if-place-ne0.false on in
    absurd (cc)
