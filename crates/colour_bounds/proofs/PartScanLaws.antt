-- A colour integer of a partition, and the endpoints with another value of it.
use Rattle.std.proofs.Common.{◌≡◌, ℕ, ◌+◌, ◌<◌, ◌≤◌, List, length, get_or, set, take, drop, map, sym, ap, ◌∙◌, arith, Option, None, Some}
use Rattle.std.proofs.lemmas.List.{drop-set-add, map-set, get_or-take, get_or-map, get_or-drop, length-map, length-take-le}
use Rattle.std.proofs.Math.Seq.{take-set-lt}
use Rattle.std.specs.Option.{IfSome}
use Rattle.astc_model.specs.Shapes.{colour_count}
use Rattle.astc_model.specs.Endpoints.{endpoint_integers, endpoint_colours}
use Rattle.astc_model.specs.ColourValues.{colour_value}
use Rattle.astc_model.specs.CodedTexels.{part_colours, part_values}
use Rattle.astc_model.specs.declared.level.Level.{Level}
use Rattle.astc_model.specs.declared.block.Coded.{Coded as CodedFields}
use Rattle.texel_error.specs.Limited.{under}
use Rattle.error_tables.specs.Changed.{with_colour, HasColour}
use Rattle.error_tables.proofs.UnderLaws.{of_some}
use Rattle.error_tables.specs.Floors.{IsPartFloor}
use Rattle.error_tables.specs.RowFloors.{AreForms}
use Rattle.error_tables.specs.declared.floors.PartitionFloor.{PartitionFloor}
use Rattle.error_tables.specs.declared.tables.Tables.{Tables}
use Rattle.texel_error.specs.Shown.{Ends}
use Rattle.astc_model.specs.Places.{channel}
use Rattle.colour_bounds.specs.PartScans.{IsPartScan, integer_of}
use Rattle.colour_bounds.specs.declared.part_scan.PartitionScan.{PartitionScan}

-- the integer at a place belongs to the partition
pub has_integer : (w h : ℕ) (scan : PartitionScan) (place : ℕ) → IsPartScan w h scan
    → place < endpoint_integers scan.cem
    → HasColour scan.tables.now.block scan.part (integer_of scan place)
has_integer w h scan place is within = record {
  own = is.own;
  one = omega (arith, is.own, is.kept.is_shaped.four_parts, is.kept.is_shaped.four_modes);
  from = omega arith;
  below = let here : place < endpoint_integers (get_or scan.tables.now.block.cems scan.part 0) =
      rw is.mode_is at within in omega (arith, here);
}

-- the values of a partition after one is replaced
colour_values : (f : ℕ → ℕ) (items : List ℕ) (k n j v : ℕ) → j < n
    → map f (take n (drop k (set items (k + j) v))) ≡ set (map f (take n (drop k items))) j (f v)
colour_values f items k n j v below =
    ap (λ l. map f (take n l)) (drop-set-add k items j v)
    ∙ ap (map f) (take-set-lt n (drop k items) j v below)
    ∙ map-set f (take n (drop k items)) j v

-- the endpoints of a partition after one of its colour integers is replaced
pub colour_ends-is : (block : CodedFields) (level : Level) (q j v cem : ℕ) (values : List ℕ) → cem
    ≡ get_or block.cems q 0 → j < endpoint_integers cem → values ≡ part_values block level q
    → endpoint_colours cem (set values j (colour_value level v))
    ≡ part_colours (with_colour block (colour_count q block.cems + j) v) level q
colour_ends-is block level q j v cem values cem_is within values_are =
    rw (cem_is, values_are)
    (ap (endpoint_colours (get_or block.cems q 0))
    (sym (colour_values (colour_value level) block.colours.items (colour_count q block.cems)
    (endpoint_integers (get_or block.cems q 0)) j v (rw cem_is at within))))

-- an error that is computed under a limit is below the limit
pub tried-le : (limit total e : ℕ) (tried : Option ℕ) → tried ≡ under limit e → limit ≤ total
    → IfSome tried (λ error. error ≤ total)
tried-le limit total e None is less = tt
tried-le limit total e (Some error) is less = let both = of_some limit e error is in
    omega (arith, both.0, both.1)

-- ---- the forms of channels

pub forms_of : (tables : Tables) (reach : List ℕ) (floor : PartitionFloor) (ends : Ends)
    → IsPartFloor tables reach floor → AreForms tables floor ends
forms_of tables reach floor ends is = record {
  red_form = let f = is.red.floored (channel 0 ends.0) (channel 0 ends.1) in below _ _ _ f.form_is;
  green_form = let f = is.green.floored (channel 1 ends.0) (channel 1 ends.1) in
      below _ _ _ f.form_is;
  blue_form = let f = is.blue.floored (channel 2 ends.0) (channel 2 ends.1) in
      below _ _ _ f.form_is;
  alpha_form = let f = is.alpha.floored (channel 3 ends.0) (channel 3 ends.1) in
      below _ _ _ f.form_is;
}
  where
    below : (form less more : ℕ) → form + less ≡ more → less ≤ more
    below form less more whole = omega arith

-- the present value of a colour integer
pub present_value : (w h : ℕ) (scan : PartitionScan) (place : ℕ) → IsPartScan w h scan
    → place < endpoint_integers scan.cem
    → get_or scan.values place 0
    ≡ colour_value scan.tables.now.level
    (get_or scan.tables.now.block.colours.items (integer_of scan place) 0)
present_value w h scan place is within =
    let n : ℕ = endpoint_integers scan.cem in
    let f : ℕ → ℕ = colour_value scan.tables.now.level in
    let rest : List ℕ = drop (colour_count scan.part scan.tables.now.block.cems)
    scan.tables.now.block.colours.items in
    let m : ℕ = endpoint_integers (get_or scan.tables.now.block.cems scan.part 0) in
    let fits : n ≤ length scan.values = omega (arith, is.mode_fits, is.eight_values) in
    let all : length (take m rest) ≡ n =
    sym (length-map (take m rest) f) ∙ ap length (sym is.values_are) ∙ length-take-le n scan.values
    fits in
    let same : n ≡ m = ap endpoint_integers is.mode_is in
    sym (get_or-take n scan.values place 0 within)
    ∙ ap (λ l. get_or l place 0) is.values_are
    ∙ get_or-map f (take m rest) place 0 0 (omega (arith, all, within))
    ∙ ap f (get_or-take m rest place 0 (omega (arith, same, within))
    ∙ get_or-drop (colour_count scan.part scan.tables.now.block.cems)
    scan.tables.now.block.colours.items place 0)
