-- Properties of a shape without a fault.
use Rattle.std.proofs.Common.{◌≡◌, ℕ, ◌≤◌, Bool, true, false, not, ◌&&◌, ◌||◌, ◌==◌, nat_lt, IsTrue, if◌then◌else◌, List, take, Option, None, Some, Result, Ok, Err, refl}
use Rattle.std.specs.List.{list_all}
use Rattle.std.specs.Option.{ok_or}
use Rattle.std.proofs.lemmas.Bool.{ltb-false}
use Rattle.astc_model.specs.declared.level.Level.{Level}
use Rattle.astc_model.specs.declared.block.BlockFault.{BlockFault}
use Rattle.astc_model.specs.declared.block.BlockFault.TheVariants.{GridTooLarge, TooManyWeights, WeightBits, DualPlaneFour, TooManyColours, HdrEndpoint, ColourBits}
use Rattle.astc_model.specs.declared.mode.Mode.{Mode}
use Rattle.astc_model.specs.Endpoints.{is_ldr_mode}
use Rattle.astc_model.specs.Shapes.{weight_count, weight_data_bits, grid_fault, colour_count, taken_bits, greatest_fit, IsGreatestFit, colour_shape}
use Rattle.block_mode.proofs.LevelLaws.{greatest_fit-some}

-- ---- chains of tests

passed : (b : Bool) (fault : BlockFault) (rest : Option BlockFault)
    → (if b then Some fault else rest) ≡ None → (b ≡ false) × (rest ≡ None)
passed true fault rest is = absurd (cc)
passed false fault rest is = (refl, is)

passed-ok : (b : Bool) (fault : BlockFault) (rest : Result Level BlockFault) (level : Level)
    → (if b then Err fault else rest) ≡ Ok level → (b ≡ false) × (rest ≡ Ok level)
passed-ok true fault rest level is = absurd (cc)
passed-ok false fault rest level is = (refl, is)

or-false-parts : (a b : Bool) → (a || b) ≡ false → (a ≡ false) × (b ≡ false)
or-false-parts true b is = absurd (cc)
or-false-parts false b is = (refl, is)

not-false : (b : Bool) → not b ≡ false → b ≡ true
not-false true is = refl
not-false false is = absurd (cc)

ok_or-some : (o : Option Level) (level : Level) → ◌≡◌ {A = Result Level BlockFault}
    (ok_or o ColourBits) (Ok level) → o ≡ Some level
ok_or-some None level is = absurd (cc)
ok_or-some (Some x) level is = cc

-- ---- the weights

pub record IsFittingGrid (w h : ℕ) (row : Mode) : Type 0 where
  pub columns : row.across ≤ w
  pub rows : row.down ≤ h
  pub few : weight_count row ≤ 64
  pub long : 24 ≤ weight_data_bits row
  pub short : weight_data_bits row ≤ 96

pub grid_fault-none : (w h : ℕ) (row : Mode) → grid_fault w h row ≡ None → IsFittingGrid w h row
unfolding grid_fault
grid_fault-none w h row none =
    let large = passed (nat_lt w row.across || nat_lt h row.down) GridTooLarge _ none in
    let many = passed (nat_lt 64 (weight_count row)) TooManyWeights _ large.1 in
    let length_fits = passed (nat_lt (weight_data_bits row) 24 || nat_lt 96 (weight_data_bits row))
    WeightBits None many.1 in
    let sides = or-false-parts (nat_lt w row.across) (nat_lt h row.down) large.0 in
    let ends = or-false-parts (nat_lt (weight_data_bits row) 24)
    (nat_lt 96 (weight_data_bits row)) length_fits.0 in
    record {
      columns = ltb-false w row.across sides.0;
      rows = ltb-false h row.down sides.1;
      few = ltb-false 64 (weight_count row) many.0;
      long = ltb-false (weight_data_bits row) 24 ends.0;
      short = ltb-false 96 (weight_data_bits row) ends.1;
    }

-- ---- the colours

pub record AreFittingColours (row : Mode) (parts selector : ℕ) (cems : List ℕ)
    (level : Level) : Type 0 where
  pub planes : (row.planes == 2) && (parts == 4) ≡ false
  pub few : colour_count parts cems ≤ 18
  pub profile : IsTrue (list_all is_ldr_mode (take parts cems))
  pub greatest : IsGreatestFit (taken_bits row parts selector) (colour_count parts cems) level

pub colour_shape-ok : (row : Mode) (parts selector : ℕ) (cems : List ℕ) (level : Level)
    → colour_shape row parts selector cems ≡ Ok level
    → AreFittingColours row parts selector cems level
unfolding colour_shape
colour_shape-ok row parts selector cems level is =
    let dual = passed-ok ((row.planes == 2) && (parts == 4)) DualPlaneFour _ level is in
    let many = passed-ok (nat_lt 18 (colour_count parts cems)) TooManyColours _ level dual.1 in
    let hdr = passed-ok (not (list_all is_ldr_mode (take parts cems))) HdrEndpoint _ level many.1 in
    record {
      planes = dual.0;
      few = ltb-false 18 (colour_count parts cems) many.0;
      profile = not-false (list_all is_ldr_mode (take parts cems)) hdr.0;
      greatest = greatest_fit-some (taken_bits row parts selector) (colour_count parts cems) level
          (ok_or-some (greatest_fit (taken_bits row parts selector) (colour_count parts cems)) level
          hdr.1);
    }
