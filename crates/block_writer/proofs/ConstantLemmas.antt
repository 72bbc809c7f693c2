-- A void-extent block that is packed from its fields is decoded to the same block.
use Rattle.std.proofs.Common.{◌≡◌, ℕ, zero, suc, ◌^◌, ◌<◌, true, nat_lt, IsTrue, if◌then◌else◌, List, [], ◌∷◌, length, get_or, Result, Ok, Err, not, refl, arith}
use Rattle.std.specs.List.{list_all}
use Rattle.std.proofs.lemmas.Bool.{and_parts, ltb-true}
use Rattle.astc_model.specs.declared.block.Block.{Block}
use Rattle.astc_model.specs.declared.block.Block.TheVariants.{Constant}
use Rattle.astc_model.specs.declared.block.BlockFault.{BlockFault}
use Rattle.astc_model.specs.declared.block.BlockFault.TheVariants.{ExtentOrder}
use Rattle.astc_model.specs.declared.block.Constant.{Constant as ConstantFields}
use Rattle.astc_model.specs.Bits.{field_of}
use Rattle.astc_model.specs.Blocks.{IsLegalConstant, is_extent_in_order}
use Rattle.astc_model.specs.Packing.{packed, AllFit}
use Rattle.astc_model.specs.Reading.{extent_at, values_at, read_bits}
use Rattle.block_writer.proofs.LayoutLemmas.{packed-at}
use Rattle.block_writer.proofs.RoundTripLemmas.{four-entries}

all-below : (m : ℕ) (xs : List ℕ) (i : ℕ) → IsTrue (list_all (λ x. nat_lt x m) xs) → i < length xs
    → get_or xs i 0 < m
all-below m [] i all below = absurd (omega arith)
all-below m (x ∷ xs) zero all below =
    ltb-true x m ((and_parts (nat_lt x m) (list_all (λ y. nat_lt y m) xs) all).0)
all-below m (x ∷ xs) (suc i) all below =
    all-below m xs i ((and_parts (nat_lt x m) (list_all (λ y. nat_lt y m) xs) all).1) (omega arith)

abbrev void_widths : List ℕ
void_widths = 9 ∷ 1 ∷ 2 ∷ 13 ∷ 13 ∷ 13 ∷ 13 ∷ 16 ∷ 16 ∷ 16 ∷ 16 ∷ []

abbrev void_values : ConstantFields → List ℕ
void_values constant =
    0x1FC ∷ 0 ∷ 3 ∷ get_or constant.extent 0 0 ∷ get_or constant.extent 1 0
    ∷ get_or constant.extent 2 0 ∷ get_or constant.extent 3 0 ∷ get_or constant.rgba 0 0
    ∷ get_or constant.rgba 1 0 ∷ get_or constant.rgba 2 0 ∷ get_or constant.rgba 3 0 ∷ []

void-fits : (constant : ConstantFields) → IsLegalConstant constant
    → AllFit void_widths (void_values constant)
void-fits constant legal =
    let place : (i : ℕ) → i < 4 → get_or constant.extent i 0 < 2 ^ 13 = λ i below.
    all-below (2 ^ 13) constant.extent i legal.coordinates
    (omega (arith, legal.four_coordinates)) in
    let value : (i : ℕ) → i < 4 → get_or constant.rgba i 0 < 2 ^ 16 = λ i below.
    all-below (2 ^ 16) constant.rgba i legal.values (omega (arith, legal.four_values)) in (
      omega arith,
      (
        omega arith,
        (
          omega arith,
          (
            place 0 (omega arith),
            (
              place 1 (omega arith),
              (
                place 2 (omega arith),
                (
                  place 3 (omega arith),
                  (
                    value 0 (omega arith),
                    (
                      value 1 (omega arith),
                      (value 2 (omega arith), (value 3 (omega arith), tt)),
                    ),
                  ),
                ),
              ),
            ),
          ),
        ),
      ),
    )

in-order : (constant : ConstantFields) (rgba extent : List ℕ) → rgba ≡ constant.rgba → extent
    ≡ constant.extent → is_extent_in_order constant.extent ≡ true
    → ◌≡◌ {A = Result Block BlockFault}
    (if not (is_extent_in_order extent) then Err ExtentOrder
    else Ok (Constant (record { rgba = rgba; extent = extent }))) (Ok (Constant constant))
in-order constant rgba extent values places order = rw (values, places, order) refl

pub constant-back : (w h z : ℕ) (constant : ConstantFields) → IsLegalConstant constant → z
    ≡ packed void_widths (void_values constant) → read_bits w h z ≡ Ok (Constant constant)
constant-back w h z constant legal same =
    let at = λ (i : ℕ). packed-at z void_widths (void_values constant) i
    (void-fits constant legal) same in
    let void : field_of z 0 9 ≡ 0x1FC = at 0 (omega arith) in
    let ldr : field_of z 9 1 ≡ 0 = at 1 (omega arith) in
    let reserved : field_of z 10 2 ≡ 3 = at 2 (omega arith) in
    let extent : extent_at z ≡ constant.extent =
    rw (at 3 (omega arith), at 4 (omega arith), at 5 (omega arith), at 6 (omega arith))
    (four-entries constant.extent legal.four_coordinates) in
    let values : values_at z ≡ constant.rgba =
    rw (at 7 (omega arith), at 8 (omega arith), at 9 (omega arith), at 10 (omega arith))
    (four-entries constant.rgba legal.four_values) in
    rw (void, ldr, reserved)
    (in-order constant (values_at z) (extent_at z) values extent legal.order)
