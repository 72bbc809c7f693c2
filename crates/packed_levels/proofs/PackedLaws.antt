-- From blocks settled one after another to blocks packed at their places.
use Rattle.std.proofs.Common.{◌≡◌, ℕ, zero, suc, ◌+◌, ◌-◌, ◌*◌, ◌≤◌, ◌<◌, List, [], ◌∷◌, ◌++◌, length, get_or, refl, sym, ◌∙◌, ap, subst, arith, inl, inr}
use Rattle.std.specs.List.{AllByRecursion}
use Rattle.std.proofs.lemmas.Bool.{cases_lt}
use Rattle.std.proofs.lemmas.List.{append-nil, get_or_append_left, length-map}
use Rattle.astc_model.specs.Sums.{sum_to}
use Rattle.astc_model.proofs.SumLaws.{sum_to-more}
use Rattle.astc_model.specs.FootprintNames.{sides_of}
use Rattle.astc_model.specs.declared.block.Block.{Block}
use Rattle.images.specs.Pictures.{Pictures, source_of}
use Rattle.texture.specs.declared.shape.Shape.{Shape}
use Rattle.texture.specs.Shapes.{level_blocks}
use Rattle.texture.specs.Places.{place_of, HasBlock}
use Rattle.ktx_file.specs.Files.{AreBlocks, ktx}
use Rattle.texture.proofs.ShapeLaws.{sum_grows}
use Rattle.packed_levels.specs.declared.options.PackOptions.{PackOptions}
use Rattle.packed_levels.specs.Settling.{SettlingWay, Places, Settling, IsSettled, AreSettled, MayPropose, IsSettledFor, sources_of, blocks_of, errors_of, way_of}
use Rattle.packed_levels.specs.Sources.{sources, images_in}
use Rattle.packed_levels.specs.Packed.{IsPackedAt, ArePacked, BeginsPacked}
use Rattle.packed_levels.proofs.SourceLaws.{sources-at, in-level, settled-length}

pub settled-sizes : (way : SettlingWay) (done : List Settling) → AllByRecursion (IsSettled way) done
    → AllByRecursion (λ block. length block ≡ 16) (blocks_of done)
settled-sizes way [] each = tt
settled-sizes way (d ∷ ds) each = (each.0.size, settled-sizes way ds each.1)

-- what was settled at a place of the list
settled-at : (way : SettlingWay) (done : List Settling) (p : ℕ)
    → AllByRecursion (IsSettled way) done → p < length done
    → (proposals : List Block) × MayPropose way proposals
    × IsSettledFor way (get_or (sources_of done) p []) proposals (get_or (blocks_of done) p [])
    (get_or (errors_of done) p 0)
settled-at way [] p each below = absurd (omega arith)
settled-at way (d ∷ ds) zero each below = (each.0.proposals, each.0.proposed, each.0.settled)
settled-at way (d ∷ ds) (suc p) each below = settled-at way ds p each.1 (omega arith)

-- a block of a texture, among the first that were settled
packed-at : (shape : Shape) (options : PackOptions) (levels : List Pictures)
    (part rest : List Places) (done : List Settling) (level element face row column : ℕ)
    → HasBlock shape level element face row column → sources shape levels ≡ part ++ rest
    → AreSettled (way_of shape.name options) part done
    → place_of shape level element face row column < length done
    → IsPackedAt shape options levels level element face row column
    (get_or (blocks_of done) (place_of shape level element face row column) [])
    (get_or (errors_of done) (place_of shape level element face row column) 0)
packed-at shape options levels part rest done level element face row column has whole are below =
    let way : SettlingWay = way_of shape.name options in
    let p : ℕ = place_of shape level element face row column in
    let in_part : p < length part = omega (arith, below, settled-length way part done are) in
    let here = settled-at way done p are.each below in
    let source : get_or (sources_of done) p [] ≡ source_of (sides_of shape.name).0
    (sides_of shape.name).1 (images_in levels level) (element * shape.faces + face) column row =
    ap (λ xs. get_or xs p []) are.sources_are ∙ sym (get_or_append_left part rest [] p in_part)
    ∙ ap (λ xs. get_or xs p []) (sym whole)
    ∙ sources-at shape levels level element face row column has in (
      here.0,
      here.1,
      subst (λ places. IsSettledFor way places here.0 (get_or (blocks_of done) p [])
          (get_or (errors_of done) p 0)) source here.2,
    )

-- a place within a level, and so before the next one
before-next : (shape : Shape) (level element face row column : ℕ)
    → HasBlock shape level element face row column
    → place_of shape level element face row column < sum_to (level_blocks shape) (level + 1)
before-next shape level element face row column has =
    omega (
      arith,
      in-level shape level element face row column has,
      sum_to-more
          (level_blocks shape) level,
    )

sum-up : (f : ℕ → ℕ) (n m : ℕ) → n ≤ m → sum_to f n ≤ sum_to f m
sum-up f n m some =
    let same : n + (m - n) ≡ m = omega arith in
    omega (arith, sum_grows f n (m - n), ap (sum_to f) same)

-- all of them
pub packed-of : (shape : Shape) (options : PackOptions) (levels : List Pictures)
    (done : List Settling) → AreSettled (way_of shape.name options) (sources shape levels) done
    → length (sources shape levels) ≡ sum_to (level_blocks shape) shape.levels
    → ArePacked shape options levels (blocks_of done) (errors_of done)
packed-of shape options levels done are long =
    let way : SettlingWay = way_of shape.name options in
    let all : length done ≡ sum_to (level_blocks shape) shape.levels =
    settled-length way (sources shape levels) done are ∙ long in
    record {
      blocks_full = record {
        count = length-map done (λ d. d.bytes) ∙ all;
        sizes = settled-sizes way done are.each;
      };
      errors_full = length-map done (λ d. d.error) ∙ sym (length-map done (λ d. d.bytes));
      each = λ level element face row column has.
          let below : place_of shape level element face row column < length done =
          omega (
            arith,
            all,
            before-next shape level element face row column has,
            sum-up
                (level_blocks shape) (level + 1) shape.levels (omega (arith, has.level_in)),
          ) in
          packed-at shape options levels (sources shape levels) [] done level element face row
          column has (sym (append-nil (sources shape levels))) are below;
    }

-- each prefix of all of the bytes
pub front-all : (shape : Shape) (options : PackOptions) (levels : List Pictures) (k : ℕ)
    (done : List Settling) → AreSettled (way_of shape.name options) (sources shape levels) done
    → length (sources shape levels) ≡ sum_to (level_blocks shape) shape.levels
    → BeginsPacked shape options levels k (ktx shape (blocks_of done))
front-all shape options levels k done are long =
    let packed = packed-of shape options levels done are long in
    record {
      blocks = blocks_of done;
      blocks_full = packed.blocks_full;
      framed = refl;
      each = λ level element face row column has begins. (
        get_or (errors_of done) (place_of shape level element face row column) 0,
        packed.each
            level element face row column has,
      );
    }

-- a prefix of n bytes, whose first blocks were settled for the first sources, up to a level
pub front-of : (shape : Shape) (options : PackOptions) (levels : List Pictures) (n level : ℕ)
    (done : List Settling) (others : List (List ℕ)) (part rest : List Places)
    → AreBlocks shape (blocks_of done ++ others)
    → sources shape levels ≡ part ++ rest → AreSettled (way_of shape.name options) part done
    → sum_to (level_blocks shape) level ≤ length done
    → n ≤ 92 + (4 * (level + 1) + 16 * length done)
    → BeginsPacked shape options levels n (ktx shape (blocks_of done ++ others))
front-of shape options levels n level done others part rest full whole are reached few = record {
  blocks = blocks_of done ++ others;
  blocks_full = full;
  framed = refl;
  each = λ own element face row column has begins.
      let p : ℕ = place_of shape own element face row column in
      let below : p < length done = elim (cases_lt own level) [
        | inl less ↦ omega (
          arith,
          reached,
          before-next shape own element face row column has,
          sum-up (level_blocks shape) (own + 1) level (omega (arith, less)),
        )
        | inr more ↦ omega (arith, few, begins, more)
      ] in
      let there : p < length (blocks_of done) =
      omega (arith, below, length-map done (λ d. d.bytes)) in
      let block : get_or (blocks_of done ++ others) p [] ≡ get_or (blocks_of done) p [] =
      get_or_append_left (blocks_of done) others [] p there in (
        get_or (errors_of done) p 0,
        rw block
            (packed-at shape options levels part rest done own element face row column has whole
            are below),
      );
}
