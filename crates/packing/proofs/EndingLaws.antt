-- From the file and the report to the end of a pack.
use Rattle.std.proofs.Common.{◌≡◌, ℕ, zero, suc, add-one, ◌-◌, ◌≤◌, ◌<◌, Bool, true, false, List, length, Some, sym, ◌∙◌, ap, arith, inl, inr, ◌⊎◌}
use Rattle.std.proofs.Math.Nat.{one-le-mul}
use Rattle.std.proofs.lemmas.List.{length-map}
use Rattle.tex_shelf.specs.Files.{stored, with_text}
use Rattle.tex_shelf.specs.declared.stop.ShelfStop.{ShelfStop}
use Rattle.tex_shelf.specs.declared.stop.ShelfStop.TheVariants.{Failed, NoMemory}
use Rattle.images.specs.Pictures.{Pictures}
use Rattle.texture.specs.declared.shape.Shape.{Shape}
use Rattle.astc_model.specs.Sums.{sum_to}
use Rattle.astc_model.proofs.SumLaws.{sum_to-more}
use Rattle.texture.specs.Shapes.{IsValid, level_blocks, all_blocks}
use Rattle.ktx_file.specs.Files.{ktx_of}
use Rattle.ktx_file.proofs.WrittenLemmas.{file_reads_back}
use Rattle.adviser_pool.specs.Advisers.{AdviserState}
use Rattle.outcomes.specs.Outcomes.{write_outcome, report_outcome}
use Rattle.outcomes.specs.Causes.{Stopped, IsPartlyTold, text_of}
use Rattle.outcomes.specs.Scenes.{Scene}
use Rattle.outcomes.specs.Ends.{WritesPart, WritesAndTells, EndsAfterReading}
use Rattle.outcomes.proofs.EndLaws.{end-done, end-told}
use Rattle.packed_levels.specs.declared.options.PackOptions.{PackOptions}
use Rattle.packed_levels.specs.Settling.{SettlingWay, Places, Settling, AreSettled, blocks_of, errors_of, way_of}
use Rattle.packed_levels.specs.Serving.{ServesIf, ServesFile}
use Rattle.packed_levels.proofs.ServingLaws.{serves_file}
use Rattle.packed_levels.specs.Reports.{report_lines}
use Rattle.packed_levels.specs.Sources.{sources}
use Rattle.packed_levels.specs.Packed.{PacksLevels, BeginsPacked}
use Rattle.packed_levels.specs.Putting.{AreFramed, IsPackFront}
use Rattle.packed_levels.proofs.PackedLaws.{packed-of, front-all}
use Rattle.texture.proofs.ShapeLaws.{image-some, images-some}
use Rattle.packed_levels.proofs.SourceLaws.{sources-count}
use Rattle.packed_levels.proofs.FrontLaws.{front-none}

served-file : (way : SettlingWay) (advised : Bool) (before after : List AdviserState)
    (done : List Settling) (places : List Places) → AreSettled way places done → 0 < length places
    → ServesIf advised way before after done → advised ≡ true
    → ServesFile way places (blocks_of done) (errors_of done) before after
served-file way true before after done places are some serves asked =
    let some_done : 0 < length done =
    omega (arith, ap length are.sources_are, length-map done (λ d. d.places)) in
    rw (← are.sources_are) (serves_file way before after done some_done serves)
served-file way false before after done places are some serves asked = absurd (cc)

-- a texture has blocks
blocks-some : (shape : Shape) → IsValid shape → 1 ≤ level_blocks shape 0
unfolding level_blocks
blocks-some shape valid =
    let faces : 1 ≤ shape.faces = elim valid.faces_known [
      | inl one ↦ omega arith
      | inr six ↦ omega arith
    ] in
    one-le-mul (one-le-mul (omega arith) faces) (image-some shape 0)

first-least : (f : ℕ → ℕ) (n : ℕ) → f 0 ≤ sum_to f (suc n)
first-least f zero = omega (arith, sum_to-more f 0)
first-least f (suc n) = omega (arith, rw add-one at (sum_to-more f (suc n)), first-least f n)

sources-some : (shape : Shape) (levels : List Pictures) → IsValid shape
    → 0 < length (sources shape levels)
sources-some shape levels valid =
    let long = sources-count shape levels (images-some shape valid) in
    let whole : suc (shape.levels - 1) ≡ shape.levels = omega arith in
    omega (
      arith,
      long,
      blocks-some shape valid,
      rw whole at (first-least (level_blocks shape)
          (shape.levels - 1)),
    )

-- the errors of a file that was framed
pub errors-count : (shape : Shape) (options : PackOptions) (levels : List Pictures)
    (before after : List AdviserState) (file errors : List ℕ) → IsValid shape
    → AreFramed shape options levels before after file errors
    → length errors ≡ all_blocks shape
errors-count shape options levels before after file errors valid framed =
    ap length framed.errors_are ∙ length-map framed.done (λ d. d.error)
    ∙ sym (length-map framed.done (λ d. d.places)) ∙ ap length framed.are.sources_are
    ∙ sources-count shape levels (images-some shape valid)

-- a file that was framed is what a pack makes
pub packs-of : (shape : Shape) (options : PackOptions) (levels : List Pictures)
    (before after : List AdviserState) (file errors : List ℕ) → IsValid shape
    → AreFramed shape options levels before after file errors
    → PacksLevels shape options before after levels file (report_lines shape errors)
packs-of shape options levels before after file errors valid framed =
    let long = sources-count shape levels (images-some shape valid) in
    let packed = packed-of shape options levels framed.done framed.are long in
    record {
      blocks = blocks_of framed.done;
      errors = errors_of framed.done;
      packed = packed;
      framed = framed.framed;
      cut = ap ktx_of framed.framed
          ∙ file_reads_back shape (blocks_of framed.done) valid packed.blocks_full;
      told = ap (report_lines shape) framed.errors_are;
      served = λ asked. served-file (way_of shape.name options) options.advised before after
          framed.done (sources shape levels) framed.are
          (sources-some shape levels valid) framed.serves asked;
    }

module _ (shape : Shape) (options : PackOptions) (levels : List Pictures)
    (pool pool_now : List AdviserState) (file errors output : List ℕ) (before after : Scene)
    (valid : IsValid shape)
    (framed : AreFramed shape options levels pool pool_now file errors) (files : after.files
    ≡ stored before.files output file) (target : after.target ≡ Some output) where
  made : PacksLevels shape options pool pool_now levels file (report_lines shape errors)
  made = packs-of shape options levels pool pool_now file errors valid framed

  fronts : (k : ℕ) → BeginsPacked shape options levels k file
  fronts k = rw framed.framed (front-all shape options levels k framed.done framed.are
      (sources-count shape levels (images-some shape valid)))

  pub ends-done : after.written ≡ with_text before.written (text_of (report_lines shape errors))
      → WritesAndTells (PacksLevels shape options pool pool_now) levels output before after
  ends-done told = end-done (PacksLevels shape options pool pool_now)
      (BeginsPacked shape options) levels output file (report_lines shape errors) before after made
      fronts files target told

  pub ends-told : (stop : ShelfStop) → Stopped before.report_faults after.report_faults
      (IsPartlyTold before.written after.written (report_lines shape errors)) stop
      → EndsAfterReading (PacksLevels shape options pool pool_now)
      (BeginsPacked shape options) levels output before after (report_outcome stop)
  ends-told stop told = end-told (PacksLevels shape options pool pool_now)
      (BeginsPacked shape options) levels output file (report_lines shape errors) before after made
      fronts stop files target told

-- a file that was written in part
part-of : (shape : Shape) (options : PackOptions) (levels : List Pictures) (output : List ℕ)
    (before after : Scene) → IsValid shape → after.written ≡ before.written
    → (after.files ≡ before.files) ⊎ ((front : List ℕ) × IsPackFront shape options levels front
    × (after.files ≡ stored before.files output front))
    → WritesPart (BeginsPacked shape options) levels output before after
part-of shape options levels output before after valid written (inl none) =
    let some = front-none shape options levels (images-some shape valid) 0 (omega arith) in
    record {
      file = some.file;
      front = some.k;
      begun = some.begun;
      files = inl none;
      written = written;
    }
part-of shape options levels output before after valid written (inr some) = record {
  file = some.1.file;
  front = some.1.k;
  begun = some.1.begun;
  files = inr (some.2 ∙ ap (stored before.files output) some.1.front_is);
  written = written;
}

pub ends-stored : (shape : Shape) (options : PackOptions) (levels : List Pictures)
    (pool pool_now : List AdviserState) (output : List ℕ) (before after : Scene) (stop : ShelfStop)
    → IsValid shape → after.written ≡ before.written
    → Stopped before.write_faults after.write_faults ((after.files ≡ before.files)
    ⊎ ((front : List ℕ) × IsPackFront shape options levels front
    × (after.files ≡ stored before.files output front))) stop
    → EndsAfterReading (PacksLevels shape options pool pool_now)
    (BeginsPacked shape options) levels output before after (write_outcome stop)
ends-stored shape options levels pool pool_now output before after Failed valid written stopped =
    (stopped.0, part-of shape options levels output before after valid written stopped.1)
ends-stored shape options levels pool pool_now output before after NoMemory valid written stopped =
    inr (inl (part-of shape options levels output before after valid written stopped))
