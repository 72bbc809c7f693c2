-- From a pack of the picture to the end of a trial.
use Rattle.std.proofs.Common.{◌≡◌, ℕ, ◌+◌, ◌*◌, min, ◌≤◌, inl, inr, List, [], ◌∷◌, ◌++◌, length, take, drop, Option, Some, None, Result, Ok, Err, refl, sym, ◌∙◌, ap, subst, arith, le_refl, append_assoc, length-append, Bool, false}
use Rattle.std.specs.Prelude.{codes}
use Rattle.std.specs.List.{flat_map, AllByRecursion}
use Rattle.std.specs.Int.{w32, to_le_bytes}
use Rattle.std.proofs.lemmas.List.{take-append-drop, take_all}
use Rattle.std.proofs.lemmas.Nat.{mul-le}
use Rattle.std.proofs.Math.Seq.{take-append-add}
use Rattle.tex_shelf.specs.Files.{Files, file_at, with_text}
use Rattle.tex_shelf.specs.Faults.{Rose}
use Rattle.tex_shelf.specs.Frames.{TakesNothing}
use Rattle.tex_shelf.specs.declared.shelf.Shelf.{Ghosts as ShelfMeanings}
use Rattle.tex_shelf.specs.declared.stop.ShelfStop.{ShelfStop}
use Rattle.tex_shelf.specs.declared.stop.ShelfStop.TheVariants.{Failed, NoMemory}
use Rattle.tex_shelf.proofs.FaultsLemmas.{rose_since}
use Rattle.tex_shelf.proofs.FilesLemmas.{with_text-with_text}
use Rattle.astc_model.specs.Chains.{side_at_level, full_levels_of}
use Rattle.astc_model.specs.Errors.{error}
use Rattle.astc_model.specs.Places.{Texel}
use Rattle.astc_model.specs.Recipes.{groups, recipes}
use Rattle.astc_model.specs.Settled.{listed, mean_block, NoneUnderMean}
use Rattle.astc_model.specs.Sums.{sum_to}
use Rattle.astc_model.specs.Weights.{Weighting}
use Rattle.astc_model.specs.declared.block.Block.{Block}
use Rattle.astc_model.specs.declared.flavour.Flavour.{Flavour}
use Rattle.astc_model.specs.declared.preset.Preset.{Preset}
use Rattle.astc_model.specs.declared.preset.Preset.TheVariants.{Flat}
use Rattle.astc_model.proofs.SumLaws.{sum_to-more, sum_to-zero}
use Rattle.tex_shelf.proofs.PieceLemmas.{length-flat}
use Rattle.adviser_pool.specs.Advisers.{AdviserState}
use Rattle.astc_words.specs.declared.job.PackJob.{PackJob}
use Rattle.astc_words.specs.declared.job.TrialJob.{TrialJob}
use Rattle.images.specs.Chains.{chain_of}
use Rattle.images.specs.Pictures.{bytes_of}
use Rattle.images.specs.TrialPictures.{trial_picture}
use Rattle.pam_image.specs.Reading.{images_of, IsWanted}
use Rattle.pam_header.specs.Written.{header_text}
use Rattle.pam_image.specs.Written.{written}
use Rattle.pam_image.proofs.WrittenLaws.{written-reads}
use Rattle.texture.specs.declared.shape.Shape.{Shape}
use Rattle.texture.specs.Shapes.{level_blocks}
use Rattle.ktx_file.specs.Framing.{level_size_of, header_of}
use Rattle.packed_levels.proofs.FrontLaws.{header-length}
use Rattle.ktx_file.specs.Files.{AreBlocks, written_levels, ktx}
use Rattle.outcomes.specs.declared.outcome.Outcome.{Outcome}
use Rattle.outcomes.specs.declared.outcome.Outcome.TheVariants.{Done, ReadFault, WriteFault, ReportFault, Memory}
use Rattle.outcomes.specs.Outcomes.{report_outcome, image_fault_of}
use Rattle.outcomes.specs.Causes.{InputIs, IsPartlyTold, Stopped, Tells, text_of}
use Rattle.outcomes.specs.Scenes.{Scene}
use Rattle.outcomes.specs.Ends.{Making, Beginning, Writes, WritesPart, WritesAndTells, WritesAndTellsPart, EndsAfterReading, EndsAs, Ends}
use Rattle.outcomes.proofs.TellLaws.{text-more, told-front}
use Rattle.packing.specs.Packed.{Packs, BeginsPack, want_of, shape_of}
use Rattle.packing.specs.Trials.{AreMeanConstants, IsSmall, pack_of, picture_of, block_count, file_line, Tries, BeginsTrial}
use Rattle.packing.proofs.PictureLaws.{four, valid}
use Rattle.outcomes.proofs.InputLaws.{told-is, one-read, not-both}

-- ---- the written picture reads as the picture

wanted : (job : TrialJob) → IsSmall job → IsWanted (want_of (pack_of job)) (picture_of job)
unfolding trial_picture
wanted job small =
    let few : job.width * job.height ≤ 1024 * 1024 =
    mul-le job.width job.height 1024 1024 small.width_most small.height_most in
    record {
      count = refl;
      sides = tt;
      square = λ cube. absurd (cc);
      not_too_large = omega (arith, few);
    }

pub picture-reads : (job : TrialJob) → IsSmall job → images_of (want_of (pack_of job))
    (written (picture_of job)) ≡ Ok (picture_of job)
unfolding trial_picture
picture-reads job small =
    written-reads (want_of (pack_of job)) (picture_of job) refl
    (valid job.number job.width job.height small.width_some
    (omega (arith, small.width_most)) small.height_some (omega (arith, small.height_most)))
    (wanted job small) (four job.number job.width job.height)

-- a header and a raster are the written picture
pub picture-written : (job : TrialJob) (header raster file : List ℕ) → header
    ≡ header_text job.width job.height → raster ≡ bytes_of (picture_of job).texels
    → file ≡ header ++ raster → file ≡ written (picture_of job)
unfolding trial_picture
picture-written job header raster file header_is raster_is whole =
    whole ∙ ap (λ xs. xs ++ raster) header_is
    ∙ ap (λ xs. header_text job.width job.height ++ xs) raster_is

-- ---- an input that reads ends a command after reading

module _ {Read Fault : Type 0} (reading : List ℕ → Result Read Fault) (makes : Making Read)
    (begins : Beginning Read) (input output : List ℕ) (before after : Scene)
    (known : Files) (bytes : List ℕ) (read : Read) (told : before.files ≡ Some known)
    (there : file_at known input ≡ Some bytes) (reads : reading bytes ≡ Ok read)
    (quiet : Rose before.read_faults after.read_faults → ⊥) where
  at-read : (outcome : Outcome) (other : Read) → InputIs reading before.files input (Ok other)
      → EndsAfterReading makes begins other output before after outcome
      → EndsAfterReading makes begins read output before after outcome
  at-read outcome other is ends =
      let same : other ≡ read = one-read {Fault = Fault} other read
      (sym (told-is reading before.files known input bytes (Ok other) told there is) ∙ reads) in
      let P : Read → Type 0 = λ r. EndsAfterReading makes begins r output before after outcome in
      subst P same ends

  pub ends-after : (asked : Option Fault) (outcome : Outcome)
      → EndsAs reading makes begins input output before after asked outcome
      → EndsAfterReading makes begins read output before after outcome
  ends-after (Some fault) outcome ends =
      absurd (not-both read fault (sym reads ∙ told-is reading before.files known input bytes
      (Err fault) told there ends.0))
  ends-after None ReadFault ends = absurd (quiet ends.0)
  ends-after None Memory (inl nothing) = inl nothing
  ends-after None Memory (inr some) = at-read Memory some.0 some.1 some.2
  ends-after None Done ends = at-read Done ends.0 ends.1 ends.2
  ends-after None WriteFault ends = at-read WriteFault ends.0 ends.1 ends.2
  ends-after None ReportFault ends = at-read ReportFault ends.0 ends.1 ends.2
  ends-after None _ ends = absurd ends.2

-- a count that is always 0 didn't rise
pub never-rose : Rose 0 0 → ⊥
never-rose (inl rose) = omega (arith, rose)
never-rose (inr stood) = omega (arith, stood.0)

-- a pack of the stored picture ends after reading it
pub pack-ends : (job : TrialJob) (pack : PackJob) (fits : Bool)
    (advisers_before advisers_after : List AdviserState) (files : Files) (before after : Scene)
    (outcome : Outcome)
    → Ends (images_of (want_of pack)) image_fault_of
    (Packs pack fits advisers_before advisers_after) (BeginsPack pack fits) (codes "in")
    (codes "out") before after outcome
    → IsSmall job → pack ≡ pack_of job → fits ≡ false → advisers_before ≡ []
    → advisers_after ≡ [] → before.files ≡ Some files
    → file_at files (codes "in") ≡ Some (written (picture_of job))
    → (Rose before.read_faults after.read_faults → ⊥)
    → EndsAfterReading (Packs (pack_of job) false [] []) (BeginsPack (pack_of job) false)
    (picture_of job) (codes "out") before after outcome
pack-ends job pack fits advisers_before advisers_after files before after outcome ends small is
    plain none none_after told there quiet =
    let end = rw (is, plain, none, none_after) at ends.ends in
    ends-after (images_of (want_of (pack_of job))) (Packs (pack_of job) false [] [])
    (BeginsPack (pack_of job) false) (codes "in") (codes "out") before after files
    (written (picture_of job)) (picture_of job)
    told there (picture-reads job small) quiet (image_fault_of outcome) outcome end

-- ---- the length of a texture of one level

length-word : (n : ℕ) → length (to_le_bytes w32 n) ≡ 4
length-word n = refl

length-level : (shape : Shape) (blocks : List (List ℕ))
    → AllByRecursion (λ block. length block ≡ 16) blocks → level_blocks shape 0 ≡ length blocks
    → length (written_levels shape 0 1 blocks) ≡ 4 + 16 * length blocks
length-level shape blocks sizes all =
    let size : List ℕ = to_le_bytes w32 (level_size_of shape 0) in
    let flat : List ℕ = flat_map (λ block. block) (take (level_blocks shape 0) blocks) in
    omega (
      arith,
      length-append (size ++ flat) [],
      length-append size flat,
      length-word (level_size_of shape 0),
      ap (λ bs. length (flat_map (λ block. block) bs))
          (take_all (level_blocks shape 0) blocks (omega (arith, all))),
      length-flat 16 blocks sizes,
    )

length-ktx : (shape : Shape) (blocks : List (List ℕ)) → shape.levels ≡ 1 → AreBlocks shape blocks
    → (length (ktx shape blocks) ≡ 92 + 4 + 16 * length blocks)
    × (length blocks ≡ level_blocks shape 0)
unfolding ktx
length-ktx shape blocks one are =
    let all : length blocks ≡ level_blocks shape 0 =
    are.count ∙ ap (sum_to (level_blocks shape)) one ∙ sum_to-more (level_blocks shape) 0
    ∙ ap (λ n. n + level_blocks shape 0) (sum_to-zero (level_blocks shape)) ∙ omega arith
    in
    let levels : length (written_levels shape 0 shape.levels blocks) ≡ 4 + 16 * length blocks =
    ap (λ n. length (written_levels shape 0 n blocks)) one ∙ length-level shape blocks are.sizes
    (sym all)
    in (
      omega (
        arith,
        length-append (header_of shape) (written_levels shape 0 shape.levels blocks),
        header-length shape,
        levels,
      ),
      all,
    )

one-level : (width height : ℕ) → min 1 (full_levels_of width height) ≡ 1
unfolding full_levels_of
one-level width height = omega arith

first-side : (side : ℕ) → 1 ≤ side → side_at_level side 0 ≡ side
first-side side some = omega (arith)

shape-blocks : (job : TrialJob) → IsSmall job
    → level_blocks (shape_of (pack_of job) (picture_of job)) 0 ≡ block_count job
unfolding trial_picture level_blocks
shape-blocks job small =
    rw (first-side job.width small.width_some, first-side job.height small.height_some)
    (omega arith)

file-size : (job : TrialJob) (file : List ℕ) (lines : List (List ℕ)) → IsSmall job
    → Packs (pack_of job) false [] [] (picture_of job) file lines → length file
    ≡ 92 + 4 + 16 * block_count job
file-size job file lines small packs =
    let shape : Shape = shape_of (pack_of job) (picture_of job) in
    let sizes = length-ktx shape packs.blocks
    (one-level (picture_of job).width (picture_of job).height) packs.packed.blocks_full in
    ap length packs.framed ∙ sizes.0 ∙ ap (λ n. 92 + 4 + 16 * n) (sizes.1 ∙ shape-blocks job small)

-- ---- the preset flat

-- flat lists the mean constant alone
flat-none : (w h : ℕ) (flavour : Flavour) (weights : Weighting) (preset : Preset)
    (places : List (Option Texel)) (proposals : List Block) → preset ≡ Flat → proposals ≡ []
    → NoneUnderMean w h flavour weights preset places proposals
unfolding listed recipes groups
flat-none w h flavour weights preset places proposals is none =
    rw (is, none) (le_refl (error w h flavour weights (mean_block places) places), tt)

flat-blocks : (job : TrialJob) (file : List ℕ) (lines : List (List ℕ))
    (packs : Packs (pack_of job) false [] [] (picture_of job) file lines) → job.preset ≡ Flat
    → job.fitted ≡ false → AreMeanConstants (shape_of (pack_of job) (picture_of job))
    (chain_of (picture_of job) (shape_of (pack_of job) (picture_of job)).levels) packs.blocks
flat-blocks job file lines packs flat alone = λ level element face row column has.
    let packed = packs.packed.each level element face row column has in
    let nothing : packed.2.fitted ++ packed.0 ≡ [] = ap (λ fitted. fitted ++ packed.0)
    (packed.2.plain alone) ∙ packed.1 refl in
    packed.2.packed.settled.tie
    (flat-none _ _ _ _ job.preset _ (packed.2.fitted ++ packed.0) flat nothing)

-- ---- from the end of a pack to the end of a trial

pub tries-of : (job : TrialJob) (file : List ℕ) (lines : List (List ℕ)) → IsSmall job
    → Packs (pack_of job) false [] [] (picture_of job) file lines
    → Tries job file (lines ++ file_line (length file) ∷ [])
tries-of job file lines small packs = record {
  told = lines;
  packed = packs;
  lines_are = refl;
  size = file-size job file lines small packs;
  flat = flat-blocks job file lines packs;
}

module _ (job : TrialJob) (small : IsSmall job) (before : Scene) where
  writes-of : (after : Scene) → Writes (Packs (pack_of job) false [] []) (picture_of job)
      (codes "out") before after → Writes Tries job (codes "out") before after
  writes-of after w = record {
    file = w.file;
    lines = w.lines ++ file_line (length w.file) ∷ [];
    made = tries-of job w.file w.lines small w.made;
    stands = w.stands;
    files = w.files;
    target = w.target;
  }

  part-of : (after : Scene) → WritesPart (BeginsPack (pack_of job) false) (picture_of job)
      (codes "out") before after → WritesPart BeginsTrial job (codes "out") before after
  part-of after w = record {
    file = w.file;
    front = w.front;
    begun = w.begun;
    files = w.files;
    written = w.written;
  }

  told-of : (after : Scene) → WritesAndTellsPart (Packs (pack_of job) false [] []) (picture_of job)
      (codes "out") before after → WritesAndTellsPart Tries job (codes "out") before after
  unfolding writes-of
  told-of after w =
      let lines : List (List ℕ) = w.writes.lines in
      let last : List (List ℕ) = file_line (length w.writes.file) ∷ [] in
      record {
        writes = writes-of after w.writes;
        tells = told-front before.written after.written (lines ++ last) (take w.tells.0 lines)
            (drop w.tells.0 lines ++ last)
            (ap (λ xs. xs ++ last) (sym (take-append-drop w.tells.0 lines))
            ∙ append_assoc (take w.tells.0 lines) (drop w.tells.0 lines) last)
            w.tells.1;
      }

  -- a pack that wasn't done ends the trial
  pub stops-trial : (after : Scene) (outcome : Outcome) → (outcome ≡ Done → ⊥)
      → EndsAfterReading (Packs (pack_of job) false [] []) (BeginsPack (pack_of job) false)
      (picture_of job) (codes "out") before after outcome
      → EndsAfterReading Tries BeginsTrial job (codes "out") before after outcome
  stops-trial after Done not ends = absurd (not refl)
  stops-trial after WriteFault not ends = (ends.0, part-of after ends.1)
  stops-trial after ReportFault not ends = (ends.0, told-of after ends.1)
  stops-trial after Memory not (inl nothing) = inl nothing
  stops-trial after Memory not (inr (inl part)) = inr (inl (part-of after part))
  stops-trial after Memory not (inr (inr told)) = inr (inr (told-of after told))
  stops-trial after _ not ends = absurd ends

  -- the file's length is reported after the pack, over the same files
  module _ (middle after : Scene) (packs : WritesAndTells (Packs (pack_of job) false [] [])
      (picture_of job) (codes "out") before middle)
      (files : after.files ≡ middle.files) (target : after.target ≡ middle.target)
      (risen : before.report_faults ≤ middle.report_faults) where
    abbrev lines : List (List ℕ)
    lines = packs.writes.lines

    abbrev last : List ℕ
    last = file_line (length packs.writes.file)

    moved : Writes Tries job (codes "out") before after
    unfolding writes-of
    moved =
        let w = writes-of middle packs.writes in
        record {
          file = w.file;
          lines = w.lines;
          made = w.made;
          stands = rw files w.stands;
          files = files ∙ w.files;
          target = target ∙ w.target;
        }

    pub done-trial : after.written ≡ with_text middle.written (text_of (last ∷ []))
        → WritesAndTells Tries job (codes "out") before after
    unfolding moved writes-of
    done-trial told = record {
      writes = moved;
      tells = told
          ∙ ap (λ w. with_text w (text_of (last ∷ []))) packs.tells
          ∙ with_text-with_text before.written (text_of lines) (text_of (last ∷ []))
          ∙ ap (with_text before.written) (sym (text-more lines (last ∷ [])));
    }

    part-told : IsPartlyTold middle.written after.written (last ∷ []) → WritesAndTellsPart Tries job
        (codes "out") before after
    unfolding moved writes-of
    part-told told = record {
      writes = moved;
      tells = (
        length lines + told.0,
        told.1
            ∙ ap (λ w. with_text w (text_of (take told.0 (last ∷ [])))) packs.tells
            ∙ with_text-with_text before.written (text_of lines) (text_of (take told.0 (last ∷ [])))
            ∙ ap (with_text before.written) (sym (text-more lines (take told.0 (last ∷ [])))
            ∙ ap text_of (sym (take-append-add lines (last ∷ []) told.0))),
      );
    }

    pub told-trial : (stop : ShelfStop) → Stopped middle.report_faults after.report_faults
        (IsPartlyTold middle.written after.written (last ∷ [])) stop
        → EndsAfterReading Tries BeginsTrial job (codes "out") before after (report_outcome stop)
    told-trial Failed told = (
      rose_since before.report_faults middle.report_faults after.report_faults risen told.0,
      part-told told.1,
    )
    told-trial NoMemory told = inr (inr (part-told told))

-- ---- what is left as it was

pub takes_nothing-more : {S : Type 0} (means : ShelfMeanings S) (a b c : S) → TakesNothing means a b
    → TakesNothing means b c → TakesNothing means a c
takes_nothing-more means a b c first second = record {
  read_faults = omega (arith, first.read_faults, second.read_faults);
  write_faults = omega (arith, first.write_faults, second.write_faults);
  can_open = λ name may. second.can_open name (first.can_open name may);
  can_create = λ name may. second.can_create name (first.can_create name may);
  can_put = λ some. second.can_put (first.can_put some);
}

-- the line of one length is that of another
pub told-as : {X : Type 0} (before after : Option (List ℕ)) (size n faults faults_now : ℕ)
    (result : Result X ShelfStop) → size ≡ n
    → Tells before after (file_line size ∷ []) faults faults_now result
    → Tells before after (file_line n ∷ []) faults faults_now result
told-as before after size n faults faults_now result same told =
    let P : ℕ → Type 0 = λ k. Tells before after (file_line k ∷ []) faults faults_now result in
    subst P same told

-- the file that is found is the stored one
pub one-file : (found : Option (List ℕ)) (seen stands : List ℕ) → Some seen ≡ found → found
    ≡ Some stands → seen ≡ stands
one-file found seen stands is there = (cc)
