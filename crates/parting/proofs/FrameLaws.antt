-- The file of a part.
use Rattle.std.proofs.Common.{◌≡◌, ℕ, List, [], ◌++◌, ◌∙◌, ap}
use Rattle.std.specs.List.{flat_map}
use Rattle.std.proofs.lemmas.List.{append-nil}
use Rattle.part_file.specs.declared.front.Front.{Front}
use Rattle.part_file.specs.Fronts.{front_of}
use Rattle.part_file.specs.Files.{part_bytes}
use Rattle.part_file.specs.Ranges.{part_start}
use Rattle.packed_levels.specs.Reports.{range_lines}
use Rattle.parting.specs.Parts.{pieces_of, IsFramed}

-- the header and the pieces after it are the file
pub frames-of : {header flat errors_now : List ℕ} {pieces blocks_now : List (List ℕ)} {start : ℕ}
    (front : Front) (blocks : List (List ℕ)) (errors : List ℕ) → header ≡ front_of front → start
    ≡ part_start front.layout front.place front.count → blocks_now ≡ blocks → errors_now ≡ errors
    → pieces ≡ pieces_of blocks_now errors_now → flat ≡ flat_map (λ piece. piece) pieces
    → IsFramed front blocks errors (header ++ (flat ++ []))
    (range_lines front.layout start errors_now)
unfolding part_bytes
frames-of {flat = flat} {errors_now = errors_now} {start = start} front blocks errors header_is
    start_is blocks_are errors_are pieces_are flat_is = record {
      framed = ap (λ x. x ++ (flat ++ [])) header_is
          ∙ ap (λ x. front_of front ++ x)
          (append-nil flat ∙ flat_is ∙ ap (flat_map (λ piece. piece))
          (pieces_are ∙ ap (λ bs. pieces_of bs errors_now) blocks_are
          ∙ ap (pieces_of blocks) errors_are));
      told = ap (λ s. range_lines front.layout s errors_now) start_is
          ∙ ap (range_lines front.layout (part_start front.layout front.place front.count))
          errors_are;
    }
