-- The blocks and the errors of gathered parts.
use Rattle.std.proofs.Common.{◌≡◌, ℕ, zero, suc, ◌+◌, ◌<◌, List, [], ◌∷◌, ◌++◌, length, map, take, get_or, Option, Some, None, refl, ◌∙◌, ap, arith}
use Rattle.std.specs.List.{flat_map}
use Rattle.part_file.specs.Pieces.{block_of, error_of, piece_of}
use Rattle.part_file.specs.Files.{PartFile}
use Rattle.parting.specs.Joins.{blocks_in, errors_in}
use Rattle.parting.specs.Gathering.{parts_of, slot_blocks, slot_errors}
use Rattle.parting.specs.Parts.{pieces_of}

pub blocks-are : (slots : List (Option PartFile)) → flat_map slot_blocks slots
    ≡ blocks_in (parts_of slots)
blocks-are [] = refl
blocks-are (None ∷ slots) = blocks-are slots
blocks-are (Some part ∷ slots) = ap (λ xs. map block_of part.pieces ++ xs) (blocks-are slots)

pub errors-are : (slots : List (Option PartFile)) → flat_map slot_errors slots
    ≡ errors_in (parts_of slots)
errors-are [] = refl
errors-are (None ∷ slots) = errors-are slots
errors-are (Some part ∷ slots) = ap (λ xs. map error_of part.pieces ++ xs) (errors-are slots)

-- a piece more
pub pieces-more : (blocks : List (List ℕ)) (errors : List ℕ) (k : ℕ) → k < length blocks
    → length errors ≡ length blocks
    → pieces_of (take (k + 1) blocks) (take (k + 1) errors)
    ≡ pieces_of (take k blocks) (take k errors) ++ piece_of (get_or blocks k [])
    (get_or errors k 0) ∷ []
pieces-more [] errors k inside long = absurd (omega arith)
pieces-more (b ∷ blocks) [] k inside long = absurd (omega arith)
pieces-more (b ∷ blocks) (e ∷ errors) zero inside long = refl
pieces-more (b ∷ blocks) (e ∷ errors) (suc k) inside long =
    let longer : suc k + 1 ≡ suc (k + 1) = omega arith in
    ap (λ n. pieces_of (take n (b ∷ blocks)) (take n (e ∷ errors))) longer
    ∙ ap (λ xs. piece_of b e ∷ xs) (pieces-more blocks errors k (omega arith) (omega arith))
