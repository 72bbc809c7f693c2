-- Lists of blocks.
use Rattle.std.proofs.Common.{◌≡◌, ℕ, ◌+◌, ◌*◌, List, [], ◌∷◌, ◌++◌, length, ap, ◌∙◌, arith, length-append}
use Rattle.std.specs.List.{AllByRecursion}
use Rattle.tex_shelf.specs.Pieces.{pieces_at}
use Rattle.tex_shelf.proofs.PieceLemmas.{length-pieces_at, all-pieces_at}
use Rattle.ktx_file.specs.Reading.{IsGrown}

pub all-append : (P : List ℕ → Type 0) (xs ys : List (List ℕ)) → AllByRecursion P xs
    → AllByRecursion P ys → AllByRecursion P (xs ++ ys)
all-append P [] ys left right = right
all-append P (x ∷ xs) ys left right = (left.0, all-append P xs ys left.1 right)

pub grown_by : (n : ℕ) (old new : List (List ℕ)) (bytes : List ℕ) → length bytes ≡ 16 * n → new
    ≡ old ++ pieces_at 16 n bytes → IsGrown n old new
grown_by n old new bytes long same = record {
  count = ap length same ∙ length-append old (pieces_at 16 n bytes)
      ∙ ap (λ k. length old + k) (length-pieces_at 16 n bytes);
  sizes = λ all. rw same (all-append (λ block. length block ≡ 16) old (pieces_at 16 n bytes) all
      (all-pieces_at 16 n bytes (omega arith)));
}
