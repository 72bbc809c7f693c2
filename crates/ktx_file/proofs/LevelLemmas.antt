-- LevelSizes, and files, step by step.
use Rattle.std.proofs.Common.{◌≡◌, ℕ, ◌+◌, ◌*◌, List, ◌++◌, length, take, drop, Option, Some, Result, Ok, Err, refl, ◌∙◌, ap}
use Rattle.ktx_header.specs.declared.order.WordOrder.{WordOrder}
use Rattle.ktx_header.specs.Levels.{enough, sized, level_of, data_of}
use Rattle.tex_shelf.specs.declared.stop.Stop.{Stop}
use Rattle.tex_shelf.specs.Stops.{Carries, Answers, Fails}
use Rattle.tex_shelf.proofs.StopLemmas.{fails_as, fails_carried}
use Rattle.tex_shelf.specs.Pieces.{pieces_at}
use Rattle.ktx_header.specs.declared.fault.DataFault.{DataFault}
use Rattle.ktx_header.proofs.LevelLemmas.{level_second, level_is}
use Rattle.ktx_file.specs.Faults.{KtxFault, data_fault}
use Rattle.ktx_file.specs.declared.front.KtxHeader.{KtxHeader}
use Rattle.texture.specs.declared.shape.Shape.{Shape}
use Rattle.texture.specs.Shapes.{level_blocks}
use Rattle.ktx_file.specs.Framing.{level_size_of}
use Rattle.ktx_file.specs.Headers.{header_in}
use Rattle.ktx_file.specs.Files.{levels_in, ktx_of}

-- the last step of a level
pub level_last : (order : WordOrder) (shape : Shape) (level before n : ℕ) (input : List ℕ)
    (old new : List (List ℕ)) (left : Option (List ℕ)) (r : Result (Unit {0}) (Stop DataFault))
    → sized order level (level_size_of shape level) before input ≡ Ok tt → n
    ≡ level_blocks shape level
    → Answers (λ _. (enough (16 * n) (length (drop 4 input)) (before + 4) ≡ Ok tt)
    × (new ≡ old ++ pieces_at 16 n (take (16 * n) (drop 4 input))))
    (enough (16 * n) (length (drop 4 input)) (before + 4)) left (drop (16 * n) (drop 4 input)) r
    → Answers (λ _. (more : List (List ℕ)) × (level_of order (levels_in shape) level before input
    ≡ Ok more) × (new ≡ old ++ more))
    (level_of order (levels_in shape) level before input) left
    (drop (16 * level_blocks shape level) (drop 4 input)) r
level_last order shape level before n input old new left (Ok x) e same says =
    let all : enough (16 * level_blocks shape level) (length (drop 4 input)) (before + 4) ≡ Ok tt =
    rw same at says.1.0 in (
      says.0 ∙ ap (λ k. Some (drop (16 * k) (drop 4 input))) same,
      (
        _,
        level_is order (levels_in shape) level before input e all,
        says.1.1
            ∙ ap (λ k. old ++ pieces_at 16 k (take (16 * k) (drop 4 input))) same,
      ),
    )
level_last order shape level before n input old new left (Err stop) e same says =
    level_second order (levels_in shape) level before input stop e (rw same at says)

-- a file from its first byte on
pub file_first : (input : List ℕ) (stop : Stop KtxFault) → Fails (header_in (take 64 input)) stop
    → Fails (ktx_of input) stop
unfolding ktx_of
file_first input stop says = fails_as (header_in (take 64 input)) _ stop
    (λ fault fails. rw fails refl) says

pub file_second : (input : List ℕ) (header : KtxHeader) (stop : Stop DataFault)
    (now : Stop KtxFault) → header_in (take 64 input) ≡ Ok header
    → Carries (λ fault ktx. ktx ≡ data_fault fault) stop now
    → Fails (data_of header.order (levels_in header.layout) header.layout.levels header.key_bytes
    (drop 64 input)) stop → Fails (ktx_of input) now
unfolding ktx_of
file_second input header stop now e is says =
    fails_carried data_fault
    (data_of header.order (levels_in header.layout) header.layout.levels header.key_bytes
    (drop 64 input)) _ stop now is (λ fault fails. rw (e, fails) refl) says

pub file_is : (input : List ℕ) (header : KtxHeader) (blocks : List (List ℕ))
    → header_in (take 64 input) ≡ Ok header
    → data_of header.order (levels_in header.layout) header.layout.levels header.key_bytes
    (drop 64 input) ≡ Ok blocks → ktx_of input
    ≡ Ok (record { shape = header.layout; blocks = blocks })
unfolding ktx_of
file_is input header blocks e f = rw (e, f) refl
