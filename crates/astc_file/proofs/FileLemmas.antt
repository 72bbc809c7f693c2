-- Files, step by step.
use Rattle.std.proofs.Common.{◌≡◌, ℕ, List, take, drop, Ok, false, refl}
use Rattle.tex_shelf.specs.declared.stop.Stop.{Stop}
use Rattle.tex_shelf.specs.Stops.{Carries, Fails}
use Rattle.tex_shelf.proofs.StopLemmas.{fails_as, fails_carried}
use Rattle.tex_shelf.specs.declared.pieces.PieceFault.{PieceFault}
use Rattle.tex_shelf.specs.declared.pieces.PieceFault.TheVariants.{ShortData, TrailingBytes}
use Rattle.tex_shelf.specs.Pieces.{pieces_of}
use Rattle.astc_file.specs.declared.fault.AstcFault.{AstcFault}
use Rattle.astc_file.specs.declared.header.AstcHeader.{AstcHeader}
use Rattle.astc_file.specs.Counting.{block_count}
use Rattle.astc_file.specs.Headers.{header_in}
use Rattle.astc_file.specs.Files.{block_fault, astc_of}
use Rattle.astc_file.specs.Reading.{is_early}

pub file_first : (input : List ℕ) (stop : Stop AstcFault) → Fails (header_in (take 16 input)) stop
    → Fails (astc_of input) stop
unfolding astc_of
file_first input stop says = fails_as (header_in (take 16 input)) _ stop
    (λ fault fails. rw fails refl) says

pub file_second : (input : List ℕ) (header : AstcHeader) (count : ℕ) (stop : Stop PieceFault)
    (now : Stop AstcFault) → header_in (take 16 input) ≡ Ok header → count
    ≡ block_count header.name header.width header.height
    → Carries (λ fault astc. astc ≡ block_fault fault) stop now
    → Fails (pieces_of 16 count 16 (drop 16 input)) stop → Fails (astc_of input) now
unfolding astc_of
file_second input header count stop now e same is says =
    fails_carried block_fault (pieces_of 16 (block_count header.name header.width header.height) 16
    (drop 16 input)) _ stop now is (λ fault fails. rw (e, fails) refl) (rw same at says)

pub file_is : (input : List ℕ) (header : AstcHeader) (count : ℕ) (blocks : List (List ℕ))
    → header_in (take 16 input) ≡ Ok header → count
    ≡ block_count header.name header.width header.height
    → pieces_of 16 count 16 (drop 16 input) ≡ Ok blocks → astc_of input
    ≡ Ok (record {
      name = header.name;
      width = header.width;
      height = header.height;
      blocks = blocks;
    })
unfolding astc_of
file_is input header count blocks e same f =
    let all : pieces_of 16 (block_count header.name header.width header.height) 16 (drop 16 input)
    ≡ Ok blocks = rw (← same) f in
    rw (e, all) refl

-- no fault of the blocks is early
pub blocks_late : (fault : PieceFault) → is_early (block_fault fault) ≡ false
blocks_late (ShortData n) = refl
blocks_late TrailingBytes = refl
