-- Files, step by step.
use Rattle.std.proofs.Common.{◌≡◌, ℕ, List, take, drop, Ok, false, refl}
use Rattle.tex_shelf.specs.declared.stop.Stop.{Stop}
use Rattle.tex_shelf.specs.Stops.{Carries, Fails}
use Rattle.tex_shelf.proofs.StopLemmas.{fails_as, fails_carried}
use Rattle.part_file.specs.Faults.{PartFault}
use Rattle.tex_shelf.specs.declared.pieces.PieceFault.{PieceFault}
use Rattle.tex_shelf.specs.declared.pieces.PieceFault.TheVariants.{ShortData, TrailingBytes}
use Rattle.tex_shelf.specs.Pieces.{pieces_of}
use Rattle.part_file.specs.Fronts.{Front, front_in}
use Rattle.part_file.specs.Files.{count_of, piece_fault, part_of}
use Rattle.part_file.specs.Reading.{is_early}

pub file_first : (input : List ℕ) (stop : Stop PartFault) → Fails (front_in (take 132 input)) stop
    → Fails (part_of input) stop
unfolding part_of
file_first input stop says = fails_as (front_in (take 132 input)) _ stop
    (λ fault fails. rw fails refl) says

pub file_second : (input : List ℕ) (front : Front) (count : ℕ) (stop : Stop PieceFault)
    (now : Stop PartFault) → front_in (take 132 input) ≡ Ok front → count ≡ count_of front
    → Carries (λ fault part. part ≡ piece_fault fault) stop now
    → Fails (pieces_of 20 count 132 (drop 132 input)) stop → Fails (part_of input) now
unfolding part_of
file_second input front count stop now e same is says =
    fails_carried piece_fault (pieces_of 20 (count_of front) 132 (drop 132 input)) _ stop now is
    (λ fault fails. rw (e, fails) refl) (rw same at says)

pub file_is : (input : List ℕ) (front : Front) (count : ℕ) (pieces : List (List ℕ))
    → front_in (take 132 input) ≡ Ok front → count ≡ count_of front
    → pieces_of 20 count 132 (drop 132 input) ≡ Ok pieces → part_of input
    ≡ Ok (record { front = front; pieces = pieces })
unfolding part_of
file_is input front count pieces e same f =
    let all : pieces_of 20 (count_of front) 132 (drop 132 input) ≡ Ok pieces = rw (← same) f in
    rw (e, all) refl

-- no fault of the pieces is early
pub pieces_late : (fault : PieceFault) → is_early (piece_fault fault) ≡ false
pieces_late (ShortData n) = refl
pieces_late TrailingBytes = refl
