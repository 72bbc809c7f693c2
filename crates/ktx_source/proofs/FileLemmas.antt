-- A file from its first byte on.
use Rattle.std.proofs.Common.{◌≡◌, ℕ, false, List, take, drop, Ok, refl}
use Rattle.tex_shelf.specs.declared.stop.Stop.{Stop}
use Rattle.tex_shelf.specs.Stops.{Carries, Fails}
use Rattle.tex_shelf.proofs.StopLemmas.{fails_as, fails_carried}
use Rattle.images.specs.Pictures.{Pictures}
use Rattle.ktx_header.specs.declared.fault.DataFault.{DataFault}
use Rattle.ktx_header.specs.declared.fault.DataFault.TheVariants.{BadImageSize, ShortData, TrailingBytes}
use Rattle.ktx_header.specs.Levels.{data_of}
use Rattle.ktx_source.specs.declared.front.SourceHeader.{SourceHeader}
use Rattle.ktx_source.specs.Faults.{SourceFault, data_fault}
use Rattle.ktx_source.specs.Headers.{header_in}
use Rattle.ktx_source.specs.Reading.{is_early}
use Rattle.ktx_source.specs.Sources.{levels_in, source_with, source_of}

-- a fault after the header is not a fault of the header
pub data_late : (fault : DataFault) → is_early (data_fault fault) ≡ false
data_late (BadImageSize level found wanted) = refl
data_late (ShortData n) = refl
data_late TrailingBytes = refl

pub file_first : (input : List ℕ) (stop : Stop SourceFault) → Fails (header_in (take 64 input)) stop
    → Fails (source_of input) stop
unfolding source_of
file_first input stop says = fails_as (header_in (take 64 input)) _ stop
    (λ fault fails. rw fails refl) says

pub file_second : (input : List ℕ) (header : SourceHeader) (stop : Stop DataFault)
    (now : Stop SourceFault) → header_in (take 64 input) ≡ Ok header
    → Carries (λ fault source. source ≡ data_fault fault) stop now
    → Fails (data_of header.order (levels_in header.format header.extent) header.extent.levels
    header.key_bytes (drop 64 input)) stop → Fails (source_of input) now
unfolding source_of
file_second input header stop now e is says =
    fails_carried data_fault
    (data_of header.order (levels_in header.format header.extent) header.extent.levels
    header.key_bytes (drop 64 input)) _ stop now is (λ fault fails. rw (e, fails) refl) says

pub file_is : (input : List ℕ) (header : SourceHeader) (levels : List Pictures)
    → header_in (take 64 input) ≡ Ok header
    → data_of header.order (levels_in header.format header.extent) header.extent.levels
    header.key_bytes (drop 64 input) ≡ Ok levels → source_of input
    ≡ Ok (source_with header.extent levels)
unfolding source_of
file_is input header levels e f = rw (e, f) refl
