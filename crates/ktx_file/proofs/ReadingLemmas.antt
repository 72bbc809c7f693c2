-- Steps of reading in sequence.
use Rattle.std.proofs.Common.{◌≡◌, false, refl}
use Rattle.ktx_header.specs.declared.fault.DataFault.{DataFault}
use Rattle.ktx_header.specs.declared.fault.DataFault.TheVariants.{BadImageSize, ShortData, TrailingBytes}
use Rattle.ktx_file.specs.Faults.{data_fault}
use Rattle.ktx_file.specs.Reading.{is_early}

-- a fault after the header is not a fault of the header
pub data_late : (fault : DataFault) → is_early (data_fault fault) ≡ false
data_late (BadImageSize level found wanted) = refl
data_late (ShortData n) = refl
data_late TrailingBytes = refl
