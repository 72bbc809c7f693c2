-- The results of a reader.
use Rattle.std.specs.Prelude.{Bool, true, false}
use Rattle.ktx_source.specs.declared.fault.SourceFault.TheVariants.{BadImageSize, ShortData, TrailingBytes}
use Rattle.ktx_source.specs.Faults.{SourceFault}

-- whether a fault is seen in the first 64 bytes
abbrev pub is_early : SourceFault → Bool
is_early (BadImageSize level found wanted) = false
is_early (ShortData n) = false
is_early TrailingBytes = false
is_early fault = true
