-- The results of a reader.
use Rattle.std.specs.Prelude.{Bool, true, false}
use Rattle.part_file.specs.declared.fault.PartFault.TheVariants.{ShortData, TrailingBytes}
use Rattle.part_file.specs.Faults.{PartFault}

-- whether a fault is seen in the first 132 bytes
abbrev pub is_early : PartFault → Bool
is_early (ShortData n) = false
is_early TrailingBytes = false
is_early fault = true
