-- The results of a reader.
use Rattle.std.specs.Prelude.{Bool, true, false}
use Rattle.astc_file.specs.declared.fault.AstcFault.{AstcFault}
use Rattle.astc_file.specs.declared.fault.AstcFault.TheVariants.{ShortData, TrailingBytes}

-- whether a fault is seen in the first 16 bytes
abbrev pub is_early : AstcFault → Bool
is_early (ShortData n) = false
is_early TrailingBytes = false
is_early fault = true
