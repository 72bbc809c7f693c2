-- The faults of a part file.
use Rattle.std.specs.Prelude.{Result, Ok, Err}
use Rattle.ktx_file.specs.declared.fault.KtxFault.{KtxFault}
pub use Rattle.part_file.specs.declared.fault.PartFault.{PartFault}
use Rattle.part_file.specs.declared.fault.PartFault.TheVariants.{Header}

-- a fault of a KTX file's header as one of a part file
abbrev pub part_fault : KtxFault → PartFault
part_fault fault = Header fault

-- the header of a KTX file, with its fault as one of a part file
abbrev pub in_part : {A : Type 0} → Result A KtxFault → Result A PartFault
in_part (Ok x) = Ok x
in_part (Err fault) = Err (part_fault fault)
