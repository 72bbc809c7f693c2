-- How a command ends.
use Rattle.std.specs.Prelude.{ℕ, ⊤, Option, Some, None}
use Rattle.tex_shelf.specs.declared.stop.ShelfStop.{ShelfStop}
use Rattle.tex_shelf.specs.declared.stop.ShelfStop.TheVariants.{Failed, NoMemory}
use Rattle.tex_shelf.specs.declared.stop.Stop.{Stop}
use Rattle.tex_shelf.specs.declared.stop.Stop.TheVariants.{Fault, ReadFault as HasReadFault, NoMemory as NoReaderMemory}
use Rattle.pam_header.specs.declared.fault.ImageFault.{ImageFault}
use Rattle.ktx_file.specs.declared.fault.KtxFault.{KtxFault}
use Rattle.astc_file.specs.declared.fault.AstcFault.{AstcFault}
use Rattle.ktx_source.specs.declared.fault.SourceFault.{SourceFault}
use Rattle.outcomes.specs.declared.outcome.Outcome.{Outcome}
use Rattle.outcomes.specs.declared.outcome.Outcome.TheVariants.{Done, Found, Usage, Image, Ktx, ReadFault, WriteFault, ReportFault, Memory, Astc, Absent, Source}

-- the exit status of the program
abbrev pub status_of : Outcome → ℕ
status_of Done = 0
status_of (Found bad) = 1
status_of (Usage fault) = 2
status_of (Image fault) = 3
status_of (Ktx fault) = 4
status_of ReadFault = 5
status_of WriteFault = 6
status_of ReportFault = 7
status_of Memory = 8
status_of (Astc fault) = 9
status_of (Absent place) = 10
status_of (Source fault) = 11

-- the outcome of a reader that stopped, by the outcome of its faults
abbrev pub read_outcome : {F : Type 0} → (F → Outcome) → Stop F → Outcome
read_outcome of_fault (Fault fault) = of_fault fault
read_outcome of_fault HasReadFault = ReadFault
read_outcome of_fault NoReaderMemory = Memory

-- the outcome if writing the output stopped
abbrev pub write_outcome : ShelfStop → Outcome
write_outcome Failed = WriteFault
write_outcome NoMemory = Memory

-- the outcome if writing the report stopped
abbrev pub report_outcome : ShelfStop → Outcome
report_outcome Failed = ReportFault
report_outcome NoMemory = Memory

-- the fault of an input of images that an outcome speaks of
abbrev pub image_fault_of : Outcome → Option ImageFault
image_fault_of (Image fault) = Some fault
image_fault_of _ = None

-- the fault of an input of a texture that it speaks of
abbrev pub ktx_fault_of : Outcome → Option KtxFault
ktx_fault_of (Ktx fault) = Some fault
ktx_fault_of _ = None

-- the fault of an input of an `.astc` file
abbrev pub astc_fault_of : Outcome → Option AstcFault
astc_fault_of (Astc fault) = Some fault
astc_fault_of _ = None

-- the fault of an input of an uncompressed texture
abbrev pub source_fault_of : Outcome → Option SourceFault
source_fault_of (Source fault) = Some fault
source_fault_of _ = None

-- the input has a fault, lacks that image, or was not read
abbrev pub IsUnread : Outcome → Type 0
IsUnread (Image fault) = ⊤
IsUnread (Ktx fault) = ⊤
IsUnread (Astc fault) = ⊤
IsUnread (Absent place) = ⊤
IsUnread (Source fault) = ⊤
IsUnread ReadFault = ⊤
IsUnread _ = ⊥
