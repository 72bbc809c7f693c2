-- The faults of a file.
use Rattle.std.specs.Prelude.{Result, Ok, Err}
use Rattle.ktx_header.specs.declared.fault.HeaderFault.{HeaderFault}
use Rattle.ktx_header.specs.declared.fault.HeaderFault.TheVariants.{ShortHeader as HasShortHeader, BadIdentifier as HasBadIdentifier, BadEndian as HasBadEndian, BadSides as HasBadSides, HasDepth as HasTwoSlices, TooManyElements as HasManyElements, BadFaces as HasBadFaces, FacesNotSquare as HasFacesNotSquare, TooManyLevels as HasManyLevels, KeysTooLong as HasLongKeys, TooLarge as IsTooLarge}
use Rattle.ktx_header.specs.declared.fault.DataFault.{DataFault}
use Rattle.ktx_header.specs.declared.fault.DataFault.TheVariants.{BadImageSize as HasBadImageSize, ShortData as HasShortData, TrailingBytes as HasTrailingBytes}
pub use Rattle.ktx_file.specs.declared.fault.KtxFault.{KtxFault}
use Rattle.ktx_file.specs.declared.fault.KtxFault.TheVariants.{ShortHeader, BadIdentifier, BadEndian, BadSides, HasDepth, TooManyElements, BadFaces, FacesNotSquare, TooManyLevels, KeysTooLong, TooLarge, BadImageSize, ShortData, TrailingBytes}

-- a fault of the header as one of the file
abbrev pub ktx_fault : HeaderFault → KtxFault
ktx_fault (HasShortHeader n) = ShortHeader n
ktx_fault (HasBadIdentifier place) = BadIdentifier place
ktx_fault (HasBadEndian n) = BadEndian n
ktx_fault (HasBadSides width height) = BadSides width height
ktx_fault (HasTwoSlices n) = HasDepth n
ktx_fault (HasManyElements n) = TooManyElements n
ktx_fault (HasBadFaces n) = BadFaces n
ktx_fault (HasFacesNotSquare width height) = FacesNotSquare width height
ktx_fault (HasManyLevels n) = TooManyLevels n
ktx_fault (HasLongKeys n) = KeysTooLong n
ktx_fault (IsTooLarge n) = TooLarge n

-- the header that was read, with its fault as one of the file
abbrev pub in_file : {A : Type 0} → Result A HeaderFault → Result A KtxFault
in_file (Ok x) = Ok x
in_file (Err fault) = Err (ktx_fault fault)

-- a fault after the header as one of the file
abbrev pub data_fault : DataFault → KtxFault
data_fault (HasBadImageSize level found wanted) = BadImageSize level found wanted
data_fault (HasShortData n) = ShortData n
data_fault HasTrailingBytes = TrailingBytes

-- the value that was read after the header, or the fault there as one of the file
abbrev pub in_data : {A : Type 0} → Result A DataFault → Result A KtxFault
in_data (Ok x) = Ok x
in_data (Err fault) = Err (data_fault fault)
