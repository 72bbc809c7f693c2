-- The faults of a file.
use Rattle.std.specs.Prelude.{Result, Ok, Err}
use Rattle.ktx_header.specs.declared.fault.HeaderFault.{HeaderFault}
use Rattle.ktx_header.specs.declared.fault.HeaderFault.TheVariants.{ShortHeader as HasShortHeader, BadIdentifier as HasBadIdentifier, BadEndian as HasBadEndian, BadSides as HasBadSides, HasDepth as HasTwoSlices, TooManyElements as HasManyElements, BadFaces as HasBadFaces, FacesNotSquare as HasFacesNotSquare, TooManyLevels as HasManyLevels, KeysTooLong as HasLongKeys, TooLarge as IsTooLarge}
use Rattle.ktx_header.specs.declared.fault.DataFault.{DataFault}
use Rattle.ktx_header.specs.declared.fault.DataFault.TheVariants.{BadImageSize as HasBadImageSize, ShortData as HasShortData, TrailingBytes as HasTrailingBytes}
pub use Rattle.ktx_source.specs.declared.fault.SourceFault.{SourceFault}
use Rattle.ktx_source.specs.declared.fault.SourceFault.TheVariants.{ShortHeader, BadIdentifier, BadEndian, BadSides, HasDepth, TooManyElements, BadFaces, FacesNotSquare, TooManyLevels, KeysTooLong, TooLarge, BadImageSize, ShortData, TrailingBytes}

-- a fault of the header as one of the file
abbrev pub header_fault : HeaderFault → SourceFault
header_fault (HasShortHeader n) = ShortHeader n
header_fault (HasBadIdentifier place) = BadIdentifier place
header_fault (HasBadEndian n) = BadEndian n
header_fault (HasBadSides width height) = BadSides width height
header_fault (HasTwoSlices n) = HasDepth n
header_fault (HasManyElements n) = TooManyElements n
header_fault (HasBadFaces n) = BadFaces n
header_fault (HasFacesNotSquare width height) = FacesNotSquare width height
header_fault (HasManyLevels n) = TooManyLevels n
header_fault (HasLongKeys n) = KeysTooLong n
header_fault (IsTooLarge n) = TooLarge n

-- the header that was read, with its fault as one of the file
abbrev pub in_header : {A : Type 0} → Result A HeaderFault → Result A SourceFault
in_header (Ok x) = Ok x
in_header (Err fault) = Err (header_fault fault)

-- a fault after the header as one of the file
abbrev pub data_fault : DataFault → SourceFault
data_fault (HasBadImageSize level found wanted) = BadImageSize level found wanted
data_fault (HasShortData n) = ShortData n
data_fault HasTrailingBytes = TrailingBytes

-- the value that was read after the header, or the fault there as one of the file
abbrev pub in_data : {A : Type 0} → Result A DataFault → Result A SourceFault
in_data (Ok x) = Ok x
in_data (Err fault) = Err (data_fault fault)
