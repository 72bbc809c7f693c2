-- The report on a header.
use Rattle.std.specs.Prelude.{ℕ, Result, Ok, Err}
use Rattle.astc_model.specs.FootprintNames.{gl_of}
use Rattle.ktx_header.specs.declared.order.WordOrder.{WordOrder}
use Rattle.ktx_header.specs.declared.order.WordOrder.TheVariants.{Little, Big}
use Rattle.ktx_file.specs.declared.front.KtxHeader.{KtxHeader}
use Rattle.ktx_file.specs.declared.fault.KtxFault.{KtxFault}
use Rattle.ktx_file.specs.declared.fault.KtxFault.TheVariants.{ShortHeader, BadIdentifier, BadEndian, NotCompressed, UnknownFormat, BadSides, HasDepth, TooManyElements, BadFaces, FacesNotSquare, TooManyLevels, KeysTooLong, TooLarge, BadImageSize, ShortData, TrailingBytes}
use Rattle.page.specs.declared.headers.HeaderTold.{HeaderTold}

-- the report on a fault with two numbers: its number and these, and else 0
abbrev pub of_two : (fault first second : ℕ) → HeaderTold
of_two fault first second = record {
  fault = fault;
  is_big = 0;
  format = 0;
  width = 0;
  height = 0;
  elements = 0;
  faces = 0;
  levels = 0;
  key_bytes = 0;
  first = first;
  second = second;
}

-- the same of a fault with one number
abbrev pub of_one : (fault first : ℕ) → HeaderTold
of_one fault first = of_two fault first 0

-- a fault by its place in the order of tests
abbrev pub told_fault : KtxFault → HeaderTold
told_fault (ShortHeader n) = of_one 1 n
told_fault (BadIdentifier n) = of_one 2 n
told_fault (BadEndian n) = of_one 3 n
told_fault (NotCompressed kind format) = of_two 4 kind format
told_fault (UnknownFormat n) = of_one 5 n
told_fault (BadSides width height) = of_two 6 width height
told_fault (HasDepth n) = of_one 7 n
told_fault (TooManyElements n) = of_one 8 n
told_fault (BadFaces n) = of_one 9 n
told_fault (FacesNotSquare width height) = of_two 10 width height
told_fault (TooManyLevels n) = of_one 11 n
told_fault (KeysTooLong n) = of_one 12 n
told_fault (TooLarge n) = of_one 13 n
told_fault (BadImageSize level found wanted) = of_two 14 found wanted
told_fault (ShortData n) = of_one 15 n
told_fault TrailingBytes = of_two 16 0 0

-- 1 if a word's high byte comes first, else 0
abbrev pub high_first : WordOrder → ℕ
high_first Little = 0
high_first Big = 1

-- the report on a header, its format by the number in OpenGL, or on its fault
abbrev pub told_of : Result KtxHeader KtxFault → HeaderTold
told_of (Ok header) = record {
  fault = 0;
  is_big = high_first header.order;
  format = gl_of header.layout.name header.layout.flavour;
  width = header.layout.width;
  height = header.layout.height;
  elements = header.layout.elements;
  faces = header.layout.faces;
  levels = header.layout.levels;
  key_bytes = header.key_bytes;
  first = 0;
  second = 0;
}
told_of (Err fault) = told_fault fault
