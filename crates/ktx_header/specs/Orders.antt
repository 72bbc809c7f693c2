-- The two orders of a file's words (Khronos KTX file format, version 1, "endianness").
use Rattle.std.specs.Prelude.{ℕ, List}
use Rattle.byteorder.specs.Endian.{little_number, big_number}
pub use Rattle.ktx_header.specs.declared.order.WordOrder.{WordOrder}
use Rattle.ktx_header.specs.declared.order.WordOrder.TheVariants.{Little, Big}

-- the word in the first four bytes
unfoldable pub number : WordOrder → List ℕ → ℕ
number Little bytes = little_number 4 bytes
number Big bytes = big_number 4 bytes
