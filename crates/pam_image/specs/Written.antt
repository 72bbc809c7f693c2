-- Images as this project writes them.
use Rattle.std.specs.Prelude.{ℕ, List, ◌++◌}
use Rattle.pam_header.specs.Written.{header_text}
use Rattle.images.specs.Pictures.{Pictures, bytes_of}

-- the bytes of a file of one image: its header and its texels
abbrev pub written : Pictures → List ℕ
written images = header_text images.width images.height ++ bytes_of images.texels
