-- The header of a PAM image as it is written (Netpbm PAM manual).
use Rattle.std.specs.Prelude.{ℕ, List, ◌++◌, codes}
use Rattle.std.specs.Fmt.{decimal}

-- the lines of the header of an image of this width and height, with a line feed after each
abbrev pub header_text : ℕ → ℕ → List ℕ
header_text width height =
    codes "P7\nWIDTH " ++ decimal width ++ codes "\nHEIGHT " ++ decimal height
    ++ codes "\nDEPTH 4\nMAXVAL 255\nTUPLTYPE RGB_ALPHA\nENDHDR\n"
