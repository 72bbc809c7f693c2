-- The files that a shelf keeps: a finite map from names to contents, both as lists of bytes. The
-- files are None if they are unknown, and stay None whatever is done to the shelf.
use Rattle.std.specs.Prelude.{ℕ, List, [], ◌++◌, Option, Some, None, option_map}
use Rattle.std.specs.Ordering.{nat_cmp}
use Rattle.std.specs.Cmp.Lexicographic.{slice_cmp}
use Rattle.std.specs.FinMap.{FinMap, get, insert, code}
use Rattle.std.specs.Coded.{Coded, coded_ℕ, coded_list}

-- contents by name
abbrev pub Files : Type 0
Files = FinMap (slice_cmp nat_cmp) (List ℕ)

-- how files are stored in a model's value
abbrev pub files_code : Coded Files
files_code = code (coded_list coded_ℕ) (coded_list coded_ℕ)

-- the file of this name
abbrev pub file_at : Files → List ℕ → Option (List ℕ)
file_at files name = get files name

-- the file with this name, if the files are known
abbrev pub file_under : Option Files → List ℕ → Option (List ℕ)
file_under None name = None
file_under (Some files) name = file_at files name

-- with this file, instead of one of its name
abbrev pub with_file : Option Files → List ℕ → List ℕ → Option Files
with_file files name bytes = option_map (λ known. insert known name bytes) files

-- the files with more bytes at the end of the file of this name, whose bytes so far are given
abbrev pub grown : Files → List ℕ → Option (List ℕ) → List ℕ → Files
grown files name None more = files
grown files name (Some bytes) more = insert files name (bytes ++ more)

-- the files with more bytes at the end of the file of the target's name
abbrev pub appended : Files → Option (List ℕ) → List ℕ → Files
appended files None more = files
appended files (Some name) more = grown files name (file_at files name) more

-- with more bytes at the end of the target
abbrev pub with_more : Option Files → Option (List ℕ) → List ℕ → Option Files
with_more files target more = option_map (λ known. appended known target more) files

-- with a new file of this name, into which these bytes were put
abbrev pub stored : Option Files → List ℕ → List ℕ → Option Files
stored files name bytes = with_more (with_file files name []) (Some name) bytes

-- these bytes, then the rest
abbrev pub with_front : List ℕ → Option (List ℕ) → Option (List ℕ)
with_front front left = option_map (λ rest. front ++ rest) left

-- nothing is left
abbrev pub emptied : Option (List ℕ) → Option (List ℕ)
emptied left = option_map (λ _. []) left

-- the written bytes, with these bytes at the end
abbrev pub with_text : Option (List ℕ) → List ℕ → Option (List ℕ)
with_text written text = option_map (λ before. before ++ text) written
