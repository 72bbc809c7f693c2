-- The value of a known input, and what one reading excludes.
use Rattle.std.proofs.Common.{◌≡◌, ℕ, List, Option, Some, None, Result, Ok, Err, sym, ◌∙◌, ap}
use Rattle.tex_shelf.specs.Files.{Files, file_at}
use Rattle.outcomes.specs.Causes.{InputIs}

-- a known input is the value of its bytes
pub told-is : {A : Type 0} (reading : List ℕ → A) (told : Option Files) (known : Files)
    (input bytes : List ℕ) (read : A) → told ≡ Some known
    → file_at known input ≡ Some bytes → InputIs reading told input read → reading bytes ≡ read
told-is reading None known input bytes read same there is = absurd (cc)
told-is reading (Some files) known input bytes read same there is =
    let one : files ≡ known = (cc) in
    let both : Some is.0 ≡ Some bytes = sym is.1 ∙ ap (λ f. file_at f input) one ∙ there in
    let bytes_is : is.0 ≡ bytes = (cc) in
    ap reading (sym bytes_is) ∙ is.2

pub one-fault : {Read Fault : Type 0} (a b : Fault) → ◌≡◌ {A = Result Read Fault} (Err a) (Err b)
    → a ≡ b
one-fault a b same = (cc)

pub one-read : {Read Fault : Type 0} (a b : Read) → ◌≡◌ {A = Result Read Fault} (Ok a) (Ok b) → a
    ≡ b
one-read a b same = (cc)

pub not-both : {Read Fault : Type 0} (read : Read) (fault : Fault)
    → ◌≡◌ {A = Result Read Fault} (Ok read) (Err fault) → ⊥
not-both read fault same = (cc)
