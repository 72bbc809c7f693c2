-- The header that is written is read.
use Rattle.std.proofs.Common.{◌≡◌, ℕ, ◌+◌, ◌-◌, ◌*◌, ◌/◌, ◌%◌, ◌≤◌, true, false, List, [], ◌∷◌, ◌++◌, length, take, codes, Some, Ok, refl, sym, ◌∙◌, ap, arith, append_assoc, append-nil, length-append, lit<}
use Rattle.std.specs.List.{AllByRecursion}
use Rattle.std.specs.Fmt.{decimal}
use Rattle.std.proofs.lemmas.Fmt.{decimal_by_steps, length-decimal-le}
use Rattle.std.proofs.lemmas.Bool.{le-leb, le-ltb, ne_eqb}
use Rattle.pam_header.specs.declared.fault.HeaderName.TheVariants.{Width, Height, Depth, Maxval}
use Rattle.pam_header.specs.declared.line.HeaderLine.TheVariants.{Passed, End, Field}
use Rattle.pam_header.specs.Text.{lines_after, lines_of, is_blank, unblanked, first_word, behind_word}
use Rattle.decimal_text.specs.Numbers.{is_digit, digits_value, number_in}
use Rattle.pam_header.specs.Lines.{line_of, value_in}
use Rattle.pam_header.specs.Headers.{header_in, header_of, fields_of}
use Rattle.pam_header.specs.Written.{header_text}
use Rattle.std.proofs.Math.Seq.{take-append-add}
use Rattle.pam_header.specs.declared.header.Ending.TheVariants.{Whole}

-- a digit's code
abbrev Digit : ℕ → Type 0
Digit b = (48 ≤ b) × (b ≤ 57)

all-push : (ds : List ℕ) (d : ℕ) → AllByRecursion Digit ds → Digit d
    → AllByRecursion Digit (ds ++ d ∷ [])
all-push [] d all last = (last, tt)
all-push (b ∷ ds) d all last = (all.0, all-push ds d all.1 last)

-- a number is written in digits
digits_all : (n : ℕ) → n ≤ 8192 → AllByRecursion Digit (decimal n)
digits_all n small =
    decimal_by_steps (λ m ds. AllByRecursion Digit ds)
    (λ m one. ((omega arith, omega arith), tt))
    (λ m ds ten before. all-push ds (48 + m % 10) before (omega arith, omega arith))
    n (omega arith)

-- and not in none
digits_some : (n : ℕ) → n ≤ 8192 → 1 ≤ length (decimal n)
digits_some n small =
    decimal_by_steps (λ m ds. 1 ≤ length ds) (λ m one. omega arith) (λ m ds ten before.
    omega (arith, length-append ds ((48 + m % 10) ∷ []))) n (omega arith)

digit_is : (b : ℕ) → Digit b → is_digit b ≡ true
digit_is b range = rw (le-leb 48 b range.0, le-leb b 57 range.1) refl

not_blank : (b : ℕ) → Digit b → is_blank b ≡ false
not_blank b range =
    rw (
      ne_eqb b 9 (λ e. absurd (omega (arith, range.0))),
      ne_eqb b 11 (λ e. absurd (omega (arith, range.0))),
      ne_eqb b 12 (λ e. absurd (omega (arith, range.0))),
      ne_eqb b 13 (λ e. absurd (omega (arith, range.0))),
      ne_eqb b 32 (λ e. absurd (omega (arith, range.0))),
    ) refl

-- a line that ends in digits
digits_line : (line ds rest : List ℕ) → AllByRecursion Digit ds → lines_after line (ds ++ 10 ∷ rest)
    ≡ (line ++ ds) ∷ lines_after [] rest
digits_line line [] rest all = rw (append-nil line) refl
digits_line line (b ∷ ds) rest all =
    rw (ne_eqb b 10 (λ e. absurd (omega (arith, all.0.0))))
    (digits_line (line ++ b ∷ []) ds rest all.1 ∙ ap (λ xs. xs ∷ lines_after [] rest)
    (append_assoc line (b ∷ []) ds))

-- digits are one word
word_is : (ds : List ℕ) → AllByRecursion Digit ds → first_word ds ≡ ds
word_is [] all = refl
word_is (b ∷ ds) all = rw (not_blank b all.0) (ap (λ xs. b ∷ xs) (word_is ds all.1))

behind_is : (ds : List ℕ) → AllByRecursion Digit ds → behind_word ds ≡ []
behind_is [] all = refl
behind_is (b ∷ ds) all = rw (not_blank b all.0) (behind_is ds all.1)

unblanked_is : (ds : List ℕ) → AllByRecursion Digit ds → unblanked ds ≡ ds
unblanked_is [] all = refl
unblanked_is (b ∷ ds) all = rw (not_blank b all.0) refl

-- the value of digits
value_is : (n : ℕ) → n ≤ 8192 → digits_value 0 (decimal n) ≡ Some n
value_is n small =
    ap (digits_value 0) (sym (append-nil (decimal n)))
    ∙ decimal_by_steps (λ m ds. m ≤ 8192 → (tail : List ℕ) → digits_value 0 (ds ++ tail)
    ≡ digits_value m tail)
    (λ m one few tail.
    let low : 48 ≤ 48 + m = omega arith in
    let high : 48 + m ≤ 57 = omega arith in
    let within : 10 * 0 + (48 + m - 48) ≤ 4294967295 = omega arith in
    let whole : 10 * 0 + (48 + m - 48) ≡ m = omega arith in
    rw (le-leb 48 (48 + m) low, le-leb (48 + m) 57 high, whole, le-leb m 4294967295 (omega arith))
    refl)
    (λ m ds ten before few tail.
    let last : ℕ = 48 + m % 10 in
    let low : 48 ≤ last = omega arith in
    let high : last ≤ 57 = omega arith in
    let whole : 10 * (m / 10) + (last - 48) ≡ m = omega arith in
    ap (digits_value 0) (append_assoc ds (last ∷ []) tail)
    ∙ before (omega arith) (last ∷ tail)
    ∙ rw (le-leb 48 last low, le-leb last 57 high, whole, le-leb m 4294967295 (omega arith)) refl)
    n (omega arith) small []

number_is : (n : ℕ) → n ≤ 8192 → number_in (decimal n) ≡ Some n
number_is n small =
    let some : 1 ≤ length (decimal n) = digits_some n small in
    let most : length (decimal n) ≤ 4 = length-decimal-le 4 n (lit< tt) (omega arith)
    (omega arith) in
    rw (
      ne_eqb (length (decimal n)) 0 (λ e. absurd (omega arith)),
      le-ltb 10 (length (decimal n))
          (omega arith),
    ) (value_is n small)

value_in-is : (n : ℕ) → n ≤ 8192 → value_in (decimal n) ≡ Some n
unfolding value_in
value_in-is n small = rw (
  behind_is (decimal n) (digits_all n small),
  word_is (decimal n)
      (digits_all n small),
) (number_is n small)

-- the two lines with a side
pub width_line : (n : ℕ) → n ≤ 8192 → line_of (codes "WIDTH " ++ decimal n) ≡ Field Width (Some n)
unfolding line_of
width_line n small = rw (unblanked_is (decimal n) (digits_all n small), value_in-is n small) refl

pub height_line : (n : ℕ) → n ≤ 8192 → line_of (codes "HEIGHT " ++ decimal n)
    ≡ Field Height (Some n)
unfolding line_of
height_line n small = rw (unblanked_is (decimal n) (digits_all n small), value_in-is n small) refl

depth_line : line_of (codes "DEPTH 4") ≡ Field Depth (Some 4)
unfolding line_of value_in
depth_line = refl

maxval_line : line_of (codes "MAXVAL 255") ≡ Field Maxval (Some 255)
unfolding line_of value_in
maxval_line = refl

type_line : line_of (codes "TUPLTYPE RGB_ALPHA") ≡ Passed
unfolding line_of
type_line = refl

end_line : line_of (codes "ENDHDR") ≡ End
unfolding line_of
end_line = refl

-- the header as it is written, line by line
abbrev pub text_of : List ℕ → List ℕ → List ℕ → List ℕ
text_of width height rest =
    codes "P7\nWIDTH " ++ (width ++ 10
    ∷ (codes "HEIGHT " ++ (height ++ 10
    ∷ (codes "DEPTH 4\nMAXVAL 255\nTUPLTYPE RGB_ALPHA\nENDHDR\n" ++ rest))))

lines_are : (width height rest : List ℕ) → AllByRecursion Digit width → AllByRecursion Digit height
    → lines_of (text_of width height rest) ≡ codes "P7" ∷ (codes "WIDTH " ++ width)
    ∷ (codes "HEIGHT " ++ height) ∷ codes "DEPTH 4" ∷ codes "MAXVAL 255"
    ∷ codes "TUPLTYPE RGB_ALPHA" ∷ codes "ENDHDR" ∷ lines_of rest
unfolding lines_of
lines_are width height rest wide high =
    rw (
      digits_line (codes "WIDTH ") width
          (codes "HEIGHT " ++ (height ++ 10
          ∷ (codes "DEPTH 4\nMAXVAL 255\nTUPLTYPE RGB_ALPHA\nENDHDR\n" ++ rest))) wide,
      digits_line (codes "HEIGHT ") height
          (codes "DEPTH 4\nMAXVAL 255\nTUPLTYPE RGB_ALPHA\nENDHDR\n" ++ rest) high,
    ) refl

-- the header that is written is found, whatever follows
pub header_again : (image width height : ℕ) (rest : List ℕ) → width ≤ 8192 → height ≤ 8192
    → header_in image (text_of (decimal width) (decimal height) rest)
    ≡ Whole (record {
      seen = record {
        width = Some width;
        height = Some height;
        depth = Some 4;
        maxval = Some 255;
      };
      size = 63 + length (decimal width) + length
          (decimal height);
    })
unfolding header_in
header_again image width height rest wide high =
    rw (
      lines_are (decimal width) (decimal height) rest (digits_all width wide)
          (digits_all height high),
      width_line width wide,
      height_line height high,
      depth_line,
      maxval_line,
      type_line,
      end_line,
    )
    (ap (λ n. Whole (record {
      seen = record {
        width = Some width;
        height = Some height;
        depth = Some 4;
        maxval = Some 255;
      };
      size = n;
    })) (omega arith))

-- and the same of the header as one text
text_is : (width height : ℕ) (rest : List ℕ) → header_text width height ++ rest
    ≡ text_of (decimal width) (decimal height) rest
text_is width height rest = simp append_assoc

lengths : (a w b h c : List ℕ) → length (a ++ w ++ b ++ h ++ c)
    ≡ length a + length w + length b + length h + length c
lengths a w b h c = simp length-append

length-header_text : (width height : ℕ) → length (header_text width height)
    ≡ 63 + length (decimal width) + length (decimal height)
length-header_text width height =
    omega (
      arith,
      lengths (codes "P7\nWIDTH ") (decimal width) (codes "\nHEIGHT ") (decimal height)
          (codes "\nDEPTH 4\nMAXVAL 255\nTUPLTYPE RGB_ALPHA\nENDHDR\n"),
    )

-- the start of a text and its rest, cut at a place after the text
front_split : (text rest : List ℕ) (n : ℕ) → length text ≤ n → take n (text ++ rest)
    ≡ text ++ take (n - length text) rest
front_split text rest n within =
    let place : n ≡ length text + (n - length text) = omega arith in
    ap (λ k. take k (text ++ rest)) place ∙ take-append-add text rest (n - length text)

pub header_of-written : (image width height : ℕ) (rest : List ℕ) → 1 ≤ width → width ≤ 8192
    → 1 ≤ height → height ≤ 8192
    → header_of image (header_text width height ++ rest)
    ≡ Ok (record {
      width = width;
      height = height;
      depth = 4;
      size = length (header_text width height);
    })
unfolding header_of fields_of
header_of-written image width height rest width_some width_most height_some height_most =
    let text : List ℕ = header_text width height in
    let wide : length (decimal width) ≤ 4 = length-decimal-le 4 width (lit< tt) (omega arith)
    (omega arith) in
    let high : length (decimal height) ≤ 4 = length-decimal-le 4 height (lit< tt) (omega arith)
    (omega arith) in
    let short : length text ≤ 4096 = omega (arith, length-header_text width height) in
    let front : take 4096 (text ++ rest) ≡ text_of (decimal width) (decimal height)
    (take (4096 - length text) rest) =
    front_split text rest 4096 short ∙ text_is width height (take (4096 - length text) rest)
    in
    rw (
      front,
      header_again image width height (take (4096 - length text) rest) width_most height_most,
      le-leb 1 width width_some,
      le-leb width 8192 width_most,
      le-leb 1 height height_some,
      le-leb height 8192 height_most,
      length-header_text width height,
    ) refl
