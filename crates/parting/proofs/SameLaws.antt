-- The shape of a part, from the bytes that its header is written as.
use Rattle.std.proofs.Common.{◌≡◌, ℕ, zero, suc, ◌+◌, ◌^◌, ◌<◌, ◌≤◌, max, Bool, true, false, List, [], ◌∷◌, ◌++◌, drop, if◌then◌else◌, sym, ◌∙◌, ap, arith, lit<, inl, inr}
use Rattle.std.specs.Prelude.{nat_le}
use Rattle.std.specs.List.{flat_map}
use Rattle.std.specs.Int.{w32, to_le_bytes}
use Rattle.byteorder.specs.Numbers.{little_number-reads_back}
use Rattle.ktx_header.specs.Orders.{number}
use Rattle.ktx_header.specs.declared.order.WordOrder.TheVariants.{Little}
use Rattle.astc_model.specs.Chains.{exponent_below, full_levels_of}
use Rattle.astc_model.specs.FootprintNames.{footprint_place, gl_of}
use Rattle.astc_model.specs.declared.flavour.Flavour.{Flavour}
use Rattle.astc_model.specs.declared.flavour.Flavour.TheVariants.{Linear, Srgb}
use Rattle.astc_model.specs.declared.footprint_name.FootprintName.{FootprintName}
use Rattle.astc_model.specs.declared.footprint_name.FootprintName.TheVariants.{F4x4, F5x4, F5x5, F6x5, F6x6, F8x5, F8x6, F8x8, F10x5, F10x6, F10x8, F10x10, F12x10, F12x12}
use Rattle.texture.specs.declared.shape.Shape.{Shape}
use Rattle.texture.specs.Shapes.{IsValid}
use Rattle.ktx_file.specs.Framing.{keys}
use Rattle.part_file.specs.Marks.{mark_bytes}
use Rattle.part_file.specs.declared.front.Front.{Front}
use Rattle.part_file.specs.Fronts.{front_of}
use Rattle.parting.proofs.GatherLaws.{same-format, shape-is}

-- ---- each number fits a word

place-small : (name : FootprintName) → footprint_place name < 14
place-small F4x4 = lit< tt
place-small F5x4 = lit< tt
place-small F5x5 = lit< tt
place-small F6x5 = lit< tt
place-small F6x6 = lit< tt
place-small F8x5 = lit< tt
place-small F8x6 = lit< tt
place-small F8x8 = lit< tt
place-small F10x5 = lit< tt
place-small F10x6 = lit< tt
place-small F10x8 = lit< tt
place-small F10x10 = lit< tt
place-small F12x10 = lit< tt
place-small F12x12 = lit< tt

format-fits : (name : FootprintName) (flavour : Flavour) → gl_of name flavour < 2 ^ 32
format-fits name Linear = omega (arith, place-small name)
format-fits name Srgb = omega (arith, place-small name)

exponent-next : (k r : ℕ) (test : Bool) → r ≤ k → (if test then suc k else r) ≤ suc k
exponent-next k r true most = omega arith
exponent-next k r false most = omega arith

exponent-most : (k n : ℕ) → exponent_below k n ≤ k
exponent-most zero n = omega arith
exponent-most (suc k) n = exponent-next k (exponent_below k n) (nat_le (2 ^ suc k) n)
    (exponent-most k n)

pub few-levels : (width height : ℕ) → full_levels_of width height ≤ 14
unfolding full_levels_of
few-levels width height = omega (arith, exponent-most 13 (max width height))

pub record HaveWords (shape : Shape) : Type 0 where
  pub width : shape.width < 2 ^ 32
  pub height : shape.height < 2 ^ 32
  pub elements : shape.elements < 2 ^ 32
  pub faces : shape.faces < 2 ^ 32
  pub levels : shape.levels < 2 ^ 32

pub valid-fits : (shape : Shape) → IsValid shape → HaveWords shape
valid-fits shape valid = record {
  width = omega (arith, valid.width_most);
  height = omega (arith, valid.height_most);
  elements = omega (arith, valid.elements_most);
  faces = elim valid.faces_known [ inl one ↦ omega arith | inr six ↦ omega arith ];
  levels = omega (arith, valid.levels_few);
}

-- the words of a prefix

word-again : (n : ℕ) (rest : List ℕ) → n < 2 ^ 32 → number Little (to_le_bytes w32 n ++ rest) ≡ n
unfolding number
word-again n rest fits = little_number-reads_back 4 n rest fits

module _ (front : Front) (rest : List ℕ) where
  abbrev shape : Shape
  shape = front.layout

  abbrev words : List ℕ → List ℕ
  words numbers = flat_map (to_le_bytes w32) numbers

  abbrev tail : List ℕ
  tail = keys ++ (to_le_bytes w32 front.place
      ++ (to_le_bytes w32 front.count ++ (mark_bytes front.mark ++ rest)))

  format-at : number Little (drop 44 (front_of front ++ rest)) ≡ gl_of shape.name shape.flavour
  unfolding front_of
  format-at = word-again (gl_of shape.name shape.flavour)
      (words (0x1908 ∷ shape.width ∷ shape.height ∷ 0 ∷ shape.elements ∷ shape.faces ∷ shape.levels
      ∷ 28 ∷ []) ++ tail) (format-fits shape.name shape.flavour)

  width-at : shape.width < 2 ^ 32 → number Little (drop 52 (front_of front ++ rest)) ≡ shape.width
  unfolding front_of
  width-at fits = word-again shape.width
      (words (shape.height ∷ 0 ∷ shape.elements ∷ shape.faces ∷ shape.levels ∷ 28 ∷ []) ++ tail)
      fits

  height-at : shape.height < 2 ^ 32 → number Little (drop 56 (front_of front ++ rest))
      ≡ shape.height
  unfolding front_of
  height-at fits = word-again shape.height
      (words (0 ∷ shape.elements ∷ shape.faces ∷ shape.levels ∷ 28 ∷ []) ++ tail) fits

  elements-at : shape.elements < 2 ^ 32 → number Little (drop 64 (front_of front ++ rest))
      ≡ shape.elements
  unfolding front_of
  elements-at fits = word-again shape.elements
      (words (shape.faces ∷ shape.levels ∷ 28 ∷ []) ++ tail) fits

  faces-at : shape.faces < 2 ^ 32 → number Little (drop 68 (front_of front ++ rest)) ≡ shape.faces
  unfolding front_of
  faces-at fits = word-again shape.faces (words (shape.levels ∷ 28 ∷ []) ++ tail) fits

  levels-at : shape.levels < 2 ^ 32 → number Little (drop 72 (front_of front ++ rest))
      ≡ shape.levels
  unfolding front_of
  levels-at fits = word-again shape.levels (words (28 ∷ []) ++ tail) fits

-- files that are the same are of one shape
pub shapes-same : (a b : Front) (rest more : List ℕ) → HaveWords a.layout → HaveWords b.layout
    → front_of a ++ rest ≡ front_of b ++ more → b.layout ≡ a.layout
shapes-same a b rest more fits also same =
    let at : (k : ℕ) → number Little (drop k (front_of a ++ rest))
    ≡ number Little (drop k (front_of b ++ more)) = λ k.
    ap (λ xs. number Little (drop k xs)) same in
    let format = same-format a.layout.name b.layout.name a.layout.flavour b.layout.flavour
    (sym (format-at a rest) ∙ at 44 ∙ format-at b more) in
    shape-is a.layout b.layout format.0 format.1
    (sym (width-at a rest fits.width) ∙ at 52 ∙ width-at b more also.width)
    (sym (height-at a rest fits.height) ∙ at 56 ∙ height-at b more also.height)
    (sym (elements-at a rest fits.elements) ∙ at 64 ∙ elements-at b more also.elements)
    (sym (faces-at a rest fits.faces) ∙ at 68 ∙ faces-at b more also.faces)
    (sym (levels-at a rest fits.levels) ∙ at 72 ∙ levels-at b more also.levels)
