-- Parts gathered at their places.
use Rattle.std.proofs.Common.{Global, String, ◌≡◌, ℕ, zero, suc, ◌+◌, ◌<◌, ◌≤◌, ◌==◌, ◌&&◌, Bool, true, false, List, [], ◌∷◌, length, map, drop, set, replicate, get_or, is_some, Option, Some, None, Result, Ok, Err, IfSome, refl, sym, ◌∙◌, ap, subst, arith, add-one}
use Rattle.std.specs.Prelude.{string_bytes, nat_eq, OnOk}
use lib.Pointwise.{pointwise, bytes_decides}
use Rattle.std.specs.List.{AllByRecursion}
use Rattle.std.proofs.lemmas.Bool.{eqb-true}
use Rattle.std.proofs.lemmas.List.{length-set, length-replicate, drop_all}
use Rattle.std.proofs.Math.Seq.{drop-cons}
use Rattle.tex_shelf.specs.Files.{Files, file_at}
use Rattle.tex_shelf.specs.declared.stop.Stop.{Stop}
use Rattle.tex_shelf.specs.declared.stop.Stop.TheVariants.{Fault, ReadFault, NoMemory}
use Rattle.astc_model.specs.FootprintNames.{gl_of}
use Rattle.astc_model.specs.declared.flavour.Flavour.{Flavour}
use Rattle.astc_model.specs.declared.footprint_name.FootprintName.{FootprintName}
use Rattle.texture.specs.declared.shape.Shape.{Shape}
use Rattle.ktx_file.specs.Headers.{format_at}
use Rattle.ktx_file.proofs.FormatLemmas.{format_at-gl}
use Rattle.part_file.specs.declared.fault.PartFault.{PartFault}
use Rattle.part_file.specs.declared.mark.JobMark.{JobMark}
use Rattle.part_file.specs.declared.front.Front.{Front}
use Rattle.part_file.specs.Files.{PartFile, IsPart, part_of}
use Rattle.outcomes.specs.Causes.{InputIs, Loads}
use Rattle.outcomes.specs.ManyEnds.{InputsAre}
use Rattle.tex_shelf.proofs.FaultsLemmas.{rose_since}
use Rattle.astc_words.specs.Commands.{texts}
use Rattle.parting.specs.Numbered.{EachFrom}
use Rattle.parting.specs.Joins.{Gathered, is_same_shape, is_same_mark, is_of, gathered_none, placed, with_part, with_file, with_first, first_with, parts_from, parts_in, complete_from, then_gathered, gathered_from, IsPartAt, AreParts}
use Rattle.parting.specs.Gathering.{in_word, part_at, AreSlots, parts_of, Changes, AreGathered, GathersTo, Steps, Completes}
use Rattle.parting.specs.declared.fault.JoinFault.{JoinFault}
use Rattle.parting.specs.declared.fault.JoinFault.TheVariants.{MissingPlace, NoPart}

-- ---- names

name-at : (words : List (String Global)) (k : ℕ) (word : String Global) → k < length words
    → word ≡ get_or words k word → string_bytes word ≡ get_or (texts words) k []
name-at [] k word inside is = absurd (omega arith)
name-at (w ∷ words) zero word inside is = ap string_bytes is
name-at (w ∷ words) (suc k) word inside is = name-at words k word (omega arith) is

pub all-at : {A : Type 0} (P : A → Type 0) (xs : List A) (k : ℕ) (d : A) → AllByRecursion P xs
    → k < length xs → P (get_or xs k d)
all-at P [] k d all inside = absurd (omega arith)
all-at P (x ∷ xs) zero d all inside = all.0
all-at P (x ∷ xs) (suc k) d all inside = all-at P xs k d all.1 (omega arith)

pub texts-length : (words : List (String Global)) → length (texts words) ≡ length words
texts-length [] = refl
texts-length (w ∷ words) = ap suc (texts-length words)

-- a name at its place
pub record IsNamed (names : List (List ℕ)) (k : ℕ) (name : List ℕ) : Type 0 where
  pub inside : k < length names
  pub is : name ≡ get_or names k []

-- a word, as a name
pub name-there : {word : String Global} {name : List ℕ} (words : List (String Global)) (k : ℕ)
    → k < length words → word ≡ get_or words k word → name ≡ string_bytes word
    → IsNamed (texts words) k name
name-there {word = word} words k inside there is = record {
  inside = omega (arith, texts-length words, inside);
  is = is ∙ name-at words k word inside there;
}

-- ---- the file of a word

pub input-in : (word : ℕ) (files : Option Files) (name : List ℕ) (read : Result PartFile PartFault)
    → InputIs part_of files name read → InputIs (part_at word) files name (in_word word read)
unfolding part_at
input-in word None name read is = tt
input-in word (Some files) name read is = (is.0, is.1, ap (in_word word) is.2)

ok-in : (word : ℕ) (read : Result PartFile PartFault) (part : PartFile) → in_word word read
    ≡ Ok part → read ≡ Ok part
ok-in word (Ok other) part is =
    let same : other ≡ part = (cc) in
    ap Ok same
ok-in word (Err fault) part is = absurd (cc)

fault-in : (word : ℕ) (read : Result PartFile PartFault) (fault : JoinFault) → in_word word read
    ≡ Err fault → (why : PartFault) × (read ≡ Err why) × (fault ≡ NoPart word why)
fault-in word (Ok other) fault is = absurd (cc)
fault-in word (Err why) fault is = (why, refl, cc)

-- ---- shapes

both-true : (p q : Bool) → (p && q) ≡ true → (p ≡ true) × (q ≡ true)
both-true true q is = (refl, is)
both-true false q is = absurd (cc)

pub same-format : (a b : FootprintName) (f g : Flavour) → gl_of a f ≡ gl_of b g → (a ≡ b) × (f ≡ g)
same-format a b f g same =
    let one : FootprintName × Flavour = (a, f) in
    let two : FootprintName × Flavour = (b, g) in
    let found : Some one ≡ Some two = sym (format_at-gl a f) ∙ ap format_at same
    ∙ format_at-gl b g in
    let pair : one ≡ two = (cc) in
    (ap (λ x. x.0) pair, ap (λ x. x.1) pair)

-- a shape by its fields
abbrev made : FootprintName → Flavour → ℕ → ℕ → ℕ → ℕ → ℕ → Shape
made n f w h e c l = record {
  name = n;
  flavour = f;
  width = w;
  height = h;
  elements = e;
  faces = c;
  levels = l;
}

pub shape-is : (a b : Shape) → a.name ≡ b.name → a.flavour ≡ b.flavour → a.width ≡ b.width
    → a.height ≡ b.height → a.elements ≡ b.elements → a.faces ≡ b.faces → a.levels ≡ b.levels → b
    ≡ a
shape-is a b name flavour width height elements faces levels =
    ap (λ x. made x b.flavour b.width b.height b.elements b.faces b.levels) (sym name)
    ∙ ap (λ x. made a.name x b.width b.height b.elements b.faces b.levels) (sym flavour)
    ∙ ap (λ x. made a.name a.flavour x b.height b.elements b.faces b.levels) (sym width)
    ∙ ap (λ x. made a.name a.flavour a.width x b.elements b.faces b.levels) (sym height)
    ∙ ap (λ x. made a.name a.flavour a.width a.height x b.faces b.levels) (sym elements)
    ∙ ap (λ x. made a.name a.flavour a.width a.height a.elements x b.levels) (sym faces)
    ∙ ap (λ x. made a.name a.flavour a.width a.height a.elements a.faces x) (sym levels)

pub same-shape : (a b : Shape) → is_same_shape a b ≡ true → b ≡ a
same-shape a b same =
    let one = both-true (gl_of a.name a.flavour == gl_of b.name b.flavour) (a.width == b.width
    && (a.height == b.height
    && (a.elements == b.elements && (a.faces == b.faces && a.levels == b.levels))))
    same in
    let two = both-true (a.width == b.width) (a.height == b.height
    && (a.elements == b.elements && (a.faces == b.faces && a.levels == b.levels))) one.1 in
    let three = both-true (a.height == b.height) (a.elements == b.elements
    && (a.faces == b.faces && a.levels == b.levels)) two.1 in
    let four = both-true (a.elements == b.elements) (a.faces == b.faces && a.levels == b.levels)
    three.1 in
    let five = both-true (a.faces == b.faces) (a.levels == b.levels) four.1 in
    let format = same-format a.name b.name a.flavour b.flavour
    (eqb-true (gl_of a.name a.flavour) (gl_of b.name b.flavour) one.0) in
    shape-is a b format.0 format.1 (eqb-true a.width b.width two.0)
    (eqb-true a.height b.height three.0) (eqb-true a.elements b.elements four.0)
    (eqb-true a.faces b.faces five.0) (eqb-true a.levels b.levels five.1)

-- marks and prefixes

mark-is : (a b : JobMark) → a.preset ≡ b.preset → a.weights ≡ b.weights → a.digest ≡ b.digest → b
    ≡ a
mark-is a b preset weights digest =
    ap (λ x. record { preset = x; weights = b.weights; digest = b.digest }) (sym preset)
    ∙ ap (λ x. record { preset = a.preset; weights = x; digest = b.digest }) (sym weights)
    ∙ ap (λ x. record { preset = a.preset; weights = a.weights; digest = x }) (sym digest)

same-mark : (a b : JobMark) → is_same_mark a b ≡ true → b ≡ a
same-mark a b same =
    let one = both-true (a.preset == b.preset) (pointwise nat_eq a.weights b.weights
    && a.digest == b.digest) same in
    let two = both-true (pointwise nat_eq a.weights b.weights) (a.digest == b.digest) one.1 in
    mark-is a b (eqb-true a.preset b.preset one.0) ((bytes_decides a.weights b.weights).0 two.0)
    (eqb-true a.digest b.digest two.1)

front-is : (front : Front) (shape : Shape) (mark : JobMark) (count : ℕ) → front.layout ≡ shape
    → front.mark ≡ mark → front.count ≡ count → front
    ≡ record { layout = shape; mark = mark; place = front.place; count = count }
front-is front shape mark count shape_is mark_is count_is =
    ap (λ x. record { layout = x; mark = front.mark; place = front.place; count = front.count })
    shape_is
    ∙ ap (λ x. record { layout = shape; mark = x; place = front.place; count = front.count })
    mark_is
    ∙ ap (λ x. record { layout = shape; mark = mark; place = front.place; count = x }) count_is

-- the prefix of a part of the job whose parts are gathered
abbrev of : Gathered → ℕ → Front
of gathered place = record {
  layout = gathered.shape;
  mark = gathered.mark;
  place = place;
  count = length gathered.slots;
}

same-front : (gathered : Gathered) (front : Front) → is_of gathered front ≡ true → front
    ≡ of gathered front.place
same-front gathered front same =
    let one = both-true (is_same_shape gathered.shape front.layout)
    (is_same_mark gathered.mark front.mark && length gathered.slots == front.count) same in
    let two = both-true (is_same_mark gathered.mark front.mark)
    (length gathered.slots == front.count) one.1 in
    front-is front gathered.shape gathered.mark (length gathered.slots)
    (same-shape gathered.shape front.layout one.0) (same-mark gathered.mark front.mark two.0)
    (sym (eqb-true (length gathered.slots) front.count two.1))

-- ---- slots

each-set : {A : Type 0} (P : ℕ → A → Type 0) (from k : ℕ) (xs : List A) (x : A) → EachFrom P from xs
    → P (from + k) x → EachFrom P from (set xs k x)
each-set P from k [] x each is = tt
each-set P from zero (y ∷ ys) x each is =
    let same : from + 0 ≡ from = omega arith in
    (subst (λ n. P n x) same is, each.1)
each-set P from (suc k) (y ∷ ys) x each is =
    let same : from + suc k ≡ from + 1 + k = omega arith in
    (each.0, each-set P (from + 1) k ys x each.1 (subst (λ n. P n x) same is))

-- none of the empty slots has a part
pub each-none : (shape : Shape) (mark : JobMark) (count from n : ℕ)
    → EachFrom (λ place (slot : Option PartFile). IfSome slot (IsPartAt shape mark count place))
    from (replicate n None)
each-none shape mark count from zero = tt
each-none shape mark count from (suc n) = (tt, each-none shape mark count (from + 1) n)

with-slots : (gathered : Gathered) (part : PartFile) → AreSlots gathered → IsPart part → part.front
    ≡ of gathered part.front.place
    → AreSlots (record {
      shape = gathered.shape;
      mark = gathered.mark;
      slots = set gathered.slots part.front.place (Some part);
    })
with-slots gathered part are is front =
    let long : length (set gathered.slots part.front.place (Some part)) ≡ length gathered.slots =
    length-set gathered.slots part.front.place (Some part) in
    let P : ℕ → ℕ → Option PartFile → Type 0 = λ n place slot.
    IfSome slot (IsPartAt gathered.shape gathered.mark n place) in
    let same : part.front.place ≡ 0 + part.front.place = omega arith in
    let here : IsPartAt gathered.shape gathered.mark (length gathered.slots)
    (0 + part.front.place) part = record { is = is; front = front ∙ ap (of gathered) same } in
    record {
      valid = are.valid;
      some = omega (arith, long, are.some);
      each = subst (λ n. EachFrom (P n) 0 (set gathered.slots part.front.place (Some part)))
          (sym long) (each-set (P (length gathered.slots)) 0 part.front.place gathered.slots
          (Some part) are.each here);
    }

slots-placed : (word : ℕ) (gathered now : Gathered) (part : PartFile) (slot : Option PartFile)
    → AreSlots gathered → IsPart part → part.front ≡ of gathered part.front.place
    → placed word gathered part slot ≡ Ok now → AreSlots now
slots-placed word gathered now part None are is front changes =
    let same : record {
      shape = gathered.shape;
      mark = gathered.mark;
      slots = set gathered.slots part.front.place (Some part);
    } ≡ now = (cc) in
    subst AreSlots same (with-slots gathered part are is front)
slots-placed word gathered now part (Some other) are is front changes = absurd (cc)

pub slots-changed : (word : ℕ) (gathered now : Gathered) (part : PartFile) (slot : Option PartFile)
    (result : Result (Unit {0}) JoinFault) → AreSlots gathered → IsPart part
    → is_of gathered part.front ≡ true
    → Changes (placed word gathered part slot) now result → OnOk result (AreSlots now)
slots-changed word gathered now part slot (Ok done) are is same changes =
    slots-placed word gathered now part slot are is (same-front gathered part.front same) changes
slots-changed word gathered now part slot (Err fault) are is same changes = tt

-- ---- whether all are there

missing-at : (place k : ℕ) (slots : List (Option PartFile))
    → ((j : ℕ) → j < k → is_some (get_or slots j None) ≡ true) → k < length slots
    → is_some (get_or slots k None) ≡ false
    → complete_from place slots ≡ Err (MissingPlace (place + k))
missing-at place k [] before inside none = absurd (omega arith)
missing-at place zero (None ∷ slots) before inside none = ap (λ n. Err (MissingPlace n))
    (omega arith)
missing-at place zero (Some part ∷ slots) before inside none = absurd (cc)
missing-at place (suc k) (None ∷ slots) before inside none =
    absurd (let some = before 0 (omega arith) in (cc))
missing-at place (suc k) (Some part ∷ slots) before inside none =
    let more : place + 1 + k ≡ place + suc k = omega arith in
    ap (with_first part) (missing-at (place + 1) k slots (λ j below. before (suc j) (omega arith))
    (omega arith) none) ∙ ap (λ n. Err (MissingPlace n)) more

pub missing-here : (k : ℕ) (slots : List (Option PartFile))
    → ((j : ℕ) → j < k → is_some (get_or slots j None) ≡ true) → k < length slots
    → is_some (get_or slots k None) ≡ false
    → complete_from 0 slots ≡ Err (MissingPlace k)
missing-here k slots before inside none =
    let same : 0 + k ≡ k = omega arith in
    missing-at 0 k slots before inside none ∙ ap (λ n. Err (MissingPlace n)) same

pub all-there : (place : ℕ) (slots : List (Option PartFile))
    → ((j : ℕ) → j < length slots → is_some (get_or slots j None) ≡ true)
    → complete_from place slots ≡ Ok (parts_of slots)
all-there place [] all = refl
all-there place (None ∷ slots) all = absurd (let some = all 0 (omega arith) in (cc))
all-there place (Some part ∷ slots) all =
    ap (with_first part) (all-there (place + 1) slots (λ j below. all (suc j) (omega arith)))

rest-complete : (part : PartFile) (rest : Result (List PartFile) JoinFault) (parts : List PartFile)
    → with_first part rest ≡ Ok (part ∷ parts) → rest ≡ Ok parts
rest-complete part (Ok others) parts is = (cc)
rest-complete part (Err fault) parts is = absurd (cc)

none-complete : (fault : JoinFault) (parts : List PartFile)
    → ◌≡◌ {A = Result (List PartFile) JoinFault} (Err fault) (Ok parts) → ⊥
none-complete fault parts is = (cc)

parts-length : (place : ℕ) (slots : List (Option PartFile)) → complete_from place slots
    ≡ Ok (parts_of slots) → length slots ≡ length (parts_of slots)
parts-length place [] all = refl
parts-length place (None ∷ slots) all =
    absurd (none-complete (MissingPlace place) (parts_of slots) all)
parts-length place (Some part ∷ slots) all =
    ap suc (parts-length (place + 1) slots (rest-complete part (complete_from (place + 1) slots)
    (parts_of slots) all))

parts-each : (shape : Shape) (mark : JobMark) (count place : ℕ) (slots : List (Option PartFile))
    → EachFrom (λ place slot. IfSome slot (IsPartAt shape mark count place)) place slots
    → complete_from place slots ≡ Ok (parts_of slots)
    → EachFrom (IsPartAt shape mark count) place (parts_of slots)
parts-each shape mark count place [] each all = tt
parts-each shape mark count place (None ∷ slots) each all =
    absurd (none-complete (MissingPlace place) (parts_of slots) all)
parts-each shape mark count place (Some part ∷ slots) each all = (
  each.0,
  parts-each shape mark count (place + 1) slots each.1
      (rest-complete part (complete_from (place + 1) slots) (parts_of slots) all),
)

pub are-parts : (gathered : Gathered) → AreSlots gathered → complete_from 0 gathered.slots
    ≡ Ok (parts_of gathered.slots) → AreParts gathered.shape gathered.mark (parts_of gathered.slots)
are-parts gathered are all =
    let long = parts-length 0 gathered.slots all in
    record {
      valid = are.valid;
      some = omega (arith, long, are.some);
      each = subst (λ n. EachFrom (IsPartAt gathered.shape gathered.mark n) 0
          (parts_of gathered.slots)) long
          (parts-each gathered.shape gathered.mark (length gathered.slots) 0 gathered.slots are.each
          all);
    }

-- ---- step by step

names-at : (names : List (List ℕ)) (k : ℕ) (name : List ℕ) → IsNamed names k name → drop k names
    ≡ name ∷ drop (k + 1) names
names-at names k name named = drop-cons names k [] named.inside
    ∙ ap (λ n. get_or names k [] ∷ drop n names) (sym (add-one k))
    ∙ ap (λ x. x ∷ drop (k + 1) names) (sym named.is)

-- the files from a name on
files-at : (names : List (List ℕ)) (files : Files) (k : ℕ) (name bytes : List ℕ)
    → IsNamed names k name → file_at files name ≡ Some bytes
    → map (file_at files) (drop k names) ≡ Some bytes ∷ map (file_at files) (drop (k + 1) names)
files-at names files k name bytes named there =
    ap (map (file_at files)) (names-at names k name named)
    ∙ ap (λ x. x ∷ map (file_at files) (drop (k + 1) names)) there

module _ (names : List (List ℕ)) (files : Files) (k : ℕ) (name bytes : List ℕ)
    (named : IsNamed names k name) (there : file_at files name ≡ Some bytes) (gathered : Gathered)
    (so_far : parts_in names files ≡ gathered_from (k + 2) gathered
    (map (file_at files) (drop k names))) where
  goes-on : parts_in names files ≡ then_gathered (with_file (k + 2) gathered (part_of bytes))
      (λ more. gathered_from (k + 2 + 1) more (map (file_at files) (drop (k + 1) names)))
  goes-on = so_far ∙ ap (gathered_from (k + 2) gathered)
      (files-at names files k name bytes named there)

  goes-as : (read : Result PartFile PartFault) → part_of bytes ≡ read
      → parts_in names files ≡ then_gathered (with_file (k + 2) gathered read)
      (λ more. gathered_from (k + 2 + 1) more (map (file_at files) (drop (k + 1) names)))
  goes-as read is = goes-on
      ∙ ap (λ r. then_gathered (with_file (k + 2) gathered r)
      (λ more. gathered_from (k + 2 + 1) more (map (file_at files) (drop (k + 1) names)))) is

  goes-to : (part : PartFile) (step : Result Gathered JoinFault) → part_of bytes ≡ Ok part
      → with_part (k + 2) gathered part ≡ step
      → parts_in names files ≡ then_gathered step
      (λ more. gathered_from (k + 2 + 1) more (map (file_at files) (drop (k + 1) names)))
  goes-to part step is changes = goes-as (Ok part) is
      ∙ ap (λ r. then_gathered r
      (λ more. gathered_from (k + 2 + 1) more (map (file_at files) (drop (k + 1) names))))
      changes

pub step-ok : (names : List (List ℕ)) (files : Option Files) (k : ℕ) (name : List ℕ)
    (gathered now : Gathered) (part : PartFile) → IsNamed names k name
    → AreGathered names files k gathered
    → InputIs (part_at (k + 2)) files name (Ok part) → with_part (k + 2) gathered part ≡ Ok now
    → AreGathered names files (k + 1) now
unfolding part_at
step-ok names None k name gathered now part named so_far is changes = tt
step-ok names (Some files) k name gathered now part named so_far is changes =
    let more : k + 2 + 1 ≡ k + 1 + 2 = omega arith in
    goes-to names files k name is.0 named is.1 gathered so_far part (Ok now)
    (ok-in (k + 2) (part_of is.0) part is.2) changes
    ∙ ap (λ n. gathered_from n now (map (file_at files) (drop (k + 1) names))) more

pub step-err : (names : List (List ℕ)) (files : Option Files) (k : ℕ) (name : List ℕ)
    (gathered : Gathered) (part : PartFile) (fault : JoinFault) → IsNamed names k name
    → AreGathered names files k gathered
    → InputIs (part_at (k + 2)) files name (Ok part) → with_part (k + 2) gathered part ≡ Err fault
    → InputsAre (parts_in names) files (Err fault)
unfolding part_at
step-err names None k name gathered part fault named so_far is changes = tt
step-err names (Some files) k name gathered part fault named so_far is changes =
    goes-to names files k name is.0 named is.1 gathered so_far part (Err fault)
    (ok-in (k + 2) (part_of is.0) part is.2) changes

pub read-err : (names : List (List ℕ)) (files : Option Files) (k : ℕ) (name : List ℕ)
    (gathered : Gathered) (fault : JoinFault) → IsNamed names k name
    → AreGathered names files k gathered
    → InputIs (part_at (k + 2)) files name (Err fault) → InputsAre (parts_in names) files
    (Err fault)
unfolding part_at
read-err names None k name gathered fault named so_far is = tt
read-err names (Some files) k name gathered fault named so_far is =
    let why = fault-in (k + 2) (part_of is.0) fault is.2 in
    goes-as names files k name is.0 named is.1 gathered so_far (Err why.0) why.1
    ∙ ap (λ f. Some (Err f)) (sym why.2)

-- ---- the first

module _ (names : List (List ℕ)) (files : Files) (name bytes : List ℕ)
    (named : IsNamed names 0 name) (there : file_at files name ≡ Some bytes) where
  begins-as : (read : Result PartFile PartFault) → part_of bytes ≡ read → parts_in names files
      ≡ first_with (map (file_at files) (drop 1 names)) read
  unfolding parts_in
  begins-as read is = ap parts_from (files-at names files 0 name bytes named there)
      ∙ ap (first_with (map (file_at files) (drop 1 names))) is

  begins-with : (part : PartFile) (step : Result Gathered JoinFault) → part_of bytes ≡ Ok part
      → with_part 2 (gathered_none part.front) part ≡ step
      → parts_in names files ≡ then_gathered step
      (λ more. gathered_from 3 more (map (file_at files) (drop 1 names)))
  begins-with part step is changes = begins-as (Ok part) is
      ∙ ap (λ r. then_gathered r
      (λ more. gathered_from 3 more (map (file_at files) (drop 1 names)))) changes

pub first-ok : (names : List (List ℕ)) (files : Option Files) (name : List ℕ) (now : Gathered)
    (part : PartFile) → IsNamed names 0 name
    → InputIs (part_at 2) files name (Ok part) → with_part 2 (gathered_none part.front) part
    ≡ Ok now → AreGathered names files 1 now
unfolding part_at
first-ok names None name now part named is changes = tt
first-ok names (Some files) name now part named is changes =
    begins-with names files name is.0 named is.1 part (Ok now)
    (ok-in 2 (part_of is.0) part is.2) changes

pub first-err : (names : List (List ℕ)) (files : Option Files) (name : List ℕ) (part : PartFile)
    (fault : JoinFault) → IsNamed names 0 name
    → InputIs (part_at 2) files name (Ok part) → with_part 2 (gathered_none part.front) part
    ≡ Err fault → InputsAre (parts_in names) files (Err fault)
unfolding part_at
first-err names None name part fault named is changes = tt
first-err names (Some files) name part fault named is changes =
    begins-with names files name is.0 named is.1 part (Err fault)
    (ok-in 2 (part_of is.0) part is.2) changes

pub first-read-err : (names : List (List ℕ)) (files : Option Files) (name : List ℕ)
    (fault : JoinFault) → IsNamed names 0 name
    → InputIs (part_at 2) files name (Err fault) → InputsAre (parts_in names) files (Err fault)
unfolding part_at
first-read-err names None name fault named is = tt
first-read-err names (Some files) name fault named is =
    let why = fault-in 2 (part_of is.0) fault is.2 in
    begins-as names files name is.0 named is.1 (Err why.0) why.1
    ∙ ap (λ f. Some (Err f)) (sym why.2)

-- ---- all of them

pub all-gathered : (names : List (List ℕ)) (files : Option Files) (gathered : Gathered)
    (read : Result (List PartFile) JoinFault) → AreGathered names files (length names) gathered
    → complete_from 0 gathered.slots ≡ read
    → InputsAre (parts_in names) files read
all-gathered names None gathered read are all = tt
all-gathered names (Some files) gathered read are all =
    are ∙ ap (λ ns. gathered_from (length names + 2) gathered (map (file_at files) ns))
    (drop_all (length names) names (omega arith)) ∙ ap Some all

-- ---- a step that stopped

pub first-stops : (names : List (List ℕ)) (files : Option Files) (name : List ℕ) (before now : ℕ)
    (stop : Stop JoinFault) → IsNamed names 0 name
    → Loads (part_at 2) files name before now (Err stop)
    → GathersTo names files 1 before now (Err stop)
first-stops names files name before now (Fault fault) named loads =
    first-read-err names files name fault named loads
first-stops names files name before now ReadFault named loads = loads
first-stops names files name before now NoMemory named loads = tt

pub next-stops : (names : List (List ℕ)) (files : Option Files) (k : ℕ) (name : List ℕ)
    (gathered later : Gathered) (before now : ℕ) (stop : Stop JoinFault) → IsNamed names k name
    → AreGathered names files k gathered
    → Loads (part_at (k + 2)) files name before now (Err stop)
    → Steps names files (k + 1) before now later (Err stop)
next-stops names files k name gathered later before now (Fault fault) named so_far loads =
    read-err names files k name gathered fault named so_far loads
next-stops names files k name gathered later before now ReadFault named so_far loads = loads
next-stops names files k name gathered later before now NoMemory named so_far loads = tt

pub first-completes : (names : List (List ℕ)) (files : Option Files) (k before now : ℕ)
    (stop : Stop JoinFault) → GathersTo names files k before now (Err stop)
    → Completes names files before now (Err stop)
first-completes names files k before now (Fault fault) gathers = gathers
first-completes names files k before now ReadFault gathers = gathers
first-completes names files k before now NoMemory gathers = tt

pub steps-complete : (names : List (List ℕ)) (files files_now : Option Files)
    (k first before now : ℕ) (gathered : Gathered) (stop : Stop JoinFault) → files_now ≡ files
    → first ≤ before → Steps names files_now k before now gathered (Err stop)
    → Completes names files first now (Err stop)
steps-complete names files files_now k first before now gathered (Fault fault) same later steps =
    subst (λ f. InputsAre (parts_in names) f (Err fault)) same steps
steps-complete names files files_now k first before now gathered ReadFault same later steps =
    rose_since first before now later steps
steps-complete names files files_now k first before now gathered NoMemory same later steps = tt

-- ---- the first part alone

pub none-is : (front : Front) (slots : List (Option PartFile)) → slots ≡ replicate front.count None
    → ◌≡◌ {A = Gathered} (record { shape = front.layout; mark = front.mark; slots = slots })
    (gathered_none front)
none-is front slots slots_are =
    ap (λ xs. record { shape = front.layout; mark = front.mark; slots = xs }) slots_are

pub none-are : (part : PartFile) → IsPart part → AreSlots (gathered_none part.front)
none-are part is = record {
  valid = is.front.valid;
  some = omega (
    arith,
    length-replicate {A = Option PartFile} part.front.count None,
    is.front.placed.below,
  );
  each = each-none part.front.layout part.front.mark
      (length (replicate {A = Option PartFile} part.front.count None)) 0 part.front.count;
}
