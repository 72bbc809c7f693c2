-- Laws of files by name, and of contents that are known or not.
use Rattle.std.proofs.Common.{◌≡◌, ◌≢◌, inl, inr, ℕ, List, [], ◌++◌, Option, Some, None, Bool, true, false, cond, refl, sym, ◌∙◌, ap, append_assoc, append-nil, IsSome, is_some}
use Rattle.std.proofs.lemmas.Bool.{cond-true, cond-false, cases_Bool}
use Rattle.std.specs.Ordering.{nat_cmp, eq_by_cmp}
use Rattle.std.specs.Cmp.{Equal-is, eq_by_cmp_equiv}
use Rattle.std.specs.Cmp.Lexicographic.{slice_cmp, nat_list_cmp_total}
use Rattle.std.specs.FinMap.{insert, get-insert, same_map, slice_cmp-IsAntisymmetric, nat_cmp-IsAntisymmetric}
use Rattle.tex_shelf.specs.Files.{Files, file_at, file_under, with_file, grown, appended, with_more, stored, with_front, emptied, with_text}

-- whether two names are one
abbrev pub same_name : List ℕ → List ℕ → Bool
same_name = eq_by_cmp (slice_cmp nat_cmp)

pub same_name_self : (name : List ℕ) → same_name name name ≡ true
same_name_self = (eq_by_cmp_equiv nat_list_cmp_total).refl

pub same_name_is : (x y : List ℕ) → same_name x y ≡ true → x ≡ y
same_name_is x y is = slice_cmp-IsAntisymmetric nat_cmp-IsAntisymmetric x y ((Equal-is _).0 is)

pub other_name : (x y : List ℕ) → x ≢ y → same_name x y ≡ false
other_name x y apart = elim (cases_Bool (same_name x y)) [
  | inl is ↦ absurd
      (apart (same_name_is x y is))
  | inr not ↦ not
]

pub file_at-insert : (files : Files) (name bytes q : List ℕ) → file_at (insert files name bytes) q
    ≡ cond (same_name q name) (Some bytes) (file_at files q)
file_at-insert files name bytes q = get-insert nat_list_cmp_total files name bytes q

pub file_at-insert_same : (files : Files) (name bytes : List ℕ)
    → file_at (insert files name bytes) name ≡ Some bytes
file_at-insert_same files name bytes = file_at-insert files name bytes name
    ∙ cond-true _ _ _ (same_name_self name)

pub file_at-insert_other : (files : Files) (name bytes q : List ℕ) → q ≢ name
    → file_at (insert files name bytes) q ≡ file_at files q
file_at-insert_other files name bytes q apart = file_at-insert files name bytes q
    ∙ cond-false _ _ _ (other_name q name apart)

pub same_files : (f g : Files) → ((q : List ℕ) → file_at f q ≡ file_at g q) → f ≡ g
same_files = same_map nat_list_cmp_total (slice_cmp-IsAntisymmetric nat_cmp-IsAntisymmetric)

again : {A : Type 0} (b : Bool) (x y z : A) → cond b x (cond b y z) ≡ cond b x z
again true x y z = refl
again false x y z = refl

-- the later of two files of one name counts
pub insert-insert : (files : Files) (name a b : List ℕ) → insert (insert files name a) name b
    ≡ insert files name b
insert-insert files name a b =
    same_files _ _ (λ q. file_at-insert (insert files name a) name b q
    ∙ ap (cond (same_name q name) (Some b)) (file_at-insert files name a q)
    ∙ again (same_name q name) (Some b) (Some a) (file_at files q)
    ∙ sym (file_at-insert files name b q))

-- to set a file that is there changes nothing
pub insert-there : (files : Files) (name bytes : List ℕ) → file_at files name ≡ Some bytes
    → insert files name bytes ≡ files
insert-there files name bytes there =
    same_files _ _ (λ q. elim (cases_Bool (same_name q name)) [
      | inl is ↦ file_at-insert files name bytes q ∙ cond-true _ _ _ is ∙ sym there
          ∙ ap (file_at files) (sym (same_name_is q name is))
      | inr not ↦ file_at-insert files name bytes q ∙ cond-false _ _ _ not
    ])

crossed : {A : Type 0} (b c : Bool) (x y z : A) → (b ≡ true → c ≡ true → ⊥) → cond b x (cond c y z)
    ≡ cond c y (cond b x z)
crossed true true x y z apart = absurd (apart refl refl)
crossed true false x y z apart = refl
crossed false true x y z apart = refl
crossed false false x y z apart = refl

-- files of two names may be set in either order
pub insert_comm : (files : Files) (m a n b : List ℕ) → m ≢ n → insert (insert files m a) n b
    ≡ insert (insert files n b) m a
insert_comm files m a n b apart =
    same_files _ _ (λ q. file_at-insert (insert files m a) n b q
    ∙ ap (cond (same_name q n) (Some b)) (file_at-insert files m a q)
    ∙ crossed (same_name q n) (same_name q m) (Some b) (Some a) (file_at files q)
    (λ is_n is_m. apart (sym (same_name_is q m is_m) ∙ same_name_is q n is_n))
    ∙ ap (cond (same_name q m) (Some a)) (sym (file_at-insert files n b q))
    ∙ sym (file_at-insert (insert files n b) m a q))

grown-nil : (files : Files) (name : List ℕ) (bytes : Option (List ℕ)) → file_at files name ≡ bytes
    → grown files name bytes [] ≡ files
grown-nil files name None is = refl
grown-nil files name (Some bytes) is = ap (insert files name) (append-nil bytes)
    ∙ insert-there files name bytes is

grown-grown : (files : Files) (name : List ℕ) (bytes : Option (List ℕ)) (a b : List ℕ)
    → file_at files name ≡ bytes
    → grown (grown files name bytes a) name (file_at (grown files name bytes a) name) b
    ≡ grown files name bytes (a ++ b)
grown-grown files name None a b is = ap (λ there. grown files name there b) is
grown-grown files name (Some bytes) a b is =
    ap (λ there. grown (insert files name (bytes ++ a)) name there b)
    (file_at-insert_same files name (bytes ++ a))
    ∙ insert-insert files name (bytes ++ a) ((bytes ++ a) ++ b)
    ∙ ap (insert files name) (append_assoc bytes a b)

-- nothing more
pub with_more-nil : (files : Option Files) (target : Option (List ℕ)) → with_more files target []
    ≡ files
with_more-nil None target = refl
with_more-nil (Some known) None = refl
with_more-nil (Some known) (Some name) = ap Some (grown-nil known name (file_at known name) refl)

-- two pieces, one after the other
pub with_more-with_more : (files : Option Files) (target : Option (List ℕ)) (a b : List ℕ)
    → with_more (with_more files target a) target b ≡ with_more files target (a ++ b)
with_more-with_more None target a b = refl
with_more-with_more (Some known) None a b = refl
with_more-with_more (Some known) (Some name) a b =
    ap Some (grown-grown known name (file_at known name) a b refl)

-- nothing in front
pub with_front-nil : (left : Option (List ℕ)) → with_front [] left ≡ left
with_front-nil None = refl
with_front-nil (Some rest) = refl

-- two pieces in front, one after the other
pub with_front-with_front : (a b : List ℕ) (left : Option (List ℕ))
    → with_front a (with_front b left) ≡ with_front (a ++ b) left
with_front-with_front a b None = refl
with_front-with_front a b (Some rest) = ap Some (sym (append_assoc a b rest))

-- contents that are known and empty
pub emptied-told : (left : Option (List ℕ)) → IsSome left → left ≡ emptied left → left ≡ Some []
emptied-told None told is = cc
emptied-told (Some rest) told is = is

-- the file that was set, if the files are known
pub file_under-with_file : (known : Files) (name bytes : List ℕ)
    → file_under (with_file (Some known) name bytes) name ≡ Some bytes
file_under-with_file known name bytes = file_at-insert_same known name bytes

-- and each file of another name
pub file_under-with_file_other : (files : Option Files) (name bytes q : List ℕ) → q ≢ name
    → file_under (with_file files name bytes) q ≡ file_under files q
file_under-with_file_other None name bytes q apart = refl
file_under-with_file_other (Some known) name bytes q apart =
    file_at-insert_other known name bytes q apart

-- the target with more bytes at its end
pub file_under-with_more : (files : Option Files) (name more before : List ℕ)
    → file_under files name ≡ Some before → file_under (with_more files (Some name) more) name
    ≡ Some (before ++ more)
file_under-with_more None name more before there = cc
file_under-with_more (Some known) name more before there =
    ap (λ bytes. file_at (grown known name bytes more) name) there ∙ file_at-insert_same known name
    (before ++ more)

grown_other : (known : Files) (name : List ℕ) (bytes : Option (List ℕ)) (more q : List ℕ) → q ≢ name
    → file_at (grown known name bytes more) q ≡ file_at known q
grown_other known name None more q apart = refl
grown_other known name (Some bytes) more q apart = file_at-insert_other known name
    (bytes ++ more) q apart

-- and each file of another name
pub file_under-with_more_other : (files : Option Files) (name more q : List ℕ) → q ≢ name
    → file_under (with_more files (Some name) more) q ≡ file_under files q
file_under-with_more_other None name more q apart = refl
file_under-with_more_other (Some known) name more q apart =
    grown_other known name (file_at known name) more q apart

-- more bytes for the file that was set last
pub appended-insert : (files : Files) (name bytes more : List ℕ)
    → appended (insert files name bytes) (Some name) more ≡ insert files name (bytes ++ more)
appended-insert files name bytes more =
    ap (λ there. grown (insert files name bytes) name there more)
    (file_at-insert_same files name bytes) ∙ insert-insert files name bytes (bytes ++ more)

-- what was made empty and then given bytes has these bytes
pub stored-is : (files : Option Files) (name bytes : List ℕ) → stored files name bytes
    ≡ with_file files name bytes
stored-is None name bytes = refl
stored-is (Some known) name bytes = ap Some (appended-insert known name [] bytes)

pub file_under-stored : (known : Files) (name bytes : List ℕ)
    → file_under (stored (Some known) name bytes) name ≡ Some bytes
file_under-stored known name bytes = ap (λ f. file_under f name) (stored-is (Some known) name bytes)
    ∙ file_under-with_file known name bytes

pub file_under-stored_other : (files : Option Files) (name bytes q : List ℕ) → q ≢ name
    → file_under (stored files name bytes) q ≡ file_under files q
file_under-stored_other files name bytes q apart =
    ap (λ f. file_under f q) (stored-is files name bytes)
    ∙ file_under-with_file_other files name bytes q apart

-- more bytes after the ones that were put
pub with_more-stored : (files : Option Files) (name a b : List ℕ) → with_more (stored files name a)
    (Some name) b ≡ stored files name (a ++ b)
with_more-stored files name a b = with_more-with_more (with_file files name []) (Some name) a b

-- a file that was stored again has the later bytes
pub stored-stored : (files : Option Files) (name a b : List ℕ) → stored (stored files name a) name b
    ≡ stored files name b
stored-stored None name a b = refl
stored-stored (Some known) name a b =
    ap (λ f. stored f name b) (stored-is (Some known) name a)
    ∙ stored-is (Some (insert known name a)) name b
    ∙ ap Some (insert-insert known name a b)
    ∙ sym (stored-is (Some known) name b)

-- files of two names may be stored in either order
pub stored_comm : (files : Option Files) (m a n b : List ℕ) → m ≢ n → stored (stored files m a) n b
    ≡ stored (stored files n b) m a
stored_comm None m a n b apart = refl
stored_comm (Some known) m a n b apart =
    ap (λ f. stored f n b) (stored-is (Some known) m a)
    ∙ stored-is (Some (insert known m a)) n b
    ∙ ap Some (insert_comm known m a n b apart)
    ∙ sym (stored-is (Some (insert known n b)) m a)
    ∙ ap (λ f. stored f m a) (sym (stored-is (Some known) n b))

-- a report's text, one piece after another
pub with_text-with_text : (written : Option (List ℕ)) (a b : List ℕ)
    → with_text (with_text written a) b ≡ with_text written (a ++ b)
with_text-with_text None a b = refl
with_text-with_text (Some before) a b = ap Some (append_assoc before a b)

-- what `create` and then `put_all` leave
pub stored-created : (f g h : Option Files) (target : Option (List ℕ)) (name bytes : List ℕ) → g
    ≡ with_file f name [] → target ≡ Some name → h ≡ with_more g target bytes → h
    ≡ stored f name bytes
stored-created f g h target name bytes created is put = put ∙ ap (λ t. with_more g t bytes) is
    ∙ ap (λ k. with_more k (Some name) bytes) created

-- and then another `put_all`
pub stored-more : (f g h : Option Files) (target : Option (List ℕ)) (name a b : List ℕ) → g
    ≡ stored f name a → target ≡ Some name → h ≡ with_more g target b → h ≡ stored f name (a ++ b)
stored-more f g h target name a b before is put =
    put ∙ ap (λ t. with_more g t b) is ∙ ap (λ k. with_more k (Some name) b) before
    ∙ with_more-stored f name a b

-- what was taken up to the end is all that was left
pub taken_to_end : (left rest : Option (List ℕ)) (bytes : List ℕ) → IsSome left → left
    ≡ with_front bytes rest → rest ≡ emptied rest → left ≡ Some bytes
taken_to_end left None bytes told is ended = cc
taken_to_end left (Some rest) bytes told is ended = is ∙ ap (with_front bytes) ended
    ∙ ap Some (append-nil bytes)

-- the rest stays known or unknown
pub is_some-with_front : (bytes : List ℕ) (left : Option (List ℕ)) → is_some (with_front bytes left)
    ≡ is_some left
is_some-with_front bytes None = refl
is_some-with_front bytes (Some rest) = refl

-- a file that is there stays there
some_either : {A : Type 0} (b : Bool) (x : A) (y : Option A) → IsSome y → IsSome (cond b (Some x) y)
some_either true x y there = refl
some_either false x y there = there

pub has_file-insert : (files : Files) (name bytes q : List ℕ) → IsSome (file_at files q)
    → IsSome (file_at (insert files name bytes) q)
has_file-insert files name bytes q there = rw (file_at-insert files name bytes q)
    (some_either (same_name q name) bytes (file_at files q) there)

has_file-grown : (files : Files) (name : List ℕ) (bytes : Option (List ℕ)) (more q : List ℕ)
    → IsSome (file_at files q) → IsSome (file_at (grown files name bytes more) q)
has_file-grown files name None more q there = there
has_file-grown files name (Some bytes) more q there =
    has_file-insert files name (bytes ++ more) q there

pub has_file-appended : (files : Files) (target : Option (List ℕ)) (more q : List ℕ)
    → IsSome (file_at files q) → IsSome (file_at (appended files target more) q)
has_file-appended files None more q there = there
has_file-appended files (Some name) more q there =
    has_file-grown files name (file_at files name) more q there
