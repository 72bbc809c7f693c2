-- Bytes taken piece by piece.
use Rattle.std.proofs.Common.{inl, inr, Some, None, min, ◌≡◌, ℕ, ◌+◌, ◌<◌, ◌≤◌, List, [], ◌++◌, length, take, drop, Option, refl, sym, ◌∙◌, ap, arith, length-append, length-take-le, le_refl, drop_of_length-le, Result, Ok, Err}
use Rattle.std.specs.Prelude.{is_some, IfOk, OnErr}
use Rattle.std.proofs.Math.Seq.{take-append_seam, drop-append_seam, take_all}
use Rattle.std.proofs.lemmas.Bool.{cases_lt}
use Rattle.std.proofs.lemmas.List.{append-nil}
use Rattle.tex_shelf.specs.Files.{with_front, emptied}
use Rattle.tex_shelf.specs.declared.stop.ShelfStop.{ShelfStop}
use Rattle.tex_shelf.specs.Taking.{IsTaken}
use Rattle.tex_shelf.proofs.FilesLemmas.{with_front-with_front, is_some-with_front}

-- n places of a buffer that were filled
pub taken_into : (new : List ℕ) (wanted n : ℕ) (left later : Option (List ℕ)) → length new ≡ wanted
    → n ≤ wanted → left ≡ with_front (take n new) later → (n < wanted → later ≡ emptied later)
    → IsTaken wanted n (take n new) left later
taken_into new wanted n left later long most front ended =
    record { count = length-take-le n new (omega arith); most = most; front = front; ended = ended }

-- the bytes so far
pub record IsFront (n : ℕ) (bytes : List ℕ) (left now : Option (List ℕ)) : Type 0 where
  pub count : length bytes ≡ n
  pub front : left ≡ with_front bytes now

-- a piece more
pub front_on : (done wanted n more : ℕ) (before bytes : List ℕ) (left now later : Option (List ℕ))
    → IsFront done before left now → IsTaken wanted n bytes now later → more ≡ done + n
    → IsFront more (before ++ bytes) left later
front_on done wanted n more before bytes left now later so_far taken sum = record {
  count = length-append before bytes ∙ omega (arith, so_far.count, taken.count);
  front = so_far.front ∙ ap (with_front before) taken.front
      ∙ with_front-with_front before bytes later;
}

-- all requested bytes
pub front_whole : (wanted done : ℕ) (bytes : List ℕ) (left now : Option (List ℕ))
    → IsFront done bytes left now → done ≡ wanted → IsTaken wanted wanted bytes left now
front_whole wanted done bytes left now so_far all =
    record {
      count = so_far.count ∙ all;
      most = le_refl wanted;
      front = so_far.front;
      ended = λ less. absurd (omega arith);
    }

-- a last piece that is short
pub front_short : (all done wanted n : ℕ) (before bytes : List ℕ) (left now later : Option (List ℕ))
    → IsFront done before left now → IsTaken wanted n bytes now later → n < wanted → done + n ≤ all
    → IsTaken all (done + n) (before ++ bytes) left later
front_short all done wanted n before bytes left now later so_far taken less within =
    let both = front_on done wanted n (done + n) before bytes left now later so_far taken refl in
    record {
      count = both.count;
      most = within;
      front = both.front;
      ended = λ few.
          taken.ended less;
    }

-- an input that is known: these bytes, then the rest
pub told : (front : List ℕ) (left : Option (List ℕ)) (bytes : List ℕ) → with_front front left
    ≡ Some bytes → (rest : List ℕ) × (left ≡ Some rest) × (front ++ rest ≡ bytes)
told front None bytes e = absurd (cc)
told front (Some rest) bytes e = (rest, refl, (cc))

-- the bytes taken from a known input, and the rest of it
pub record IsCut (wanted n : ℕ) (bytes input : List ℕ) (later : Option (List ℕ)) : Type 0 where
  pub front : bytes ≡ take wanted input
  pub left_is : later ≡ Some (drop wanted input)
  pub size : n ≡ min wanted (length input)

cut_at : (wanted n : ℕ) (bytes rest : List ℕ) → length bytes ≡ n → n ≤ wanted
    → (n < wanted → rest ≡ []) → IsCut wanted n bytes (bytes ++ rest) (Some rest)
cut_at wanted n bytes rest count most ended =
    elim (cases_lt n wanted) [
      | inl less ↦
          let none : rest ≡ [] = ended less in
          let long : length (bytes ++ rest) ≤ wanted =
          omega (arith, length-append bytes rest, ap length none) in
          let same : bytes ++ rest ≡ bytes = ap (λ xs. bytes ++ xs) none ∙ append-nil bytes in
          record {
            front = sym (take_all wanted (bytes ++ rest) long ∙ same);
            left_is = ap Some (none ∙ sym (drop_of_length-le (bytes ++ rest) long));
            size = omega (arith, count, length-append bytes rest, ap length none);
          }
      | inr full ↦
          let all : wanted ≡ length bytes = omega (arith, count) in
          record {
            front = sym (ap (λ k. take k (bytes ++ rest)) all ∙ take-append_seam bytes rest);
            left_is = ap Some (sym (ap (λ k. drop k (bytes ++ rest)) all
                ∙ drop-append_seam bytes rest));
            size = omega (arith, count, length-append bytes rest);
          }
    ]

cut_of : (wanted n : ℕ) (bytes rest input : List ℕ) (later : Option (List ℕ)) → bytes ++ rest
    ≡ input → later ≡ Some rest → length bytes ≡ n → n ≤ wanted → (n < wanted → rest ≡ [])
    → IsCut wanted n bytes input later
cut_of wanted n bytes rest input later same left_is count most ended =
    rw (← same, left_is) (cut_at wanted n bytes rest count most ended)

pub taken_told : (wanted n : ℕ) (bytes input : List ℕ) (left later : Option (List ℕ))
    → IsTaken wanted n bytes left later → left ≡ Some input → IsCut wanted n bytes input later
taken_told wanted n bytes input left later taken e =
    let m = told bytes later input (sym taken.front ∙ e) in
    let ended : n < wanted → m.0 ≡ [] = λ less. let same : later ≡ emptied later =
    taken.ended less in (cc (rw m.1 at same)) in
    cut_of wanted n bytes m.0 input later m.2 m.1 taken.count taken.most ended

-- a known input stays known, whatever was taken
pub told_still : (old after : Option (List ℕ)) (r : Result ℕ ShelfStop) (wanted : ℕ) (new : List ℕ)
    → IfOk r (λ n. IsTaken wanted n (take n new) old after)
    → OnErr r ((taken : List ℕ) × (old ≡ with_front taken after)) → is_some after ≡ is_some old
told_still old after (Ok n) wanted new taken partly =
    sym (ap is_some taken.front ∙ is_some-with_front (take n new) after)
told_still old after (Err stop) wanted new taken partly =
    sym (ap is_some partly.1 ∙ is_some-with_front partly.0 after)
