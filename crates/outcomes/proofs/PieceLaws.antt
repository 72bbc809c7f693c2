-- Pieces that are put one after another.
use Rattle.std.proofs.Common.{◌≡◌, ℕ, zero, suc, ◌+◌, ◌-◌, ◌≤◌, ◌<◌, List, [], ◌∷◌, ◌++◌, length, take, drop, Option, Result, Ok, Err, refl, sym, subst, ◌∙◌, ap, arith, length-append, append_assoc, zero-add, add_assoc}
use Rattle.std.specs.List.{flat_map, range_with_len}
use Rattle.std.specs.Result.{IsErrAnd, IsErrOf}
use Rattle.std.proofs.lemmas.List.{append-nil, take-append-le}
use Rattle.std.proofs.Math.Seq.{take-append-add, take-append_seam}
use Rattle.tex_shelf.specs.Files.{Files, with_more}
use Rattle.tex_shelf.specs.Faults.{Rose}
use Rattle.tex_shelf.proofs.FaultsLemmas.{rose_since}
use Rattle.tex_shelf.proofs.FilesLemmas.{with_more-with_more, with_more-nil}
use Rattle.tex_shelf.specs.declared.stop.ShelfStop.{ShelfStop}
use Rattle.tex_shelf.specs.declared.stop.ShelfStop.TheVariants.{Failed, NoMemory}
use Rattle.std.specs.Prelude.{slice_index_or}
use Rattle.std.specs.Borrow.{Bor}
use Rattle.outcomes.specs.Causes.{IsPartlyPut, Stopped, Puts, joined}

-- ---- pieces by numbers

pub pieces-more : {X : Type 0} (f : ℕ → List X) (a n : ℕ) → flat_map f (range_with_len a (n + 1))
    ≡ flat_map f (range_with_len a n) ++ f (a + n)
pieces-more f a zero = ap (λ k. f k ++ []) (sym (omega arith)) ∙ append-nil (f (a + 0))
pieces-more f a (suc n) =
    let longer : suc n + 1 ≡ suc (n + 1) = omega arith in
    ap (λ k. flat_map f (range_with_len a k)) longer
    ∙ ap (λ xs. f a ++ xs) (pieces-more f (a + 1) n)
    ∙ sym (append_assoc (f a) (flat_map f (range_with_len (a + 1) n)) (f (a + 1 + n)))
    ∙ ap (λ k. f a ++ flat_map f (range_with_len (a + 1) n) ++ f k) (add_assoc a 1 n
    ∙ ap (λ k. a + k) (omega arith))

pub pieces-split : (f : ℕ → List ℕ) (a m n : ℕ) → flat_map f (range_with_len a (m + n))
    ≡ flat_map f (range_with_len a m) ++ flat_map f (range_with_len (a + m) n)
pieces-split f a zero n = ap (λ k. flat_map f (range_with_len a k)) (zero-add n)
    ∙ ap (λ k. flat_map f (range_with_len k n)) (sym (omega arith))
pieces-split f a (suc m) n =
    let longer : suc m + n ≡ suc (m + n) = omega arith in
    ap (λ k. flat_map f (range_with_len a k)) longer
    ∙ ap (λ xs. f a ++ xs) (pieces-split f (a + 1) m n)
    ∙ sym (append_assoc (f a) (flat_map f (range_with_len (a + 1) m))
    (flat_map f (range_with_len (a + 1 + m) n)))
    ∙ ap (λ k. f a ++ flat_map f (range_with_len (a + 1) m) ++ flat_map f (range_with_len k n))
    (omega arith)

-- equal pieces, of other numbers
pub pieces-same : (f g : ℕ → List ℕ) (a b n : ℕ) → ((k : ℕ) → k < n → f (a + k) ≡ g (b + k))
    → flat_map f (range_with_len a n) ≡ flat_map g (range_with_len b n)
pieces-same f g a b zero same = refl
pieces-same f g a b (suc n) same =
    let first : f a ≡ g b = ap f (omega arith) ∙ same 0 (omega arith) ∙ ap g (omega arith) in
    let rest : flat_map f (range_with_len (a + 1) n) ≡ flat_map g (range_with_len (b + 1) n) =
    pieces-same f g (a + 1) (b + 1) n (λ k below. ap f (omega arith) ∙ same (suc k) (omega arith)
    ∙ ap g (omega arith))
    in
    ap (λ xs. xs ++ flat_map f (range_with_len (a + 1) n)) first ∙ ap (λ xs. g b ++ xs) rest

-- ---- what was put so far, and more

pub put-none : (f : Option Files) (t : Option (List ℕ)) → f ≡ with_more f t []
put-none f t = sym (with_more-nil f t)

pub put-more : (f g h : Option Files) (t t' : Option (List ℕ)) (a b : List ℕ) → g ≡ with_more f t a
    → t' ≡ t → h ≡ with_more g t' b → h ≡ with_more f t (a ++ b)
put-more f g h t t' a b first target second =
    second ∙ ap (λ x. with_more g x b) target ∙ ap (λ x. with_more x t b) first
    ∙ with_more-with_more f t a b

-- the piece after those that were put was put in part
pub partly-more : (f g h : Option Files) (t t' : Option (List ℕ)) (a b rest : List ℕ) → g
    ≡ with_more f t a → t' ≡ t → IsPartlyPut g t' b h → IsPartlyPut f t (a ++ (b ++ rest)) h
partly-more f g h t t' a b rest first target part =
    let short : take part.0 (b ++ rest) ≡ take part.0 b = take-append-le part.0 b rest part.1 in (
      length a + part.0,
      omega (arith, part.1, length-append a (b ++ rest), length-append b rest),
      put-more f g h t t' a (take part.0 b) first target part.2
          ∙ ap (λ x. with_more f t (a ++ x)) (sym short)
          ∙ ap (λ x. with_more f t x) (sym (take-append-add a (b ++ rest) part.0)),
    )

-- the same of a call that stopped
pub stopped-more : (f g h : Option Files) (t t' : Option (List ℕ)) (a b rest : List ℕ)
    (before middle now : ℕ) (stop : ShelfStop) → g ≡ with_more f t a → t' ≡ t → before ≤ middle
    → Stopped middle now (IsPartlyPut g t' b h) stop
    → Stopped before now (IsPartlyPut f t (a ++ (b ++ rest)) h) stop
stopped-more f g h t t' a b rest before middle now Failed first target later stopped = (
  rose_since before middle now later stopped.0,
  partly-more f g h t t' a b rest first target
      stopped.1,
)
stopped-more f g h t t' a b rest before middle now NoMemory first target later stopped =
    partly-more f g h t t' a b rest first target stopped

-- the first of two pieces was put in part
pub partly-front : (f h : Option Files) (t : Option (List ℕ)) (a rest : List ℕ)
    → IsPartlyPut f t a h → IsPartlyPut f t (a ++ rest) h
partly-front f h t a rest part = (
  part.0,
  omega (arith, part.1, length-append a rest),
  part.2
      ∙ ap (λ x. with_more f t x) (sym (take-append-le part.0 a rest part.1)),
)

pub stopped-front : (f h : Option Files) (t : Option (List ℕ)) (a rest : List ℕ) (before now : ℕ)
    (stop : ShelfStop) → Stopped before now (IsPartlyPut f t a h) stop
    → Stopped before now (IsPartlyPut f t (a ++ rest) h) stop
stopped-front f h t a rest before now Failed stopped =
    (stopped.0, partly-front f h t a rest stopped.1)
stopped-front f h t a rest before now NoMemory stopped = partly-front f h t a rest stopped

-- the last of two pieces was put in part
pub stopped-last : (f g h : Option Files) (t t' : Option (List ℕ)) (a b : List ℕ)
    (before middle now : ℕ) (stop : ShelfStop) → g ≡ with_more f t a → t' ≡ t → before ≤ middle
    → Stopped middle now (IsPartlyPut g t' b h) stop
    → Stopped before now (IsPartlyPut f t (a ++ b) h) stop
stopped-last f g h t t' a b before middle now stop first target later stopped =
    subst (λ x. Stopped before now (IsPartlyPut f t (a ++ x) h) stop) (append-nil b)
    (stopped-more f g h t t' a b [] before middle now stop first target later stopped)

-- all that was put is a part of it and more
pub partly-done : (f g : Option Files) (t : Option (List ℕ)) (a rest : List ℕ) → g ≡ with_more f t a
    → IsPartlyPut f t (a ++ rest) g
partly-done f g t a rest put = (
  length a,
  omega (arith, length-append a rest),
  put
      ∙ ap (λ x. with_more f t x) (sym (take-append_seam a rest)),
)

-- what `put_all` says where it stopped
pub stopped-put : (part : Type 0) (before now : ℕ) (stop : ShelfStop) → part
    → (let result : Result (Unit {0}) ShelfStop = Err stop in IsErrOf result Failed
    → Rose before now) → Stopped before now part stop
stopped-put part before now Failed done failed = (failed refl, done)
stopped-put part before now NoMemory done failed = done

-- an error that is handed on
pub puts-error : {X : Type 0} (result : Result X ShelfStop) (f : Option Files) (t : Option (List ℕ))
    (g : Option Files) (bytes : List ℕ) (before now : ℕ) (stop : ShelfStop)
    → IsErrAnd result (λ e. e ≡ stop)
    → Stopped before now (IsPartlyPut f t bytes g) stop → Puts f t g bytes before now result
puts-error (Ok done) f t g bytes before now stop is stopped = absurd is
puts-error (Err other) f t g bytes before now stop is stopped =
    subst (λ e. Stopped before now (IsPartlyPut f t bytes g) e) (sym is) stopped

-- ---- pieces in a list

pub joined-more : (pieces : List (Bor (List ℕ))) (k : ℕ) (d : Bor (List ℕ)) → k < length pieces
    → joined (take (k + 1) pieces) ≡ joined (take k pieces) ++ (slice_index_or pieces k d).now
joined-more [] k d inside = absurd (omega arith)
joined-more (piece ∷ pieces) zero d inside = append-nil piece.now
joined-more (piece ∷ pieces) (suc k) d inside =
    let longer : suc k + 1 ≡ suc (k + 1) = omega arith in
    ap (λ n. joined (take n (piece ∷ pieces))) longer
    ∙ ap (λ xs. piece.now ++ xs) (joined-more pieces k d (omega arith))
    ∙ sym (append_assoc piece.now (joined (take k pieces)) (slice_index_or pieces k d).now)

pub joined-around : (pieces : List (Bor (List ℕ))) (k : ℕ) (d : Bor (List ℕ)) → k < length pieces
    → joined pieces ≡ joined (take k pieces)
    ++ ((slice_index_or pieces k d).now ++ joined (drop (k + 1) pieces))
joined-around [] k d inside = absurd (omega arith)
joined-around (piece ∷ pieces) zero d inside = refl
joined-around (piece ∷ pieces) (suc k) d inside =
    let longer : suc k + 1 ≡ suc (k + 1) = omega arith in
    ap (λ xs. piece.now ++ xs) (joined-around pieces k d (omega arith))
    ∙ sym (append_assoc piece.now (joined (take k pieces))
    ((slice_index_or pieces k d).now ++ joined (drop (k + 1) pieces)))
    ∙ ap (λ n. piece.now ++ joined (take k pieces)
    ++ ((slice_index_or pieces k d).now ++ joined (drop n (piece ∷ pieces)))) (sym longer)
