-- The lines of a report, one after the other.
use Rattle.std.proofs.Common.{◌≡◌, ℕ, zero, suc, ◌+◌, ◌<◌, ◌≤◌, List, [], ◌∷◌, ◌++◌, length, take, drop, map, Option, Some, None, Result, Ok, Err, refl, sym, ◌∙◌, ap, subst, append_assoc, arith}
use Rattle.std.specs.Prelude.{sum_by, slice_index_or, OnOk, OnErr}
use Rattle.std.specs.Result.{IsErrAnd, IsErrOf}
use Rattle.std.proofs.lemmas.List.Sums.{sum_by-cons}
use Rattle.tex_shelf.specs.Faults.{Rose}
use Rattle.std.specs.List.{flat_map}
use Rattle.std.proofs.lemmas.List.{append-nil}
use Rattle.std.proofs.Math.Seq.{take-append_seam}
use Rattle.tex_shelf.specs.Files.{with_text}
use Rattle.tex_shelf.proofs.FilesLemmas.{with_text-with_text}
use Rattle.tex_shelf.specs.declared.stop.ShelfStop.{ShelfStop}
use Rattle.tex_shelf.specs.declared.stop.ShelfStop.TheVariants.{Failed, NoMemory}
use Rattle.outcomes.specs.Causes.{IsPartlyTold, Stopped, Tells, text_of}
use Rattle.tex_shelf.proofs.FaultsLemmas.{rose_since}

pub told-none : (written : Option (List ℕ)) → written ≡ with_text written []
told-none None = refl
told-none (Some before) = ap Some (sym (append-nil before))

pub text-more : (lines more : List (List ℕ)) → text_of (lines ++ more)
    ≡ text_of lines ++ text_of more
text-more [] more = refl
text-more (line ∷ lines) more = ap (λ xs. line ++ xs) (text-more lines more)
    ∙ sym (append_assoc line (text_of lines) (text_of more))

pub told-more : (old middle new : Option (List ℕ)) (lines : List (List ℕ)) (line : List ℕ) → middle
    ≡ with_text old (text_of lines) → new ≡ with_text middle line
    → new ≡ with_text old (text_of (lines ++ line ∷ []))
told-more old middle new lines line so_far last =
    last ∙ ap (λ x. with_text x line) so_far ∙ with_text-with_text old (text_of lines) line
    ∙ ap (λ xs. with_text old (text_of lines ++ xs)) (sym (append-nil line))
    ∙ ap (λ xs. with_text old xs) (sym (text-more lines (line ∷ [])))

-- the lines in front of others are a part of all
pub told-part : (old now : Option (List ℕ)) (lines more : List (List ℕ)) → now
    ≡ with_text old (text_of lines) → IsPartlyTold old now (lines ++ more)
told-part old now lines more so_far = (
  length lines,
  so_far ∙ ap (λ xs. with_text old (text_of xs))
      (sym (take-append_seam lines more)),
)

-- lines that precede those of a report
pub told-front : (old now : Option (List ℕ)) (lines front rest : List (List ℕ)) → lines
    ≡ front ++ rest → now ≡ with_text old (text_of front) → IsPartlyTold old now lines
told-front old now lines front rest all so_far = subst (λ xs. IsPartlyTold old now xs) (sym all)
    (told-part old now front rest so_far)

-- one more line of a list that is reported from its start
pub lines-more : {X : Type 0} (line : X → List ℕ) (xs : List X) (k : ℕ) (d : X) → k < length xs
    → map line (take (k + 1) xs) ≡ map line (take k xs) ++ line (slice_index_or xs k d) ∷ []
lines-more line [] k d inside = absurd (omega arith)
lines-more line (x ∷ xs) zero d inside = refl
lines-more line (x ∷ xs) (suc k) d inside =
    let longer : suc k + 1 ≡ suc (k + 1) = omega arith in
    ap (λ n. map line (take n (x ∷ xs))) longer
    ∙ ap (λ ys. line x ∷ ys) (lines-more line xs k d (omega arith))

-- the lines reported so far, and the lines to come
pub lines-around : {X : Type 0} (line : X → List ℕ) (xs : List X) (last : List ℕ) (k : ℕ)
    → map line xs ++ last ∷ [] ≡ map line (take k xs) ++ (map line (drop k xs) ++ last ∷ [])
lines-around line [] last zero = refl
lines-around line [] last (suc k) = refl
lines-around line (x ∷ xs) last zero = refl
lines-around line (x ∷ xs) last (suc k) = ap (λ ys. line x ∷ ys) (lines-around line xs last k)

-- a sum over one element more
pub summed-more : {X : Type 0} (f : X → ℕ) (xs : List X) (k : ℕ) (d : X) → k < length xs
    → sum_by f (take (k + 1) xs) ≡ sum_by f (take k xs) + f (slice_index_or xs k d)
summed-more f [] k d inside = absurd (omega arith)
summed-more f (x ∷ xs) zero d inside = omega (arith, sum_by-cons f x [])
summed-more f (x ∷ xs) (suc k) d inside =
    let longer : suc k + 1 ≡ suc (k + 1) = omega arith in
    ap (λ n. sum_by f (take n (x ∷ xs))) longer
    ∙ omega (
      arith,
      sum_by-cons f x (take (k + 1) xs),
      sum_by-cons f x
          (take k xs),
      summed-more f xs k d (omega arith),
    )

-- a line whose report failed
pub stopped-told : (part : Type 0) (first before now : ℕ) (stop : ShelfStop) → first ≤ before → part
    → (let result : Result (Unit {0}) ShelfStop = Err stop in IsErrOf result Failed
    → Rose before now) → Stopped first now part stop
stopped-told part first before now Failed later done failed =
    (rose_since first before now later (failed refl), done)
stopped-told part first before now NoMemory later done failed = done

-- an error that is handed on
pub tells-error : {X : Type 0} (result : Result X ShelfStop) (old now : Option (List ℕ))
    (lines : List (List ℕ)) (before after : ℕ) (stop : ShelfStop) → IsErrAnd result (λ e. e ≡ stop)
    → Stopped before after (IsPartlyTold old now lines) stop
    → Tells old now lines before after result
tells-error (Ok done) old now lines before after stop is stopped = absurd is
tells-error (Err other) old now lines before after stop is stopped =
    subst (λ e. Stopped before after (IsPartlyTold old now lines) e) (sym is) stopped

-- the last line, whether its report failed or not
pub tells-last : (result : Result (Unit {0}) ShelfStop) (old middle now : Option (List ℕ))
    (front : List (List ℕ)) (line : List ℕ) (first before after : ℕ) → first ≤ before → middle
    ≡ with_text old (text_of front)
    → OnOk result (now ≡ with_text middle line) → OnErr result (now ≡ middle)
    → (IsErrOf result Failed → Rose before after)
    → Tells old now (front ++ line ∷ []) first after result
tells-last (Ok done) old middle now front line first before after later so_far told_all refused
    failed = told-more old middle now front line so_far told_all
tells-last (Err stop) old middle now front line first before after later so_far told_all refused
    failed =
    stopped-told (IsPartlyTold old now (front ++ line ∷ [])) first before after stop later
    (told-part old now front (line ∷ []) (refused ∙ so_far)) failed
