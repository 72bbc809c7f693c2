-- Steps of reading in sequence.
use Rattle.std.proofs.Common.{inl, inr, ◌≡◌, ℕ, List, [], Option, Some, None, Result, Ok, Err, ◌++◌, ◌≤◌, ◌<◌, true, length, take, refl, sym, ◌∙◌, ap, arith, length-append}
use Rattle.std.specs.Prelude.{IsErrAnd, IsErrOf, IsOk, ◌⊎◌}
use Rattle.std.proofs.lemmas.Result.{err_from_is_err_and}
use Rattle.std.specs.Prelude.{◌==◌}
use Rattle.std.proofs.lemmas.Bool.{eqb-true}
use Rattle.std.proofs.lemmas.List.{append-nil, nil_from_length}
use Rattle.tex_shelf.specs.Files.{with_front, emptied}
use Rattle.tex_shelf.specs.Taking.{IsTaken}
use Rattle.tex_shelf.specs.declared.stop.ShelfStop.{ShelfStop}
use Rattle.tex_shelf.specs.declared.stop.ShelfStop.TheVariants.{Failed, NoMemory as NoShelfMemory}
use Rattle.pam_header.specs.declared.fault.ImageFault.{ImageFault}
use Rattle.pam_header.specs.Headers.{◌>>=◌}
use Rattle.tex_shelf.specs.declared.stop.Stop.{Stop}
use Rattle.tex_shelf.specs.declared.stop.Stop.TheVariants.{Fault, ReadFault, NoMemory}
use Rattle.tex_shelf.specs.Stops.{reader_stop, Fails, IsEarly}
use Rattle.tex_shelf.proofs.StopLemmas.{fails_as}
use Rattle.pam_header.specs.Faults.{is_early}
use Rattle.pam_header.specs.Headers.{header_most}
use Rattle.pam_image.specs.Steps.{AnswersWith}

-- a fault of the first step is one of all
pub passed : {A B : Type 0} (read : Result A ImageFault) (further : A → Result B ImageFault)
    (stop : Stop ImageFault) → Fails read stop → Fails (read >>= further) stop
passed read further stop says = fails_as read (read >>= further) stop
    (λ fault fails. rw fails refl) says

-- the exit of a `?`
pub exit_fault : {X A : Type 0} (P : X → List ℕ → Type 0) (read : Result A ImageFault)
    (left : Option (List ℕ)) (r : Result X (Stop ImageFault)) (fault : ImageFault)
    → IsErrAnd r (λ y. y ≡ Fault fault) → read ≡ Err fault → AnswersWith P read left r
exit_fault P read left r fault is says = let p = err_from_is_err_and r is in rw (p.1, p.2) says

pub exit_to : {X A : Type 0} (P : X → List ℕ → Type 0) (read : Result A ImageFault)
    (left : Option (List ℕ)) (r : Result X (Stop ImageFault)) (stop : Stop ImageFault)
    → IsErrAnd r (λ y. y ≡ stop) → Fails read stop → AnswersWith P read left r
exit_to P read left r stop is says = let p = err_from_is_err_and r is in rw (p.1, p.2) says

-- the value of a first step that went well
pub went_on : {A B : Type 0} (read : Result A ImageFault) (further : A → Result B ImageFault)
    (x : A) → read ≡ Ok x → (read >>= further) ≡ further x
went_on read further x e = rw e refl

-- at the end of the input no more bytes are known
pub told_empty : (front : List ℕ) (left after : Option (List ℕ)) (rest : List ℕ) → left ≡ Some rest
    → left ≡ with_front front after → after ≡ emptied after → front ≡ rest
told_empty front left None rest e f ended = absurd (cc)
told_empty front left (Some more) rest e f ended =
    let none : more ≡ [] = (cc) in
    let same : rest ≡ front ++ more = (cc) in
    sym (append-nil front) ∙ ap (λ xs. front ++ xs) (sym none) ∙ sym same

-- if only the header was taken, a fault is early
pub front_early : {X : Type 0} (from : ImageFault → List ℕ) (front rest behind : List ℕ)
    (left : Option (List ℕ)) (r : Result X (Stop ImageFault)) → length front ≤ 4096
    → left ≡ Some behind → left ≡ Some rest → ((fault : ImageFault) → from fault ≡ front ++ behind)
    → IsEarly is_early header_most from rest r
front_early from front rest behind left (Ok x) short e f is = tt
front_early from front rest behind left (Err (Fault fault)) short e f is =
    λ early. let same : rest ≡ behind = (cc) in
    omega (arith, ap length (is fault), ap length same, length-append front behind)
front_early from front rest behind left (Err ReadFault) short e f is = tt
front_early from front rest behind left (Err NoMemory) short e f is = tt

-- nothing was taken ahead, and nothing is left
pub ended_at : (ahead new : List ℕ) (wanted n : ℕ) (old after : Option (List ℕ)) (bytes : List ℕ)
    → (length ahead == 0) ≡ true → with_front ahead old ≡ Some bytes → n ≤ 0
    → n < wanted → IsTaken wanted n (take n new) old after → (rest : List ℕ) × (after ≡ Some rest)
    × ((bytes ≡ []) × (rest ≡ []))
ended_at ahead new wanted n old None bytes none e few less taken = absurd (cc (rw taken.front at e))
ended_at ahead new wanted n old (Some rest) bytes none e few less taken =
    let z : n ≡ 0 = omega arith in
    let empty : ahead ≡ [] = nil_from_length ahead (eqb-true (length ahead) 0 none) in
    let last : rest ≡ [] = (cc (taken.ended less)) in
    let all : with_front ahead old ≡ Some [] = rw (empty, taken.front, z, last) refl in
    (rest, refl, ((cc (e, all)), last))

-- a fault that reading gives is answered, unless a read failed or there was no memory
pub always : {X A : Type 0} (view : X → A) (read : Result A ImageFault) (left : Option (List ℕ))
    (r : Result X (Stop ImageFault)) (fault : ImageFault) (Risen : Type 0)
    → AnswersWith (λ x rest. (read ≡ Ok (view x)) × (rest ≡ [])) read left r
    → (IsErrOf r ReadFault → Risen) → read ≡ Err fault → (Risen → ⊥) → (r ≡ Err (Fault fault))
    ⊎ (r ≡ Err NoMemory)
always view read left (Ok x) fault Risen says rose e still = let found : read ≡ Ok (view x) =
    says.2.0 in absurd (cc)
always view read left (Err (Fault other)) fault Risen says rose e still = let same : other ≡ fault =
    (cc) in inl (ap (λ f. Err (Fault f)) same)
always view read left (Err ReadFault) fault Risen says rose e still = absurd (still (rose refl))
always view read left (Err NoMemory) fault Risen says rose e still = inr refl

-- what reading gives is answered, on the same terms
pub complete : {X A : Type 0} (view : X → A) (read : Result A ImageFault) (left : Option (List ℕ))
    (r : Result X (Stop ImageFault)) (value : A) (Risen : Type 0)
    → AnswersWith (λ x rest. (read ≡ Ok (view x)) × (rest ≡ [])) read left r
    → (IsErrOf r ReadFault → Risen) → read ≡ Ok value → (Risen → ⊥) → IsOk r ⊎ (r ≡ Err NoMemory)
complete view read left (Ok x) value Risen says rose e still = inl refl
complete view read left (Err (Fault other)) value Risen says rose e still = absurd (cc)
complete view read left (Err ReadFault) value Risen says rose e still = absurd (still (rose refl))
complete view read left (Err NoMemory) value Risen says rose e still = inr refl
