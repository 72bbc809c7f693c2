-- The results of readers that stop.
use Rattle.std.proofs.Common.{◌≡◌, ℕ, Bool, false, List, Option, Result, Ok, Err}
use Rattle.std.specs.Prelude.{IsErrAnd}
use Rattle.std.proofs.lemmas.Result.{err_from_is_err_and}
use Rattle.tex_shelf.specs.Stops.{Stop, Carries, Fails, Answers, IsEarly, IsLate}
use Rattle.tex_shelf.specs.declared.stop.Stop.TheVariants.{Fault, ReadFault, NoMemory}

-- each fault of one reading is a fault of the other
pub fails_as : {A B F : Type 0} (read : Result A F) (whole : Result B F) (stop : Stop F)
    → ((fault : F) → read ≡ Err fault → whole ≡ Err fault) → Fails read stop → Fails whole stop
fails_as read whole (Fault fault) each says = each fault says
fails_as read whole ReadFault each says = tt
fails_as read whole NoMemory each says = tt

-- the same of a stop that was carried over
pub fails_carried : {A B F G : Type 0} (f : F → G) (read : Result A F) (whole : Result B G)
    (stop : Stop F) (now : Stop G) → Carries (λ fault other. other ≡ f fault) stop now
    → ((fault : F) → read ≡ Err fault → whole ≡ Err (f fault)) → Fails read stop → Fails whole now
fails_carried f read whole (Fault fault) (Fault other) is each says = rw is (each fault says)
fails_carried f read whole (Fault fault) ReadFault is each says = tt
fails_carried f read whole (Fault fault) NoMemory is each says = tt
fails_carried f read whole ReadFault now is each says = rw is tt
fails_carried f read whole NoMemory now is each says = rw is tt

pub late_carried : {F G : Type 0} (X : Type 0) (f : F → G) (is_early : G → Bool) (stop : Stop F)
    (now : Stop G) → Carries (λ fault other. other ≡ f fault) stop now
    → ((fault : F) → is_early (f fault) ≡ false)
    → IsLate {X = X} is_early (Err now)
late_carried X f is_early (Fault fault) (Fault other) is each = rw is (each fault)
late_carried X f is_early (Fault fault) ReadFault is each = tt
late_carried X f is_early (Fault fault) NoMemory is each = tt
late_carried X f is_early ReadFault now is each = rw is tt
late_carried X f is_early NoMemory now is each = rw is tt

-- the exit of a `?` with a fault
pub exit_fault : {X A F : Type 0} (P : X → Type 0) (read : Result A F) (left : Option (List ℕ))
    (rest : List ℕ) (r : Result X (Stop F)) (fault : F)
    → IsErrAnd r (λ y. y ≡ Fault fault) → read ≡ Err fault → Answers P read left rest r
exit_fault P read left rest r fault is says = let p = err_from_is_err_and r is in rw (p.1, p.2) says

-- the exit of a `?` with a stop
pub exit_to : {X A F : Type 0} (P : X → Type 0) (read : Result A F) (left : Option (List ℕ))
    (rest : List ℕ) (r : Result X (Stop F)) (stop : Stop F)
    → IsErrAnd r (λ y. y ≡ stop) → Fails read stop → Answers P read left rest r
exit_to P read left rest r stop is says = let p = err_from_is_err_and r is in rw (p.1, p.2) says

-- a fault that is not early leaves the number of taken bytes free
pub late_early : {X F : Type 0} (is_early : F → Bool) (most : ℕ) (from : F → List ℕ) (rest : List ℕ)
    (r : Result X (Stop F)) → IsLate is_early r → IsEarly is_early most from rest r
late_early is_early most from rest (Ok x) late = tt
late_early is_early most from rest (Err (Fault fault)) late = λ early. absurd (cc)
late_early is_early most from rest (Err ReadFault) late = tt
late_early is_early most from rest (Err NoMemory) late = tt
