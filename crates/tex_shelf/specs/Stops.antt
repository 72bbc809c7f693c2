-- The results of readers, and their results if they stop.
use Rattle.std.specs.Prelude.{◌≡◌, ◌≤◌, ◌+◌, ◌⊎◌, ⊤, ℕ, Bool, false, IsTrue, IsOk, List, [], length, Option, Some, Result, Ok, Err}
use Rattle.tex_shelf.specs.Faults.{Rose}
use Rattle.tex_shelf.specs.declared.stop.ShelfStop.{ShelfStop}
use Rattle.tex_shelf.specs.declared.stop.ShelfStop.TheVariants.{Failed, NoMemory as NoShelfMemory}
pub use Rattle.tex_shelf.specs.declared.stop.Stop.{Stop}
use Rattle.tex_shelf.specs.declared.stop.Stop.TheVariants.{Fault, ReadFault, NoMemory}

-- what a stop of the shelf is for a reader
abbrev pub reader_stop : {F : Type 0} → ShelfStop → Stop F
reader_stop Failed = ReadFault
reader_stop NoShelfMemory = NoMemory

-- the same stop, with its fault as one of another kind, which this relation gives
abbrev pub Carries : {F G : Type 0} → (F → G → Type 0) → Stop F → Stop G → Type 0
Carries gives (Fault fault) (Fault other) = gives fault other
Carries gives (Fault fault) ReadFault = ⊥
Carries gives (Fault fault) NoMemory = ⊥
Carries gives ReadFault now = now ≡ ReadFault
Carries gives NoMemory now = now ≡ NoMemory

-- a stop is not a fault, or one of these faults
abbrev pub IfFault : {F : Type 0} → (F → Type 0) → Stop F → Type 0
IfFault P (Fault fault) = P fault
IfFault P ReadFault = ⊤
IfFault P NoMemory = ⊤

-- an answer has no fault, or one of these
abbrev pub OnFault : {X F : Type 0} → (F → Type 0) → Result X (Stop F) → Type 0
OnFault P (Ok x) = ⊤
OnFault P (Err stop) = IfFault P stop

-- a fault is the one that reading gives
abbrev pub Fails : {A F : Type 0} → Result A F → Stop F → Type 0
Fails read stop = IfFault (λ fault. read ≡ Err fault) stop

-- The result of a step of reading: P of its value, with this rest of the input, or a fault that
-- reading gives.
abbrev pub Answers : {X A F : Type 0} → (X → Type 0) → Result A F → Option (List ℕ) → List ℕ
    → Result X (Stop F) → Type 0
Answers P read left rest (Ok x) = (left ≡ Some rest) × P x
Answers P read left rest (Err stop) = Fails read stop

-- If a fault is early, at most `most` bytes of the input were taken, counted from its first byte;
-- this rest is left.
abbrev pub IsEarly : {X F : Type 0} → (F → Bool) → ℕ → (F → List ℕ) → List ℕ → Result X (Stop F)
    → Type 0
IsEarly is_early most from rest result =
    OnFault (λ fault. IsTrue (is_early fault) → length (from fault) ≤ most + length rest) result

-- a fault is none that is early
abbrev pub IsLate : {X F : Type 0} → (F → Bool) → Result X (Stop F) → Type 0
IsLate is_early result = OnFault (λ fault. is_early fault ≡ false) result

-- ---- what a reader of a whole input says

module _ {A F : Type 0} where
  -- The result is what the input reads as, with an empty rest, or a fault of the input.
  abbrev pub ReadsWhole : (List ℕ → Result A F) → (before after : Option (List ℕ))
      → Result A (Stop F) → Type 0
  ReadsWhole reading before after result =
      (input : List ℕ) → before ≡ Some input
      → Answers (λ value. reading input ≡ Ok value) (reading input) after [] result

  -- The first fault of an input always comes, unless a read failed or memory ran out.
  abbrev pub FaultsCome : (List ℕ → Result A F) → (before : Option (List ℕ))
      → (faults faults_now : ℕ) → Result A (Stop F) → Type 0
  FaultsCome reading before faults faults_now result =
      (input : List ℕ) (fault : F) → before ≡ Some input → reading input ≡ Err fault
      → (Rose faults faults_now → ⊥) → (result ≡ Err (Fault fault)) ⊎ (result ≡ Err NoMemory)

  -- So does what an input without a fault reads as.
  abbrev pub SuccessComes : (List ℕ → Result A F) → (before : Option (List ℕ))
      → (faults faults_now : ℕ) → Result A (Stop F) → Type 0
  SuccessComes reading before faults faults_now result =
      (input : List ℕ) (value : A) → before ≡ Some input → reading input ≡ Ok value
      → (Rose faults faults_now → ⊥) → IsOk result ⊎ (result ≡ Err NoMemory)

  -- If a fault is early, at most `most` bytes of the input were taken.
  abbrev pub StopsEarly : (F → Bool) → (most : ℕ) → (before after : Option (List ℕ))
      → Result A (Stop F) → Type 0
  StopsEarly is_early most before after result =
      (input rest : List ℕ) → before ≡ Some input → after ≡ Some rest
      → IsEarly is_early most (λ _. input) rest result
