-- The arguments of a call, and the result of a call.
use Rattle.std.specs.Prelude.{◌≡◌, ℕ, Result, Ok, Err, ⊤, ◌⊎◌}
use Rattle.astc_rows.specs.declared.arguments.Argument.{Argument}
use Rattle.astc_rows.specs.declared.arguments.Argument.TheVariants.{Width, Height, Format, First, Count, Preset, Weights, Texels, Blocks}
use Rattle.astc_rows.specs.declared.arguments.CallStop.{CallStop}
use Rattle.astc_rows.specs.declared.arguments.CallStop.TheVariants.{Wrong, NoMemory}

-- the number of an argument
abbrev pub number_of : Argument → ℕ
number_of Width = 1
number_of Height = 2
number_of Format = 3
number_of First = 4
number_of Count = 5
number_of Preset = 6
number_of Weights = 7
number_of Texels = 8
number_of Blocks = 9

-- the status of a stop: the number of the argument, or 10 if memory ran out
abbrev pub status_of : CallStop → ℕ
status_of (Wrong argument) = number_of argument
status_of NoMemory = 10

-- The result of a call with these checked arguments: the first wrong argument, or else the value
-- that the call computes, or memory ran out.
abbrev pub Answers : {C T : Type 0} → (C → T → Type 0) → Result C Argument → Result T CallStop
    → Type 0
Answers Gives (Ok call) (Ok value) = Gives call value
Answers Gives (Ok call) (Err NoMemory) = ⊤
Answers Gives (Ok call) (Err (Wrong argument)) = ⊥
Answers Gives (Err argument) (Err (Wrong other)) = other ≡ argument
Answers Gives (Err argument) (Err NoMemory) = ⊥
Answers Gives (Err argument) (Ok value) = ⊥

-- the same of a call that takes no memory
abbrev pub AnswersAlways : {C T : Type 0} → (C → T → Type 0) → Result C Argument → Result T Argument
    → Type 0
AnswersAlways Gives (Ok call) (Ok value) = Gives call value
AnswersAlways Gives (Ok call) (Err argument) = ⊥
AnswersAlways Gives (Err argument) (Err other) = other ≡ argument
AnswersAlways Gives (Err argument) (Ok value) = ⊥

-- The result as a status, 0 if the call did its work, and the value that it wrote.
abbrev pub Ends : {C T : Type 0} → (C → T → Type 0) → Result C Argument → ℕ → T → Type 0
Ends Gives (Ok call) status value = ((status ≡ 0) × Gives call value) ⊎ (status ≡ 10)
Ends Gives (Err argument) status value = status ≡ number_of argument

-- the same of a call that takes no memory
abbrev pub EndsAlways : {C T : Type 0} → (C → T → Type 0) → Result C Argument → ℕ → T → Type 0
EndsAlways Gives (Ok call) status value = (status ≡ 0) × Gives call value
EndsAlways Gives (Err argument) status value = status ≡ number_of argument
