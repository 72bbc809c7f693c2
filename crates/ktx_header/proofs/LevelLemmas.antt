-- LevelSizes, step by step.
use Rattle.std.proofs.Common.{◌≡◌, ℕ, suc, ◌+◌, List, [], ◌++◌, length, take, drop, Option, Some, Result, Ok, Err, refl, sym, ◌∙◌, ap, append_assoc}
use Rattle.std.proofs.lemmas.List.{append-nil}
use Rattle.ktx_header.specs.Chaining.{◌>>=◌}
use Rattle.ktx_header.specs.Orders.{WordOrder, number}
use Rattle.ktx_header.specs.Levels.{DataFault, LevelSizes, enough, right_size, sized, level_of, levels_of, ended, data_of}
use Rattle.tex_shelf.specs.declared.stop.Stop.{Stop}
use Rattle.tex_shelf.specs.Stops.{Fails}
use Rattle.tex_shelf.proofs.StopLemmas.{fails_as}

pub sized_first : (order : WordOrder) (level wanted before : ℕ) (input : List ℕ) (fault : DataFault)
    → enough 4 (length input) before ≡ Err fault → sized order level wanted before input ≡ Err fault
unfolding sized
sized_first order level wanted before input fault e = rw e refl

pub sized_second : (order : WordOrder) (level wanted before : ℕ) (input : List ℕ)
    (r : Result (Unit {0}) DataFault) → enough 4 (length input) before ≡ Ok tt
    → right_size level (number order (take 4 input)) wanted ≡ r
    → sized order level wanted before input ≡ r
unfolding sized
sized_second order level wanted before input r e f = rw e f

pub level_first : {A : Type 0} (order : WordOrder) (levels : LevelSizes A) (level before : ℕ)
    (input : List ℕ) (stop : Stop DataFault)
    → Fails (sized order level (levels.size level) before input) stop
    → Fails (level_of order levels level before input) stop
unfolding level_of
level_first order levels level before input stop says =
    fails_as (sized order level (levels.size level) before input) _ stop
    (λ fault fails. rw fails refl) says

pub level_second : {A : Type 0} (order : WordOrder) (levels : LevelSizes A) (level before : ℕ)
    (input : List ℕ) (stop : Stop DataFault) → sized order level (levels.size level) before input
    ≡ Ok tt
    → Fails (enough (levels.bytes level) (length (drop 4 input)) (before + 4)) stop
    → Fails (level_of order levels level before input) stop
unfolding level_of
level_second order levels level before input stop e says =
    fails_as (enough (levels.bytes level) (length (drop 4 input)) (before + 4)) _ stop
    (λ fault fails. rw (e, fails) refl) says

pub level_is : {A : Type 0} (order : WordOrder) (levels : LevelSizes A) (level before : ℕ)
    (input : List ℕ) → sized order level (levels.size level) before input ≡ Ok tt
    → enough (levels.bytes level) (length (drop 4 input)) (before + 4) ≡ Ok tt
    → level_of order levels level before input
    ≡ Ok (levels.content level (take (levels.bytes level) (drop 4 input)))
unfolding level_of
level_is order levels level before input e f = rw (e, f) refl

-- what was read before, and what is still read
abbrev pub prefixed : {A : Type 0} → List A → Result (List A) DataFault → Result (List A) DataFault
prefixed front read = read >>= λ more. Ok (front ++ more)

regroup : {A : Type 0} (front a : List A) (read : Result (List A) DataFault)
    → prefixed front (read >>= λ more. Ok (a ++ more)) ≡ prefixed (front ++ a) read
regroup front a (Ok more) = ap Ok (sym (append_assoc front a more))
regroup front a (Err fault) = refl

-- After some levels, with this number to come: the values read so far and the rest of the input
-- give the result.
pub record Reaches {A : Type 0} (order : WordOrder) (levels : LevelSizes A)
    (total : Result (List A) DataFault) (level to_come before : ℕ) (left : Option (List ℕ))
    (so_far : List A) (current : List ℕ) : Type 0 where
  pub left_is : left ≡ Some current
  pub answer : prefixed so_far (levels_of order levels level to_come before current) ≡ total

same_prefixed : {A : Type 0} (read : Result (List A) DataFault) → prefixed [] read ≡ read
same_prefixed (Ok more) = refl
same_prefixed (Err fault) = refl

pub reaches_start : {A : Type 0} (order : WordOrder) (levels : LevelSizes A) (n to_come before : ℕ)
    (left : Option (List ℕ)) (input : List ℕ) (so_far : List A) → left ≡ Some input → so_far ≡ []
    → to_come ≡ n
    → Reaches order levels (levels_of order levels 0 n before input) 0 to_come before left so_far
    input
reaches_start order levels n to_come before left input so_far e none all =
    record {
      left_is = e;
      answer = rw (none, all)
          (same_prefixed (levels_of order levels 0 n before input));
    }

pub reaches_on : {A : Type 0} (order : WordOrder) (levels : LevelSizes A)
    (total : Result (List A) DataFault) (level to_come less before later : ℕ)
    (left after : Option (List ℕ)) (so_far grown more : List A) (current : List ℕ)
    → Reaches order levels total level to_come before left so_far current → to_come ≡ suc less
    → later ≡ before + 4 + levels.bytes level
    → after ≡ Some (drop (levels.bytes level) (drop 4 current))
    → level_of order levels level before current ≡ Ok more → grown ≡ so_far ++ more
    → Reaches order levels total (level + 1) less later after grown
    (drop (levels.bytes level) (drop 4 current))
reaches_on order levels total level to_come less before later left after so_far grown more current
    reached count place told e same = record {
      left_is = told;
      answer = rw (same, place)
          (sym (regroup so_far more
          (levels_of order levels (level + 1) less (before + 4 + levels.bytes level)
          (drop (levels.bytes level) (drop 4 current))))
          ∙ sym (rw (count, e) refl)
          ∙ reached.answer);
    }

pub reaches_fails : {A : Type 0} (order : WordOrder) (levels : LevelSizes A)
    (total : Result (List A) DataFault) (level to_come less before : ℕ) (left : Option (List ℕ))
    (so_far : List A) (current : List ℕ) (stop : Stop DataFault)
    → Reaches order levels total level to_come before left so_far current → to_come ≡ suc less
    → Fails (level_of order levels level before current) stop → Fails total stop
reaches_fails order levels total level to_come less before left so_far current stop reached count
    says = fails_as (level_of order levels level before current) total stop
    (λ fault fails. sym reached.answer ∙ rw (count, fails) refl) says

pub reaches_unended : {A : Type 0} (order : WordOrder) (levels : LevelSizes A)
    (total : Result (List A) DataFault) (level to_come before : ℕ) (left : Option (List ℕ))
    (so_far : List A) (current : List ℕ) (stop : Stop DataFault)
    → Reaches order levels total level to_come before left so_far current → to_come ≡ 0
    → Fails (ended current) stop → Fails total stop
reaches_unended order levels total level to_come before left so_far current stop reached count
    says = fails_as (ended current) total stop (λ fault fails. sym reached.answer
    ∙ rw (count, fails) refl) says

pub reaches_end : {A : Type 0} (order : WordOrder) (levels : LevelSizes A)
    (total : Result (List A) DataFault) (level to_come before : ℕ) (left : Option (List ℕ))
    (so_far : List A) (current : List ℕ)
    → Reaches order levels total level to_come before left so_far current → to_come ≡ 0 → current
    ≡ [] → total ≡ Ok so_far
reaches_end order levels total level to_come before left so_far current reached count none =
    sym reached.answer ∙ rw (count, none) (ap Ok (append-nil so_far))

-- the whole file after a header
pub data_first : {A : Type 0} (order : WordOrder) (levels : LevelSizes A) (n key_bytes : ℕ)
    (input : List ℕ) (stop : Stop DataFault) → Fails (enough key_bytes (length input) 64) stop
    → Fails (data_of order levels n key_bytes input) stop
unfolding data_of
data_first order levels n key_bytes input stop says =
    fails_as (enough key_bytes (length input) 64) _ stop (λ fault fails. rw fails refl) says

pub data_is : {A : Type 0} (order : WordOrder) (levels : LevelSizes A) (n key_bytes : ℕ)
    (input : List ℕ) → enough key_bytes (length input) 64 ≡ Ok tt
    → data_of order levels n key_bytes input ≡ levels_of order levels 0 n (64 + key_bytes)
    (drop key_bytes input)
unfolding data_of
data_is order levels n key_bytes input e = rw e refl
