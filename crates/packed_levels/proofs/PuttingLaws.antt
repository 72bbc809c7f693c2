-- Pieces put one after the other, and the state that calls of `put` leave unchanged.
use Rattle.std.proofs.Common.{◌≡◌, ℕ, ◌≤◌, List, ◌++◌, Option, Result, Ok, Err, ◌∙◌, ap, subst, arith}
use Rattle.std.specs.Prelude.{OnOk, OnErr, IsErrAnd, IsErrOf}
use Rattle.tex_shelf.specs.Files.{Files, with_more}
use Rattle.tex_shelf.specs.Faults.{Rose}
use Rattle.tex_shelf.specs.Frames.{OnlyWrites}
use Rattle.tex_shelf.specs.declared.shelf.Shelf.{Ghosts as ShelfMeanings}
use Rattle.tex_shelf.specs.declared.stop.ShelfStop.{ShelfStop}
use Rattle.tex_shelf.specs.declared.stop.ShelfStop.TheVariants.{Failed}
use Rattle.outcomes.specs.Causes.{IsPartlyPut, Stopped, Puts}
use Rattle.outcomes.proofs.PieceLaws.{put-more, stopped-last, stopped-front, stopped-put}

-- an error that is known
pub err-is : {X E : Type 0} (r : Result X E) (stop : E) → IsErrAnd r (λ e. e ≡ stop) → r ≡ Err stop
err-is (Ok x) stop is = absurd is
err-is (Err e) stop is = ap Err is

-- what two calls leave alone
pub writes-on : {S : Type 0} (means : ShelfMeanings S) (a b c : S) → OnlyWrites means a b
    → OnlyWrites means b c → OnlyWrites means a c
writes-on means a b c first second = record {
  read_faults = second.read_faults ∙ first.read_faults;
  write_faults = omega (arith, first.write_faults, second.write_faults);
  can_open = λ name can. second.can_open name (first.can_open name can);
  can_create = λ name can. second.can_create name (first.can_create name can);
  can_put = λ can. second.can_put (first.can_put can);
}

-- two pieces, one after the other

-- the result of putting all of a piece
pub puts-all : (f h : Option Files) (t : Option (List ℕ)) (bytes : List ℕ) (first last : ℕ)
    (r : Result (Unit {0}) ShelfStop) → OnOk r (h ≡ with_more f t bytes)
    → OnErr r (IsPartlyPut f t bytes h)
    → (IsErrOf r Failed → Rose first last) → Puts f t h bytes first last r
puts-all f h t bytes first last (Ok done) put partly failed = put
puts-all f h t bytes first last (Err stop) put partly failed =
    stopped-put (IsPartlyPut f t bytes h) first last stop partly failed

-- the first piece was put, and this came of the second
pub puts-behind : {X : Type 0} (f g h : Option Files) (t t' : Option (List ℕ)) (a b whole : List ℕ)
    (first middle last : ℕ) (r : Result X ShelfStop) → a ++ b ≡ whole → g ≡ with_more f t a → t' ≡ t
    → first ≤ middle
    → Puts g t' h b middle last r → Puts f t h whole first last r
puts-behind f g h t t' a b whole first middle last (Ok done) is put target later puts =
    put-more f g h t t' a b put target puts ∙ ap (with_more f t) is
puts-behind f g h t t' a b whole first middle last (Err stop) is put target later stopped =
    subst (λ bytes. Stopped first last (IsPartlyPut f t bytes h) stop) is
    (stopped-last f g h t t' a b first middle last stop put target later stopped)

-- the first piece was put in part
pub stopped-before : (f h : Option Files) (t : Option (List ℕ)) (a b whole : List ℕ)
    (first last : ℕ) (stop : ShelfStop) → a ++ b ≡ whole
    → Stopped first last (IsPartlyPut f t a h) stop
    → Stopped first last (IsPartlyPut f t whole h) stop
stopped-before f h t a b whole first last stop is stopped =
    subst (λ bytes. Stopped first last (IsPartlyPut f t bytes h) stop) is
    (stopped-front f h t a b first last stop stopped)
