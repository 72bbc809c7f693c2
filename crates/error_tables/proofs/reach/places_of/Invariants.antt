use Rattle.std.proofs.Common.{◌≡◌, take, map}
use Rattle.error_tables.proofs.reach.places_of.Given as goal

abbrev pub invariant-loop-touch : goal.invariant-loop-touch
invariant-loop-touch l = l.places.items ≡ map (λ touch. touch.0) (take l.touch-index l.reach)
