use Rattle.texel_error.specs.PlaceColours.{AreEndTables}
use Rattle.texel_error.proofs.colours.EndTables.of.Given as goal

abbrev pub invariant-loop-part : goal.invariant-loop-part
invariant-loop-part l = AreEndTables l.ends l.part
    (record { firsts = l.firsts; seconds = l.seconds })
