use Rattle.std.proofs.Common.{lit<}
use Rattle.block_mode.proofs.ModeLaws.{decoded_mode-range}
use Rattle.listed_walk.proofs.KindLaws.{mode_of_entry}
use Rattle.listed_walk.proofs.walk.Walk.look_at_candidate.Goals as goal

pub look_at_view-requires : goal.look_at_view-requires
look_at_view-requires g c = (
  lit< tt,
  (
    record {
      layout = c.requires.layout;
      entry = c.requires.entry;
      own = mode_of_entry g.row.W g.row.H c.args.layout.now.shape.now c.args.entry c.requires.entry;
      range = decoded_mode-range c.args.entry.number c.args.entry.mode c.requires.entry.small
          c.requires.entry.known;
      drawing = c.requires.drawing;
    },
    c.requires.sound,
  ),
)
