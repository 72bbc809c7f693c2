use Rattle.std.proofs.Common.{◌*◌, subst, arith, rules}
use Rattle.texel_error.specs.PlaceColours.{AreColoursTo}
use Rattle.listed_walk.specs.Targets.{AreTargetsTo}
use Rattle.listed_walk.proofs.levels.DrawnLanes.put.Goals as goal

pub returns-then-layout-gt0 : goal.returns-then-layout-gt0
returns-then-layout-gt0 g c =
    let layout = c.args.layout.now in
    let ends = c.args.ends.now in
    let same = c.requires.layout.mapped.map in
    record {
      colours = subst (λ parts. AreColoursTo parts ends (g.row.W * g.row.H) c.put.new.self) same
          (c.put.ensures layout.parts.now ends c.requires.layout.partitions c.of.ensures
          c.requires.parts);
      first = subst (λ parts. AreTargetsTo layout.shape.now.plane 0 parts ends
          c.args.goal.now.places (g.row.W * g.row.H) c.put_targets.new.targets) same
          c.put_targets.ensures;
      second = λ some. subst (λ parts. AreTargetsTo layout.shape.now.plane 1 parts ends
          c.args.goal.now.places (g.row.W * g.row.H)
          c.put_targets-then-layout-gt0.new.targets) same c.put_targets-then-layout-gt0.ensures;
      all_first = search rules;
      all_second = search rules;
    }

pub returns-else-layout-gt0 : goal.returns-else-layout-gt0
returns-else-layout-gt0 g c =
    let layout = c.args.layout.now in
    let ends = c.args.ends.now in
    let same = c.requires.layout.mapped.map in
    record {
      colours = subst (λ parts. AreColoursTo parts ends (g.row.W * g.row.H) c.put.new.self) same
          (c.put.ensures layout.parts.now ends c.requires.layout.partitions c.of.ensures
          c.requires.parts);
      first = subst (λ parts. AreTargetsTo layout.shape.now.plane 0 parts ends
          c.args.goal.now.places (g.row.W * g.row.H) c.put_targets.new.targets) same
          c.put_targets.ensures;
      second = λ some. absurd (omega (arith, some, c.if-layout-gt0.false));
      all_first = search rules;
      all_second = search rules;
    }
