use Rattle.std.proofs.Common.{◌≡◌, ◌∙◌, ap, refl}
use Rattle.page.specs.Blocks.{TellsCoded, TellsGrid, nothing_told}
use Rattle.page.proofs.blocks.told_coded.Goals as goal

pub returns : goal.returns
unfolding nothing_told
returns g c = record {
  fault = ap (λ told. told.fault) c.of_fault-told.ensures;
  coded_is = refl;
  mode = c.from.ensures;
  grid = rw c.shape_of-level.ensures.legal.mode_known
      (record {
        across = c.from-2.ensures;
        down = c.from-3.ensures;
        planes = c.from-4.ensures;
        values = c.from-5.ensures ∙ c.count.ensures;
      });
  parts = c.from-7.ensures;
  seed = c.from-8.ensures;
  selector = c.from-9.ensures;
  plane = c.from-10.ensures;
  cems = refl;
  colour_count = c.len.ensures.value;
  weight_count = c.len-2.ensures.value;
  no_values = ap (λ told. told.rgba) c.of_fault-told.ensures;
  no_extent = ap (λ told. told.extent) c.of_fault-told.ensures;
}
