use Rattle.std.proofs.Common.{◌≡◌, ◌*◌, ◌<◌, ◌≤◌, ◌∙◌, ℕ, length, get_or, sym, arith}
use Rattle.astc_model.specs.Sums.{sum_to}
use Rattle.astc_model.proofs.SumLaws.{sum_to-≤}
use Rattle.error_tables.specs.Kept.{error_at}
use Rattle.error_tables.specs.Reached.{is_among}
use Rattle.error_tables.specs.declared.tables.Tables.{Tables}
use Rattle.error_tables.proofs.TableLaws.{error_at-is, kept_sum, sum_is, pick}
use Rattle.error_tables.proofs.ReachLists.{reaches_same}
use Rattle.error_tables.proofs.tables.follow.Goals as goal

pub renewed-total-requires-clause-total : goal.renewed-total-requires-clause-total
renewed-total-requires-clause-total g c = kept_sum g.row.W g.row.H c.args.tables.now c.requires.kept

pub renewed-total-requires-clause-within : goal.renewed-total-requires-clause-within
renewed-total-requires-clause-within g c = rw c.requires.kept.all c.requires.within

pub returns-clause-kept : goal.returns-clause-kept
returns-clause-kept g c =
    let t : Tables = record {
      block = c.args.block;
      mode = c.args.tables.now.mode;
      level = c.args.tables.now.level;
      weights = c.args.tables.now.weights;
      places = c.args.tables.now.places;
      decoded = record c.args.tables.now.decoded {
        ends = c.args.ends;
        numerators = c.args.numerators;
      };
      around = c.args.tables.now.around;
      reaches = c.args.tables.now.reaches;
      errors = c.renewed-total.result.each;
      total = c.renewed-total.result.total;
    } in
    let exact : (p : ℕ) → p < g.row.W * g.row.H
    → get_or c.renewed-total.result.each p 0
    ≡ error_at g.row.W g.row.H c.args.tables.now c.args.block p =
    λ p below. pick (is_among p c.args.reach.now) _ _ _ _ (c.renewed-total.ensures.each p)
    (error_at-is g.row.W g.row.H t c.requires.shaped c.requires.decoded p below)
    (λ off. c.requires.kept.errors_are p below ∙ sym (c.requires.stays p below off))
    in
    let sum : _ = sum_is g.row.W g.row.H t (λ p. get_or c.renewed-total.result.each p 0)
    (length c.args.tables.now.places.now) c.requires.kept.all exact in
    let most : sum_to (λ p. get_or c.renewed-total.result.each p 0)
    (length c.args.tables.now.places.now) ≤ length c.args.tables.now.places.now * 3901500 =
    sum_to-≤ (λ p. get_or c.renewed-total.result.each p 0) 3901500
    (length c.args.tables.now.places.now)
    (λ p below. c.renewed-total.ensures.small p 0
    (omega (arith, c.renewed-total.ensures.all, c.requires.kept.small.few_places)))
    in
    record {
      sides = c.requires.kept.sides;
      all = c.requires.kept.all;
      is_shaped = c.requires.shaped;
      is_decoded = c.requires.decoded;
      around_are = c.requires.kept.around_are;
      reaches_are = reaches_same g.row.W g.row.H c.args.tables.now.block c.args.block
          c.args.tables.now.places.now c.args.tables.now.reaches c.requires.parts c.requires.seed
          c.requires.kept.reaches_are;
      small = record {
        sound = c.requires.decoded.sound;
        weights = c.requires.kept.small.weights;
        errors = c.renewed-total.ensures.small;
        total = omega (
          arith,
          c.renewed-total.ensures.total,
          most,
          c.requires.kept.small.few_places,
        );
        all_errors = c.renewed-total.ensures.all;
        few_places = c.requires.kept.small.few_places;
      };
      errors_are = exact;
      total_is = c.renewed-total.ensures.total ∙ sum;
    }
