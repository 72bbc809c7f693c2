use Rattle.std.proofs.Common.{ℕ, ap, ◌∙◌}
use Rattle.texel_error.specs.Shown.{Ends}
use Rattle.error_tables.specs.Floors.{form_more, form_less}
use Rattle.colour_bounds.proofs.CurveLaws.{form_quadratic, form_affine}
use Rattle.colour_bounds.proofs.curves.curve_of.Goals as goal

pub returns-clause-on : goal.returns-clause-on
returns-clause-on c = λ ends straight first_is middle_is last_is value.
    let more : Ends → ℕ = form_more c.args.tables.now c.args.floor.now in
    let less : Ends → ℕ = form_less c.args.tables.now c.args.floor.now in
    record {
      more_is = c.curve_through.ensures.more (λ v. more (ends v))
          (form_quadratic c.args.tables.now c.args.floor.now ends straight)
          (c.form_of.ensures.more ∙ ap more first_is) (c.form_of-2.ensures.more ∙ ap more middle_is)
          (c.form_of-3.ensures.more ∙ ap more last_is) value;
      less_is = c.curve_through.ensures.less (λ v. less (ends v))
          (form_affine c.args.tables.now c.args.floor.now ends straight)
          (c.form_of.ensures.less ∙ ap less first_is) (c.form_of-2.ensures.less ∙ ap less middle_is)
          value;
    }
