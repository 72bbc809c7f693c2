use Rattle.std.proofs.Common.{◌*◌, ◌≤◌, arith, subst, le_refl}
use Rattle.std.proofs.lemmas.Nat.{mul-le}
use Rattle.astc_model.specs.Limits.{most_texels}
use Rattle.texture.specs.Shapes.{IsValid, image_count}
use Rattle.texture.proofs.ShapeLaws.{face_small, faces_small, images-some}
use Rattle.texture.proofs.layout.Layout.image_blocks.Goals as goal

all : (c : goal.After-columns)
    → image_count c.args.self.now * (c.rows.result * c.columns.result) ≤ most_texels
all c =
    faces_small (c.rows.result * c.columns.result) (c.args.self.now.width * c.args.self.now.height)
    (image_count c.args.self.now) most_texels
    (face_small c.args.self.now.width c.args.self.now.height c.rows.result c.columns.result
    c.rows.ensures.most c.columns.ensures.most)
    (subst IsValid c.self.view_is c.self.invariant).not_too_large

pub returns-clause-all : goal.returns-clause-all
returns-clause-all c = all c

pub returns-clause-most : goal.returns-clause-most
returns-clause-most c =
    omega (
      arith,
      all c,
      mul-le 1 (c.rows.result * c.columns.result) (image_count c.args.self.now)
          (c.rows.result * c.columns.result)
          (images-some c.args.self.now (subst IsValid c.self.view_is c.self.invariant))
          (le_refl (c.rows.result * c.columns.result)),
    )
