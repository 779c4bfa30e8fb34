use Rattle.std.proofs.Common.{sym, subst, ◌∙◌}
use Rattle.covread.specs.Gcov.{Shape, Other, IsShapeOf}
use Rattle.covread.proofs.GcovShapes.{is_shape, one_shape}
use Rattle.covread.proofs.gcov.shape.fits_no_shape.Goals as goal

pub returns : goal.returns
returns c = (
  λ is. subst (λ (shape : Shape). IsShapeOf c.args.line.now shape) (sym c.shape_of.ensures ∙ c.is_other.ensures.0 is) (is_shape c.args.line.now),
  λ fits. c.is_other.ensures.1 (c.shape_of.ensures ∙ one_shape c.args.line.now Other fits),
)
