use Rattle.std.proofs.Common.{◌+◌, ap, arith}
use Rattle.st_parser.specs.FormViews.{weight}
use Rattle.st_parser.proofs.Frames.{forms-none, depth-next, depth-take}
use Rattle.st_parser.proofs.forms.is_within.Goals as goal

pub loop-form-init : goal.loop-form-init
loop-form-init c = rw forms-none (omega arith)

pub loop-form-preserved : goal.loop-form-preserved
loop-form-preserved c =
    omega (arith, c.in-Some.ensures, ap weight c.form-item.is, depth-next c.args.forms.now c.loop-form.form-index c.form-item.result c.loop-form-test.true)

pub returns-in-None : goal.returns-in-None
returns-in-None c = (
  λ e. absurd cc,
  λ le. absurd
      (omega (
        arith,
        le,
        c.in-None.ensures,
        ap weight c.form-item.is,
        depth-next c.args.forms.now c.loop-form.form-index c.form-item.result c.loop-form-test.true,
        depth-take c.args.forms.now (c.loop-form.form-index + 1),
      )),
)
