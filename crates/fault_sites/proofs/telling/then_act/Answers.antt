use Rattle.std.proofs.Common.{[], ◌∷◌, refl, arith}
use Rattle.fault_sites.specs.Sites.{site}
use Rattle.fault_sites.proofs.Going.{one_passed, one_told, tells_none, tells_over}
use Rattle.vcp_outside.specs.Pens.{and_then}
use Rattle.fault_sites.proofs.telling.then_act.Goals as goal

pub returns-in_default : goal.returns-in_default
returns-in_default g c = rw c.in_default.is tells_none

pub returns-then-part-eq0 : goal.returns-then-part-eq0
returns-then-part-eq0 g c = rw c.in-Some.is (tells_over (site c.args.n c.args.k c.in-Some.act ∷ []) c.if-part-eq0.true)

pub returns-then-part-gt0 : goal.returns-then-part-gt0
returns-then-part-gt0 g c = rw c.in-Some.is (one_passed (site c.args.n c.args.k c.in-Some.act) (omega arith) c.if-part-gt0.true refl refl)

pub returns : goal.returns
returns g c =
    rw c.in-Some.is
    (one_told (site c.args.n c.args.k c.in-Some.act) (omega arith) (omega arith) refl refl (and_then c.text.ensures c.then_site-pen.ensures))
