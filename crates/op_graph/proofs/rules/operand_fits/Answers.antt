use Rattle.std.proofs.Common.{◌≡◌, ◌<◌, ◌≤◌, ◌∙◌, refl, ℕ, List, length, get_or, Option, Some, false}
use Rattle.std.proofs.lemmas.Option.{slice_get_read, slice_get_past}
use Rattle.vcp_base.specs.declared.ty.Ty.{Ty}
use Rattle.vcp_base.specs.Types.{within}
use Rattle.op_graph.specs.declared.op.Op.{Op}
use Rattle.op_graph.specs.Rules.{operand_fits}
use Rattle.op_graph.proofs.rules.operand_fits.Goals as goal

none_there : (before : List Op) (n : ℕ) (wanted : Option Ty) (ty : Ty) → wanted ≡ Some ty → length before ≤ n → false ≡ operand_fits before wanted n
none_there before n wanted ty is past = rw (is, slice_get_past before n past, operand_fits) refl

one_there : (before : List Op) (n : ℕ) (wanted : Option Ty) (ty : Ty) (op : Op) → wanted ≡ Some ty → n < length before → op ≡ get_or before n op
    → within op.ty ty ≡ operand_fits before wanted n
one_there before n wanted ty op is inside read = rw (is, slice_get_read before (length before) n op refl inside read, operand_fits) refl

pub returns-in-None : goal.returns-in-None
returns-in-None c = rw c.in-None.is refl

pub returns-in-None-get : goal.returns-in-None-get
returns-in-None-get c = none_there c.args.before.now c.args.n c.args.wanted c.in-Some.ty c.in-Some.is c.in-None-get.ensures.lookup.3

pub returns-in-Some-get : goal.returns-in-Some-get
returns-in-Some-get c =
    let lookup = c.in-Some-get.ensures.lookup in
    c.within.ensures
    ∙ one_there c.args.before.now c.args.n c.args.wanted c.in-Some.ty c.in-Some-get.op.now c.in-Some.is lookup.3.0 lookup.1
