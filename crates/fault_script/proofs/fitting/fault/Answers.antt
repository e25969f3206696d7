use Rattle.std.proofs.Common.{◌≡◌, ◌<◌, ℕ, refl, Bool, true, false, cond, Option, Some, None, Result, Ok, Err, IfOk, slice_get, ap, sym, ◌∙◌, arith}
use Rattle.std.proofs.lemmas.Option.{slice_get_past}
use Rattle.vcp_base.specs.Limits.{most_cycles}
use Rattle.op_graph.specs.declared.op.Op.{Op}
use Rattle.op_graph.specs.Lists.{Lists}
use Rattle.fault_script.specs.declared.act.Fault.{Fault}
use Rattle.fault_script.specs.declared.forms.Change.{Change}
use Rattle.fault_script.specs.declared.script_fault.ScriptFault.{ScriptFault}
use Rattle.fault_script.specs.declared.script_fault.ScriptFault.TheVariants as refusal
use Rattle.fault_script.specs.Fits.{Fits, is_alike, is_moderate, is_sited, is_timely}
use Rattle.fault_script.specs.ScriptOf.{fault_at, fault_if}
use Rattle.fault_script.proofs.fitting.fault.Goals as goal

-- a fault that passes the three tests fits
by_tests : (g : Lists) (n : ℕ) (c : Change) (op : Op) (r : Result Fault ScriptFault) (sited timely alike : Bool) → c.cycle < most_cycles
    → is_moderate c.act ≡ true → slice_get g.operations c.op ≡ Some op → is_sited op.kind c.op c.act ≡ sited → is_timely c.cycle c.act ≡ timely
    → is_alike op.kind c.act ≡ alike
    → r ≡ cond sited
    (cond timely (cond alike (Ok (record { line = n; cycle = c.cycle; op = c.op; act = c.act })) (Err (refusal.Kind n))) (Err (refusal.Early n)))
    (Err (refusal.Site n))
    → IfOk r (λ f. Fits g f)
by_tests g n c op r true true true few moderate there s t a is = rw is (record {
  cycle = few;
  op = op;
  there = there;
  act = record { sited = s; timely = t; alike = a; moderate = moderate };
})
by_tests g n c op r true true false few moderate there s t a is = rw is tt
by_tests g n c op r true false alike few moderate there s t a is = rw is tt
by_tests g n c op r false timely alike few moderate there s t a is = rw is tt

pub returns-clause-fault : goal.returns-clause-fault
returns-clause-fault c =
    c.fault_at.ensures
    ∙ (ap (λ (o : Option Op). fault_at c.args.line c.in-Some.said o) (sym c.operation.ensures)
    ∙ ap (λ (s : Option Change). fault_if c.args.graph.now c.args.line s) c.in-Some.ensures.change)

pub returns-clause-fits : goal.returns-clause-fits
returns-clause-fits c =
    by_tests c.args.graph.now c.args.line c.in-Some.said c.operation.result c.fault_at.result _ _ _ c.in-Some.ensures.cycle c.in-Some.ensures.moderate
    c.operation.ensures refl refl refl c.fault_at.ensures

-- no value, where it isn't one
none_if : (o : Option Change) → ((c : Change) → o ≡ Some c → ⊥) → o ≡ None
none_if None h = refl
none_if (Some c) h = absurd (h c refl)

pub returns-in_default-clause-fault : goal.returns-in_default-clause-fault
returns-in_default-clause-fault c =
    sym (ap (λ (s : Option Change). fault_if c.args.graph.now c.args.line s)
    (sym c.change_of_line.ensures.change ∙ none_if c.change_of_line.result c.in_default.not-Some))

pub returns-then-said-len-clause-fault : goal.returns-then-said-len-clause-fault
returns-then-said-len-clause-fault c =
    let past : slice_get c.args.graph.now.operations c.in-Some.said.op ≡ None =
    slice_get_past c.args.graph.now.operations c.in-Some.said.op (omega (arith, c.len.ensures, c.if-said-len.true)) in
    ap (λ (o : Option Op). fault_at c.args.line c.in-Some.said o) (sym past)
    ∙ ap (λ (s : Option Change). fault_if c.args.graph.now c.args.line s) c.in-Some.ensures.change
