use Rattle.std.proofs.Common.{◌≡◌, ℕ, ◌<◌, ◌++◌, ◌∷◌, [], length, Option, Some, None, Result, OnOk, sym, ap, subst, ◌∙◌, arith}
use Rattle.std.proofs.lemmas.Result.{IfOk-weaker}
use Rattle.op_graph.specs.Lists.{Lists}
use Rattle.fault_script.specs.declared.reading.Opened.{Opened}
use Rattle.fault_script.specs.declared.reading.Reading.{Reading as State}
use Rattle.fault_script.specs.declared.script_fault.ScriptFault.{ScriptFault}
use Rattle.fault_script.specs.Reading.{Goes, ReadingFits}
use Rattle.fault_script.specs.ScriptOf.{ends}
use Rattle.fault_script.proofs.GroupsFit.{ended_fits}
use Rattle.fault_script.proofs.LinesRead.{ends_none, ends_empty, ends_goes}
use Rattle.fault_script.proofs.reading.Reading.end.Goals as goal

-- with one group more, and this open
abbrev with_group : State → Opened → Option Opened → State
with_group r o opened = record { script = r.script ++ o.group ∷ []; opened = opened; count = r.count }

with_none : (r new : State) (o : Opened) (opened : Option Opened) → opened ≡ None → new ≡ with_group r o opened → with_group r o None ≡ new
with_none r new o opened after same = sym (same ∙ ap (λ (x : Option Opened). with_group r o x) after)

went : (r new : State) (n : ℕ) (o : Opened) (opened : Option Opened) (result : Result (Unit {0}) ScriptFault) → r.opened ≡ Some o → 0 < length o.group
    → opened ≡ None → OnOk result (new ≡ with_group r o opened) → OnOk result (Goes (ends n) r new)
went r new n o opened result is some after h =
    IfOk-weaker result (λ _. new ≡ with_group r o opened) (λ _. Goes (ends n) r new)
    (λ _ same. subst (λ (s : State). Goes (ends n) r s) (with_none r new o opened after same) (ends_goes r n o is some)) h

fitted : (r new : State) (o : Opened) (opened : Option Opened) (result : Result (Unit {0}) ScriptFault) → r.opened ≡ Some o → 0 < length o.group
    → opened ≡ None → OnOk result (new ≡ with_group r o opened) → OnOk result ((g : Lists) → ReadingFits g r → ReadingFits g new)
fitted r new o opened result is some after h =
    IfOk-weaker result (λ _. new ≡ with_group r o opened) (λ _. (g : Lists) → ReadingFits g r → ReadingFits g new)
    (λ _ same. λ g fits. subst (λ (s : State). ReadingFits g s) (with_none r new o opened after same) (ended_fits g r o is some fits)) h

pub returns-in-None-clause-refusal : goal.returns-in-None-clause-refusal
returns-in-None-clause-refusal c = λ _. ends_none c.args.self.now c.args.line (sym c.take.ensures.value ∙ c.in-None.is)

pub returns-then-len-eq0-clause-refusal : goal.returns-then-len-eq0-clause-refusal
returns-then-len-eq0-clause-refusal c =
    λ _. ends_empty c.args.self.now c.args.line c.in-Some.opened (sym c.take.ensures.value ∙ c.in-Some.is) (omega (arith, c.len.ensures, c.if-len-eq0.true))

pub returns-else-len-eq0-clause-ok : goal.returns-else-len-eq0-clause-ok
returns-else-len-eq0-clause-ok c =
    let some : 0 < length c.in-Some.opened.group = omega (arith, c.len.ensures, c.if-len-eq0.false) in
    went c.args.self.now c.push.new.self c.args.line c.in-Some.opened c.take.new.self c.push.result (sym c.take.ensures.value ∙ c.in-Some.is) some
    c.take.ensures.after c.push.ensures.ok

pub returns-else-len-eq0-clause-fits : goal.returns-else-len-eq0-clause-fits
returns-else-len-eq0-clause-fits c =
    let some : 0 < length c.in-Some.opened.group = omega (arith, c.len.ensures, c.if-len-eq0.false) in
    fitted c.args.self.now c.push.new.self c.in-Some.opened c.take.new.self c.push.result (sym c.take.ensures.value ∙ c.in-Some.is) some
    c.take.ensures.after c.push.ensures.ok
