use Rattle.std.proofs.Common.{◌≡◌, ℕ, ◌+◌, ◌<◌, ◌++◌, ◌∷◌, [], false, List, Option, Some, None, Result, Ok, OnOk, sym, ap₂, subst, ◌∙◌}
use Rattle.std.proofs.lemmas.Result.{IfOk-weaker}
use Rattle.op_graph.specs.Lists.{Lists}
use Rattle.fault_script.specs.declared.act.Fault.{Fault}
use Rattle.fault_script.specs.declared.reading.Opened.{Opened}
use Rattle.fault_script.specs.declared.reading.Reading.{Reading as State}
use Rattle.fault_script.specs.declared.script_fault.ScriptFault.{ScriptFault}
use Rattle.fault_script.specs.Fits.{Fits}
use Rattle.fault_script.specs.Groups.{is_taken}
use Rattle.fault_script.specs.Reading.{Goes, ReadingFits}
use Rattle.fault_script.specs.ScriptOf.{most_faults, says}
use Rattle.fault_script.proofs.GroupsFit.{alone_fits, joined_fits}
use Rattle.fault_script.proofs.LinesRead.{alone_goes, joined_goes}
use Rattle.fault_script.proofs.reading.Reading.add.Goals as goal

-- with one group more, and this open
abbrev with_group : State → List Fault → Option Opened → State
with_group r group opened = record { script = r.script ++ group ∷ []; opened = opened; count = r.count + 1 }

abbrev opened_of : State → Opened → State
opened_of r o = record { script = r.script; opened = Some o; count = r.count + 1 }

alone_is : (r new : State) (f : Fault) (group : List Fault) (opened : Option Opened) → group ≡ f ∷ [] → opened ≡ None → new ≡ with_group r group opened
    → with_group r (f ∷ []) None ≡ new
alone_is r new f group opened is after same = sym (same ∙ ap₂ (λ (xs : List Fault) (o : Option Opened). with_group r xs o) is after)

alone_went : (r new : State) (f : Fault) (group : List Fault) (opened : Option Opened) (result : Result (Unit {0}) ScriptFault) → r.opened ≡ None
    → group ≡ f ∷ [] → opened ≡ None → OnOk result (new ≡ with_group r group opened) → OnOk result (Goes (says (Ok f)) r new)
alone_went r new f group opened result none is after h =
    IfOk-weaker result (λ _. new ≡ with_group r group opened) (λ _. Goes (says (Ok f)) r new)
    (λ _ same. subst (λ (s : State). Goes (says (Ok f)) r s) (alone_is r new f group opened is after same) (alone_goes r f none)) h

alone_fitted : (r new : State) (f : Fault) (group : List Fault) (opened : Option Opened) (result : Result (Unit {0}) ScriptFault) → r.opened ≡ None
    → group ≡ f ∷ [] → opened ≡ None → r.count < most_faults → OnOk result (new ≡ with_group r group opened)
    → OnOk result ((g : Lists) → Fits g f → ReadingFits g r → ReadingFits g new)
alone_fitted r new f group opened result none is after room h =
    IfOk-weaker result (λ _. new ≡ with_group r group opened) (λ _. (g : Lists) → Fits g f → ReadingFits g r → ReadingFits g new)
    (λ _ same. λ g fit fits. subst (λ (s : State). ReadingFits g s) (alone_is r new f group opened is after same) (alone_fits g r f none room fit fits)) h

abbrev begun_at : ℕ → List Fault → Opened
begun_at line group = record { line = line; group = group }

joined_went : (r : State) (f : Fault) (o new : Opened) → r.opened ≡ Some o → new.line ≡ o.line → new.group ≡ o.group ++ f ∷ []
    → is_taken f o.group ≡ false → Goes (says (Ok f)) r (opened_of r new)
joined_went r f o new is line group free =
    subst (λ (x : Opened). Goes (says (Ok f)) r (opened_of r x)) (sym (ap₂ begun_at line group)) (joined_goes r f o is free)

pub returns-in-Ok-clause-ok : goal.returns-in-Ok-clause-ok
returns-in-Ok-clause-ok c =
    alone_went c.args.self.now c.push.new.self c.args.fault c.in-Ok.group c.take.new.self c.push.result (sym c.take.ensures.value ∙ c.in-None.is)
    c.in-Ok.ensures c.take.ensures.after c.push.ensures.ok

pub returns-in-Ok-clause-fits : goal.returns-in-Ok-clause-fits
returns-in-Ok-clause-fits c =
    alone_fitted c.args.self.now c.push.new.self c.args.fault c.in-Ok.group c.take.new.self c.push.result (sym c.take.ensures.value ∙ c.in-None.is)
    c.in-Ok.ensures c.take.ensures.after c.requires.room c.push.ensures.ok

pub returns-in-Ok-joined-clause-ok : goal.returns-in-Ok-joined-clause-ok
returns-in-Ok-joined-clause-ok c =
    let ok = c.in-Ok-joined.ensures.ok in
    joined_went c.args.self.now c.args.fault c.in-Some.opened c.in-Ok-joined.opened (sym c.take.ensures.value ∙ c.in-Some.is) ok.0 ok.1 ok.2

pub returns-in-Ok-joined-clause-fits : goal.returns-in-Ok-joined-clause-fits
returns-in-Ok-joined-clause-fits c = λ g fit fits.
    let ok = c.in-Ok-joined.ensures.ok in
    let room : c.args.self.now.count < most_faults = c.requires.room in
    joined_fits g c.args.self.now c.args.fault c.in-Some.opened c.in-Ok-joined.opened (sym c.take.ensures.value ∙ c.in-Some.is) ok.1 ok.2 room fit fits
