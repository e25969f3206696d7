-- GroupsFit: groups that fit a graph.
use Rattle.std.proofs.Common.{◌≡◌, ℕ, ◌+◌, ◌<◌, ◌≤◌, ◌==◌, Bool, true, false, ◌&&◌, ◌||◌, List, [], ◌∷◌, ◌++◌, length, Option, Some, None, Result, IfOk, OnOk, All}
use Rattle.std.proofs.Common.{refl, sym, ap, ◌∙◌, subst, arith, length-append}
use Rattle.std.proofs.lemmas.Bool.Decides.{nat_tests}
use Rattle.std.proofs.lemmas.List.Elements.{All-nil, All-push, All-head, All-tail}
use Rattle.std.proofs.lemmas.List.Folds.{list_any-append}
use Rattle.std.proofs.lemmas.List.Sums.{sum_by_push, sum_by-cons}
use Rattle.std.proofs.lemmas.Result.{IfOk-weaker}
use Rattle.op_graph.specs.Lists.{Lists}
use Rattle.fault_script.specs.declared.act.Fault.{Fault}
use Rattle.fault_script.specs.declared.reading.Opened.{Opened}
use Rattle.fault_script.specs.declared.reading.Reading.{Reading as State}
use Rattle.fault_script.specs.declared.script_fault.ScriptFault.{ScriptFault}
use Rattle.fault_script.specs.Fits.{Fits}
use Rattle.fault_script.specs.Groups.{same_place, is_taken, Apart, GroupFits, fault_count}
use Rattle.fault_script.specs.ScriptOf.{most_faults}
use Rattle.fault_script.specs.Reading.{OpenFits, pending, ReadingFits}

-- ---- apart

eq_flips : (m n : ℕ) → (m == n) ≡ (n == m)
eq_flips m n = grind (arith, nat_tests)

place_flips : (f h : Fault) → same_place f h ≡ same_place h f
place_flips f h = ap (λ (b : Bool). b && f.op == h.op) (eq_flips f.cycle h.cycle) ∙ ap (λ (b : Bool). h.cycle == f.cycle && b) (eq_flips f.op h.op)

or_no : (a b : Bool) → (a || b) ≡ false → (a ≡ false) × (b ≡ false)
or_no true b h = absurd cc
or_no false b h = (refl, h)

-- a fault at a place of its own goes behind the others
pub apart_push : (faults : List Fault) (f : Fault) → Apart faults → is_taken f faults ≡ false → Apart (faults ++ f ∷ [])
apart_push [] f apart free = (refl, tt)
apart_push (h ∷ faults) f apart free =
    let (here, behind) = or_no (same_place f h) (is_taken f faults) free in
    let other : same_place h f ≡ false = place_flips h f ∙ here in (
      list_any-append (same_place h) faults (f ∷ [])
          ∙ (ap (λ (b : Bool). b || (same_place h f || false)) apart.0 ∙ ap (λ (b : Bool). b || false) other),
      apart_push faults f apart.1 behind,
    )

-- ---- what was read

pub alone_fits : (g : Lists) (r : State) (f : Fault) → r.opened ≡ None → r.count < most_faults → Fits g f → ReadingFits g r
    → ReadingFits g (record { script = r.script ++ (f ∷ []) ∷ []; opened = None; count = r.count + 1 })
alone_fits g r f none room fit fits =
    let before : fault_count r.script + pending None ≡ r.count = subst (λ (o : Option Opened). fault_count r.script + pending o ≡ r.count) none fits.all in
    record {
      groups = All-push (GroupFits g) r.script (f ∷ []) fits.groups
          (record { some = omega arith; fits = All-push (Fits g) [] f (All-nil (Fits g)) fit; apart = (refl, tt) });
      opened = tt;
      all = omega (arith, sum_by_push (λ (faults : List Fault). length faults) r.script (f ∷ []), before);
      few = omega (arith, room);
    }

pub joined_fits : (g : Lists) (r : State) (f : Fault) (o new : Opened) → r.opened ≡ Some o → new.group ≡ o.group ++ f ∷ [] → is_taken f o.group ≡ false
    → r.count < most_faults → Fits g f → ReadingFits g r
    → ReadingFits g (record { script = r.script; opened = Some new; count = r.count + 1 })
joined_fits g r f o new is more free room fit fits =
    let so_far : OpenFits g (Some o) = subst (λ (o : Option Opened). OpenFits g o) is fits.opened in
    let before : fault_count r.script + length o.group ≡ r.count =
    subst (λ (o : Option Opened). fault_count r.script + pending o ≡ r.count) is fits.all in
    let joined : All (Fits g) (o.group ++ f ∷ []) × Apart (o.group ++ f ∷ []) =
    (All-push (Fits g) o.group f so_far.0 fit, apart_push o.group f so_far.1 free) in
    let many : length new.group ≡ length o.group + 1 = ap length more ∙ length-append o.group (f ∷ []) in
    record {
      groups = fits.groups;
      opened = subst (λ (faults : List Fault). All (Fits g) faults × Apart faults) (sym more) joined;
      all = omega (arith, many, before);
      few = omega (arith, room);
    }

pub ended_fits : (g : Lists) (r : State) (o : Opened) → r.opened ≡ Some o → 0 < length o.group → ReadingFits g r
    → ReadingFits g (record { script = r.script ++ o.group ∷ []; opened = None; count = r.count })
ended_fits g r o is some fits =
    let so_far : OpenFits g (Some o) = subst (λ (o : Option Opened). OpenFits g o) is fits.opened in
    let before : fault_count r.script + length o.group ≡ r.count =
    subst (λ (o : Option Opened). fault_count r.script + pending o ≡ r.count) is fits.all in
    record {
      groups = All-push (GroupFits g) r.script o.group fits.groups (record { some = some; fits = so_far.0; apart = so_far.1 });
      opened = tt;
      all = omega (arith, sum_by_push (λ (faults : List Fault). length faults) r.script o.group, before);
      few = fits.few;
    }

-- of one graph, where it is so of all
pub fits_here : (g : Lists) (old new : State) (result : Result (Unit {0}) ScriptFault) → OnOk result ((g : Lists) → ReadingFits g old → ReadingFits g new)
    → OnOk result (ReadingFits g old → ReadingFits g new)
fits_here g old new result h =
    let Each : Unit {0} → Type 0 = λ u. (g : Lists) → ReadingFits g old → ReadingFits g new in
    let One : Unit {0} → Type 0 = λ u. ReadingFits g old → ReadingFits g new in
    IfOk-weaker result Each One (λ u all. all g) h

-- groups with faults are no more than these
few_groups : (g : Lists) (groups : List (List Fault)) → All (GroupFits g) groups → length groups ≤ fault_count groups
few_groups g [] all = omega arith
few_groups g (faults ∷ groups) all =
    let some : 0 < length faults = (All-head (GroupFits g) faults groups all).some in
    let more : length groups ≤ fault_count groups = few_groups g groups (All-tail (GroupFits g) faults groups all) in
    omega (arith, some, more, sum_by-cons (λ (faults : List Fault). length faults) faults groups)

pub few_are : (g : Lists) (groups : List (List Fault)) → All (GroupFits g) groups → fault_count groups ≤ most_faults → length groups ≤ most_faults
few_are g groups all few = omega (arith, few_groups g groups all, few)

-- what is left when the last line was read
pub finished : (g : Lists) (r : State) → r.opened ≡ None → ReadingFits g r → All (GroupFits g) r.script × fault_count r.script ≤ most_faults
finished g r none fits =
    let before : fault_count r.script + pending None ≡ r.count = subst (λ (o : Option Opened). fault_count r.script + pending o ≡ r.count) none fits.all in
    (fits.groups, omega (arith, before, fits.few))

-- whatever the last call gives
pub groups_fit : (g : Lists) (r : State) (result : Result (List (List Fault)) ScriptFault)
    → IfOk result (λ script. (g : Lists) → ReadingFits g r → All (GroupFits g) script × fault_count script ≤ most_faults) → ReadingFits g r
    → IfOk result (All (GroupFits g))
groups_fit g r result h fits = IfOk-weaker result _ (All (GroupFits g)) (λ script all. (all g fits).0) h

pub faults_few : (g : Lists) (r : State) (result : Result (List (List Fault)) ScriptFault)
    → IfOk result (λ script. (g : Lists) → ReadingFits g r → All (GroupFits g) script × fault_count script ≤ most_faults) → ReadingFits g r
    → IfOk result (λ script. fault_count script ≤ most_faults)
faults_few g r result h fits = IfOk-weaker result _ (λ script. fault_count script ≤ most_faults) (λ script all. (all g fits).1) h

pub groups_few : (g : Lists) (r : State) (result : Result (List (List Fault)) ScriptFault)
    → IfOk result (λ script. (g : Lists) → ReadingFits g r → All (GroupFits g) script × fault_count script ≤ most_faults) → ReadingFits g r
    → IfOk result (λ script. length script ≤ most_faults)
groups_few g r result h fits =
    IfOk-weaker result _ (λ script. length script ≤ most_faults) (λ script all. few_are g script (all g fits).0 (all g fits).1) h
