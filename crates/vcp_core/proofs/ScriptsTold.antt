-- ScriptsTold: what a text is as a script never is want of memory: it is a script, or is refused at a line.
use Rattle.std.proofs.Common.{ℕ, ◌≡◌, Bool, true, false, cond, ◌&&◌, ◌==◌, nat_lt, ℤ, pos, List, [], ◌∷◌, length, slice_get, Option, Some, None, Result, Ok, Err, subst, codes, bytes_eq}
use Rattle.std.specs.List.{list_all, list_any}
use Rattle.std.specs.Str.Lines.{lines}
use Rattle.vcp_base.specs.Types.{fits}
use Rattle.vcp_base.specs.declared.ty.Ty.TheVariants as ty
use Rattle.op_graph.specs.Lists.{Lists}
use Rattle.op_graph.specs.declared.op.Op.{Op}
use Rattle.vcp_base.specs.Integers.{is_addend}
use Rattle.vcp_base.specs.Lines.{Line, read_lines}
use Rattle.vcp_base.specs.Words.{words}
use Rattle.fault_script.specs.declared.act.Fault.{Fault}
use Rattle.fault_script.specs.declared.forms.Change.{Change}
use Rattle.fault_script.specs.declared.forms.Mark.{Mark}
use Rattle.fault_script.specs.declared.forms.Mark.TheVariants as mark
use Rattle.fault_script.specs.declared.reading.Opened.{Opened}
use Rattle.fault_script.specs.declared.script_fault.ScriptFault.{ScriptFault}
use Rattle.fault_script.specs.declared.script_fault.ScriptFault.TheVariants as script
use Rattle.fault_script.specs.Fits.{is_sited, is_timely, is_alike}
use Rattle.fault_script.specs.Forms.{change_of, mark_of}
use Rattle.fault_script.specs.Groups.{is_taken}
use Rattle.fault_script.specs.ScriptOf.{most_faults, fault_at, fault_if, fault_of, Item, begins, ends, says, item_by, item_of, counted, items_of, onto, ended, with_fault, groups_of, script_of}
use Rattle.telegram.specs.declared.event.Event.{Event}
use Rattle.telegram.specs.declared.wire.Wire.{Wire}
use Rattle.telegram.specs.declared.script.script.WireScript.{WireScript}
use Rattle.telegram.specs.declared.script.wire_fault.WireFault.{WireFault}
use Rattle.telegram.specs.declared.script.wire_fault.WireFault.TheVariants as wire
use Rattle.telegram.specs.Forms.{integers_of, wire_with, or_range, wire_of, head_of, cycle_of, delivery_of, event_of, is_below}
use Rattle.telegram.specs.ScriptOf.{is_head, begun_after, events_of, script_said}
use Rattle.telegram.specs.ScriptOf as wires

-- ---- scripts of faults

-- it is there, or refused for another cause than want of memory
abbrev Told : {X : Type 0} → Result X ScriptFault → Type 0
Told (Ok x) = Unit {0}
Told (Err script.Memory) = ⊥
Told (Err f) = Unit {0}

by_test : {X : Type 0} (b : Bool) (r s : Result X ScriptFault) → Told r → Told s → Told (cond b r s)
by_test true r s h k = h
by_test false r s h k = k

fault_told : (number : ℕ) (c : Option Change) (g : Lists) → Told (fault_if g number c)
fault_told number None g = tt
fault_told number (Some c) g = at_op (slice_get g.operations c.op)
  where
    at_op : (o : Option Op) → Told (fault_at number c o)
    at_op None = tt
    at_op (Some op) =
        let f : Fault = record { line = number; cycle = c.cycle; op = c.op; act = c.act } in
        let alike : Result Fault ScriptFault = cond (is_alike op.kind c.act) (Ok f) (Err (script.Kind number)) in
        let timely : Result Fault ScriptFault = cond (is_timely c.cycle c.act) alike (Err (script.Early number)) in
        by_test (is_sited op.kind c.op c.act) timely (Err (script.Site number))
        (by_test (is_timely c.cycle c.act) alike (Err (script.Early number)) (by_test (is_alike op.kind c.act) (Ok f) (Err (script.Kind number)) tt tt) tt) tt

-- what a line says is there or refused so
abbrev ItemTold : Item → Type 0
ItemTold (begins number) = Unit {0}
ItemTold (ends number) = Unit {0}
ItemTold (says r) = Told r

abbrev ItemsTold : List Item → Type 0
ItemsTold [] = Unit {0}
ItemsTold (i ∷ items) = ItemTold i × ItemsTold items

item_told : (g : Lists) (before : ℕ) (line : Line) (m : Mark) → ItemTold (item_by g before line m)
item_told g before line mark.Begin = tt
item_told g before line mark.End = tt
item_told g before line mark.Fault =
    by_test (nat_lt before most_faults) (fault_of g line) (Err (script.Faults line.number)) (fault_told line.number (change_of (words line.text)) g) tt

items_told : (g : Lists) (before : ℕ) (lines : List Line) → ItemsTold (items_of g before lines)
items_told g before [] = tt
items_told g before (line ∷ more) =
    (item_told g before line (mark_of (words line.text)), items_told g (counted before (item_of g before line)) more)

onto_told : (faults : List Fault) (r : Result (List (List Fault)) ScriptFault) → Told r → Told (onto faults r)
onto_told faults (Ok groups) h = tt
onto_told faults (Err why) h = h

ended_told : (number : ℕ) (faults : List Fault) (r : Result (List (List Fault)) ScriptFault) → Told r → Told (ended number faults r)
ended_told number [] r h = tt
ended_told number (f ∷ faults) r h = onto_told (f ∷ faults) r h

groups_told : (items : List Item) (o : Option Opened) → ItemsTold items → Told (groups_of items o)
groups_told [] None h = tt
groups_told [] (Some o) h = tt
groups_told (begins number ∷ more) None h = groups_told more (Some (record { line = number; group = [] })) h.1
groups_told (begins number ∷ more) (Some o) h = tt
groups_told (ends number ∷ more) None h = tt
groups_told (ends number ∷ more) (Some o) h = ended_told number o.group (groups_of more None) (groups_told more None h.1)
groups_told (says (Err why) ∷ more) o h = h.0
groups_told (says (Ok f) ∷ more) None h = onto_told (f ∷ []) (groups_of more None) (groups_told more None h.1)
groups_told (says (Ok f) ∷ more) (Some o) h =
    by_test (is_taken f o.group) (Err (script.Twice f.line)) (groups_of more (Some (with_fault o f))) tt (groups_told more (Some (with_fault o f)) h.1)

pub script_not_memory : (g : Lists) (text : List ℕ) → script_of g text ≡ Err script.Memory → ⊥
script_not_memory g text e =
    let items = items_of g 0 (read_lines 1 (lines text)) in
    subst (λ r. Told r) e (groups_told items None (items_told g 0 (read_lines 1 (lines text))))

-- ---- scripts of a wire

abbrev WireTold : {X : Type 0} → Result X WireFault → Type 0
WireTold (Ok x) = Unit {0}
WireTold (Err wire.Memory) = ⊥
WireTold (Err f) = Unit {0}

wire_test : {X : Type 0} (b : Bool) (r s : Result X WireFault) → WireTold r → WireTold s → WireTold (cond b r s)
wire_test true r s h k = h
wire_test false r s h k = k

range_told : (number : ℕ) (o : Option Wire) → WireTold (or_range number o)
range_told number None = tt
range_told number (Some w) = tt

wire_told : (number : ℕ) (o : Option (List ℤ)) → WireTold (wire_of number o)
wire_told number (Some (senders ∷ listen ∷ age ∷ seed ∷ step ∷ [])) = range_told number (wire_with senders listen age seed step)
wire_told number _ = tt

head_told : (number : ℕ) (ws : List (List ℕ)) → WireTold (head_of number ws)
head_told number [] = tt
head_told number (verb ∷ more) =
    wire_test (bytes_eq verb (codes "wire")) (wire_of number (integers_of more)) (Err (wire.Form number)) (wire_told number (integers_of more)) tt

cycle_told : (w : Wire) (number : ℕ) (o : Option (List ℤ)) → WireTold (cycle_of w number o)
cycle_told w number None = tt
cycle_told w number (Some values) = wire_test (length values == w.senders && list_all (fits ty.Dint) values) _ _ tt tt

delivery_told : (w : Wire) (begun number : ℕ) (o : Option (List ℤ)) → WireTold (delivery_of w begun number o)
delivery_told w begun number (Some (id ∷ n ∷ alter ∷ [])) =
    wire_test (is_addend alter) _ _ (wire_test (is_below (pos w.senders) id && is_below (pos begun) n) _ _ tt tt) tt
delivery_told w begun number _ = tt

event_told : (w : Wire) (begun number : ℕ) (ws : List (List ℕ)) → WireTold (event_of w begun number ws)
event_told w begun number [] = tt
event_told w begun number (verb ∷ more) =
    wire_test (bytes_eq verb (codes "cycle")) (cycle_of w number (integers_of more)) _ (cycle_told w number (integers_of more))
    (wire_test (bytes_eq verb (codes "deliver")) (delivery_of w begun number (integers_of more)) _ (delivery_told w begun number (integers_of more)) tt)

with_event_told : (r : Result Event WireFault) (later : Event → Result (List Event) WireFault) → WireTold r → ((e : Event) → WireTold (later e))
    → WireTold (wires.with_event r later)
with_event_told (Err why) later h next = h
with_event_told (Ok e) later h next = onto_events (later e) (next e)
  where
    onto_events : (es : Result (List Event) WireFault) → WireTold es → WireTold (wires.onto e es)
    onto_events (Ok es) k = tt
    onto_events (Err why) k = k

events_told : (w : Wire) (begun : ℕ) (ls : List Line) → WireTold (events_of w begun ls)
events_told w begun [] = tt
events_told w begun (line ∷ more) =
    with_event_told (event_of w begun line.number (words line.text)) (λ e. events_of w (begun_after begun e) more)
    (event_told w begun line.number (words line.text)) (λ e. events_told w (begun_after begun e) more)

with_wire_told : (r : Result Wire WireFault) (later : Wire → Result (List Event) WireFault) → WireTold r → ((w : Wire) → WireTold (later w))
    → WireTold (wires.with_wire r later)
with_wire_told (Err why) later h next = h
with_wire_told (Ok w) later h next = whole_told (later w) (next w)
  where
    whole_told : (es : Result (List Event) WireFault) → WireTold es → WireTold (wires.whole w es)
    whole_told (Ok es) k = tt
    whole_told (Err why) k = k

said_told : (ls : List Line) → WireTold (script_said ls)
said_told [] = tt
said_told (line ∷ more) =
    with_wire_told (head_of line.number (words line.text)) (λ w. events_of w 0 more) (head_told line.number (words line.text)) (λ w. events_told w 0 more)

pub wire_not_memory : (text : List ℕ) → wires.script_of text ≡ Err wire.Memory → ⊥
wire_not_memory text e =
    subst (λ (r : Result WireScript WireFault). WireTold r) e
    (wire_test (list_any is_head (read_lines 1 (lines text))) (script_said (read_lines 1 (lines text))) (Err (wire.Form 1))
    (said_told (read_lines 1 (lines text))) tt)
