-- LinesRead: a script read line by line.
use Rattle.std.proofs.Common.{◌≡◌, ◌≢◌, ℕ, ◌+◌, ◌<◌, length, arith, Bool, true, false, cond, List, [], ◌∷◌, ◌++◌, Option, Some, None, Result, Ok, Err, IfErr, refl, sym, ap, ◌∙◌}
use Rattle.std.specs.Str.Lines.{lines}
use Rattle.std.proofs.lemmas.List.{append_assoc, append-nil}
use Rattle.op_graph.specs.Lists.{Lists}
use Rattle.fault_script.specs.declared.act.Fault.{Fault}
use Rattle.fault_script.specs.declared.reading.Opened.{Opened}
use Rattle.fault_script.specs.declared.reading.Reading.{Reading as State}
use Rattle.fault_script.specs.declared.script_fault.ScriptFault.{ScriptFault}
use Rattle.fault_script.specs.declared.script_fault.ScriptFault.TheVariants as refusal
use Rattle.fault_script.specs.declared.forms.Mark.TheVariants as mark
use Rattle.vcp_base.specs.Lines.{Line, is_skipped, read_lines}
use Rattle.vcp_base.specs.Words.{words}
use Rattle.fault_script.specs.Forms.{mark_of}
use Rattle.fault_script.specs.Groups.{is_taken}
use Rattle.fault_script.specs.ScriptOf.{Item, ends, says, item_by, item_of, items_of, counted, ended, onto, with_fault}
use Rattle.fault_script.specs.ScriptOf.{groups_of, script_of}
use Rattle.fault_script.specs.Reading.{behind, comes, Goes, Refuses}

abbrev Groups : Type 0
Groups = Result (List (List Fault)) ScriptFault

-- ---- one line more

behind_onto : (groups : List (List Fault)) (faults : List Fault) (r : Groups) → behind groups (onto faults r) ≡ behind (groups ++ faults ∷ []) r
behind_onto groups faults (Ok more) = ap (λ (gs : List (List Fault)). Ok gs) (sym (append_assoc groups (faults ∷ []) more))
behind_onto groups faults (Err why) = refl

-- a fault outside a group
pub alone_goes : (r : State) (f : Fault) → r.opened ≡ None
    → Goes (says (Ok f)) r (record { script = r.script ++ (f ∷ []) ∷ []; opened = None; count = r.count + 1 })
alone_goes r f none = record {
  comes_to = λ later.
      ap (λ (o : Option Opened). behind r.script (groups_of (says (Ok f) ∷ later) o)) none ∙ behind_onto r.script (f ∷ []) (groups_of later None);
  count = refl;
}

-- one more of a group
taken_or : (r : State) (f : Fault) (o : Opened) (b : Bool) (later : List Item) → r.opened ≡ Some o → is_taken f o.group ≡ b
    → comes r (says (Ok f) ∷ later) ≡ behind r.script (cond b (Err (refusal.Twice f.line)) (groups_of later (Some (with_fault o f))))
taken_or r f o b later is taken =
    ap (λ (o : Option Opened). behind r.script (groups_of (says (Ok f) ∷ later) o)) is
    ∙ ap (λ (b : Bool). behind r.script (cond b (Err (refusal.Twice f.line)) (groups_of later (Some (with_fault o f))))) taken

pub joined_goes : (r : State) (f : Fault) (o : Opened) → r.opened ≡ Some o → is_taken f o.group ≡ false
    → Goes (says (Ok f)) r (record { script = r.script; opened = Some (with_fault o f); count = r.count + 1 })
joined_goes r f o is free = record { comes_to = λ later. taken_or r f o false later is free; count = refl }

pub twice : (r : State) (f : Fault) (o : Opened) → r.opened ≡ Some o → is_taken f o.group ≡ true → Refuses (says (Ok f)) r (refusal.Twice f.line)
twice r f o is taken later = taken_or r f o true later is taken

-- a line that ends a group, where none is open, or one that is empty
pub ends_none : (r : State) (n : ℕ) → r.opened ≡ None → Refuses (ends n) r (refusal.Group n)
ends_none r n none later = ap (λ (o : Option Opened). behind r.script (groups_of (ends n ∷ later) o)) none

no_faults : (faults : List Fault) → length faults ≡ 0 → faults ≡ []
no_faults [] e = refl
no_faults (f ∷ faults) e = absurd (omega (arith, e))

pub ends_empty : (r : State) (n : ℕ) (o : Opened) → r.opened ≡ Some o → length o.group ≡ 0 → Refuses (ends n) r (refusal.Group n)
ends_empty r n o is empty later =
    ap (λ (o : Option Opened). behind r.script (groups_of (ends n ∷ later) o)) is
    ∙ ap (λ (faults : List Fault). behind r.script (ended n faults (groups_of later None))) (no_faults o.group empty)

-- a group that is whole
ended_some : (n : ℕ) (faults : List Fault) (later : Groups) → 0 < length faults → ended n faults later ≡ onto faults later
ended_some n [] later some = absurd (omega (arith, some))
ended_some n (f ∷ faults) later some = refl

pub ends_goes : (r : State) (n : ℕ) (o : Opened) → r.opened ≡ Some o → 0 < length o.group
    → Goes (ends n) r (record { script = r.script ++ o.group ∷ []; opened = None; count = r.count })
ends_goes r n o is some = record {
  comes_to = λ later.
      ap (λ (o : Option Opened). behind r.script (groups_of (ends n ∷ later) o)) is
      ∙ ap (behind r.script) (ended_some n o.group (groups_of later None) some) ∙ behind_onto r.script o.group (groups_of later None);
  count = refl;
}

-- ---- what a line says, by what it is

pub ends_is : (g : Lists) (n : ℕ) (line : Line) → mark.End ≡ mark_of (words line.text) → ends line.number ≡ item_of g n line
ends_is g n line is = ap (item_by g n line) is

-- ---- the lines of a text

-- what a text comes to, behind lines that came to this, where its first line has this number
abbrev pub script_from : Lists → State → ℕ → List ℕ → Groups
script_from g r number text = comes r (items_of g r.count (read_lines number (lines text)))

-- one line more
at_first : (g : Lists) (r : State) (number : ℕ) (text line more : List ℕ) (b : Bool) → lines text ≡ line ∷ lines more → is_skipped line ≡ b →
    script_from g r number text
    ≡ comes r (items_of g r.count (cond b (read_lines (number + 1) (lines more))
    (record { number = number; text = line } ∷ read_lines (number + 1) (lines more))))
at_first g r number text line more b is skips =
    ap (λ (ls : List (List ℕ)). comes r (items_of g r.count (read_lines number ls))) is
    ∙ ap (λ (b : Bool). comes r (items_of g r.count
    (cond b (read_lines (number + 1) (lines more)) (record { number = number; text = line } ∷ read_lines (number + 1) (lines more))))) skips

pub skipped : (g : Lists) (r : State) (number : ℕ) (text line more : List ℕ) → lines text ≡ line ∷ lines more → is_skipped line ≡ true →
    script_from g r number text ≡ script_from g r (number + 1) more
skipped g r number text line more is skips = at_first g r number text line more true is skips

pub taken : (g : Lists) (r new : State) (number : ℕ) (text line more : List ℕ) → lines text ≡ line ∷ lines more → is_skipped line ≡ false →
    Goes (item_of g r.count (record { number = number; text = line })) r new → script_from g r number text ≡ script_from g new (number + 1) more
taken g r new number text line more is skips goes =
    let item : Item = item_of g r.count (record { number = number; text = line }) in
    at_first g r number text line more false is skips
    ∙ (goes.comes_to (items_of g (counted r.count item) (read_lines (number + 1) (lines more)))
    ∙ ap (λ (n : ℕ). comes new (items_of g n (read_lines (number + 1) (lines more)))) (sym goes.count))

pub refused : (g : Lists) (r : State) (number : ℕ) (text line more : List ℕ) (why : ScriptFault) → lines text ≡ line ∷ lines more
    → is_skipped line ≡ false → Refuses (item_of g r.count (record { number = number; text = line })) r why → script_from g r number text ≡ Err why
refused g r number text line more why is skips refuses =
    let item : Item = item_of g r.count (record { number = number; text = line }) in
    at_first g r number text line more false is skips ∙ refuses (items_of g (counted r.count item) (read_lines (number + 1) (lines more)))

-- before the first line
pub started : (g : Lists) (r : State) (text : List ℕ) → ((items : List Item) → groups_of items None ≡ comes r items) → r.count ≡ 0
    → script_of g text ≡ script_from g r 1 text
started g r text same none =
    same (items_of g 0 (read_lines 1 (lines text))) ∙ ap (λ (n : ℕ). comes r (items_of g n (read_lines 1 (lines text)))) (sym none)

-- behind the last line
pub whole : (r : State) → r.opened ≡ None → comes r [] ≡ Ok r.script
whole r none =
    ap (λ (o : Option Opened). behind r.script (groups_of [] o)) none ∙ ap (λ (gs : List (List Fault)). Ok gs) (append-nil r.script)

pub unclosed : (r : State) (o : Opened) → r.opened ≡ Some o → comes r [] ≡ Err (refusal.Group o.line)
unclosed r o is = ap (λ (o : Option Opened). behind r.script (groups_of [] o)) is

-- whatever the last call gives
pub refused_at_end : (x y : Groups) (result : Groups) → x ≡ y → IfErr result (λ f. y ≡ Err f) → IfErr result (λ f. f ≢ refusal.Memory → x ≡ Err f)
refused_at_end x y (Ok groups) same h = h
refused_at_end x y (Err why) same h = λ other. same ∙ h
