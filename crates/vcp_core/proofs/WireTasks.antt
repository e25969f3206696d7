-- What `wire` comes to, and how far it comes, from what reading its script and running it give.
use Rattle.std.proofs.Common.{ℕ, ℤ, ◌≡◌, ◌≢◌, inl, inr, refl, sym, ap, subst, ◌∙◌, arith, List, [], ◌∷◌, Option, Some, None, IfSome, Result, Ok, Err}
use Rattle.std.specs.Io.KnownBytes.{Appends, IsAtEnd}
use Rattle.vcp_base.specs.Limits.{most_source_bytes}
use Rattle.coded_unit.specs.Log.{GrowsBy}
use Rattle.coded_unit.specs.Seen.{UnitSeen}
use Rattle.vcp_outside.specs.Counts.{Rose}
use Rattle.vcp_outside.specs.Held.{Held}
use Rattle.vcp_outside.specs.Seen.{FilesSeen, SinkSeen}
use Rattle.vcp_outside.specs.Written.{AppendsPart}
use Rattle.telegram.specs.WireRun.{sent_in}
use Rattle.telegram.specs.declared.script.script.WireScript.{WireScript}
use Rattle.telegram.specs.ScriptOf.{ScriptFits, script_of}
use Rattle.telegram.specs.declared.runs.wire_end.WireEnd.{WireEnd}
use Rattle.telegram.specs.declared.runs.wire_end.WireEnd.TheVariants as end
use Rattle.telegram.specs.declared.runs.wire_end.WireRunFault.{WireRunFault}
use Rattle.telegram.specs.declared.runs.wire_end.WireRunFault.TheVariants as fault
use Rattle.telegram.specs.Runs.{AreWords, PartTold, RoseBy, RunsWire}
use Rattle.telegram.specs.Sends.{Cut, calls_of}
use Rattle.coded_machine.specs.Moments.{Moment, moment}
use Rattle.vcp_inputs.specs.Forms.{wire}
use Rattle.vcp_inputs.specs.declared.refusal.Refusal.{Refusal}
use Rattle.vcp_inputs.specs.declared.refusal.Refusal.TheVariants as refusal
use Rattle.vcp_inputs.specs.Wires.{WireOf, NotWire, no_wire}
use Rattle.vcp_inputs.specs.Abouts.{about, Among}
use Rattle.vcp_inputs.specs.Answer.{Answer, printed}
use Rattle.vcp_inputs.specs.Clauses.{IsEnd}
use Rattle.vcp_inputs.specs.Kinds.{Task, wires}
use Rattle.vcp_inputs.specs.Performing.{Reaches, done, cut, Performs}
use Rattle.vcp_inputs.specs.WireKind.{WireDone, WireLeft, WritesTold, wire_answer}
use Rattle.vcp_core.proofs.OneFile.{one_file}
use Rattle.vcp_core.specs.Faults.{of_wire, wire_end}
use Rattle.vcp_core.specs.Reach.{end_status, fault_status, fault_text, told_line, told_status, wire_ending}
use Rattle.vcp_core.specs.Tasks.{TaskOf}
use Rattle.vcp_core.proofs.Facts.{if_some_weaker}
use Rattle.vcp_core.proofs.Performing.{no_line, on_held, part_performs, wanted_performs}
use Rattle.vcp_core.proofs.PlainTurns.{appends-nothing}

-- ---- a text is one script, or is refused in one way

wire_once : (text : List ℕ) (x y : WireScript) → WireOf text x → WireOf text y → x ≡ y
wire_once text x y h k =
    let one : script_of text ≡ Ok x = h in
    let other : script_of text ≡ Ok y = k in cc

no_wire_once : (text : List ℕ) (r s : Refusal) → NotWire text r → NotWire text s → r ≡ s
no_wire_once text _ _ (no_wire f known is) (no_wire e other also) = let same : f ≡ e = cc in ap refusal.Wire same

wire_or_none : (text : List ℕ) (x : WireScript) (r : Refusal) → WireOf text x → NotWire text r → ⊥
wire_or_none text x _ h (no_wire f known is) = let one : script_of text ≡ Ok x = h in cc

-- a file comes to one task
pub wire_task_once : (f : List ℕ) (held : Held) (a b : Task) → TaskOf (wire f) held a → TaskOf (wire f) held b → a ≡ b
wire_task_once f held a b h k =
    one_file WireOf NotWire most_source_bytes (λ s x. x ≡ wires s) f (held f) wire_once no_wire_once wire_or_none
    (λ s c d is also. is ∙ sym also) a b h k

-- ---- how far the script was run

module _ (s : WireScript) (fits : ScriptFits s) (unit unit' : UnitSeen) (out out' : SinkSeen) where
  abbrev before : Moment
  before = moment unit out

  abbrev after : Moment
  after = moment unit' out'

  -- what is left where a write failed
  told_so : (words : List (List ℤ)) (c : Option Cut) → PartTold s.wire s.events words c out.written out'.written → WritesTold AppendsPart s words c before after
  told_so words None part = part
  told_so words (Some c) part = part

  abbrev Whole : WireEnd → Type 0
  Whole e = (x : Answer) × WireDone s unit unit' x × Appends out.written out'.written x.out × (x.err ≡ []) × (x.status ≡ end_status (wire_ending e))

  pub wire_whole : (e : WireEnd) → RunsWire s.wire s.events unit unit' out out' (Ok e) → Whole e
  wire_whole end.Complete r =
      let none = r.ends.1 in (
        wire_answer s r.words None,
        record {
          words = r.words;
          cut = None;
          fits = fits;
          are = subst (λ (c : Option Cut). AreWords s.wire (sent_in s.events) r.words c) none r.are;
          whole = λ is. r.ends.0;
          log = subst (λ (c : Option Cut). GrowsBy unit.log unit'.log (calls_of s.wire (sent_in s.events) r.words c)) none r.log;
          read = refl;
          rose = tt;
          honest = λ h. ap printed (r.honest h).1;
        },
        r.ends.2,
        refl,
        refl,
      )
  wire_whole (end.Unsent cycle id) r =
      let c = r.ends.0 in
      let is = r.ends.1 in (
        wire_answer s r.words (Some c),
        record {
          words = r.words;
          cut = Some c;
          fits = fits;
          are = subst (λ (k : Option Cut). AreWords s.wire (sent_in s.events) r.words k) is r.are;
          whole = λ none. absurd cc;
          log = subst (λ (k : Option Cut). GrowsBy unit.log unit'.log (calls_of s.wire (sent_in s.events) r.words k)) is r.log;
          read = refl;
          rose = subst (λ (k : Option Cut). RoseBy k unit unit') is r.rose;
          honest = λ h. let same = (r.honest h).0 in absurd cc;
        },
        r.ends.4,
        refl,
        refl,
      )

  pub wire_rose : (e : WireEnd) → RunsWire s.wire s.events unit unit' out out' (Ok e) → end_status (wire_ending e) ≡ 3 → Rose unit.wrong unit'.wrong
  wire_rose end.Complete r three = absurd (omega (arith, three))
  wire_rose (end.Unsent cycle id) r three = subst (λ (k : Option Cut). RoseBy k unit unit') r.ends.1 r.rose

  pub wire_part : RunsWire s.wire s.events unit unit' out out' (Err fault.Write) → WireLeft s AppendsPart before after
  wire_part r = record {
    words = r.words;
    cut = r.cut;
    fits = fits;
    are = r.are;
    log = r.log;
    text = told_so r.words r.cut r.ends.1;
    earlier = r.ends.2;
    rose = r.rose;
    honest = r.honest;
  }

-- ---- how far the command came

module _ (f : List ℕ) (files later : FilesSeen) (held : later.held ≡ files.held) (ended : IsAtEnd later.rest) (read : later.faults ≡ files.faults)
    (s : WireScript) (fits : ScriptFits s)
    (comes : IfSome files.held (λ h. TaskOf (wire f) h (wires s))) (unit unit' : UnitSeen) (out out' : SinkSeen) where
  reads : (about (wire f)).files ≢ []
  reads none = cc

  only_these : (e : WireEnd) (n : ℕ) → end_status (wire_ending e) ≡ n → n ≢ 0 → n ≢ 3 → ⊥
  only_these end.Complete n is other three = other (sym is)
  only_these (end.Unsent cycle id) n is other three = three (sym is)

  status_among : (e : WireEnd) → Among (end_status (wire_ending e)) (0 ∷ 1 ∷ 3 ∷ 5 ∷ 6 ∷ 7 ∷ [])
  status_among end.Complete = inl refl
  status_among (end.Unsent cycle id) = inr (inr (inl refl))

  is_end : (e : WireEnd) → IsEnd (end_status (wire_ending e))
  is_end end.Complete = inl refl
  is_end (end.Unsent cycle id) = inr (inr refl)

  -- to its end, or to a sending that was answered by no word
  wire_ended : (e : WireEnd) → RunsWire s.wire s.events unit unit' out out' (Ok e) → out'.faults ≡ out.faults
      → Performs (about (wire f)) (TaskOf (wire f)) files later (moment unit out) (moment unit' out') [] (end_status (wire_ending e))
  wire_ended e r kept =
      let (x, is, written, err, status) = wire_whole s fits unit unit' out out' e r in
      record {
        reaches = on_held (about (wire f)) (TaskOf (wire f)) files later reads held
            (λ h. Reaches (about (wire f)) (TaskOf (wire f) h) files later (moment unit out) (moment unit' out') [] (end_status (wire_ending e)))
            (if_some_weaker files.held _ _ (λ h task. done (wires s) x task is written err status) comes);
        statuses = status_among e;
        told = no_line (about (wire f)) (end_status (wire_ending e)) (is_end e);
        held = held;
        unit = λ no. absurd cc;
        stay = λ none. absurd (reads none);
        ended = λ some is. ended;
        taken = λ some one. absurd (only_these e 1 one (λ k. omega (arith, k)) (λ k. omega (arith, k)));
        stopped = λ calls two. absurd (only_these e 2 two (λ k. omega (arith, k)) (λ k. omega (arith, k)));
        refused = λ three. wire_rose s fits unit unit' out out' e r three;
        read = λ five. absurd (only_these e 5 five (λ k. omega (arith, k)) (λ k. omega (arith, k)));
        write = λ six. absurd (only_these e 6 six (λ k. omega (arith, k)) (λ k. omega (arith, k)));
        no_read_fault = λ no. read;
        no_write_fault = λ no. kept;
      }

  -- or not
  wire_failed : (e : WireRunFault) → RunsWire s.wire s.events unit unit' out out' (Err e)
      → Performs (about (wire f)) (TaskOf (wire f)) files later (moment unit out) (moment unit' out') (fault_text (of_wire e)) (fault_status (of_wire e))
  wire_failed fault.Write r =
      part_performs (about (wire f)) (TaskOf (wire f)) files later reads held (moment unit out) (moment unit' out') ended read (λ no. absurd cc) r.ends.0
      (if_some_weaker files.held _ _ (λ h task. cut (wires s) task (wire_part s fits unit unit' out out' r) r.ends.0 refl refl) comes)
  wire_failed fault.Memory r =
      wanted_performs (about (wire f)) (TaskOf (wire f)) files later held (λ none. absurd (reads none)) (moment unit out) (moment unit' out')
      (record { unit = r.still refl; out = subst (λ (o : SinkSeen). Appends out.written o.written []) (sym r.ends.0) (appends-nothing out.written) })
      read (ap (λ (o : SinkSeen). o.faults) r.ends.0)

  pub wire_ends : (r : Result WireEnd WireRunFault) → RunsWire s.wire s.events unit unit' out out' r → (r ≢ Err fault.Write → out'.faults ≡ out.faults)
      → Performs (about (wire f)) (TaskOf (wire f)) files later (moment unit out) (moment unit' out') (told_line (wire_end r)) (told_status (wire_end r))
  wire_ends (Ok e) r kept = wire_ended e r (kept (λ e. cc))
  wire_ends (Err e) r kept = wire_failed e r
