-- Reading: the lines behind the first, one by one.
use Rattle.std.proofs.Common.{◌≡◌, ℕ, ◌+◌, Bool, true, false, cond, List, [], ◌∷◌, ◌++◌, length, Result, Ok, Err, refl, sym, ap, subst, ◌∙◌, arith}
use Rattle.std.specs.List.{list_any}
use Rattle.std.proofs.lemmas.List.{append_assoc, append-nil}
use Rattle.vcp_base.specs.Lines.{Line}
use Rattle.vcp_base.specs.Words.{words}
use Rattle.telegram.specs.declared.event.Event.{Event}
use Rattle.telegram.specs.declared.event.Event.TheVariants as event
use Rattle.telegram.specs.declared.wire.Wire.{Wire}
use Rattle.telegram.specs.WireRun.{Every, IsEvent, sent_in}
use Rattle.telegram.specs.declared.script.script.WireScript.{WireScript}
use Rattle.telegram.specs.declared.script.wire_fault.WireFault.{WireFault}
use Rattle.telegram.specs.declared.script.wire_fault.WireFault.TheVariants as refusal
use Rattle.telegram.specs.Forms.{event_of, head_of}
use Rattle.telegram.specs.Reads.{behind, EventFits, MayCome}
use Rattle.telegram.specs.ScriptOf.{AreSent, begun_after, events_of, is_head, onto, script_said, whole, with_event, with_wire}

abbrev Events : Type 0
Events = Result (List Event) WireFault

-- ---- what the lines come to

-- before the first line
pub nothing_read : (r : Events) → r ≡ behind [] r
nothing_read (Ok es) = refl
nothing_read (Err why) = refl

behind_onto : (es : List Event) (e : Event) (r : Events) → behind es (onto e r) ≡ behind (es ++ e ∷ []) r
behind_onto es e (Ok more) = ap (λ (l : List Event). Ok l) (sym (append_assoc es (e ∷ []) more))
behind_onto es e (Err why) = refl

-- one event more
pub one_event : (w : Wire) (begun begun' : ℕ) (es : List Event) (line : Line) (ls more : List Line) (e : Event) → ls ≡ line ∷ more
    → event_of w begun line.number (words line.text) ≡ Ok e → begun_after begun e ≡ begun'
    → behind es (events_of w begun ls) ≡ behind (es ++ e ∷ []) (events_of w begun' more)
one_event w begun begun' es line ls more e is says after =
    ap (λ (l : List Line). behind es (events_of w begun l)) is
    ∙ (ap (λ (r : Result Event WireFault). behind es (with_event r (λ e. events_of w (begun_after begun e) more))) says
    ∙ (behind_onto es e (events_of w (begun_after begun e) more) ∙ ap (λ (n : ℕ). behind (es ++ e ∷ []) (events_of w n more)) after))

-- a line that is refused
pub refused_line : (w : Wire) (begun : ℕ) (es : List Event) (line : Line) (ls more : List Line) (why : WireFault) → ls ≡ line ∷ more
    → event_of w begun line.number (words line.text) ≡ Err why → behind es (events_of w begun ls) ≡ Err why
refused_line w begun es line ls more why is says =
    ap (λ (l : List Line). behind es (events_of w begun l)) is
    ∙ ap (λ (r : Result Event WireFault). behind es (with_event r (λ e. events_of w (begun_after begun e) more))) says

-- behind the last line
pub all_read : (w : Wire) (begun : ℕ) (es : List Event) (ls : List Line) → ls ≡ [] → behind es (events_of w begun ls) ≡ Ok es
all_read w begun es ls none =
    ap (λ (l : List Line). behind es (events_of w begun l)) none ∙ ap (λ (l : List Event). Ok l) (append-nil es)

-- ---- what holds of the events

every_more : {X : Type 0} (P : X → Type 0) (xs : List X) (x : X) → Every P xs → P x → Every P (xs ++ x ∷ [])
every_more P [] x all one = (one, tt)
every_more P (y ∷ xs) x all one = (all.0, every_more P xs x all.1 one)

-- how many cycles there are with one event more
cycles_more : (es : List Event) (e : Event) (begun : ℕ) → length (sent_in es) ≡ begun → length (sent_in (es ++ e ∷ [])) ≡ begun_after begun e
cycles_more [] (event.Cycle values) begun is = omega (arith, is)
cycles_more [] (event.Deliver line id number alter) begun is = is
cycles_more (event.Cycle values ∷ es) (event.Cycle v) begun is =
    let before = cycles_more es (event.Cycle v) (length (sent_in es)) refl in omega (arith, before, is)
cycles_more (event.Cycle values ∷ es) (event.Deliver line id number alter) begun is =
    let before = cycles_more es (event.Deliver line id number alter) (length (sent_in es)) refl in omega (arith, before, is)
cycles_more (event.Deliver line id number alter ∷ es) e begun is = cycles_more es e begun is

may_come : (e : Event) (m n : ℕ) → m ≡ n → MayCome m e → MayCome n e
may_come e m n same h = subst (λ (k : ℕ). MayCome k e) same h

sent_one : (e : Event) (begun : ℕ) → MayCome begun e → AreSent begun (e ∷ [])
sent_one (event.Cycle values) begun h = tt
sent_one (event.Deliver line id number alter) begun h = (h, tt)

-- and they are sent before they are delivered
sent_more : (es : List Event) (e : Event) (begun : ℕ) → AreSent begun es → MayCome (begun + length (sent_in es)) e → AreSent begun (es ++ e ∷ [])
sent_more [] e begun sent h =
    let same : begun + 0 ≡ begun = omega arith in
    sent_one e begun (may_come e (begun + 0) begun same h)
sent_more (event.Cycle values ∷ es) e begun sent h =
    let same : begun + length (sent_in (event.Cycle values ∷ es)) ≡ begun + 1 + length (sent_in es) = omega arith in
    sent_more es e (begun + 1) sent (may_come e _ _ same h)
sent_more (event.Deliver line id number alter ∷ es) e begun sent h = (sent.0, sent_more es e begun sent.1 h)

-- the events so far, with so many cycles
pub record AreRead (w : Wire) (es : List Event) (begun : ℕ) : Type 0 where
  pub each : Every (λ e. IsEvent w e) es
  pub begun_is : length (sent_in es) ≡ begun
  pub sent : AreSent 0 es

pub none_read : (w : Wire) → AreRead w [] 0
none_read w = record { each = tt; begun_is = refl; sent = tt }

pub one_read : (w : Wire) (es : List Event) (e : Event) (begun begun' : ℕ) → begun_after begun e ≡ begun' → EventFits w begun e → AreRead w es begun
    → AreRead w (es ++ e ∷ []) begun'
one_read w es e begun begun' after fit read = record {
  each = every_more (λ e. IsEvent w e) es e read.each fit.is;
  begun_is = cycles_more es e begun read.begun_is ∙ after;
  sent = sent_more es e 0 read.sent (may_come e begun (0 + length (sent_in es)) (omega (arith, read.begun_is)) fit.comes);
}

-- ---- the whole script

pub head_fails : (line : Line) (ls more : List Line) (why : WireFault) → ls ≡ line ∷ more → head_of line.number (words line.text) ≡ Err why
    → script_said ls ≡ Err why
head_fails line ls more why is says =
    ap script_said is ∙ ap (λ (r : Result Wire WireFault). with_wire r (λ w. events_of w 0 more)) says

pub said : (w : Wire) (line : Line) (ls more : List Line) (r : Events) → ls ≡ line ∷ more → head_of line.number (words line.text) ≡ Ok w
    → events_of w 0 more ≡ r → script_said ls ≡ whole w r
said w line ls more r is says rest =
    ap script_said is ∙ (ap (λ (r : Result Wire WireFault). with_wire r (λ w. events_of w 0 more)) says ∙ ap (whole w) rest)

pub nothing_said : (ls : List Line) → ls ≡ [] → script_said ls ≡ Err (refusal.Form 1)
nothing_said ls none = ap script_said none

pub with_head : (ls : List Line) (b : Bool) (r : Result WireScript WireFault) → b ≡ list_any is_head ls → script_said ls ≡ r → b ≡ true
    → cond (list_any is_head ls) (script_said ls) (Err (refusal.Form 1)) ≡ r
with_head ls b r is says h = ap (λ (b : Bool). cond b (script_said ls) (Err (refusal.Form 1))) (sym is ∙ h) ∙ says

pub without_head : (ls : List Line) (b : Bool) → b ≡ list_any is_head ls → b ≡ false
    → cond (list_any is_head ls) (script_said ls) (Err (refusal.Form 1)) ≡ Err (refusal.Form 1)
without_head ls b is h = ap (λ (b : Bool). cond b (script_said ls) (Err (refusal.Form 1))) (sym is ∙ h)
