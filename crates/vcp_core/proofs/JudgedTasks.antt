-- What `inject` comes to and how far it comes, from what reading its files and judging the groups give.
use Rattle.std.proofs.Common.{ℕ, ℤ, ◌+◌, ◌≤◌, ◌≡◌, ◌≢◌, ◌⊎◌, inl, inr, refl, sym, ap, subst, ◌∙◌, arith, List, [], ◌∷◌, ◌++◌, append_assoc, length, length-append, take, drop, false, All, IfSome, Option, Some, Result, Ok, Err}
use Rattle.std.proofs.lemmas.List.{length-map, take-append-drop}
use Rattle.std.proofs.Math.Seq.{take-length}
use Rattle.std.specs.Io.KnownBytes.{Appends, IsAtEnd}
use Rattle.vcp_base.specs.Limits.{most_image_bytes, most_source_bytes}
use Rattle.coded_unit.specs.Seen.{StaysHonest, UnitSeen}
use Rattle.vcp_outside.specs.Counts.{Rose}
use Rattle.vcp_outside.specs.Held.{Held}
use Rattle.vcp_outside.specs.Written.{AppendsFront, AppendsPart}
use Rattle.input_rows.specs.declared.fault.RowFault.{RowFault}
use Rattle.input_rows.specs.RowsOf.{RowsLeft}
use Rattle.op_graph.specs.Lists.{Lists}
use Rattle.fault_script.specs.declared.act.Fault.{Fault as ScriptedFault}
use Rattle.fault_script.specs.Groups.{line_of}
use Rattle.fault_injector.specs.declared.verdicts.Verdict.{Verdict}
use Rattle.fault_injector.specs.declared.campaign.fault.CampaignFault.{CampaignFault}
use Rattle.fault_injector.specs.declared.campaign.fault.CampaignFault.TheVariants as campaign
use Rattle.fault_injector.specs.Campaign.{JudgedOnce, Told, verdict_lines}
use Rattle.fault_injector.specs.Written.{EarlierWritten}
use Rattle.fault_injector.specs.FaultLines.{lines_by, verdict_text, totals_of, totals_text}
use Rattle.fault_injector.specs.Names.{Names}
use Rattle.vcp_inputs.specs.Forms.{Rows, inject}
use Rattle.vcp_inputs.specs.Tables.{rows_name}
use Rattle.vcp_inputs.specs.declared.images.Image.{Image}
use Rattle.vcp_inputs.specs.declared.refusal.Refusal.{Refusal}
use Rattle.vcp_inputs.specs.declared.refusal.Refusal.TheVariants as refusal
use Rattle.vcp_inputs.specs.declared.refusal.NoInput.{NoInput}
use Rattle.vcp_inputs.specs.declared.refusal.NoInput.TheVariants as input
use Rattle.vcp_inputs.specs.Files.{LeavesLong, Loads, NotLoaded as FileLost}
use Rattle.vcp_inputs.specs.Images.{ImageOf, NotImage}
use Rattle.vcp_inputs.specs.Lines.{input_status, input_text, refusal_text}
use Rattle.vcp_inputs.specs.RowsOutcome.{RowsOutcome, rows_outcome}
use Rattle.vcp_inputs.specs.RowsRead.{AllRead, NoneRead, RowsBroken, at_header, at_row, graph_columns}
use Rattle.vcp_inputs.specs.Scripts.{ScriptOf, NotScript}
use Rattle.vcp_inputs.specs.Abouts.{About, about, FileWord, rows_words, script_word, Among}
use Rattle.vcp_inputs.specs.Answer.{Answer, Campaign, printed}
use Rattle.vcp_inputs.specs.CampaignKind.{GroupsDone, GroupsLeft, RerunsAsked, verdicts_answer, verdicts_meant}
use Rattle.vcp_inputs.specs.Seen.{Appending, Still}
use Rattle.vcp_inputs.specs.Clauses.{IsTooLong}
use Rattle.vcp_inputs.specs.FileTasks.{OnRows, taken}
use Rattle.vcp_inputs.specs.Kinds.{Task, judges, refusal_task}
use Rattle.vcp_inputs.specs.Performing.{Reaches, done, cut, wanting, unread, unmade, Performs}
use Rattle.vcp_outside.specs.Seen.{FilesSeen, SinkSeen}
use Rattle.coded_machine.specs.Moments.{Moment, moment}
use Rattle.vcp_core.specs.Tasks.{FewRows, WholeRows, TaskOf, ScriptedTask}
use Rattle.vcp_core.specs.Tasks as task
use Rattle.vcp_core.specs.Faults.{campaign_end, of_campaign}
use Rattle.vcp_core.specs.Inject.{AllRows, NoRows, RowsRefused, broken, too_many}
use Rattle.vcp_core.specs.Reach.{fault_status, fault_text, told_line, told_status}
use Rattle.vcp_core.proofs.PlainTurns.{appends-nothing}
use Rattle.vcp_core.proofs.Performing.{file_lost, file_taken, file_takes, part_performs, short_performs, still, whole_performs}

-- ---- all rows

-- rows that aren't read are none for any graph
pub none_for : (o : RowsOutcome) (g : Lists) (i : NoInput) → NoneRead o i → NoRows o g i
none_for o g input.Unread h = h
none_for o g (input.Refused r) h = broken r h
none_for o g input.Memory h = tt

-- that is no read fault
pub rows_are_read : (o : RowsOutcome) (g : Lists) (i : NoInput) → NoRows o g i → i ≡ input.Unread → ⊥
rows_are_read o g (input.Refused r) h is = cc
rows_are_read o g input.Memory h is = cc
rows_are_read o g input.Unread h is = h

-- ---- the files of `inject`

pub rows_front : (word : FileWord) (words more : List FileWord) → Among word words → Among word (words ++ more)
rows_front word [] more h = absurd h
rows_front word (w ∷ words) more (inl e) = inl e
rows_front word (w ∷ words) more (inr h) = inr (rows_front word words more h)

pub script_end : (word : FileWord) (words more : List FileWord) → Among word more → Among word (words ++ more)
script_end word [] more h = h
script_end word (w ∷ words) more h = inr (script_end word words more h)

pub rows_named : (m : List ℕ) (rows : Rows) (f : List ℕ) (word : FileWord) → Among word (rows_words rows) → Among word (about (inject m rows f)).files
rows_named m rows f word h = inr (rows_front word (rows_words rows) (script_word f ∷ []) h)

pub script_named : (m : List ℕ) (rows : Rows) (f : List ℕ) → Among (script_word f) (about (inject m rows f)).files
script_named m rows f = inr (script_end (script_word f) (rows_words rows) (script_word f ∷ []) (inl refl))

-- ---- what it comes to

-- all rows that stand behind no refusal come to what is said of them
abbrev pub WholeLeft : Rows → (List (List ℤ) → Task → Type 0) → RowsLeft → Task → Type 0
WholeLeft rows Then left t = WholeRows (rows_name rows) Then left.rows left.refusal t

pub whole_broken : (rows : Rows) (o : RowsOutcome) (Then : List (List ℤ) → Task → Type 0) (r : Refusal) → RowsBroken o r →
    OnRows (rows_name rows) (WholeLeft rows Then) o (refusal_task (rows_name rows) r)
whole_broken rows o Then r (at_header _ is) =
    subst (λ (x : RowsOutcome). OnRows (rows_name rows) (WholeLeft rows Then) x (refusal_task (rows_name rows) r)) (sym is) refl
whole_broken rows o Then _ (at_row left why is behind) =
    subst (λ (x : RowsOutcome). OnRows (rows_name rows) (WholeLeft rows Then) x (refusal_task (rows_name rows) (refusal.Rows why))) (sym is)
    (subst (λ (x : Option RowFault). WholeRows (rows_name rows) Then left.rows x (refusal_task (rows_name rows) (refusal.Rows why))) (sym behind) refl)

pub whole_comes : (rows : Rows) (o : RowsOutcome) (Then : List (List ℤ) → Task → Type 0) (list : List (List ℤ)) → AllRead o list → (t : Task) →
    Then list t → OnRows (rows_name rows) (WholeLeft rows Then) o t
whole_comes rows o Then list all t comes =
    subst (λ (x : RowsOutcome). OnRows (rows_name rows) (WholeLeft rows Then) x t) (sym all.comes)
    (subst (λ (x : Option RowFault). WholeRows (rows_name rows) Then all.left.rows x t) (sym all.whole)
    (subst (λ (x : List (List ℤ)). Then x t) (sym all.rows_are) comes))

-- the groups of a script over these rows
abbrev pub campaign_of : Image → List (List ℤ) → List (List ScriptedFault) → Campaign
campaign_of i list groups = record { graph = i.graph; table = i.table; rows = list; groups = groups }

-- what its rows come to, once they are opened
abbrev pub OnLeft : Rows → List ℕ → Held → Image → RowsLeft → Task → Type 0
OnLeft rows f held i left t = WholeRows (rows_name rows) (FewRows (rows_name rows) i.graph (ScriptedTask judges i f held)) left.rows left.refusal t

-- M holds this image, and ROWS come to this for its graph
abbrev pub LoadsAt : List ℕ → Rows → Image → RowsOutcome → Held → Type 0
LoadsAt m rows i o held = Loads ImageOf NotImage held m most_image_bytes 0 0 (Ok i) × (rows_outcome rows held (graph_columns i.graph) ≡ o)

module _ (m : List ℕ) (rows : Rows) (f : List ℕ) (held : Held) where
  -- what ROWS come to for a graph
  abbrev Comes : Image → RowsOutcome → Task → Type 0
  Comes i o t = OnRows (rows_name rows) (OnLeft rows f held i) o t

  -- M was loaded
  rows_come : (i : Image) (o : RowsOutcome) → Loads ImageOf NotImage held m most_image_bytes 0 0 (Ok i) → rows_outcome rows held (graph_columns i.graph) ≡ o
      → (t : Task) → Comes i o t → TaskOf (inject m rows f) held t
  rows_come i o (text, found, few, is) same t comes =
      taken text i t found few is (subst (λ (x : RowsOutcome). Comes i x t) (sym same) comes)

  -- ROWS are refused
  rows_refused : (i : Image) (o : RowsOutcome) (r : Refusal) → RowsRefused o i.graph r → Comes i o (refusal_task (rows_name rows) r)
  rows_refused i o r (broken _ why) = whole_broken rows o (FewRows (rows_name rows) i.graph (ScriptedTask judges i f held)) r why
  rows_refused i o _ (too_many left is none more) =
      subst (λ (x : RowsOutcome). Comes i x (refusal_task (rows_name rows) refusal.Trace)) (sym is)
      (subst (λ (x : Option RowFault). WholeRows (rows_name rows) (FewRows (rows_name rows) i.graph (ScriptedTask judges i f held)) left.rows x
      (refusal_task (rows_name rows) refusal.Trace)) (sym none) (task.too_many more))

  -- or all of them were read
  script_comes : (i : Image) (o : RowsOutcome) (list : List (List ℤ)) → AllRows o i.graph list → (t : Task) → ScriptedTask judges i f held list t → Comes i o t
  script_comes i o list all t comes =
      whole_comes rows o (FewRows (rows_name rows) i.graph (ScriptedTask judges i f held)) list all.read t (task.few t all.few comes)

  module _ (files later : FilesSeen) (i : Image) (o : RowsOutcome) (loads : Loads ImageOf NotImage held m most_image_bytes 0 0 (Ok i))
      (same : rows_outcome rows held (graph_columns i.graph) ≡ o) where
    -- there are no rows, and nothing was done
    pub rows_lost : (at : Moment) (e : NoInput) → NoRows o i.graph e
        → Reaches (about (inject m rows f)) (TaskOf (inject m rows f) held) files later at at (input_text (rows_name rows) e) (input_status e)
    rows_lost at (input.Refused r) h =
        done (refusal_task (rows_name rows) r) (record { out = []; err = refusal_text (rows_name rows) r; status = 1 })
        (rows_come i o loads same (refusal_task (rows_name rows) r) (rows_refused i o r h)) (refl, refl) (still at).out refl refl
    rows_lost at input.Memory h = unmade (still at) refl refl
    rows_lost at input.Unread h = absurd h

    module _ (list : List (List ℤ)) (all : AllRows o i.graph list) where
      -- the task of the script is that of the command
      judged_comes : (t : Task) → ScriptedTask judges i f held list t → TaskOf (inject m rows f) held t
      judged_comes t comes = rows_come i o loads same t (script_comes i o list all t comes)

      script_reaches : (before after : Moment) (line : List ℕ) (code : ℕ)
          → Reaches (about (inject m rows f)) (ScriptedTask judges i f held list) files later before after line code
          → Reaches (about (inject m rows f)) (TaskOf (inject m rows f) held) files later before after line code
      script_reaches before after line code (done t x comes d w line_is code_is) = done t x (judged_comes t comes) d w line_is code_is
      script_reaches before after line code (cut t comes left rose line_is code_is) = cut t (judged_comes t comes) left rose line_is code_is
      script_reaches before after line code (wanting t comes left late line_is code_is) = wanting t (judged_comes t comes) left late line_is code_is
      script_reaches before after line code (unread word named rose s line_is code_is) = unread word named rose s line_is code_is
      script_reaches before after line code (unmade s line_is code_is) = unmade s line_is code_is

      -- there is no script, and nothing was done
      pub script_lost : (at : Moment) (e : NoInput) → FileLost (NotScript i.graph) held f most_source_bytes files.broken later.broken e
          → Reaches (about (inject m rows f)) (TaskOf (inject m rows f) held) files later at at (input_text f e) (input_status e)
      script_lost at e lost =
          script_reaches at at (input_text f e) (input_status e)
          (file_lost (about (inject m rows f)) files later at at (ScriptOf i.graph) (NotScript i.graph) most_source_bytes
          (λ groups x. x ≡ judges (campaign_of i list groups)) f held (script_word f) (script_named m rows f) refl (still at) e lost)

      -- the groups are there
      pub groups_come : (groups : List (List ScriptedFault))
          → ((text : List ℕ) × (held f ≡ Some text) × (length text ≤ most_source_bytes) × ScriptOf i.graph text groups)
          → TaskOf (inject m rows f) held (judges (campaign_of i list groups))
      groups_come groups found =
          judged_comes (judges (campaign_of i list groups))
          (file_takes (ScriptOf i.graph) (NotScript i.graph) most_source_bytes (λ fs x. x ≡ judges (campaign_of i list fs)) f held groups
          (judges (campaign_of i list groups)) found refl)

-- why there is no script, where the files that broke were so many before an earlier file
pub lost_for : (Why : List ℕ → Refusal → Type 0) (held : Held) (name : List ℕ) (most b mid n : ℕ) (i : NoInput) → b ≤ mid
    → FileLost Why held name most mid n i → FileLost Why held name most b n i
lost_for Why held name most b mid n input.Unread later (inl none) = inl none
lost_for Why held name most b mid n input.Unread later (inr rose) = inr (omega (arith, later, rose))
lost_for Why held name most b mid n (input.Refused r) later h = h
lost_for Why held name most b mid n input.Memory later h = tt

-- where it is refused, it was read to its end, or it is too long
pub script_taken : (m : List ℕ) (rows : Rows) (f : List ℕ) (held : Held) (i : NoInput) (rest : Option (List ℕ))
    → ((r : Refusal) → i ≡ input.Refused r → r ≢ refusal.Bytes → IsAtEnd rest)
    → (i ≡ input.Refused refusal.Bytes → LeavesLong f most_source_bytes rest held) → input_status i ≡ 1
    → IsAtEnd rest ⊎ IsTooLong (about (inject m rows f)) held rest (input_text f i)
script_taken m rows f held i rest =
    file_taken (about (inject m rows f)) f held (script_word f) (script_named m rows f) refl i rest

-- ---- the lines of verdicts of either kind

-- those of more verdicts go on from them
pub lines_go_on : {V : Type 0} (text : ℕ → V → List ℕ) (groups : List (List ScriptedFault)) (vs later : List V)
    → (more : List ℕ) × (lines_by text groups (vs ++ later) ≡ lines_by text groups vs ++ more)
lines_go_on text [] vs later = ([], refl)
lines_go_on text (f ∷ groups) [] later = (lines_by text (f ∷ groups) later, refl)
lines_go_on text (f ∷ groups) (v ∷ vs) later =
    let (more, is) = lines_go_on text groups vs later in
    let line : List ℕ = text (line_of f) v in
    (more, ap (λ t. line ++ t) is ∙ sym (append_assoc line (lines_by text groups vs) more))

-- there are none of no verdicts
no_lines : {V : Type 0} (text : ℕ → V → List ℕ) (groups : List (List ScriptedFault)) → lines_by text groups [] ≡ []
no_lines text [] = refl
no_lines text (faults ∷ groups) = refl

pub campaign_unwritten : {V : Type 0} → (let r : Result V CampaignFault = Err campaign.Memory in r) ≡ Err campaign.Write → ⊥
campaign_unwritten is = cc

pub no_lines_written : {V : Type 0} (text : ℕ → V → List ℕ) (groups : List (List ScriptedFault)) (old : Option (List ℕ))
    → Appends old old (lines_by text groups [])
no_lines_written text groups old = subst (λ (t : List ℕ). Appends old old t) (sym (no_lines text groups)) (appends-nothing old)

-- so they are a front of the whole text, which ends with the totals
pub lines_front : {V : Type 0} (text : ℕ → V → List ℕ) (totals : List V → List ℕ) (groups : List (List ScriptedFault)) (vs later : List V)
    (old new : Option (List ℕ)) → Appends old new (lines_by text groups vs)
    → AppendsFront old new (lines_by text groups (vs ++ later) ++ totals (vs ++ later))
lines_front text totals groups vs later old new w =
    let (more, is) = lines_go_on text groups vs later in
    let end : List ℕ = totals (vs ++ later) in
    (lines_by text groups vs, more ++ end, ap (λ t. t ++ end) is ∙ append_assoc (lines_by text groups vs) more end, w)

-- the verdicts that are left of all
pub left_of : {X : Type 0} (vs all : List X) → vs ≡ take (length vs) all → all ≡ vs ++ drop (length vs) all
left_of vs all is = sym (take-append-drop (length vs) all) ∙ ap (λ l. l ++ drop (length vs) all) (sym is)

pub left_count : {X : Type 0} (vs all : List X) (n : ℕ) → vs ≡ take (length vs) all → length all ≡ n → length vs + length (drop (length vs) all) ≡ n
left_count vs all n is count = sym (length-append vs (drop (length vs) all)) ∙ ap length (sym (left_of vs all is)) ∙ count

-- as many as there are groups are all
pub all_of : {X : Type 0} (vs all : List X) → vs ≡ take (length vs) all → length vs ≡ length all → vs ≡ all
all_of vs all is same = is ∙ ap (λ n. take n all) same ∙ take-length all

-- ---- how far groups were judged, by verdicts of either kind

module _ {V : Type 0} (c : Campaign) (Asked : List V → UnitSeen → UnitSeen → Type 0) (text : ℕ → V → List ℕ) (totals : List V → List ℕ) (meant : List V)
    (as_many : length meant ≡ length c.groups) (before after : Moment) (vs : List V) (asked : Asked vs before.unit after.unit)
    (right : StaysHonest before.unit after.unit → vs ≡ take (length vs) meant) where
  abbrev lines : List V → List ℕ
  lines ws = lines_by text c.groups ws

  abbrev answer : List V → Answer
  answer ws = printed (lines ws ++ totals ws)

  -- all of them
  pub groups_done : length vs ≡ length c.groups → GroupsDone c Asked answer meant before.unit after.unit (answer vs)
  groups_done each = record {
    verdicts = vs;
    each = each;
    asked = asked;
    read = refl;
    honest = λ h. all_of vs meant (right h) (each ∙ sym as_many);
  }

  -- what was written of these and any later ones was written of those that are meant
  of_meant : (Writes : Appending) → ((later : List V) → length vs + length later ≡ length c.groups
      → Writes before.out.written after.out.written (answer (vs ++ later)).out) → StaysHonest before.unit after.unit
      → Writes before.out.written after.out.written (answer meant).out
  of_meant Writes written h =
      subst (λ (l : List V). Writes before.out.written after.out.written (answer l).out) (sym (left_of vs meant (right h)))
      (written (drop (length vs) meant) (left_count vs meant (length c.groups) (right h) as_many))

  -- until writing failed
  pub groups_part : length vs ≤ length c.groups
      → ((later : List V) → length vs + length later ≡ length c.groups → AppendsPart before.out.written after.out.written (answer (vs ++ later)).out)
      → EarlierWritten lines vs before.out.written after.out.written → GroupsLeft c Asked answer meant lines AppendsPart before after
  groups_part few part earlier = record {
    verdicts = vs;
    few = few;
    asked = asked;
    text = part;
    earlier = earlier;
    honest = of_meant AppendsPart part;
  }

  -- until memory was wanted
  pub groups_front : length vs ≤ length c.groups → Appends before.out.written after.out.written (lines vs)
      → GroupsLeft c Asked answer meant lines AppendsFront before after
  groups_front few w =
      let front : (later : List V) → length vs + length later ≡ length c.groups
      → AppendsFront before.out.written after.out.written (answer (vs ++ later)).out =
      λ later follows. lines_front text totals c.groups vs later before.out.written after.out.written w in
      record {
        verdicts = vs;
        few = few;
        asked = asked;
        text = front;
        earlier = λ earlier last is.
            let (more, go_on) = lines_go_on text c.groups earlier (last ∷ []) in
            (more, subst (λ (t : List ℕ). Appends before.out.written after.out.written t) (ap lines is ∙ go_on) w);
        honest = of_meant AppendsFront front;
      }

-- ---- how far they were judged by one channel

module _ (c : Campaign) (unit unit' : UnitSeen) (out out' : SinkSeen) where
  abbrev before : Moment
  before = moment unit out

  abbrev after : Moment
  after = moment unit' out'

  abbrev totals : List Verdict → List ℕ
  totals vs = totals_text (totals_of vs)

  as_many : length (verdicts_meant c) ≡ length c.groups
  as_many = length-map c.groups _

  judged : (vs : List Verdict) → All (Names (length c.graph.outputs) (length c.graph.operations)) vs
      → JudgedOnce c.table c.graph c.groups c.rows vs unit unit' → RerunsAsked c vs unit unit'
  judged vs names asked = record { names = names; asked = asked }

  -- no group was judged, and nothing was done
  none_judged : (vs : List Verdict) → Appends out.written out'.written (verdict_lines c.graph c.groups vs) → vs ≡ [] → unit' ≡ unit → Still before after
  none_judged vs w none quiet =
      record {
        unit = quiet;
        out = subst (λ (t : List ℕ). Appends out.written out'.written t) (ap (verdict_lines c.graph c.groups) none ∙ no_lines (verdict_text c.graph) c.groups) w;
      }

  module _ (m : List ℕ) (rows : Rows) (f : List ℕ) (held : Held) (files later : FilesSeen) (comes : TaskOf (inject m rows f) held (judges c)) where
    judged_whole : (u : Unit {0}) → Told c.table c.graph c.groups c.rows unit unit' out.written out'.written (Ok u)
        → Reaches (about (inject m rows f)) (TaskOf (inject m rows f) held) files later before after [] 0
    judged_whole u told =
        done (judges c) (verdicts_answer c told.verdicts) comes
        (groups_done c (RerunsAsked c) (verdict_text c.graph) totals (verdicts_meant c) as_many before after told.verdicts
        (judged told.verdicts told.names told.asked) told.right told.written.0)
        told.written.1 refl refl

    judged_to : (e : CampaignFault) → (e ≡ campaign.Write → Rose out.faults out'.faults) → Told c.table c.graph c.groups c.rows unit unit'
        out.written out'.written (Err e)
        → Reaches (about (inject m rows f)) (TaskOf (inject m rows f) held) files later before after (fault_text (of_campaign e))
        (fault_status (of_campaign e))
    judged_to campaign.Write rose told =
        cut (judges c) comes
        (groups_part c (RerunsAsked c) (verdict_text c.graph) totals (verdicts_meant c) as_many before after told.verdicts
        (judged told.verdicts told.names told.asked) told.right told.few told.written.0 told.written.1)
        (rose refl) refl refl
    judged_to campaign.Memory rose told =
        elim told.asked [
          | inl asked ↦
              wanting (judges c) comes
              (groups_front c (RerunsAsked c) (verdict_text c.graph) totals (verdicts_meant c) as_many before after told.verdicts
              (judged told.verdicts told.names asked) told.right told.few told.written)
              refl refl refl
          | inr none ↦ unmade (none_judged told.verdicts told.written none.0 none.1) refl refl
        ]

    pub judged_ends : (result : Result (Unit {0}) CampaignFault) → (result ≡ Err campaign.Write → Rose out.faults out'.faults)
        → Told c.table c.graph c.groups c.rows unit unit' out.written out'.written result
        → Reaches (about (inject m rows f)) (TaskOf (inject m rows f) held) files later before after (told_line (campaign_end result))
        (told_status (campaign_end result))
    judged_ends (Ok u) rose told = judged_whole u told
    judged_ends (Err e) rose told = judged_to e (λ is. rose (ap Err is)) told

-- the groups weren't all judged, behind all files
campaign_performs : (c : About) (Comes : Held → Task → Type 0) (files later : FilesSeen) → c.files ≢ [] → later.held ≡ files.held →
    (before after : Moment) → IsAtEnd later.rest → later.faults ≡ files.faults → (c.calls ≡ false → after.unit ≡ before.unit) → (e : CampaignFault) →
    IfSome files.held (λ h. Reaches c (Comes h) files later before after (fault_text (of_campaign e)) (fault_status (of_campaign e))) →
    (e ≡ campaign.Write → Rose before.out.faults after.out.faults) → (e ≢ campaign.Write → after.out.faults ≡ before.out.faults) →
    Performs c Comes files later before after (fault_text (of_campaign e)) (fault_status (of_campaign e))
campaign_performs c Comes files later reads held before after end read unit campaign.Write far rose stayed =
    part_performs c Comes files later reads held before after end read unit (rose refl) far
campaign_performs c Comes files later reads held before after end read unit campaign.Memory far rose stayed =
    short_performs c Comes files later reads held before after end read unit far (stayed (λ e. cc))

-- they were all judged, or they weren't
pub campaign_ends : (c : About) (Comes : Held → Task → Type 0) (files later : FilesSeen) → c.files ≢ [] → later.held ≡ files.held → Among 0 c.ends →
    (before after : Moment) → IsAtEnd later.rest → later.faults ≡ files.faults → (c.calls ≡ false → after.unit ≡ before.unit) →
    (result : Result (Unit {0}) CampaignFault) →
    IfSome files.held (λ h. Reaches c (Comes h) files later before after (told_line (campaign_end result)) (told_status (campaign_end result))) →
    (result ≡ Err campaign.Write → Rose before.out.faults after.out.faults) → (result ≢ Err campaign.Write → after.out.faults ≡ before.out.faults) →
    Performs c Comes files later before after (told_line (campaign_end result)) (told_status (campaign_end result))
campaign_ends c Comes files later reads held zero before after end read unit (Ok _) far rose stayed =
    whole_performs c Comes files later reads held before after end read zero unit far (stayed (λ e. cc))
campaign_ends c Comes files later reads held zero before after end read unit (Err e) far rose stayed =
    campaign_performs c Comes files later reads held before after end read unit e far (λ is. rose (ap Err is)) (λ no. stayed (λ is. no cc))
