-- What `pairs` comes to and how far it comes, from what reading its files and running the groups give.
use Rattle.std.proofs.Common.{ℕ, ℤ, ◌≤◌, ◌≡◌, ◌≢◌, ◌⊎◌, inl, inr, refl, sym, subst, ◌∙◌, List, [], ◌∷◌, length, ap, Option, Some, Result, Ok, Err}
use Rattle.std.proofs.lemmas.List.{length-map}
use Rattle.std.specs.Io.KnownBytes.{IsAtEnd}
use Rattle.vcp_base.specs.Limits.{most_image_bytes, most_source_bytes}
use Rattle.coded_unit.specs.Seen.{UnitSeen}
use Rattle.vcp_outside.specs.Counts.{Rose}
use Rattle.vcp_outside.specs.Held.{Held}
use Rattle.vcp_outside.specs.Seen.{FilesSeen, SinkSeen}
use Rattle.input_rows.specs.RowsOf.{RowsLeft}
use Rattle.coded_machine.specs.Moments.{Moment, moment}
use Rattle.fault_script.specs.declared.act.Fault.{Fault as ScriptedFault}
use Rattle.fault_injector.specs.Campaign.{verdicts_of}
use Rattle.fault_injector.specs.declared.campaign.fault.CampaignFault.{CampaignFault}
use Rattle.fault_injector.specs.declared.campaign.fault.CampaignFault.TheVariants as campaign
use Rattle.fault_injector.specs.declared.campaign.pairs.verdict.PairVerdict.{PairVerdict}
use Rattle.fault_injector.specs.GroupLines.{group_text, pair_totals_text, totals_of}
use Rattle.fault_injector.specs.PairCampaigns.{PairsTold}
use Rattle.fault_injector.specs.PairVerdicts.{told_verdict}
use Rattle.vcp_inputs.specs.Forms.{Rows, pairs}
use Rattle.vcp_inputs.specs.Tables.{rows_name}
use Rattle.vcp_inputs.specs.declared.images.Image.{Image}
use Rattle.vcp_inputs.specs.declared.refusal.Refusal.{Refusal}
use Rattle.vcp_inputs.specs.declared.refusal.Refusal.TheVariants as refusal
use Rattle.vcp_inputs.specs.declared.refusal.NoInput.{NoInput}
use Rattle.vcp_inputs.specs.declared.refusal.NoInput.TheVariants as input
use Rattle.vcp_inputs.specs.Files.{LeavesLong, Loads, NotLoaded as FileLost}
use Rattle.vcp_inputs.specs.Images.{ImageOf, NotImage}
use Rattle.vcp_inputs.specs.Lines.{input_status, input_text, refusal_text}
use Rattle.vcp_inputs.specs.RowsOutcome.{RowsOutcome, rows_outcome}
use Rattle.vcp_inputs.specs.Scripts.{ScriptOf, NotScript}
use Rattle.vcp_inputs.specs.Abouts.{Among, FileWord, about, rows_words, script_word}
use Rattle.vcp_inputs.specs.Answer.{Campaign}
use Rattle.vcp_inputs.specs.Clauses.{IsTooLong}
use Rattle.vcp_inputs.specs.FileTasks.{OnRows, taken}
use Rattle.vcp_inputs.specs.CampaignKind.{PairRunsAsked, pairs_answer, pairs_meant}
use Rattle.vcp_inputs.specs.Kinds.{Task, pairs_, refusal_task}
use Rattle.vcp_inputs.specs.Performing.{Reaches, done, cut, wanting, unread, unmade}
use Rattle.vcp_core.specs.Faults.{campaign_end, of_campaign}
use Rattle.vcp_core.specs.Reach.{fault_status, fault_text, told_line, told_status}
use Rattle.vcp_inputs.specs.RowsRead.{AllRead, NoneRead, graph_columns}
use Rattle.vcp_core.specs.Tasks.{two_seeds, TaskOf, ScriptedTask}
use Rattle.vcp_core.proofs.JudgedTasks.{WholeLeft, campaign_of, groups_done, groups_front, groups_part, rows_front, script_end, whole_broken, whole_comes}
use Rattle.vcp_core.proofs.Performing.{file_lost, file_taken, file_takes, still}

-- that is no read fault
pub none_is_read : (o : RowsOutcome) (i : NoInput) → NoneRead o i → i ≡ input.Unread → ⊥
none_is_read o (input.Refused r) h is = cc
none_is_read o input.Memory h is = cc
none_is_read o input.Unread h is = h

-- ---- the files of `pairs`

pub rows_named : (m : List ℕ) (rows : Rows) (seed : ℕ) (f : List ℕ) (word : FileWord) → Among word (rows_words rows) →
    Among word (about (pairs m rows seed f)).files
rows_named m rows seed f word h = inr (rows_front word (rows_words rows) (script_word f ∷ []) h)

pub script_named : (m : List ℕ) (rows : Rows) (seed : ℕ) (f : List ℕ) → Among (script_word f) (about (pairs m rows seed f)).files
script_named m rows seed f = inr (script_end (script_word f) (rows_words rows) (script_word f ∷ []) (inl refl))

-- ---- what it comes to

-- what its rows come to, once they are opened
abbrev pub OnLeft : Rows → List ℕ → Held → Image → RowsLeft → Task → Type 0
OnLeft rows f held i left t = WholeLeft rows (ScriptedTask pairs_ i f held) left t

module _ (m : List ℕ) (rows : Rows) (seed : ℕ) (f : List ℕ) (held : Held) (files later : FilesSeen) (i : Image) (apart : seed ≢ i.table.seed)
    (o : RowsOutcome) (loads : Loads ImageOf NotImage held m most_image_bytes 0 0 (Ok i)) (same : rows_outcome rows held (graph_columns i.graph) ≡ o) where
  -- what ROWS come to for a graph
  abbrev Comes : RowsOutcome → Task → Type 0
  Comes x t = OnRows (rows_name rows) (OnLeft rows f held i) x t

  rows_come : (t : Task) → Comes o t → TaskOf (pairs m rows seed f) held t
  rows_come t comes =
      let (text, found, few, is) = loads in
      taken text i t found few is (two_seeds t apart (subst (λ (x : RowsOutcome). Comes x t) (sym same) comes))

  -- there are no rows, and nothing was done
  pub rows_lost : (at : Moment) (e : NoInput) → NoneRead o e →
      Reaches (about (pairs m rows seed f)) (TaskOf (pairs m rows seed f) held) files later at at (input_text (rows_name rows) e) (input_status e)
  rows_lost at (input.Refused r) h =
      done (refusal_task (rows_name rows) r) (record { out = []; err = refusal_text (rows_name rows) r; status = 1 })
      (rows_come (refusal_task (rows_name rows) r) (whole_broken rows o (ScriptedTask pairs_ i f held) r h)) (refl, refl) (still at).out refl refl
  rows_lost at input.Memory h = unmade (still at) refl refl
  rows_lost at input.Unread h = absurd h

  module _ (list : List (List ℤ)) (all : AllRead o list) where
    -- the task of the script is that of the command
    script_comes : (t : Task) → ScriptedTask pairs_ i f held list t → TaskOf (pairs m rows seed f) held t
    script_comes t comes = rows_come t (whole_comes rows o (ScriptedTask pairs_ i f held) list all t comes)

    script_reaches : (before after : Moment) (line : List ℕ) (code : ℕ)
        → Reaches (about (pairs m rows seed f)) (ScriptedTask pairs_ i f held list) files later before after line code
        → Reaches (about (pairs m rows seed f)) (TaskOf (pairs m rows seed f) held) files later before after line code
    script_reaches before after line code (done t x comes d w line_is code_is) = done t x (script_comes t comes) d w line_is code_is
    script_reaches before after line code (cut t comes left rose line_is code_is) = cut t (script_comes t comes) left rose line_is code_is
    script_reaches before after line code (wanting t comes left late line_is code_is) = wanting t (script_comes t comes) left late line_is code_is
    script_reaches before after line code (unread word named rose s line_is code_is) = unread word named rose s line_is code_is
    script_reaches before after line code (unmade s line_is code_is) = unmade s line_is code_is

    -- there is no script, and nothing was done
    pub script_lost : (at : Moment) (e : NoInput) → FileLost (NotScript i.graph) held f most_source_bytes files.broken later.broken e
        → Reaches (about (pairs m rows seed f)) (TaskOf (pairs m rows seed f) held) files later at at (input_text f e) (input_status e)
    script_lost at e lost =
        script_reaches at at (input_text f e) (input_status e)
        (file_lost (about (pairs m rows seed f)) files later at at (ScriptOf i.graph) (NotScript i.graph) most_source_bytes
        (λ groups x. x ≡ pairs_ (campaign_of i list groups)) f held (script_word f) (script_named m rows seed f) refl (still at) e lost)

    -- the groups are there
    pub groups_come : (groups : List (List ScriptedFault))
        → ((text : List ℕ) × (held f ≡ Some text) × (length text ≤ most_source_bytes) × ScriptOf i.graph text groups)
        → TaskOf (pairs m rows seed f) held (pairs_ (campaign_of i list groups))
    groups_come groups found =
        script_comes (pairs_ (campaign_of i list groups))
        (file_takes (ScriptOf i.graph) (NotScript i.graph) most_source_bytes (λ fs x. x ≡ pairs_ (campaign_of i list fs)) f held groups
        (pairs_ (campaign_of i list groups)) found refl)

-- where the script is refused, it was read to its end, or it is too long
pub script_taken : (m : List ℕ) (rows : Rows) (seed : ℕ) (f : List ℕ) (held : Held) (i : NoInput) (rest : Option (List ℕ))
    → ((r : Refusal) → i ≡ input.Refused r → r ≢ refusal.Bytes → IsAtEnd rest)
    → (i ≡ input.Refused refusal.Bytes → LeavesLong f most_source_bytes rest held) → input_status i ≡ 1
    → IsAtEnd rest ⊎ IsTooLong (about (pairs m rows seed f)) held rest (input_text f i)
script_taken m rows seed f held i rest =
    file_taken (about (pairs m rows seed f)) f held (script_word f) (script_named m rows seed f) refl i rest

-- ---- how far the groups were run

module _ (c : Campaign) (unit unit' : UnitSeen) (out out' : SinkSeen) where
  abbrev before : Moment
  before = moment unit out

  abbrev after : Moment
  after = moment unit' out'

  abbrev totals : List PairVerdict → List ℕ
  totals vs = pair_totals_text (totals_of vs)

  as_many : length (pairs_meant c) ≡ length c.groups
  as_many = length-map (verdicts_of c.table c.graph c.groups c.rows) told_verdict ∙ length-map c.groups _

  module _ (m : List ℕ) (rows : Rows) (seed : ℕ) (f : List ℕ) (held : Held) (files later : FilesSeen) (comes : TaskOf (pairs m rows seed f) held (pairs_ c)) where
    pairs_whole : (u : Unit {0}) → PairsTold c.table c.graph c.groups c.rows unit unit' out.written out'.written (Ok u)
        → Reaches (about (pairs m rows seed f)) (TaskOf (pairs m rows seed f) held) files later before after [] 0
    pairs_whole u told =
        done (pairs_ c) (pairs_answer c told.verdicts) comes
        (groups_done c (PairRunsAsked c) group_text totals (pairs_meant c) as_many before after told.verdicts told.ran told.right told.written.0)
        told.written.1 refl refl

    pairs_to : (e : CampaignFault) → (e ≡ campaign.Write → Rose out.faults out'.faults)
        → PairsTold c.table c.graph c.groups c.rows unit unit' out.written out'.written (Err e)
        → Reaches (about (pairs m rows seed f)) (TaskOf (pairs m rows seed f) held) files later before after (fault_text (of_campaign e))
        (fault_status (of_campaign e))
    pairs_to campaign.Write rose told =
        cut (pairs_ c) comes
        (groups_part c (PairRunsAsked c) group_text totals (pairs_meant c) as_many before after told.verdicts told.ran told.right told.few told.written.0
        told.written.1)
        (rose refl) refl refl
    pairs_to campaign.Memory rose told =
        wanting (pairs_ c) comes
        (groups_front c (PairRunsAsked c) group_text totals (pairs_meant c) as_many before after told.verdicts told.ran told.right told.few told.written)
        refl refl refl

    pub pairs_end : (result : Result (Unit {0}) CampaignFault) → (result ≡ Err campaign.Write → Rose out.faults out'.faults)
        → PairsTold c.table c.graph c.groups c.rows unit unit' out.written out'.written result
        → Reaches (about (pairs m rows seed f)) (TaskOf (pairs m rows seed f) held) files later before after (told_line (campaign_end result))
        (told_status (campaign_end result))
    pairs_end (Ok u) rose told = pairs_whole u told
    pairs_end (Err e) rose told = pairs_to e (λ is. rose (ap Err is)) told
