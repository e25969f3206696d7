-- What `inject` and `pairs` come to alike where there are no rows, or no script.
use Rattle.std.proofs.Common.{ℕ, ℤ, ◌≡◌, ◌≢◌, ◌∙◌, inl, inr, refl, List, Option, Some, None, IfSome, Result, Ok, Err}
use Rattle.std.proofs.lemmas.Bool.{true≢false}
use Rattle.std.specs.Io.KnownBytes.{IsAtEnd}
use Rattle.vcp_base.specs.Limits.{most_source_bytes}
use Rattle.vcp_outside.specs.Counts.{Rose}
use Rattle.vcp_outside.specs.Seen.{FilesSeen, SinkSeen}
use Rattle.coded_unit.specs.Seen.{UnitSeen}
use Rattle.fault_script.specs.declared.act.Fault.{Fault as ScriptedFault}
use Rattle.fault_injector.specs.declared.campaign.fault.CampaignFault.{CampaignFault}
use Rattle.fault_injector.specs.declared.campaign.fault.CampaignFault.TheVariants as campaign
use Rattle.op_graph.specs.Lists.{Lists}
use Rattle.coded_machine.specs.Moments.{Moment, moment}
use Rattle.vcp_inputs.specs.Forms.{Rows, faults_run, inject, pairs}
use Rattle.vcp_inputs.specs.Tables.{rows_name}
use Rattle.vcp_inputs.specs.declared.refusal.Refusal.{Refusal}
use Rattle.vcp_inputs.specs.declared.refusal.Refusal.TheVariants as refusal
use Rattle.vcp_inputs.specs.declared.refusal.NoInput.{NoInput}
use Rattle.vcp_inputs.specs.declared.refusal.NoInput.TheVariants as input
use Rattle.vcp_inputs.specs.Abouts.{about, script_word}
use Rattle.vcp_inputs.specs.Files.{LeavesLong, Loads, NotLoaded}
use Rattle.vcp_inputs.specs.Lines.{input_status, input_text}
use Rattle.vcp_inputs.specs.Performing.{Performs}
use Rattle.vcp_inputs.specs.Refusals.{IsCaused}
use Rattle.vcp_inputs.specs.RowsOutcome.{RowsOutcome, source_outcome}
use Rattle.vcp_inputs.specs.RowsRead.{NoneRead}
use Rattle.vcp_inputs.specs.Scripts.{NotScript, ScriptOf}
use Rattle.vcp_core.specs.declared.image_rows.ImageRows.{ImageRows}
use Rattle.vcp_core.specs.ImagesRead.{AreImageRows, ImageRowsRead}
use Rattle.vcp_core.specs.Faults.{campaign_end}
use Rattle.vcp_core.specs.Inject.{JudgedFor, NoRowsFor, RowsFor}
use Rattle.vcp_core.specs.Reach.{told_line, told_status}
use Rattle.vcp_core.specs.Tasks.{TaskOf}
use Rattle.vcp_core.proofs.Facts.{if_some_always, if_some_both, if_some_same, if_some_weaker, if_some_when, not_none, rose_still}
use Rattle.vcp_core.proofs.ImagesRead.{loads_at}
use Rattle.vcp_core.proofs.JudgedTasks.{campaign_ends, campaign_of, judged_ends, lost_for, none_for, rows_are_read}
use Rattle.vcp_core.proofs.JudgedTasks as judged
use Rattle.vcp_core.proofs.LoadedRows.{rows_may}
use Rattle.vcp_core.proofs.PairsTasks.{none_is_read, pairs_end}
use Rattle.vcp_core.proofs.PairsTasks as paired
use Rattle.vcp_core.proofs.Performing.{files_lost}

-- rows that aren't read are none for either
pub none_read : (second : Option ℕ) (o : RowsOutcome) (g : Lists) (e : NoInput) → NoneRead o e → NoRowsFor second o g e
none_read None o g e h = none_for o g e h
none_read (Some seed) o g e h = h

module _ (m : List ℕ) (rows : Rows) (s : List ℕ) (files mid : FilesSeen) (r : ImageRows) (fit : AreImageRows r) (read : ImageRowsRead m rows files mid r) where
  abbrev outcome : RowsOutcome
  outcome = source_outcome r.rows r.columns

  -- there are no rows
  pub rows_lost : (second : Option ℕ) → IfSome second (λ seed. seed ≢ r.image.table.seed) → (at : Moment) (e : NoInput)
      → NoRowsFor second outcome r.image.graph e → IsCaused e
      → Performs (about (faults_run m rows second s)) (TaskOf (faults_run m rows second s)) files mid at at (input_text (rows_name rows) e) (input_status e)
  rows_lost None apart at e none caused =
      files_lost (about (inject m rows s)) (TaskOf (inject m rows s)) files mid not_none read.file.held (inr (inl refl)) at (rows_name rows) e
      (if_some_weaker files.held _ _ (λ h (l, same). judged.rows_lost m rows s h files mid r.image outcome l same at e none)
      (loads_at m rows files mid r fit read))
      (λ is. if_some_always files.held _ (λ h. inl read.file.ended)) (λ is. absurd (rows_are_read outcome r.image.graph e none is))
      (λ no. read.file.faults) (λ is. absurd (rows_are_read outcome r.image.graph e none is)) caused
      (rows_may (about (inject m rows s)) rows (judged.rows_named m rows s) (λ n among. among))
  rows_lost (Some seed) apart at e none caused =
      files_lost (about (pairs m rows seed s)) (TaskOf (pairs m rows seed s)) files mid not_none read.file.held (inr (inl refl)) at (rows_name rows) e
      (if_some_weaker files.held _ _ (λ h (l, same). paired.rows_lost m rows seed s h files mid r.image apart outcome l same at e none)
      (loads_at m rows files mid r fit read))
      (λ is. if_some_always files.held _ (λ h. inl read.file.ended)) (λ is. absurd (none_is_read outcome e none is))
      (λ no. read.file.faults) (λ is. absurd (none_is_read outcome e none is)) caused
      (rows_may (about (pairs m rows seed s)) rows (paired.rows_named m rows seed s) (λ n among. among))

  -- all are there, and there is no script
  module _ (later : FilesSeen) (e : NoInput)
      (lost : IfSome mid.held (λ h. NotLoaded (NotScript r.image.graph) h s most_source_bytes mid.broken later.broken e))
      (whole : (why : Refusal) → e ≡ input.Refused why → why ≢ refusal.Bytes → IsAtEnd later.rest)
      (left : e ≡ input.Refused refusal.Bytes → IfSome mid.held (LeavesLong s most_source_bytes later.rest))
      (rose : e ≡ input.Unread → Rose mid.faults later.faults) (stayed : e ≢ input.Unread → later.faults ≡ mid.faults)
      (held : later.held ≡ mid.held) (caused : IsCaused e) where
    pub script_lost : (second : Option ℕ) → IfSome second (λ seed. seed ≢ r.image.table.seed) → (at : Moment) (list : List (List ℤ))
        → RowsFor second outcome r.image.graph list
        → Performs (about (faults_run m rows second s)) (TaskOf (faults_run m rows second s)) files later at at (input_text s e) (input_status e)
    script_lost None apart at list all =
        files_lost (about (inject m rows s)) (TaskOf (inject m rows s)) files later not_none (held ∙ read.file.held) (inr (inl refl)) at s e
        (if_some_both files.held mid.held _ _ _ read.file.held
        (λ h (l, same) none. judged.script_lost m rows s h files later r.image outcome l same list all at e
        (lost_for (NotScript r.image.graph) h s most_source_bytes files.broken mid.broken later.broken e read.file.broken none))
        (loads_at m rows files mid r fit read) lost)
        (λ is. if_some_same files.held mid.held _ read.file.held
        (if_some_weaker mid.held _ _ (λ h at_most. judged.script_taken m rows s h e later.rest whole at_most is)
        (if_some_when (e ≡ input.Refused refusal.Bytes) mid.held mid.held (LeavesLong s most_source_bytes later.rest) refl left)))
        (λ is. rose_still read.file.faults (rose is)) (λ no. stayed no ∙ read.file.faults)
        (λ is. (script_word s, judged.script_named m rows s, refl)) caused (inl (script_word s, judged.script_named m rows s, refl))
    script_lost (Some seed) apart at list all =
        files_lost (about (pairs m rows seed s)) (TaskOf (pairs m rows seed s)) files later not_none (held ∙ read.file.held) (inr (inl refl)) at s e
        (if_some_both files.held mid.held _ _ _ read.file.held
        (λ h (l, same) none. paired.script_lost m rows seed s h files later r.image apart outcome l same list all at e
        (lost_for (NotScript r.image.graph) h s most_source_bytes files.broken mid.broken later.broken e read.file.broken none))
        (loads_at m rows files mid r fit read) lost)
        (λ is. if_some_same files.held mid.held _ read.file.held
        (if_some_weaker mid.held _ _ (λ h at_most. paired.script_taken m rows seed s h e later.rest whole at_most is)
        (if_some_when (e ≡ input.Refused refusal.Bytes) mid.held mid.held (LeavesLong s most_source_bytes later.rest) refl left)))
        (λ is. rose_still read.file.faults (rose is)) (λ no. stayed no ∙ read.file.faults)
        (λ is. (script_word s, paired.script_named m rows seed s, refl)) caused (inl (script_word s, paired.script_named m rows seed s, refl))

  -- all are there, and the script is, and its groups were judged, or were not to their end
  module _ (later : FilesSeen) (held : later.held ≡ mid.held) (ended : IsAtEnd later.rest) (faults : later.faults ≡ mid.faults)
      (groups : List (List ScriptedFault))
      (found : IfSome mid.held (λ h. Loads (ScriptOf r.image.graph) (NotScript r.image.graph) h s most_source_bytes mid.broken later.broken (Ok groups)))
      (unit unit' : UnitSeen) (out out' : SinkSeen) (result : Result (Unit {0}) CampaignFault)
      (write : result ≡ Err campaign.Write → Rose out.faults out'.faults) (stayed : result ≢ Err campaign.Write → out'.faults ≡ out.faults) where
    pub groups_judged : (second : Option ℕ) → IfSome second (λ seed. seed ≢ r.image.table.seed) → (list : List (List ℤ))
        → RowsFor second outcome r.image.graph list
        → JudgedFor second r.image.table r.image.graph groups list unit unit' out.written out'.written result
        → Performs (about (faults_run m rows second s)) (TaskOf (faults_run m rows second s)) files later (moment unit out) (moment unit' out')
        (told_line (campaign_end result)) (told_status (campaign_end result))
    groups_judged None apart list all told =
        campaign_ends (about (inject m rows s)) (TaskOf (inject m rows s)) files later not_none (held ∙ read.file.held) (inl refl) (moment unit out) (moment unit' out')
        ended (faults ∙ read.file.faults) (λ no. absurd (true≢false no)) result
        (if_some_both files.held mid.held _ _ _ read.file.held
        (λ h (l, same) at. judged_ends (campaign_of r.image list groups) unit unit' out out' m rows s h files later
        (judged.groups_come m rows s h files later r.image outcome l same list all groups at) result write told)
        (loads_at m rows files mid r fit read) found)
        write stayed
    groups_judged (Some seed) apart list all told =
        campaign_ends (about (pairs m rows seed s)) (TaskOf (pairs m rows seed s)) files later not_none (held ∙ read.file.held) (inl refl) (moment unit out) (moment unit' out')
        ended (faults ∙ read.file.faults) (λ no. absurd (true≢false no)) result
        (if_some_both files.held mid.held _ _ _ read.file.held
        (λ h (l, same) at. pairs_end (campaign_of r.image list groups) unit unit' out out' m rows seed s h files later
        (paired.groups_come m rows seed s h files later r.image apart outcome l same list all groups at) result write told)
        (loads_at m rows files mid r fit read) found)
        write stayed
