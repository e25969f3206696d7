-- Meanings: a command comes to one task, which has a status of its own, and lacks no name where all its files are held; and what is meant
-- where `run` comes to a run is the answer of `plain`.
use Rattle.std.proofs.Common.{ℕ, ℤ, ◌≡◌, ◌<◌, ◌≤◌, ◌*◌, inl, inr, refl, sym, ap, subst, ◌∙◌, List, [], ◌∷◌, ◌++◌, length, Option, Some, None, IsSome, lit≤, Result, Ok, Err, Bool, true, false, cond, nat_lt, arith}
use Rattle.vcp_base.specs.Limits.{most_image_bytes, most_rows_bytes, most_source_bytes}
use Rattle.vcp_base.specs.Stops.{ToldStop}
use Rattle.vcp_base.specs.declared.columns.Column.{Column}
use Rattle.vcp_outside.specs.Held.{Held}
use Rattle.input_rows.specs.declared.fault.RowFault.{RowFault}
use Rattle.input_rows.specs.RowsOf.{RowsLeft, rows_of, rows_of_cycles, through}
use Rattle.fault_script.specs.declared.act.Fault.{Fault}
use Rattle.op_graph.specs.Lists.{Lists}
use Rattle.program_maker.specs.MadeRows.{made_rows}
use Rattle.program_maker.specs.MadeSource.{made_source}
use Rattle.flat_expr.specs.Told.{told_source}
use Rattle.fault_script.specs.ScriptOf.{script_of}
use Rattle.st_writer.specs.CanonicalProgram.{canonical}
use Rattle.vcp_typed.specs.Size.{size}
use Rattle.st_tree.specs.ProgramTree.{ProgramTree}
use Rattle.vcp_typed.specs.Fitting.{input_columns}
use Rattle.vcp_typed.specs.SourceRun.{Program}
use Rattle.vcp_inputs.specs.Forms.{Form, Rows, Code, check, format, plain, run, il, compile, list, exec, trace, widen, audit, inject, pair, pairs, wire, demo, file, cycles}
use Rattle.vcp_inputs.specs.Tables.{rows_name}
use Rattle.vcp_inputs.specs.declared.images.Image.{Image}
use Rattle.vcp_inputs.specs.declared.refusal.Refusal.{Refusal}
use Rattle.vcp_inputs.specs.declared.refusal.Refusal.TheVariants as refusal
use Rattle.vcp_inputs.specs.Files.{IsRefused, long, short}
use Rattle.vcp_inputs.specs.Images.{ImageOf, NotImage}
use Rattle.il_front.specs.Answers.{IsIl, most_il_bytes}
use Rattle.il_front.specs.Accumulator.{Il}
use Rattle.vcp_inputs.specs.Listings.{NotListing}
use Rattle.vcp_inputs.specs.Programs.{IsProgram, NoProgram, TypedOf, NotTyped}
use Rattle.vcp_inputs.specs.RowsOutcome.{RowsOutcome, lacking, opened, rows_or_refusal, file_outcome, rows_outcome}
use Rattle.vcp_inputs.specs.RowsOutcome as outcome
use Rattle.vcp_inputs.specs.Scripts.{ScriptOf, NotScript, no_script}
use Rattle.vcp_inputs.specs.Wires.{WireOf, NotWire}
use Rattle.telegram.specs.declared.script.script.WireScript.{WireScript}
use Rattle.image_file.specs.Graphs.{HasImage}
use Rattle.image_file.specs.Image.{image_of}
use Rattle.signature_table.specs.Signatures.{Numbers, table_of}
use Rattle.weight_audit.specs.Audit.{most_weights, weights_up_to}
use Rattle.weight_audit.specs.AuditText.{AuditOf}
use Rattle.vcp_inputs.specs.Abouts.{FileWord, about, AllHeld, made_name, image_word, listing_word, rows_words, script_word, source_word, Among}
use Rattle.vcp_inputs.specs.Answer.{Answer, Campaign, source, listed, image}
use Rattle.vcp_inputs.specs.FileTasks.{TakenFile, missing, untaken, taken, ParsedFile, TypedFile, ListingFile, ImageFile, ScriptFile, OnRows, TakenRows}
use Rattle.vcp_inputs.specs.Endings.{HasOwnStatus}
use Rattle.vcp_inputs.specs.Kinds.{Task, lacks, answers, compiles, runs, judges, compares, pairs_, wires, prints, refusal_task, Meant}
use Rattle.vcp_inputs.specs.PairKind.{PairJob}
use Rattle.vcp_inputs.specs.Reports.{end_told, run_status}
use Rattle.vcp_inputs.specs.RunKind.{Job, job_answer, run_meant}
use Rattle.vcp_core.proofs.OneFile.{one_file, file_has}
use Rattle.vcp_core.specs.Tasks.{Audited, too_large, printed, FewRows, too_many, few, WholeRows, Apart, same_seed, two_seeds, Compared, PairsRows, pair_job, TaskOf, plain_answer, rows_job, words_job, ok_text, most_trace, table_code, listing, widened, ScriptedTask}
use Rattle.vcp_core.specs.PerformedLaws.{RunMeansPlain}
use Rattle.vcp_inputs.specs.RowsRead.{graph_columns}
use Rattle.vcp_core.specs.Demo.{made_held, summary_job}
use Rattle.vcp_core.proofs.OneText.{ImageLaws, Laws, OneAudit, image_once, image_or_none, no_image_once, program_once, program_or_none, refused_once, typed_once, typed_apart, untyped_once, listing_or_none, no_listing_once}
use Rattle.vcp_core.proofs.Performed.{NeedsNone}
use Rattle.vcp_core.proofs.WireTasks.{wire_task_once}

-- ---- a command comes to one task

-- what `widen` prints of an image, and the outcome of the made rows of a number
abbrev wide_prints : Image → Task
wide_prints i = prints (image_of (widened i.graph) i.table.seed i.table.step)

abbrev made_outcome : ℕ → Program → RowsOutcome
made_outcome number t = rows_or_refusal (rows_of (made_rows number) (input_columns t.slots))

-- what is said of one task
one_is : (x a b : Task) → a ≡ x → b ≡ x → a ≡ b
one_is x a b h k = h ∙ sym k

-- two that exclude each other
not_both : (n m : ℕ) → n < m → m ≤ n → ⊥
not_both n m more less = omega (arith, more, less)

abbrev image_with : Lists → Numbers → Image
image_with g t = record { graph = g; table = t }

image_same : (i j : Image) → (i.graph ≡ j.graph) × (i.table ≡ j.table) → i ≡ j
image_same i j same =
    let first : i ≡ image_with j.graph i.table = ap (λ (g : Lists). image_with g i.table) same.0 in
    let second : image_with j.graph i.table ≡ j = ap (λ (t : Numbers). image_with j.graph t) same.1 in first ∙ second

rows_once : (name : List ℕ) (Then : RowsLeft → Task → Type 0) → ((left : RowsLeft) (a b : Task) → Then left a → Then left b → a ≡ b) → (o : RowsOutcome)
    (a b : Task) → OnRows name Then o a → OnRows name Then o b → a ≡ b
rows_once name Then next outcome.lacking a b h k = h ∙ sym k
rows_once name Then next (outcome.refused r) a b h k = h ∙ sym k
rows_once name Then next (opened left) a b h k = next left a b h k

audited_once : OneAudit → (horizon : ℕ) (name : List ℕ) (i : Image) (a b : Task) → Audited horizon name i a → Audited horizon name i b → a ≡ b
audited_once laws horizon name i _ _ (too_large more) (too_large other) = refl
audited_once laws horizon name i _ _ (too_large more) (printed less told is) = absurd (not_both most_weights (weights_up_to i.graph horizon) more less)
audited_once laws horizon name i _ _ (printed less told is) (too_large more) = absurd (not_both most_weights (weights_up_to i.graph horizon) more less)
audited_once laws horizon name i _ _ (printed less told is) (printed other said also) = ap prints (laws i.graph horizon told said is also)

whole_once : (name : List ℕ) (Then : List (List ℤ) → Task → Type 0) (rows : List (List ℤ)) (behind : Option RowFault) (a b : Task)
    → (Then rows a → Then rows b → a ≡ b) → WholeRows name Then rows behind a → WholeRows name Then rows behind b → a ≡ b
whole_once name Then rows None a b next h k = next h k
whole_once name Then rows (Some why) a b next h k = h ∙ sym k

few_once : (name : List ℕ) (g : Lists) (Then : List (List ℤ) → Task → Type 0) (rows : List (List ℤ)) →
    ((a b : Task) → Then rows a → Then rows b → a ≡ b) → (a b : Task) → FewRows name g Then rows a → FewRows name g Then rows b → a ≡ b
few_once name g Then rows next _ _ (too_many more) (too_many other) = refl
few_once name g Then rows next _ _ (too_many more) (few b less is) = absurd (not_both most_trace (length rows * length g.operations) more less)
few_once name g Then rows next _ _ (few a less is) (too_many more) = absurd (not_both most_trace (length rows * length g.operations) more less)
few_once name g Then rows next _ _ (few a less is) (few b other also) = next a b is also

-- an image with another seed comes to one task, and one with this seed is refused
apart_once : (name : List ℕ) (seed : ℕ) (Then : Image → Task → Type 0) → ((i : Image) (a b : Task) → Then i a → Then i b → a ≡ b) →
    (i : Image) (a b : Task) → Apart name seed Then i a → Apart name seed Then i b → a ≡ b
apart_once name seed Then once i _ _ (same_seed is) (same_seed also) = refl
apart_once name seed Then once i _ _ (same_seed is) (two_seeds b other comes) = absurd (other is)
apart_once name seed Then once i _ _ (two_seeds a other comes) (same_seed is) = absurd (other is)
apart_once name seed Then once i _ _ (two_seeds a other comes) (two_seeds b also goes) = once i a b comes goes

compared_once : (rows : Rows) (held : Held) (i : Image) (a b : Task) → Compared rows held i a → Compared rows held i b → a ≡ b
compared_once rows held i a b comes goes =
    rows_once (rows_name rows) (λ left x. x ≡ compares (pair_job (rows_name rows) i left)) (λ left x y. one_is (compares (pair_job (rows_name rows) i left)) x y)
    (rows_outcome rows held (graph_columns i.graph)) a b comes goes

-- a text is one script, or is refused in one way
script_once : (g : Lists) (text : List ℕ) (x y : List (List Fault)) → ScriptOf g text x → ScriptOf g text y → x ≡ y
script_once g text x y h k =
    let one : script_of g text ≡ Ok x = h in
    let other : script_of g text ≡ Ok y = k in cc

no_script_once : (g : Lists) (text : List ℕ) (r s : Refusal) → NotScript g text r → NotScript g text s → r ≡ s
no_script_once g text _ _ (no_script f known is) (no_script e other also) = let same : f ≡ e = cc in ap refusal.Script same

script_or_none : (g : Lists) (text : List ℕ) (x : List (List Fault)) (r : Refusal) → ScriptOf g text x → NotScript g text r → ⊥
script_or_none g text x _ h (no_script f known is) = let one : script_of g text ≡ Ok x = h in cc

script_file_once : (g : Lists) (Then : List (List Fault) → Task) (f : List ℕ) (held : Held) (a b : Task) → ScriptFile g (λ x t. t ≡ Then x) f held a
    → ScriptFile g (λ x t. t ≡ Then x) f held b → a ≡ b
script_file_once g Then f held a b h k =
    one_file (ScriptOf g) (NotScript g) most_source_bytes (λ x t. t ≡ Then x) f (held f) (script_once g) (no_script_once g) (script_or_none g)
    (λ x c d. one_is (Then x) c d) a b h k

image_file_once : (laws : ImageLaws) (Then : Image → Task → Type 0) (m : List ℕ) (held : Held) → ((i : Image) (a b : Task) → Then i a → Then i b → a ≡ b)
    → (a b : Task) → ImageFile Then m held a → ImageFile Then m held b → a ≡ b
image_file_once laws Then m held next a b h k =
    one_file ImageOf NotImage most_image_bytes Then m (held m) (λ text i j is other. image_same i j (image_once laws text i j is other))
    (no_image_once laws) (image_or_none laws) next a b h k

module _ (laws : Laws) where
  parsed_file_once : (Then : ProgramTree → Task) (p : List ℕ) (held : Held) (a b : Task) → ParsedFile (λ t x. x ≡ Then t) p held a
      → ParsedFile (λ t x. x ≡ Then t) p held b → a ≡ b
  parsed_file_once Then p held a b h k =
      one_file IsProgram NoProgram most_source_bytes (λ t x. x ≡ Then t) p (held p) (program_once laws) (refused_once laws)
      (λ text t r. program_or_none laws text r t) (λ t c d. one_is (Then t) c d) a b h k

  typed_file_once : (Then : Program → Task → Type 0) (p : List ℕ) (held : Held) → ((t : Program) (a b : Task) → Then t a → Then t b → a ≡ b)
      → (a b : Task) → TypedFile Then p held a → TypedFile Then p held b → a ≡ b
  typed_file_once Then p held next a b h k =
      one_file TypedOf NotTyped most_source_bytes Then p (held p) (typed_once laws) (untyped_once laws) (typed_apart laws) next a b h k

  typed_file_is : (What : Program → Task) (p : List ℕ) (held : Held) (a b : Task) → TypedFile (λ t x. x ≡ What t) p held a
      → TypedFile (λ t x. x ≡ What t) p held b → a ≡ b
  typed_file_is What p held a b h k = typed_file_once (λ t x. x ≡ What t) p held (λ t c d. one_is (What t) c d) a b h k

  image_file_is : (What : Image → Task) (m : List ℕ) (held : Held) (a b : Task) → ImageFile (λ i x. x ≡ What i) m held a
      → ImageFile (λ i x. x ≡ What i) m held b → a ≡ b
  image_file_is What m held a b h k = image_file_once laws.images (λ i x. x ≡ What i) m held (λ i c d. one_is (What i) c d) a b h k

  -- P and then ROWS, M and then ROWS
  program_once_on : (Then : Program → RowsLeft → Task) (p : List ℕ) (rows : Rows) (held : Held) (a b : Task) →
      TypedFile (λ t. TakenRows (λ left x. x ≡ Then t left) rows held (input_columns t.slots)) p held a →
      TypedFile (λ t. TakenRows (λ left x. x ≡ Then t left) rows held (input_columns t.slots)) p held b → a ≡ b
  program_once_on Then p rows held a b h k =
      typed_file_once (λ t. TakenRows (λ left x. x ≡ Then t left) rows held (input_columns t.slots)) p held
      (λ t c d. rows_once (rows_name rows) (λ left x. x ≡ Then t left) (λ left x y. one_is (Then t left) x y)
      (rows_outcome rows held (input_columns t.slots)) c d)
      a b h k

  listing_once_on : (Then : Il → RowsLeft → Task) (p : List ℕ) (rows : Rows) (held : Held) (a b : Task) →
      ListingFile (λ i. TakenRows (λ left x. x ≡ Then i left) rows held (input_columns i.slots)) p held a →
      ListingFile (λ i. TakenRows (λ left x. x ≡ Then i left) rows held (input_columns i.slots)) p held b → a ≡ b
  listing_once_on Then p rows held a b h k =
      one_file IsIl NotListing most_il_bytes (λ i. TakenRows (λ left x. x ≡ Then i left) rows held (input_columns i.slots)) p (held p)
      (laws.listings).one (no_listing_once laws.listings) (listing_or_none laws.listings)
      (λ i c d. rows_once (rows_name rows) (λ left x. x ≡ Then i left) (λ left x y. one_is (Then i left) x y)
      (rows_outcome rows held (input_columns i.slots)) c d)
      a b h k

  graph_once_on : (Then : Image → RowsLeft → Task → Type 0) (m : List ℕ) (rows : Rows) (held : Held) →
      ((i : Image) (left : RowsLeft) (a b : Task) → Then i left a → Then i left b → a ≡ b) → (a b : Task) →
      ImageFile (λ i. TakenRows (Then i) rows held (graph_columns i.graph)) m held a →
      ImageFile (λ i. TakenRows (Then i) rows held (graph_columns i.graph)) m held b → a ≡ b
  graph_once_on Then m rows held next a b h k =
      image_file_once laws.images (λ i. TakenRows (Then i) rows held (graph_columns i.graph)) m held
      (λ i c d. rows_once (rows_name rows) (Then i) (next i) (rows_outcome rows held (graph_columns i.graph)) c d) a b h k

  graph_once_is : (What : Image → RowsLeft → Task) (m : List ℕ) (rows : Rows) (held : Held) (a b : Task) →
      ImageFile (λ i. TakenRows (λ left x. x ≡ What i left) rows held (graph_columns i.graph)) m held a →
      ImageFile (λ i. TakenRows (λ left x. x ≡ What i left) rows held (graph_columns i.graph)) m held b → a ≡ b
  graph_once_is What m rows held a b h k =
      graph_once_on (λ i left x. x ≡ What i left) m rows held (λ i left c d. one_is (What i left) c d) a b h k

  judged_once : (name f : List ℕ) (held : Held) (i : Image) (left : RowsLeft) (a b : Task) →
      WholeRows name (FewRows name i.graph (ScriptedTask judges i f held)) left.rows left.refusal a →
      WholeRows name (FewRows name i.graph (ScriptedTask judges i f held)) left.rows left.refusal b → a ≡ b
  judged_once name f held i left a b h k =
      whole_once name (FewRows name i.graph (ScriptedTask judges i f held)) left.rows left.refusal a b
      (few_once name i.graph (ScriptedTask judges i f held) left.rows
      (λ c d. script_file_once i.graph (λ groups. judges (record { graph = i.graph; table = i.table; rows = left.rows; groups = groups })) f held c d) a b) h k

  pairs_once : (rows : Rows) (f : List ℕ) (held : Held) (i : Image) (a b : Task) → PairsRows rows f held i a → PairsRows rows f held i b → a ≡ b
  pairs_once rows f held i a b h k =
      let name = rows_name rows in
      rows_once name (λ left. WholeRows name (ScriptedTask pairs_ i f held) left.rows left.refusal)
      (λ left x y. whole_once name (ScriptedTask pairs_ i f held) left.rows left.refusal x y
      (script_file_once i.graph (λ groups. pairs_ (record { graph = i.graph; table = i.table; rows = left.rows; groups = groups })) f held x y))
      (rows_outcome rows held (graph_columns i.graph)) a b h k

  pub task_once : (f : Form) (held : Held) (a b : Task) → TaskOf f held a → TaskOf f held b → a ≡ b
  task_once (check p) held a b h k = typed_file_is (λ t. prints (ok_text (size t))) p held a b h k
  task_once (format p) held a b h k = parsed_file_once (λ t. prints (canonical t)) p held a b h k
  task_once (plain p rows) held a b h k = program_once_on (λ t left. answers (plain_answer (rows_name rows) t left)) p rows held a b h k
  task_once (run p rows code) held a b h k = program_once_on (λ t left. runs (rows_job (rows_name rows) code (source t) left)) p rows held a b h k
  task_once (il p rows code) held a b h k = listing_once_on (λ i left. runs (rows_job (rows_name rows) code (listed i) left)) p rows held a b h k
  task_once (compile p code) held a b h k = typed_file_is (λ t. compiles t code) p held a b h k
  task_once (list m) held a b h k = image_file_is (λ i. prints (listing i.graph i.table)) m held a b h k
  task_once (exec m rows) held a b h k =
      graph_once_is (λ i left. runs (rows_job (rows_name rows) (table_code i.table) (image i.graph) left)) m rows held a b h k
  task_once (trace m rows n) held a b h k =
      graph_once_is (λ i left. runs (words_job (rows_name rows) n i.graph (table_code i.table) (through n left))) m rows held a b h k
  task_once (widen m) held a b h k = image_file_is wide_prints m held a b h k
  task_once (audit m horizon) held a b h k = image_file_once laws.images (Audited horizon m) m held (audited_once laws.audits horizon m) a b h k
  task_once (inject m rows f) held a b h k =
      graph_once_on (λ i left. WholeRows (rows_name rows) (FewRows (rows_name rows) i.graph (ScriptedTask judges i f held)) left.rows left.refusal) m rows held
      (judged_once (rows_name rows) f held) a b h k
  task_once (pair m rows seed) held a b h k =
      image_file_once laws.images (Apart m seed (Compared rows held)) m held (apart_once m seed (Compared rows held) (compared_once rows held)) a b h k
  task_once (pairs m rows seed f) held a b h k =
      image_file_once laws.images (Apart m seed (PairsRows rows f held)) m held (apart_once m seed (PairsRows rows f held) (pairs_once rows f held)) a b h k
  task_once (wire f) held a b h k = wire_task_once f held a b h k
  task_once (demo number) held a b h k =
      typed_file_once (λ t. OnRows made_name (λ left x. x ≡ runs (summary_job number t left)) (made_outcome number t)) made_name (made_held number)
      (λ t c d. rows_once made_name (λ left x. x ≡ runs (summary_job number t left)) (λ left x y. one_is (runs (summary_job number t left)) x y)
      (made_outcome number t) c d) a b h k

-- ---- an image that was written is taken

not_untaken : (laws : ImageLaws) (text : List ℕ) (i : Image) (r : Refusal) → ImageOf text i → length text ≤ most_image_bytes →
    IsRefused NotImage most_image_bytes text r → ⊥
not_untaken laws text i _ is less (long more) = not_both most_image_bytes (length text) more less
not_untaken laws text i _ is less (short r fine why) = image_or_none laws text i r is why

image_then : (laws : ImageLaws) (i : Image) (Then : Image → Task → Type 0) (name text : List ℕ) (found : Option (List ℕ)) (task : Task) → ImageOf text i →
    length text ≤ most_image_bytes → found ≡ Some text → TakenFile ImageOf NotImage most_image_bytes Then name found task → Then i task
image_then laws i Then name text found _ is less here (missing none) = absurd cc
image_then laws i Then name text found _ is less here (untaken other r there why) =
    let same : other ≡ text = cc in
    absurd (not_untaken laws text i r is less (subst (λ (t : List ℕ). IsRefused NotImage most_image_bytes t r) same why))
image_then laws i Then name text found task is less here (taken other j _ there fine also comes) =
    let same : other ≡ text = cc in
    let one : j ≡ i = image_same j i (image_once laws text j i (subst (λ (t : List ℕ). ImageOf t j) same also) is) in
    subst (λ (k : Image). Then k task) one comes

-- it comes to what is said of its graph and table
pub image_comes : (laws : ImageLaws) (g : Lists) (seed step : ℕ) (Then : Image → Task → Type 0) (name : List ℕ) (held : Held) (task : Task) →
    HasImage g seed step → length (image_of g seed step) ≤ most_image_bytes → held name ≡ Some (image_of g seed step) →
    ImageFile Then name held task → Then (record { graph = g; table = table_of seed step g }) task
image_comes laws g seed step Then name held task has less found comes =
    let i : Image = record { graph = g; table = table_of seed step g } in
    image_then laws i Then name (image_of g seed step) (held name) task (record { has = has; bytes = refl; table = refl }) less found comes

-- and is audited, where its graph has few enough weights
pub audited_is : (horizon : ℕ) (name : List ℕ) (i : Image) (task : Task) → weights_up_to i.graph horizon ≤ most_weights → Audited horizon name i task →
    (told : List ℕ) × AuditOf i.graph horizon told × (task ≡ prints told)
audited_is horizon name i _ less (too_large more) = absurd (not_both most_weights (weights_up_to i.graph horizon) more less)
audited_is horizon name i _ less (printed fine told is) = (told, is, refl)

-- ---- rows are lacking only where their file is

result_lacks : (r : Result RowsLeft RowFault) → rows_or_refusal r ≡ lacking → ⊥
result_lacks (Ok left) h = cc
result_lacks (Err why) h = cc

short_lacks : (over : Bool) (r : Result RowsLeft RowFault) → cond over (outcome.refused refusal.Bytes) (rows_or_refusal r) ≡ lacking → ⊥
short_lacks true r h = cc
short_lacks false r h = result_lacks r h

file_lacks : (columns : List Column) (found : Option (List ℕ)) → file_outcome columns found ≡ lacking → found ≡ None
file_lacks columns None h = refl
file_lacks columns (Some bytes) h = absurd (short_lacks (nat_lt most_rows_bytes (length bytes)) (rows_of bytes columns) h)

among_front : (word : FileWord) (words more : List FileWord) → Among word words → Among word (words ++ more)
among_front word [] more h = absurd h
among_front word (w ∷ words) more (inl e) = inl e
among_front word (w ∷ words) more (inr h) = inr (among_front word words more h)

among_behind : (word : FileWord) (words more : List FileWord) → Among word more → Among word (words ++ more)
among_behind word [] more h = h
among_behind word (w ∷ words) more h = inr (among_behind word words more h)

there_is : (bytes : List ℕ) → Some bytes ≡ None → ⊥
there_is bytes is = cc

-- ---- what holds of each task that a command may come to

-- what is so for each word of these whose file is not held
abbrev Lacking : (Task → Type 0) → Held → List FileWord → Type 0
Lacking P held words = (word : FileWord) → Among word words → held word.name ≡ None → P (lacks word.name)

-- a program's own run has a small status
meant_small : (s : Option ToldStop) (behind : Option RowFault) → run_status (end_told s) behind ≤ 2
meant_small (Some s) behind = lit≤ tt
meant_small None None = lit≤ tt
meant_small None (Some why) = lit≤ tt

module _ (P : Task → Type 0) (given : (a : Answer) → a.status ≤ 2 → P (answers a)) where
  is_has : (task other : Task) → P other → task ≡ other → P task
  is_has task other has is = subst P (sym is) has

  refused : (name : List ℕ) (r : Refusal) → P (refusal_task name r)
  refused name r = given _ (lit≤ tt)

  typed_has : (Then : Program → Task → Type 0) (p : List ℕ) (held : Held) → (held p ≡ None → P (lacks p)) → ((t : Program) (x : Task) → Then t x → P x)
      → (task : Task) → TypedFile Then p held task → P task
  typed_has Then p held none next task comes = file_has TypedOf NotTyped most_source_bytes Then p (held p) P none (refused p) next task comes

  image_has : (Then : Image → Task → Type 0) (m : List ℕ) (held : Held) → (held m ≡ None → P (lacks m)) → ((i : Image) (x : Task) → Then i x → P x)
      → (task : Task) → ImageFile Then m held task → P task
  image_has Then m held none next task comes = file_has ImageOf NotImage most_image_bytes Then m (held m) P none (refused m) next task comes

  -- where it is one task
  typed_is : (What : Program → Task) (p : List ℕ) (held : Held) → (held p ≡ None → P (lacks p)) → ((t : Program) → P (What t)) → (task : Task) →
      TypedFile (λ t x. x ≡ What t) p held task → P task
  typed_is What p held none next task comes = typed_has (λ t x. x ≡ What t) p held none (λ t x is. is_has x (What t) (next t) is) task comes

  image_is : (What : Image → Task) (m : List ℕ) (held : Held) → (held m ≡ None → P (lacks m)) → ((i : Image) → P (What i)) → (task : Task) →
      ImageFile (λ i x. x ≡ What i) m held task → P task
  image_is What m held none next task comes = image_has (λ i x. x ≡ What i) m held none (λ i x is. is_has x (What i) (next i) is) task comes

  outcome_has : (name : List ℕ) (Then : RowsLeft → Task → Type 0) (o : RowsOutcome) → (o ≡ lacking → P (lacks name)) →
      ((left : RowsLeft) (x : Task) → Then left x → P x) → (task : Task) → OnRows name Then o task → P task
  outcome_has name Then outcome.lacking none next task comes = is_has task (lacks name) (none refl) comes
  outcome_has name Then (outcome.refused r) none next task comes = is_has task (refusal_task name r) (refused name r) comes
  outcome_has name Then (opened left) none next task comes = next left task comes

  rows_lack : (rows : Rows) (held : Held) (columns : List Column) → Lacking P held (rows_words rows) → rows_outcome rows held columns ≡ lacking
      → P (lacks (rows_name rows))
  rows_lack (file name) held [] none h = absurd cc
  rows_lack (file name) held (c ∷ columns) none h =
      none (record { name = name; most = most_rows_bytes }) (inl refl) (file_lacks (c ∷ columns) (held name) h)
  rows_lack (cycles n) held columns none h = absurd (result_lacks (rows_of_cycles n columns) h)

  rows_have : (Then : RowsLeft → Task → Type 0) (rows : Rows) (held : Held) (columns : List Column) → Lacking P held (rows_words rows) →
      ((left : RowsLeft) (x : Task) → Then left x → P x) → (task : Task) → TakenRows Then rows held columns task → P task
  rows_have Then rows held columns none next task comes =
      outcome_has (rows_name rows) Then (rows_outcome rows held columns) (rows_lack rows held columns none) next task comes

  -- P and then ROWS, M and then ROWS
  program_has : (Then : Program → RowsLeft → Task) (p : List ℕ) (rows : Rows) (held : Held) → Lacking P held (source_word p ∷ rows_words rows) →
      ((t : Program) (left : RowsLeft) → P (Then t left)) → (task : Task) →
      TypedFile (λ t. TakenRows (λ left x. x ≡ Then t left) rows held (input_columns t.slots)) p held task → P task
  program_has Then p rows held none next task comes =
      typed_has (λ t. TakenRows (λ left x. x ≡ Then t left) rows held (input_columns t.slots)) p held (none (source_word p) (inl refl))
      (λ t x. rows_have (λ left y. y ≡ Then t left) rows held (input_columns t.slots) (λ word among. none word (inr among))
      (λ left y is. is_has y (Then t left) (next t left) is) x) task comes

  listing_has : (Then : Il → RowsLeft → Task) (p : List ℕ) (rows : Rows) (held : Held) → Lacking P held (listing_word p ∷ rows_words rows) →
      ((i : Il) (left : RowsLeft) → P (Then i left)) → (task : Task) →
      ListingFile (λ i. TakenRows (λ left x. x ≡ Then i left) rows held (input_columns i.slots)) p held task → P task
  listing_has Then p rows held none next task comes =
      file_has IsIl NotListing most_il_bytes (λ i. TakenRows (λ left x. x ≡ Then i left) rows held (input_columns i.slots)) p (held p) P
      (none (listing_word p) (inl refl)) (refused p)
      (λ i x. rows_have (λ left y. y ≡ Then i left) rows held (input_columns i.slots) (λ word among. none word (inr among))
      (λ left y is. is_has y (Then i left) (next i left) is) x) task comes

  graph_has : (Then : Image → RowsLeft → Task → Type 0) (m : List ℕ) (rows : Rows) (held : Held) → Lacking P held (image_word m ∷ rows_words rows) →
      ((i : Image) (left : RowsLeft) (x : Task) → Then i left x → P x) → (task : Task) →
      ImageFile (λ i. TakenRows (Then i) rows held (graph_columns i.graph)) m held task → P task
  graph_has Then m rows held none next task comes =
      image_has (λ i. TakenRows (Then i) rows held (graph_columns i.graph)) m held (none (image_word m) (inl refl))
      (λ i x. rows_have (Then i) rows held (graph_columns i.graph) (λ word among. none word (inr among)) (next i) x) task comes

  audited_has : (horizon : ℕ) (m : List ℕ) (i : Image) (task : Task) → Audited horizon m i task → P task
  audited_has horizon m i _ (too_large more) = refused m refusal.Audit
  audited_has horizon m i _ (printed less told is) = given _ (lit≤ tt)

  apart_has : (name : List ℕ) (seed : ℕ) (Then : Image → Task → Type 0) → ((i : Image) (x : Task) → Then i x → P x) → (i : Image) (task : Task) →
      Apart name seed Then i task → P task
  apart_has name seed Then next i _ (same_seed is) = refused name refusal.Seed
  apart_has name seed Then next i _ (two_seeds task other comes) = next i task comes

  compared_has : (rows : Rows) (held : Held) → Lacking P held (rows_words rows) → ((j : PairJob) → P (compares j)) → (i : Image) (task : Task) →
      Compared rows held i task → P task
  compared_has rows held none comparing i task comes =
      rows_have (λ left x. x ≡ compares (pair_job (rows_name rows) i left)) rows held (graph_columns i.graph) none
      (λ left x is. is_has x (compares (pair_job (rows_name rows) i left)) (comparing (pair_job (rows_name rows) i left)) is) task comes

  whole_has : (name : List ℕ) (Then : List (List ℤ) → Task → Type 0) (rows : List (List ℤ)) (behind : Option RowFault) (task : Task) →
      (Then rows task → P task) → WholeRows name Then rows behind task → P task
  whole_has name Then rows None task next comes = next comes
  whole_has name Then rows (Some why) task next comes = is_has task (refusal_task name (refusal.Rows why)) (refused name (refusal.Rows why)) comes

  few_has : (name : List ℕ) (g : Lists) (Then : List (List ℤ) → Task → Type 0) (rows : List (List ℤ)) → ((x : Task) → Then rows x → P x) →
      (task : Task) → FewRows name g Then rows task → P task
  few_has name g Then rows next _ (too_many more) = refused name refusal.Trace
  few_has name g Then rows next _ (few x less is) = next x is

  abbrev campaign : Image → RowsLeft → List (List Fault) → Campaign
  campaign i left groups = record { graph = i.graph; table = i.table; rows = left.rows; groups = groups }

  judged_has : (name f : List ℕ) (held : Held) → (held f ≡ None → P (lacks f)) → ((c : Campaign) → P (judges c)) → (i : Image) (left : RowsLeft) (task : Task) →
      WholeRows name (FewRows name i.graph (ScriptedTask judges i f held)) left.rows left.refusal task → P task
  judged_has name f held none judging i left task comes =
      whole_has name (FewRows name i.graph (ScriptedTask judges i f held)) left.rows left.refusal task
      (few_has name i.graph (ScriptedTask judges i f held) left.rows
      (λ x. file_has (ScriptOf i.graph) (NotScript i.graph) most_source_bytes (λ groups y. y ≡ judges (campaign i left groups)) f (held f) P none (refused f)
      (λ groups y is. is_has y (judges (campaign i left groups)) (judging (campaign i left groups)) is) x) task) comes

  pairs_has : (rows : Rows) (f : List ℕ) (held : Held) → Lacking P held (rows_words rows) → (held f ≡ None → P (lacks f)) → ((c : Campaign) → P (pairs_ c)) →
      (i : Image) (task : Task) → PairsRows rows f held i task → P task
  pairs_has rows f held none script pairing i task comes =
      rows_have (λ left. WholeRows (rows_name rows) (ScriptedTask pairs_ i f held) left.rows left.refusal) rows held (graph_columns i.graph) none
      (λ left x.
      whole_has (rows_name rows) (ScriptedTask pairs_ i f held) left.rows left.refusal x
      (file_has (ScriptOf i.graph) (NotScript i.graph) most_source_bytes (λ groups y. y ≡ pairs_ (campaign i left groups)) f (held f) P script (refused f)
      (λ groups y is. is_has y (pairs_ (campaign i left groups)) (pairing (campaign i left groups)) is) x)) task comes

  pub task_has : (f : Form) (held : Held) → Lacking P held (about f).files → ((j : Job) → P (runs j)) → ((p : Program) (code : Code) → P (compiles p code)) →
      ((c : Campaign) → P (judges c)) → ((j : PairJob) → P (compares j)) → ((c : Campaign) → P (pairs_ c)) → ((s : WireScript) → P (wires s)) → (task : Task) →
      TaskOf f held task → P task
  task_has (check p) held none running writing judging comparing pairing wiring task comes =
      typed_is (λ t. prints (ok_text (size t))) p held (none (source_word p) (inl refl)) (λ t. given _ (lit≤ tt)) task comes
  task_has (format p) held none running writing judging comparing pairing wiring task comes =
      file_has IsProgram NoProgram most_source_bytes (λ t x. x ≡ prints (canonical t)) p (held p) P (none (source_word p) (inl refl)) (refused p)
      (λ t x is. is_has x (prints (canonical t)) (given _ (lit≤ tt)) is) task comes
  task_has (plain p rows) held none running writing judging comparing pairing wiring task comes =
      program_has (λ t left. answers (plain_answer (rows_name rows) t left)) p rows held none
      (λ t left. given _ (meant_small (told_source t left.rows).end left.refusal)) task comes
  task_has (run p rows code) held none running writing judging comparing pairing wiring task comes =
      program_has (λ t left. runs (rows_job (rows_name rows) code (source t) left)) p rows held none
      (λ t left. running (rows_job (rows_name rows) code (source t) left)) task comes
  task_has (il p rows code) held none running writing judging comparing pairing wiring task comes =
      listing_has (λ i left. runs (rows_job (rows_name rows) code (listed i) left)) p rows held none
      (λ i left. running (rows_job (rows_name rows) code (listed i) left)) task comes
  task_has (compile p code) held none running writing judging comparing pairing wiring task comes =
      typed_is (λ t. compiles t code) p held (none (source_word p) (inl refl)) (λ t. writing t code) task comes
  task_has (list m) held none running writing judging comparing pairing wiring task comes =
      image_is (λ i. prints (listing i.graph i.table)) m held (none (image_word m) (inl refl)) (λ i. given _ (lit≤ tt)) task comes
  task_has (exec m rows) held none running writing judging comparing pairing wiring task comes =
      graph_has (λ i left x. x ≡ runs (rows_job (rows_name rows) (table_code i.table) (image i.graph) left)) m rows held none
      (λ i left x is. is_has x (runs (rows_job (rows_name rows) (table_code i.table) (image i.graph) left)) (running _) is) task comes
  task_has (trace m rows n) held none running writing judging comparing pairing wiring task comes =
      graph_has (λ i left x. x ≡ runs (words_job (rows_name rows) n i.graph (table_code i.table) (through n left))) m rows held none
      (λ i left x is. is_has x (runs (words_job (rows_name rows) n i.graph (table_code i.table) (through n left))) (running _) is) task comes
  task_has (widen m) held none running writing judging comparing pairing wiring task comes =
      image_is wide_prints m held (none (image_word m) (inl refl)) (λ i. given _ (lit≤ tt)) task comes
  task_has (audit m horizon) held none running writing judging comparing pairing wiring task comes =
      image_has (Audited horizon m) m held (none (image_word m) (inl refl)) (audited_has horizon m) task comes
  task_has (inject m rows f) held none running writing judging comparing pairing wiring task comes =
      graph_has (λ i left. WholeRows (rows_name rows) (FewRows (rows_name rows) i.graph (ScriptedTask judges i f held)) left.rows left.refusal) m rows held
      (λ word among. none word (among_front word (image_word m ∷ rows_words rows) (script_word f ∷ []) among))
      (judged_has (rows_name rows) f held (none (script_word f) (among_behind (script_word f) (image_word m ∷ rows_words rows) (script_word f ∷ []) (inl refl)))
      judging) task comes
  task_has (pair m rows seed) held none running writing judging comparing pairing wiring task comes =
      image_has (Apart m seed (Compared rows held)) m held (none (image_word m) (inl refl))
      (apart_has m seed (Compared rows held) (compared_has rows held (λ word among. none word (inr among)) comparing)) task comes
  task_has (pairs m rows seed f) held none running writing judging comparing pairing wiring task comes =
      image_has (Apart m seed (PairsRows rows f held)) m held (none (image_word m) (inl refl))
      (apart_has m seed (PairsRows rows f held)
      (pairs_has rows f held (λ word among. none word (among_front word (image_word m ∷ rows_words rows) (script_word f ∷ []) (inr among)))
      (none (script_word f) (among_behind (script_word f) (image_word m ∷ rows_words rows) (script_word f ∷ []) (inl refl))) pairing)) task comes
  task_has (wire f) held none running writing judging comparing pairing wiring task comes =
      file_has WireOf NotWire most_source_bytes (λ s x. x ≡ wires s) f (held f) P (none (script_word f) (inl refl)) (refused f)
      (λ s x is. is_has x (wires s) (wiring s) is) task comes
  task_has (demo number) held none running writing judging comparing pairing wiring task comes =
      typed_has (λ t. OnRows made_name (λ left x. x ≡ runs (summary_job number t left)) (made_outcome number t)) made_name (made_held number)
      (λ e. absurd (there_is (made_source number) e))
      (λ t x. outcome_has made_name (λ left y. y ≡ runs (summary_job number t left)) (made_outcome number t)
      (λ lack. absurd (result_lacks (rows_of (made_rows number) (input_columns t.slots)) lack))
      (λ left y is. is_has y (runs (summary_job number t left)) (running (summary_job number t left)) is) x) task comes

-- each task has a status of its own
pub own_status : (f : Form) (held : Held) (task : Task) → TaskOf f held task → HasOwnStatus task
own_status f held task comes = task_has HasOwnStatus (λ a small. small) f held (λ word among none. tt) (λ j. tt) (λ p code. tt) (λ c. tt) (λ j. tt) (λ c. tt) (λ s. tt) task comes

-- and where all files are held, none is lacking
not_none : (o : Option (List ℕ)) → IsSome o → o ≡ None → ⊥
not_none None some is = cc
not_none (Some x) some is = cc

held_among : (held : Held) (words : List FileWord) (word : FileWord) → AllHeld held words → Among word words → held word.name ≡ None → ⊥
held_among held [] word all among none = absurd among
held_among held (w ∷ words) word all (inl same) none = not_none (held w.name) all.0 (subst (λ (x : FileWord). held x.name ≡ None) same none)
held_among held (w ∷ words) word all (inr among) none = held_among held words word all.1 among none

abbrev NoneLacks : Task → Type 0
NoneLacks task = (name : List ℕ) → task ≡ lacks name → ⊥

pub all_found : (f : Form) (held : Held) (name : List ℕ) → AllHeld held (about f).files → TaskOf f held (lacks name) → ⊥
all_found f held name all comes =
    task_has NoneLacks (λ a small n e. cc) f held (λ word among none. absurd (held_among held (about f).files word all among none)) (λ j n e. cc)
    (λ p code n e. cc) (λ c n e. cc) (λ j n e. cc) (λ c n e. cc) (λ s n e. cc) (lacks name) comes name refl

-- a command that calls no unit comes to tasks that need none
pub none_needed : (f : Form) (held : Held) (task : Task) → (about f).calls ≡ false → TaskOf f held task → NeedsNone task
none_needed (check p) held task quiet comes = typed_is NeedsNone (λ a small. small) (λ t. prints (ok_text (size t))) p held (λ e. tt) (λ t. lit≤ tt) task comes
none_needed (format p) held task quiet comes =
    file_has IsProgram NoProgram most_source_bytes (λ t x. x ≡ prints (canonical t)) p (held p) NeedsNone (λ e. tt) (refused NeedsNone (λ a small. small) p)
    (λ t x is. is_has NeedsNone (λ a small. small) x (prints (canonical t)) (lit≤ tt) is) task comes
none_needed (plain p rows) held task quiet comes =
    program_has NeedsNone (λ a small. small) (λ t left. answers (plain_answer (rows_name rows) t left)) p rows held (λ word among e. tt)
    (λ t left. meant_small (told_source t left.rows).end left.refusal) task comes
none_needed (run p rows code) held task quiet comes = absurd cc
none_needed (il p rows code) held task quiet comes = absurd cc
none_needed (compile p code) held task quiet comes = typed_is NeedsNone (λ a small. small) (λ t. compiles t code) p held (λ e. tt) (λ t. tt) task comes
none_needed (list m) held task quiet comes = image_is NeedsNone (λ a small. small) (λ i. prints (listing i.graph i.table)) m held (λ e. tt) (λ i. lit≤ tt) task comes
none_needed (exec m rows) held task quiet comes = absurd cc
none_needed (trace m rows n) held task quiet comes = absurd cc
none_needed (widen m) held task quiet comes = image_is NeedsNone (λ a small. small) wide_prints m held (λ e. tt) (λ i. lit≤ tt) task comes
none_needed (audit m horizon) held task quiet comes =
    image_has NeedsNone (λ a small. small) (Audited horizon m) m held (λ e. tt) (audited_has NeedsNone (λ a small. small) horizon m) task comes
none_needed (inject m rows f) held task quiet comes = absurd cc
none_needed (pair m rows seed) held task quiet comes = absurd cc
none_needed (pairs m rows seed f) held task quiet comes = absurd cc
none_needed (wire f) held task quiet comes = absurd cc
none_needed (demo number) held task quiet comes = absurd cc

-- ---- without a unit

-- the task with the answer that is meant in the place of a run
abbrev as_meant : Task → Task
as_meant (lacks name) = lacks name
as_meant (answers a) = answers a
as_meant (compiles p code) = compiles p code
as_meant (runs j) = answers (job_answer j (run_meant j))
as_meant (judges c) = judges c
as_meant (wires s) = wires s
as_meant (compares j) = compares j
as_meant (pairs_ c) = pairs_ c

rows_meant : (name : List ℕ) (code : Code) (t : Program) (o : RowsOutcome) (task : Task) →
    OnRows name (λ left x. x ≡ runs (rows_job name code (source t) left)) o task → OnRows name (λ left x. x ≡ answers (plain_answer name t left)) o
    (as_meant task)
rows_meant name code t outcome.lacking task h = ap as_meant h
rows_meant name code t (outcome.refused r) task h = ap as_meant h
rows_meant name code t (opened left) task h = ap as_meant h

run_is_plain : (p : List ℕ) (rows : Rows) (code : Code) (held : Held) (task : Task) → TaskOf (run p rows code) held task → TaskOf (plain p rows) held (as_meant task)
run_is_plain p rows code held _ (missing none) = missing none
run_is_plain p rows code held _ (untaken text r found why) = untaken text r found why
run_is_plain p rows code held _ (taken text t task found less is comes) =
    taken text t (as_meant task) found less is (rows_meant (rows_name rows) code t (rows_outcome rows held (input_columns t.slots)) task comes)

meant_is : (task : Task) (x y : Answer) → as_meant task ≡ answers x → Meant task y → y ≡ x
meant_is (lacks name) x y is h = absurd cc
meant_is (answers a) x y is h = let same : a ≡ x = cc in h ∙ same
meant_is (compiles p code) x y is h = absurd cc
meant_is (runs j) x y is h = let same : job_answer j (run_meant j) ≡ x = cc in h ∙ same
meant_is (judges c) x y is h = absurd cc
meant_is (wires s) x y is h = absurd cc
meant_is (compares j) x y is h = absurd cc
meant_is (pairs_ c) x y is h = absurd cc

pub run_means_plain : Laws → RunMeansPlain
run_means_plain laws p rows code held task comes x y also meant =
    meant_is task x y (task_once laws (plain p rows) held (as_meant task) (answers x) (run_is_plain p rows code held task comes) also) meant
