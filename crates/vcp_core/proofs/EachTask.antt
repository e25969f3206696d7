-- EachTask: each command comes to a task.
use Rattle.std.proofs.Common.{ℕ, ℤ, ◌≡◌, ◌≢◌, ◌⊎◌, ⊎_elim, inl, inr, ◌<◌, ◌≤◌, ◌*◌, ◌==◌, nat_le, suc, refl, arith, true, false, List, length, All, Option, Some, None, Result, Ok, Err, subst}
use Rattle.std.proofs.lemmas.Bool.Decides.{eqb_tells, leb_tells}
use Rattle.vcp_base.specs.Limits.{most_depth, most_image_bytes, most_source_bytes}
use Rattle.vcp_base.specs.declared.columns.Column.{Column}
use Rattle.vcp_base.specs.declared.spot.Spot.{Spot}
use Rattle.vcp_outside.specs.Held.{Held}
use Rattle.st_lexer.specs.declared.fault.Reason.{Reason}
use Rattle.st_lexer.specs.declared.fault.Reason.TheVariants as reason
use Rattle.st_lexer.specs.declared.token.Token.{Token}
use Rattle.st_lexer.specs.declared.fault.LexFault.TheVariants as lexer
use Rattle.st_lexer.specs.Reading.{Reads, LexAt}
use Rattle.st_lexer.specs.Spots.{spot_at}
use Rattle.st_parser.specs.declared.fault.SyntaxFault.{SyntaxFault}
use Rattle.st_parser.specs.declared.fault.SyntaxFault.TheVariants as syntax
use Rattle.st_parser.specs.Answers.{Refuses}
use Rattle.st_tree.specs.Spelling.{Spells, SpellsWithin}
use Rattle.st_tree.specs.ProgramTree.{ProgramTree}
use Rattle.st_writer.specs.CanonicalProgram.{canonical}
use Rattle.st_types.specs.declared.fault.TypeFault.{TypeFault}
use Rattle.st_types.specs.declared.fault.TypeFault.TheVariants as typing
use Rattle.st_types.specs.Typing.{IsTyped, Refuses as RefusesTree}
use Rattle.vcp_typed.specs.Fitting.{input_columns}
use Rattle.vcp_typed.specs.Size.{size}
use Rattle.vcp_typed.specs.SourceRun.{Program}
use Rattle.il_front.specs.declared.fault.IlFault.{IlFault}
use Rattle.il_front.specs.declared.fault.IlFault.TheVariants as il
use Rattle.il_front.specs.Accumulator.{Il}
use Rattle.il_front.specs.Answers.{IsIl, NotIl, most_il_bytes}
use Rattle.input_rows.specs.declared.fault.RowFault.{RowFault}
use Rattle.input_rows.specs.RowsOf.{RowsLeft, through}
use Rattle.op_graph.specs.Lists.{Lists}
use Rattle.op_graph.specs.Rules.{IsGraph}
use Rattle.signature_table.specs.Signatures.{table_of}
use Rattle.image_file.specs.declared.fault.ImageFault.{ImageFault}
use Rattle.image_file.specs.Graphs.{ImageOrFault, IsImage, ImageFaultAt}
use Rattle.image_file.specs.Image.{image_of}
use Rattle.fault_script.specs.declared.act.Fault.{Fault}
use Rattle.fault_script.specs.declared.script_fault.ScriptFault.{ScriptFault}
use Rattle.fault_script.specs.ScriptOf.{script_of}
use Rattle.telegram.specs.declared.script.script.WireScript.{WireScript}
use Rattle.telegram.specs.declared.script.wire_fault.WireFault.{WireFault}
use Rattle.telegram.specs.ScriptOf as wiring
use Rattle.weight_audit.specs.Audit.{most_weights, weights_up_to}
use Rattle.weight_audit.specs.AuditText.{AuditOf}
use Rattle.vcp_inputs.specs.Forms.{Form, Rows, check, format, plain, run, il, compile, list, exec, trace, widen, audit, inject, pair, pairs, wire, demo}
use Rattle.vcp_inputs.specs.Tables.{rows_name}
use Rattle.vcp_inputs.specs.declared.images.Image.{Image}
use Rattle.vcp_inputs.specs.declared.refusal.Refusal.{Refusal}
use Rattle.vcp_inputs.specs.declared.refusal.Refusal.TheVariants as refusal
use Rattle.input_rows.specs.declared.source.RowsSource.TheVariants as origin
use Rattle.vcp_inputs.specs.Files.{long, short}
use Rattle.vcp_inputs.specs.Images.{ImageOf, NotImage, no_image}
use Rattle.vcp_inputs.specs.Listings.{NotListing, no_listing}
use Rattle.vcp_inputs.specs.Programs.{IsProgram, NoProgram, unlexed, unparsed, TypedOf, NotTyped, no_program, mistyped}
use Rattle.vcp_inputs.specs.RowsOutcome.{RowsOutcome, opened, rows_outcome, source_outcome}
use Rattle.vcp_inputs.specs.RowsOutcome as outcome
use Rattle.vcp_inputs.specs.Scripts.{ScriptOf, NotScript, no_script}
use Rattle.vcp_inputs.specs.Wires.{WireOf, NotWire, no_wire}
use Rattle.program_maker.specs.MadeRows.{made_rows}
use Rattle.vcp_inputs.specs.Abouts.{made_name}
use Rattle.vcp_inputs.specs.Answer.{source, listed, image}
use Rattle.vcp_inputs.specs.FileTasks.{TakenFile, missing, untaken, taken, ParsedFile, TypedFile, ListingFile, ImageFile, ScriptFile, OnRows, TakenRows}
use Rattle.vcp_inputs.specs.Kinds.{Task, lacks, answers, compiles, runs, judges, compares, pairs_, wires, prints, refusal_task}
use Rattle.vcp_core.specs.Demo.{made_held, summary_job}
use Rattle.vcp_core.specs.EachTask.{HoldsBytes}
use Rattle.vcp_core.specs.Tasks.{TaskOf, Audited, too_large, printed, WholeRows, FewRows, too_many, few, Apart, same_seed, two_seeds, Compared, PairsRows, pair_job, plain_answer, rows_job, words_job, ok_text, most_trace, table_code, listing, widened, ScriptedTask}
use Rattle.vcp_inputs.specs.RowsRead.{graph_columns}
use Rattle.vcp_core.proofs.ScriptsTold.{script_not_memory, wire_not_memory}

-- the laws that each text has an answer, and each graph an audit
pub record AnswerLaws : Type 0 where
  pub lexed : (text : List ℕ) → ((a : List Token) × Reads text a) ⊎ ((p : ℕ) × (r : Reason) × LexAt text p r)
  pub parsed : (text : List ℕ) (ts : List Token) (end : Spot) → ((p : ProgramTree) × SpellsWithin most_depth p text ts)
      ⊎ ((f : SyntaxFault) × (f ≢ syntax.Memory) × Refuses text ts end f)
  pub once : (p q : ProgramTree) (text : List ℕ) (ts : List Token) → Spells p text ts → Spells q text ts → p ≡ q
  pub typed : (p : ProgramTree) → ((t : Program) × IsTyped p t) ⊎ ((e : TypeFault) × (e ≡ typing.Memory → ⊥) × RefusesTree p e)
  pub listings : (text : List ℕ) → ((i : Il) × IsIl text i) ⊎ ((f : IlFault) × (f ≢ il.Memory) × NotIl text f)
  pub images : ImageOrFault
  pub audited : (g : Lists) (horizon : ℕ) → IsGraph g → (told : List ℕ) × AuditOf g horizon told

-- ---- files and rows

-- a text is such a thing, or there is a reason why not
abbrev Answered : {V : Type 0} → (List ℕ → V → Type 0) → (List ℕ → Refusal → Type 0) → List ℕ → Type 0
Answered {V = V} Is Why text = ((v : V) × Is text v) ⊎ ((r : Refusal) × Why text r)

some_file : {V : Type 0} (Is : List ℕ → V → Type 0) (Why : List ℕ → Refusal → Type 0) (most : ℕ) (Then : V → Task → Type 0) (name : List ℕ)
    (found : Option (List ℕ)) → ((text : List ℕ) → found ≡ Some text → Answered Is Why text)
    → ((text : List ℕ) (v : V) → Is text v → (task : Task) × Then v task) → (task : Task) × TakenFile Is Why most Then name found task
some_file Is Why most Then name None each next = (lacks name, missing refl)
some_file {V = V} Is Why most Then name (Some text) each next = ⊎_elim
    (λ (h : (nat_le (suc most) (length text) ≡ true) × (suc most ≤ length text)).
    (refusal_task name refusal.Bytes, untaken text refusal.Bytes refl (long (let more = h.1 in omega (arith, more)))))
    (λ (h : (nat_le (suc most) (length text) ≡ false) × (length text < suc most)).
    by_answer (let less = h.1 in omega (arith, less)) (each text refl))
    (leb_tells (suc most) (length text))
  where
    by_answer : length text ≤ most → Answered Is Why text → (task : Task) × TakenFile Is Why most Then name (Some text) task
    by_answer fine (inl (v, is)) = let t = next text v is in (t.0, taken text v t.0 refl fine is t.1)
    by_answer fine (inr (r, why)) = (refusal_task name r, untaken text r refl (short r fine why))

some_rows : (name : List ℕ) (Then : RowsLeft → Task → Type 0) (o : RowsOutcome) → ((left : RowsLeft) → (task : Task) × Then left task)
    → (task : Task) × OnRows name Then o task
some_rows name Then outcome.lacking next = (lacks name, refl)
some_rows name Then (outcome.refused r) next = (refusal_task name r, refl)
some_rows name Then (opened left) next = next left

some_whole : (name : List ℕ) (Then : List (List ℤ) → Task → Type 0) (rows : List (List ℤ)) (behind : Option RowFault) → ((task : Task) × Then rows task)
    → (task : Task) × WholeRows name Then rows behind task
some_whole name Then rows None next = next
some_whole name Then rows (Some why) next = (refusal_task name (refusal.Rows why), refl)

some_few : (name : List ℕ) (g : Lists) (Then : List (List ℤ) → Task → Type 0) (rows : List (List ℤ)) → ((task : Task) × Then rows task)
    → (task : Task) × FewRows name g Then rows task
some_few name g Then rows next = ⊎_elim
    (λ (h : (nat_le (suc most_trace) (length rows * length g.operations) ≡ true) × (suc most_trace ≤ length rows * length g.operations)).
    (refusal_task name refusal.Trace, too_many (let more = h.1 in omega (arith, more))))
    (λ (h : (nat_le (suc most_trace) (length rows * length g.operations) ≡ false) × (length rows * length g.operations < suc most_trace)).
    (next.0, few next.0 (let less = h.1 in omega (arith, less)) next.1))
    (leb_tells (suc most_trace) (length rows * length g.operations))

some_apart : (name : List ℕ) (seed : ℕ) (Then : Image → Task → Type 0) (i : Image) → ((task : Task) × Then i task) → (task : Task) × Apart name seed Then i task
some_apart name seed Then i next = ⊎_elim
    (λ (h : ((seed == i.table.seed) ≡ true) × (seed ≡ i.table.seed)). (refusal_task name refusal.Seed, same_seed h.1))
    (λ (h : ((seed == i.table.seed) ≡ false) × (seed ≢ i.table.seed)). (next.0, two_seeds next.0 h.1 next.1))
    (eqb_tells seed i.table.seed)

-- ---- scripts

script_answered : (g : Lists) (text : List ℕ) → Answered (ScriptOf g) (NotScript g) text
script_answered g text = by_result (script_of g text) refl
  where
    by_result : (r : Result (List (List Fault)) ScriptFault) → script_of g text ≡ r → Answered (ScriptOf g) (NotScript g) text
    by_result (Ok groups) e = inl (groups, e)
    by_result (Err f) e = inr (refusal.Script f, no_script f (λ is. script_not_memory g text (subst (λ (x : ScriptFault). script_of g text ≡ Err x) is e)) e)

wire_answered : (text : List ℕ) → Answered WireOf NotWire text
wire_answered text = by_result (wiring.script_of text) refl
  where
    by_result : (r : Result WireScript WireFault) → wiring.script_of text ≡ r → Answered WireOf NotWire text
    by_result (Ok s) e = inl (s, e)
    by_result (Err f) e = inr (refusal.Wire f, no_wire f (λ is. wire_not_memory text (subst (λ (x : WireFault). wiring.script_of text ≡ Err x) is e)) e)

some_script : (g : Lists) (Then : List (List Fault) → Task) (f : List ℕ) (held : Held) → (task : Task) × ScriptFile g (λ x t. t ≡ Then x) f held task
some_script g Then f held =
    some_file (ScriptOf g) (NotScript g) most_source_bytes (λ x t. t ≡ Then x) f (held f) (λ text here. script_answered g text)
    (λ text x is. (Then x, refl))

-- ---- programs, instruction lists and images

module _ (laws : AnswerLaws) where
  unlexed_so : (text : List ℕ) (p : ℕ) (r : Reason) → LexAt text p r → (s : Refusal) × NoProgram text s
  unlexed_so text p reason.Byte at =
      let f = lexer.Byte (spot_at text p) in (refusal.Lexing f, unlexed f (λ e. absurd cc) (p, at, refl))
  unlexed_so text p reason.Comment at =
      let f = lexer.Comment (spot_at text p) in (refusal.Lexing f, unlexed f (λ e. absurd cc) (p, at, refl))
  unlexed_so text p reason.Number at =
      let f = lexer.Number (spot_at text p) in (refusal.Lexing f, unlexed f (λ e. absurd cc) (p, at, refl))

  parsed_so : (text : List ℕ) (ts : List Token) → Reads text ts
      → (((p : ProgramTree) × SpellsWithin most_depth p text ts) ⊎ ((f : SyntaxFault) × (f ≢ syntax.Memory) × Refuses text ts (spot_at text (length text)) f))
      → Answered IsProgram NoProgram text
  parsed_so text ts reads (inl (p, within)) =
      let (ps, spells, tokens, deep) = within in
      inl (p, record { tokens = ts; reads = reads; spells = within; only = λ q other. laws.once q p text ts other (ps, spells, tokens) })
  parsed_so text ts reads (inr (f, known, refuses)) = inr (refusal.Parsing f, unparsed ts f known reads refuses)

  program_answered : (text : List ℕ) → Answered IsProgram NoProgram text
  program_answered text = ⊎_elim
      (λ (h : (ts : List Token) × Reads text ts). parsed_so text h.0 h.1 (laws.parsed text h.0 (spot_at text (length text))))
      (λ (h : (p : ℕ) × (r : Reason) × LexAt text p r). inr (unlexed_so text h.0 h.1 h.2))
      (laws.lexed text)

  typed_answered : (text : List ℕ) → Answered TypedOf NotTyped text
  typed_answered text = by_program (program_answered text)
    where
      by_tree : (p : ProgramTree) → IsProgram text p → (((t : Program) × IsTyped p t) ⊎ ((e : TypeFault) × (e ≡ typing.Memory → ⊥) × RefusesTree p e))
          → Answered TypedOf NotTyped text
      by_tree p is (inl (t, typed)) = inl (t, record { tree = p; program = is; typed = typed })
      by_tree p is (inr (e, known, refuses)) = inr (refusal.Typing e, mistyped p e is known refuses)

      by_program : Answered IsProgram NoProgram text → Answered TypedOf NotTyped text
      by_program (inl (p, is)) = by_tree p is (laws.typed p)
      by_program (inr (r, why)) = inr (r, no_program r why)

  listing_answered : (text : List ℕ) → Answered IsIl NotListing text
  listing_answered text = ⊎_elim
      (λ (h : (i : Il) × IsIl text i). inl h)
      (λ (h : (f : IlFault) × (f ≢ il.Memory) × NotIl text f). inr (refusal.Listing h.0, no_listing h.0 h.1 h.2))
      (laws.listings text)

  image_answered : (text : List ℕ) → All (λ b. b < 256) text → Answered ImageOf NotImage text
  image_answered text bytes = ⊎_elim
      (λ (h : IsImage text).
      let (g, seed, step, has, is) = h in
      let i : Image = record { graph = g; table = table_of seed step g } in
      inl (i, record { has = has; bytes = is; table = refl }))
      (λ (h : (e : ImageFault) × ImageFaultAt text e). inr (refusal.Image h.0, no_image h.0 h.1))
      (laws.images text bytes)

  some_typed : (Then : Program → Task → Type 0) (p : List ℕ) (held : Held) → ((t : Program) → (task : Task) × Then t task)
      → (task : Task) × TypedFile Then p held task
  some_typed Then p held next =
      some_file TypedOf NotTyped most_source_bytes Then p (held p) (λ text here. typed_answered text) (λ text t is. next t)

  some_image : (Then : Image → Task → Type 0) (m : List ℕ) (held : Held) → HoldsBytes held
      → ((i : Image) → IsGraph i.graph → (task : Task) × Then i task) → (task : Task) × ImageFile Then m held task
  some_image Then m held bytes next =
      some_file ImageOf NotImage most_image_bytes Then m (held m) (λ text here. image_answered text (bytes m text here)) (λ text i is. next i is.has.graph)

  some_audit : (horizon : ℕ) (name : List ℕ) (i : Image) → IsGraph i.graph → (task : Task) × Audited horizon name i task
  some_audit horizon name i is = ⊎_elim
      (λ (h : (nat_le (suc most_weights) (weights_up_to i.graph horizon) ≡ true) × (suc most_weights ≤ weights_up_to i.graph horizon)).
      (refusal_task name refusal.Audit, too_large (let more = h.1 in omega (arith, more))))
      (λ (h : (nat_le (suc most_weights) (weights_up_to i.graph horizon) ≡ false) × (weights_up_to i.graph horizon < suc most_weights)).
      let told = laws.audited i.graph horizon is in
      (prints told.0, printed (let less = h.1 in omega (arith, less)) told.0 told.1))
      (leb_tells (suc most_weights) (weights_up_to i.graph horizon))

  -- ---- a command

  typed_is : (What : Program → Task) (p : List ℕ) (held : Held) → (task : Task) × TypedFile (λ t x. x ≡ What t) p held task
  typed_is What p held = some_typed (λ t x. x ≡ What t) p held (λ t. (What t, refl))

  parsed_is : (What : ProgramTree → Task) (p : List ℕ) (held : Held) → (task : Task) × ParsedFile (λ t x. x ≡ What t) p held task
  parsed_is What p held =
      some_file IsProgram NoProgram most_source_bytes (λ t x. x ≡ What t) p (held p) (λ text here. program_answered text) (λ text t is. (What t, refl))

  image_is : (What : Image → Task) (m : List ℕ) (held : Held) → HoldsBytes held → (task : Task) × ImageFile (λ i x. x ≡ What i) m held task
  image_is What m held bytes = some_image (λ i x. x ≡ What i) m held bytes (λ i is. (What i, refl))

  rows_is : (What : RowsLeft → Task) (rows : Rows) (held : Held) (columns : List Column)
      → (task : Task) × TakenRows (λ left x. x ≡ What left) rows held columns task
  rows_is What rows held columns =
      some_rows (rows_name rows) (λ left x. x ≡ What left) (rows_outcome rows held columns) (λ left. (What left, refl))

  -- P and then ROWS, M and then ROWS
  program_on : (What : Program → RowsLeft → Task) (p : List ℕ) (rows : Rows) (held : Held)
      → (task : Task) × TypedFile (λ t. TakenRows (λ left x. x ≡ What t left) rows held (input_columns t.slots)) p held task
  program_on What p rows held =
      some_typed (λ t. TakenRows (λ left x. x ≡ What t left) rows held (input_columns t.slots)) p held
      (λ t. rows_is (What t) rows held (input_columns t.slots))

  listing_on : (What : Il → RowsLeft → Task) (p : List ℕ) (rows : Rows) (held : Held)
      → (task : Task) × ListingFile (λ i. TakenRows (λ left x. x ≡ What i left) rows held (input_columns i.slots)) p held task
  listing_on What p rows held =
      some_file IsIl NotListing most_il_bytes (λ i. TakenRows (λ left x. x ≡ What i left) rows held (input_columns i.slots)) p (held p)
      (λ text here. listing_answered text) (λ text i is. rows_is (What i) rows held (input_columns i.slots))

  graph_on : (Then : Image → RowsLeft → Task → Type 0) (m : List ℕ) (rows : Rows) (held : Held) → HoldsBytes held
      → ((i : Image) (left : RowsLeft) → (task : Task) × Then i left task)
      → (task : Task) × ImageFile (λ i. TakenRows (Then i) rows held (graph_columns i.graph)) m held task
  graph_on Then m rows held bytes next =
      some_image (λ i. TakenRows (Then i) rows held (graph_columns i.graph)) m held bytes
      (λ i is. some_rows (rows_name rows) (Then i) (rows_outcome rows held (graph_columns i.graph)) (next i))

  judged : (name f : List ℕ) (held : Held) (i : Image) (left : RowsLeft)
      → (task : Task) × WholeRows name (FewRows name i.graph (ScriptedTask judges i f held)) left.rows left.refusal task
  judged name f held i left =
      some_whole name (FewRows name i.graph (ScriptedTask judges i f held)) left.rows left.refusal
      (some_few name i.graph (ScriptedTask judges i f held) left.rows
      (some_script i.graph (λ groups. judges (record { graph = i.graph; table = i.table; rows = left.rows; groups = groups })) f held))

  held_by_pair : (rows : Rows) (f : List ℕ) (held : Held) (i : Image) → (task : Task) × PairsRows rows f held i task
  held_by_pair rows f held i =
      some_rows (rows_name rows) (λ left. WholeRows (rows_name rows) (ScriptedTask pairs_ i f held) left.rows left.refusal)
      (rows_outcome rows held (graph_columns i.graph))
      (λ left. some_whole (rows_name rows) (ScriptedTask pairs_ i f held) left.rows left.refusal
      (some_script i.graph (λ groups. pairs_ (record { graph = i.graph; table = i.table; rows = left.rows; groups = groups })) f held))

  pub some_task : (f : Form) (held : Held) → HoldsBytes held → (task : Task) × TaskOf f held task
  some_task (check p) held bytes = typed_is (λ t. prints (ok_text (size t))) p held
  some_task (format p) held bytes = parsed_is (λ t. prints (canonical t)) p held
  some_task (plain p rows) held bytes = program_on (λ t left. answers (plain_answer (rows_name rows) t left)) p rows held
  some_task (run p rows code) held bytes = program_on (λ t left. runs (rows_job (rows_name rows) code (source t) left)) p rows held
  some_task (il p rows code) held bytes = listing_on (λ i left. runs (rows_job (rows_name rows) code (listed i) left)) p rows held
  some_task (compile p code) held bytes = typed_is (λ t. compiles t code) p held
  some_task (list m) held bytes = image_is (λ i. prints (listing i.graph i.table)) m held bytes
  some_task (exec m rows) held bytes =
      graph_on (λ i left x. x ≡ runs (rows_job (rows_name rows) (table_code i.table) (image i.graph) left)) m rows held bytes
      (λ i left. (runs (rows_job (rows_name rows) (table_code i.table) (image i.graph) left), refl))
  some_task (trace m rows n) held bytes =
      graph_on (λ i left x. x ≡ runs (words_job (rows_name rows) n i.graph (table_code i.table) (through n left))) m rows held bytes
      (λ i left. (runs (words_job (rows_name rows) n i.graph (table_code i.table) (through n left)), refl))
  some_task (widen m) held bytes = image_is (λ i. prints (image_of (widened i.graph) i.table.seed i.table.step)) m held bytes
  some_task (audit m horizon) held bytes = some_image (Audited horizon m) m held bytes (some_audit horizon m)
  some_task (inject m rows f) held bytes =
      graph_on (λ i left. WholeRows (rows_name rows) (FewRows (rows_name rows) i.graph (ScriptedTask judges i f held)) left.rows left.refusal) m rows held bytes
      (judged (rows_name rows) f held)
  some_task (pair m rows seed) held bytes =
      some_image (Apart m seed (Compared rows held)) m held bytes (λ i is. some_apart m seed (Compared rows held) i
      (rows_is (λ left. compares (pair_job (rows_name rows) i left)) rows held (graph_columns i.graph)))
  some_task (pairs m rows seed f) held bytes =
      some_image (Apart m seed (PairsRows rows f held)) m held bytes
      (λ i is. some_apart m seed (PairsRows rows f held) i (held_by_pair rows f held i))
  some_task (wire f) held bytes =
      some_file WireOf NotWire most_source_bytes (λ s x. x ≡ wires s) f (held f) (λ text here. wire_answered text) (λ text s is. (wires s, refl))
  some_task (demo number) held bytes =
      some_typed
      (λ t. OnRows made_name (λ left x. x ≡ runs (summary_job number t left)) (source_outcome (origin.File (made_rows number)) (input_columns t.slots)))
      made_name (made_held number)
      (λ t. some_rows made_name (λ left x. x ≡ runs (summary_job number t left)) (source_outcome (origin.File (made_rows number)) (input_columns t.slots))
      (λ left. (runs (summary_job number t left), refl)))
