-- WholeRun: the run law of all cycles.
use Rattle.std.proofs.Common.{◌≡◌, ℕ, zero, suc, ◌+◌, ◌*◌, ◌<◌, ◌≤◌, ◌&&◌, ◌==◌, Bool, true, false, cond, List, [], ◌∷◌, ◌++◌, length, map, slice_get, Option}
use Rattle.std.proofs.Common.{Some, None, Ok, Err, ℤ, pos, ◌+ℤ◌, ◌-ℤ◌, refl, sym, ap, subst, ◌∙◌, arith, eqb-true}
use Rattle.std.proofs.lemmas.Int.{ints}
use Rattle.std.proofs.lemmas.List.{append-nil}
use Rattle.std.proofs.lemmas.List.Elements.{All-head, All-tail}
use Rattle.vcp_base.specs.declared.code.Profile.{Profile}
use Rattle.vcp_base.specs.declared.kind.StopKind.{StopKind}
use Rattle.vcp_base.specs.Code.{modulus}
use Rattle.vcp_base.specs.Kinds.{Outcome}
use Rattle.vcp_base.specs.Limits.{most_cycles, most_step}
use Rattle.vcp_base.specs.Types.{fits}
use Rattle.vcp_base.specs.Values.{at}
use Rattle.coded_unit.specs.declared.call.Answer.{Answer}
use Rattle.coded_unit.specs.WordLaws.{WordLaws}
use Rattle.coded_unit.specs.Words.{coded, modulo}
use Rattle.op_graph.specs.declared.op.Loaded.{Loaded}
use Rattle.op_graph.specs.declared.op.Op.{Op}
use Rattle.op_graph.specs.GraphRun.{Cycle, after, initial, stored}
use Rattle.op_graph.specs.Laws.{EntryLaws, OperandLaws}
use Rattle.op_graph.specs.Lists.{Lists}
use Rattle.op_graph.specs.Rules.{IsGraph}
use Rattle.signature_table.specs.Signatures.{Numbers, IsTable, signature, stamp, expected}
use Rattle.coded_machine.specs.Calls.{AllWords, word_at}
use Rattle.coded_machine.specs.CycleEnds.{initial_words, stored_words}
use Rattle.coded_machine.specs.Honest.{HonestCells, stop_answer}
use Rattle.fault_script.specs.declared.act.Act.{Act}
use Rattle.fault_script.specs.declared.act.Fault.{Fault}
use Rattle.fault_script.specs.Changes.{Acts, acts_of}
use Rattle.fault_script.specs.Differences.{Frame, no_frame, frame}
use Rattle.fault_script.specs.Fits.{ActFits, Fits}
use Rattle.fault_injector.specs.Stepping.{Near, MayStand, word_of, stamp_past}
use Rattle.fault_injector.specs.FaultRun.{Begun, begun, course, given_by, cycle_under_from, cycle_under}
use Rattle.fault_injector.specs.RunLaw.{Words, integer, CellsStand, AnswersStand, Stands, words_under, answers_under, AllStand, RightRun, RunKept, no_words}
use Rattle.fault_injector.specs.RunLaw.{RunsKept, GroupStands}
use Rattle.fault_injector.proofs.Shifts.{fits_between, near_of, zero_near}
use Rattle.fault_injector.proofs.CycleRun as one
use Rattle.fault_injector.proofs.CycleRun.{near_more, near_if, one_longer, word_before}
use Rattle.fault_injector.proofs.Frames.{frames_solve}

-- what the laws below promise
pub record Laws : Type 0 where
  pub cycle : one.Laws
  pub words : (p : Profile) → WordLaws p
  pub residues : (p : Profile) (seed step i n : ℕ) → step ≤ most_step → n < most_cycles → expected p seed step i n < modulus p
  pub entries : EntryLaws
  pub operands : OperandLaws
  pub initial : HonestCells

-- ---- lists

at_map : (f : ℕ → ℤ) (xs : List ℕ) (i m : ℕ) → slice_get xs i ≡ Some m → at (map f xs) i ≡ f m
at_map f [] i m e = absurd cc
at_map f (x ∷ xs) zero m e = let same : x ≡ m = cc in ap f same
at_map f (x ∷ xs) (suc i) m e = at_map f xs i m e

near_all : (xs : List ℤ) → ((i : ℕ) → i < length xs → Near (at xs i)) → (i : ℕ) → Near (at xs i)
near_all [] h i = zero_near
near_all (x ∷ xs) h zero = h zero (omega arith)
near_all (x ∷ xs) h (suc i) = near_all xs (λ j below. h (suc j) (omega (arith, below))) i

near_map : (values : List ℤ) (xs : List ℕ) → ((i : ℕ) → Near (at values i)) → (i : ℕ) → Near (at (map (λ n. at values n) xs) i)
near_map values [] h i = zero_near
near_map values (x ∷ xs) h zero = h x
near_map values (x ∷ xs) h (suc i) = near_map values xs h i

-- ---- the values of a cycle

values_case : (o : Outcome) (next : ℤ → Cycle) (values : List ℤ) → ((i : ℕ) → Near (at values i))
    → ((v : ℤ) → o ≡ Ok v → (i : ℕ) → Near (at (next v).values i)) → (i : ℕ)
    → Near (at (after values next o).values i)
values_case (Ok v) next values near more = more v refl
values_case (Err why) next values near more = near

values_near : (laws : Laws) (b : Begun) (ops : List Op) (values : List ℤ) → ((i : ℕ) → Near (at b.past.given i)) → ((i : ℕ) → Near (at values i))
    → AllStand b.cycle b.acts (length values) ops
    → (i : ℕ) → Near (at (cycle_under_from b values ops).values i)
values_near laws b [] values past near may = near
values_near laws b (op ∷ ops) values past near may =
    values_case (given_by b values op) (λ v. cycle_under_from b (values ++ v ∷ []) ops) values near
    (λ v is.
    values_near laws b ops (values ++ v ∷ []) past
    (near_more values v near
    (near_if (given_by b values op) v is
    (laws.cycle.near b.table b.graph b.cycle (length values) b.row (course b values) op (b.acts (length values)) may.0 (past (length values)))))
    (subst (λ k. AllStand b.cycle b.acts k ops) (one_longer values v) may.1))

count_case : (o : Outcome) (next : ℤ → Cycle) (values : List ℤ) (n : ℕ) → (after values next o).stop ≡ None
    → ((v : ℤ) → (next v).stop ≡ None → length (next v).values ≡ n)
    → length (after values next o).values ≡ n
count_case (Ok v) next values n e more = more v e
count_case (Err why) next values n e more = absurd cc

values_count : (b : Begun) (ops : List Op) (values : List ℤ) → (cycle_under_from b values ops).stop ≡ None
    → length (cycle_under_from b values ops).values ≡ length values + length ops
values_count b [] values e = omega arith
values_count b (op ∷ ops) values e =
    count_case (given_by b values op) (λ v. cycle_under_from b (values ++ v ∷ []) ops) values (length values + suc (length ops)) e
    (λ v later. let rest = values_count b ops (values ++ v ∷ []) later in omega (arith, rest, one_longer values v))

-- ---- stamps

stamp_before_is : (step n : ℕ) → pos (step * (suc n + 1)) -ℤ pos step ≡ pos (step * (n + 1))
stamp_before_is step n = omega (arith, ints)

-- ---- before the first cycle

first_residue : (s step : ℕ) (d : ℤ) → d ≡ pos 0 → pos s +ℤ (pos (step * (0 + 1)) -ℤ pos step) +ℤ d ≡ pos (s + step * 0)
first_residue s step d e = omega (arith, ints, e)

no_difference : (stores : List ℕ) (i : ℕ) → at (map (λ n. at [] n) stores) i ≡ pos 0
no_difference [] i = refl
no_difference (n ∷ stores) zero = refl
no_difference (n ∷ stores) (suc i) = no_difference stores i

first_cells : (laws : Laws) (t : Numbers) (g : Lists) (acts : Acts) → IsGraph g → IsTable t → t.profile ≡ g.profile
    → CellsStand t g (stamp_past t 0) (initial_words g t.seed) (initial g) (frame t g acts 0).held
first_cells laws t g acts graph table profile i m is =
    let s = signature t.profile t.seed m in
    let below : s + t.step * 0 < modulus t.profile = let h = laws.residues t.profile t.seed t.step m 0 table.step_to (omega arith) in omega (arith, h) in
    (laws.initial g t.seed t.step graph).words i m is
    ∙ ap (λ p. coded p (at (initial g) i) (signature p t.seed m + t.step * 0)) (sym profile)
    ∙ ap (coded t.profile (at (initial g) i))
    (sym ((laws.words t.profile).small (s + t.step * 0) below)
    ∙ ap (modulo t.profile) (sym (first_residue s t.step (at (frame t g acts 0).held i) (no_difference g.stores i))))

loaded : (loads : List Loaded) (k : ℕ) → k < length (map (λ l. l.init) loads) → (l : Loaded) × (slice_get loads k ≡ Some l)
loaded [] k below = absurd (omega (arith, below))
loaded (l ∷ loads) zero below = (l, refl)
loaded (l ∷ loads) (suc k) below = loaded loads k (omega (arith, below))

first_near : (laws : Laws) (g : Lists) → IsGraph g → (i : ℕ) → Near (at (initial g) i)
first_near laws g graph =
    near_all (initial g)
    (λ i below.
    let l = loaded g.loads i below in
    near_of (at (initial g) i) (fits_between l.0.ty (at (initial g) i) (laws.operands.cells_at_first g graph i l.0 l.1)))

first_stands : (laws : Laws) (t : Numbers) (g : Lists) (acts : Acts) (row : List ℤ) → IsGraph g → IsTable t → t.profile ≡ g.profile
    → Stands (begun t g acts 0 no_frame (initial g) row) no_words (initial_words g t.seed)
first_stands laws t g acts row graph table profile = record {
  cells = first_cells laws t g acts graph table profile;
  past_cells = λ later. absurd (omega (arith, later));
  past_answers = λ later. absurd (omega (arith, later));
  near_cells = first_near laws g graph;
  near_past = λ i. zero_near;
}

-- ---- from a cycle to the next

frame_held : (t : Numbers) (g : Lists) (acts : Acts) (n : ℕ) → (frame t g acts (suc n)).held ≡ map (λ m. at (frame t g acts n).given m) g.stores
frame_held t g acts n = refl

-- what the answers of a cycle without a stop stand for
pub answers_stand : (b : Begun) (answers : List Answer) → answers ≡ answers_under b (cycle_under b) → (cycle_under b).stop ≡ None
    → AnswersStand b.table (pos (stamp b.table.step b.cycle)) (length b.graph.operations) answers (cycle_under b).values b.differences.given
answers_stand b answers is none k below =
    let words : answers ≡ words_under b 0 (cycle_under b).values =
    is ∙ ap (λ (s : Option StopKind). words_under b 0 (cycle_under b).values ++ stop_answer s) none ∙ append-nil (words_under b 0 (cycle_under b).values) in
    let many = values_count b b.graph.operations [] none in
    word_before b (cycle_under b).values answers k words (omega (arith, below, many))

words_all : (b : Begun) (k : ℕ) (values : List ℤ) → AllWords (words_under b k values)
words_all b k [] = tt
words_all b k (v ∷ values) = (refl, words_all b (suc k) values)

-- a cycle without a stop is one of words
all_words : (b : Begun) (answers : List Answer) → answers ≡ answers_under b (cycle_under b) → (cycle_under b).stop ≡ None → AllWords answers
all_words b answers is none =
    let words : answers ≡ words_under b 0 (cycle_under b).values =
    is ∙ ap (λ (s : Option StopKind). words_under b 0 (cycle_under b).values ++ stop_answer s) none ∙ append-nil (words_under b 0 (cycle_under b).values) in
    subst AllWords (sym words) (words_all b 0 (cycle_under b).values)

next_stands : (laws : Laws) (t : Numbers) (g : Lists) (acts : Acts) (n : ℕ) (past : Frame) (values held row next : List ℤ) (words : Words)
    (answers : List Answer) → IsGraph g → AllStand n (acts n) 0 g.operations
    → Stands (begun t g acts n past values row) words held → answers ≡ answers_under (begun t g acts n past values row)
    (cycle_under (begun t g acts n past values row))
    → (cycle_under (begun t g acts n past values row)).stop ≡ None
    → Stands (begun t g acts (suc n) (record { held = values; given = (cycle_under (begun t g acts n past values row)).values })
    (stored g (cycle_under (begun t g acts n past values row)).values) next)
    (record { held = held; answers = answers }) (stored_words g answers)
next_stands laws t g acts n past values held row next words answers graph may stands is none =
    let b = begun t g acts n past values row in
    let c = cycle_under b in
    let given = answers_stand b answers is none in
    let back : stamp_past t (suc n) ≡ pos (stamp t.step n) = stamp_before_is t.step n in
    let near = values_near laws b g.operations [] stands.near_past (λ i. zero_near) may in
    record {
      cells = λ i m there.
          at_map (λ k. word_at answers k) g.stores i m there
          ∙ given m (laws.entries.store g i m graph.part there).store
          ∙ ap (λ (v : ℤ). word_of t v (integer t m (pos (stamp t.step n)) (at (frame t g acts n).given m)))
          (sym (at_map (λ k. at c.values k) g.stores i m there))
          ∙ ap (λ (x : ℤ). word_of t (at (stored g c.values) i) (integer t m (pos (stamp t.step n)) x))
          (sym (at_map (λ k. at (frame t g acts n).given k) g.stores i m there))
          ∙ ap (λ (d : ℤ). word_of t (at (stored g c.values) i) (integer t m d (at (frame t g acts (suc n)).held i))) (sym back);
      past_cells = λ later. subst (λ (d : ℤ). CellsStand t g (d -ℤ pos t.step) held values (frame t g acts n).held) (sym back) stands.cells;
      past_answers = λ later. subst (λ (d : ℤ). AnswersStand t d (length g.operations) answers c.values (frame t g acts n).given) (sym back) given;
      near_cells = near_map c.values g.stores near;
      near_past = near;
    }

run_kept : (laws : Laws) (t : Numbers) (g : Lists) (acts : Acts) (n : ℕ) (past : Frame) (values held : List ℤ) (words : Words) (rows : List (List ℤ))
    (cycles : List (List Answer)) → IsGraph g → t.profile ≡ g.profile
    → ((n : ℕ) → AllStand n (acts n) 0 g.operations) → ((row : List ℤ) → Stands (begun t g acts n past values row) words held)
    → RightRun t g acts n words held rows cycles
    → RunKept t g acts n past values held rows cycles
run_kept laws t g acts n past values held words rows [] graph profile may stands right = tt
run_kept laws t g acts n past values held words [] (answers ∷ cycles) graph profile may stands right = tt
run_kept laws t g acts n past values held words (row ∷ rows) (answers ∷ cycles) graph profile may stands right =
    let b = begun t g acts n past values row in
    let is : answers ≡ answers_under b (cycle_under b) =
    one.cycle_runs laws.cycle b words held answers graph profile (may n) (frames_solve laws.cycle t g acts n past values row graph (may n))
    (stands row) right.0 right.1 in (
      record { cells = (stands row).cells; answers_are = is },
      λ none.
          run_kept laws t g acts (suc n) (record { held = values; given = (cycle_under b).values }) (stored g (cycle_under b).values)
          (stored_words g answers) (record { held = held; answers = answers }) rows cycles graph profile may
          (λ next. next_stands laws t g acts n past values held row next words answers graph (may n) (stands row) is none)
          (right.2 (all_words b answers is none)),
    )

pub runs_kept : Laws → RunsKept
runs_kept laws t g acts rows cycles graph table profile may right =
    run_kept laws t g acts 0 no_frame (initial g) (initial_words g t.seed) no_words rows cycles graph profile may
    (λ row. first_stands laws t g acts row graph table profile) right

-- ---- the faults of a group

stands_at : (f : Fault) (n k : ℕ) (op : Op) (later : Option Act) → (f.cycle ≡ n → f.op ≡ k → ActFits op.kind k n f.act) → MayStand op.kind k n later
    → (x y : Bool) → (f.cycle == n) ≡ x → (f.op == k) ≡ y
    → MayStand op.kind k n (cond (x && y) (Some f.act) later)
stands_at f n k op later fits may true true e h = fits (eqb-true f.cycle n e) (eqb-true f.op k h)
stands_at f n k op later fits may true false e h = may
stands_at f n k op later fits may false y e h = may

-- one fault more
all_stand : (f : Fault) (faults : List Fault) (n k : ℕ) (ops : List Op) → ((i : ℕ) (op : Op) → slice_get ops i ≡ Some op → f.cycle ≡ n → f.op ≡ k + i
    → ActFits op.kind (k + i) n f.act) → AllStand n (acts_of faults n) k ops → AllStand n (acts_of (f ∷ faults) n) k ops
all_stand f faults n k [] fits may = tt
all_stand f faults n k (op ∷ ops) fits may =
    let here : f.cycle ≡ n → f.op ≡ k → ActFits op.kind k n f.act = λ e h. subst (λ m. ActFits op.kind m n f.act) (omega arith)
    (fits 0 op refl e (omega (arith, h))) in (
      stands_at f n k op (acts_of faults n k) here may.0 (f.cycle == n) (f.op == k) refl refl,
      all_stand f faults n (suc k) ops (λ i o there e h. let same : k + suc i ≡ suc k + i = omega arith in subst (λ m. ActFits o.kind m n f.act) same
          (fits (suc i) o there e (omega (arith, h)))) may.1,
    )

none_stand : (n k : ℕ) (ops : List Op) → AllStand n (acts_of [] n) k ops
none_stand n k [] = tt
none_stand n k (op ∷ ops) = (tt, none_stand n (suc k) ops)

same_op : (a : Option Op) (x y : Op) → a ≡ Some x → a ≡ Some y → x ≡ y
same_op a x y e f = cc

pub group_stands : GroupStands
group_stands g [] n fit = none_stand n 0 g.operations
group_stands g (f ∷ faults) n fit =
    let fits : Fits g f = All-head (Fits g) f faults fit in
    all_stand f faults n 0 g.operations
    (λ i op there e h.
    let place : f.op ≡ i = omega (arith, h) in
    let here : slice_get g.operations f.op ≡ Some op = ap (slice_get g.operations) place ∙ there in
    let is : fits.op ≡ op = same_op (slice_get g.operations f.op) fits.op op fits.there here in
    subst (λ (o : Op). ActFits o.kind (0 + i) n f.act) is (subst (λ m. ActFits fits.op.kind m n f.act) h
    (subst (λ m. ActFits fits.op.kind f.op m f.act) e fits.act)))
    (group_stands g faults n (All-tail (Fits g) f faults fit))
