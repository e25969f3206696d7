-- UntouchedRuns: in whole runs, operations that no act comes to do as without the acts.
use Rattle.std.proofs.Common.{◌≡◌, ℕ, zero, suc, ◌+◌, ◌<◌, ◌≤◌, true, List, [], ◌∷◌, ◌++◌, length, take, slice_get, ℤ, pos, unsigned_abs, Option, Some, None}
use Rattle.std.proofs.Common.{Ok, Err, ap, sym, subst, ◌∙◌, refl, arith}
use Rattle.std.specs.Prelude.{option_map}
use Rattle.std.proofs.lemmas.List.{length_push}
use Rattle.std.proofs.lemmas.Option.{get_or_from_slice_get}
use Rattle.vcp_base.specs.declared.kind.StopKind.{StopKind}
use Rattle.vcp_base.specs.Kinds.{Outcome}
use Rattle.vcp_base.specs.Values.{at}
use Rattle.op_graph.specs.declared.op.Cell.{Cell}
use Rattle.op_graph.specs.declared.op.Op.{Op}
use Rattle.op_graph.specs.GraphRun.{Cycle, Stop, after, cells_after, cycle, cycle_from, initial, outcome_of, stored}
use Rattle.op_graph.specs.GraphRun.{unless_stopped as after_stop}
use Rattle.op_graph.specs.Laws.{CellLaws, EntryLaws}
use Rattle.op_graph.specs.Lists.{Lists, cells}
use Rattle.op_graph.specs.Reads.{Reads, named}
use Rattle.op_graph.specs.Rules.{IsGraph, is_load}
use Rattle.signature_table.specs.Signatures.{Numbers}
use Rattle.fault_script.specs.Changes.{Acts}
use Rattle.fault_script.specs.Differences.{Frame, no_frame}
use Rattle.fault_injector.specs.FaultRun.{begun, cycle_under, cycles_from, followed, given_by, operation_stop, outside, run_under, stop_or, stop_under}
use Rattle.fault_injector.specs.FaultRun.{unless_stopped}
use Rattle.fault_injector.specs.Verdicts.{plain_cycles}
use Rattle.weight_audit.specs.Paths.{Crosses}
use Rattle.fault_cover.specs.Touched.{IsTouched, SameUntouched}
use Rattle.fault_cover.proofs.Cells.{store_at, store_inside}
use Rattle.fault_cover.proofs.Choosing.{mapped_there}
use Rattle.fault_cover.proofs.Loads.{cell_of_load}
use Rattle.fault_cover.proofs.Untouched.{GiveSame, no_act, same_outcome, touched_cross, touched_read, walk, walk_plain, walk_under, walked, whole}

pub some_is : {a b : Cycle} → Some a ≡ Some b → a ≡ b
some_is e = cc

pub goes_on : (o : Option Stop) (later : List Cycle) (i : ℕ) (c : Cycle) → slice_get (unless_stopped o later) i ≡ Some c → (o ≡ None) ×
    (slice_get later i ≡ Some c)
goes_on None later i c e = (refl, e)
goes_on (Some s) later i c e = absurd cc

pub first_none : (o later : Option Stop) → stop_or o later ≡ None → o ≡ None
first_none None later e = refl
first_none (Some s) later e = absurd cc

kind_none : {X : Type 0} (f : StopKind → X) (o : Option StopKind) → option_map f o ≡ None → o ≡ None
kind_none f None e = refl
kind_none f (Some why) e = absurd cc

pub no_stop : (c : Cycle) → operation_stop c ≡ None → c.stop ≡ None
no_stop c e = kind_none (λ why. record { op = length c.values; kind = why }) c.stop e

-- what stands of the cycles of a run in which only what is touched may do otherwise
pub record IsRun (g : Lists) (acts : Acts) (rows : List (List ℤ)) (run : List Cycle) : Type 0 where
  -- what isn't touched is the same
  pub same : (m : ℕ) (c p : Cycle) → slice_get run m ≡ Some c → slice_get (plain_cycles g (initial g) rows) m ≡ Some p → SameUntouched g acts m c p
  -- a cycle in which no operation stops has a value of each
  pub whole : (m : ℕ) (c : Cycle) → slice_get run m ≡ Some c → c.stop ≡ None → length c.values ≡ length g.operations
  pub plain_whole : (m : ℕ) (p : Cycle) → slice_get (plain_cycles g (initial g) rows) m ≡ Some p → p.stop ≡ None → length p.values ≡ length g.operations
  -- it has a cycle where the run without acts has one and it stops in none before
  pub long : (m : ℕ) (p : Cycle) → slice_get (plain_cycles g (initial g) rows) m ≡ Some p
      → ((j : ℕ) (c : Cycle) → j < m → slice_get run j ≡ Some c → stop_under g c ≡ None) → (c : Cycle) × (slice_get run m ≡ Some c)

-- ---- runs by what operations give

-- What operations give in a cycle: by its number, what the cycle before had, what the cells hold, the row of inputs and the values before.
abbrev pub Gives : Type 0
Gives = ℕ → Frame → List ℤ → List ℤ → List ℤ → Op → Outcome

-- the cycles of a run in which operations give this, one for each row up to the first that stops
abbrev pub walks_from : Lists → Gives → ℕ → Frame → List ℤ → List (List ℤ) → List Cycle
walks_from g gives n past held [] = []
walks_from g gives n past held (row ∷ rows) =
    followed (stop_under g) (λ c. walks_from g gives (suc n) (record { held = held; given = c.values }) (stored g c.values) rows)
    (walk (gives n past held row) [] g.operations)

-- what the cells hold is the same where their LOADs aren't touched
abbrev pub HeldAlike : Lists → Acts → ℕ → List ℤ → List ℤ → Type 0
HeldAlike g acts n held plain = (q : ℕ) (op : Op) → slice_get g.operations q ≡ Some op → is_load op.kind ≡ true → (IsTouched g acts n q → ⊥)
    → at held (unsigned_abs op.imm) ≡ at plain (unsigned_abs op.imm)

-- what operations give that aren't touched is the same
abbrev pub GiveAlike : Lists → Acts → Gives → Type 0
GiveAlike g acts gives = (n : ℕ) (past : Frame) (held plain row : List ℤ) → HeldAlike g acts n held plain
    → GiveSame g acts n (gives n past held row) (outcome_of plain row)

whole_walk : (g : Lists) (gives : List ℤ → Op → Outcome) → (walk gives [] g.operations).stop ≡ None
    → length (walk gives [] g.operations).values ≡ length g.operations
whole_walk g gives none = whole gives [] g.operations none ∙ (let count : 0 + length g.operations ≡ length g.operations = omega arith in count)

module _ (g : Lists) (acts : Acts) (gives : Gives) (alike : GiveAlike g acts gives) (graph : IsGraph g) (entries : EntryLaws) (cell_laws : CellLaws) where
  one_cycle : (n : ℕ) (past : Frame) (held plain row : List ℤ) → HeldAlike g acts n held plain
      → SameUntouched g acts n (walk (gives n past held row) [] g.operations) (cycle g plain row)
  one_cycle n past held plain row agree =
      subst (SameUntouched g acts n (walk (gives n past held row) [] g.operations)) (sym (walk_plain plain row [] g.operations))
      (walked g acts n (gives n past held row) (outcome_of plain row) (alike n past held plain row agree) g.operations 0 [] [] refl refl
      (λ j op e. subst (λ m. slice_get g.operations m ≡ Some op) (let same : j ≡ 0 + j = omega arith in same) e)
      (λ q lt untouched. absurd (omega (arith, lt))))

  whole_plain : (held row : List ℤ) → (cycle g held row).stop ≡ None → length (cycle g held row).values ≡ length g.operations
  whole_plain held row none =
      let same = walk_plain held row [] g.operations in
      ap (λ (c : Cycle). length c.values) same ∙ whole_walk g (outcome_of held row) (sym (ap (λ (c : Cycle). c.stop) same) ∙ none)

  held_value : (values : List ℤ) (i : ℕ) (c : Cell) → slice_get (cells g) i ≡ Some c → at (stored g values) i ≡ at values c.store
  held_value values i c there =
      get_or_from_slice_get (stored g values) i (at values c.store) (pos 0)
      (mapped_there (λ n. at values n) g.stores i c.store (store_at g.loads g.stores i c there))

  held_more : (n : ℕ) (c p : Cycle) → SameUntouched g acts n c p → length c.values ≡ length g.operations → length p.values ≡ length g.operations
      → (q : ℕ) (op : Op) → slice_get g.operations q ≡ Some op → is_load op.kind ≡ true → (IsTouched g acts (suc n) q → ⊥)
      → at (stored g c.values) (unsigned_abs op.imm) ≡ at (stored g p.values) (unsigned_abs op.imm)
  held_more n c p same all all_plain q op there is untouched =
      let cell = cell_of_load g entries cell_laws graph q op there is in
      let crosses : Crosses (cells g) cell.0.store q = record { number = unsigned_abs op.imm; cell = cell.0; there = cell.1; store = refl; load = cell.2 } in
      let inside = store_inside g (unsigned_abs op.imm) cell.0 entries graph.part cell.1 in
      held_value c.values (unsigned_abs op.imm) cell.0 cell.1
      ∙ same.values cell.0.store (λ touched. untouched (touched_cross g acts n cell.0.store q crosses touched)) (omega (arith, inside, all))
      (omega (arith, inside, all_plain))
      ∙ sym (held_value p.values (unsigned_abs op.imm) cell.0 cell.1)

  runs : (rows : List (List ℤ)) (n : ℕ) (past : Frame) (held plain : List ℤ) → HeldAlike g acts n held plain
      → (i : ℕ) (c p : Cycle) → slice_get (walks_from g gives n past held rows) i ≡ Some c → slice_get (plain_cycles g plain rows) i ≡ Some p
      → SameUntouched g acts (n + i) c p
  runs [] n past held plain agree i c p here there = absurd cc
  runs (row ∷ rows) n past held plain agree zero c p here there =
      let one = one_cycle n past held plain row agree in
      let first : walk (gives n past held row) [] g.operations ≡ c = some_is here in
      let other : cycle g plain row ≡ p = some_is there in
      let none : n ≡ n + 0 = omega arith in
      subst (λ m. SameUntouched g acts m c p) none (subst (SameUntouched g acts n c) other
      (subst (λ x. SameUntouched g acts n x (cycle g plain row)) first one))
  runs (row ∷ rows) n past held plain agree (suc i) c p here there =
      let first = walk (gives n past held row) [] g.operations in
      let other = cycle g plain row in
      let on = goes_on (stop_under g first) (walks_from g gives (suc n) (record { held = held; given = first.values }) (stored g first.values) rows) i c here in
      let on_plain = goes_on (operation_stop other) (plain_cycles g (stored g other.values) rows) i p there in
      let none = no_stop first (first_none (operation_stop first) (outside first.values g.outputs) on.0) in
      let none_plain = no_stop other on_plain.0 in
      let more : suc n + i ≡ n + suc i = omega arith in
      subst (λ m. SameUntouched g acts m c p) more
      (runs rows (suc n) (record { held = held; given = first.values }) (stored g first.values) (stored g other.values)
      (held_more n first other (one_cycle n past held plain row agree) (whole_walk g (gives n past held row) none)
      (whole_plain plain row none_plain)) i c p on.1 on_plain.1)

  walks_same : (rows : List (List ℤ)) (m : ℕ) (c p : Cycle) → slice_get (walks_from g gives 0 no_frame (initial g) rows) m ≡ Some c
      → slice_get (plain_cycles g (initial g) rows) m ≡ Some p → SameUntouched g acts m c p
  walks_same rows m c p here there =
      let none : 0 + m ≡ m = omega arith in
      subst (λ n. SameUntouched g acts n c p) none (runs rows 0 no_frame (initial g) (initial g) (λ q op there is untouched. refl) m c p here there)

  -- the cycles of both runs have a value of each operation where no operation stops
  walks_whole : (rows : List (List ℤ)) (n : ℕ) (past : Frame) (held : List ℤ) (i : ℕ) (c : Cycle) → slice_get (walks_from g gives n past held rows) i ≡ Some c
      → c.stop ≡ None → length c.values ≡ length g.operations
  walks_whole [] n past held i c here none = absurd cc
  walks_whole (row ∷ rows) n past held zero c here none =
      let same = some_is here in
      ap (λ (x : Cycle). length x.values) (sym same) ∙ whole_walk g (gives n past held row) (ap (λ (x : Cycle). x.stop) same ∙ none)
  walks_whole (row ∷ rows) n past held (suc i) c here none =
      let first = walk (gives n past held row) [] g.operations in
      let on = goes_on (stop_under g first) (walks_from g gives (suc n) (record { held = held; given = first.values }) (stored g first.values) rows) i c here in
      walks_whole rows (suc n) (record { held = held; given = first.values }) (stored g first.values) i c on.1 none

  plain_whole_from : (rows : List (List ℤ)) (held : List ℤ) (i : ℕ) (p : Cycle) → slice_get (plain_cycles g held rows) i ≡ Some p → p.stop ≡ None
      → length p.values ≡ length g.operations
  plain_whole_from [] held i p there none = absurd cc
  plain_whole_from (row ∷ rows) held zero p there none =
      let same = some_is there in
      ap (λ (x : Cycle). length x.values) (sym same) ∙ whole_plain held row (ap (λ (x : Cycle). x.stop) same ∙ none)
  plain_whole_from (row ∷ rows) held (suc i) p there none =
      let first = cycle g held row in
      let on = goes_on (operation_stop first) (plain_cycles g (stored g first.values) rows) i p there in
      plain_whole_from rows (stored g first.values) i p on.1 none

  -- a run has a cycle where the run without acts has one and no cycle before it stops
  walks_long : (rows : List (List ℤ)) (n : ℕ) (past : Frame) (held plain : List ℤ) (i : ℕ) (p : Cycle) → slice_get (plain_cycles g plain rows) i ≡ Some p
      → ((j : ℕ) (c : Cycle) → j < i → slice_get (walks_from g gives n past held rows) j ≡ Some c → stop_under g c ≡ None)
      → (c : Cycle) × (slice_get (walks_from g gives n past held rows) i ≡ Some c)
  walks_long [] n past held plain i p there going = absurd cc
  walks_long (row ∷ rows) n past held plain zero p there going = (walk (gives n past held row) [] g.operations, refl)
  walks_long (row ∷ rows) n past held plain (suc i) p there going =
      let first = walk (gives n past held row) [] g.operations in
      let other = cycle g plain row in
      let later = walks_from g gives (suc n) (record { held = held; given = first.values }) (stored g first.values) rows in
      let none = going 0 first (omega arith) refl in
      let on = goes_on (operation_stop other) (plain_cycles g (stored g other.values) rows) i p there in
      let tail : (j : ℕ) → slice_get (unless_stopped (stop_under g first) later) j ≡ slice_get later j = λ j. ap
      (λ o. slice_get (unless_stopped o later) j) none in
      let more = walks_long rows (suc n) (record { held = held; given = first.values }) (stored g first.values) (stored g other.values) i p on.1
      (λ j c lt here. going (suc j) c (omega (arith, lt)) (tail j ∙ here)) in
      (more.0, tail i ∙ more.1)

  pub walks_are : (rows : List (List ℤ)) → IsRun g acts rows (walks_from g gives 0 no_frame (initial g) rows)
  walks_are rows = record {
    same = λ m c p here there. walks_same rows m c p here there;
    whole = λ m c here none. walks_whole rows 0 no_frame (initial g) m c here none;
    plain_whole = λ m p there none. plain_whole_from rows (initial g) m p there none;
    long = λ m p there going. walks_long rows 0 no_frame (initial g) (initial g) m p there going;
  }

-- ---- runs under acts

acts_give : Numbers → Lists → Acts → Gives
acts_give t g acts n past held row = given_by (begun t g acts n past held row)

acts_alike : (t : Numbers) (g : Lists) (acts : Acts) → ((q k j : ℕ) → Reads g.operations q k j → k < q) → GiveAlike g acts (acts_give t g acts)
unfolding acts_give
acts_alike t g acts earlier n past held plain row agree = record {
  same = λ k op given other there many many_plain same untouched.
      same_outcome (begun t g acts n past held row) plain given other op (ap (acts n) many ∙ no_act g acts n k untouched (acts n k) refl)
      (λ is. agree k op there is untouched)
      (λ j reads.
      let r : Reads g.operations k (named op j) j = record { op = op; there = there; operand = reads; names = refl } in
      same (named op j) (earlier k (named op j) j r) (λ touched. untouched (touched_read g acts n (named op j) k j r touched)));
}

-- a cycle, and those after it
pub followed_same : (g : Lists) (c d : Cycle) (next other : Cycle → List Cycle) → c ≡ d → next d ≡ other d
    → followed (stop_under g) next c ≡ followed (stop_under g) other d
followed_same g c d next other same later = ap (followed (stop_under g) next) same ∙ ap (λ l. d ∷ unless_stopped (stop_under g d) l) later

acts_walk : (t : Numbers) (g : Lists) (acts : Acts) (n : ℕ) (past : Frame) (held : List ℤ) (rows : List (List ℤ))
    → cycles_from t g acts n past held rows ≡ walks_from g (acts_give t g acts) n past held rows
unfolding acts_give
acts_walk t g acts n past held [] = refl
acts_walk t g acts n past held (row ∷ rows) =
    let c = walk (given_by (begun t g acts n past held row)) [] g.operations in
    followed_same g (cycle_under (begun t g acts n past held row)) c
    (λ d. cycles_from t g acts (suc n) (record { held = held; given = d.values }) (stored g d.values) rows)
    (λ d. walks_from g (acts_give t g acts) (suc n) (record { held = held; given = d.values }) (stored g d.values) rows)
    (walk_under (begun t g acts n past held row) [] g.operations)
    (acts_walk t g acts (suc n) (record { held = held; given = c.values }) (stored g c.values) rows)

pub acts_run : (t : Numbers) (g : Lists) (acts : Acts) → IsGraph g → ((q k j : ℕ) → Reads g.operations q k j → k < q) → EntryLaws → CellLaws
    → (rows : List (List ℤ)) → IsRun g acts rows (run_under t g acts rows)
acts_run t g acts graph earlier entries cell_laws rows =
    subst (IsRun g acts rows) (sym (acts_walk t g acts 0 no_frame (initial g) rows))
    (walks_are g acts (acts_give t g acts) (acts_alike t g acts earlier) graph entries cell_laws rows)

-- ---- rows

-- what cycle i of the run without acts is of
pub plain_cycle_is : (g : Lists) (rows : List (List ℤ)) (held : List ℤ) (i : ℕ) (p : Cycle) → slice_get (plain_cycles g held rows) i ≡ Some p
    → (row : List ℤ) × (slice_get rows i ≡ Some row) × (p ≡ cycle g (cells_after g held (take i rows)) row)
plain_cycle_is g [] held i p there = absurd cc
plain_cycle_is g (row ∷ rows) held zero p there = (row, refl, sym (some_is there))
plain_cycle_is g (row ∷ rows) held (suc i) p there =
    let first = cycle g held row in
    let on = goes_on (operation_stop first) (plain_cycles g (stored g first.values) rows) i p there in
    let later = plain_cycle_is g rows (stored g first.values) i p on.1 in
    let none = no_stop first on.0 in (
      later.0,
      later.1,
      later.2 ∙ ap (λ xs. cycle g xs later.0)
          (sym (ap (after_stop held (stored g first.values) (λ next. cells_after g next (take i rows))) none)),
    )

-- a cycle has at most as many values as there are operations
within_after : (n : ℕ) (values : List ℤ) (next : ℤ → Cycle) (x : Outcome) → length values ≤ n → ((v : ℤ) → length (next v).values ≤ n)
    → length (after values next x).values ≤ n
within_after n values next (Ok v) few more = more v
within_after n values next (Err why) few more = few

pub cycle_within : (held row values : List ℤ) (ops : List Op) → length (cycle_from held row values ops).values ≤ length values + length ops
cycle_within held row values [] = omega arith
cycle_within held row values (op ∷ ops) =
    within_after (length values + suc (length ops)) values (λ v. cycle_from held row (values ++ v ∷ []) ops) (outcome_of held row values op) (omega arith)
    (λ v. let more = cycle_within held row (values ++ v ∷ []) ops in let count = length_push values v in omega (arith, more, count))
