-- AddedRuns: runs in which numbers are added to words that operations read.
use Rattle.std.proofs.Common.{◌≡◌, ◌≢◌, ⊎_elim, ℕ, suc, ◌<◌, ◌==◌, cond, true, false, List, [], ◌∷◌, ◌++◌, length, slice_get, ℤ, pos, ◌+ℤ◌, ◌*ℤ◌}
use Rattle.std.proofs.Common.{Option, Some, None, ap, sym, subst, ◌∙◌, refl, arith}
use Rattle.std.proofs.Math.IntN.{*ℤ-zero}
use Rattle.std.proofs.lemmas.Bool.Decides.{eqb_tells}
use Rattle.std.proofs.lemmas.Int.{ints}
use Rattle.vcp_base.specs.declared.code.Profile.{Profile}
use Rattle.vcp_base.specs.Code.{modulus}
use Rattle.vcp_base.specs.Kinds.{outcome}
use Rattle.coded_unit.specs.Words.{coded, value_part}
use Rattle.coded_unit.specs.WordLaws.{WordLaws}
use Rattle.op_graph.specs.declared.op.Op.{Op}
use Rattle.op_graph.specs.GraphRun.{after, initial, own, stored}
use Rattle.op_graph.specs.Laws.{CellLaws, EntryLaws}
use Rattle.op_graph.specs.Lists.{Lists}
use Rattle.op_graph.specs.Reads.{Reads, named}
use Rattle.op_graph.specs.Rules.{IsGraph}
use Rattle.signature_table.specs.Signatures.{Numbers}
use Rattle.fault_script.specs.declared.act.Act.{Act}
use Rattle.fault_script.specs.declared.act.Act.TheVariants as act
use Rattle.fault_script.specs.Changes.{Acts}
use Rattle.fault_script.specs.Differences.{Frame, frame, no_frame}
use Rattle.fault_injector.specs.FaultRun.{begun, course, cycle_under, cycle_under_from, cycles_from, given_by, run_under}
use Rattle.fault_injector.specs.Stepping.{carry, operand_residue, operand_under, outcome_under, plain_operand}
use Rattle.fault_injector.specs.Verdicts.{compared, plain_cycles}
use Rattle.fault_cover.specs.Additions.{Addends, AreAdded, cycle_with, cycle_with_from, cycles_with, frame_with, operand_with, outcome_with, run_with}
use Rattle.fault_cover.specs.Additions.{verdict_with}
use Rattle.fault_cover.proofs.AddedDifferences.{NoneAdded, act_at, added_none, as_acts, compared_same, frame_same, one_each}
use Rattle.fault_cover.proofs.Untouched.{after_same, no_act, plain_outcome, touched_read, walk}
use Rattle.fault_cover.proofs.UntouchedRuns.{GiveAlike, Gives, IsRun, followed_same, walks_are, walks_from}

-- ---- where nothing is added

-- nothing is carried where nothing is added to a residue
carry_none : (p : Profile) → WordLaws p → (r : ℕ) → r < modulus p → carry p r (pos 0) ≡ pos 0
unfolding coded
carry_none p laws r below =
    let zero : pos (modulus p) *ℤ pos 0 ≡ pos 0 = *ℤ-zero (pos (modulus p)) in
    let same : pos r +ℤ pos 0 ≡ pos (modulus p) *ℤ pos 0 +ℤ pos r = omega (arith, ints) in
    ap (value_part p) same ∙ laws.value (pos 0) r below

plus_none : (x y : ℤ) → y ≡ pos 0 → x +ℤ y ≡ x
plus_none x y e = omega (arith, ints)

module _ (t : Numbers) (g : Lists) (laws : WordLaws t.profile) where
  operand_none : (n : ℕ) (now differences : Frame) (op : Op) (e : ℕ → ℤ) (j : ℕ) → e j ≡ pos 0
      → operand_with t g n now differences op e j ≡ plain_operand now op j
  operand_none n now differences op e j none =
      plus_none (plain_operand now op j) (carry t.profile (operand_residue t g n differences op j) (e j))
      (ap (carry t.profile (operand_residue t g n differences op j)) none
      ∙ carry_none t.profile laws (operand_residue t g n differences op j) (laws.below _))

  three_operands : (row : List ℤ) (op : Op) (x y z u v w : ℤ) → x ≡ u → y ≡ v → z ≡ w
      → outcome op.kind op.from op.ty (own row op.kind op.imm) x y z ≡ outcome op.kind op.from op.ty (own row op.kind op.imm) u v w
  three_operands row op x y z u v w e f h =
      let o = outcome op.kind op.from op.ty (own row op.kind op.imm) in
      ap (λ a. o a y z) e ∙ ap (λ a. o u a z) f ∙ ap (λ a. o u v a) h

  outcome_none : (n : ℕ) (row : List ℤ) (now differences : Frame) (op : Op) (e : ℕ → ℤ) → NoneAdded e → outcome_with t g n row now differences op e
      ≡ outcome op.kind op.from op.ty (own row op.kind op.imm) (plain_operand now op 0) (plain_operand now op 1) (plain_operand now op 2)
  outcome_none n row now differences op e none =
      three_operands row op (operand_with t g n now differences op e 0) (operand_with t g n now differences op e 1)
      (operand_with t g n now differences op e 2) (plain_operand now op 0) (plain_operand now op 1) (plain_operand now op 2)
      (operand_none n now differences op e 0 none.first) (operand_none n now differences op e 1 none.second) (operand_none n now differences op e 2 none.third)

  -- ---- a run with additions

  gives_with : Addends → Gives
  gives_with adds n past held row values op =
      outcome_with t g n row (record { held = held; given = values }) (frame_with g adds n) op (adds n (length values))

  walk_with : (adds : Addends) (n : ℕ) (past : Frame) (held row values : List ℤ) (ops : List Op)
      → cycle_with_from t g adds n held row values ops ≡ walk (gives_with adds n past held row) values ops
  unfolding walk gives_with
  walk_with adds n past held row values [] = refl
  walk_with adds n past held row values (op ∷ ops) =
      after_same values (λ v. cycle_with_from t g adds n held row (values ++ v ∷ []) ops) (λ v. walk (gives_with adds n past held row) (values ++ v ∷ []) ops)
      (gives_with adds n past held row values op) (λ v. walk_with adds n past held row (values ++ v ∷ []) ops)

  cycles_walk : (adds : Addends) (n : ℕ) (past : Frame) (held : List ℤ) (rows : List (List ℤ))
      → cycles_with t g adds n held rows ≡ walks_from g (gives_with adds) n past held rows
  cycles_walk adds n past held [] = refl
  cycles_walk adds n past held (row ∷ rows) =
      let c = walk (gives_with adds n past held row) [] g.operations in
      followed_same g (cycle_with t g adds n held row) c (λ d. cycles_with t g adds (suc n) (stored g d.values) rows)
      (λ d. walks_from g (gives_with adds) (suc n) (record { held = held; given = d.values }) (stored g d.values) rows)
      (walk_with adds n past held row [] g.operations)
      (cycles_walk adds (suc n) (record { held = held; given = c.values }) (stored g c.values) rows)

  with_alike : (adds : Addends) → ((q k j : ℕ) → Reads g.operations q k j → k < q) → GiveAlike g (as_acts g adds) (gives_with adds)
  unfolding gives_with
  with_alike adds earlier n past held plain row agree = record {
    same = λ k op given other there many many_plain same untouched.
        let acts = as_acts g adds in
        let now : Frame = record { held = held; given = given } in
        let stands : act_at (adds n k) (slice_get g.operations k) ≡ None = no_act g acts n k untouched (acts n k) refl in
        let none = added_none (adds n k) op (sym (ap (act_at (adds n k)) there) ∙ stands) in
        ap (λ m. outcome_with t g n row now (frame_with g adds n) op (adds n m)) many
        ∙ outcome_none n row now (frame_with g adds n) op (adds n k) none
        ∙ plain_outcome (begun t g acts n past held row) plain given other op (λ is. agree k op there is untouched)
        (λ j reads.
        let r : Reads g.operations k (named op j) j = record { op = op; there = there; operand = reads; names = refl } in
        same (named op j) (earlier k (named op j) j r) (λ touched. untouched (touched_read g acts n (named op j) k j r touched)));
  }

  pub with_run : (adds : Addends) → IsGraph g → ((q k j : ℕ) → Reads g.operations q k j → k < q) → EntryLaws → CellLaws → (rows : List (List ℤ))
      → IsRun g (as_acts g adds) rows (run_with t g adds rows)
  with_run adds graph earlier entries cell_laws rows =
      subst (IsRun g (as_acts g adds) rows) (sym (cycles_walk adds 0 no_frame (initial g) rows))
      (walks_are g (as_acts g adds) (gives_with adds) (with_alike adds earlier) graph entries cell_laws rows)

  -- ---- additions to one operand an operation and cycle

  module _ (acts : Acts) (adds : Addends) (are : AreAdded acts adds) where
    operand_one : (n i : ℕ) (e : ℤ) (now past past_differences differences : Frame) (op : Op) (f : ℕ → ℤ) → f i ≡ e → ((j : ℕ) → j ≢ i → f j ≡ pos 0)
        → (j : ℕ) → operand_with t g n now differences op f j
        ≡ operand_under t g n (record { past = past; now = now; past_differences = past_differences; differences = differences }) op
        (Some (act.OperandAdd i e)) j
    operand_one n i e now past past_differences differences op f is others j =
        let grown = plain_operand now op j +ℤ carry t.profile (operand_residue t g n differences op j) e in
        ⊎_elim
        (λ (h : ((i == j) ≡ true) × (i ≡ j)).
        ap (λ z. plain_operand now op j +ℤ carry t.profile (operand_residue t g n differences op j) z) (ap f (sym h.1) ∙ is)
        ∙ ap (λ b. cond b grown (plain_operand now op j)) (sym h.0))
        (λ (h : ((i == j) ≡ false) × (i ≢ j)).
        operand_none n now differences op f j (others j (λ same. h.1 (sym same))) ∙ ap (λ b. cond b grown (plain_operand now op j)) (sym h.0))
        (eqb_tells i j)

    outcome_one : (n : ℕ) (past : Frame) (held row values : List ℤ) (op : Op) (x : Option Act) → acts n (length values) ≡ x
        → outcome_with t g n row (record { held = held; given = values }) (frame t g acts n) op (adds n (length values))
        ≡ given_by (begun t g acts n past held row) values op
    outcome_one n past held row values op None e =
        let k = length values in
        let b = begun t g acts n past held row in
        outcome_none n row (record { held = held; given = values }) (frame t g acts n) op (adds n k)
        (record { first = are.none n k e 0; second = are.none n k e 1; third = are.none n k e 2 })
        ∙ ap (outcome_under t g n row (course b values) k op) (sym e)
    outcome_one n past held row values op (Some a) e =
        let k = length values in
        let b = begun t g acts n past held row in
        let now : Frame = record { held = held; given = values } in
        let i = are.no_other n k (λ none. let no : Some a ≡ None = sym e ∙ none in cc) in
        let one = are.one n k i.0 i.1 i.2 in
        let add : Option Act = Some (act.OperandAdd i.0 i.1) in
        let each = operand_one n i.0 i.1 now b.past b.past_differences (frame t g acts n) op (adds n k) one.0 one.1 in
        three_operands row op (operand_with t g n now (frame t g acts n) op (adds n k) 0) (operand_with t g n now (frame t g acts n) op (adds n k) 1)
        (operand_with t g n now (frame t g acts n) op (adds n k) 2) (operand_under t g n (course b values) op add 0)
        (operand_under t g n (course b values) op add 1) (operand_under t g n (course b values) op add 2) (each 0) (each 1) (each 2)
        ∙ ap (outcome_under t g n row (course b values) k op) (sym i.2)

    cycle_one : (n : ℕ) (past : Frame) (held row values : List ℤ) (ops : List Op)
        → cycle_with_from t g adds n held row values ops ≡ cycle_under_from (begun t g acts n past held row) values ops
    cycle_one n past held row values [] = refl
    cycle_one n past held row values (op ∷ ops) =
        let b = begun t g acts n past held row in
        let now : Frame = record { held = held; given = values } in
        let first = outcome_with t g n row now (frame_with g adds n) op (adds n (length values)) in
        let same : first ≡ given_by b values op =
        ap (λ f. outcome_with t g n row now f op (adds n (length values))) (frame_same t g acts adds (one_each t g acts adds are) n)
        ∙ outcome_one n past held row values op (acts n (length values)) refl in
        after_same values (λ v. cycle_with_from t g adds n held row (values ++ v ∷ []) ops) (λ v. cycle_under_from b (values ++ v ∷ []) ops) first
        (λ v. cycle_one n past held row (values ++ v ∷ []) ops) ∙ ap (after values (λ v. cycle_under_from b (values ++ v ∷ []) ops)) same

    cycles_one : (n : ℕ) (past : Frame) (held : List ℤ) (rows : List (List ℤ)) → cycles_with t g adds n held rows ≡ cycles_from t g acts n past held rows
    cycles_one n past held [] = refl
    cycles_one n past held (row ∷ rows) =
        let c = cycle_under (begun t g acts n past held row) in
        followed_same g (cycle_with t g adds n held row) c (λ d. cycles_with t g adds (suc n) (stored g d.values) rows)
        (λ d. cycles_from t g acts (suc n) (record { held = held; given = d.values }) (stored g d.values) rows)
        (cycle_one n past held row [] g.operations) (cycles_one (suc n) (record { held = held; given = c.values }) (stored g c.values) rows)

    pub run_one : (rows : List (List ℤ)) → run_with t g adds rows ≡ run_under t g acts rows
    run_one rows = cycles_one 0 no_frame (initial g) rows

    pub verdict_one : (rows : List (List ℤ))
        → verdict_with t g adds rows ≡ compared t g acts 0 (run_under t g acts rows) (plain_cycles g (initial g) rows)
    verdict_one rows =
        compared_same t g acts adds (one_each t g acts adds are) 0 (run_with t g adds rows) (plain_cycles g (initial g) rows)
        ∙ ap (λ cycles. compared t g acts 0 cycles (plain_cycles g (initial g) rows)) (run_one rows)
