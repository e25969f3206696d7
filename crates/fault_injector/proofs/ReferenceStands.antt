-- ReferenceStands: right answers of the run without faults stand for the graph's run on plain integers.
use Rattle.std.proofs.Common.{◌≡◌, ℕ, suc, ◌+◌, ◌≤◌, List, [], ◌∷◌, length, Option, Some, None, ℤ, refl, sym, ap, subst, ◌∙◌, arith}
use Rattle.vcp_base.specs.Limits.{most_cycles}
use Rattle.vcp_base.specs.declared.kind.StopKind.{StopKind}
use Rattle.coded_unit.specs.declared.call.Answer.{Answer}
use Rattle.op_graph.specs.GraphRun.{Cycle, Stop, cycle, initial, stored}
use Rattle.op_graph.specs.Lists.{Lists}
use Rattle.op_graph.specs.Rules.{IsGraph}
use Rattle.signature_table.specs.Signatures.{Numbers, IsTable, stamp_before}
use Rattle.coded_machine.specs.declared.cycle_end.CycleEnd.{CycleEnd}
use Rattle.coded_machine.specs.Calls.{AllRight, CallsOf}
use Rattle.coded_machine.specs.CycleEnds.{initial_words, stored_words}
use Rattle.coded_machine.specs.Honest.{CellsHold, HonestCells, HonestCycles, StandsFor, answers_for, end_at}
use Rattle.coded_machine.specs.Runs.{AllCycles, calls_over, setting_at, unless_ended}
use Rattle.fault_injector.specs.FaultRun.{operation_stop, unless_stopped}
use Rattle.fault_injector.specs.Verdicts.{plain_cycles}
use Rattle.fault_injector.specs.Reruns.{IsReference, refusal_in}
use Rattle.fault_injector.specs.Laws.{NoneRefused, answers_of}
use Rattle.fault_injector.proofs.RunRight.{Other, other_later, right_front}

later_is : (t : Numbers) (g : Lists) (n : ℕ) (o : Cycle) (later : List Cycle) (others : List (List Answer)) (x : Option StopKind) → o.stop ≡ x
    → (x ≡ None → others ≡ answers_of t g (suc n) later) → ((why : StopKind) → x ≡ Some why → others ≡ [])
    → others ≡ answers_of t g (suc n) (unless_stopped (operation_stop o) later)
later_is t g n o later others None e on off =
    on refl
    ∙ ap (λ (s : Option Stop). answers_of t g (suc n) (unless_stopped s later))
    (sym (ap (λ (x : Option StopKind). operation_stop (record { values = o.values; stop = x })) e))
later_is t g n o later others (Some why) e on off =
    off why refl
    ∙ ap (λ (s : Option Stop). answers_of t g (suc n) (unless_stopped s later))
    (sym (ap (λ (x : Option StopKind). operation_stop (record { values = o.values; stop = x })) e))

and_later : (x y : List Answer) (xs ys : List (List Answer)) → x ≡ y → xs ≡ ys → x ∷ xs ≡ y ∷ ys
and_later x y xs ys e f = ap (λ (z : List Answer). z ∷ xs) e ∙ ap (λ (zs : List (List Answer)). y ∷ zs) f

no_refusal : (k : ℕ) (x : Option StopKind) → refusal_in (end_at k x) ≡ None
no_refusal k None = refl
no_refusal k (Some why) = refl

none_later : (t : Numbers) (g : Lists) (n : ℕ) (others : List (List Answer)) (x : Option StopKind) → (x ≡ None → NoneRefused g t (suc n) others)
    → ((why : StopKind) → x ≡ Some why → others ≡ []) → NoneRefused g t (suc n) others
none_later t g n others None on off = on refl
none_later t g n others (Some why) on off = subst (λ (xs : List (List Answer)). NoneRefused g t (suc n) xs) (sym (off why refl)) tt

plus_one : (n : ℕ) → n + 1 ≡ suc n
plus_one n = omega arith

stands_from : HonestCycles → (t : Numbers) (g : Lists) → IsGraph g → IsTable t →
    (rows : List (List ℤ)) (others : List (List Answer)) (n : ℕ) (held values : List ℤ)
    → CellsHold g t.seed (stamp_before t.step n) held values → Other t g n held rows others → n + length rows ≤ most_cycles
    → (others ≡ answers_of t g n (plain_cycles g values rows)) × NoneRefused g t n others
stands_from cycles t g graph table [] [] n held values hold o few = (refl, tt)
stands_from cycles t g graph table [] (other ∷ others) n held values hold o few = absurd o.all
stands_from cycles t g graph table (row ∷ rows) [] n held values hold o few = absurd o.all
stands_from cycles t g graph table (row ∷ rows) (other ∷ others) n held values hold o few =
    let c : Cycle = cycle g values row in
    let right : AllRight (CallsOf (setting_at g t n held row) other) =
    right_front (CallsOf (setting_at g t n held row) other) (calls_over g t (suc n) (stored_words g other) rows others) o.right in
    let s : StandsFor (setting_at g t n held row) values other =
    cycles (setting_at g t n held row) values other graph table (omega (arith, few)) hold right o.all.0 in
    let goes : unless_ended (end_at (length c.values) c.stop) (AllCycles g t (suc n) rows others) (others ≡ []) =
    subst (λ (x : CycleEnd). unless_ended x (AllCycles g t (suc n) rows others) (others ≡ [])) s.end_is o.all.1 in
    let off : (why : StopKind) → c.stop ≡ Some why → others ≡ [] =
    λ why some. subst (λ (x : Option StopKind). unless_ended (end_at (length c.values) x) (AllCycles g t (suc n) rows others) (others ≡ [])) some goes in
    let later : c.stop ≡ None
    → (others ≡ answers_of t g (suc n) (plain_cycles g (stored g c.values) rows)) × NoneRefused g t (suc n) others =
    λ none.
    stands_from cycles t g graph table rows others (suc n) (stored_words g other) (stored g c.values)
    (subst (λ (j : ℕ). CellsHold g t.seed (stamp_before t.step j) (stored_words g other) (stored g c.values)) (plus_one n) (s.cells_are none))
    (other_later t g n held row rows other others o (s.end_is ∙ ap (end_at (length c.values)) none)) (omega (arith, few)) in (
      and_later other (answers_for g.profile t.seed t.step n c) others
          (answers_of t g (suc n) (unless_stopped (operation_stop c) (plain_cycles g (stored g c.values) rows))) s.answers_are
          (later_is t g n c (plain_cycles g (stored g c.values) rows) others c.stop refl (λ none. (later none).0) off),
      (
        o.all.0,
        ap refusal_in s.end_is ∙ no_refusal (length c.values) c.stop,
        none_later t g n others c.stop (λ none. (later none).1) off,
      ),
    )

pub reference_stands : HonestCycles → HonestCells → (t : Numbers) (g : Lists) (rows : List (List ℤ)) (others : List (List Answer)) → IsGraph g → IsTable t
    → length rows ≤ most_cycles → IsReference t g rows others
    → (others ≡ answers_of t g 0 (plain_cycles g (initial g) rows)) × NoneRefused g t 0 others
reference_stands cycles first t g rows others graph table few reference =
    stands_from cycles t g graph table rows others 0 (initial_words g t.seed) (initial g) (first g t.seed t.step graph)
    (record { all = reference.all; right = reference.right }) (omega (arith, few))
