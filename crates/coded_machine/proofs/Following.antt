-- Following: a machine's cycle, where its answers stand for the graph's cycle on plain integers.
use Rattle.std.proofs.Common.{ℕ, ◌+◌, ◌≤◌, ◌≡◌, ◌≢◌, arith, false, refl, sym, ap, subst, ◌∙◌, List, length, Option, Some, None, ℤ}
use Rattle.vcp_base.specs.declared.kind.StopKind.{StopKind}
use Rattle.vcp_base.specs.declared.kind.StopKind.TheVariants as stop
use Rattle.coded_unit.specs.declared.call.Answer.{Answer}
use Rattle.coded_unit.specs.Log.{Entry}
use Rattle.op_graph.specs.GraphRun.{Cycle, cycle, stored}
use Rattle.op_graph.specs.Lists.{Lists}
use Rattle.signature_table.specs.Signatures.{Numbers, stamp_before}
use Rattle.coded_machine.specs.declared.cycle_end.CycleEnd.{CycleEnd}
use Rattle.coded_machine.specs.declared.cycle_end.CycleEnd.TheVariants as end
use Rattle.coded_machine.specs.Calls.{Whole, CallsOf, Carried}
use Rattle.coded_machine.specs.CycleEnds.{end_of, end_or, outputs_of, stored_words}
use Rattle.coded_machine.specs.Honest.{CellsHold, StandsFor, FollowsGraph, end_at}
use Rattle.coded_machine.specs.Runs.{CarriedCycle, Turn}
use Rattle.coded_machine.specs.State.{State, given, setting, with_answers, after_end, row_after}

released_stop : (k : ℕ) (s : Option StopKind) → end_at k s ≡ end.Released → s ≡ None
released_stop k None e = refl
released_stop k (Some why) e = absurd cc

operand_stop : (k i : ℕ) (s : Option StopKind) → end_at k s ≡ end.Stopped i stop.Operand → s ≡ Some stop.Operand
operand_stop k i None e = absurd cc
operand_stop k i (Some why) e = let same : why ≡ stop.Operand = cc in ap Some same

no_refused : (k number found wanted : ℕ) (s : Option StopKind) → end_at k s ≡ end.Refused number found wanted → ⊥
no_refused k number found wanted None e = cc
no_refused k number found wanted (Some why) e = cc

pub follows : (old new : State) (values row : List ℤ) (e : CycleEnd) (out before : List ℤ) → StandsFor (setting old row) values new.answers →
    e ≡ end_of old.graph old.table old.cycles new.answers → new ≡ after_end (with_answers old new.answers) e → out ≡ row_after
    (with_answers old new.answers) e before →
    FollowsGraph old new values row e out
follows old new values row e out before stands is machine row_is =
    let c : Cycle = cycle old.graph values row in
    let ends : e ≡ end_at (length c.values) c.stop = is ∙ stands.end_is in
    record {
      answers_are = stands.answers_are;
      end_is = ends;
      row_is = λ r. row_is ∙ ap (λ x. row_after (with_answers old new.answers) x before) r
          ∙ stands.row_is (released_stop (length c.values) c.stop (sym ends ∙ r));
      cells_are = λ r.
          let after : new ≡ after_end (with_answers old new.answers) end.Released = machine ∙ ap (after_end (with_answers old new.answers)) r in
          subst (λ (m : State). CellsHold m.graph m.table.seed (stamp_before m.table.step m.cycles) m.held (stored old.graph c.values)) (sym after)
          (stands.cells_are (released_stop (length c.values) c.stop (sym ends ∙ r)));
      no_operand = λ k r. stands.no_operand (operand_stop (length c.values) k c.stop (sym ends ∙ r));
      no_refusal = λ number found wanted r. no_refused (length c.values) number found wanted c.stop (sym ends ∙ r);
    }

-- ---- a cycle that is carried and then ended

pub answers_kept : (m : State) (e : CycleEnd) → (after_end m e).answers ≡ m.answers
answers_kept m end.Released = refl
answers_kept m (end.Stopped k why) = refl
answers_kept m (end.Refused k found wanted) = refl

-- the end is made of the answers that were carried
pub after_same : (old mid : State) (e : CycleEnd) → mid ≡ record old { answers = mid.answers; under_way = mid.under_way } → given mid ≡ mid.answers
    → after_end mid e ≡ after_end (with_answers old mid.answers) e
after_same old mid end.Released same all =
    ap (λ xs. record mid { held = stored_words mid.graph xs; under_way = false; cycles = mid.cycles + 1 }) all
    ∙ ap (λ (m : State). record m { held = stored_words m.graph mid.answers; under_way = false; cycles = m.cycles + 1 }) same
after_same old mid (end.Stopped k why) same all = ap (λ (m : State). record m { under_way = false; ended = Some (end.Stopped k why) }) same
after_same old mid (end.Refused k found wanted) same all = ap (λ (m : State). record m { under_way = false; ended = Some (end.Refused k found wanted) }) same

row_same : (old mid : State) (e : CycleEnd) (row : List ℤ) → mid ≡ record old { answers = mid.answers; under_way = mid.under_way } → given mid ≡ mid.answers
    → row_after mid e row ≡ row_after (with_answers old mid.answers) e row
row_same old mid end.Released row same all = ap (outputs_of mid.graph) all ∙ ap (λ (m : State). outputs_of m.graph mid.answers) same
row_same old mid (end.Stopped k why) row same all = refl
row_same old mid (end.Refused k found wanted) row same all = refl

pub end_same : (old mid : State) → old.ended ≡ None → mid ≡ record old { answers = mid.answers; under_way = mid.under_way } → given mid ≡ mid.answers →
    end_or mid.ended (end_of mid.graph mid.table mid.cycles (given mid)) ≡ end_of old.graph old.table old.cycles mid.answers
end_same old mid going same all =
    ap (λ xs. end_or mid.ended (end_of mid.graph mid.table mid.cycles xs)) all
    ∙ ap (λ (m : State). end_or m.ended (end_of m.graph m.table m.cycles mid.answers)) same
    ∙ ap (λ x. end_or x (end_of old.graph old.table old.cycles mid.answers)) going

pub follows_carried : (old mid new : State) (values row : List ℤ) (e : CycleEnd) (out before : List ℤ) → old.ended ≡ None
    → mid ≡ record old { answers = mid.answers; under_way = mid.under_way } → given mid ≡ mid.answers →
    StandsFor (setting old row) values mid.answers → e ≡ end_or mid.ended
    (end_of mid.graph mid.table mid.cycles (given mid)) → new ≡ after_end mid e → out ≡ row_after mid e before →
    FollowsGraph old new values row e out
follows_carried old mid new values row e out before going same all stands is machine row_is =
    let kept : new.answers ≡ mid.answers = ap (λ (m : State). m.answers) machine ∙ answers_kept mid e in
    follows old new values row e out before
    (subst (StandsFor (setting old row) values) (sym kept) stands)
    (is ∙ end_same old mid going same all ∙ ap (end_of old.graph old.table old.cycles) (sym kept))
    (machine ∙ after_same old mid e same all ∙ ap (λ xs. after_end (with_answers old xs) e) (sym kept))
    (row_is ∙ row_same old mid e before same all ∙ ap (λ xs. row_after (with_answers old xs) e before) (sym kept))

-- and a turn of the machine
pub turn_carried : (old mid new : State) (row : List ℤ) (e : CycleEnd) (x y : Option (List Entry)) (i j : ℕ) → old.ended ≡ None
    → mid ≡ record old { answers = mid.answers; under_way = mid.under_way } → given mid ≡ mid.answers → Whole old.graph.operations mid.answers
    → CarriedCycle old mid row x y i j → e ≡ end_or mid.ended (end_of mid.graph mid.table mid.cycles (given mid)) → new ≡ after_end mid e
    → Turn old new row e x y i j
turn_carried old mid new row e x y i j going same all whole carried is machine =
    let kept : new.answers ≡ mid.answers = ap (λ (m : State). m.answers) machine ∙ answers_kept mid e in
    record {
      going = going;
      whole = subst (Whole old.graph.operations) (sym kept) whole;
      carried = subst (λ xs. Carried (CallsOf (setting old row) xs) x y i j) (sym kept) carried;
      end_is = is ∙ end_same old mid going same all ∙ ap (end_of old.graph old.table old.cycles) (sym kept);
      machine = machine ∙ after_same old mid e same all ∙ ap (λ xs. after_end (with_answers old xs) e) (sym kept);
    }

-- its row of outputs
pub row_carried : (old mid new : State) (e : CycleEnd) (before : List ℤ) → mid ≡ record old { answers = mid.answers; under_way = mid.under_way }
    → given mid ≡ mid.answers → new ≡ after_end mid e → row_after mid e before ≡ row_after (with_answers old new.answers) e before
row_carried old mid new e before same all machine =
    let kept : new.answers ≡ mid.answers = ap (λ (m : State). m.answers) machine ∙ answers_kept mid e in
    row_same old mid e before same all ∙ ap (λ xs. row_after (with_answers old xs) e before) (sym kept)

-- what is told of its answers
pub told_carried : (P : Lists → Numbers → ℕ → List Answer → Type 0) (old mid new : State) (e : CycleEnd)
    → mid ≡ record old { answers = mid.answers; under_way = mid.under_way } → given mid ≡ mid.answers → new ≡ after_end mid e
    → (P mid.graph mid.table mid.cycles (given mid) → P old.graph old.table old.cycles new.answers)
    × (P old.graph old.table old.cycles new.answers → P mid.graph mid.table mid.cycles (given mid))
told_carried P old mid new e same all machine =
    let kept : given mid ≡ new.answers = all ∙ sym (ap (λ (m : State). m.answers) machine ∙ answers_kept mid e) in (
      λ h. subst (λ (m : State). P m.graph m.table m.cycles new.answers) same (subst (P mid.graph mid.table mid.cycles) kept h),
      λ h. subst (P mid.graph mid.table mid.cycles) (sym kept) (subst (λ (m : State). P m.graph m.table m.cycles new.answers) (sym same) h),
    )

-- ---- an end that is repeated

pub closed_same : (m : State) (e : CycleEnd) → e ≢ end.Released → m.ended ≡ Some e → m.under_way ≡ false → m ≡ after_end m e
closed_same m end.Released not is between = absurd (not refl)
closed_same m (end.Stopped k why) not is between =
    ap (λ b. record m { under_way = b; ended = m.ended }) between ∙ ap (λ o. record m { under_way = false; ended = o }) is
closed_same m (end.Refused k found wanted) not is between =
    ap (λ b. record m { under_way = b; ended = m.ended }) between ∙ ap (λ o. record m { under_way = false; ended = o }) is

pub row_kept : (m : State) (e : CycleEnd) (row : List ℤ) → e ≢ end.Released → row ≡ row_after m e row
row_kept m end.Released row not = absurd (not refl)
row_kept m (end.Stopped k why) row not = refl
row_kept m (end.Refused k found wanted) row not = refl

pub one_more_few : (n : ℕ) → n ≤ n + 1
one_more_few n = omega arith
