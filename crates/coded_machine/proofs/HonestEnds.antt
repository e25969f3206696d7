-- HonestEnds: answers that stand for a cycle on plain integers end it as that cycle ends.
use Rattle.std.proofs.Common.{ℕ, zero, suc, ◌+◌, ◌<◌, ◌≡◌, refl, sym, ap, subst, ◌∙◌, List, [], ◌∷◌, ◌++◌, length, map, append-nil, slice_get, arith, true, ℤ}
use Rattle.std.proofs.Common.{Option, Some, None, eq-eqb}
use Rattle.vcp_base.specs.declared.kind.StopKind.{StopKind}
use Rattle.vcp_base.specs.declared.kind.StopKind.TheVariants as stop
use Rattle.vcp_base.specs.Types.{fits}
use Rattle.vcp_base.specs.Code.{modulus}
use Rattle.vcp_base.specs.declared.code.Profile.{Profile}
use Rattle.vcp_base.specs.Values.{at}
use Rattle.coded_unit.specs.declared.call.Answer.{Answer}
use Rattle.coded_unit.specs.Words.{modulo, value_part, coded}
use Rattle.op_graph.specs.declared.op.Outlet.{Outlet}
use Rattle.op_graph.specs.Lists.{Lists}
use Rattle.op_graph.specs.Rules.{IsGraph}
use Rattle.op_graph.specs.GraphRun.{Cycle, cycle, stored, CellsFit}
use Rattle.signature_table.specs.Signatures.{Numbers, stamp_before, expected}
use Rattle.coded_machine.specs.declared.cycle_end.CycleEnd.TheVariants as end
use Rattle.coded_machine.specs.Calls.{Setting, CallsOf, Whole, AllRight, word_at}
use Rattle.coded_machine.specs.CycleEnds.{first_stop, first_outside, first_refused, end_of, stored_words}
use Rattle.coded_machine.specs.Honest.{CellsHold, words_from, stop_answer, answers_for, end_at, StandsFor}
use Rattle.coded_machine.proofs.Ends.{no_stop_all}
use Rattle.coded_machine.proofs.HonestAnswers.{Below, at_words, length-words, honest_answers}
use Rattle.coded_machine.proofs.Promised.{Laws}

-- ---- the first stop

stop_at : (k : ℕ) (why : StopKind) → first_stop k (stop_answer (Some why)) ≡ Some (end.Stopped k why)
stop_at k stop.Range = refl
stop_at k stop.DivZero = refl
stop_at k stop.Operand = refl

stop_found : (p : Profile) (seed step n k j : ℕ) (values : List ℤ) (why : StopKind)
    → first_stop k (words_from p seed step n j values ++ stop_answer (Some why)) ≡ Some (end.Stopped (k + length values) why)
stop_found p seed step n k j [] why = stop_at k why ∙ ap (λ i. Some (end.Stopped i why)) (omega arith)
stop_found p seed step n k j (v ∷ values) why = stop_found p seed step n (suc k) (suc j) values why ∙ ap (λ i. Some (end.Stopped i why)) (omega arith)

stop_none : (p : Profile) (seed step n k j : ℕ) (values : List ℤ) → first_stop k (words_from p seed step n j values) ≡ None
stop_none p seed step n k j [] = refl
stop_none p seed step n k j (v ∷ values) = stop_none p seed step n (suc k) (suc j) values

-- ---- the outputs

-- the OUT of each of these outputs answered the honest word of its value, which is in the output's type
OutsAre : Profile → Numbers → ℕ → List Answer → List ℤ → List Outlet → Type 0
OutsAre p t n answers values outs =
    (k : ℕ) (o : Outlet) → slice_get outs k ≡ Some o →
    (word_at answers o.op ≡ coded p (at values o.op) (expected p t.seed t.step o.op n)) × (fits o.ty (at values o.op) ≡ true)
    × (expected p t.seed t.step o.op n < modulus p)

later_outs : (p : Profile) (t : Numbers) (n : ℕ) (answers : List Answer) (values : List ℤ) (o : Outlet) (outs : List Outlet)
    → OutsAre p t n answers values (o ∷ outs) → OutsAre p t n answers values outs
unfolding OutsAre
later_outs p t n answers values o outs h = λ k q there. h (suc k) q there

out_value : (laws : Laws) (p : Profile) (t : Numbers) (n : ℕ) (answers : List Answer) (values : List ℤ) (o : Outlet) (outs : List Outlet)
    → OutsAre p t n answers values (o ∷ outs) → value_part p (word_at answers o.op) ≡ at values o.op
unfolding OutsAre
out_value laws p t n answers values o outs h = let x = h 0 o refl in ap (value_part p) x.0
    ∙ (laws.coded.words p).value (at values o.op) (expected p t.seed t.step o.op n) x.2

out_residue : (laws : Laws) (p : Profile) (t : Numbers) (n : ℕ) (answers : List Answer) (values : List ℤ) (o : Outlet) (outs : List Outlet)
    → OutsAre p t n answers values (o ∷ outs) → modulo p (word_at answers o.op) ≡ expected p t.seed t.step o.op n
unfolding OutsAre
out_residue laws p t n answers values o outs h = let x = h 0 o refl in ap (modulo p) x.0
    ∙ (laws.coded.words p).residue (at values o.op) (expected p t.seed t.step o.op n) x.2

out_fits : (laws : Laws) (p : Profile) (t : Numbers) (n : ℕ) (answers : List Answer) (values : List ℤ) (o : Outlet) (outs : List Outlet)
    → OutsAre p t n answers values (o ∷ outs) → fits o.ty (value_part p (word_at answers o.op)) ≡ true
unfolding OutsAre
out_fits laws p t n answers values o outs h = subst (λ v. fits o.ty v ≡ true) (sym (out_value laws p t n answers values o outs h)) (h 0 o refl).1

outside_none : (laws : Laws) (p : Profile) (t : Numbers) (n : ℕ) (answers : List Answer) (values : List ℤ) (outs : List Outlet)
    → OutsAre p t n answers values outs → first_outside p answers outs ≡ None
outside_none laws p t n answers values [] h = refl
outside_none laws p t n answers values (o ∷ outs) h =
    rw (out_fits laws p t n answers values o outs h) (outside_none laws p t n answers values outs (later_outs p t n answers values o outs h))

refused_none : (laws : Laws) (p : Profile) (t : Numbers) (n : ℕ) (answers : List Answer) (values : List ℤ) (number : ℕ) (outs : List Outlet)
    → OutsAre p t n answers values outs → first_refused p t n answers number outs ≡ None
refused_none laws p t n answers values number [] h = refl
refused_none laws p t n answers values number (o ∷ outs) h =
    rw (eq-eqb _ _ (out_residue laws p t n answers values o outs h))
    (refused_none laws p t n answers values (suc number) outs (later_outs p t n answers values o outs h))

outputs_same : (laws : Laws) (p : Profile) (t : Numbers) (n : ℕ) (answers : List Answer) (values : List ℤ) (outs : List Outlet)
    → OutsAre p t n answers values outs → map (λ (o : Outlet). value_part p (word_at answers o.op)) outs ≡ map (λ (o : Outlet). at values o.op) outs
outputs_same laws p t n answers values [] h = refl
outputs_same laws p t n answers values (o ∷ outs) h =
    ap (λ v. v ∷ map (λ (q : Outlet). value_part p (word_at answers q.op)) outs) (out_value laws p t n answers values o outs h)
    ∙ ap (λ vs. at values o.op ∷ vs) (outputs_same laws p t n answers values outs (later_outs p t n answers values o outs h))

-- ---- a cycle

at_map : (f : ℕ → ℤ) (xs : List ℕ) (k n : ℕ) → slice_get xs k ≡ Some n → at (map f xs) k ≡ f n
at_map f [] k n e = absurd cc
at_map f (x ∷ xs) zero n e = let same : x ≡ n = cc in ap f same
at_map f (x ∷ xs) (suc k) n e = at_map f xs k n e

end_case : (laws : Laws) (g : Lists) (t : Numbers) (n : ℕ) (answers : List Answer) (c : Cycle) (s : Option StopKind) → c.stop ≡ s
    → answers ≡ answers_for g.profile t.seed t.step n c →
    (s ≡ None → OutsAre g.profile t n answers c.values g.outputs) → end_of g t n answers ≡ end_at (length c.values) s
end_case laws g t n answers c None stops is outs =
    let words : answers ≡ words_from g.profile t.seed t.step n 0 c.values = is
    ∙ ap (λ x. words_from g.profile t.seed t.step n 0 c.values ++ stop_answer x) stops ∙ append-nil _ in
    let none : first_stop 0 answers ≡ None = ap (first_stop 0) words ∙ stop_none g.profile t.seed t.step n 0 0 c.values in
    rw (
      none,
      outside_none laws g.profile t n answers c.values g.outputs (outs refl),
      refused_none laws g.profile t n answers c.values 0 g.outputs
          (outs refl),
    ) refl
end_case laws g t n answers c (Some why) stops is outs =
    let found : first_stop 0 answers ≡ Some (end.Stopped (0 + length c.values) why) =
    ap (first_stop 0) (is ∙ ap (λ x. words_from g.profile t.seed t.step n 0 c.values ++ stop_answer x) stops)
    ∙ stop_found g.profile t.seed t.step n 0 0 c.values why in
    rw found (ap (λ i. end.Stopped i why) (omega arith))

-- where the cycle has no stop, each operation answered the honest word of its value
words_are : (s : Setting) (held : List ℤ) (answers : List Answer) → IsGraph s.graph → Whole s.graph.operations answers →
    answers ≡ answers_for s.graph.profile s.table.seed s.table.step s.cycle (cycle s.graph held s.row) → (cycle s.graph held s.row).stop ≡ None →
    (i : ℕ) → i < length s.graph.operations → word_at answers i ≡ coded s.graph.profile (at (cycle s.graph held s.row).values i)
    (expected s.graph.profile s.table.seed s.table.step i s.cycle)
words_are s held answers graph whole is stops = λ i below.
    let values = (cycle s.graph held s.row).values in
    let words : answers ≡ words_from s.graph.profile s.table.seed s.table.step s.cycle 0 values = is
    ∙ ap (λ x. words_from s.graph.profile s.table.seed s.table.step s.cycle 0 values ++ stop_answer x) stops ∙ append-nil _ in
    let none : first_stop 0 answers ≡ None = ap (first_stop 0) words ∙ stop_none s.graph.profile s.table.seed s.table.step s.cycle 0 0 values in
    let many : length answers ≡ length s.graph.operations = no_stop_all s.graph.operations answers 0 whole none in
    let here : i < length values = omega (arith, many, ap length words, length-words s.graph.profile s.table.seed s.table.step s.cycle 0 values, below) in
    ap (λ xs. word_at xs i) words ∙ at_words s.graph.profile s.table.seed s.table.step s.cycle 0 values i here
    ∙ ap (λ j. coded s.graph.profile (at values i) (expected s.graph.profile s.table.seed s.table.step j s.cycle)) (omega arith)

outs_are : (laws : Laws) (s : Setting) (held : List ℤ) (answers : List Answer) → Below s → IsGraph s.graph → CellsFit s.graph held
    → Whole s.graph.operations answers →
    answers ≡ answers_for s.graph.profile s.table.seed s.table.step s.cycle (cycle s.graph held s.row) → (cycle s.graph held s.row).stop ≡ None →
    OutsAre s.graph.profile s.table s.cycle answers (cycle s.graph held s.row).values s.graph.outputs
unfolding OutsAre
outs_are laws s held answers below graph typed whole is stops = λ k o there. (
  words_are s held answers graph whole is stops o.op (laws.entries.output s.graph k o graph.part there).operation,
  laws.typed.outputs s.graph held s.row graph typed stops k o there,
  below o.op,
)

cells_are : (laws : Laws) (s : Setting) (held : List ℤ) (answers : List Answer) → IsGraph s.graph → CellsFit s.graph held → Whole s.graph.operations answers →
    answers ≡ answers_for s.graph.profile s.table.seed s.table.step s.cycle (cycle s.graph held s.row) → (cycle s.graph held s.row).stop ≡ None →
    CellsHold s.graph s.table.seed (stamp_before s.table.step (s.cycle + 1)) (stored_words s.graph answers) (stored s.graph (cycle s.graph held s.row).values)
cells_are laws s held answers graph typed whole is stops =
    let values = (cycle s.graph held s.row).values in
    record {
      words = λ k n there.
          at_map (λ i. word_at answers i) s.graph.stores k n there
          ∙ words_are s held answers graph whole is stops n (laws.entries.store s.graph k n graph.part there).store
          ∙ ap (λ v. coded s.graph.profile v (expected s.graph.profile s.table.seed s.table.step n s.cycle))
          (sym (at_map (λ i. at values i) s.graph.stores k n there));
      typed = laws.typed.cells_kept s.graph held s.row graph typed stops;
    }

-- the right answers to the calls of a whole cycle stand for the graph's cycle
pub stands_for : (laws : Laws) (s : Setting) (held : List ℤ) (answers : List Answer) → Below s → IsGraph s.graph
    → CellsHold s.graph s.table.seed (stamp_before s.table.step s.cycle) s.held held →
    AllRight (CallsOf s answers) → Whole s.graph.operations answers → StandsFor s held answers
stands_for laws s held answers below graph hold right whole =
    let is = honest_answers laws s held answers below graph hold right whole in
    let c = cycle s.graph held s.row in
    record {
      answers_are = is;
      end_is = end_case laws s.graph s.table s.cycle answers c c.stop refl is (λ stops. outs_are laws s held answers below graph hold.typed whole is stops);
      row_is = λ stops. outputs_same laws s.graph.profile s.table s.cycle answers c.values s.graph.outputs
          (outs_are laws s held answers below graph hold.typed whole is stops);
      cells_are = λ stops. cells_are laws s held answers graph hold.typed whole is stops;
      no_operand = laws.typed.cycle s.graph held s.row graph hold.typed;
    }
