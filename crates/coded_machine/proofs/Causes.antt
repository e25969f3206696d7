-- Causes: each end of a cycle has its cause.
use Rattle.std.proofs.Common.{ℕ, zero, suc, ◌+◌, ◌≡◌, ◌≢◌, ◌==◌, inl, inr, refl, sym, ap, subst, ◌∙◌, Bool, true, false, cond, List, [], ◌∷◌, slice_get, arith}
use Rattle.std.proofs.Common.{Option, Some, None}
use Rattle.std.proofs.lemmas.Bool.{eqb-false}
use Rattle.vcp_base.specs.declared.kind.StopKind.{StopKind}
use Rattle.vcp_base.specs.declared.kind.StopKind.TheVariants as stop
use Rattle.vcp_base.specs.Types.{fits}
use Rattle.vcp_base.specs.declared.code.Profile.{Profile}
use Rattle.coded_unit.specs.declared.call.Answer.{Answer}
use Rattle.coded_unit.specs.Words.{modulo, value_part}
use Rattle.op_graph.specs.declared.op.Outlet.{Outlet}
use Rattle.op_graph.specs.Lists.{Lists}
use Rattle.signature_table.specs.Signatures.{Numbers, expected}
use Rattle.coded_machine.specs.declared.cycle_end.CycleEnd.{CycleEnd}
use Rattle.coded_machine.specs.declared.cycle_end.CycleEnd.TheVariants as end
use Rattle.coded_machine.specs.Calls.{word_at, Whole}
use Rattle.coded_machine.specs.CycleEnds.{stop_of, stop_or, first_stop, first_outside, first_refused, end_or, end_of, Cause}
use Rattle.coded_machine.proofs.Ends.{released_is_accepted}

-- ---- what each scan finds

-- an answer at place i, counted from j, is this stop
StopFound : List Answer → ℕ → CycleEnd → Type 0
StopFound answers j e = (i : ℕ) × (a : Answer) × (why : StopKind) × (slice_get answers i ≡ Some a) × (stop_of a ≡ Some why) × (e ≡ end.Stopped (j + i) why)

stop_case : (j : ℕ) (a : Answer) (answers : List Answer) (s : Option StopKind) (e : CycleEnd) → stop_of a ≡ s
    → (first_stop (suc j) answers ≡ Some e → StopFound answers (suc j) e) → stop_or j s (first_stop (suc j) answers) ≡ Some e → StopFound (a ∷ answers) j e
unfolding StopFound
stop_case j a answers None e is later h = let f = later h in (suc f.0, f.1, f.2, f.3, f.4, f.5 ∙ ap (λ i. end.Stopped i f.2) (omega arith))
stop_case j a answers (Some why) e is later h =
    let same : end.Stopped j why ≡ e = cc in (zero, a, why, refl, is, sym same ∙ ap (λ i. end.Stopped i why) (omega arith))

stop_found : (answers : List Answer) (j : ℕ) (e : CycleEnd) → first_stop j answers ≡ Some e → StopFound answers j e
stop_found [] j e h = absurd cc
stop_found (a ∷ answers) j e h = stop_case j a answers (stop_of a) e refl (stop_found answers (suc j) e) h

OutsideFound : (p : Profile) → List Answer → List Outlet → CycleEnd → Type 0
OutsideFound p answers outputs e =
    (i : ℕ) × (o : Outlet) × (slice_get outputs i ≡ Some o) × (fits o.ty (value_part p (word_at answers o.op)) ≡ false) × (e ≡ end.Stopped o.op stop.Operand)

outside_case : (p : Profile) (answers : List Answer) (o : Outlet) (outputs : List Outlet) (b : Bool) (e : CycleEnd)
    → fits o.ty (value_part p (word_at answers o.op)) ≡ b → (first_outside p answers outputs ≡ Some e → OutsideFound p answers outputs e) →
    cond b (first_outside p answers outputs) (Some (end.Stopped o.op stop.Operand)) ≡ Some e → OutsideFound p answers (o ∷ outputs) e
unfolding OutsideFound
outside_case p answers o outputs true e is later h = let f = later h in (suc f.0, f.1, f.2, f.3, f.4)
outside_case p answers o outputs false e is later h = let same : end.Stopped o.op stop.Operand ≡ e = cc in (zero, o, refl, is, sym same)

outside_found : (p : Profile) (answers : List Answer) (outputs : List Outlet) (e : CycleEnd) → first_outside p answers outputs ≡ Some e
    → OutsideFound p answers outputs e
outside_found p answers [] e h = absurd cc
outside_found p answers (o ∷ outputs) e h =
    outside_case p answers o outputs (fits o.ty (value_part p (word_at answers o.op))) e refl (outside_found p answers outputs e) h

RefusedFound : (p : Profile) → Numbers → ℕ → List Answer → ℕ → List Outlet → CycleEnd → Type 0
RefusedFound p t n answers j outputs e =
    (i : ℕ) × (o : Outlet) × (slice_get outputs i ≡ Some o) × (modulo p (word_at answers o.op) ≢ expected p t.seed t.step o.op n)
    × (e ≡ end.Refused (j + i) (modulo p (word_at answers o.op)) (expected p t.seed t.step o.op n))

refused_case : (p : Profile) (t : Numbers) (n : ℕ) (answers : List Answer) (j : ℕ) (o : Outlet) (outputs : List Outlet) (b : Bool) (e : CycleEnd)
    → (modulo p (word_at answers o.op) == expected p t.seed t.step o.op n) ≡ b →
    (first_refused p t n answers (suc j) outputs ≡ Some e → RefusedFound p t n answers (suc j) outputs e) →
    cond b (first_refused p t n answers (suc j) outputs)
    (Some (end.Refused j (modulo p (word_at answers o.op)) (expected p t.seed t.step o.op n))) ≡ Some e → RefusedFound p t n answers j (o ∷ outputs) e
unfolding RefusedFound
refused_case p t n answers j o outputs true e is later h =
    let f = later h in
    (suc f.0, f.1, f.2, f.3, f.4 ∙ ap (λ i. end.Refused i (modulo p (word_at answers f.1.op)) (expected p t.seed t.step f.1.op n)) (omega arith))
refused_case p t n answers j o outputs false e is later h =
    let same : end.Refused j (modulo p (word_at answers o.op)) (expected p t.seed t.step o.op n) ≡ e = cc in
    (zero, o, refl, eqb-false _ _ is, sym same ∙ ap (λ i. end.Refused i (modulo p (word_at answers o.op)) (expected p t.seed t.step o.op n)) (omega arith))

refused_found : (p : Profile) (t : Numbers) (n : ℕ) (answers : List Answer) (j : ℕ) (outputs : List Outlet) (e : CycleEnd)
    → first_refused p t n answers j outputs ≡ Some e → RefusedFound p t n answers j outputs e
refused_found p t n answers j [] e h = absurd cc
refused_found p t n answers j (o ∷ outputs) e h =
    refused_case p t n answers j o outputs (modulo p (word_at answers o.op) == expected p t.seed t.step o.op n) e refl
    (refused_found p t n answers (suc j) outputs e) h

-- ---- the cause of an end

stop_causes : (g : Lists) (t : Numbers) (n : ℕ) (answers : List Answer) (e : CycleEnd) → StopFound answers 0 e → Cause g t n answers e
unfolding StopFound
stop_causes g t n answers e f =
    let there : slice_get answers (0 + f.0) ≡ Some f.1 = ap (slice_get answers) (omega arith) ∙ f.3 in
    subst (Cause g t n answers) (sym f.5) (inl (f.1, there, f.4))

outside_causes : (g : Lists) (t : Numbers) (n : ℕ) (answers : List Answer) (e : CycleEnd) → OutsideFound g.profile answers g.outputs e → Cause g t n answers e
unfolding OutsideFound
outside_causes g t n answers e f = subst (Cause g t n answers) (sym f.4) (inr (refl, (f.0, f.1, f.2, refl, f.3)))

refused_causes : (g : Lists) (t : Numbers) (n : ℕ) (answers : List Answer) (e : CycleEnd) → RefusedFound g.profile t n answers 0 g.outputs e
    → Cause g t n answers e
unfolding RefusedFound
refused_causes g t n answers e f =
    let there : slice_get g.outputs (0 + f.0) ≡ Some f.1 = ap (slice_get g.outputs) (omega arith) ∙ f.2 in
    subst (Cause g t n answers) (sym f.4) (f.1, there, refl, refl, f.3)

causes_case : (g : Lists) (t : Numbers) (n : ℕ) (answers : List Answer) (a b c : Option CycleEnd) → first_stop 0 answers ≡ a
    → first_outside g.profile answers g.outputs ≡ b → first_refused g.profile t n answers 0 g.outputs ≡ c →
    (end_or a (end_or b (end_or c end.Released)) ≡ end.Released → Cause g t n answers end.Released) → Cause g t n answers
    (end_or a (end_or b (end_or c end.Released)))
causes_case g t n answers (Some e) b c ia ib ic released = stop_causes g t n answers e (stop_found answers 0 e ia)
causes_case g t n answers None (Some e) c ia ib ic released = outside_causes g t n answers e (outside_found g.profile answers g.outputs e ib)
causes_case g t n answers None None (Some e) ia ib ic released = refused_causes g t n answers e (refused_found g.profile t n answers 0 g.outputs e ic)
causes_case g t n answers None None None ia ib ic released = released refl

-- the end that is read off the answers of a whole cycle has its cause in them
pub end_has_cause : (g : Lists) (t : Numbers) (n : ℕ) (answers : List Answer) → Whole g.operations answers → Cause g t n answers (end_of g t n answers)
end_has_cause g t n answers whole =
    causes_case g t n answers (first_stop 0 answers) (first_outside g.profile answers g.outputs)
    (first_refused g.profile t n answers 0 g.outputs) refl refl refl (released_is_accepted g t n answers whole)
