-- Tellings: what is told by a survey.
use Rattle.std.proofs.Common.{◌≡◌, ⊎_elim, ℕ, suc, ◌<◌, ◌≤◌, nat_le, nat_lt, cond, Bool, true, false, List, length, slice_get, slice_index_or, Option, Some}
use Rattle.std.proofs.Common.{None, ap, sym, subst, ◌∙◌, refl, arith}
use Rattle.std.proofs.lemmas.Bool.Decides.{leb_tells}
use Rattle.vcp_base.specs.declared.code.Profile.{Profile}
use Rattle.coded_unit.specs.WordLaws.{WordLaws}
use Rattle.op_graph.specs.declared.op.Op.{Op}
use Rattle.op_graph.specs.Laws.{EntryLaws}
use Rattle.op_graph.specs.Lists.{Lists, cells}
use Rattle.op_graph.specs.Rules.{IsPart}
use Rattle.range_walk.specs.declared.range.Stops.{Stops}
use Rattle.signature_table.specs.Signatures.{Numbers}
use Rattle.weight_audit.specs.Audit.{Audit, IsAudit}
use Rattle.weight_audit.specs.Superposition.{WeightsAreOfPaths}
use Rattle.fault_cover.specs.declared.disturbance.Disturbance.{Disturbance}
use Rattle.fault_cover.specs.declared.disturbance.Disturbance.TheVariants as disturbance
use Rattle.fault_cover.specs.declared.nearest.Nearest.{Nearest}
use Rattle.fault_cover.specs.declared.starts.Start.{Start}
use Rattle.fault_cover.specs.declared.telling.Outlook.{Outlook}
use Rattle.fault_cover.specs.declared.telling.Outlook.TheVariants as outlook
use Rattle.fault_cover.specs.declared.effect.Effect.{Effect}
use Rattle.fault_cover.specs.declared.effect.Effect.TheVariants as told
use Rattle.fault_cover.specs.Beginnings.{ArePlaced, rest_of, starts_at}
use Rattle.fault_cover.specs.Firsts.{IsFirstOf, ToldAt, before, behind, outlook_of}
use Rattle.fault_cover.specs.Sited.{IsSited}
use Rattle.fault_cover.specs.Sources.{Source, is_any, readings, sources}
use Rattle.fault_cover.specs.Surveys.{AreMaps, IsOutOf, IsSurvey, Surveyed}
use Rattle.fault_cover.specs.Telling.{FirstReached, Subject, Tells, TellsAt, TellsOf, UnlessSame, does_the_same, subject}
use Rattle.fault_cover.specs.Walks.{AreWithin, kept}
use Rattle.fault_cover.proofs.Cells.{few_cells}
use Rattle.fault_cover.proofs.Choosing.{IsFirstFrom, IsNearestFrom, Spreads, first_there, further_back, nearest_from, outlook_is, told_is}

-- ---- what is looked at

pub placed_for : (p : Profile) (g : Lists) (found known : List (Option Nearest)) (starts : List Start) → p ≡ g.profile → found ≡ known
    → length known ≡ length g.operations → ArePlaced g.profile (length g.operations) starts → ArePlaced p (length found) starts
placed_for p g found known starts profile same many placed =
    subst (λ q. ArePlaced q (length found) starts) (sym profile)
    (subst (λ n. ArePlaced g.profile n starts) (sym (ap length same ∙ many)) placed)

pub within_for : (g : Lists) (found known : List (Option Nearest)) → found ≡ known → IsPart g → AreWithin (length (cells g)) known → AreWithin 1024 found
within_for g found known same part within k n e =
    let few = few_cells g part in
    let le = within k n (ap (λ xs. kept xs k) (sym same) ∙ e) in
    omega (arith, few, le)

-- ---- where outputs are looked at

outputs_are : {m n : Nearest} → outlook.Outputs m ≡ outlook.Outputs n → m ≡ n
outputs_are e = cc

before_outputs : (m n : Nearest) (stop : Option Nearest) → before m stop ≡ outlook.Outputs n → m ≡ n
before_outputs m n None e = outputs_are e
before_outputs m n (Some q) e = by_test (nat_lt q.borders m.borders) e
  where
    by_test : (b : Bool) → cond b (outlook.Is (told.RunsOn q.borders q.op)) (outlook.Outputs m) ≡ outlook.Outputs n → m ≡ n
    by_test true h = absurd cc
    by_test false h = outputs_are h

pub outputs_first : (horizon : ℕ) (output stop : Option Nearest) (n : Nearest) → outlook_of horizon output stop ≡ outlook.Outputs n
    → (output ≡ Some n) × (n.borders ≤ horizon)
outputs_first horizon None stop n e = absurd cc
outputs_first horizon (Some m) stop n e = ⊎_elim
    (λ (h : (nat_le m.borders horizon ≡ true) × (m.borders ≤ horizon)).
    let same : m ≡ n = before_outputs m n stop (sym (ap (λ b. cond b (before m stop) (outlook.Is (behind horizon (Some m) stop))) h.0) ∙ e) in
    (ap Some same, subst (λ (x : Nearest). x.borders ≤ horizon) same h.1))
    (λ (h : (nat_le m.borders horizon ≡ false) × (horizon < m.borders)).
    absurd (let no : outlook.Is (behind horizon (Some m) stop) ≡ outlook.Outputs n =
    sym (ap (λ b. cond b (before m stop) (outlook.Is (behind horizon (Some m) stop))) h.0) ∙ e in cc))
    (leb_tells m.borders horizon)

-- what is reached first is the OUT of an output
pub is_out : (g : Lists) (v : Surveyed) (found : List (Option Nearest)) (starts : List Start) (output : Option Nearest) (n : Nearest) → AreMaps g v
    → found ≡ v.outputs → IsFirstOf found starts output → output ≡ Some n → IsOutOf g n.op
is_out g v found starts output n maps same first e =
    let r = first.reached n e in
    let back = further_back (kept found r.1.op) r.1.borders n r.3 in
    let is = first_there g maps.outs r.1.op (kept v.outputs r.1.op) back.0 (maps.outputs.each r.1.op) (ap (λ xs. kept xs r.1.op) (sym same) ∙ back.1) in
    let o = maps.outs_are.sound back.0.op is.looked_for in
    (o.0, o.1, o.2, o.3 ∙ ap (λ (x : Nearest). x.op) back.2)

-- which is an operation
pub out_inside : (g : Lists) (q : ℕ) → EntryLaws → IsPart g → IsOutOf g q → q < length g.operations
out_inside g q entries part out =
    let inside = (entries.output g out.0 out.1 part out.2).operation in
    let own = out.3 in
    omega (arith, inside, own)

pub audit_for : (g : Lists) (horizon : ℕ) (a : Audit) → IsAudit g horizon a → IsAudit g a.horizon a
audit_for g horizon a audit = subst (λ h. IsAudit g h a) (sym audit.horizon_is) audit

-- ---- what is told

module _ (g : Lists) (t : Numbers) (stops : List Stops) (v : Surveyed) (survey : IsSurvey (subject g t v.horizon stops) v) (any : Bool) (from : List Source)
    (starts : List Start) (is : starts ≡ starts_at g.profile from) (outputs able : List (Option Nearest)) (outputs_is : outputs ≡ v.outputs)
    (able_is : able ≡ v.stops) (output stop : Option Nearest) (first : IsFirstOf outputs starts output) (second : IsFirstOf able starts stop)
    (x : Outlook) (x_is : x ≡ outlook_of v.horizon output stop) where
  nearest_output : IsNearestFrom g survey.mapped.maps.outs from output
  nearest_output =
      nearest_from g survey.mapped.maps.outs v.outputs survey.mapped.maps.outputs g.profile from starts is output
      (subst (λ xs. IsFirstOf xs starts output) outputs_is first)

  nearest_stop : IsNearestFrom g survey.mapped.maps.able from stop
  nearest_stop =
      nearest_from g survey.mapped.maps.able v.stops survey.mapped.maps.stops g.profile from starts is stop (subst (λ xs. IsFirstOf xs starts stop) able_is second)

  spreads : Spreads (subject g t v.horizon stops) any from output x
  spreads =
      subst (Spreads (subject g t v.horizon stops) any from output) (sym x_is)
      (outlook_is (subject g t v.horizon stops) survey.mapped.maps.outs survey.mapped.maps.able survey.mapped.maps.outs_are survey.able_are any from output stop nearest_output
      nearest_stop)

  pub told_directly : (told : Effect) → x ≡ outlook.Is told → TellsOf (subject g t v.horizon stops) any from told
  told_directly told e = subst (Spreads (subject g t v.horizon stops) any from output) e spreads

  pub told_at_outputs : (n : Nearest) → x ≡ outlook.Outputs n → WeightsAreOfPaths g → WordLaws g.profile → EntryLaws → IsPart g → (number : ℕ)
      → slice_index_or v.numbers n.op 0 ≡ number → (told : Effect) → ToldAt g number n.borders any from told
      → TellsOf (subject g t v.horizon stops) any from told
  told_at_outputs n e unreached words entries part number number_is told told_so =
      let there : (output ≡ Some n) × FirstReached (subject g t v.horizon stops) from n.borders =
      subst (Spreads (subject g t v.horizon stops) any from output) e spreads in
      let one : IsFirstFrom g survey.mapped.maps.outs from n = subst (IsNearestFrom g survey.mapped.maps.outs from) there.0 nearest_output in
      told_is (subject g t v.horizon stops) v.weights survey.mapped.maps.outs survey.mapped.maps.able v.numbers survey.mapped.maps.weights unreached words entries part
      survey.mapped.maps.outs_are survey.able_are survey.mapped.maps.numbers any from n one there.1 number number_is told told_so

-- ---- what is amiss

pub rest_is : (d : Disturbance) (right : ℕ) → rest_of d ≡ Some right → d ≡ disturbance.AddToRest right
rest_is disturbance.AddToResult right e = absurd cc
rest_is (disturbance.AddToOperand j) right e = absurd cc
rest_is (disturbance.AddToRest n) right e = let same : n ≡ right = cc in ap disturbance.AddToRest same
rest_is (disturbance.Late j r) right e = absurd cc
rest_is (disturbance.Does a) right e = absurd cc

pub stands_rest : (g : Lists) (k : ℕ) (d : Disturbance) (right : ℕ) → d ≡ disturbance.AddToRest right → IsSited g k d → right < length (readings g k)
stands_rest g k d right is sited = ⊎_elim
    (λ (h : (nat_lt right (length (readings g k)) ≡ true) × (suc right ≤ length (readings g k))). let lt = h.1 in omega (arith, lt))
    (λ (h : (nat_lt right (length (readings g k)) ≡ false) × (length (readings g k) < suc right)).
    absurd (let passes : nat_lt right (length (readings g k)) ≡ true = subst (IsSited g k) is sited in let fails = h.0 in cc))
    (leb_tells (suc right) (length (readings g k)))

pub told_same : (s : Subject) (k : ℕ) (op : Op) (d : Disturbance) → slice_get s.graph.operations k ≡ Some op → does_the_same op.kind d ≡ true
    → Tells s k d told.Nothing
told_same s k op d there same =
    subst (TellsAt s k d told.Nothing) (sym there)
    (subst (λ b. UnlessSame b told.Nothing (TellsOf s (is_any d) (sources s.table s.graph k op d) told.Nothing)) (sym same) refl)

pub told_other : (s : Subject) (k : ℕ) (op : Op) (d : Disturbance) (answer : Effect) → slice_get s.graph.operations k ≡ Some op
    → does_the_same op.kind d ≡ false → TellsOf s (is_any d) (sources s.table s.graph k op d) answer → Tells s k d answer
told_other s k op d answer there other tells =
    subst (TellsAt s k d answer) (sym there)
    (subst (λ b. UnlessSame b answer (TellsOf s (is_any d) (sources s.table s.graph k op d) answer)) (sym other) tells)
