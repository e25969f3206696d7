-- SameKind: an operation that is done as one of another kind that does the same changes nothing.
use Rattle.std.proofs.Common.{◌≡◌, ◌≢◌, ◌⊎◌, ⊎_elim, inl, inr, ℕ, zero, suc, ◌+◌, ◌<◌, ◌==◌, ◌&&◌, ◌||◌, cond, Bool, true, false, List, [], ◌∷◌, ◌++◌, length}
use Rattle.std.proofs.Common.{slice_get, slice_index_or, ℤ, pos, ◌+ℤ◌, ◌-ℤ◌, ◌*ℤ◌, Option, Some, None, Ok, Err, ap, sym, subst, ◌∙◌, refl, arith}
use Rattle.std.specs.Prelude.{option_map}
use Rattle.std.proofs.lemmas.List.{length_push}
use Rattle.std.proofs.Math.IntN.{*ℤ_comm, *ℤ-zero}
use Rattle.std.proofs.lemmas.Int.{ints}
use Rattle.std.proofs.lemmas.Bool.{cases_lt}
use Rattle.std.proofs.lemmas.Bool.Decides.{eqb_tells}
use Rattle.vcp_base.specs.declared.kind.Kind.{Kind}
use Rattle.vcp_base.specs.declared.kind.Kind.TheVariants as kind
use Rattle.vcp_base.specs.declared.kind.StopKind.TheVariants as stop
use Rattle.vcp_base.specs.declared.kind.StopKind.{StopKind}
use Rattle.vcp_base.specs.declared.ty.Ty.{Ty}
use Rattle.vcp_base.specs.Values.{at}
use Rattle.vcp_base.specs.Kinds.{Outcome, multiplier, multipliers, outcome, same_stop}
use Rattle.vcp_base.specs.Types.{fits}
use Rattle.op_graph.specs.declared.op.Op.{Op}
use Rattle.op_graph.specs.declared.op.Outlet.{Outlet}
use Rattle.op_graph.specs.GraphRun.{CellsFit, Cycle, Stop, after, cycle, cycle_from, initial, outcome_of, outputs, own, stored}
use Rattle.op_graph.specs.Laws.{OperandLaws}
use Rattle.op_graph.specs.Lists.{Lists}
use Rattle.op_graph.specs.Rules.{IsGraph}
use Rattle.signature_table.specs.Signatures.{IsTableOf, Numbers}
use Rattle.fault_script.specs.declared.act.Act.{Act}
use Rattle.fault_script.specs.declared.act.Act.TheVariants as act
use Rattle.fault_script.specs.Differences.{Frame, brought, cycle_after, difference, difference_at, exchanged, frame, given_from, held_after, no_frame, origin}
use Rattle.fault_script.specs.Differences.{read}
use Rattle.fault_script.specs.Changes.{Acts}
use Rattle.fault_injector.specs.FaultRun.{Begun, begun, course, cycle_under, cycle_under_from, cycles_from, followed, given_by, operation_stop, outside, stop_or}
use Rattle.fault_injector.specs.FaultRun.{stop_under, unless_stopped}
use Rattle.fault_injector.specs.Stepping.{outcome_under, plain_operand}
use Rattle.fault_cover.specs.Touched.{UntouchedDifferByNothing}
use Rattle.coded_unit.specs.Words.{modulo}
use Rattle.coded_unit.specs.WordLaws.{WordLaws}
use Rattle.fault_injector.specs.Accepted.{first_unaccepted}
use Rattle.fault_injector.specs.declared.verdicts.Verdict.TheVariants as verdict
use Rattle.fault_injector.specs.Verdicts.{compared, judged, judged_cycle, plain_cycles, stops_alike, verdict_or}
use Rattle.vcp_base.specs.Differences.{first_difference}
use Rattle.fault_cover.specs.declared.disturbance.Disturbance.TheVariants as disturbance
use Rattle.fault_cover.specs.Certain.{IsSubject, StandsAt, verdict_under}
use Rattle.fault_cover.proofs.Dividing.{above_one}
use Rattle.fault_cover.proofs.Judging.{all_accepted, no_first_difference}
use Rattle.fault_cover.proofs.Untouched.{plain_outcome}
use Rattle.fault_cover.proofs.UntouchedRuns.{goes_on, no_stop, some_is}
use Rattle.fault_cover.specs.Telling.{Subject, copies, does_as, does_the_same, gives_own}

-- ---- the two kinds

own_multipliers : (k : Kind) → gives_own k ≡ true → multipliers k ≡ []
own_multipliers kind.Input is = refl
own_multipliers kind.Const is = refl
own_multipliers kind.Load is = absurd cc
own_multipliers kind.Store is = absurd cc
own_multipliers kind.Out is = absurd cc
own_multipliers kind.Conv is = absurd cc
own_multipliers kind.Neg is = absurd cc
own_multipliers kind.Not is = absurd cc
own_multipliers kind.Add is = absurd cc
own_multipliers kind.Sub is = absurd cc
own_multipliers kind.Mul is = absurd cc
own_multipliers kind.Div is = absurd cc
own_multipliers kind.Mod is = absurd cc
own_multipliers kind.Eq is = absurd cc
own_multipliers kind.Lt is = absurd cc
own_multipliers kind.And is = absurd cc
own_multipliers kind.Or is = absurd cc
own_multipliers kind.Xor is = absurd cc
own_multipliers kind.Sel is = absurd cc

copied_multipliers : (k : Kind) → copies k ≡ true → multipliers k ≡ pos 1 ∷ []
copied_multipliers kind.Input is = absurd cc
copied_multipliers kind.Const is = absurd cc
copied_multipliers kind.Load is = refl
copied_multipliers kind.Store is = refl
copied_multipliers kind.Out is = refl
copied_multipliers kind.Conv is = refl
copied_multipliers kind.Neg is = absurd cc
copied_multipliers kind.Not is = absurd cc
copied_multipliers kind.Add is = absurd cc
copied_multipliers kind.Sub is = absurd cc
copied_multipliers kind.Mul is = absurd cc
copied_multipliers kind.Div is = absurd cc
copied_multipliers kind.Mod is = absurd cc
copied_multipliers kind.Eq is = absurd cc
copied_multipliers kind.Lt is = absurd cc
copied_multipliers kind.And is = absurd cc
copied_multipliers kind.Or is = absurd cc
copied_multipliers kind.Xor is = absurd cc
copied_multipliers kind.Sel is = absurd cc

own_outcome : (k : Kind) (from to : Ty) (imm a b c : ℤ) → gives_own k ≡ true → outcome k from to imm a b c ≡ cond (fits to imm) (Ok imm) (Err stop.Range)
own_outcome kind.Input from to imm a b c is = refl
own_outcome kind.Const from to imm a b c is = refl
own_outcome kind.Load from to imm a b c is = absurd cc
own_outcome kind.Store from to imm a b c is = absurd cc
own_outcome kind.Out from to imm a b c is = absurd cc
own_outcome kind.Conv from to imm a b c is = absurd cc
own_outcome kind.Neg from to imm a b c is = absurd cc
own_outcome kind.Not from to imm a b c is = absurd cc
own_outcome kind.Add from to imm a b c is = absurd cc
own_outcome kind.Sub from to imm a b c is = absurd cc
own_outcome kind.Mul from to imm a b c is = absurd cc
own_outcome kind.Div from to imm a b c is = absurd cc
own_outcome kind.Mod from to imm a b c is = absurd cc
own_outcome kind.Eq from to imm a b c is = absurd cc
own_outcome kind.Lt from to imm a b c is = absurd cc
own_outcome kind.And from to imm a b c is = absurd cc
own_outcome kind.Or from to imm a b c is = absurd cc
own_outcome kind.Xor from to imm a b c is = absurd cc
own_outcome kind.Sel from to imm a b c is = absurd cc

copied_outcome : (k : Kind) (from to : Ty) (imm a b c : ℤ) → copies k ≡ true
    → outcome k from to imm a b c ≡ cond (fits from a && true && true) (cond (fits to a) (Ok a) (Err stop.Range)) (Err stop.Operand)
copied_outcome kind.Input from to imm a b c is = absurd cc
copied_outcome kind.Const from to imm a b c is = absurd cc
copied_outcome kind.Load from to imm a b c is = refl
copied_outcome kind.Store from to imm a b c is = refl
copied_outcome kind.Out from to imm a b c is = refl
copied_outcome kind.Conv from to imm a b c is = refl
copied_outcome kind.Neg from to imm a b c is = absurd cc
copied_outcome kind.Not from to imm a b c is = absurd cc
copied_outcome kind.Add from to imm a b c is = absurd cc
copied_outcome kind.Sub from to imm a b c is = absurd cc
copied_outcome kind.Mul from to imm a b c is = absurd cc
copied_outcome kind.Div from to imm a b c is = absurd cc
copied_outcome kind.Mod from to imm a b c is = absurd cc
copied_outcome kind.Eq from to imm a b c is = absurd cc
copied_outcome kind.Lt from to imm a b c is = absurd cc
copied_outcome kind.And from to imm a b c is = absurd cc
copied_outcome kind.Or from to imm a b c is = absurd cc
copied_outcome kind.Xor from to imm a b c is = absurd cc
copied_outcome kind.Sel from to imm a b c is = absurd cc

both : (a b : Bool) → (a && b) ≡ true → (a ≡ true) × (b ≡ true)
both true b e = (refl, e)
both false b e = absurd cc

one_of : (a b : Bool) → (a || b) ≡ true → (a ≡ true) ⊎ (b ≡ true)
one_of true b e = inl refl
one_of false b e = inr e

pub same_multipliers : (k other : Kind) → does_as k other ≡ true → multipliers other ≡ multipliers k
same_multipliers k other is = ⊎_elim
    (λ (h : (gives_own k && gives_own other) ≡ true).
    let t = both (gives_own k) (gives_own other) h in own_multipliers other t.1 ∙ sym (own_multipliers k t.0))
    (λ (h : (copies k && copies other) ≡ true).
    let t = both (copies k) (copies other) h in copied_multipliers other t.1 ∙ sym (copied_multipliers k t.0))
    (one_of (gives_own k && gives_own other) (copies k && copies other) is)

pub same_outcome_of : (k other : Kind) (from to : Ty) (imm a b c : ℤ) → does_as k other ≡ true → outcome other from to imm a b c ≡ outcome k from to imm a b c
same_outcome_of k other from to imm a b c is = ⊎_elim
    (λ (h : (gives_own k && gives_own other) ≡ true).
    let t = both (gives_own k) (gives_own other) h in own_outcome other from to imm a b c t.1 ∙ sym (own_outcome k from to imm a b c t.0))
    (λ (h : (copies k && copies other) ≡ true).
    let t = both (copies k) (copies other) h in copied_outcome other from to imm a b c t.1 ∙ sym (copied_outcome k from to imm a b c t.0))
    (one_of (gives_own k && gives_own other) (copies k && copies other) is)

-- ---- differences

weighed_by : List ℤ → ℤ → ℤ → ℤ → ℤ
weighed_by ms x y z = slice_index_or ms 0 (pos 0) *ℤ x +ℤ slice_index_or ms 1 (pos 0) *ℤ y +ℤ slice_index_or ms 2 (pos 0) *ℤ z

no_exchange : (t : Numbers) (g : Lists) (op : Op) (other : Kind) (j : ℕ) → multipliers other ≡ multipliers op.kind → exchanged t g op other j ≡ pos 0
no_exchange t g op other j same =
    let m = multiplier op.kind j in
    let equal : multiplier other j ≡ m = ap (λ ms. slice_index_or ms j (pos 0)) same in
    let none : multiplier other j -ℤ m ≡ pos 0 = omega (arith, ints) in
    ap (λ x. x *ℤ origin t g op j) none ∙ *ℤ_comm (pos 0) (origin t g op j) ∙ *ℤ-zero (origin t g op j)

-- the act has the difference that there is without it
pub same_difference : (t : Numbers) (g : Lists) (past now : Frame) (k : ℕ) (op : Op) (other : Kind) → does_as op.kind other ≡ true
    → difference t g past now k op (Some (act.Operator other)) ≡ difference t g past now k op None
unfolding weighed_by
same_difference t g past now k op other is =
    let same = same_multipliers op.kind other is in
    let first = no_exchange t g op other 0 same in
    let second = no_exchange t g op other 1 same in
    let third = no_exchange t g op other 2 same in
    let brings : brought now op other ≡ brought now op op.kind = ap (λ ms. weighed_by ms (read now op 0) (read now op 1) (read now op 2)) same in
    let b = brought now op other in
    let x = exchanged t g op other 0 in
    let y = exchanged t g op other 1 in
    let z = exchanged t g op other 2 in
    let none : b +ℤ (x +ℤ y +ℤ z) ≡ b = omega (arith, ints) in
    none ∙ brings

-- no act stands there, or one that does the same as the operation
pub record IsIdle (op : Op) (a : Option Act) : Type 0 where
  pub is : (a ≡ None) ⊎ ((other : Kind) × (a ≡ Some (act.Operator other)) × (does_as op.kind other ≡ true))

idle_difference : (t : Numbers) (g : Lists) (past now : Frame) (k : ℕ) (op : Op) (a : Option Act) → IsIdle op a
    → difference t g past now k op a ≡ difference t g past now k op None
idle_difference t g past now k op a idle = ⊎_elim
    (λ (e : a ≡ None). ap (difference t g past now k op) e)
    (λ (e : (other : Kind) × (a ≡ Some (act.Operator other)) × (does_as op.kind other ≡ true)).
    ap (difference t g past now k op) e.1 ∙ same_difference t g past now k op e.0 e.2)
    idle.is

same_given : (t : Numbers) (g : Lists) (acts : ℕ → Option Act) (past : Frame) (held before : List ℤ) (k : ℕ) (ops : List Op)
    → ((i : ℕ) (op : Op) → slice_get ops i ≡ Some op → IsIdle op (acts (k + i)))
    → given_from t g acts past held before k ops ≡ given_from t g (λ i. None) past held before k ops
same_given t g acts past held before k [] idle = refl
same_given t g acts past held before k (op ∷ ops) idle =
    let now : Frame = record { held = held; given = before } in
    let d = difference t g past now k op (acts k) in
    let here : IsIdle op (acts k) = subst (λ m. IsIdle op (acts m)) (let none : k + 0 ≡ k = omega arith in none) (idle 0 op refl) in
    same_given t g acts past held (before ++ d ∷ []) (k + 1) ops
    (λ i o there. subst (λ m. IsIdle o (acts m)) (let more : k + suc i ≡ (k + 1) + i = omega arith in more) (idle (suc i) o there))
    ∙ ap (λ x. given_from t g (λ i. None) past held (before ++ x ∷ []) (k + 1) ops) (idle_difference t g past now k op (acts k) here)

-- each act of a run does the same as its operation
abbrev pub AreIdle : Lists → Acts → Type 0
AreIdle g acts = (n k : ℕ) (op : Op) → slice_get g.operations k ≡ Some op → IsIdle op (acts n k)

same_frame : (t : Numbers) (g : Lists) (acts : Acts) → AreIdle g acts → (n : ℕ) → frame t g acts n ≡ frame t g (λ m k. None) n
same_frame t g acts idle zero =
    ap (λ xs. record { held = held_after g no_frame.given; given = xs })
    (same_given t g (acts 0) no_frame (held_after g no_frame.given) [] 0 g.operations
    (λ i op there. subst (λ m. IsIdle op (acts 0 m)) (let none : i ≡ 0 + i = omega arith in none) (idle 0 i op there)))
same_frame t g acts idle (suc n) =
    ap (λ xs. record { held = held_after g (frame t g acts n).given; given = xs })
    (same_given t g (acts (suc n)) (frame t g acts n) (held_after g (frame t g acts n).given) [] 0 g.operations
    (λ i op there. subst (λ m. IsIdle op (acts (suc n) m)) (let none : i ≡ 0 + i = omega arith in none) (idle (suc n) i op there)))
    ∙ ap (cycle_after t g (λ k. None)) (same_frame t g acts idle n)

no_idle_difference : (t : Numbers) (g : Lists) (acts : Acts) → IsGraph g → UntouchedDifferByNothing → AreIdle g acts → (n k : ℕ)
    → difference_at t g acts n k ≡ pos 0
no_idle_difference t g acts graph none idle n k =
    ap (λ (f : Frame). at f.given k) (same_frame t g acts idle n)
    ∙ none t g (λ m q. None) n k graph (λ touched. touched.stands refl)

-- ---- values

idle_outcome : (b : Begun) (values : List ℤ) (op : Op) → IsIdle op (b.acts (length values)) → given_by b values op ≡ outcome_of b.held b.row values op
idle_outcome b values op idle = ⊎_elim
    (λ (e : b.acts (length values) ≡ None).
    ap (outcome_under b.table b.graph b.cycle b.row (course b values) (length values) op) e ∙ plain_outcome b b.held values values op (λ is. refl)
    (λ j reads. refl))
    (λ (e : (other : Kind) × (b.acts (length values) ≡ Some (act.Operator other)) × (does_as op.kind other ≡ true)).
    let f : Frame = record { held = b.held; given = values } in
    ap (outcome_under b.table b.graph b.cycle b.row (course b values) (length values) op) e.1
    ∙ same_outcome_of op.kind e.0 op.from op.ty (own b.row op.kind op.imm) (plain_operand f op 0) (plain_operand f op 1) (plain_operand f op 2) e.2
    ∙ plain_outcome b b.held values values op (λ is. refl) (λ j reads. refl))
    idle.is

after_alike : (values : List ℤ) (next other : ℤ → Cycle) (x y : Outcome) → x ≡ y → ((v : ℤ) → next v ≡ other v) → after values next x ≡ after values other y
after_alike values next other x y e same = ap (after values next) e ∙ by_outcome y
  where
    by_outcome : (z : Outcome) → after values next z ≡ after values other z
    by_outcome (Ok v) = same v
    by_outcome (Err why) = refl

idle_cycle : (b : Begun) (values : List ℤ) (ops : List Op) → ((i : ℕ) (op : Op) → slice_get ops i ≡ Some op → IsIdle op (b.acts (length values + i)))
    → cycle_under_from b values ops ≡ cycle_from b.held b.row values ops
idle_cycle b values [] idle = refl
idle_cycle b values (op ∷ ops) idle =
    after_alike values (λ v. cycle_under_from b (values ++ v ∷ []) ops) (λ v. cycle_from b.held b.row (values ++ v ∷ []) ops) (given_by b values op)
    (outcome_of b.held b.row values op)
    (idle_outcome b values op (subst (λ m. IsIdle op (b.acts m)) (let none : length values + 0 ≡ length values = omega arith in none) (idle 0 op refl)))
    (λ v. idle_cycle b (values ++ v ∷ []) ops (λ i o there. subst (λ m. IsIdle o (b.acts m))
    (let count = length_push values v in let more : length values + suc i ≡ length (values ++ v ∷ []) + i = omega (arith, count) in more)
    (idle (suc i) o there)))

outside_none : (values : List ℤ) (outs : List Outlet) → ((i : ℕ) (o : Outlet) → slice_get outs i ≡ Some o → fits o.ty (at values o.op) ≡ true)
    → outside values outs ≡ None
outside_none values [] all = refl
outside_none values (o ∷ outs) all =
    ap (λ b. cond b (outside values outs) (Some (record { op = o.op; kind = stop.Operand }))) (all 0 o refl) ∙ outside_none values outs
    (λ i p there. all (suc i) p there)

unless_same : (o : Option Stop) (later other : List Cycle) → (o ≡ None → later ≡ other) → unless_stopped o later ≡ unless_stopped o other
unless_same None later other same = same refl
unless_same (Some s) later other same = refl

same_place : (n : ℕ) → (n == n) ≡ true
same_place n = ⊎_elim (λ (h : ((n == n) ≡ true) × (n ≡ n)). h.0) (λ (h : ((n == n) ≡ false) × (n ≢ n)). absurd (h.1 refl)) (eqb_tells n n)

same_cause : (why : StopKind) → same_stop why why ≡ true
same_cause stop.Range = refl
same_cause stop.DivZero = refl
same_cause stop.Operand = refl

alike_itself : (s : Stop) → stops_alike s (Some s) ≡ true
alike_itself s = ap (λ b. b && same_stop s.kind s.kind) (same_place s.op) ∙ same_cause s.kind

module _ (t : Numbers) (g : Lists) (acts : Acts) (graph : IsGraph g) (operands_fit : OperandLaws) (idle : AreIdle g acts) where
  one_cycle_is : (n : ℕ) (past : Frame) (held row : List ℤ) → cycle_under (begun t g acts n past held row) ≡ cycle g held row
  one_cycle_is n past held row =
      idle_cycle (begun t g acts n past held row) [] g.operations
      (λ i op there. subst (λ m. IsIdle op (acts n m)) (let none : i ≡ 0 + i = omega arith in none) (idle n i op there))

  stops_as : (held row : List ℤ) → CellsFit g held → stop_under g (cycle g held row) ≡ operation_stop (cycle g held row)
  stops_as held row cells_fit = by_stop (cycle g held row).stop refl
    where
      by_stop : (x : Option StopKind) → (cycle g held row).stop ≡ x → stop_under g (cycle g held row) ≡ operation_stop (cycle g held row)
      by_stop None e =
          let none : operation_stop (cycle g held row) ≡ None = ap (option_map (λ why. record { op = length (cycle g held row).values; kind = why })) e in
          ap (λ o. stop_or o (outside (cycle g held row).values g.outputs)) none
          ∙ outside_none (cycle g held row).values g.outputs (operands_fit.outputs g held row graph cells_fit e) ∙ sym none
      by_stop (Some why) e =
          let some : operation_stop (cycle g held row) ≡ Some (record { op = length (cycle g held row).values; kind = why }) =
          ap (option_map (λ w. record { op = length (cycle g held row).values; kind = w })) e in
          ap (λ o. stop_or o (outside (cycle g held row).values g.outputs)) some ∙ sym some

  kept_fit : (held row : List ℤ) → CellsFit g held → operation_stop (cycle g held row) ≡ None → CellsFit g (stored g (cycle g held row).values)
  kept_fit held row cells_fit none = operands_fit.cells_kept g held row graph cells_fit (no_stop (cycle g held row) none)

  runs_same : (rows : List (List ℤ)) (n : ℕ) (past : Frame) (held : List ℤ) → CellsFit g held → cycles_from t g acts n past held rows ≡ plain_cycles g held rows
  runs_same [] n past held cells_fit = refl
  runs_same (row ∷ rows) n past held cells_fit =
      let p = cycle g held row in
      let next = λ (x : Cycle). cycles_from t g acts (suc n) (record { held = held; given = x.values }) (stored g x.values) rows in
      ap (followed (stop_under g) next) (one_cycle_is n past held row) ∙ ap (λ o. p ∷ unless_stopped o (next p)) (stops_as held row cells_fit)
      ∙ ap (λ xs. p ∷ xs) (unless_same (operation_stop p) (next p) (plain_cycles g (stored g p.values) rows)
      (λ none. runs_same rows (suc n) (record { held = held; given = p.values }) (stored g p.values) (kept_fit held row cells_fit none)))

  plain_stops : (rows : List (List ℤ)) (held : List ℤ) → CellsFit g held → (i : ℕ) (c : Cycle) → slice_get (plain_cycles g held rows) i ≡ Some c
      → stop_under g c ≡ operation_stop c
  plain_stops [] held cells_fit i c there = absurd cc
  plain_stops (row ∷ rows) held cells_fit zero c there =
      subst (λ (x : Cycle). stop_under g x ≡ operation_stop x) (some_is there) (stops_as held row cells_fit)
  plain_stops (row ∷ rows) held cells_fit (suc i) c there =
      let p = cycle g held row in
      let on = goes_on (operation_stop p) (plain_cycles g (stored g p.values) rows) i c there in
      plain_stops rows (stored g p.values) (kept_fit held row cells_fit on.0) i c on.1

  no_unaccepted : UntouchedDifferByNothing → IsTableOf t g → WordLaws g.profile → (m : ℕ) → first_unaccepted t g acts m 0 g.outputs ≡ None
  no_unaccepted untouched table words m = all_accepted t g acts m 0 g.outputs (λ i o there.
      ap (modulo t.profile) (no_idle_difference t g acts graph untouched idle m o.op) ∙ ap (λ q. modulo q (pos 0)) table.0
      ∙ words.small 0 (let above = above_one g.profile in omega (arith, above)))

  same_verdict : UntouchedDifferByNothing → IsTableOf t g → WordLaws g.profile → (i : ℕ) (cs : List Cycle)
      → ((j : ℕ) (c : Cycle) → slice_get cs j ≡ Some c → stop_under g c ≡ operation_stop c) → compared t g acts i cs cs ≡ verdict.Same
  same_verdict untouched table words i [] stops = refl
  same_verdict untouched table words i (c ∷ cs) stops =
      by_stop (operation_stop c) refl (same_verdict untouched table words (suc i) cs (λ j d there. stops (suc j) d there))
    where
      wrong : first_difference (outputs g c.values) (outputs g c.values) 0 ≡ None
      wrong = no_first_difference (λ o. at c.values o.op) (λ o. at c.values o.op) g.outputs 0 (λ j o there. refl)

      judged_as : judged_cycle t g acts i c c ≡ judged i (operation_stop c) None (operation_stop c) None
      judged_as =
          ap (λ x. judged i x (first_unaccepted t g acts i 0 g.outputs) (operation_stop c) (first_difference (outputs g c.values) (outputs g c.values) 0))
          (stops 0 c refl)
          ∙ ap (λ x. judged i (operation_stop c) x (operation_stop c) (first_difference (outputs g c.values) (outputs g c.values) 0))
          (no_unaccepted untouched table words i)
          ∙ ap (λ x. judged i (operation_stop c) None (operation_stop c) x) wrong

      by_stop : (x : Option Stop) → operation_stop c ≡ x → compared t g acts (suc i) cs cs ≡ verdict.Same → compared t g acts i (c ∷ cs) (c ∷ cs) ≡ verdict.Same
      by_stop None e more =
          ap (λ v. verdict_or v (compared t g acts (suc i) cs cs)) (judged_as ∙ ap (λ x. judged i x None x None) e)
          ∙ more
      by_stop (Some s) e more =
          ap (λ v. verdict_or v (compared t g acts (suc i) cs cs)) (judged_as ∙ ap (λ x. judged i x None x None) e
          ∙ ap (λ b. Some (cond b verdict.Same (verdict.Stopped i s.op s.kind))) (alike_itself s))

  pub idle_run : UntouchedDifferByNothing → IsTableOf t g → WordLaws g.profile → (rows : List (List ℤ)) → verdict_under t g acts rows ≡ verdict.Same
  idle_run untouched table words rows =
      let at_first = operands_fit.cells_at_first g graph in
      let same = runs_same rows 0 no_frame (initial g) at_first in
      ap (λ cs. compared t g acts 0 cs (plain_cycles g (initial g) rows)) same
      ∙ same_verdict untouched table words 0 (plain_cycles g (initial g) rows) (plain_stops rows (initial g) at_first)

-- an operation that is done once as one of another kind that does the same
pub same_kind : (s : Subject) (acts : Acts) (rows : List (List ℤ)) (n k : ℕ) (other : Kind) (op : Op) → IsSubject s → OperandLaws → UntouchedDifferByNothing
    → WordLaws s.graph.profile → StandsAt acts n k (act.Operator other) → slice_get s.graph.operations k ≡ Some op
    → does_the_same op.kind (disturbance.Does (act.Operator other)) ≡ true → ((m : ℕ) → n < m → acts m k ≡ None)
    → verdict_under s.table s.graph acts rows ≡ verdict.Same
same_kind s acts rows n k other op is operands_fit untouched words stands there same later =
    idle_run s.table s.graph acts is.graph operands_fit idle untouched is.table_is words rows
  where
    op_is : {x y : Op} → Some x ≡ Some y → x ≡ y
    op_is e = cc

    at_operation : (m : ℕ) (o : Op) → slice_get s.graph.operations k ≡ Some o → IsIdle o (acts m k)
    at_operation m o here = ⊎_elim
        (λ (e : ((m == n) ≡ true) × (m ≡ n)). record {
          is = inr (other, ap (λ x. acts x k) e.1 ∙ stands.first, ap (λ (x : Op). does_as x.kind other) (op_is (sym here ∙ there)) ∙ same);
        })
        (λ (e : ((m == n) ≡ false) × (m ≢ n)). record {
          is = inl (elim (cases_lt m n) [
            | inl lt ↦ stands.before m lt
            | inr le ↦ later m (let ne = e.1 in omega (arith, le, ne))
          ]);
        })
        (eqb_tells m n)

    idle : AreIdle s.graph acts
    idle m q o here = ⊎_elim
        (λ (e : ((q == k) ≡ true) × (q ≡ k)).
        subst (λ x. IsIdle o (acts m x)) (sym e.1) (at_operation m o (subst (λ x. slice_get s.graph.operations x ≡ Some o) e.1 here)))
        (λ (e : ((q == k) ≡ false) × (q ≢ k)). record { is = inl (stands.alone m q e.1) })
        (eqb_tells q k)
