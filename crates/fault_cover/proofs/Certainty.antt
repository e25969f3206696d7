-- Certainty: a fault that is told to be refused, or to come to nothing, is so in every run.
use Rattle.std.proofs.Common.{◌≡◌, ◌≢◌, ⊎_elim, inl, inr, ℕ, ◌+◌, ◌-◌, ◌<◌, ◌≤◌, ◌==◌, nat_le, cond, Bool, true, false, ◌||◌, List, [], ◌∷◌, length, take}
use Rattle.std.proofs.Common.{slice_get, ℤ, pos, ◌+ℤ◌, ◌*ℤ◌, Option, Some, None, ap, sym, subst, ◌∙◌, refl, arith}
use Rattle.std.specs.Prelude.{option_map}
use Rattle.std.proofs.Math.IntN.{*ℤ_comm}
use Rattle.std.proofs.lemmas.Bool.{cases_lt}
use Rattle.std.proofs.lemmas.Bool.Decides.{eqb_tells, leb_tells}
use Rattle.std.proofs.lemmas.Int.{ints}
use Rattle.std.proofs.lemmas.Option.{slice_get_past}
use Rattle.vcp_base.specs.declared.kind.StopKind.{StopKind}
use Rattle.vcp_base.specs.declared.kind.StopKind.TheVariants as stop
use Rattle.vcp_base.specs.Values.{at}
use Rattle.coded_unit.specs.Words.{modulo}
use Rattle.coded_unit.specs.WordLaws.{WordLaws}
use Rattle.op_graph.specs.declared.op.Op.{Op}
use Rattle.op_graph.specs.declared.op.Outlet.{Outlet}
use Rattle.op_graph.specs.GraphRun.{Cycle, Stop, cells_after, cycle, initial, outputs}
use Rattle.op_graph.specs.Laws.{CellLaws, EntryLaws, ReadLaws}
use Rattle.op_graph.specs.Lists.{Lists}
use Rattle.op_graph.specs.Reads.{Reads}
use Rattle.op_graph.specs.Rules.{IsGraph}
use Rattle.range_audit.specs.Audit.{RowsFit}
use Rattle.range_walk.specs.declared.range.Stops.{Stops}
use Rattle.range_walk.specs.Known.{is_any_named, is_named}
use Rattle.fault_script.specs.declared.act.Act.{Act}
use Rattle.fault_script.specs.Changes.{Acts}
use Rattle.fault_script.specs.Differences.{difference_at, made}
use Rattle.fault_injector.specs.FaultRun.{operation_stop, outside, stop_under}
use Rattle.fault_injector.specs.Accepted.{first_unaccepted}
use Rattle.fault_injector.specs.declared.verdicts.Verdict.{Verdict}
use Rattle.fault_injector.specs.declared.verdicts.Verdict.TheVariants as verdict
use Rattle.fault_injector.specs.Verdicts.{compared, judged, judged_cycle, plain_cycles, stops_alike}
use Rattle.vcp_base.specs.Differences.{first_difference}
use Rattle.weight_audit.specs.Paths.{Reached}
use Rattle.weight_audit.specs.Weights.{sums, weight}
use Rattle.fault_cover.specs.Certain.{IsQuiet, IsSubject, StandsAt}
use Rattle.fault_cover.specs.Sources.{Source, comes, source_at}
use Rattle.fault_cover.specs.Telling.{NoOutputBefore, NoStopBefore, Nowhere, Reaches, Subject}
use Rattle.fault_cover.specs.Touched.{FirstComesAlone, IsTouched, SameUntouched, UntouchedDifferByNothing}
use Rattle.fault_cover.proofs.Choosing.{contained_first}
use Rattle.fault_cover.proofs.Dividing.{above_one, times_residue, times_scaled}
use Rattle.fault_cover.proofs.Judging.{IsFirstUnaccepted, alike_quiet, all_accepted, compared_at, compared_by, judged_none, judged_quiet, no_first_difference}
use Rattle.fault_cover.proofs.UntouchedRuns.{IsRun, cycle_within, first_none, no_stop, plain_cycle_is}

-- a stop that is named so is one however it may be
named_any : (why : StopKind) (o : Option Stops) → is_named why o ≡ true → is_any_named o ≡ true
named_any stop.Range None e = absurd cc
named_any stop.Range (Some s) e = ap (λ b. b || s.div_zero) e
named_any stop.DivZero None e = absurd cc
named_any stop.DivZero (Some s) e = either s.range s.div_zero e
  where
    either : (a b : Bool) → b ≡ true → (a || b) ≡ true
    either true b h = refl
    either false b h = h
named_any stop.Operand None e = absurd cc
named_any stop.Operand (Some s) e = absurd cc

-- what stands of the laws below
pub record Laws (g : Lists) : Type 0 where
  pub words : WordLaws g.profile
  pub entries : EntryLaws
  pub cells : CellLaws
  pub earlier : (q k j : ℕ) → Reads g.operations q k j → k < q
  pub none : UntouchedDifferByNothing
  pub alone : FirstComesAlone

pub laws_of : (g : Lists) → IsGraph g → WordLaws g.profile → EntryLaws → CellLaws → ReadLaws → UntouchedDifferByNothing → FirstComesAlone → Laws g
laws_of g graph words entries cells reads none alone = record {
  words = words;
  entries = entries;
  cells = cells;
  earlier = λ q r j read. reads.earlier g q r j graph.part read;
  none = none;
  alone = alone;
}

-- what is touched in a cycle is reached from the fault, across no more borders than lie between
pub record Touching (g : Lists) (from : List Source) (n m q : ℕ) : Type 0 where
  pub more : ℕ
  pub borders : n + more ≤ m
  pub reaches : Reaches g from more q

pub touching : (g : Lists) (acts : Acts) (n k : ℕ) (a : Act) (amount : ℤ) → StandsAt acts n k a → (m q : ℕ) → IsTouched g acts m q
    → Touching g (source_at k 0 amount ∷ []) n m q
touching g acts n k a amount stands m q touched =
    let at_it : touched.op ≡ k = here in
    let late : n ≤ touched.cycle = later in
    let borders = touched.borders in
    record {
      more = touched.more;
      borders = omega (arith, late, borders);
      reaches = record {
        source = source_at k 0 amount;
        among = contained_first (source_at k 0 amount) [];
        more = touched.more;
        borders_are = omega arith;
        path = subst (Reached g q touched.more) at_it touched.path;
      };
    }
  where
    here : touched.op ≡ k
    here = ⊎_elim
        (λ (e : ((touched.op == k) ≡ true) × (touched.op ≡ k)). e.1)
        (λ (e : ((touched.op == k) ≡ false) × (touched.op ≢ k)). absurd (touched.stands (stands.alone touched.cycle touched.op e.1)))
        (eqb_tells touched.op k)

    later : n ≤ touched.cycle
    later = elim (cases_lt touched.cycle n) [
      | inl lt ↦ absurd (touched.stands (subst (λ x. acts touched.cycle x ≡ None) (sym here) (stands.before touched.cycle lt)))
      | inr le ↦ le
    ]

-- nothing that shows is touched in the cycles before cycle n + h: no output, and nothing that may stop
pub record Hidden (s : Subject) (acts : Acts) (below : ℕ → Type 0) : Type 0 where
  pub outputs : (m i : ℕ) (o : Outlet) → below m → slice_get s.graph.outputs i ≡ Some o → IsTouched s.graph acts m o.op → ⊥
  pub stops : (m q : ℕ) → below m → is_any_named (slice_get s.stops q) ≡ true → IsTouched s.graph acts m q → ⊥

-- whatever is touched is reached from these sources
abbrev pub TouchesFrom : Lists → Acts → ℕ → List Source → Type 0
TouchesFrom g acts n from = (m q : ℕ) → IsTouched g acts m q → Touching g from n m q

pub hidden_before : (s : Subject) (acts : Acts) (n : ℕ) (from : List Source) (h : ℕ) → TouchesFrom s.graph acts n from → NoOutputBefore s from h
    → NoStopBefore s from h → Hidden s acts (λ m. m < n + h)
hidden_before s acts n from h touches outs stops = record {
  outputs = λ m i o lt here touched.
      let t = touches m o.op touched in
      let borders = t.borders in
      outs t.more i (omega (arith, lt, borders)) (record { output = o; there = here; reaches = t.reaches });
  stops = λ m q lt may touched.
      let t = touches m q touched in
      let borders = t.borders in
      stops t.more q (omega (arith, lt, borders)) (record { may = may; reaches = t.reaches });
}

pub hidden_always : (s : Subject) (acts : Acts) (n : ℕ) (from : List Source) → TouchesFrom s.graph acts n from → Nowhere s from
    → Hidden s acts (λ m. Unit {0})
hidden_always s acts n from touches nowhere = record {
  outputs = λ m i o lt here touched.
      let t = touches m o.op touched in
      nowhere.outputs t.more i (record { output = o; there = here; reaches = t.reaches });
  stops = λ m q lt may touched.
      let t = touches m q touched in
      nowhere.stops t.more q (record { may = may; reaches = t.reaches });
}

-- where a run with the acts doesn't stop in a cycle, the other doesn't either, all outputs are accepted, and none differs
pub record Passes (s : Subject) (acts : Acts) (m : ℕ) (c p : Cycle) : Type 0 where
  pub other : operation_stop p ≡ None
  pub accepted : first_unaccepted s.table s.graph acts m 0 s.graph.outputs ≡ None
  pub outputs_same : first_difference (outputs s.graph c.values) (outputs s.graph p.values) 0 ≡ None

module _ (s : Subject) (is : IsSubject s) (laws : Laws s.graph) (acts : Acts) (rows : List (List ℤ)) (fit : RowsFit s.graph rows)
    (run : List Cycle) (is_run : IsRun s.graph acts rows run) (below : ℕ → Type 0) (hidden : Hidden s acts below) where
  -- the run without acts stops at an operation that is named
  plain_named : (m : ℕ) (p : Cycle) (why : StopKind) → slice_get (plain_cycles s.graph (initial s.graph) rows) m ≡ Some p → p.stop ≡ Some why
      → is_any_named (slice_get s.stops (length p.values)) ≡ true
  plain_named m p why that e =
      let c = plain_cycle_is s.graph rows (initial s.graph) m p that in
      let stops = ap (λ (x : Cycle). x.stop) (sym c.2) ∙ e in
      let named = is.stops (take m rows) c.0 why (fit m c.0 c.1) stops in
      subst (λ (x : Cycle). is_any_named (slice_get s.stops (length x.values)) ≡ true) (sym c.2) (named_any why
      (slice_get s.stops (length (cycle s.graph (cells_after s.graph (initial s.graph) (take m rows)) c.0).values)) named)

  plain_few : (m : ℕ) (p : Cycle) → slice_get (plain_cycles s.graph (initial s.graph) rows) m ≡ Some p → length p.values ≤ length s.graph.operations
  plain_few m p that =
      let c = plain_cycle_is s.graph rows (initial s.graph) m p that in
      let few = cycle_within (cells_after s.graph (initial s.graph) (take m rows)) c.0 [] s.graph.operations in
      subst (λ (x : Cycle). length x.values ≤ length s.graph.operations) (sym c.2) (omega (arith, few))

  passes : (m : ℕ) (c p : Cycle) → below m → slice_get run m ≡ Some c
      → slice_get (plain_cycles s.graph (initial s.graph) rows) m ≡ Some p → stop_under s.graph c ≡ None → Passes s acts m c p
  passes m c p low here that none = record { other = other; accepted = accepted; outputs_same = outputs_same }
    where
      no_stop_here : c.stop ≡ None
      no_stop_here = no_stop c (first_none (operation_stop c) (outside c.values s.graph.outputs) none)

      all : length c.values ≡ length s.graph.operations
      all = is_run.whole m c here no_stop_here

      alike : SameUntouched s.graph acts m c p
      alike = is_run.same m c p here that

      no_stop_there : (x : Option StopKind) → p.stop ≡ x → p.stop ≡ None
      no_stop_there None e = e
      no_stop_there (Some why) e =
          let few = plain_few m p that in
          let back = alike.stops_back (length p.values) (λ touched. hidden.stops m (length p.values) low (plain_named m p why that e) touched) refl
          (omega (arith, few, all)) in
          let no : None ≡ Some why = sym no_stop_here ∙ back.1 ∙ e in
          absurd cc

      other : operation_stop p ≡ None
      other = ap (option_map (λ why. record { op = length p.values; kind = why })) (no_stop_there p.stop refl)

      all_there : length p.values ≡ length s.graph.operations
      all_there = is_run.plain_whole m p that (no_stop_there p.stop refl)

      accepted : first_unaccepted s.table s.graph acts m 0 s.graph.outputs ≡ None
      accepted = all_accepted s.table s.graph acts m 0 s.graph.outputs (λ i o at_it.
          ap (modulo s.table.profile) (laws.none s.table s.graph acts m o.op is.graph (λ touched. hidden.outputs m i o low at_it touched))
          ∙ ap (λ q. modulo q (pos 0)) is.table_is.0 ∙ laws.words.small 0 (let above = above_one s.graph.profile in omega (arith, above)))

      outputs_same : first_difference (outputs s.graph c.values) (outputs s.graph p.values) 0 ≡ None
      outputs_same = no_first_difference (λ o. at c.values o.op) (λ o. at p.values o.op) s.graph.outputs 0 (λ i o at_it.
          let inside = (laws.entries.output s.graph i o is.graph.part at_it).operation in
          alike.values o.op (λ touched. hidden.outputs m i o low at_it touched) (omega (arith, inside, all)) (omega (arith, inside, all_there)))

  pub quiet_cycle : (m : ℕ) (c p : Cycle) → below m → slice_get run m ≡ Some c
      → slice_get (plain_cycles s.graph (initial s.graph) rows) m ≡ Some p → (v : Verdict) → judged_cycle s.table s.graph acts m c p ≡ Some v → IsQuiet v
  quiet_cycle m c p low here that v e =
      judged_quiet m (stop_under s.graph c) (operation_stop p) (first_unaccepted s.table s.graph acts m 0 s.graph.outputs)
      (first_difference (outputs s.graph c.values) (outputs s.graph p.values) 0) (λ none. (passes m c p low here that none).accepted)
      (λ none. (passes m c p low here that none).other) (λ none. (passes m c p low here that none).outputs_same) v e

  pub no_verdict : (m : ℕ) (c p : Cycle) → below m → slice_get run m ≡ Some c
      → slice_get (plain_cycles s.graph (initial s.graph) rows) m ≡ Some p → stop_under s.graph c ≡ None → judged_cycle s.table s.graph acts m c p ≡ None
  no_verdict m c p low here that none =
      let p_is = passes m c p low here that none in
      judged_none m (stop_under s.graph c) (operation_stop p) (first_unaccepted s.table s.graph acts m 0 s.graph.outputs)
      (first_difference (outputs s.graph c.values) (outputs s.graph p.values) 0) none p_is.accepted p_is.other p_is.outputs_same

-- where nothing that shows is ever touched
pub always_quiet : (s : Subject) (is : IsSubject s) (laws : Laws s.graph) (acts : Acts) (rows : List (List ℤ)) → RowsFit s.graph rows
    → (run : List Cycle) → IsRun s.graph acts rows run → Hidden s acts (λ m. Unit {0})
    → IsQuiet (compared s.table s.graph acts 0 run (plain_cycles s.graph (initial s.graph) rows))
always_quiet s is laws acts rows fit run is_run hidden =
    let others = plain_cycles s.graph (initial s.graph) rows in
    compared_by s.table s.graph acts IsQuiet tt (length run) 0 run others
    (λ j c p lt here that v e. quiet_cycle s is laws acts rows fit run is_run (λ m. Unit {0}) hidden j c p tt here that v
    (ap (λ m. judged_cycle s.table s.graph acts m c p) (let same : j ≡ 0 + j = omega arith in same) ∙ e))
    (λ c p here that. absurd (let none = slice_get_past run (length run) (let le : length run ≤ length run = omega arith in le) in
    let no : None ≡ Some c = sym none ∙ here in
    cc))

-- ---- where outputs are reached first

module _ (s : Subject) (is : IsSubject s) (laws : Laws s.graph) (acts : Acts) (rows : List (List ℤ)) (fit : RowsFit s.graph rows) (run : List Cycle)
    (is_run : IsRun s.graph acts rows run) (cycles : ℕ) (hidden : Hidden s acts (λ m. m < cycles))
    (first : IsFirstUnaccepted s.table s.graph acts cycles 0 s.graph.outputs) where
  judged_there : (c p : Cycle) → stop_under s.graph c ≡ None → judged_cycle s.table s.graph acts cycles c p
      ≡ Some (verdict.Refused cycles first.refused.output first.refused.found first.refused.expected)
  judged_there c p none =
      let wrong = first_difference (outputs s.graph c.values) (outputs s.graph p.values) 0 in
      ap (λ x. judged cycles x (first_unaccepted s.table s.graph acts cycles 0 s.graph.outputs) (operation_stop p) wrong) none
      ∙ ap (λ r. judged cycles None r (operation_stop p) wrong) first.is

  last_cycle : (P : Verdict → Type 0) → ((v : Verdict) → IsQuiet v → P v)
      → P (verdict.Refused cycles first.refused.output first.refused.found first.refused.expected) → (c p : Cycle)
      → (v : Verdict) × (judged_cycle s.table s.graph acts (0 + cycles) c p ≡ Some v) × P v
  last_cycle P quiet refused c p = by_stop (stop_under s.graph c) refl
    where
      count : 0 + cycles ≡ cycles
      count = omega arith

      by_stop : (x : Option Stop) → stop_under s.graph c ≡ x → (v : Verdict) × (judged_cycle s.table s.graph acts (0 + cycles) c p ≡ Some v) × P v
      by_stop None e = (
        verdict.Refused cycles first.refused.output first.refused.found first.refused.expected,
        ap (λ m. judged_cycle s.table s.graph acts m c p) count ∙ judged_there c p e,
        refused,
      )
      by_stop (Some st) e =
          let alike = stops_alike st (operation_stop p) in (
            cond alike verdict.Same (verdict.Stopped cycles st.op st.kind),
            ap (λ m. judged_cycle s.table s.graph acts m c p) count
                ∙ ap (λ x. judged cycles x (first_unaccepted s.table s.graph acts cycles 0 s.graph.outputs) (operation_stop p)
                (first_difference (outputs s.graph c.values) (outputs s.graph p.values) 0)) e,
            quiet (cond alike verdict.Same (verdict.Stopped cycles st.op st.kind)) (alike_quiet alike cycles st.op st),
          )

  pub run_has : (P : Verdict → Type 0) → P verdict.Same → ((v : Verdict) → IsQuiet v → P v)
      → P (verdict.Refused cycles first.refused.output first.refused.found first.refused.expected)
      → P (compared s.table s.graph acts 0 run (plain_cycles s.graph (initial s.graph) rows))
  run_has P same quiet refused =
      compared_by s.table s.graph acts P same cycles 0 run (plain_cycles s.graph (initial s.graph) rows)
      (λ j c p lt here that v e. quiet v (quiet_cycle s is laws acts rows fit run is_run (λ m. m < cycles) hidden j c p lt here that v
      (ap (λ m. judged_cycle s.table s.graph acts m c p) (let count : j ≡ 0 + j = omega arith in count) ∙ e)))
      (λ c p here that. last_cycle P quiet refused c p)

  -- the run comes to that cycle, and is refused there
  pub run_is_refused : (p : Cycle) → slice_get (plain_cycles s.graph (initial s.graph) rows) cycles ≡ Some p
      → ((m : ℕ) (c : Cycle) → m ≤ cycles → slice_get run m ≡ Some c → stop_under s.graph c ≡ None)
      → compared s.table s.graph acts 0 run (plain_cycles s.graph (initial s.graph) rows)
      ≡ verdict.Refused cycles first.refused.output first.refused.found first.refused.expected
  run_is_refused p that going =
      let c = is_run.long cycles p that (λ j d lt here. going j d (omega (arith, lt)) here) in
      let count : 0 + cycles ≡ cycles = omega arith in
      compared_at s.table s.graph acts cycles 0 run (plain_cycles s.graph (initial s.graph) rows) c.0 p
      (verdict.Refused cycles first.refused.output first.refused.found first.refused.expected)
      (λ j d q lt here other. ap (λ m. judged_cycle s.table s.graph acts m d q) (let same : 0 + j ≡ j = omega arith in same)
      ∙ no_verdict s is laws acts rows fit run is_run (λ m. m < cycles) hidden j d q lt here other (going j d (omega (arith, lt)) here))
      c.1 that (ap (λ m. judged_cycle s.table s.graph acts m c.0 p) count ∙ judged_there c.0 p (going cycles c.0 (omega arith) c.1))

-- ---- what comes to the outputs that are reached first

module _ (s : Subject) (is : IsSubject s) (laws : Laws s.graph) (acts : Acts) (n k : ℕ) (op : Op) (a : Act)
    (there : slice_get s.graph.operations k ≡ Some op) (stands : StandsAt acts n k a) (amount size : ℤ) (h : ℕ)
    (makes : modulo s.graph.profile (made s.table s.graph op a) ≡ modulo s.graph.profile (amount *ℤ size))
    (outs : NoOutputBefore s (source_at k 0 amount ∷ []) h) where
  pub comes_is : (out : ℕ) → comes s.graph out h (source_at k 0 amount ∷ []) ≡ amount *ℤ pos (weight s.graph out h k)
  comes_is out = ⊎_elim
      (λ (e : (nat_le 0 h ≡ true) × (0 ≤ h)).
      ap (λ b. cond b (amount *ℤ pos (weight s.graph out (h - 0) k)) (pos 0) +ℤ pos 0) e.0
      ∙ (let none : amount *ℤ pos (weight s.graph out (h - 0) k) +ℤ pos 0 ≡ amount *ℤ pos (weight s.graph out (h - 0) k) = omega (arith, ints) in none)
      ∙ ap (λ b. amount *ℤ pos (weight s.graph out b k)) (let same : h - 0 ≡ h = omega arith in same))
      (λ (e : (nat_le 0 h ≡ false) × (h < 0)). absurd (let lt = e.1 in omega (arith, lt)))
      (leb_tells 0 h)

  pub difference_is : (i : ℕ) (o : Outlet) → slice_get s.graph.outputs i ≡ Some o → modulo s.table.profile (difference_at s.table s.graph acts (n + h) o.op)
      ≡ modulo s.graph.profile (comes s.graph o.op h (source_at k 0 amount ∷ []) *ℤ size)
  difference_is i o here =
      let p = s.graph.profile in
      let sum = at (sums s.graph o.op h) k in
      let make = made s.table s.graph op a in
      let alone = laws.alone s.table s.graph acts n k h o.op op a is.graph there stands.first stands.before stands.alone
      (λ borders lt path. outs borders i lt (record {
        output = o;
        there = here;
        reaches = record {
          source = source_at k 0 amount;
          among = contained_first (source_at k 0 amount) [];
          more = borders;
          borders_are = omega arith;
          path = path;
        };
      })) in
      let turned : sum *ℤ (amount *ℤ size) ≡ (amount *ℤ size) *ℤ sum = *ℤ_comm sum (amount *ℤ size) in
      let weighed : (amount *ℤ size) *ℤ pos (modulo p sum) ≡ (amount *ℤ pos (modulo p sum)) *ℤ size = three (pos (modulo p sum)) in
      ap (λ q. modulo q (difference_at s.table s.graph acts (n + h) o.op)) is.table_is.0 ∙ ap (modulo p) alone
      ∙ sym (times_residue p laws.words sum make) ∙ ap (λ m. modulo p (sum *ℤ pos m)) makes ∙ times_residue p laws.words sum (amount *ℤ size)
      ∙ ap (modulo p) turned ∙ sym (times_residue p laws.words (amount *ℤ size) sum) ∙ ap (modulo p) weighed
      ∙ ap (λ z. modulo p (z *ℤ size)) (sym (comes_is o.op))
    where
      three : (z : ℤ) → (amount *ℤ size) *ℤ z ≡ (amount *ℤ z) *ℤ size
      three z =
          let first : (amount *ℤ size) *ℤ z ≡ z *ℤ (amount *ℤ size) = *ℤ_comm (amount *ℤ size) z in
          let second : z *ℤ (amount *ℤ size) ≡ amount *ℤ (z *ℤ size) = times_scaled z amount size in
          let third : amount *ℤ (z *ℤ size) ≡ amount *ℤ (size *ℤ z) = ap (λ x. amount *ℤ x) (*ℤ_comm z size) in
          let fourth : amount *ℤ (size *ℤ z) ≡ size *ℤ (amount *ℤ z) = times_scaled amount size z in
          first ∙ second ∙ third ∙ fourth ∙ *ℤ_comm size (amount *ℤ z)
