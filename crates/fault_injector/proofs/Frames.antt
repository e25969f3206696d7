-- Frames: the differences of a cycle are those that its operations have.
use Rattle.std.proofs.Common.{◌≡◌, ℕ, zero, suc, ◌+◌, ◌<◌, Bool, true, false, nat_lt, List, [], ◌∷◌, ◌++◌, length, Option, Some, None, ℤ, pos, ◌+ℤ◌, ◌-ℤ◌, ◌*ℤ◌}
use Rattle.std.proofs.Common.{unsigned_abs, refl, sym, ap, subst, ◌∙◌, arith, eqb-true}
use Rattle.std.proofs.lemmas.Bool.Decides.{nat_tests}
use Rattle.std.proofs.lemmas.Int.{ints}
use Rattle.std.proofs.lemmas.List.{get_or_append_left, get_or_past}
use Rattle.std.proofs.Math.IntN.{zero-*ℤ}
use Rattle.vcp_base.specs.declared.kind.Kind.{Kind}
use Rattle.vcp_base.specs.declared.kind.Kind.TheVariants as kind
use Rattle.vcp_base.specs.Kinds.{multiplier, multipliers, operands}
use Rattle.vcp_base.specs.Values.{at}
use Rattle.op_graph.specs.declared.op.Op.{Op}
use Rattle.op_graph.specs.Lists.{Lists}
use Rattle.op_graph.specs.Reads.{OperandThere, Linked, named}
use Rattle.op_graph.specs.Rules.{Each, IsGraph, Operates, scope}
use Rattle.signature_table.specs.Signatures.{Numbers, signature}
use Rattle.fault_script.specs.declared.act.Act.{Act}
use Rattle.fault_script.specs.declared.act.Act.TheVariants as act
use Rattle.fault_script.specs.Differences.{Frame, origin, read, read_as, brought, exchanged, difference, given_from, frame}
use Rattle.fault_script.specs.Changes.{Acts}
use Rattle.fault_injector.specs.Stepping.{MayStand}
use Rattle.fault_injector.specs.FaultRun.{Begun, frame_before, begun}
use Rattle.fault_injector.specs.RunLaw.{AllStand, Solved}
use Rattle.fault_injector.proofs.CycleRun.{Laws, link_at, one_longer, and_second}

-- ---- what is read is the same in lists that agree before an operation

-- two lists of differences of one cycle agree before place k
record Agree (k : ℕ) (x y : Frame) : Type 0 where
  held : x.held ≡ y.held
  given : (i : ℕ) → i < k → at x.given i ≡ at y.given i

read_agrees : (x y : Frame) (front : List Op) (stores : List ℕ) (op : Op) (j : ℕ) (k : Kind) → Agree (length front) x y
    → OperandThere front stores k op.imm (named op j) → read_as x op j k ≡ read_as y op j k
read_agrees x y front stores op j kind.Load agree is = ap (λ (held : List ℤ). at held (unsigned_abs op.imm)) agree.held
read_agrees x y front stores op j _ agree is = agree.given (named op j) is

term_agrees : (done : Kind) (j : ℕ) (x y : ℤ) (b : Bool) → nat_lt j (operands done) ≡ b → (b ≡ true → x ≡ y) → multiplier done j *ℤ x ≡ multiplier done j *ℤ y
term_agrees done j x y true e h = ap (λ (z : ℤ). multiplier done j *ℤ z) (h refl)
term_agrees done j x y false e h =
    let none : multiplier done j ≡ pos 0 = get_or_past (multipliers done) j (pos 0) (grind arith) in
    ap (λ (m : ℤ). m *ℤ x) none ∙ (zero-*ℤ x ∙ sym (ap (λ (m : ℤ). m *ℤ y) none ∙ zero-*ℤ y))

three_terms : (a b c d e f : ℤ) → a ≡ d → b ≡ e → c ≡ f → a +ℤ b +ℤ c ≡ d +ℤ e +ℤ f
three_terms a b c d e f h i j = omega (arith, ints, h, i, j)

brought_agrees : (x y : Frame) (front : List Op) (stores : List ℕ) (op : Op) (done : Kind) → Agree (length front) x y → Linked stores front op
    → operands done ≡ operands op.kind → brought x op done ≡ brought y op done
brought_agrees x y front stores op done agree link same =
    let term : (j : ℕ) → multiplier done j *ℤ read x op j ≡ multiplier done j *ℤ read y op j =
    λ j. term_agrees done j (read x op j) (read y op j) (nat_lt j (operands done)) refl
    (λ h. read_agrees x y front stores op j op.kind agree (link_at stores front op link j (sym (ap (nat_lt j) same) ∙ h))) in
    three_terms _ _ _ _ _ _ (term 0) (term 1) (term 2)

sum_agrees : (a b c d : ℤ) → a ≡ b → c ≡ d → a +ℤ c ≡ b +ℤ d
sum_agrees a b c d e f = omega (arith, ints, e, f)

from_agrees : (m a b s o x y : ℤ) → a ≡ b → x ≡ y → m *ℤ (a +ℤ s -ℤ o -ℤ x) ≡ m *ℤ (b +ℤ s -ℤ o -ℤ y)
from_agrees m a b s o x y e f = ap (λ (z : ℤ). m *ℤ z) (omega (arith, ints, e, f))

stale_agrees : (m p s x y : ℤ) → x ≡ y → m *ℤ (p -ℤ s -ℤ x) ≡ m *ℤ (p -ℤ s -ℤ y)
stale_agrees m p s x y e = ap (λ (z : ℤ). m *ℤ z) (omega (arith, ints, e))

difference_agrees : (t : Numbers) (g : Lists) (past x y : Frame) (front : List Op) (op : Op) (n : ℕ) (a : Option Act) → Agree (length front) x y
    → Linked g.stores front op → MayStand op.kind (length front) n a
    → difference t g past x (length front) op a ≡ difference t g past y (length front) op a
difference_agrees t g past x y front op n None agree link may = brought_agrees x y front g.stores op op.kind agree link refl
difference_agrees t g past x y front op n (Some (act.OperandAdd j e)) agree link may =
    ap (λ (z : ℤ). z +ℤ multiplier op.kind j *ℤ e) (brought_agrees x y front g.stores op op.kind agree link refl)
difference_agrees t g past x y front op n (Some (act.OperandFrom j r)) agree link may =
    let parts = may.sited in
    let there : nat_lt j (operands op.kind) ≡ true = grind (arith, parts) in
    let inside : nat_lt r (length front) ≡ true = and_second (nat_lt j (operands op.kind)) (nat_lt r (length front)) may.sited in
    sum_agrees _ _ _ _ (brought_agrees x y front g.stores op op.kind agree link refl)
    (from_agrees (multiplier op.kind j) (at x.given r) (at y.given r) (pos (signature t.profile t.seed r)) (origin t g op j) (read x op j) (read y op j)
    (agree.given r (grind (arith, nat_tests))) (read_agrees x y front g.stores op j op.kind agree (link_at g.stores front op link j there)))
difference_agrees t g past x y front op n (Some (act.OperandStale j)) agree link may =
    sum_agrees _ _ _ _ (brought_agrees x y front g.stores op op.kind agree link refl)
    (stale_agrees (multiplier op.kind j) (read past op j) (pos t.step) (read x op j) (read y op j)
    (read_agrees x y front g.stores op j op.kind agree (link_at g.stores front op link j may.sited)))
difference_agrees t g past x y front op n (Some (act.ResultAdd e)) agree link may = ap (λ (z : ℤ). z +ℤ e)
    (brought_agrees x y front g.stores op op.kind agree link refl)
difference_agrees t g past x y front op n (Some (act.Operator other)) agree link may =
    ap (λ (z : ℤ). z +ℤ (exchanged t g op other 0 +ℤ exchanged t g op other 1 +ℤ exchanged t g op other 2))
    (brought_agrees x y front g.stores op other agree link (eqb-true (operands other) (operands op.kind) may.alike))
difference_agrees t g past x y front op n (Some act.Skip) agree link may = refl

-- ---- a whole cycle

-- the differences that are there stay
stay_from : (t : Numbers) (g : Lists) (acts : ℕ → Option Act) (past : Frame) (held before : List ℤ) (k : ℕ) (ops : List Op) (i : ℕ) → i < length before
    → at (given_from t g acts past held before k ops) i ≡ at before i
stay_from t g acts past held before k [] i below = refl
stay_from t g acts past held before k (op ∷ ops) i below =
    let d = difference t g past (record { held = held; given = before }) k op (acts k) in
    stay_from t g acts past held (before ++ d ∷ []) (k + 1) ops i (omega (arith, below, one_longer before d))
    ∙ get_or_append_left before (d ∷ []) (pos 0) i below

last_of : (before : List ℤ) (d : ℤ) → at (before ++ d ∷ []) (length before) ≡ d
last_of [] d = refl
last_of (c ∷ before) d = last_of before d

solved_from : (laws : Laws) (b : Begun) (front ops : List Op) (before : List ℤ) → IsGraph b.graph
    → b.differences.given ≡ given_from b.table b.graph b.acts b.past_differences b.differences.held before (length front) ops → length before ≡ length front
    → Each (Operates (scope b.graph) (length b.graph.turn_nodes)) front ops → AllStand b.cycle b.acts (length front) ops → Solved b (length front) ops
solved_from laws b front [] before graph is many fit may = tt
solved_from laws b front (op ∷ ops) before graph is many fit may =
    let t = b.table in
    let g = b.graph in
    let past = b.past_differences in
    let held = b.differences.held in
    let k = length front in
    let prefix : Frame = record { held = held; given = before } in
    let d = difference t g past prefix k op (b.acts k) in
    let longer : suc k ≡ length (front ++ op ∷ []) = one_longer front op in
    let next : k + 1 ≡ length (front ++ op ∷ []) = omega (arith, longer) in
    let room = one_longer before d in
    let agree : Agree k prefix b.differences = record {
      held = refl;
      given = λ i below. sym (ap (λ (xs : List ℤ). at xs i) is ∙ stay_from t g b.acts past held before k (op ∷ ops) i (omega (arith, below, many)));
    } in
    let here : at b.differences.given k ≡ d =
    ap (λ (xs : List ℤ). at xs k) is
    ∙ (stay_from t g b.acts past held (before ++ d ∷ []) (k + 1) ops k (omega (arith, room, many))
    ∙ (ap (at (before ++ d ∷ [])) (sym many) ∙ last_of before d)) in (
      here ∙ difference_agrees t g past prefix b.differences front op b.cycle (b.acts k) agree
          (laws.reads.linked g (length g.turn_nodes) front op graph fit.0) may.0,
      subst (λ m. Solved b m ops) (sym longer)
          (solved_from laws b (front ++ op ∷ []) ops (before ++ d ∷ []) graph (is ∙ ap (λ m. given_from t g b.acts past held (before ++ d ∷ []) m ops) next)
          (omega (arith, room, many, longer)) fit.1 (subst (λ m. AllStand b.cycle b.acts m ops) longer may.1)),
    )

-- the differences of cycle n of a run are those that its operations have
frame_given : (t : Numbers) (g : Lists) (acts : Acts) (n : ℕ)
    → (frame t g acts n).given ≡ given_from t g (acts n) (frame_before t g acts n) (frame t g acts n).held [] 0 g.operations
frame_given t g acts zero = refl
frame_given t g acts (suc n) = refl

pub frames_solve : (laws : Laws) (t : Numbers) (g : Lists) (acts : Acts) (n : ℕ) (past : Frame) (held row : List ℤ) → IsGraph g
    → AllStand n (acts n) 0 g.operations → Solved (begun t g acts n past held row) 0 g.operations
frames_solve laws t g acts n past held row graph may = solved_from laws (begun t g acts n past held row) [] g.operations [] graph
    (frame_given t g acts n) refl graph.part.operations may
