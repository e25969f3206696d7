-- Marking: an operation is marked exactly where it is touched by the marks of its whole cycle.
use Rattle.std.proofs.Common.{◌≡◌, ℕ, zero, suc, ◌+◌, ◌-◌, ◌<◌, Bool, true, false, cond, ◌&&◌, ◌||◌, nat_lt, List, [], ◌∷◌, ◌++◌, length, map, slice_get, Option, Some, unsigned_abs, refl, sym, ap, subst, ◌∙◌, arith}
use Rattle.std.specs.Prelude.{slice_index_or}
use Rattle.std.specs.Option.{is_some}
use Rattle.std.proofs.lemmas.Bool.Decides.{nat_tests}
use Rattle.std.proofs.lemmas.List.{get_or_append_left}
use Rattle.vcp_base.specs.declared.kind.Kind.{Kind}
use Rattle.vcp_base.specs.declared.kind.Kind.TheVariants as kind
use Rattle.vcp_base.specs.Kinds.{operands}
use Rattle.coded_unit.specs.declared.call.Answer.{Answer}
use Rattle.op_graph.specs.declared.op.Op.{Op}
use Rattle.op_graph.specs.Laws.{ReadLaws}
use Rattle.op_graph.specs.Lists.{Lists}
use Rattle.op_graph.specs.Reads.{OperandThere, Linked, named}
use Rattle.op_graph.specs.Rules.{Each, IsGraph, Operates, scope}
use Rattle.coded_machine.specs.Calls.{Whole}
use Rattle.fault_script.specs.declared.act.Act.{Act}
use Rattle.fault_script.specs.Changes.{Acts}
use Rattle.fault_injector.specs.Touched.{Marks, mark, reads_touched_as, operand_touched, touched_at, given_marks, cycle_marks, held_marks, marks_at, touched}

-- ---- what is touched is the same in marks that agree before an operation

record Agree (k : ℕ) (x y : Marks) : Type 0 where
  held : x.held ≡ y.held
  given : (i : ℕ) → i < k → mark x.given i ≡ mark y.given i

link_at : (stores : List ℕ) (front : List Op) (op : Op) → Linked stores front op → (j : ℕ) → nat_lt j (operands op.kind) ≡ true
    → OperandThere front stores op.kind op.imm (named op j)
link_at stores front op link zero h = link.first h
link_at stores front op link (suc zero) h = link.second h
link_at stores front op link (suc (suc j)) h = let third : nat_lt 2 (operands op.kind) ≡ true = grind (arith, nat_tests) in link.third third

reads_agree : (x y : Marks) (front : List Op) (stores : List ℕ) (op : Op) (j : ℕ) (k : Kind) → Agree (length front) x y
    → OperandThere front stores k op.imm (named op j) → reads_touched_as x op j k ≡ reads_touched_as y op j k
reads_agree x y front stores op j kind.Load agree is = ap (λ (held : List Bool). mark held (unsigned_abs op.imm)) agree.held
reads_agree x y front stores op j _ agree is = agree.given (named op j) is

and_agrees : (b x y : Bool) → (b ≡ true → x ≡ y) → b && x ≡ b && y
and_agrees true x y h = h refl
and_agrees false x y h = refl

operand_agrees : (x y : Marks) (front : List Op) (stores : List ℕ) (op : Op) (j : ℕ) → Agree (length front) x y → Linked stores front op
    → operand_touched x op j ≡ operand_touched y op j
operand_agrees x y front stores op j agree link =
    and_agrees (nat_lt j (operands op.kind)) _ _ (λ h. reads_agree x y front stores op j op.kind agree (link_at stores front op link j h))

stop_agrees : (x y : List Bool) (k many : ℕ) (b : Bool) → nat_lt k many ≡ b → 0 < many → ((i : ℕ) → i < k → mark x i ≡ mark y i)
    → cond b false (mark x (many - 1)) ≡ cond b false (mark y (many - 1))
stop_agrees x y k many true e some h = refl
stop_agrees x y k many false e some h = h (many - 1) (grind (arith, nat_tests))

any_agree : (f a b c d e g h i : Bool) → a ≡ e → b ≡ g → c ≡ h → d ≡ i → f || a || b || c || d ≡ f || e || g || h || i
any_agree f a b c d e g h i p q r s =
    ap (λ (z : Bool). f || z || b || c || d) p ∙ (ap (λ (z : Bool). f || e || z || c || d) q
    ∙ (ap (λ (z : Bool). f || e || g || z || d) r ∙ ap (λ (z : Bool). f || e || g || h || z) s))

touched_agrees : (other : List Answer) (acts : ℕ → Option Act) (x y : Marks) (front : List Op) (stores : List ℕ) (op : Op) → 0 < length other
    → Agree (length front) x y → Linked stores front op
    → touched_at other acts x (length front) op ≡ touched_at other acts y (length front) op
touched_agrees other acts x y front stores op some agree link =
    any_agree (is_some (acts (length front))) _ _ _ _ _ _ _ _ (operand_agrees x y front stores op 0 agree link)
    (operand_agrees x y front stores op 1 agree link) (operand_agrees x y front stores op 2 agree link)
    (stop_agrees x.given y.given (length front) (length other) (nat_lt (length front) (length other)) refl some agree.given)

-- ---- a whole cycle

one_longer : {X : Type 0} (xs : List X) (x : X) → suc (length xs) ≡ length (xs ++ x ∷ [])
one_longer [] x = refl
one_longer (y ∷ xs) x = ap suc (one_longer xs x)

-- the marks that are there stay
stay_from : (other : List Answer) (acts : ℕ → Option Act) (held before : List Bool) (k : ℕ) (ops : List Op) (i : ℕ) → i < length before
    → mark (given_marks other acts held before k ops) i ≡ mark before i
stay_from other acts held before k [] i below = refl
stay_from other acts held before k (op ∷ ops) i below =
    let m = touched_at other acts (record { held = held; given = before }) k op in
    stay_from other acts held (before ++ m ∷ []) (k + 1) ops i (omega (arith, below, one_longer before m))
    ∙ get_or_append_left before (m ∷ []) false i below

last_of : (before : List Bool) (m : Bool) → mark (before ++ m ∷ []) (length before) ≡ m
last_of [] m = refl
last_of (b ∷ before) m = last_of before m

-- each of the operations, which are counted from k, is marked exactly where it is touched
abbrev pub Spread : List Answer → (ℕ → Option Act) → Marks → ℕ → List Op → Type 0
Spread other acts m k [] = Unit {0}
Spread other acts m k (op ∷ ops) = (mark m.given k ≡ touched_at other acts m k op) × Spread other acts m (suc k) ops

spread_from : (reads : ReadLaws) (g : Lists) (other : List Answer) (acts : ℕ → Option Act) (m : Marks) (front ops : List Op) (before : List Bool) → IsGraph g
    → 0 < length other → m.given ≡ given_marks other acts m.held before (length front) ops → length before ≡ length front
    → Each (Operates (scope g) (length g.turn_nodes)) front ops → Spread other acts m (length front) ops
spread_from reads g other acts m front [] before graph some is many fit = tt
spread_from reads g other acts m front (op ∷ ops) before graph some is many fit =
    let k = length front in
    let prefix : Marks = record { held = m.held; given = before } in
    let d = touched_at other acts prefix k op in
    let longer : suc k ≡ length (front ++ op ∷ []) = one_longer front op in
    let next : k + 1 ≡ length (front ++ op ∷ []) = omega (arith, longer) in
    let room = one_longer before d in
    let agree : Agree k prefix m = record {
      held = refl;
      given = λ i below. sym (ap (λ (xs : List Bool). mark xs i) is ∙ stay_from other acts m.held before k (op ∷ ops) i (omega (arith, below, many)));
    } in
    let here : mark m.given k ≡ d =
    ap (λ (xs : List Bool). mark xs k) is
    ∙ (stay_from other acts m.held (before ++ d ∷ []) (k + 1) ops k (omega (arith, room, many))
    ∙ (ap (mark (before ++ d ∷ [])) (sym many) ∙ last_of before d)) in (
      here ∙ touched_agrees other acts prefix m front g.stores op some agree (reads.linked g (length g.turn_nodes) front op graph fit.0),
      subst (λ j. Spread other acts m j ops) (sym longer)
          (spread_from reads g other acts m (front ++ op ∷ []) ops (before ++ d ∷ []) graph some
          (is ∙ ap (λ j. given_marks other acts m.held (before ++ d ∷ []) j ops) next) (omega (arith, room, many, longer)) fit.1),
    )

-- a cycle of a graph with operations has answers
some_answer : (ops : List Op) (answers : List Answer) → Whole ops answers → 0 < length ops → 0 < length answers
some_answer [] answers whole some = absurd (omega (arith, some))
some_answer (op ∷ ops) [] whole some = absurd whole
some_answer (op ∷ ops) (a ∷ answers) whole some = omega arith

pub cycle_spread : ReadLaws → (g : Lists) (other : List Answer) (acts : ℕ → Option Act) (held : List Bool) → IsGraph g → Whole g.operations other
    → Spread other acts (cycle_marks g other acts held) 0 g.operations
cycle_spread reads g other acts held graph whole = spread_first reads g other acts held g.operations refl graph whole
  where
    spread_first : ReadLaws → (g : Lists) (other : List Answer) (acts : ℕ → Option Act) (held : List Bool) (ops : List Op) → ops ≡ g.operations → IsGraph g
        → Whole g.operations other → Spread other acts (cycle_marks g other acts held) 0 g.operations
    spread_first reads g other acts held [] is graph whole = subst (λ (ops : List Op). Spread other acts (cycle_marks g other acts held) 0 ops) is tt
    spread_first reads g other acts held (op ∷ ops) is graph whole =
        spread_from reads g other acts (cycle_marks g other acts held) [] g.operations [] graph
        (some_answer g.operations other whole (subst (λ (xs : List Op). 0 < length xs) is (omega arith))) refl refl graph.part.operations

-- ---- by number

spread_at : (other : List Answer) (acts : ℕ → Option Act) (m : Marks) (j : ℕ) (ops : List Op) (k : ℕ) (op : Op) → Spread other acts m j ops
    → slice_get ops k ≡ Some op → mark m.given (j + k) ≡ touched_at other acts m (j + k) op
spread_at other acts m j [] k op spread there = absurd cc
spread_at other acts m j (o ∷ ops) zero op spread there =
    let same : o ≡ op = cc in
    let at_place : j ≡ j + 0 = omega arith in
    subst (λ (i : ℕ). mark m.given i ≡ touched_at other acts m i op) at_place (spread.0 ∙ ap (touched_at other acts m j) same)
spread_at other acts m j (o ∷ ops) (suc k) op spread there =
    let at_place : suc j + k ≡ j + suc k = omega arith in
    subst (λ (i : ℕ). mark m.given i ≡ touched_at other acts m i op) at_place (spread_at other acts m (suc j) ops k op spread.1 there)

pub marked_as_touched : ReadLaws → (g : Lists) (acts : Acts) (others : List (List Answer)) (n k : ℕ) (op : Op) → IsGraph g
    → Whole g.operations (slice_index_or others n []) → slice_get g.operations k ≡ Some op
    → touched g acts others n k ≡ touched_at (slice_index_or others n []) (acts n) (marks_at g acts others n) k op
marked_as_touched reads g acts others zero k op graph whole there =
    at_zero (cycle_marks g (slice_index_or others 0 []) (acts 0) []) (slice_index_or others 0 []) (acts 0) k op
    (spread_at (slice_index_or others 0 []) (acts 0) (cycle_marks g (slice_index_or others 0 []) (acts 0) []) 0 g.operations k op
    (cycle_spread reads g (slice_index_or others 0 []) (acts 0) [] graph whole) there)
  where
    at_zero : (m : Marks) (other : List Answer) (acts : ℕ → Option Act) (k : ℕ) (op : Op) → mark m.given (0 + k) ≡ touched_at other acts m (0 + k) op
        → mark m.given k ≡ touched_at other acts m k op
    at_zero m other acts k op h =
        let place : 0 + k ≡ k = omega arith in
        subst (λ (i : ℕ). mark m.given i ≡ touched_at other acts m i op) place h
marked_as_touched reads g acts others (suc n) k op graph whole there =
    let other = slice_index_or others (suc n) [] in
    let held = held_marks g (marks_at g acts others n).given in
    let m = cycle_marks g other (acts (suc n)) held in
    let place : 0 + k ≡ k = omega arith in
    subst (λ (i : ℕ). mark m.given i ≡ touched_at other (acts (suc n)) m i op) place
    (spread_at other (acts (suc n)) m 0 g.operations k op (cycle_spread reads g other (acts (suc n)) held graph whole) there)

pub mark_of_store : (given : List Bool) (stores : List ℕ) (i m : ℕ) → slice_get stores i ≡ Some m → mark (map (λ n. mark given n) stores) i ≡ mark given m
mark_of_store given [] i m there = absurd cc
mark_of_store given (n ∷ stores) zero m there = let same : n ≡ m = cc in ap (mark given) same
mark_of_store given (n ∷ stores) (suc i) m there = mark_of_store given stores i m there
