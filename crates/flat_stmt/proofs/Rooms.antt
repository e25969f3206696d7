-- Rooms: what comes of a call after earlier steps, and why there may be no room.
use Rattle.std.proofs.Common.{◌≡◌, ℕ, ◌+◌, ◌<◌, ◌≤◌, Bool, true, false, [], length, Result, Ok, Err, sym, ap, ◌∙◌, subst, arith}
use Rattle.std.specs.List.{list_any}
use Rattle.std.specs.Prelude.{IfOk, IfErr, IsErrAnd, ◌||◌}
use Rattle.vcp_base.specs.Limits.{most_operations, most_size, most_turn_nodes}
use Rattle.op_graph.specs.declared.build.Build.{Build}
use Rattle.vcp_typed.specs.Checked.{AreStmts, IsChecked}
use Rattle.vcp_typed.specs.Size.{size, stmts_size}
use Rattle.vcp_typed.specs.SourceRun.{Program}
use Rattle.vcp_typed.specs.TStmtTree.{TStmtTrees}
use Rattle.vcp_typed.specs.Wide.{is_lint, stmts_are_wide}
use Rattle.flat_expr.specs.Begin.{Begins}
use Rattle.flat_expr.specs.Laws.{Laws}
use Rattle.flat_expr.specs.State.{Allows, State, Leaves, Continues, reserved, last_size, whole_size}
use Rattle.flat_stmt.specs.Parts.{Fills, Added, StmtsPart, context}

-- a refusal after n1 operations, of a call that wanted n2 more
pub refused : (old mid new : State) (is_read : ℕ → Bool) (n1 n2 n : ℕ) (e : Build) → reserved mid ≤ reserved old + n1 → n1 + n2 ≤ n
    → Leaves mid new is_read n2 e → Fills old n e
refused old mid new is_read n1 n2 n e le fits h is = omega (arith, h.room is, le, fits)

pub fills_later : (old mid : State) (n1 n2 n : ℕ) (e : Build) → reserved mid ≤ reserved old + n1 → n1 + n2 ≤ n → Fills mid n2 e → Fills old n e
fills_later old mid n1 n2 n e le fits h is = omega (arith, h is, le, fits)

-- a refusal of a call is handed on
pub handed_on : {A B : Type 0} (Did : B → Type 0) (Made : A → Type 0) (old mid : State) (n1 n2 n : ℕ) (f : Result B Build) (r : Result A Build) (e : Build)
    → f ≡ Err e → IsErrAnd r (λ y. y ≡ e) → reserved mid ≤ reserved old + n1 → n1 + n2 ≤ n → Added mid n2 Did f → Added old n Made r
handed_on Did Made old mid n1 n2 n f (Ok a) e was h le fits added = absurd h
handed_on Did Made old mid n1 n2 n f (Err y) e was h le fits added = λ is.
    fills_later old mid n1 n2 n e le fits (subst (λ x. Added mid n2 Did x) was added) (sym h ∙ is)

-- the same, of a call that says its refusal in a clause
pub handed_refusal : {A B : Type 0} (Made : A → Type 0) (old mid new : State) (is_read : ℕ → Bool) (n1 n2 n : ℕ) (f : Result B Build) (r : Result A Build)
    (e : Build) → f ≡ Err e → IsErrAnd r (λ y. y ≡ e) → reserved mid ≤ reserved old + n1 → n1 + n2 ≤ n → IfErr f (λ e. Leaves mid new is_read n2 e)
    → Added old n Made r
handed_refusal Made old mid new is_read n1 n2 n f (Ok a) e was h le fits refuses = absurd h
handed_refusal Made old mid new is_read n1 n2 n f (Err y) e was h le fits refuses = λ is.
    refused old mid new is_read n1 n2 n e le fits (subst (λ x. IfErr x (λ e. Leaves mid new is_read n2 e)) was refuses) (sym h ∙ is)

-- the last call's result is handed on
pub last_added : {A : Type 0} (Did Made : A → Type 0) (old mid : State) (n1 n2 n : ℕ) (r : Result A Build) → reserved mid ≤ reserved old + n1 → n1 + n2 ≤ n
    → Added mid n2 Did r → ((a : A) → Did a → Made a) → Added old n Made r
last_added Did Made old mid n1 n2 n (Ok a) le fits h made = made a h
last_added Did Made old mid n1 n2 n (Err e) le fits h made = fills_later old mid n1 n2 n e le fits h

-- the same, of a call that says both in two clauses
pub last_made : {A : Type 0} (Did Made : A → Type 0) (old mid new : State) (is_read : ℕ → Bool) (n1 n2 n : ℕ) (r : Result A Build)
    → reserved mid ≤ reserved old + n1 → n1 + n2 ≤ n → IfOk r Did → IfErr r (λ e. Leaves mid new is_read n2 e) → ((a : A) → Did a → Made a)
    → Added old n Made r
last_made Did Made old mid new is_read n1 n2 n (Ok a) le fits did refuses made = made a did
last_made Did Made old mid new is_read n1 n2 n (Err e) le fits did refuses made = refused old mid new is_read n1 n2 n e le fits refuses

-- sums
pub none_more : (n : ℕ) → n ≤ n + 0
none_more n = omega arith

pub same_more : (a b : ℕ) → b ≡ a → b ≤ a + 0
same_more a b is = omega (arith, is)

pub then_more : (a b c n m : ℕ) → b ≤ a + n → c ≤ b + m → c ≤ a + (n + m)
then_more a b c n m f g = omega (arith, f, g)

pub then_most : (a b c d : State) (n m k : ℕ) → reserved b ≤ reserved a + n → reserved c ≤ reserved b + m → reserved d ≤ reserved c + k
    → reserved d ≤ reserved a + (n + m + k)
then_most a b c d n m k f g h = omega (arith, f, g, h)

pub equal_fits : (k n : ℕ) → n ≡ k → 0 + k ≤ n
equal_fits k n is = omega (arith, is)

pub one_less : (n : ℕ) → 0 + n ≤ 1 + n
one_less n = omega arith

pub one_last : (n : ℕ) → n + 1 ≤ 1 + n
one_last n = omega arith

pub part_of : (k more n : ℕ) → n ≡ k + more → k ≤ n
part_of k more n is = omega (arith, is)

-- there are turn nodes for a part of what is left
pub nodes_left : (nodes now later size left most part : ℕ) → later ≤ now + 0 → now ≤ nodes + size → size + left ≤ most → part ≤ left
    → nodes + most ≤ most_turn_nodes → later + part ≤ most_turn_nodes
nodes_left nodes now later size left most part same few fits le room = omega (arith, same, few, fits, le, room)

-- a turn that was there is there later
pub turn_stays : (outer turn n0 n1 n2 n3 : ℕ) → outer ≡ turn → turn ≤ n0 → n0 ≤ n1 → n1 ≤ n2 → n2 ≤ n3 → outer ≤ n3
turn_stays outer turn n0 n1 n2 n3 is a b c d = omega (arith, is, a, b, c, d)

-- the whole graph has at most as many operations as the program's Size
pub within_size : Laws → (p : Program) (s0 s1 : State) (n : ℕ) → Begins s0 p → Continues s0 (record s1 { path = s0.path }) → reserved s1 ≤ reserved s0 + n
    → n ≡ stmts_size p.body → whole_size s1 ≤ size p
within_size laws p s0 s1 n b c count body =
    let room = laws.room (record s1 { path = s0.path }) c.after in
    let ends = ap last_size (c.slots ∙ b.slots) in
    omega (arith, room, ends, count, b.count, body)

-- ---- the body of a program

pub body_part : (s : State) (p : Program) (ss : TStmtTrees) → Begins s p → IsChecked p → ss ≡ p.body → StmtsPart (context s) ss
body_part s p ss b h is = ([], typed, allowed)
  where
    typed : AreStmts s.slots [] ss
    typed = subst (λ slots. AreStmts slots [] ss) (sym b.slots) (subst (λ t. AreStmts p.slots [] t) (sym is) h.body)

    no_more : (a c : Bool) → (a || c) ≡ false → c ≡ false
    no_more false c e = e
    no_more true c e = absurd cc

    allowed : Allows s.graph.profile (stmts_are_wide ss)
    allowed = λ narrow. ap stmts_are_wide is ∙ no_more (list_any (λ x. is_lint x.ty) p.slots) (stmts_are_wide p.body) (sym b.code ∙ narrow)

pub body_nodes : (s : State) (p : Program) (ss : TStmtTrees) → Begins s p → IsChecked p → ss ≡ p.body
    → length s.graph.turn_nodes + stmts_size ss ≤ most_turn_nodes
body_nodes s p ss b h is = omega (arith, ap length b.nodes, h.room, ap stmts_size is)

-- there is room for all operations
pub body_room : (s : State) (p : Program) (ss : TStmtTrees) → Begins s p → IsChecked p → ss ≡ p.body → most_operations < reserved s + stmts_size ss → ⊥
body_room s p ss b h is more = omega (arith, b.count, h.room, ap stmts_size is, more)

pub whole_room : (whole n : ℕ) → whole ≤ n → n ≤ most_size → most_operations < whole → ⊥
whole_room whole n within fits more = omega (arith, within, fits, more)
