-- SoFar: what a machine that stands inside statements has read, said by what any tokens that complete it make of it.
use Rattle.std.proofs.Common.{◌≡◌, ℕ, suc, ◌≤◌, List, [], ◌∷◌, ◌++◌, length, Option, Some, ℤ, sym, refl, ap, subst, append_assoc}
use Rattle.vcp_base.specs.declared.spot.Spot.{Spot}
use Rattle.vcp_base.specs.declared.ty.Ty.{Ty}
use Rattle.st_lexer.specs.declared.token.Key.TheVariants as key
use Rattle.st_lexer.specs.declared.token.Sym.TheVariants as symbol
use Rattle.st_lexer.specs.declared.token.Tok.TheVariants as tok
use Rattle.st_lexer.specs.declared.token.Token.{Token}
use Rattle.st_tree.specs.declared.expr.UnOp.TheVariants as un
use Rattle.st_tree.specs.ExprTree.{ExprTree, literal, name, unary}
use Rattle.st_tree.specs.StmtTree.{LabelTree, StmtTree, StmtTrees, ArmTrees, BranchTrees, OtherTree, assign, if_, case, for_, no_stmts, and_stmt, no_arms}
use Rattle.st_tree.specs.StmtTree.{and_arm, no_branches, and_branch, other}
use Rattle.st_tree.specs.Appended.{stmts_and, arms_and, branches_and}
use Rattle.st_tree.specs.Operators.{any_level}
use Rattle.st_tree.specs.Placed.{Placed, at}
use Rattle.st_tree.specs.Expressions.{SpellsExpr}
use Rattle.st_tree.specs.Labels.{SpellsConst, SpellsLabel, SpellsLabels}
use Rattle.st_tree.specs.Statements.{SpellsStep, SpellsStmt, SpellsStmts, SpellsMoreArms, SpellsBranches, SpellsMoreBranches, spells_no_stmt, spells_empty}
use Rattle.st_tree.specs.Statements.{spells_stmt}
use Rattle.st_parser.specs.ExprMachine.{Context}
use Rattle.st_parser.specs.StmtMachine.{Selection, Loop, Body, of_arm, of_if_else, of_branch, of_case_else, of_loop, Level, Purpose, to_assign, to_test}
use Rattle.st_parser.specs.StmtMachine.{to_select, to_begin, to_end, to_step, LabelPhase, first_wanted, first_negated, first_read, last_wanted, last_negated}
use Rattle.st_parser.specs.StmtMachine.{last_read, Phase, start, named, reading, closed, loop_begun, loop_named, labelling, finished}
use Rattle.st_parser.proofs.ExprSound.{HasRead}

-- ---- lists of arms and branches, one behind the other

abbrev pub arms_append : ArmTrees → ArmTrees → ArmTrees
arms_append no_arms more = more
arms_append (and_arm c body s rest) more = and_arm c body s (arms_append rest more)

pub arms_last : (arms : ArmTrees) (c : ExprTree) (body : StmtTrees) (s : Spot) → arms_append arms (and_arm c body s no_arms) ≡ arms_and arms c body s
arms_last no_arms c body s = refl
arms_last (and_arm d other_body r rest) c body s = ap (and_arm d other_body r) (arms_last rest c body s)

pub arms_then : (arms : ArmTrees) (c : ExprTree) (body : StmtTrees) (s : Spot) (more : ArmTrees)
    → arms_append arms (and_arm c body s more) ≡ arms_append (arms_and arms c body s) more
arms_then no_arms c body s more = refl
arms_then (and_arm d other_body r rest) c body s more = ap (and_arm d other_body r) (arms_then rest c body s more)

abbrev pub branches_append : BranchTrees → BranchTrees → BranchTrees
branches_append no_branches more = more
branches_append (and_branch ls body rest) more = and_branch ls body (branches_append rest more)

pub branches_last : (branches : BranchTrees) (ls : List LabelTree) (body : StmtTrees)
    → branches_append branches (and_branch ls body no_branches) ≡ branches_and branches ls body
branches_last no_branches ls body = refl
branches_last (and_branch ms other_body rest) ls body = ap (and_branch ms other_body) (branches_last rest ls body)

pub branches_then : (branches : BranchTrees) (ls : List LabelTree) (body : StmtTrees) (more : BranchTrees)
    → branches_append branches (and_branch ls body more) ≡ branches_append (branches_and branches ls body) more
branches_then no_branches ls body more = refl
branches_then (and_branch ms other_body rest) ls body more = ap (and_branch ms other_body) (branches_then rest ls body more)

-- ---- statements, and one more

pub one_more : {bytes : Token → List ℕ} {d : ℕ} {ss : StmtTrees} {us : List Placed} → SpellsStmts bytes d ss us → (s : StmtTree) (ts : List Placed) (c : Token)
    → c.tok ≡ tok.Sym symbol.Semi → SpellsStmt bytes d s ts
    → SpellsStmts bytes d (stmts_and ss s) (us ++ (ts ++ at d c ∷ []))
one_more spells_no_stmt s ts c k sp = spells_stmt s no_stmts c ts [] sp k spells_no_stmt
one_more {d = d} (spells_empty ss x vs kx sps) s ts c k sp = spells_empty (stmts_and ss s) x (vs ++ (ts ++ at d c ∷ [])) kx (one_more sps s ts c k sp)
one_more {bytes = bytes} {d = d} (spells_stmt r ss x vs us sr kx sps) s ts c k sp =
    subst (λ (l : List Placed). SpellsStmts bytes d (and_stmt r (stmts_and ss s)) l) (sym (append_assoc vs (at d x ∷ us) (ts ++ at d c ∷ [])))
    (spells_stmt r (stmts_and ss s) x vs (us ++ (ts ++ at d c ∷ [])) sr kx (one_more sps s ts c k sp))

pub one_empty : {bytes : Token → List ℕ} {d : ℕ} {ss : StmtTrees} {us : List Placed} → SpellsStmts bytes d ss us → (c : Token) → c.tok ≡ tok.Sym symbol.Semi
    → SpellsStmts bytes d ss (us ++ at d c ∷ [])
one_empty spells_no_stmt c k = spells_empty no_stmts c [] k spells_no_stmt
one_empty {d = d} (spells_empty ss x vs kx sps) c k = spells_empty ss x (vs ++ at d c ∷ []) kx (one_empty sps c k)
one_empty {bytes = bytes} {d = d} (spells_stmt r ss x vs us sr kx sps) c k =
    subst (λ (l : List Placed). SpellsStmts bytes d (and_stmt r ss) l) (sym (append_assoc vs (at d x ∷ us) (at d c ∷ [])))
    (spells_stmt r ss x vs (us ++ at d c ∷ []) sr kx (one_empty sps c k))

-- ---- what an open statement at depth d has read; P s ts says that the tokens ts end in the whole statement s

-- up to the first token of a body
abbrev pub Opens : Context → ℕ → (StmtTree → List Placed → Type 0) → Body → List Placed → Type 0
Opens c d P (of_arm arms e s) hs =
    (body : StmtTrees) (more : ArmTrees) (o : OtherTree) (us vs : List Placed) → SpellsStmts c.bytes (suc d) body us → SpellsMoreArms c.bytes d more o vs
    → P (if_ (arms_append arms (and_arm e body s more)) o) (hs ++ (us ++ vs))
Opens c d P (of_if_else arms) hs =
    (body : StmtTrees) (us : List Placed) (e : Token) → SpellsStmts c.bytes (suc d) body us → e.tok ≡ tok.Key key.EndIf
    → P (if_ arms (other body)) (hs ++ (us ++ at d e ∷ []))
Opens c d P (of_branch k ls) hs =
    (body : StmtTrees) (more : BranchTrees) (o : OtherTree) (us vs : List Placed) → SpellsStmts c.bytes (suc d) body us → SpellsMoreBranches c.bytes d more o vs
    → P (case k.on (branches_append k.branches (and_branch ls body more)) o k.spot) (hs ++ (us ++ vs))
Opens c d P (of_case_else k) hs =
    (body : StmtTrees) (us : List Placed) (e : Token) → SpellsStmts c.bytes (suc d) body us → e.tok ≡ tok.Key key.EndCase
    → P (case k.on k.branches (other body) k.spot) (hs ++ (us ++ at d e ∷ []))
Opens c d P (of_loop l first last by) hs =
    (body : StmtTrees) (us : List Placed) (e : Token) → SpellsStmts c.bytes (suc d) body us → e.tok ≡ tok.Key key.EndFor
    → P (for_ l.name l.name_spot first last by body l.spot) (hs ++ (us ++ at d e ∷ []))

-- up to where a branch must come
abbrev pub Selects : Context → ℕ → (StmtTree → List Placed → Type 0) → Selection → List Placed → Type 0
Selects c d P k hs =
    (more : BranchTrees) (o : OtherTree) (vs : List Placed) → SpellsBranches c.bytes d more o vs
    → P (case k.on (branches_append k.branches more) o k.spot) (hs ++ vs)

-- up to where a label must come
abbrev pub Lists : Context → ℕ → (StmtTree → List Placed → Type 0) → Selection → List LabelTree → List Placed → Type 0
Lists c d P k ls hs = (more : List LabelTree) (us : List Placed) → SpellsLabels c.bytes (suc d) more us → Opens c d P (of_branch k (ls ++ more)) (hs ++ us)

-- up to the last value of a FOR
abbrev pub Ends : Context → ℕ → (StmtTree → List Placed → Type 0) → Loop → ExprTree → List Placed → Type 0
Ends c d P l first hs =
    (e : ExprTree) (by : Option ExprTree) (ts us : List Placed)
    (o : Token) → SpellsExpr c.bytes d any_level e ts → SpellsStep c.bytes d by us → o.tok ≡ tok.Key key.Do
    → Opens c d P (of_loop l first e by) (hs ++ (ts ++ (us ++ at d o ∷ [])))

-- up to an expression
abbrev pub Asks : Context → ℕ → (StmtTree → List Placed → Type 0) → Purpose → List Placed → Type 0
Asks c d P (to_assign f s) hs = (e : ExprTree) (ts : List Placed) → SpellsExpr c.bytes d any_level e ts → P (assign f e s) (hs ++ ts)
Asks c d P (to_test arms s) hs =
    (e : ExprTree) (ts : List Placed) (t : Token) → SpellsExpr c.bytes d any_level e ts → t.tok ≡ tok.Key key.Then
    → Opens c d P (of_arm arms e s) (hs ++ (ts ++ at d t ∷ []))
Asks c d P (to_select s) hs =
    (e : ExprTree) (ts : List Placed) (t : Token) → SpellsExpr c.bytes d any_level e ts → t.tok ≡ tok.Key key.Of
    → Selects c d P (record { on = e; spot = s; branches = no_branches }) (hs ++ (ts ++ at d t ∷ []))
Asks c d P (to_begin l) hs =
    (e : ExprTree) (ts : List Placed) (t : Token) → SpellsExpr c.bytes d any_level e ts → t.tok ≡ tok.Key key.To
    → Ends c d P l e (hs ++ (ts ++ at d t ∷ []))
Asks c d P (to_end l first) hs = Ends c d P l first hs
Asks c d P (to_step l first last) hs =
    (e : ExprTree) (ts : List Placed) (o : Token) → SpellsExpr c.bytes d any_level e ts → o.tok ≡ tok.Key key.Do
    → Opens c d P (of_loop l first last (Some e)) (hs ++ (ts ++ at d o ∷ []))

-- up to the assignment sign of a FOR
abbrev pub Counts : Context → ℕ → (StmtTree → List Placed → Type 0) → Loop → List Placed → Type 0
Counts c d P l hs = (a : Token) → a.tok ≡ tok.Sym symbol.Assign → Asks c d P (to_begin l) (hs ++ at d a ∷ [])

-- ---- what has been read of a label at depth d

abbrev pub Labels : Context → ℕ → LabelPhase → List Placed → Type 0
Labels c d first_wanted ts = ts ≡ []
Labels c d (first_negated s) ts =
    (d ≤ c.most)
    × ((ty : Option Ty) (v : ℤ) (t : Token) → t.tok ≡ tok.Number ty v → SpellsConst c.bytes d (unary un.Neg (literal ty v t.spot) s) (ts ++ at (suc d) t ∷ []))
Labels c d (first_read e) ts = (d ≤ c.most) × SpellsConst c.bytes d e ts
Labels c d (last_wanted e) ts =
    (d ≤ c.most)
    × ((f : ExprTree) (us : List Placed) → SpellsConst c.bytes d f us → SpellsLabel c.bytes d (record { first = e; last = Some f }) (ts ++ us))
Labels c d (last_negated e s) ts =
    (d ≤ c.most)
    × ((ty : Option Ty) (v : ℤ) (t : Token) → t.tok ≡ tok.Number ty v
    → SpellsLabel c.bytes d (record { first = e; last = Some (unary un.Neg (literal ty v t.spot) s) }) (ts ++ at (suc d) t ∷ []))
Labels c d (last_read e f) ts = (d ≤ c.most) × SpellsLabel c.bytes d (record { first = e; last = Some f }) ts

-- ---- what the open bodies have read

-- up to the statements `ss` of the innermost body
abbrev pub Reads : Context → List Level → StmtTrees → List Placed → Type 0
Reads c [] ss cs = SpellsStmts c.bytes 0 ss cs
Reads c (level ∷ outer) ss cs =
    (hs : List Placed) × (us : List Placed) × (length outer ≤ c.most)
    × Opens c (length outer)
    (λ s ts. (t : Token) → t.tok ≡ tok.Sym symbol.Semi → Reads c outer (stmts_and level.before s) (ts ++ at (length outer) t ∷ [])) level.body hs
    × SpellsStmts c.bytes (suc (length outer)) ss us × (cs ≡ hs ++ us)

-- the tokens end in the whole statement s, behind the statements `before`
abbrev pub Whole : Context → List Level → StmtTrees → StmtTree → List Placed → Type 0
Whole c outer before s ts = (t : Token) → t.tok ≡ tok.Sym symbol.Semi → Reads c outer (stmts_and before s) (ts ++ at (length outer) t ∷ [])

-- what has been read where the machine stands
abbrev pub Stands : Context → List Level → StmtTrees → Phase → List Placed → Type 0
Stands c outer ss start cs = Reads c outer ss cs
Stands c outer ss (named f s) cs =
    (before : List Placed) × (hs : List Placed) × (length outer ≤ c.most) × Reads c outer ss before × SpellsConst c.bytes (length outer) (name f s) hs
    × ((a : Token) → a.tok ≡ tok.Sym symbol.Assign → Asks c (length outer) (Whole c outer ss) (to_assign f s) (cs ++ at (length outer) a ∷ []))
    × (cs ≡ before ++ hs)
Stands c outer ss (reading p fs m) cs =
    (hs : List Placed) × (es : List Placed) × (length outer ≤ c.most) × Asks c (length outer) (Whole c outer ss) p hs × HasRead c
    (length outer) fs m es × (cs ≡ hs ++ es)
Stands c outer ss closed cs = (length outer ≤ c.most) × ((t : Token) → t.tok ≡ tok.Sym symbol.Semi → Reads c outer ss (cs ++ at (length outer) t ∷ []))
Stands c outer ss (loop_begun s) cs =
    (length outer ≤ c.most)
    × ((n : Token) → n.tok ≡ tok.Name → Counts c (length outer) (Whole c outer ss) (record { name = c.bytes n; name_spot = n.spot; spot = s })
    (cs ++ at (length outer) n ∷ []))
Stands c outer ss (loop_named l) cs = (length outer ≤ c.most) × Counts c (length outer) (Whole c outer ss) l cs
Stands c outer ss (labelling k ls p) cs =
    (hs : List Placed) × (ts : List Placed) × (length outer ≤ c.most) × Lists c (length outer) (Whole c outer ss) k ls hs × Labels c
    (suc (length outer)) p ts × (cs ≡ hs ++ ts)
Stands c outer ss finished cs = (us : List Placed) × (e : Token) × SpellsStmts c.bytes 0 ss us × (e.tok ≡ tok.Key key.EndProgram) × (cs ≡ us ++ at 0 e ∷ [])
