-- StmtMachine: statements read token by token. What is open is kept in levels, the innermost first.
-- How the parser reads, and no promise: what it promises is in Answers.
use Rattle.std.specs.Prelude.{ℕ, suc, List, [], ◌∷◌, ◌++◌, length, Option, Some, None, Result, Ok, Err, cond}
use Rattle.vcp_base.specs.declared.spot.Spot.{Spot}
use Rattle.st_lexer.specs.declared.token.Tok.{Tok}
use Rattle.st_lexer.specs.declared.token.Tok.TheVariants as tok
use Rattle.st_lexer.specs.declared.token.Token.{Token}
use Rattle.st_tree.specs.declared.expr.UnOp.TheVariants as un
use Rattle.st_tree.specs.ExprTree.{ExprTree, literal, name, unary}
use Rattle.st_tree.specs.StmtTree.{LabelTree, StmtTree, StmtTrees, ArmTrees, BranchTrees, assign, if_, case, for_, no_stmts, no_arms, no_branches, no_other}
use Rattle.st_tree.specs.StmtTree.{other}
use Rattle.st_tree.specs.Appended.{stmts_and, arms_and, branches_and}
use Rattle.st_parser.specs.declared.fault.SyntaxFault.{SyntaxFault}
use Rattle.st_parser.specs.declared.fault.SyntaxFault.TheVariants as fault
use Rattle.st_parser.specs.declared.marks.Begins.{Begins}
use Rattle.st_parser.specs.declared.marks.Begins.TheVariants as begins
use Rattle.st_parser.specs.declared.marks.Mark.{Mark}
use Rattle.st_parser.specs.declared.marks.Mark.TheVariants as mark
use Rattle.st_parser.specs.Marks.{begins_by, mark_of, is}
use Rattle.st_parser.specs.ExprMachine.{Context, Form, Mode, want, Reading, no_deeper, step, ends_before}

-- a CASE and the branches that are whole
pub record Selection : Type 0 where
  pub on : ExprTree
  pub spot : Spot
  pub branches : BranchTrees

-- a FOR and the name of its control variable
pub record Loop : Type 0 where
  pub name : List ℕ
  pub name_spot : Spot
  pub spot : Spot

-- what a body belongs to that is open; an IF has the arms before it
pub data Body : Type 0 where
  of_arm : (arms : ArmTrees) → (cond : ExprTree) → (spot : Spot) → Body
  of_if_else : (arms : ArmTrees) → Body
  of_branch : (selection : Selection) → (labels : List LabelTree) → Body
  of_case_else : (selection : Selection) → Body
  of_loop : (loop : Loop) → (first last : ExprTree) → (by : Option ExprTree) → Body

-- an open body, and the statements before the one that it belongs to
pub record Level : Type 0 where
  pub body : Body
  pub before : StmtTrees

-- what an expression is read for
pub data Purpose : Type 0 where
  to_assign : (name : List ℕ) → (spot : Spot) → Purpose
  to_test : (arms : ArmTrees) → (spot : Spot) → Purpose
  to_select : (spot : Spot) → Purpose
  to_begin : (loop : Loop) → Purpose
  to_end : (loop : Loop) → (first : ExprTree) → Purpose
  to_step : (loop : Loop) → (first last : ExprTree) → Purpose

-- how far a label is read; a constant may have its sign alone so far
pub data LabelPhase : Type 0 where
  first_wanted : LabelPhase
  first_negated : (sign : Spot) → LabelPhase
  first_read : (first : ExprTree) → LabelPhase
  last_wanted : (first : ExprTree) → LabelPhase
  last_negated : (first : ExprTree) → (sign : Spot) → LabelPhase
  last_read : (first last : ExprTree) → LabelPhase

-- what was read last
pub data Phase : Type 0 where
  start : Phase
  named : (name : List ℕ) → (spot : Spot) → Phase
  reading : Purpose → List Form → Mode → Phase
  closed : Phase
  loop_begun : (spot : Spot) → Phase
  loop_named : Loop → Phase
  labelling : Selection → List LabelTree → LabelPhase → Phase
  finished : Phase

-- the levels that are open, the statements so far of the innermost body, and what was read last
pub record At : Type 0 where
  pub outer : List Level
  pub stmts : StmtTrees
  pub phase : Phase

abbrev pub refused : {A : Type 0} → Token → Result A SyntaxFault
refused t = Err (fault.Syntax t.spot)

abbrev pub to : List Level → StmtTrees → Phase → Result At SyntaxFault
to outer ss phase = Ok (record { outer = outer; stmts = ss; phase = phase })

-- a body is opened behind these statements
abbrev pub opened : Body → List Level → StmtTrees → Result At SyntaxFault
opened body outer ss = to (record { body = body; before = ss } ∷ outer) no_stmts start

-- a statement is whole up to its semicolon
abbrev pub whole : List Level → StmtTrees → StmtTree → Result At SyntaxFault
whole outer before s = to outer (stmts_and before s) closed

-- the CASE with one branch more
abbrev pub with_branch : Selection → List LabelTree → StmtTrees → Selection
with_branch k ls ss = record { on = k.on; spot = k.spot; branches = branches_and k.branches ls ss }

-- ---- labels

-- the first token of a constant
abbrev pub const_at : Context → (ExprTree → LabelPhase) → (Spot → LabelPhase) → Begins → Token → Result LabelPhase SyntaxFault
const_at c read negated (begins.Literal ty v) t = Ok (read (literal ty v t.spot))
const_at c read negated begins.Named t = Ok (read (name (c.bytes t) t.spot))
const_at c read negated (begins.Sign un.Neg) t = Ok (negated t.spot)
const_at c read negated _ t = refused t

-- the token behind the sign of a constant
abbrev pub number_at : (ExprTree → LabelPhase) → Spot → Tok → Token → Result LabelPhase SyntaxFault
number_at read sign (tok.Number ty v) t = Ok (read (unary un.Neg (literal ty v t.spot) sign))
number_at read sign _ t = refused t

abbrev pub with_phase : List Level → StmtTrees → Selection → List LabelTree → Result LabelPhase SyntaxFault → Result At SyntaxFault
with_phase outer ss k ls (Ok p) = to outer ss (labelling k ls p)
with_phase outer ss k ls (Err f) = Err f

-- the token behind a whole label
abbrev pub label_ends : List Level → StmtTrees → Selection → List LabelTree → Mark → Token → Result At SyntaxFault
label_ends outer ss k ls m t =
    cond (is m mark.Comma) (to outer ss (labelling k ls first_wanted))
    (cond (is m mark.Colon) (opened (of_branch k ls) outer ss)
    (refused t))

-- a token of a label; labels are one deeper than their CASE
abbrev pub label_step : Context → List Level → StmtTrees → Selection → List LabelTree → LabelPhase → Token → Result At SyntaxFault
label_step c outer ss k ls first_wanted t =
    with_phase outer ss k ls (no_deeper c.most (suc (length outer)) t (const_at c first_read first_negated (begins_by t.tok) t))
label_step c outer ss k ls (first_negated s) t =
    with_phase outer ss k ls (no_deeper c.most (suc (suc (length outer))) t (number_at first_read s t.tok t))
label_step c outer ss k ls (first_read e) t =
    cond (is (mark_of t.tok) mark.DotDot) (to outer ss (labelling k ls (last_wanted e)))
    (label_ends outer ss k (ls ++ record { first = e; last = None } ∷ []) (mark_of t.tok) t)
label_step c outer ss k ls (last_wanted e) t =
    with_phase outer ss k ls (no_deeper c.most (suc (length outer)) t (const_at c (last_read e) (last_negated e) (begins_by t.tok) t))
label_step c outer ss k ls (last_negated e s) t =
    with_phase outer ss k ls (no_deeper c.most (suc (suc (length outer))) t (number_at (last_read e) s t.tok t))
label_step c outer ss k ls (last_read e f) t =
    label_ends outer ss k (ls ++ record { first = e; last = Some f } ∷ []) (mark_of t.tok) t

-- the body of a branch ends, and a label begins that has come so far: what then comes of the token
abbrev pub next_label_in : Context → Body → List Level → StmtTrees → StmtTrees → LabelPhase → Token → Result At SyntaxFault
next_label_in c (of_branch k ls) outer before ss p t = label_step c outer before (with_branch k ls ss) [] p t
next_label_in c _ outer before ss p t = refused t

abbrev pub next_label : Context → List Level → StmtTrees → LabelPhase → Token → Result At SyntaxFault
next_label c [] ss p t = refused t
next_label c (level ∷ outer) ss p t = next_label_in c level.body outer level.before ss p t

-- ---- what ends a body

abbrev pub elsif_at : Body → List Level → StmtTrees → StmtTrees → Token → Result At SyntaxFault
elsif_at (of_arm arms e s) outer before ss t = to outer before (reading (to_test (arms_and arms e ss s) t.spot) [] want)
elsif_at _ outer before ss t = refused t

abbrev pub else_at : Body → List Level → StmtTrees → StmtTrees → Token → Result At SyntaxFault
else_at (of_arm arms e s) outer before ss t = opened (of_if_else (arms_and arms e ss s)) outer before
else_at (of_branch k ls) outer before ss t = opened (of_case_else (with_branch k ls ss)) outer before
else_at _ outer before ss t = refused t

abbrev pub end_if_at : Body → List Level → StmtTrees → StmtTrees → Token → Result At SyntaxFault
end_if_at (of_arm arms e s) outer before ss t = whole outer before (if_ (arms_and arms e ss s) no_other)
end_if_at (of_if_else arms) outer before ss t = whole outer before (if_ arms (other ss))
end_if_at _ outer before ss t = refused t

abbrev pub end_case_at : Body → List Level → StmtTrees → StmtTrees → Token → Result At SyntaxFault
end_case_at (of_branch k ls) outer before ss t = whole outer before (case k.on (branches_and k.branches ls ss) no_other k.spot)
end_case_at (of_case_else k) outer before ss t = whole outer before (case k.on k.branches (other ss) k.spot)
end_case_at _ outer before ss t = refused t

abbrev pub end_for_at : Body → List Level → StmtTrees → StmtTrees → Token → Result At SyntaxFault
end_for_at (of_loop l first last by) outer before ss t = whole outer before (for_ l.name l.name_spot first last by ss l.spot)
end_for_at _ outer before ss t = refused t

-- a token that ends the innermost body, or begins the next branch
abbrev pub body_ends : Context → List Level → StmtTrees → Mark → Token → Result At SyntaxFault
body_ends c [] ss m t = cond (is m mark.EndProgram) (to [] ss finished) (refused t)
body_ends c (level ∷ outer) ss m t =
    cond (is m mark.Elsif) (elsif_at level.body outer level.before ss t)
    (cond (is m mark.Else) (else_at level.body outer level.before ss t)
    (cond (is m mark.EndIf) (end_if_at level.body outer level.before ss t)
    (cond (is m mark.EndCase) (end_case_at level.body outer level.before ss t)
    (cond (is m mark.EndFor) (end_for_at level.body outer level.before ss t)
    (next_label_in c level.body outer level.before ss first_wanted t)))))

-- ---- statements

-- a token where a statement may begin
abbrev pub start_at : Context → List Level → StmtTrees → Mark → Token → Result At SyntaxFault
start_at c outer ss m t =
    cond (is m mark.Semi) (no_deeper c.most (length outer) t (to outer ss start))
    (cond (is m mark.Name) (no_deeper c.most (length outer) t (to outer ss (named (c.bytes t) t.spot)))
    (cond (is m mark.If) (no_deeper c.most (length outer) t (to outer ss (reading (to_test no_arms t.spot) [] want)))
    (cond (is m mark.Case) (no_deeper c.most (length outer) t (to outer ss (reading (to_select t.spot) [] want)))
    (cond (is m mark.For) (no_deeper c.most (length outer) t (to outer ss (loop_begun t.spot)))
    (body_ends c outer ss m t)))))

-- a token behind a name that begins a statement, or a label of the next branch
abbrev pub named_at : Context → List Level → StmtTrees → List ℕ → Spot → Mark → Token → Result At SyntaxFault
named_at c outer ss f s m t =
    cond (is m mark.Assign) (to outer ss (reading (to_assign f s) [] want)) (next_label c outer ss (first_read (name f s)) t)

-- the token behind a whole expression
abbrev pub take : List Level → StmtTrees → Purpose → ExprTree → Mark → Token → Result At SyntaxFault
take outer ss (to_assign f s) e m t = cond (is m mark.Semi) (to outer (stmts_and ss (assign f e s)) start) (refused t)
take outer ss (to_test arms s) e m t = cond (is m mark.Then) (opened (of_arm arms e s) outer ss) (refused t)
take outer ss (to_select s) e m t =
    cond (is m mark.Of) (to outer ss (labelling (record { on = e; spot = s; branches = no_branches }) [] first_wanted)) (refused t)
take outer ss (to_begin l) e m t = cond (is m mark.To) (to outer ss (reading (to_end l e) [] want)) (refused t)
take outer ss (to_end l first) e m t =
    cond (is m mark.By) (to outer ss (reading (to_step l first e) [] want))
    (cond (is m mark.Do) (opened (of_loop l first e None) outer ss) (refused t))
take outer ss (to_step l first last) e m t = cond (is m mark.Do) (opened (of_loop l first last (Some e)) outer ss) (refused t)

abbrev pub read_on : List Level → StmtTrees → Purpose → Result Reading SyntaxFault → Result At SyntaxFault
read_on outer ss p (Ok r) = to outer ss (reading p r.forms r.mode)
read_on outer ss p (Err f) = Err f

-- a token of an expression, or the one behind it
abbrev pub read_at : Context → List Level → StmtTrees → Purpose → List Form → Mode → Token → Option ExprTree → Result At SyntaxFault
read_at c outer ss p fs m t (Some e) = take outer ss p e (mark_of t.tok) t
read_at c outer ss p fs m t None = read_on outer ss p (step c (length outer) fs m t)

abbrev pub stmt_step : Context → List Level → StmtTrees → Phase → Token → Result At SyntaxFault
stmt_step c outer ss start t = start_at c outer ss (mark_of t.tok) t
stmt_step c outer ss (named f s) t = named_at c outer ss f s (mark_of t.tok) t
stmt_step c outer ss (reading p fs m) t = read_at c outer ss p fs m t (ends_before fs m t)
stmt_step c outer ss closed t = cond (is (mark_of t.tok) mark.Semi) (to outer ss start) (refused t)
stmt_step c outer ss (loop_begun s) t =
    cond (is (mark_of t.tok) mark.Name) (to outer ss (loop_named (record { name = c.bytes t; name_spot = t.spot; spot = s }))) (refused t)
stmt_step c outer ss (loop_named l) t = cond (is (mark_of t.tok) mark.Assign) (to outer ss (reading (to_begin l) [] want)) (refused t)
stmt_step c outer ss (labelling k ls p) t = label_step c outer ss k ls p t
stmt_step c outer ss finished t = refused t
