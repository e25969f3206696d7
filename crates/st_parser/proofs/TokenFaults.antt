-- TokenFaults: a token that is refused is so at its own spot, and never for want of memory.
use Rattle.std.proofs.Common.{◌≡◌, ℕ, suc, ◌+◌, Bool, true, false, cond, leb, List, [], ◌∷◌, ◌++◌, length, Option, Some, None, Result, Ok, Err, sym, refl}
use Rattle.std.proofs.Common.{subst}
use Rattle.vcp_base.specs.declared.spot.Spot.{Spot}
use Rattle.vcp_base.specs.declared.ty.Ty.{Ty}
use Rattle.st_lexer.specs.declared.token.Tok.{Tok}
use Rattle.st_lexer.specs.declared.token.Tok.TheVariants as tok
use Rattle.st_lexer.specs.declared.token.Token.{Token}
use Rattle.st_tree.specs.declared.expr.UnOp.TheVariants as un
use Rattle.st_tree.specs.ExprTree.{ExprTree, name}
use Rattle.st_tree.specs.StmtTree.{LabelTree, StmtTrees, no_stmts, no_arms}
use Rattle.st_tree.specs.ProgramTree.{DeclaredTree}
use Rattle.st_tree.specs.Operators.{any_level}
use Rattle.st_parser.specs.declared.fault.SyntaxFault.{SyntaxFault}
use Rattle.st_parser.specs.declared.fault.SyntaxFault.TheVariants as fault
use Rattle.st_parser.specs.declared.marks.Begins.{Begins}
use Rattle.st_parser.specs.declared.marks.Begins.TheVariants as begins
use Rattle.st_parser.specs.declared.marks.Goes.{Goes}
use Rattle.st_parser.specs.declared.marks.Goes.TheVariants as goes
use Rattle.st_parser.specs.declared.marks.Mark.{Mark}
use Rattle.st_parser.specs.declared.marks.Mark.TheVariants as mark
use Rattle.st_parser.specs.Marks.{begins_by, goes_by, mark_of, is}
use Rattle.st_parser.specs.ExprMachine.{Context, Form, sign_of, left_of, bracket, arguments, Mode, want, after_name, have, depth_in, close, no_deeper, operand}
use Rattle.st_parser.specs.ExprMachine.{close_at, part_at, go_on, go_on_name, step, ends_before}
use Rattle.st_parser.specs.StmtMachine.{Selection, Body, of_arm, of_if_else, of_branch, of_case_else, of_loop, Level, Purpose, to_assign, to_test, to_select}
use Rattle.st_parser.specs.StmtMachine.{to_begin, to_end, to_step, LabelPhase, first_wanted, first_negated, first_read, last_wanted, last_negated, last_read}
use Rattle.st_parser.specs.StmtMachine.{Phase, start, named, reading, closed, loop_begun, loop_named, labelling, finished, to, with_branch, const_at, number_at}
use Rattle.st_parser.specs.StmtMachine.{with_phase, label_ends, label_step, next_label_in, next_label, elsif_at, else_at, end_if_at, end_case_at, end_for_at}
use Rattle.st_parser.specs.StmtMachine.{body_ends, start_at, take, read_on, read_at, stmt_step}
use Rattle.st_parser.specs.ProgramMachine.{Front, Opening, State, at_program, at_name, at_block, at_var, at_decl, at_comma, at_next_name, at_type, at_init}
use Rattle.st_parser.specs.ProgramMachine.{in_init, in_body, body_step, decl_at, init_read_on, init_at, program_step}

-- a fault is one at this token
abbrev pub AtToken : {X : Type 0} → Token → Result X SyntaxFault → Type 0
AtToken t (Ok x) = Unit {0}
AtToken t (Err (fault.Syntax s)) = s ≡ t.spot
AtToken t (Err (fault.Depth s)) = s ≡ t.spot
AtToken t (Err fault.Memory) = ⊥

at-cond : {X : Type 0} (t : Token) (b : Bool) (x y : Result X SyntaxFault) → AtToken t x → AtToken t y → AtToken t (cond b x y)
at-cond t true x y h k = h
at-cond t false x y h k = k

-- what hands faults on
at-by : {X Y : Type 0} (t : Token) (k : Result X SyntaxFault → Result Y SyntaxFault) → ((f : SyntaxFault) → k (Err f) ≡ Err f)
    → ((x : X) → AtToken t (k (Ok x))) → (r : Result X SyntaxFault) → AtToken t r → AtToken t (k r)
at-by t k h o (Ok x) a = o x
at-by {Y = Y} t k h o (Err (fault.Syntax s)) a = subst (λ (z : Result Y SyntaxFault). AtToken t z) (sym (h (fault.Syntax s))) a
at-by {Y = Y} t k h o (Err (fault.Depth s)) a = subst (λ (z : Result Y SyntaxFault). AtToken t z) (sym (h (fault.Depth s))) a
at-by t k h o (Err fault.Memory) a = absurd a

at-no-deeper : {X : Type 0} (most d : ℕ) (t : Token) (r : Result X SyntaxFault) → AtToken t r → AtToken t (no_deeper most d t r)
at-no-deeper most d t (Ok x) a = at-cond t (leb d most) (Ok x) (Err (fault.Depth t.spot)) tt refl
at-no-deeper most d t (Err f) a = a

-- ---- expressions

at-operand : (c : Context) (fs : List Form) (b : Begins) (t : Token) → AtToken t (operand c fs b t)
at-operand c fs (begins.Literal ty v) t = tt
at-operand c fs begins.Named t = tt
at-operand c fs (begins.Sign op) t = tt
at-operand c fs begins.Opens t = tt
at-operand c fs begins.Nothing t = refl

at-close : (fs : List Form) (e : ExprTree) (t : Token) → AtToken t (close_at fs e t)
at-close [] e t = refl
at-close (sign_of op s ∷ fs) e t = refl
at-close (left_of op a s ∷ fs) e t = refl
at-close (bracket ∷ fs) e t = tt
at-close (arguments f s es ∷ fs) e t = tt

at-part : (fs : List Form) (e : ExprTree) (t : Token) → AtToken t (part_at fs e t)
at-part [] e t = refl
at-part (sign_of op s ∷ fs) e t = refl
at-part (left_of op a s ∷ fs) e t = refl
at-part (bracket ∷ fs) e t = refl
at-part (arguments f s es ∷ fs) e t = tt

at-go-on : (g : Goes) (fs : List Form) (e : ExprTree) (t : Token) → AtToken t (go_on g fs e t)
at-go-on (goes.Joins op) fs e t = tt
at-go-on goes.Closes fs e t = at-close (close any_level fs e).forms (close any_level fs e).expr t
at-go-on goes.Parts fs e t = at-part (close any_level fs e).forms (close any_level fs e).expr t
at-go-on goes.Ends fs e t = refl

at-name : (b : Begins) (fs : List Form) (f : List ℕ) (s : Spot) (t : Token) → AtToken t (go_on_name b fs f s t)
at-name (begins.Literal ty v) fs f s t = at-go-on (goes_by t.tok) fs (name f s) t
at-name begins.Named fs f s t = at-go-on (goes_by t.tok) fs (name f s) t
at-name (begins.Sign op) fs f s t = at-go-on (goes_by t.tok) fs (name f s) t
at-name begins.Opens fs f s t = tt
at-name begins.Nothing fs f s t = at-go-on (goes_by t.tok) fs (name f s) t

pub at-step : (c : Context) (d : ℕ) (fs : List Form) (m : Mode) (t : Token) → AtToken t (step c d fs m t)
at-step c d fs want t = at-no-deeper c.most (d + depth_in fs) t (operand c fs (begins_by t.tok) t) (at-operand c fs (begins_by t.tok) t)
at-step c d fs (after_name f s) t = at-name (begins_by t.tok) fs f s t
at-step c d fs (have e) t = at-go-on (goes_by t.tok) fs e t

-- ---- labels

at-const : (c : Context) (read : ExprTree → LabelPhase) (negated : Spot → LabelPhase) (b : Begins) (t : Token) → AtToken t (const_at c read negated b t)
at-const c read negated (begins.Literal ty v) t = tt
at-const c read negated begins.Named t = tt
at-const c read negated (begins.Sign un.Neg) t = tt
at-const c read negated (begins.Sign un.Not) t = refl
at-const c read negated begins.Opens t = refl
at-const c read negated begins.Nothing t = refl

at-number : (read : ExprTree → LabelPhase) (sign : Spot) (k : Tok) (t : Token) → AtToken t (number_at read sign k t)
at-number read sign tok.Name t = refl
at-number read sign (tok.Key k) t = refl
at-number read sign (tok.Number ty v) t = tt
at-number read sign (tok.Sym s) t = refl

at-phase : (outer : List Level) (ss : StmtTrees) (k : Selection) (ls : List LabelTree) (most d : ℕ) (t : Token) (r : Result LabelPhase SyntaxFault)
    → AtToken t r → AtToken t (with_phase outer ss k ls (no_deeper most d t r))
at-phase outer ss k ls most d t r a = at-by t (with_phase outer ss k ls) (λ f. refl) (λ x. tt) (no_deeper most d t r) (at-no-deeper most d t r a)

at-label-ends : (outer : List Level) (ss : StmtTrees) (k : Selection) (ls : List LabelTree) (m : Mark) (t : Token) → AtToken t (label_ends outer ss k ls m t)
at-label-ends outer ss k ls m t = at-cond t (is m mark.Comma) _ _ tt (at-cond t (is m mark.Colon) _ _ tt refl)

at-label : (c : Context) (outer : List Level) (ss : StmtTrees) (k : Selection) (ls : List LabelTree) (p : LabelPhase) (t : Token)
    → AtToken t (label_step c outer ss k ls p t)
at-label c outer ss k ls first_wanted t = at-phase outer ss k ls c.most (suc (length outer)) t _ (at-const c first_read first_negated (begins_by t.tok) t)
at-label c outer ss k ls (first_negated s) t = at-phase outer ss k ls c.most (suc (suc (length outer))) t _ (at-number first_read s t.tok t)
at-label c outer ss k ls (first_read e) t =
    at-cond t (is (mark_of t.tok) mark.DotDot) _ _ tt (at-label-ends outer ss k (ls ++ record { first = e; last = None } ∷ []) (mark_of t.tok) t)
at-label c outer ss k ls (last_wanted e) t =
    at-phase outer ss k ls c.most (suc (length outer)) t _ (at-const c (last_read e) (last_negated e) (begins_by t.tok) t)
at-label c outer ss k ls (last_negated e s) t = at-phase outer ss k ls c.most (suc (suc (length outer))) t _ (at-number (last_read e) s t.tok t)
at-label c outer ss k ls (last_read e l) t = at-label-ends outer ss k (ls ++ record { first = e; last = Some l } ∷ []) (mark_of t.tok) t

at-next-label : (c : Context) (body : Body) (outer : List Level) (before ss : StmtTrees) (p : LabelPhase) (t : Token)
    → AtToken t (next_label_in c body outer before ss p t)
at-next-label c (of_arm arms e s) outer before ss p t = refl
at-next-label c (of_if_else arms) outer before ss p t = refl
at-next-label c (of_branch k ls) outer before ss p t = at-label c outer before (with_branch k ls ss) [] p t
at-next-label c (of_case_else k) outer before ss p t = refl
at-next-label c (of_loop l first last by) outer before ss p t = refl

at-label-behind : (c : Context) (outer : List Level) (ss : StmtTrees) (p : LabelPhase) (t : Token) → AtToken t (next_label c outer ss p t)
at-label-behind c [] ss p t = refl
at-label-behind c (level ∷ outer) ss p t = at-next-label c level.body outer level.before ss p t

-- ---- statements

at-elsif : (body : Body) (outer : List Level) (before ss : StmtTrees) (t : Token) → AtToken t (elsif_at body outer before ss t)
at-elsif (of_arm arms e s) outer before ss t = tt
at-elsif (of_if_else arms) outer before ss t = refl
at-elsif (of_branch k ls) outer before ss t = refl
at-elsif (of_case_else k) outer before ss t = refl
at-elsif (of_loop l first last by) outer before ss t = refl

at-else : (body : Body) (outer : List Level) (before ss : StmtTrees) (t : Token) → AtToken t (else_at body outer before ss t)
at-else (of_arm arms e s) outer before ss t = tt
at-else (of_if_else arms) outer before ss t = refl
at-else (of_branch k ls) outer before ss t = tt
at-else (of_case_else k) outer before ss t = refl
at-else (of_loop l first last by) outer before ss t = refl

at-end-if : (body : Body) (outer : List Level) (before ss : StmtTrees) (t : Token) → AtToken t (end_if_at body outer before ss t)
at-end-if (of_arm arms e s) outer before ss t = tt
at-end-if (of_if_else arms) outer before ss t = tt
at-end-if (of_branch k ls) outer before ss t = refl
at-end-if (of_case_else k) outer before ss t = refl
at-end-if (of_loop l first last by) outer before ss t = refl

at-end-case : (body : Body) (outer : List Level) (before ss : StmtTrees) (t : Token) → AtToken t (end_case_at body outer before ss t)
at-end-case (of_arm arms e s) outer before ss t = refl
at-end-case (of_if_else arms) outer before ss t = refl
at-end-case (of_branch k ls) outer before ss t = tt
at-end-case (of_case_else k) outer before ss t = tt
at-end-case (of_loop l first last by) outer before ss t = refl

at-end-for : (body : Body) (outer : List Level) (before ss : StmtTrees) (t : Token) → AtToken t (end_for_at body outer before ss t)
at-end-for (of_arm arms e s) outer before ss t = refl
at-end-for (of_if_else arms) outer before ss t = refl
at-end-for (of_branch k ls) outer before ss t = refl
at-end-for (of_case_else k) outer before ss t = refl
at-end-for (of_loop l first last by) outer before ss t = tt

at-ends : (c : Context) (outer : List Level) (ss : StmtTrees) (m : Mark) (t : Token) → AtToken t (body_ends c outer ss m t)
at-ends c [] ss m t = at-cond t (is m mark.EndProgram) _ _ tt refl
at-ends c (level ∷ outer) ss m t =
    at-cond t (is m mark.Elsif) _ _ (at-elsif level.body outer level.before ss t)
    (at-cond t (is m mark.Else) _ _ (at-else level.body outer level.before ss t)
    (at-cond t (is m mark.EndIf) _ _ (at-end-if level.body outer level.before ss t)
    (at-cond t (is m mark.EndCase) _ _ (at-end-case level.body outer level.before ss t)
    (at-cond t (is m mark.EndFor) _ _ (at-end-for level.body outer level.before ss t)
    (at-next-label c level.body outer level.before ss first_wanted t)))))

at-start : (c : Context) (outer : List Level) (ss : StmtTrees) (m : Mark) (t : Token) → AtToken t (start_at c outer ss m t)
at-start c outer ss m t =
    at-cond t (is m mark.Semi) _ _ (at-no-deeper c.most (length outer) t (to outer ss start) tt)
    (at-cond t (is m mark.Name) _ _ (at-no-deeper c.most (length outer) t (to outer ss (named (c.bytes t) t.spot)) tt)
    (at-cond t (is m mark.If) _ _ (at-no-deeper c.most (length outer) t (to outer ss (reading (to_test no_arms t.spot) [] want)) tt)
    (at-cond t (is m mark.Case) _ _ (at-no-deeper c.most (length outer) t (to outer ss (reading (to_select t.spot) [] want)) tt)
    (at-cond t (is m mark.For) _ _ (at-no-deeper c.most (length outer) t (to outer ss (loop_begun t.spot)) tt)
    (at-ends c outer ss m t)))))

at-take : (outer : List Level) (ss : StmtTrees) (p : Purpose) (e : ExprTree) (m : Mark) (t : Token) → AtToken t (take outer ss p e m t)
at-take outer ss (to_assign f s) e m t = at-cond t (is m mark.Semi) _ _ tt refl
at-take outer ss (to_test arms s) e m t = at-cond t (is m mark.Then) _ _ tt refl
at-take outer ss (to_select s) e m t = at-cond t (is m mark.Of) _ _ tt refl
at-take outer ss (to_begin l) e m t = at-cond t (is m mark.To) _ _ tt refl
at-take outer ss (to_end l first) e m t = at-cond t (is m mark.By) _ _ tt (at-cond t (is m mark.Do) _ _ tt refl)
at-take outer ss (to_step l first last) e m t = at-cond t (is m mark.Do) _ _ tt refl

at-read : (c : Context) (outer : List Level) (ss : StmtTrees) (p : Purpose) (fs : List Form) (o : Mode) (t : Token) (e : Option ExprTree)
    → AtToken t (read_at c outer ss p fs o t e)
at-read c outer ss p fs o t (Some e) = at-take outer ss p e (mark_of t.tok) t
at-read c outer ss p fs o t None = at-by t (read_on outer ss p) (λ f. refl) (λ x. tt) (step c (length outer) fs o t) (at-step c (length outer) fs o t)

pub at-stmt : (c : Context) (outer : List Level) (ss : StmtTrees) (phase : Phase) (t : Token) → AtToken t (stmt_step c outer ss phase t)
at-stmt c outer ss start t = at-start c outer ss (mark_of t.tok) t
at-stmt c outer ss (named f s) t = at-cond t (is (mark_of t.tok) mark.Assign) _ _ tt (at-label-behind c outer ss (first_read (name f s)) t)
at-stmt c outer ss (reading p fs o) t = at-read c outer ss p fs o t (ends_before fs o t)
at-stmt c outer ss closed t = at-cond t (is (mark_of t.tok) mark.Semi) _ _ tt refl
at-stmt c outer ss (loop_begun s) t = at-cond t (is (mark_of t.tok) mark.Name) _ _ tt refl
at-stmt c outer ss (loop_named l) t = at-cond t (is (mark_of t.tok) mark.Assign) _ _ tt refl
at-stmt c outer ss (labelling k ls p) t = at-label c outer ss k ls p t
at-stmt c outer ss finished t = refl

-- ---- the program

at-body : (c : Context) (f : Front) (outer : List Level) (ss : StmtTrees) (phase : Phase) (t : Token) → AtToken t (body_step f (stmt_step c outer ss phase t))
at-body c f outer ss phase t = at-by t (body_step f) (λ e. refl) (λ x. tt) (stmt_step c outer ss phase t) (at-stmt c outer ss phase t)

at-decl-at : (c : Context) (o : Opening) (m : Mark) (t : Token) → AtToken t (decl_at c o m t)
at-decl-at c o m t = at-cond t (is m mark.Name) _ _ tt (at-cond t (is m mark.EndVar) _ _ tt refl)

at-init-at : (c : Context) (o : Opening) (ds : List DeclaredTree) (ty : Ty) (fs : List Form) (p : Mode) (t : Token) (e : Option ExprTree)
    → AtToken t (init_at c o ds ty fs p t e)
at-init-at c o ds ty fs p t (Some e) = at-cond t (is (mark_of t.tok) mark.Semi) _ _ tt refl
at-init-at c o ds ty fs p t None = at-by t (init_read_on o ds ty) (λ f. refl) (λ x. tt) (step c 0 fs p t) (at-step c 0 fs p t)

pub at-program-step : (c : Context) (s : State) (t : Token) → AtToken t (program_step c s t)
at-program-step c at_program t = at-cond t (is (mark_of t.tok) mark.Program) _ _ tt refl
at-program-step c at_name t = at-cond t (is (mark_of t.tok) mark.Name) _ _ tt refl
at-program-step c (at_block f) t =
    at-cond t (is (mark_of t.tok) mark.VarInput) _ _ tt
    (at-cond t (is (mark_of t.tok) mark.VarOutput) _ _ tt
    (at-cond t (is (mark_of t.tok) mark.Var) _ _ tt
    (at-body c f [] no_stmts start t)))
at-program-step c (at_var f) t =
    at-cond t (is (mark_of t.tok) mark.Constant) _ _ tt
    (at-cond t (is (mark_of t.tok) mark.Retain) _ _ tt
    (at-decl-at c _ (mark_of t.tok) t))
at-program-step c (at_decl o) t = at-decl-at c o (mark_of t.tok) t
at-program-step c (at_comma o ds) t = at-cond t (is (mark_of t.tok) mark.Comma) _ _ tt (at-cond t (is (mark_of t.tok) mark.Colon) _ _ tt refl)
at-program-step c (at_next_name o ds) t = at-cond t (is (mark_of t.tok) mark.Name) _ _ tt refl
at-program-step c (at_type o ds) t =
    at-cond t (is (mark_of t.tok) mark.Bool) _ _ tt
    (at-cond t (is (mark_of t.tok) mark.Int) _ _ tt
    (at-cond t (is (mark_of t.tok) mark.Dint) _ _ tt
    (at-cond t (is (mark_of t.tok) mark.Lint) _ _ tt refl)))
at-program-step c (at_init o ds ty) t = at-cond t (is (mark_of t.tok) mark.Semi) _ _ tt (at-cond t (is (mark_of t.tok) mark.Assign) _ _ tt refl)
at-program-step c (in_init o ds ty fs p) t = at-init-at c o ds ty fs p t (ends_before fs p t)
at-program-step c (in_body f outer ss phase) t = at-body c f outer ss phase t
