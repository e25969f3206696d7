-- Deeper: a higher limit of depth changes nothing but faults of depth.
use Rattle.std.proofs.Common.{◌≡◌, ℕ, suc, ◌+◌, ◌≤◌, Bool, true, false, cond, leb, List, [], ◌∷◌, length, Option, Some, None, Result, Ok, Err, sym, refl, ap}
use Rattle.std.proofs.Common.{subst, arith}
use Rattle.std.proofs.lemmas.Bool.{le-leb, leb-true}
use Rattle.vcp_base.specs.declared.spot.Spot.{Spot}
use Rattle.vcp_base.specs.declared.ty.Ty.{Ty}
use Rattle.st_lexer.specs.declared.token.Token.{Token}
use Rattle.st_tree.specs.ExprTree.{ExprTree, name}
use Rattle.st_tree.specs.StmtTree.{LabelTree, StmtTrees, no_stmts, no_arms}
use Rattle.st_tree.specs.ProgramTree.{DeclaredTree, ProgramTree}
use Rattle.st_parser.specs.declared.fault.SyntaxFault.{SyntaxFault}
use Rattle.st_parser.specs.declared.fault.SyntaxFault.TheVariants as fault
use Rattle.st_parser.specs.declared.marks.Mark.{Mark}
use Rattle.st_parser.specs.declared.marks.Mark.TheVariants as mark
use Rattle.st_parser.specs.Marks.{begins_by, mark_of, is}
use Rattle.st_parser.specs.ExprMachine.{Context, Form, Mode, want, after_name, have, depth_in, no_deeper, operand, step, ends_before}
use Rattle.st_parser.specs.StmtMachine.{Selection, Body, of_arm, of_if_else, of_branch, of_case_else, of_loop, Level, Purpose, to_assign, to_test, to_select}
use Rattle.st_parser.specs.StmtMachine.{LabelPhase, first_wanted, first_negated, first_read, last_wanted, last_negated, last_read, Phase, start, named, reading}
use Rattle.st_parser.specs.StmtMachine.{closed, loop_begun, loop_named, labelling, finished, to, with_branch, const_at, number_at, with_phase, label_step}
use Rattle.st_parser.specs.StmtMachine.{next_label_in, next_label, elsif_at, else_at, end_if_at, end_case_at, end_for_at, body_ends, start_at, take, read_on}
use Rattle.st_parser.specs.StmtMachine.{read_at, stmt_step}
use Rattle.st_parser.specs.ProgramMachine.{Front, Opening, State, at_program, at_name, at_block, at_var, at_decl, at_comma, at_next_name, at_type, at_init}
use Rattle.st_parser.specs.ProgramMachine.{in_init, in_body, body_step, block_at, init_read_on, init_at, program_step, finish, onward, run}

-- the second result, got with a higher limit, is the first, unless that is a fault of depth
abbrev pub Agrees : {X : Type 0} → Result X SyntaxFault → Result X SyntaxFault → Type 0
Agrees (Ok x) y = y ≡ Ok x
Agrees (Err (fault.Syntax s)) y = y ≡ Err (fault.Syntax s)
Agrees (Err (fault.Depth s)) y = Unit {0}
Agrees (Err fault.Memory) y = y ≡ Err fault.Memory

pub agrees-refl : {X : Type 0} (x : Result X SyntaxFault) → Agrees x x
agrees-refl (Ok x) = refl
agrees-refl (Err (fault.Syntax s)) = refl
agrees-refl (Err (fault.Depth s)) = tt
agrees-refl (Err fault.Memory) = refl

-- what hands faults on
pub agrees-by : {X Y : Type 0} (k : Result X SyntaxFault → Result Y SyntaxFault) → ((f : SyntaxFault) → k (Err f) ≡ Err f) → (x y : Result X SyntaxFault)
    → Agrees x y → Agrees (k x) (k y)
agrees-by k h (Ok x) y a = subst (λ z. Agrees (k (Ok x)) (k z)) (sym a) (agrees-refl (k (Ok x)))
agrees-by k h (Err (fault.Syntax s)) y a = subst (λ z. Agrees (k (Err (fault.Syntax s))) (k z)) (sym a) (agrees-refl (k (Err (fault.Syntax s))))
agrees-by {Y = Y} k h (Err (fault.Depth s)) y a = subst (λ (z : Result Y SyntaxFault). Agrees z (k y)) (sym (h (fault.Depth s))) tt
agrees-by k h (Err fault.Memory) y a = subst (λ z. Agrees (k (Err fault.Memory)) (k z)) (sym a) (agrees-refl (k (Err fault.Memory)))

agrees-cond : {X : Type 0} (b : Bool) (x y z w : Result X SyntaxFault) → Agrees x z → Agrees y w → Agrees (cond b x y) (cond b z w)
agrees-cond true x y z w h k = h
agrees-cond false x y z w h k = k

agrees-if : {X : Type 0} (b c : Bool) (x : X) (s : Spot) → (b ≡ true → c ≡ true)
    → Agrees (cond b (Ok x) (Err (fault.Depth s))) (cond c (Ok x) (Err (fault.Depth s)))
agrees-if {X = X} true c x s h = ap (λ (y : Bool). let r : Result X SyntaxFault = cond y (Ok x) (Err (fault.Depth s)) in r) (h refl)
agrees-if false c x s h = tt

module _ (bytes : Token → List ℕ) (m n : ℕ) (le : m ≤ n) where
  abbrev lower : Context
  lower = record { bytes = bytes; most = m }

  abbrev higher : Context
  higher = record { bytes = bytes; most = n }

  no-deeper-agrees : {X : Type 0} (d : ℕ) (t : Token) (r : Result X SyntaxFault) → Agrees (no_deeper m d t r) (no_deeper n d t r)
  no-deeper-agrees d t (Ok x) = agrees-if (leb d m) (leb d n) x t.spot (λ e. le-leb d n (omega (arith, le, leb-true d m e)))
  no-deeper-agrees d t (Err f) = agrees-refl (Err f)

  pub step-agrees : (d : ℕ) (fs : List Form) (o : Mode) (t : Token) → Agrees (step lower d fs o t) (step higher d fs o t)
  step-agrees d fs want t = no-deeper-agrees (d + depth_in fs) t (operand lower fs (begins_by t.tok) t)
  step-agrees d fs (after_name f s) t = agrees-refl (step lower d fs (after_name f s) t)
  step-agrees d fs (have e) t = agrees-refl (step lower d fs (have e) t)

  -- ---- statements

  phase-agrees : (outer : List Level) (ss : StmtTrees) (k : Selection) (ls : List LabelTree) (d : ℕ) (t : Token) (r : Result LabelPhase SyntaxFault)
      → Agrees (with_phase outer ss k ls (no_deeper m d t r)) (with_phase outer ss k ls (no_deeper n d t r))
  phase-agrees outer ss k ls d t r = agrees-by (with_phase outer ss k ls) (λ f. refl) (no_deeper m d t r) (no_deeper n d t r) (no-deeper-agrees d t r)

  label-agrees : (outer : List Level) (ss : StmtTrees) (k : Selection) (ls : List LabelTree) (p : LabelPhase) (t : Token)
      → Agrees (label_step lower outer ss k ls p t) (label_step higher outer ss k ls p t)
  label-agrees outer ss k ls first_wanted t = phase-agrees outer ss k ls (suc (length outer)) t (const_at lower first_read first_negated (begins_by t.tok) t)
  label-agrees outer ss k ls (first_negated s) t = phase-agrees outer ss k ls (suc (suc (length outer))) t (number_at first_read s t.tok t)
  label-agrees outer ss k ls (first_read e) t = agrees-refl (label_step lower outer ss k ls (first_read e) t)
  label-agrees outer ss k ls (last_wanted e) t =
      phase-agrees outer ss k ls (suc (length outer)) t (const_at lower (last_read e) (last_negated e) (begins_by t.tok) t)
  label-agrees outer ss k ls (last_negated e s) t = phase-agrees outer ss k ls (suc (suc (length outer))) t (number_at (last_read e) s t.tok t)
  label-agrees outer ss k ls (last_read e l) t = agrees-refl (label_step lower outer ss k ls (last_read e l) t)

  next-label-agrees : (body : Body) (outer : List Level) (before ss : StmtTrees) (p : LabelPhase) (t : Token)
      → Agrees (next_label_in lower body outer before ss p t) (next_label_in higher body outer before ss p t)
  next-label-agrees (of_arm arms e s) outer before ss p t = refl
  next-label-agrees (of_if_else arms) outer before ss p t = refl
  next-label-agrees (of_branch k ls) outer before ss p t = label-agrees outer before (with_branch k ls ss) [] p t
  next-label-agrees (of_case_else k) outer before ss p t = refl
  next-label-agrees (of_loop l first last by) outer before ss p t = refl

  label-behind-agrees : (outer : List Level) (ss : StmtTrees) (p : LabelPhase) (t : Token)
      → Agrees (next_label lower outer ss p t) (next_label higher outer ss p t)
  label-behind-agrees [] ss p t = refl
  label-behind-agrees (level ∷ outer) ss p t = next-label-agrees level.body outer level.before ss p t

  ends-agrees : (outer : List Level) (ss : StmtTrees) (k : Mark) (t : Token) → Agrees (body_ends lower outer ss k t) (body_ends higher outer ss k t)
  ends-agrees [] ss k t = agrees-refl (body_ends lower [] ss k t)
  ends-agrees (level ∷ outer) ss k t =
      agrees-cond (is k mark.Elsif) _ _ _ _ (agrees-refl (elsif_at level.body outer level.before ss t))
      (agrees-cond (is k mark.Else) _ _ _ _ (agrees-refl (else_at level.body outer level.before ss t))
      (agrees-cond (is k mark.EndIf) _ _ _ _ (agrees-refl (end_if_at level.body outer level.before ss t))
      (agrees-cond (is k mark.EndCase) _ _ _ _ (agrees-refl (end_case_at level.body outer level.before ss t))
      (agrees-cond (is k mark.EndFor) _ _ _ _ (agrees-refl (end_for_at level.body outer level.before ss t))
      (next-label-agrees level.body outer level.before ss first_wanted t)))))

  start-agrees : (outer : List Level) (ss : StmtTrees) (k : Mark) (t : Token) → Agrees (start_at lower outer ss k t) (start_at higher outer ss k t)
  start-agrees outer ss k t =
      agrees-cond (is k mark.Semi) _ _ _ _ (no-deeper-agrees (length outer) t (to outer ss start))
      (agrees-cond (is k mark.Name) _ _ _ _ (no-deeper-agrees (length outer) t (to outer ss (named (bytes t) t.spot)))
      (agrees-cond (is k mark.If) _ _ _ _ (no-deeper-agrees (length outer) t (to outer ss (reading (to_test no_arms t.spot) [] want)))
      (agrees-cond (is k mark.Case) _ _ _ _ (no-deeper-agrees (length outer) t (to outer ss (reading (to_select t.spot) [] want)))
      (agrees-cond (is k mark.For) _ _ _ _ (no-deeper-agrees (length outer) t (to outer ss (loop_begun t.spot)))
      (ends-agrees outer ss k t)))))

  read-agrees : (outer : List Level) (ss : StmtTrees) (p : Purpose) (fs : List Form) (o : Mode) (t : Token) (e : Option ExprTree)
      → Agrees (read_at lower outer ss p fs o t e) (read_at higher outer ss p fs o t e)
  read-agrees outer ss p fs o t (Some e) = agrees-refl (take outer ss p e (mark_of t.tok) t)
  read-agrees outer ss p fs o t None =
      agrees-by (read_on outer ss p) (λ f. refl) (step lower (length outer) fs o t) (step higher (length outer) fs o t) (step-agrees (length outer) fs o t)

  pub stmt-agrees : (outer : List Level) (ss : StmtTrees) (phase : Phase) (t : Token)
      → Agrees (stmt_step lower outer ss phase t) (stmt_step higher outer ss phase t)
  stmt-agrees outer ss start t = start-agrees outer ss (mark_of t.tok) t
  stmt-agrees outer ss (named f s) t =
      agrees-cond (is (mark_of t.tok) mark.Assign) _ _ _ _ (agrees-refl (to outer ss (reading (to_assign f s) [] want)))
      (label-behind-agrees outer ss (first_read (name f s)) t)
  stmt-agrees outer ss (reading p fs o) t = read-agrees outer ss p fs o t (ends_before fs o t)
  stmt-agrees outer ss closed t = agrees-refl (stmt_step lower outer ss closed t)
  stmt-agrees outer ss (loop_begun s) t = agrees-refl (stmt_step lower outer ss (loop_begun s) t)
  stmt-agrees outer ss (loop_named l) t = agrees-refl (stmt_step lower outer ss (loop_named l) t)
  stmt-agrees outer ss (labelling k ls p) t = label-agrees outer ss k ls p t
  stmt-agrees outer ss finished t = refl

  -- ---- the program

  body-agrees : (f : Front) (outer : List Level) (ss : StmtTrees) (phase : Phase) (t : Token)
      → Agrees (body_step f (stmt_step lower outer ss phase t)) (body_step f (stmt_step higher outer ss phase t))
  body-agrees f outer ss phase t =
      agrees-by (body_step f) (λ e. refl) (stmt_step lower outer ss phase t) (stmt_step higher outer ss phase t) (stmt-agrees outer ss phase t)

  block-agrees : (f : Front) (k : Mark) (t : Token) → Agrees (block_at lower f k t) (block_at higher f k t)
  block-agrees f k t =
      agrees-cond (is k mark.VarInput) _ _ _ _ refl
      (agrees-cond (is k mark.VarOutput) _ _ _ _ refl
      (agrees-cond (is k mark.Var) _ _ _ _ refl
      (body-agrees f [] no_stmts start t)))

  init-agrees : (o : Opening) (ds : List DeclaredTree) (ty : Ty) (fs : List Form) (p : Mode) (t : Token) (e : Option ExprTree)
      → Agrees (init_at lower o ds ty fs p t e) (init_at higher o ds ty fs p t e)
  init-agrees o ds ty fs p t (Some e) = agrees-refl (init_at lower o ds ty fs p t (Some e))
  init-agrees o ds ty fs p t None = agrees-by (init_read_on o ds ty) (λ f. refl) (step lower 0 fs p t) (step higher 0 fs p t) (step-agrees 0 fs p t)

  pub program-agrees : (s : State) (t : Token) → Agrees (program_step lower s t) (program_step higher s t)
  program-agrees at_program t = agrees-refl (program_step lower at_program t)
  program-agrees at_name t = agrees-refl (program_step lower at_name t)
  program-agrees (at_block f) t = block-agrees f (mark_of t.tok) t
  program-agrees (at_var f) t = agrees-refl (program_step lower (at_var f) t)
  program-agrees (at_decl o) t = agrees-refl (program_step lower (at_decl o) t)
  program-agrees (at_comma o ds) t = agrees-refl (program_step lower (at_comma o ds) t)
  program-agrees (at_next_name o ds) t = agrees-refl (program_step lower (at_next_name o ds) t)
  program-agrees (at_type o ds) t = agrees-refl (program_step lower (at_type o ds) t)
  program-agrees (at_init o ds ty) t = agrees-refl (program_step lower (at_init o ds ty) t)
  program-agrees (in_init o ds ty fs p) t = init-agrees o ds ty fs p t (ends_before fs p t)
  program-agrees (in_body f outer ss phase) t = body-agrees f outer ss phase t

  onward-agrees : (x y : Result State SyntaxFault) (go gone : State → Result ProgramTree SyntaxFault) → Agrees x y → ((s : State) → Agrees (go s) (gone s))
      → Agrees (onward x go) (onward y gone)
  onward-agrees (Ok s) y go gone h k = subst (λ (z : Result State SyntaxFault). Agrees (go s) (onward z gone)) (sym h) (k s)
  onward-agrees (Err (fault.Syntax s)) y go gone h k = ap (λ (z : Result State SyntaxFault). onward z gone) h
  onward-agrees (Err (fault.Depth s)) y go gone h k = tt
  onward-agrees (Err fault.Memory) y go gone h k = ap (λ (z : Result State SyntaxFault). onward z gone) h

  pub run-agrees : (end : Spot) (ts : List Token) (s : State) → Agrees (run lower end ts s) (run higher end ts s)
  run-agrees end [] s = agrees-refl (finish end s)
  run-agrees end (t ∷ ts) s =
      onward-agrees (program_step lower s t) (program_step higher s t) (run lower end ts) (run higher end ts) (program-agrees s t) (λ r. run-agrees end ts r)
