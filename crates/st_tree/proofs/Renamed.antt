-- What tokens spell but for the bytes of names: with other bytes they spell a tree too, at the same depths.
use Rattle.std.proofs.Common.{◌≡◌, ℕ, suc, ◌+◌, ◌==◌, cond, List, [], ◌∷◌, ◌++◌, Option, Some, None, refl, sym, ap, subst}
use Rattle.st_lexer.specs.declared.token.Key.{Key}
use Rattle.st_lexer.specs.declared.token.Token.{Token}
use Rattle.st_tree.specs.ExprTree.{ExprTree, ExprTrees, literal, name, unary, binary, call, no_exprs, and_expr}
use Rattle.st_tree.specs.StmtTree.{LabelTree, StmtTree, StmtTrees, ArmTrees, BranchTrees, OtherTree, assign, if_, case, for_, no_stmts, and_stmt, no_arms}
use Rattle.st_tree.specs.StmtTree.{and_arm, no_branches, and_branch, no_other, other}
use Rattle.st_tree.specs.ProgramTree.{DeclaredTree, DeclTree, BlockTree, ProgramTree}
use Rattle.st_tree.specs.Operators.{level, chain}
use Rattle.st_tree.specs.Placed.{Placed, at}
use Rattle.st_tree.specs.Expressions.{SpellsExpr, SpellsArgs, spells_literal, spells_name, spells_unary, spells_binary, spells_call, spells_brackets}
use Rattle.st_tree.specs.Expressions.{spells_last, spells_next}
use Rattle.st_tree.specs.Labels.{SpellsConst, SpellsLabel, SpellsLabels, spells_value, spells_named, spells_negative, spells_one, spells_range}
use Rattle.st_tree.specs.Labels.{spells_last_label, spells_next_label}
use Rattle.st_tree.specs.Statements.{SpellsStep, SpellsStmt, SpellsStmts, SpellsArms, SpellsMoreArms, SpellsBranches, SpellsMoreBranches, spells_no_step}
use Rattle.st_tree.specs.Statements.{spells_step, spells_assign, spells_if, spells_case, spells_for, spells_no_stmt, spells_empty, spells_stmt, spells_arm}
use Rattle.st_tree.specs.Statements.{spells_elsif, spells_if_else, spells_end_if, spells_branch, spells_next_branch, spells_case_else, spells_end_case}
use Rattle.st_tree.specs.Programs.{SpellsNames, SpellsInit, SpellsDecl, SpellsDecls, SpellsBlocks, SpellsProgram, spells_last_name, spells_next_name}
use Rattle.st_tree.specs.Programs.{spells_no_init, spells_init, spells_decl, spells_end_var, spells_next_decl, spells_no_block, spells_block}
use Rattle.st_tree.specs.Programs.{spells_program}

module _ (b c : Token → List ℕ) where
  mutual
    expr : {d l : ℕ} {e : ExprTree} {ps : List Placed} → SpellsExpr b d l e ps → (f : ExprTree) × SpellsExpr c d l f ps × ((n : ℕ) → chain n f ≡ chain n e)
    expr (spells_literal v t k) = (literal v.ty v.value t.spot, spells_literal v t k, λ n. refl)
    expr (spells_name t k) = (name (c t) t.spot, spells_name t k, λ n. refl)
    expr (spells_unary op a t ts k s) =
        let r = expr s in
        (unary op r.0 t.spot, spells_unary op r.0 t ts k r.1, λ n. refl)
    expr {d = d} {l = l} (spells_binary op a e t ts us le k s u) =
        let r = expr s in
        let q = expr u in
        let same = r.2 (level op) in (
          binary op r.0 q.0 t.spot,
          subst (λ m. SpellsExpr c d l (binary op r.0 q.0 t.spot) (ts ++ at (d + m) t ∷ us)) same
              (spells_binary op r.0 q.0 t ts us le k r.1 (subst (λ m. SpellsExpr c (d + suc m) (suc (level op)) q.0 us) (sym same) q.1)),
          λ n. ap (λ (m : ℕ). cond (level op == n) (suc m) 0) (r.2 n),
        )
    expr (spells_call f o es ts kf ko s) =
        let r = args s in
        (call (c f) r.0 f.spot, spells_call f o r.0 ts kf ko r.1, λ n. refl)
    expr (spells_brackets e o x ts ko kx s) =
        let r = expr s in
        (r.0, spells_brackets r.0 o x ts ko kx r.1, r.2)

    args : {d : ℕ} {es : ExprTrees} {ps : List Placed} → SpellsArgs b d es ps → (fs : ExprTrees) × SpellsArgs c d fs ps
    args (spells_last e x ts k s) =
        let r = expr s in
        (and_expr r.0 no_exprs, spells_last r.0 x ts k r.1)
    args (spells_next e es x ts us k s u) =
        let r = expr s in
        let q = args u in
        (and_expr r.0 q.0, spells_next r.0 q.0 x ts us k r.1 q.1)

  constant : {d : ℕ} {e : ExprTree} {ps : List Placed} → SpellsConst b d e ps → (f : ExprTree) × SpellsConst c d f ps
  constant (spells_value v t k) = (literal v.ty v.value t.spot, spells_value v t k)
  constant (spells_named t k) = (name (c t) t.spot, spells_named t k)
  constant (spells_negative ty v m t km kt) = (_, spells_negative ty v m t km kt)

  label : {d : ℕ} {l : LabelTree} {ps : List Placed} → SpellsLabel b d l ps → (m : LabelTree) × SpellsLabel c d m ps
  label (spells_one e ts s) =
      let r = constant s in
      (record { first = r.0; last = None }, spells_one r.0 ts r.1)
  label (spells_range e f x ts us s k u) =
      let r = constant s in
      let q = constant u in
      (record { first = r.0; last = Some q.0 }, spells_range r.0 q.0 x ts us r.1 k q.1)

  labels : {d : ℕ} {ls : List LabelTree} {ps : List Placed} → SpellsLabels b d ls ps → (ms : List LabelTree) × SpellsLabels c d ms ps
  labels (spells_last_label l x ts s k) =
      let r = label s in
      (r.0 ∷ [], spells_last_label r.0 x ts r.1 k)
  labels (spells_next_label l ls x ts us s k u) =
      let r = label s in
      let q = labels u in
      (r.0 ∷ q.0, spells_next_label r.0 q.0 x ts us r.1 k q.1)

  step : {d : ℕ} {by : Option ExprTree} {ps : List Placed} → SpellsStep b d by ps → (by2 : Option ExprTree) × SpellsStep c d by2 ps
  step spells_no_step = (None, spells_no_step)
  step (spells_step e x ts k s) =
      let r = expr s in
      (Some r.0, spells_step r.0 x ts k r.1)

  mutual
    stmt : {d : ℕ} {s : StmtTree} {ps : List Placed} → SpellsStmt b d s ps → (r : StmtTree) × SpellsStmt c d r ps
    stmt (spells_assign n a e ts kn ka s) =
        let r = expr s in
        (assign (c n) r.0 n.spot, spells_assign n a r.0 ts kn ka r.1)
    stmt (spells_if arms o ts s) =
        let r = arms_of s in
        (if_ r.0 r.1, spells_if r.0 r.1 ts r.2)
    stmt (spells_case e cases o x f ts us kx s kf u) =
        let r = expr s in
        let q = branches_of u in
        (case r.0 q.0 q.1 x.spot, spells_case r.0 q.0 q.1 x f ts us kx r.1 kf q.2)
    stmt (spells_for first last by body f n a t o e ts us vs ws kf kn ka s kt u ko v kd w) =
        let r = expr s in
        let q = expr u in
        let y = step ko in
        let z = stmts kd in
        (for_ (c n) n.spot r.0 q.0 y.0 z.0 f.spot, spells_for r.0 q.0 y.0 z.0 f n a t o e ts us vs ws kf kn ka r.1 kt q.1 y.1 v z.1 w)

    stmts : {d : ℕ} {ss : StmtTrees} {ps : List Placed} → SpellsStmts b d ss ps → (rs : StmtTrees) × SpellsStmts c d rs ps
    stmts spells_no_stmt = (no_stmts, spells_no_stmt)
    stmts (spells_empty ss x ts k s) =
        let r = stmts s in
        (r.0, spells_empty r.0 x ts k r.1)
    stmts (spells_stmt s ss x ts us p k q) =
        let r = stmt p in
        let y = stmts q in
        (and_stmt r.0 y.0, spells_stmt r.0 y.0 x ts us r.1 k y.1)

    arms_of : {d : ℕ} {k : Key} {arms : ArmTrees} {o : OtherTree} {ps : List Placed} → SpellsArms b d k arms o ps
        → (cs : ArmTrees) × (p : OtherTree) × SpellsArms c d k cs p ps
    arms_of (spells_arm k e body arms o i t ts us vs ki s kt u v) =
        let r = expr s in
        let q = stmts u in
        let y = more_arms v in
        (and_arm r.0 q.0 i.spot y.0, y.1, spells_arm k r.0 q.0 y.0 y.1 i t ts us vs ki r.1 kt q.1 y.2)

    more_arms : {d : ℕ} {arms : ArmTrees} {o : OtherTree} {ps : List Placed} → SpellsMoreArms b d arms o ps
        → (cs : ArmTrees) × (p : OtherTree) × SpellsMoreArms c d cs p ps
    more_arms (spells_elsif arms o ts s) =
        let r = arms_of s in
        (r.0, r.1, spells_elsif r.0 r.1 ts r.2)
    more_arms (spells_if_else body l e ts kl s ke) =
        let r = stmts s in
        (no_arms, other r.0, spells_if_else r.0 l e ts kl r.1 ke)
    more_arms (spells_end_if e k) = (no_arms, no_other, spells_end_if e k)

    branches_of : {d : ℕ} {cases : BranchTrees} {o : OtherTree} {ps : List Placed} → SpellsBranches b d cases o ps
        → (bs : BranchTrees) × (p : OtherTree) × SpellsBranches c d bs p ps
    branches_of (spells_branch ls body cases o ts us vs s u v) =
        let r = labels s in
        let q = stmts u in
        let y = more_branches v in
        (and_branch r.0 q.0 y.0, y.1, spells_branch r.0 q.0 y.0 y.1 ts us vs r.1 q.1 y.2)

    more_branches : {d : ℕ} {cases : BranchTrees} {o : OtherTree} {ps : List Placed} → SpellsMoreBranches b d cases o ps
        → (bs : BranchTrees) × (p : OtherTree) × SpellsMoreBranches c d bs p ps
    more_branches (spells_next_branch cases o ts s) =
        let r = branches_of s in
        (r.0, r.1, spells_next_branch r.0 r.1 ts r.2)
    more_branches (spells_case_else body l e ts kl s ke) =
        let r = stmts s in
        (no_branches, other r.0, spells_case_else r.0 l e ts kl r.1 ke)
    more_branches (spells_end_case e k) = (no_branches, no_other, spells_end_case e k)

  names : {ds : List DeclaredTree} {ps : List Placed} → SpellsNames b ds ps → (es : List DeclaredTree) × SpellsNames c es ps
  names (spells_last_name n x kn kx) = (_, spells_last_name n x kn kx)
  names (spells_next_name ds n x ts kn kx s) =
      let r = names s in
      (_, spells_next_name r.0 n x ts kn kx r.1)

  init : {i : Option ExprTree} {ps : List Placed} → SpellsInit b i ps → (j : Option ExprTree) × SpellsInit c j ps
  init (spells_no_init x k) = (None, spells_no_init x k)
  init (spells_init e a x ts ka s kx) =
      let r = expr s in
      (Some r.0, spells_init r.0 a x ts ka r.1 kx)

  decl : {d : DeclTree} {ps : List Placed} → SpellsDecl b d ps → (e : DeclTree) × SpellsDecl c e ps
  decl (spells_decl ds ty i t ts us s k u) =
      let r = names s in
      let q = init u in
      (_, spells_decl r.0 ty q.0 t ts us r.1 k q.1)

  decls : {ds : List DeclTree} {ps : List Placed} → SpellsDecls b ds ps → (es : List DeclTree) × SpellsDecls c es ps
  decls (spells_end_var e k) = ([], spells_end_var e k)
  decls (spells_next_decl d ds ts us s u) =
      let r = decl s in
      let q = decls u in
      (r.0 ∷ q.0, spells_next_decl r.0 q.0 ts us r.1 q.1)

  blocks : {bs : List BlockTree} {ps : List Placed} → SpellsBlocks b bs ps → (cs : List BlockTree) × SpellsBlocks c cs ps
  blocks spells_no_block = ([], spells_no_block)
  blocks (spells_block k ds bs ts us vs h s u) =
      let r = decls s in
      let q = blocks u in
      (_, spells_block k r.0 q.0 ts us vs h r.1 q.1)

  pub program : {p : ProgramTree} {ps : List Placed} → SpellsProgram b p ps → (q : ProgramTree) × SpellsProgram c q ps
  program (spells_program bs body p n e ts us kp kn s u ke) =
      let r = blocks s in
      let q = stmts u in
      (_, spells_program r.0 q.0 p n e ts us kp kn r.1 q.1 ke)
