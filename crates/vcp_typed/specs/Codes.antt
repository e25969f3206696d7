-- Codes: a program as a tree of numbers, which the value of a checked program needs in the logic. No contract speaks of them.
use Rattle.std.specs.Prelude.{◌≡◌, ◌⊎◌, ℕ, ℤ, List}
use Rattle.std.specs.Coded.{Coded, codes, code_by}
use mathlib.Core.Path.{refl, sym, ap, subst}
use mathlib.Core.Logic.{inl, inr}
use base.Stored.{Gv, gnil, gnum, gcons}
use Rattle.vcp_base.specs.declared.spot.Spot.{Spot}
use Rattle.vcp_base.specs.declared.ty.Ty.{Ty}
use Rattle.vcp_base.specs.declared.ty.Ty.TheVariants as ty
use Rattle.st_tree.specs.declared.expr.UnOp.{UnOp}
use Rattle.st_tree.specs.declared.expr.BinOp.{BinOp}
use Rattle.vcp_typed.specs.declared.expr.Fun.{Fun}
use Rattle.vcp_typed.specs.declared.stmt.TLabel.{TLabel}
use Rattle.vcp_typed.specs.TExprTree.{TExprTree, TExprTrees, literal, get, widen, unary, binary, call, no_texprs, and_texpr}
use Rattle.vcp_typed.specs.TStmtTree.{TStmtTree, TStmtTrees, TArmTrees, TBranchTrees, TOtherTree, assign, if_, case, for_, no_tstmts, and_tstmt, no_tarms}
use Rattle.vcp_typed.specs.TStmtTree.{and_tarm, no_tbranches, and_tbranch, no_tother, tother}
use Rattle.vcp_typed.specs.SourceRun.{Program}

-- a tree with a mark at each node
data Marked (L : Type 0) : Type 0 where
  end : Marked L
  node : L → Marked L → Marked L → Marked L

abbrev head : Gv → Gv
head gnil = gnil
head (gnum n) = gnil
head (gcons a b) = a

abbrev tail : Gv → Gv
tail gnil = gnil
tail (gnum n) = gnil
tail (gcons a b) = b

abbrev IsPair : Gv → Type 0
IsPair gnil = ⊥
IsPair (gnum n) = ⊥
IsPair (gcons a b) = Unit {0}

abbrev code_marked : {L : Type 0} → Coded L → Marked L → Gv
code_marked c end = gnil
code_marked c (node l a b) = gcons (c.code l) (gcons (code_marked c a) (code_marked c b))

one-marked : {L : Type 0} (c : Coded L) (x y : Marked L) → code_marked c x ≡ code_marked c y → x ≡ y
one-marked c end end p = refl
one-marked c (node l a b) (node m x y) p =
    λ i. node (c.inj l m (ap head p) i) (one-marked c a x (ap (λ g. head (tail g)) p) i) (one-marked c b y (ap (λ g. tail (tail g)) p) i)
one-marked c end (node m x y) p = absurd (subst IsPair (sym p) tt)
one-marked c (node l a b) end p = absurd (subst IsPair p tt)

abbrev coded_marked : {L : Type 0} → Coded L → Coded (Marked L)
coded_marked c = record { code = code_marked c; inj = one-marked c }

-- ---- expressions

-- what a node has beside its parts: of a literal, a read, a widening, an operator of one or of two operands, and a function
abbrev ExprMark : Type 0
ExprMark = (Ty × ℤ × Spot) ⊎ ((ℕ × Ty) ⊎ (Ty ⊎ ((UnOp × Ty × Spot) ⊎ ((BinOp × Ty × Spot) ⊎ (Fun × Ty × Spot)))))

abbrev mutual
  marks : TExprTree → Marked ExprMark
  marks (literal t v s) = node (inl (t, v, s)) end end
  marks (get n t) = node (inr (inl (n, t))) end end
  marks (widen t a) = node (inr (inr (inl t))) (marks a) end
  marks (unary op t a s) = node (inr (inr (inr (inl (op, t, s))))) (marks a) end
  marks (binary op t a b s) = node (inr (inr (inr (inr (inl (op, t, s)))))) (marks a) (marks b)
  marks (call f t es s) = node (inr (inr (inr (inr (inr (f, t, s)))))) (marks_all es) end

  marks_all : TExprTrees → Marked ExprMark
  marks_all no_texprs = end
  marks_all (and_texpr e es) = node (inr (inr (inl ty.Bool))) (marks e) (marks_all es)

abbrev mutual
  unmark : Marked ExprMark → TExprTree
  unmark end = get 0 ty.Bool
  unmark (node (inl m) a b) = literal m.0 m.1 m.2
  unmark (node (inr (inl m)) a b) = get m.0 m.1
  unmark (node (inr (inr (inl m))) a b) = widen m (unmark a)
  unmark (node (inr (inr (inr (inl m)))) a b) = unary m.0 m.1 (unmark a) m.2
  unmark (node (inr (inr (inr (inr (inl m))))) a b) = binary m.0 m.1 (unmark a) (unmark b) m.2
  unmark (node (inr (inr (inr (inr (inr m))))) a b) = call m.0 m.1 (unmark_all a) m.2

  unmark_all : Marked ExprMark → TExprTrees
  unmark_all end = no_texprs
  unmark_all (node m a b) = and_texpr (unmark a) (unmark_all b)

mutual
  unmark-marks : (e : TExprTree) → unmark (marks e) ≡ e
  unmark-marks (literal t v s) = refl
  unmark-marks (get n t) = refl
  unmark-marks (widen t a) = λ i. widen t (unmark-marks a i)
  unmark-marks (unary op t a s) = λ i. unary op t (unmark-marks a i) s
  unmark-marks (binary op t a b s) = λ i. binary op t (unmark-marks a i) (unmark-marks b i) s
  unmark-marks (call f t es s) = λ i. call f t (unmark-marks_all es i) s

  unmark-marks_all : (es : TExprTrees) → unmark_all (marks_all es) ≡ es
  unmark-marks_all no_texprs = refl
  unmark-marks_all (and_texpr e es) = λ i. and_texpr (unmark-marks e i) (unmark-marks_all es i)

expr_code : Coded TExprTree
expr_code = code_by (Marked ExprMark) (coded_marked (Prim.hlevel codes)) marks unmark unmark-marks

-- ---- statements

-- what a node has beside its parts: of an assignment, an IF or a list, a CASE or a condition, a FOR, and a branch
abbrev StmtMark : Type 0
StmtMark = (ℕ × TExprTree × Spot) ⊎ (Unit {0} ⊎ ((TExprTree × Spot) ⊎ ((ℕ × ℤ × ℤ × ℕ × Spot) ⊎ List TLabel)))

abbrev mutual
  stmt_marks : TStmtTree → Marked StmtMark
  stmt_marks (assign n e s) = node (inl (n, e, s)) end end
  stmt_marks (if_ arms o) = node (inr (inl tt)) (arm_marks arms) (other_marks o)
  stmt_marks (case e branches o s) = node (inr (inr (inl (e, s)))) (branch_marks branches) (other_marks o)
  stmt_marks (for_ n f by k body s) = node (inr (inr (inr (inl (n, f, by, k, s))))) (stmts_marks body) end

  stmts_marks : TStmtTrees → Marked StmtMark
  stmts_marks no_tstmts = end
  stmts_marks (and_tstmt s ss) = node (inr (inl tt)) (stmt_marks s) (stmts_marks ss)

  arm_marks : TArmTrees → Marked StmtMark
  arm_marks no_tarms = end
  arm_marks (and_tarm e body s arms) = node (inr (inr (inl (e, s)))) (stmts_marks body) (arm_marks arms)

  branch_marks : TBranchTrees → Marked StmtMark
  branch_marks no_tbranches = end
  branch_marks (and_tbranch ls body branches) = node (inr (inr (inr (inr ls)))) (stmts_marks body) (branch_marks branches)

  other_marks : TOtherTree → Marked StmtMark
  other_marks no_tother = end
  other_marks (tother body) = node (inr (inl tt)) (stmts_marks body) end

abbrev mutual
  stmt_unmark : Marked StmtMark → TStmtTree
  stmt_unmark end = if_ no_tarms no_tother
  stmt_unmark (node (inl m) a b) = assign m.0 m.1 m.2
  stmt_unmark (node (inr (inl m)) a b) = if_ (arm_unmark a) (other_unmark b)
  stmt_unmark (node (inr (inr (inl m))) a b) = case m.0 (branch_unmark a) (other_unmark b) m.1
  stmt_unmark (node (inr (inr (inr (inl m)))) a b) = for_ m.0 m.1 m.2 m.3 (stmts_unmark a) m.4
  stmt_unmark (node (inr (inr (inr (inr m)))) a b) = if_ no_tarms no_tother

  stmts_unmark : Marked StmtMark → TStmtTrees
  stmts_unmark end = no_tstmts
  stmts_unmark (node m a b) = and_tstmt (stmt_unmark a) (stmts_unmark b)

  arm_unmark : Marked StmtMark → TArmTrees
  arm_unmark end = no_tarms
  arm_unmark (node (inl m) a b) = no_tarms
  arm_unmark (node (inr (inl m)) a b) = no_tarms
  arm_unmark (node (inr (inr (inl m))) a b) = and_tarm m.0 (stmts_unmark a) m.1 (arm_unmark b)
  arm_unmark (node (inr (inr (inr (inl m)))) a b) = no_tarms
  arm_unmark (node (inr (inr (inr (inr m)))) a b) = no_tarms

  branch_unmark : Marked StmtMark → TBranchTrees
  branch_unmark end = no_tbranches
  branch_unmark (node (inl m) a b) = no_tbranches
  branch_unmark (node (inr (inl m)) a b) = no_tbranches
  branch_unmark (node (inr (inr (inl m))) a b) = no_tbranches
  branch_unmark (node (inr (inr (inr (inl m)))) a b) = no_tbranches
  branch_unmark (node (inr (inr (inr (inr m)))) a b) = and_tbranch m (stmts_unmark a) (branch_unmark b)

  other_unmark : Marked StmtMark → TOtherTree
  other_unmark end = no_tother
  other_unmark (node m a b) = tother (stmts_unmark a)

mutual
  stmt-same : (s : TStmtTree) → stmt_unmark (stmt_marks s) ≡ s
  stmt-same (assign n e s) = refl
  stmt-same (if_ arms o) = λ i. if_ (arms-same arms i) (other-same o i)
  stmt-same (case e branches o s) = λ i. case e (branches-same branches i) (other-same o i) s
  stmt-same (for_ n f by k body s) = λ i. for_ n f by k (stmts-same body i) s

  stmts-same : (ss : TStmtTrees) → stmts_unmark (stmts_marks ss) ≡ ss
  stmts-same no_tstmts = refl
  stmts-same (and_tstmt s ss) = λ i. and_tstmt (stmt-same s i) (stmts-same ss i)

  arms-same : (arms : TArmTrees) → arm_unmark (arm_marks arms) ≡ arms
  arms-same no_tarms = refl
  arms-same (and_tarm e body s arms) = λ i. and_tarm e (stmts-same body i) s (arms-same arms i)

  branches-same : (branches : TBranchTrees) → branch_unmark (branch_marks branches) ≡ branches
  branches-same no_tbranches = refl
  branches-same (and_tbranch ls body branches) = λ i. and_tbranch ls (stmts-same body i) (branches-same branches i)

  other-same : (o : TOtherTree) → other_unmark (other_marks o) ≡ o
  other-same no_tother = refl
  other-same (tother body) = λ i. tother (stmts-same body i)

stmts_code : Coded TStmtTrees
stmts_code = code_by (Marked StmtMark) (coded_marked (Prim.hlevel (codes, expr_code))) stmts_marks stmts_unmark stmts-same

-- the code of a program
pub program_code : Coded Program
program_code = Prim.hlevel (codes, stmts_code)
