-- A source stops by a division by zero or by a value outside its type, and for no other cause.
use Rattle.std.proofs.Common.{◌≡◌, ℕ, zero, suc, ℤ, pos, ◌+ℤ◌, Bool, true, false, cond, List, [], ◌∷◌, ◌++◌, Result, Ok, Err}
use Rattle.std.specs.Prelude.{IfErr, IfSome, slice_set}
use Rattle.std.specs.List.{list_any}
use Rattle.vcp_base.specs.declared.spot.Spot.{Spot}
use Rattle.vcp_base.specs.declared.turns.Turn.{Turn}
use Rattle.vcp_base.specs.declared.ty.Ty.{Ty}
use Rattle.vcp_base.specs.declared.ty.Ty.TheVariants as ty
use Rattle.vcp_base.specs.declared.kind.StopKind.TheVariants as why
use Rattle.vcp_base.specs.Types.{fits}
use Rattle.vcp_base.specs.Values.{at}
use Rattle.vcp_base.specs.Kinds.{same}
use Rattle.st_tree.specs.declared.expr.UnOp.{UnOp}
use Rattle.st_tree.specs.declared.expr.UnOp.TheVariants as un
use Rattle.st_tree.specs.declared.expr.BinOp.{BinOp}
use Rattle.st_tree.specs.declared.expr.BinOp.TheVariants as bin
use Rattle.vcp_typed.specs.declared.expr.Fun.{Fun}
use Rattle.vcp_typed.specs.declared.expr.Fun.TheVariants as fun
use Rattle.vcp_typed.specs.declared.slot.Slot.{Slot}
use Rattle.vcp_typed.specs.TExprTree.{TExprTree, TExprTrees, literal, get, widen, unary, binary, call, no_texprs, and_texpr}
use Rattle.vcp_typed.specs.TStmtTree.{TStmtTree, TStmtTrees, TArmTrees, TBranchTrees, TOtherTree, assign, if_, case, for_, no_tstmts, and_tstmt, no_tarms}
use Rattle.vcp_typed.specs.TStmtTree.{and_tarm, no_tbranches, and_tbranch, no_tother, tother}
use Rattle.vcp_typed.specs.Meaning.{Stop, and_then, in_range, unless_zero, operate, sign, apply, value, values, is_labelled, turns_from, all_turns, do_stmt}
use Rattle.vcp_typed.specs.Meaning.{do_stmts, do_arms, do_branches, do_other}
use Rattle.vcp_typed.specs.SourceRun.{Program, Run, after_cycle, cycle, run_from}

-- the stop has one of the two causes
abbrev pub IsCause : Stop → Type 0
IsCause s = s.kind ≡ why.Operand → ⊥

abbrev Stops : {A : Type 0} → Result A Stop → Type 0
Stops r = IfErr r IsCause

then-stops : {A B : Type 0} (r : Result A Stop) (next : A → Result B Stop) → Stops r → ((x : A) → Stops (next x)) → Stops (and_then r next)
then-stops (Ok x) next h k = k x
then-stops (Err s) next h k = h

either-stops : {A : Type 0} (b : Bool) (r u : Result A Stop) → Stops r → Stops u → Stops (cond b r u)
either-stops true r u h k = h
either-stops false r u h k = k

ranged : (t : Ty) (s : Spot) (turns : List Turn) (v : ℤ) → Stops (in_range t s turns v)
ranged t s turns v = either-stops (fits t v) _ _ tt (λ e. absurd cc)

divided : (t : Ty) (s : Spot) (turns : List Turn) (d v : ℤ) → Stops (unless_zero d s turns (in_range t s turns v))
divided t s turns d v = either-stops (same d (pos 0)) _ _ (λ e. absurd cc) (ranged t s turns v)

operated : (op : BinOp) (t : Ty) (s : Spot) (turns : List Turn) (a b : ℤ) → Stops (operate op t s turns a b)
operated bin.Mul t s turns a b = ranged t s turns _
operated bin.Div t s turns a b = divided t s turns b _
operated bin.Mod t s turns a b = divided t s turns b _
operated bin.Add t s turns a b = ranged t s turns _
operated bin.Sub t s turns a b = ranged t s turns _
operated bin.Lt t s turns a b = tt
operated bin.Gt t s turns a b = tt
operated bin.Le t s turns a b = tt
operated bin.Ge t s turns a b = tt
operated bin.Eq t s turns a b = tt
operated bin.Ne t s turns a b = tt
operated bin.And t s turns a b = tt
operated bin.Xor t s turns a b = tt
operated bin.Or t s turns a b = tt

signed-stops : (op : UnOp) (t : Ty) (s : Spot) (turns : List Turn) (a : ℤ) → Stops (sign op t s turns a)
signed-stops un.Neg t s turns a = ranged t s turns _
signed-stops un.Not t s turns a = tt

applied : (f : Fun) (t : Ty) (s : Spot) (turns : List Turn) (vs : List ℤ) → Stops (apply f t s turns vs)
applied fun.Abs t s turns vs = ranged t s turns _
applied fun.Min t s turns vs = tt
applied fun.Max t s turns vs = tt
applied fun.Limit t s turns vs = tt
applied fun.Sel t s turns vs = tt
applied fun.IntToDint t s turns vs = tt
applied fun.IntToLint t s turns vs = tt
applied fun.DintToInt t s turns vs = ranged ty.Int s turns (at vs 0)
applied fun.DintToLint t s turns vs = tt
applied fun.LintToInt t s turns vs = ranged ty.Int s turns (at vs 0)
applied fun.LintToDint t s turns vs = ranged ty.Dint s turns (at vs 0)
applied fun.BoolToInt t s turns vs = tt

mutual
  pub value-stops : (e : TExprTree) (turns : List Turn) (m : List ℤ) → Stops (value turns e m)
  value-stops (literal t v s) turns m = tt
  value-stops (get n t) turns m = tt
  value-stops (widen t a) turns m = value-stops a turns m
  value-stops (unary op t a s) turns m = then-stops (value turns a m) _ (value-stops a turns m) (λ v. signed-stops op t s turns v)
  value-stops (binary op t a b s) turns m =
      then-stops (value turns a m) _ (value-stops a turns m) (λ v. then-stops (value turns b m) _ (value-stops b turns m) (λ w. operated op t s turns v w))
  value-stops (call f t es s) turns m = then-stops (values turns es m) _ (values-stop es turns m) (λ vs. applied f t s turns vs)

  values-stop : (es : TExprTrees) (turns : List Turn) (m : List ℤ) → Stops (values turns es m)
  values-stop no_texprs turns m = tt
  values-stop (and_texpr e es) turns m =
      then-stops (value turns e m) _ (value-stops e turns m) (λ v. then-stops (values turns es m) _ (values-stop es turns m) (λ vs. tt))

turns-stop : (n : ℕ) (by : ℤ) (body : ℤ → List ℤ → Result (List ℤ) Stop) → ((v : ℤ) (m : List ℤ) → Stops (body v m))
    → (k : ℕ) (v : ℤ) (m : List ℤ) → Stops (turns_from n by body k v m)
turns-stop n by body h zero v m = tt
turns-stop n by body h (suc k) v m = then-stops (body v (slice_set m n v)) _ (h v _) (λ next. turns-stop n by body h k (v +ℤ by) next)

all-turns-stop : (n : ℕ) (first by : ℤ) (body : ℤ → List ℤ → Result (List ℤ) Stop) → ((v : ℤ) (m : List ℤ) → Stops (body v m))
    → (k : ℕ) (m : List ℤ) → Stops (all_turns n first by k body m)
all-turns-stop n first by body h zero m = tt
all-turns-stop n first by body h (suc k) m = turns-stop n by body h (suc k) first m

mutual
  stmt-stops : (s : TStmtTree) (turns : List Turn) (m : List ℤ) → Stops (do_stmt turns s m)
  stmt-stops (assign n e sp) turns m = then-stops (value turns e m) _ (value-stops e turns m) (λ v. tt)
  stmt-stops (if_ arms o) turns m = arms-stop arms turns (do_other turns o) (λ x. other-stops o turns x) m
  stmt-stops (case e branches o sp) turns m =
      then-stops (value turns e m) _ (value-stops e turns m) (λ v. branches-stop v branches turns (do_other turns o) (λ x. other-stops o turns x) m)
  stmt-stops (for_ n first by k body sp) turns m =
      all-turns-stop n first by _ (λ v x. stmts-stop body (turns ++ record { name = n; value = v } ∷ []) x) k m

  pub stmts-stop : (ss : TStmtTrees) (turns : List Turn) (m : List ℤ) → Stops (do_stmts turns ss m)
  stmts-stop no_tstmts turns m = tt
  stmts-stop (and_tstmt s ss) turns m = then-stops (do_stmt turns s m) _ (stmt-stops s turns m) (λ next. stmts-stop ss turns next)

  arms-stop : (arms : TArmTrees) (turns : List Turn) (otherwise : List ℤ → Result (List ℤ) Stop) → ((x : List ℤ) → Stops (otherwise x)) → (m : List ℤ)
      → Stops (do_arms turns arms otherwise m)
  arms-stop no_tarms turns otherwise h m = h m
  arms-stop (and_tarm e body sp arms) turns otherwise h m =
      then-stops (value turns e m) _ (value-stops e turns m)
      (λ v. either-stops (same v (pos 0)) _ _ (arms-stop arms turns otherwise h m) (stmts-stop body turns m))

  branches-stop : (v : ℤ) (branches : TBranchTrees) (turns : List Turn) (otherwise : List ℤ → Result (List ℤ) Stop) → ((x : List ℤ) → Stops (otherwise x))
      → (m : List ℤ)
      → Stops (do_branches turns v branches otherwise m)
  branches-stop v no_tbranches turns otherwise h m = h m
  branches-stop v (and_tbranch ls body branches) turns otherwise h m =
      either-stops (list_any (is_labelled v) ls) _ _ (stmts-stop body turns m) (branches-stop v branches turns otherwise h m)

  other-stops : (o : TOtherTree) (turns : List Turn) (m : List ℤ) → Stops (do_other turns o m)
  other-stops no_tother turns m = tt
  other-stops (tother body) turns m = stmts-stop body turns m

after-stops : (slots : List Slot) (next : List ℤ → Run) (r : Result (List ℤ) Stop) → Stops r → ((m : List ℤ) → IfSome (next m).end IsCause)
    → IfSome (after_cycle slots next r).end IsCause
after-stops slots next (Ok m) h k = k m
after-stops slots next (Err s) h k = h

pub run-stops : (p : Program) (rows : List (List ℤ)) (m : List ℤ) → IfSome (run_from p m rows).end IsCause
run-stops p [] m = tt
run-stops p (row ∷ rows) m = after-stops p.slots _ (cycle p m row) (stmts-stop p.body [] _) (λ next. run-stops p rows next)
