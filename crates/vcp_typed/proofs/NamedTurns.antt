-- The turns of a stop of a checked program name its slots.
use Rattle.std.proofs.Common.{ℕ, zero, suc, ◌<◌, ℤ, pos, ◌+ℤ◌, Bool, true, false, cond, List, [], ◌∷◌, ◌++◌, length, arith, Result, Ok, Err}
use Rattle.std.specs.Prelude.{IfErr, IfSome, slice_set, All}
use Rattle.std.specs.List.{list_any}
use Rattle.std.proofs.lemmas.List.Elements.{All-append, All-nil}
use Rattle.std.proofs.lemmas.Option.{slice_get_within}
use Rattle.vcp_base.specs.declared.spot.Spot.{Spot}
use Rattle.vcp_base.specs.declared.turns.Turn.{Turn}
use Rattle.vcp_base.specs.declared.ty.Ty.{Ty}
use Rattle.vcp_base.specs.declared.ty.Ty.TheVariants as ty
use Rattle.vcp_base.specs.Types.{fits}
use Rattle.vcp_base.specs.Kinds.{same}
use Rattle.vcp_base.specs.Values.{at}
use Rattle.st_tree.specs.declared.expr.UnOp.{UnOp}
use Rattle.st_tree.specs.declared.expr.UnOp.TheVariants as un
use Rattle.st_tree.specs.declared.expr.BinOp.{BinOp}
use Rattle.st_tree.specs.declared.expr.BinOp.TheVariants as bin
use Rattle.vcp_typed.specs.declared.expr.Fun.{Fun}
use Rattle.vcp_typed.specs.declared.expr.Fun.TheVariants as fun
use Rattle.vcp_typed.specs.declared.slot.Slot.{Slot}
use Rattle.vcp_typed.specs.Checked.{IsChecked, IsStmt, AreStmts, AreArms, AreBranches, IsOther}
use Rattle.vcp_typed.specs.TExprTree.{TExprTree, TExprTrees, literal, get, widen, unary, binary, call, no_texprs, and_texpr}
use Rattle.vcp_typed.specs.TStmtTree.{TStmtTree, TStmtTrees, TArmTrees, TBranchTrees, TOtherTree, assign, if_, case, for_, no_tstmts, and_tstmt, no_tarms}
use Rattle.vcp_typed.specs.TStmtTree.{and_tarm, no_tbranches, and_tbranch, no_tother, tother}
use Rattle.vcp_typed.specs.Meaning.{Stop, and_then, in_range, unless_zero, operate, sign, apply, value, values, is_labelled, turns_from, all_turns, do_stmt}
use Rattle.vcp_typed.specs.Meaning.{do_stmts, do_arms, do_branches, do_other}
use Rattle.vcp_typed.specs.SourceRun.{Program, Run, after_cycle, cycle, run_from}
use Rattle.vcp_typed.specs.Fitting.{NameSlots}

-- a stop comes with turns that name slots
abbrev pub Stops : {A : Type 0} → List Slot → Result A Stop → Type 0
Stops slots r = IfErr r (λ s. NameSlots slots s.turns)

then-names : {A B : Type 0} (slots : List Slot) (r : Result A Stop) (next : A → Result B Stop) → Stops slots r → ((x : A) → Stops slots (next x))
    → Stops slots (and_then r next)
then-names slots (Ok x) next h k = k x
then-names slots (Err s) next h k = h

either-names : {A : Type 0} (slots : List Slot) (b : Bool) (r u : Result A Stop) → Stops slots r → Stops slots u → Stops slots (cond b r u)
either-names slots true r u h k = h
either-names slots false r u h k = k

ranged : (slots : List Slot) (t : Ty) (s : Spot) (turns : List Turn) (v : ℤ) → NameSlots slots turns → Stops slots (in_range t s turns v)
ranged slots t s turns v n = either-names slots (fits t v) _ _ tt n

divided : (slots : List Slot) (t : Ty) (s : Spot) (turns : List Turn) (d v : ℤ) → NameSlots slots turns
    → Stops slots (unless_zero d s turns (in_range t s turns v))
divided slots t s turns d v n = either-names slots (same d (pos 0)) _ _ n (ranged slots t s turns v n)

operated : (slots : List Slot) (op : BinOp) (t : Ty) (s : Spot) (turns : List Turn) (a b : ℤ) → NameSlots slots turns → Stops slots (operate op t s turns a b)
operated slots bin.Mul t s turns a b n = ranged slots t s turns _ n
operated slots bin.Div t s turns a b n = divided slots t s turns b _ n
operated slots bin.Mod t s turns a b n = divided slots t s turns b _ n
operated slots bin.Add t s turns a b n = ranged slots t s turns _ n
operated slots bin.Sub t s turns a b n = ranged slots t s turns _ n
operated slots bin.Lt t s turns a b n = tt
operated slots bin.Gt t s turns a b n = tt
operated slots bin.Le t s turns a b n = tt
operated slots bin.Ge t s turns a b n = tt
operated slots bin.Eq t s turns a b n = tt
operated slots bin.Ne t s turns a b n = tt
operated slots bin.And t s turns a b n = tt
operated slots bin.Xor t s turns a b n = tt
operated slots bin.Or t s turns a b n = tt

signed-names : (slots : List Slot) (op : UnOp) (t : Ty) (s : Spot) (turns : List Turn) (a : ℤ) → NameSlots slots turns → Stops slots (sign op t s turns a)
signed-names slots un.Neg t s turns a n = ranged slots t s turns _ n
signed-names slots un.Not t s turns a n = tt

applied : (slots : List Slot) (f : Fun) (t : Ty) (s : Spot) (turns : List Turn) (vs : List ℤ) → NameSlots slots turns → Stops slots (apply f t s turns vs)
applied slots fun.Abs t s turns vs n = ranged slots t s turns _ n
applied slots fun.Min t s turns vs n = tt
applied slots fun.Max t s turns vs n = tt
applied slots fun.Limit t s turns vs n = tt
applied slots fun.Sel t s turns vs n = tt
applied slots fun.IntToDint t s turns vs n = tt
applied slots fun.IntToLint t s turns vs n = tt
applied slots fun.DintToInt t s turns vs n = ranged slots ty.Int s turns (at vs 0) n
applied slots fun.DintToLint t s turns vs n = tt
applied slots fun.LintToInt t s turns vs n = ranged slots ty.Int s turns (at vs 0) n
applied slots fun.LintToDint t s turns vs n = ranged slots ty.Dint s turns (at vs 0) n
applied slots fun.BoolToInt t s turns vs n = tt

mutual
  value-names : (slots : List Slot) (e : TExprTree) (turns : List Turn) (m : List ℤ) → NameSlots slots turns → Stops slots (value turns e m)
  value-names slots (literal t v s) turns m n = tt
  value-names slots (get k t) turns m n = tt
  value-names slots (widen t a) turns m n = value-names slots a turns m n
  value-names slots (unary op t a s) turns m n = then-names slots (value turns a m) _ (value-names slots a turns m n) (λ v. signed-names slots op t s turns v n)
  value-names slots (binary op t a b s) turns m n =
      then-names slots (value turns a m) _ (value-names slots a turns m n)
      (λ v. then-names slots (value turns b m) _ (value-names slots b turns m n) (λ w. operated slots op t s turns v w n))
  value-names slots (call f t es s) turns m n = then-names slots (values turns es m) _ (values-name slots es turns m n) (λ vs. applied slots f t s turns vs n)

  values-name : (slots : List Slot) (es : TExprTrees) (turns : List Turn) (m : List ℤ) → NameSlots slots turns → Stops slots (values turns es m)
  values-name slots no_texprs turns m n = tt
  values-name slots (and_texpr e es) turns m n =
      then-names slots (value turns e m) _ (value-names slots e turns m n)
      (λ v. then-names slots (values turns es m) _ (values-name slots es turns m n) (λ vs. tt))

turns-name : (slots : List Slot) (k : ℕ) (by : ℤ) (body : ℤ → List ℤ → Result (List ℤ) Stop) → ((v : ℤ) (m : List ℤ) → Stops slots (body v m))
    → (n : ℕ) (v : ℤ) (m : List ℤ) → Stops slots (turns_from k by body n v m)
turns-name slots k by body h zero v m = tt
turns-name slots k by body h (suc n) v m = then-names slots (body v (slice_set m k v)) _ (h v _) (λ next. turns-name slots k by body h n (v +ℤ by) next)

all-turns-name : (slots : List Slot) (k : ℕ) (first by : ℤ) (body : ℤ → List ℤ → Result (List ℤ) Stop) → ((v : ℤ) (m : List ℤ) → Stops slots (body v m))
    → (n : ℕ) (m : List ℤ) → Stops slots (all_turns k first by n body m)
all-turns-name slots k first by body h zero m = tt
all-turns-name slots k first by body h (suc n) m = turns-name slots k by body h (suc n) first m

-- one more turn, of a slot that is there
one-more : (slots : List Slot) (turns : List Turn) (turn : Turn) → NameSlots slots turns → turn.name < length slots → NameSlots slots (turns ++ turn ∷ [])
one-more slots turns turn n inside =
    record { named = All-append (λ t. t.name < length slots) turns (turn ∷ []) n.named (one (λ t. t.name < length slots) turn inside) }
  where
    one : (P : Turn → Type 0) (x : Turn) → P x → All P (x ∷ [])
    one P x h zero d below = h
    one P x h (suc k) d below = absurd (omega (arith, below))

mutual
  stmt-names : (slots : List Slot) (held : List ℕ) (s : TStmtTree) (turns : List Turn) (m : List ℤ) → IsStmt slots held s → NameSlots slots turns
      → Stops slots (do_stmt turns s m)
  stmt-names slots held (assign k e sp) turns m h n = then-names slots (value turns e m) _ (value-names slots e turns m n) (λ v. tt)
  stmt-names slots held (if_ arms o) turns m h n = arms-name slots held arms turns (do_other turns o) (λ x. other-names slots held o turns x h.1 n) m h.0 n
  stmt-names slots held (case e branches o sp) turns m h n =
      then-names slots (value turns e m) _ (value-names slots e turns m n)
      (λ v. branches-name slots held _ v branches turns (do_other turns o) (λ x. other-names slots held o turns x h.3 n) m h.2 n)
  stmt-names slots held (for_ k first by t body sp) turns m h n =
      let inside : k < length slots = slice_get_within slots k h.1.of h.1.there in
      all-turns-name slots k first by _
      (λ v x. stmts-name slots (held ++ k ∷ []) body (turns ++ record { name = k; value = v } ∷ []) x h.5
      (one-more slots turns (record { name = k; value = v }) n inside)) t m

  pub stmts-name : (slots : List Slot) (held : List ℕ) (ss : TStmtTrees) (turns : List Turn) (m : List ℤ) → AreStmts slots held ss → NameSlots slots turns
      → Stops slots (do_stmts turns ss m)
  stmts-name slots held no_tstmts turns m h n = tt
  stmts-name slots held (and_tstmt s ss) turns m h n =
      then-names slots (do_stmt turns s m) _ (stmt-names slots held s turns m h.0 n) (λ next. stmts-name slots held ss turns next h.1 n)

  arms-name : (slots : List Slot) (held : List ℕ) (arms : TArmTrees) (turns : List Turn) (otherwise : List ℤ → Result (List ℤ) Stop)
      → ((x : List ℤ) → Stops slots (otherwise x)) → (m : List ℤ)
      → AreArms slots held arms → NameSlots slots turns → Stops slots (do_arms turns arms otherwise m)
  arms-name slots held no_tarms turns otherwise k m h n = k m
  arms-name slots held (and_tarm e body sp arms) turns otherwise k m h n =
      then-names slots (value turns e m) _ (value-names slots e turns m n)
      (λ v. either-names slots (same v (pos 0)) _ _ (arms-name slots held arms turns otherwise k m h.3 n) (stmts-name slots held body turns m h.2 n))

  branches-name : (slots : List Slot) (held : List ℕ) (t : Ty) (v : ℤ) (branches : TBranchTrees) (turns : List Turn) (otherwise : List ℤ → Result (List ℤ) Stop)
      → ((x : List ℤ) → Stops slots (otherwise x)) → (m : List ℤ)
      → AreBranches slots held t branches → NameSlots slots turns → Stops slots (do_branches turns v branches otherwise m)
  branches-name slots held t v no_tbranches turns otherwise k m h n = k m
  branches-name slots held t v (and_tbranch ls body branches) turns otherwise k m h n =
      either-names slots (list_any (is_labelled v) ls) _ _ (stmts-name slots held body turns m h.1 n)
      (branches-name slots held t v branches turns otherwise k m h.2 n)

  other-names : (slots : List Slot) (held : List ℕ) (o : TOtherTree) (turns : List Turn) (m : List ℤ) → IsOther slots held o → NameSlots slots turns
      → Stops slots (do_other turns o m)
  other-names slots held no_tother turns m h n = tt
  other-names slots held (tother body) turns m h n = stmts-name slots held body turns m h n

-- the turns of a stop of a cycle
pub cycle-names : (p : Program) (m row : List ℤ) → IsChecked p → Stops p.slots (cycle p m row)
cycle-names p m row h = stmts-name p.slots [] p.body [] _ h.body (record { named = All-nil _ })

after-names : (slots : List Slot) (next : List ℤ → Run) (r : Result (List ℤ) Stop) → Stops slots r
    → ((m : List ℤ) → IfSome (next m).end (λ s. NameSlots slots s.turns))
    → IfSome (after_cycle slots next r).end (λ s. NameSlots slots s.turns)
after-names slots next (Ok m) h k = k m
after-names slots next (Err s) h k = h

pub run-names : (p : Program) (rows : List (List ℤ)) (m : List ℤ) → IsChecked p → IfSome (run_from p m rows).end (λ s. NameSlots p.slots s.turns)
run-names p [] m h = tt
run-names p (row ∷ rows) m h = after-names p.slots _ (cycle p m row) (cycle-names p m row h) (λ next. run-names p rows next h)
