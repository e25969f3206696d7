-- Values stay in the types of their slots.
use Rattle.std.proofs.Common.{◌≡◌, ℕ, zero, suc, ℤ, pos, negsuc, ◌+ℤ◌, ◌-ℤ◌, Bool, true, false, cond, List, [], ◌∷◌, ◌++◌, map, Some, Result, Ok, Err, refl}
use Rattle.std.proofs.Common.{sym, subst, arith}
use Rattle.std.specs.Prelude.{IfOk, slice_get, slice_set}
use Rattle.std.specs.List.{list_any}
use Rattle.vcp_base.specs.declared.spot.Spot.{Spot}
use Rattle.vcp_base.specs.declared.turns.Turn.{Turn}
use Rattle.vcp_base.specs.declared.ty.Ty.{Ty}
use Rattle.vcp_base.specs.declared.ty.Ty.TheVariants as ty
use Rattle.vcp_base.specs.Types.{fits}
use Rattle.vcp_base.specs.Values.{at}
use Rattle.vcp_base.specs.Kinds.{same, truth}
use Rattle.st_tree.specs.declared.expr.UnOp.{UnOp}
use Rattle.st_tree.specs.declared.expr.UnOp.TheVariants as un
use Rattle.st_tree.specs.declared.expr.BinOp.{BinOp}
use Rattle.st_tree.specs.declared.expr.BinOp.TheVariants as bin
use Rattle.vcp_typed.specs.declared.expr.Fun.{Fun}
use Rattle.vcp_typed.specs.declared.expr.Fun.TheVariants as fun
use Rattle.vcp_typed.specs.declared.slot.Slot.{Slot}
use Rattle.vcp_typed.specs.TExprTree.{TExprTree, TExprTrees, literal, get, widen, unary, binary, call, no_texprs, and_texpr}
use Rattle.vcp_typed.specs.TStmtTree.{TStmtTree, TStmtTrees, TArmTrees, TBranchTrees, TOtherTree, assign, if_, case, for_, no_tstmts, and_tstmt, no_tarms}
use Rattle.vcp_typed.specs.TStmtTree.{and_tarm, no_tbranches, and_tbranch, no_tother, tother}
use Rattle.vcp_typed.specs.Rules.{widens, result, signed, of_numbers, arguments}
use Rattle.vcp_typed.specs.Meaning.{Stop, and_then, in_range, unless_zero, operate, sign, apply, value, values, is_labelled, turns_from, all_turns, do_stmt}
use Rattle.vcp_typed.specs.Meaning.{do_stmts, do_arms, do_branches, do_other}
use Rattle.vcp_typed.specs.SourceRun.{Program, Run, is_input, is_output, initial, with_inputs, outputs, after_cycle, cycle, run_from}
use Rattle.vcp_typed.specs.Checked.{ty_of, tys_of, IsExpr, AreExprs, AreTurns, IsStmt, AreStmts, AreArms, AreBranches, IsOther, SlotsFit}
use Rattle.vcp_base.specs.Types.{AreIn}
use Rattle.vcp_typed.specs.Fitting.{AreRows, AreFit, input_types, output_types}

-- ---- results

same-value : {A : Type 0} (x y : A) → Some x ≡ Some y → x ≡ y
same-value x y e = cc

if-then : {A B : Type 0} (P : A → Type 0) (Q : B → Type 0) (r : Result A Stop) (next : A → Result B Stop)
    → IfOk r P → ((x : A) → P x → IfOk (next x) Q) → IfOk (and_then r next) Q
if-then P Q (Ok x) next p h = h x p
if-then P Q (Err s) next p h = tt

if-more : {A : Type 0} (P Q : A → Type 0) (r : Result A Stop) → IfOk r P → ((x : A) → P x → Q x) → IfOk r Q
if-more P Q (Ok x) p h = h x p
if-more P Q (Err s) p h = tt

if-either : {A : Type 0} (P : A → Type 0) (b : Bool) (r u : Result A Stop) → IfOk r P → IfOk u P → IfOk (cond b r u) P
if-either P true r u p q = p
if-either P false r u p q = q

if-fits : (P : ℤ → Type 0) (b : Bool) (v : ℤ) (s : Stop) → (b ≡ true → P v) → IfOk (cond b (Ok v) (Err s)) P
if-fits P true v s h = h refl
if-fits P false v s h = tt

ranged : (t : Ty) (s : Spot) (turns : List Turn) (v : ℤ) → IfOk (in_range t s turns v) (λ x. fits t x ≡ true)
ranged t s turns v = if-fits (λ x. fits t x ≡ true) (fits t v) v _ (λ e. e)

chosen : (P : ℤ → Type 0) (b : Bool) (x y : ℤ) → P x → P y → P (cond b x y)
chosen P true x y p q = p
chosen P false x y p q = q

-- ---- operators

truth-fits : (b : Bool) → fits ty.Bool (truth b) ≡ true
truth-fits true = refl
truth-fits false = refl

divided : (t : Ty) (s : Spot) (turns : List Turn) (d v : ℤ) → IfOk (unless_zero d s turns (in_range t s turns v)) (λ x. fits t x ≡ true)
divided t s turns d v = if-either (λ x. fits t x ≡ true) (same d (pos 0)) _ _ tt (ranged t s turns v)

operated : (op : BinOp) (t : Ty) (s : Spot) (turns : List Turn) (a b : ℤ) → IfOk (operate op t s turns a b) (λ x. fits (result op t) x ≡ true)
operated bin.Mul t s turns a b = ranged t s turns _
operated bin.Div t s turns a b = divided t s turns b _
operated bin.Mod t s turns a b = divided t s turns b _
operated bin.Add t s turns a b = ranged t s turns _
operated bin.Sub t s turns a b = ranged t s turns _
operated bin.Lt t s turns a b = truth-fits _
operated bin.Gt t s turns a b = truth-fits _
operated bin.Le t s turns a b = truth-fits _
operated bin.Ge t s turns a b = truth-fits _
operated bin.Eq t s turns a b = truth-fits _
operated bin.Ne t s turns a b = truth-fits _
operated bin.And t s turns a b = truth-fits _
operated bin.Xor t s turns a b = truth-fits _
operated bin.Or t s turns a b = truth-fits _

turned : (a : ℤ) → fits ty.Bool a ≡ true → fits ty.Bool (pos 1 -ℤ a) ≡ true
turned (pos zero) h = refl
turned (pos (suc zero)) h = refl
turned (pos (suc (suc n))) h = absurd (grind (arith, h))
turned (negsuc n) h = absurd (grind (arith, h))

signed-fits : (op : UnOp) (t : Ty) (s : Spot) (turns : List Turn) (a : ℤ) → signed op t ≡ Some t → fits t a ≡ true
    → IfOk (sign op t s turns a) (λ x. fits t x ≡ true)
signed-fits un.Neg t s turns a e h = ranged t s turns _
signed-fits un.Not ty.Bool s turns a e h = turned a h
signed-fits un.Not ty.Int s turns a e h = absurd cc
signed-fits un.Not ty.Dint s turns a e h = absurd cc
signed-fits un.Not ty.Lint s turns a e h = absurd cc

-- ---- functions

int-dint : (v : ℤ) → fits ty.Int v ≡ true → fits ty.Dint v ≡ true
int-dint (pos n) h = grind (arith, h)
int-dint (negsuc n) h = grind (arith, h)

int-lint : (v : ℤ) → fits ty.Int v ≡ true → fits ty.Lint v ≡ true
int-lint (pos n) h = grind (arith, h)
int-lint (negsuc n) h = grind (arith, h)

dint-lint : (v : ℤ) → fits ty.Dint v ≡ true → fits ty.Lint v ≡ true
dint-lint (pos n) h = grind (arith, h)
dint-lint (negsuc n) h = grind (arith, h)

widened-fits : (s t : Ty) (v : ℤ) → widens s t ≡ true → fits s v ≡ true → fits t v ≡ true
widened-fits ty.Bool ty.Bool v w h = absurd cc
widened-fits ty.Bool ty.Int v w h = absurd cc
widened-fits ty.Bool ty.Dint v w h = absurd cc
widened-fits ty.Bool ty.Lint v w h = absurd cc
widened-fits ty.Int ty.Bool v w h = absurd cc
widened-fits ty.Int ty.Int v w h = absurd cc
widened-fits ty.Int ty.Dint v w h = int-dint v h
widened-fits ty.Int ty.Lint v w h = int-lint v h
widened-fits ty.Dint ty.Bool v w h = absurd cc
widened-fits ty.Dint ty.Int v w h = absurd cc
widened-fits ty.Dint ty.Dint v w h = absurd cc
widened-fits ty.Dint ty.Lint v w h = dint-lint v h
widened-fits ty.Lint ty.Bool v w h = absurd cc
widened-fits ty.Lint ty.Int v w h = absurd cc
widened-fits ty.Lint ty.Dint v w h = absurd cc
widened-fits ty.Lint ty.Lint v w h = absurd cc

bool-int : (v : ℤ) → fits ty.Bool v ≡ true → fits ty.Int v ≡ true
bool-int (pos n) h = grind (arith, h)
bool-int (negsuc n) h = absurd (grind (arith, h))

one : (t : Ty) (vs : List ℤ) → AreIn (t ∷ []) vs → fits t (at vs 0) ≡ true
one t [] h = absurd h
one t (v ∷ vs) h = h.0

two : (t u : Ty) (vs : List ℤ) → AreIn (t ∷ u ∷ []) vs → (fits t (at vs 0) ≡ true) × (fits u (at vs 1) ≡ true)
two t u [] h = absurd h
two t u (v ∷ []) h = absurd h.1
two t u (v ∷ w ∷ vs) h = (h.0, h.1.0)

three : (t u r : Ty) (vs : List ℤ) → AreIn (t ∷ u ∷ r ∷ []) vs
    → (fits t (at vs 0) ≡ true) × (fits u (at vs 1) ≡ true) × (fits r (at vs 2) ≡ true)
three t u r [] h = absurd h
three t u r (v ∷ []) h = absurd h.1
three t u r (v ∷ w ∷ []) h = absurd h.1.1
three t u r (v ∷ w ∷ x ∷ vs) h = (h.0, h.1.0, h.1.1.0)

numbers-are : (ts us : List Ty) (t : Ty) → of_numbers ts t ≡ Some us → us ≡ ts
numbers-are ts us ty.Bool e = absurd cc
numbers-are ts us ty.Int e = sym (same-value ts us e)
numbers-are ts us ty.Dint e = sym (same-value ts us e)
numbers-are ts us ty.Lint e = sym (same-value ts us e)

applied : (f : Fun) (t : Ty) (s : Spot) (turns : List Turn) (ts : List Ty) (vs : List ℤ) → arguments f t ≡ Some ts → AreIn ts vs
    → IfOk (apply f t s turns vs) (λ x. fits t x ≡ true)
applied fun.Abs t s turns ts vs e h = ranged t s turns _
applied fun.Min t s turns ts vs e h =
    let both = two t t vs (subst (λ us. AreIn us vs) (numbers-are _ _ t e) h) in
    chosen (λ x. fits t x ≡ true) _ _ _ both.1 both.0
applied fun.Max t s turns ts vs e h =
    let both = two t t vs (subst (λ us. AreIn us vs) (numbers-are _ _ t e) h) in
    chosen (λ x. fits t x ≡ true) _ _ _ both.1 both.0
applied fun.Limit t s turns ts vs e h =
    let all = three t t t vs (subst (λ us. AreIn us vs) (numbers-are _ _ t e) h) in
    chosen (λ x. fits t x ≡ true) _ _ _ all.2 (chosen (λ x. fits t x ≡ true) _ _ _ all.0 all.1)
applied fun.Sel t s turns ts vs e h =
    let all = three ty.Bool t t vs (subst (λ us. AreIn us vs) (sym (same-value _ _ e)) h) in
    chosen (λ x. fits t x ≡ true) _ _ _ all.1 all.2
applied fun.IntToDint ty.Bool s turns ts vs e h = absurd cc
applied fun.IntToDint ty.Int s turns ts vs e h = absurd cc
applied fun.IntToDint ty.Dint s turns ts vs e h = int-dint (at vs 0) (one ty.Int vs (subst (λ us. AreIn us vs) (sym (same-value _ _ e)) h))
applied fun.IntToDint ty.Lint s turns ts vs e h = absurd cc
applied fun.IntToLint ty.Bool s turns ts vs e h = absurd cc
applied fun.IntToLint ty.Int s turns ts vs e h = absurd cc
applied fun.IntToLint ty.Dint s turns ts vs e h = absurd cc
applied fun.IntToLint ty.Lint s turns ts vs e h = int-lint (at vs 0) (one ty.Int vs (subst (λ us. AreIn us vs) (sym (same-value _ _ e)) h))
applied fun.DintToInt ty.Bool s turns ts vs e h = absurd cc
applied fun.DintToInt ty.Int s turns ts vs e h = ranged ty.Int s turns (at vs 0)
applied fun.DintToInt ty.Dint s turns ts vs e h = absurd cc
applied fun.DintToInt ty.Lint s turns ts vs e h = absurd cc
applied fun.DintToLint ty.Bool s turns ts vs e h = absurd cc
applied fun.DintToLint ty.Int s turns ts vs e h = absurd cc
applied fun.DintToLint ty.Dint s turns ts vs e h = absurd cc
applied fun.DintToLint ty.Lint s turns ts vs e h = dint-lint (at vs 0) (one ty.Dint vs (subst (λ us. AreIn us vs) (sym (same-value _ _ e)) h))
applied fun.LintToInt ty.Bool s turns ts vs e h = absurd cc
applied fun.LintToInt ty.Int s turns ts vs e h = ranged ty.Int s turns (at vs 0)
applied fun.LintToInt ty.Dint s turns ts vs e h = absurd cc
applied fun.LintToInt ty.Lint s turns ts vs e h = absurd cc
applied fun.LintToDint ty.Bool s turns ts vs e h = absurd cc
applied fun.LintToDint ty.Int s turns ts vs e h = absurd cc
applied fun.LintToDint ty.Dint s turns ts vs e h = ranged ty.Dint s turns (at vs 0)
applied fun.LintToDint ty.Lint s turns ts vs e h = absurd cc
applied fun.BoolToInt ty.Bool s turns ts vs e h = absurd cc
applied fun.BoolToInt ty.Int s turns ts vs e h = bool-int (at vs 0) (one ty.Bool vs (subst (λ us. AreIn us vs) (sym (same-value _ _ e)) h))
applied fun.BoolToInt ty.Dint s turns ts vs e h = absurd cc
applied fun.BoolToInt ty.Lint s turns ts vs e h = absurd cc

-- ---- slots

at-fits : (slots : List Slot) (m : List ℤ) (n : ℕ) (s : Slot) → slice_get slots n ≡ Some s → AreFit slots m → fits s.ty (at m n) ≡ true
at-fits [] m n s e h = absurd cc
at-fits (x ∷ slots) [] n s e h = absurd h
at-fits (x ∷ slots) (v ∷ m) zero s e h = subst (λ (y : Slot). fits y.ty v ≡ true) (same-value x s e) h.0
at-fits (x ∷ slots) (v ∷ m) (suc n) s e h = at-fits slots m n s e h.1

set-fits : (slots : List Slot) (m : List ℤ) (n : ℕ) (s : Slot) (v : ℤ) → slice_get slots n ≡ Some s → AreFit slots m → fits s.ty v ≡ true
    → AreFit slots (slice_set m n v)
set-fits [] m n s v e h f = absurd cc
set-fits (x ∷ slots) [] n s v e h f = absurd h
set-fits (x ∷ slots) (w ∷ m) zero s v e h f = (subst (λ (y : Slot). fits y.ty v ≡ true) (sym (same-value x s e)) f, h.1)
set-fits (x ∷ slots) (w ∷ m) (suc n) s v e h f = (h.0, set-fits slots m n s v e h.1 f)

-- ---- expressions

mutual
  pub value-fits : (slots : List Slot) (e : TExprTree) (turns : List Turn) (m : List ℤ) → IsExpr slots e → AreFit slots m
      → IfOk (value turns e m) (λ v. fits (ty_of e) v ≡ true)
  value-fits slots (literal t v s) turns m h f = h
  value-fits slots (get n t) turns m h f = subst (λ (u : Ty). fits u (at m n) ≡ true) h.2 (at-fits slots m n h.0 h.1 f)
  value-fits slots (widen t a) turns m h f =
      if-more (λ v. fits (ty_of a) v ≡ true) (λ v. fits t v ≡ true) (value turns a m) (value-fits slots a turns m h.0 f)
      (λ v g. widened-fits (ty_of a) t v h.1 g)
  value-fits slots (unary op t a s) turns m h f =
      if-then (λ v. fits (ty_of a) v ≡ true) (λ v. fits t v ≡ true) (value turns a m) _ (value-fits slots a turns m h.0 f)
      (λ v g. signed-fits op t s turns v h.2 (subst (λ (u : Ty). fits u v ≡ true) h.1 g))
  value-fits slots (binary op t a b s) turns m h f =
      if-then (λ v. fits (ty_of a) v ≡ true) (λ v. fits (result op t) v ≡ true) (value turns a m) _ (value-fits slots a turns m h.0 f)
      (λ v g. if-then (λ w. fits (ty_of b) w ≡ true) (λ w. fits (result op t) w ≡ true) (value turns b m) _ (value-fits slots b turns m h.1 f)
      (λ w k. operated op t s turns v w))
  value-fits slots (call fn t es s) turns m h f =
      if-then (AreIn (tys_of es)) (λ v. fits t v ≡ true) (values turns es m) _ (values-fit slots es turns m h.0 f)
      (λ vs g. applied fn t s turns (tys_of es) vs h.1 g)

  pub values-fit : (slots : List Slot) (es : TExprTrees) (turns : List Turn) (m : List ℤ) → AreExprs slots es → AreFit slots m
      → IfOk (values turns es m) (AreIn (tys_of es))
  values-fit slots no_texprs turns m h f = tt
  values-fit slots (and_texpr e es) turns m h f =
      if-then (λ v. fits (ty_of e) v ≡ true) (AreIn (tys_of (and_texpr e es))) (value turns e m) _ (value-fits slots e turns m h.0 f)
      (λ v g. if-then (AreIn (tys_of es)) (AreIn (tys_of (and_texpr e es))) (values turns es m) _ (values-fit slots es turns m h.1 f)
      (λ vs k. (g, k)))

-- ---- statements

turns-fit : (slots : List Slot) (s : Slot) (n : ℕ) (by : ℤ) (body : ℤ → List ℤ → Result (List ℤ) Stop) → slice_get slots n ≡ Some s
    → ((v : ℤ) (m : List ℤ) → AreFit slots m → IfOk (body v m) (AreFit slots))
    → (k : ℕ) (v : ℤ) (m : List ℤ) → AreTurns s.ty k v by → AreFit slots m → IfOk (turns_from n by body k v m) (AreFit slots)
turns-fit slots s n by body e h zero v m t f = f
turns-fit slots s n by body e h (suc k) v m t f =
    if-then (AreFit slots) (AreFit slots) (body v (slice_set m n v)) _ (h v _ (set-fits slots m n s v e f t.0))
    (λ next g. turns-fit slots s n by body e h k (v +ℤ by) next t.1 g)

all-turns-fit : (slots : List Slot) (s : Slot) (n : ℕ) (first by : ℤ) (body : ℤ → List ℤ → Result (List ℤ) Stop) → slice_get slots n ≡ Some s
    → ((v : ℤ) (m : List ℤ) → AreFit slots m → IfOk (body v m) (AreFit slots))
    → (k : ℕ) (m : List ℤ) → fits s.ty first ≡ true → AreTurns s.ty k first by → AreFit slots m → IfOk (all_turns n first by k body m) (AreFit slots)
all-turns-fit slots s n first by body e h zero m i t f = set-fits slots m n s first e f i
all-turns-fit slots s n first by body e h (suc k) m i t f = turns-fit slots s n by body e h (suc k) first m t f

mutual
  pub stmt-fits : (slots : List Slot) (held : List ℕ) (s : TStmtTree) (turns : List Turn) (m : List ℤ) → IsStmt slots held s → AreFit slots m
      → IfOk (do_stmt turns s m) (AreFit slots)
  stmt-fits slots held (assign n e sp) turns m h f =
      if-then (λ v. fits (ty_of e) v ≡ true) (AreFit slots) (value turns e m) _ (value-fits slots e turns m h.1 f)
      (λ v g. set-fits slots m n h.0.of v h.0.there f (subst (λ (u : Ty). fits u v ≡ true) (sym h.0.ty) g))
  stmt-fits slots held (if_ arms o) turns m h f =
      arms-fit slots held arms turns (do_other turns o) (λ x g. other-fits slots held o turns x h.1 g) m h.0 f
  stmt-fits slots held (case e branches o sp) turns m h f =
      if-then (λ v. fits (ty_of e) v ≡ true) (AreFit slots) (value turns e m) _ (value-fits slots e turns m h.0 f)
      (λ v g. branches-fit slots held (ty_of e) v branches turns (do_other turns o) (λ x k. other-fits slots held o turns x h.3 k) m h.2 f)
  stmt-fits slots held (for_ n first by k body sp) turns m h f =
      all-turns-fit slots h.1.of n first by _ h.1.there
      (λ v x g. stmts-fit slots (held ++ n ∷ []) body (turns ++ record { name = n; value = v } ∷ []) x h.5 g)
      k m (subst (λ (u : Ty). fits u first ≡ true) (sym h.1.ty) h.3) (subst (λ (u : Ty). AreTurns u k first by) (sym h.1.ty) h.4) f

  pub stmts-fit : (slots : List Slot) (held : List ℕ) (ss : TStmtTrees) (turns : List Turn) (m : List ℤ) → AreStmts slots held ss → AreFit slots m
      → IfOk (do_stmts turns ss m) (AreFit slots)
  stmts-fit slots held no_tstmts turns m h f = f
  stmts-fit slots held (and_tstmt s ss) turns m h f =
      if-then (AreFit slots) (AreFit slots) (do_stmt turns s m) _ (stmt-fits slots held s turns m h.0 f)
      (λ next g. stmts-fit slots held ss turns next h.1 g)

  arms-fit : (slots : List Slot) (held : List ℕ) (arms : TArmTrees) (turns : List Turn) (otherwise : List ℤ → Result (List ℤ) Stop)
      → ((x : List ℤ) → AreFit slots x → IfOk (otherwise x) (AreFit slots)) → (m : List ℤ) → AreArms slots held arms → AreFit slots m
      → IfOk (do_arms turns arms otherwise m) (AreFit slots)
  arms-fit slots held no_tarms turns otherwise o m h f = o m f
  arms-fit slots held (and_tarm e body sp arms) turns otherwise o m h f =
      if-then (λ v. fits (ty_of e) v ≡ true) (AreFit slots) (value turns e m) _ (value-fits slots e turns m h.0 f)
      (λ v g. if-either (AreFit slots) (same v (pos 0)) _ _ (arms-fit slots held arms turns otherwise o m h.3 f) (stmts-fit slots held body turns m h.2 f))

  branches-fit : (slots : List Slot) (held : List ℕ) (t : Ty) (v : ℤ) (branches : TBranchTrees) (turns : List Turn) (otherwise : List ℤ → Result (List ℤ) Stop)
      → ((x : List ℤ) → AreFit slots x → IfOk (otherwise x) (AreFit slots)) → (m : List ℤ) → AreBranches slots held t branches → AreFit slots m
      → IfOk (do_branches turns v branches otherwise m) (AreFit slots)
  branches-fit slots held t v no_tbranches turns otherwise o m h f = o m f
  branches-fit slots held t v (and_tbranch ls body branches) turns otherwise o m h f =
      if-either (AreFit slots) (list_any (is_labelled v) ls) _ _ (stmts-fit slots held body turns m h.1 f)
      (branches-fit slots held t v branches turns otherwise o m h.2 f)

  other-fits : (slots : List Slot) (held : List ℕ) (o : TOtherTree) (turns : List Turn) (m : List ℤ) → IsOther slots held o → AreFit slots m
      → IfOk (do_other turns o m) (AreFit slots)
  other-fits slots held no_tother turns m h f = f
  other-fits slots held (tother body) turns m h f = stmts-fit slots held body turns m h f

-- ---- runs

pub initial-fit : (before slots : List Slot) → SlotsFit before slots → AreFit slots (initial slots)
initial-fit before [] h = tt
initial-fit before (s ∷ slots) h = (h.0.init, initial-fit (before ++ s ∷ []) slots h.1)

one-input : (b : Bool) (t : Ty) (its ts : List Ty) (x v : ℤ) (row m n : List ℤ) → AreIn (cond b (t ∷ its) its) (x ∷ row) → fits t v ≡ true
    → (AreIn its row → AreIn ts m) → (AreIn its (x ∷ row) → AreIn ts n) → AreIn (t ∷ ts) (cond b (x ∷ m) (v ∷ n))
one-input true t its ts x v row m n h f p q = (h.0, p h.1)
one-input false t its ts x v row m n h f p q = (f, q h)

pub inputs-fit : (slots : List Slot) (row m : List ℤ) → AreIn (input_types slots) row → AreFit slots m → AreFit slots (with_inputs slots row m)
inputs-fit [] row m h f = tt
inputs-fit (s ∷ slots) row [] h f = absurd f
inputs-fit (s ∷ slots) [] (v ∷ m) h f = f
inputs-fit (s ∷ slots) (x ∷ row) (v ∷ m) h f =
    one-input (is_input s.section) s.ty (input_types slots) (map (λ r. r.ty) slots) x v row _ _ h f.0
    (λ k. inputs-fit slots row m k f.1) (λ k. inputs-fit slots (x ∷ row) m k f.1)

one-output : (b : Bool) (t : Ty) (ts : List Ty) (v : ℤ) (m : List ℤ) → fits t v ≡ true → AreIn ts m → AreIn (cond b (t ∷ ts) ts) (cond b (v ∷ m) m)
one-output true t ts v m f h = (f, h)
one-output false t ts v m f h = h

pub outputs-fit : (slots : List Slot) (m : List ℤ) → AreFit slots m → AreIn (output_types slots) (outputs slots m)
outputs-fit [] m f = tt
outputs-fit (s ∷ slots) [] f = absurd f
outputs-fit (s ∷ slots) (v ∷ m) f = one-output (is_output s.section) s.ty _ v _ f.0 (outputs-fit slots m f.1)

rows-after : (slots : List Slot) (next : List ℤ → Run) (r : Result (List ℤ) Stop) → IfOk r (AreFit slots)
    → ((m : List ℤ) → AreFit slots m → AreRows (output_types slots) (next m).rows) → AreRows (output_types slots) (after_cycle slots next r).rows
rows-after slots next (Ok m) f h = (outputs-fit slots m f, h m f)
rows-after slots next (Err s) f h = tt

pub rows-fit : (p : Program) (rows : List (List ℤ)) (m : List ℤ) → AreStmts p.slots [] p.body → AreRows (input_types p.slots) rows → AreFit p.slots m
    → AreRows (output_types p.slots) (run_from p m rows).rows
rows-fit p [] m b h f = tt
rows-fit p (row ∷ rows) m b h f =
    rows-after p.slots _ (cycle p m row) (stmts-fit p.slots [] p.body [] _ b (inputs-fit p.slots row m h.0 f))
    (λ next g. rows-fit p rows next b h.1 g)
