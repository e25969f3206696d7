-- What statements do, part by part.
use Rattle.std.proofs.Common.{Bool, ◌≤◌, ◌*◌, ◌≡◌, ℕ, zero, suc, ◌+◌, ◌<◌, add-one, drop-cons, w64, SFits, of_z, ℤ, pos, negsuc, ◌+ℤ◌, true, false, cond, List, [], ◌∷◌, ◌++◌}
use Rattle.std.proofs.Common.{◌||◌, length, drop, get_or, slice_get, slice_set, Some, Result, Ok, Err, refl, sym, ap, ◌∙◌, subst, arith}
use Rattle.std.specs.Prelude.{IfOk}
use Rattle.vcp_base.specs.declared.spot.Spot.{Spot}
use Rattle.vcp_base.specs.declared.turns.Turn.{Turn}
use Rattle.vcp_base.specs.declared.ty.Ty.{Ty}
use Rattle.vcp_base.specs.declared.ty.Ty.TheVariants as ty
use Rattle.vcp_base.specs.declared.kind.StopKind.TheVariants as why
use Rattle.vcp_base.specs.Types.{fits}
use Rattle.vcp_base.specs.Kinds.{same}
use Rattle.vcp_typed.specs.declared.slot.Slot.{Slot}
use Rattle.vcp_typed.specs.declared.stmt.TLabel.{TLabel}
use Rattle.vcp_typed.specs.declared.stmt.TArm.{TArm}
use Rattle.vcp_typed.specs.declared.stmt.TBranch.{TBranch}
use Rattle.vcp_typed.specs.declared.stmt.TStmt.{TStmt}
use Rattle.vcp_typed.specs.TExprTree.{TExprTree, TExprTrees, literal, get, widen, unary, binary, call, no_texprs, and_texpr}
use Rattle.vcp_typed.specs.TExprViews.{texpr_tree}
use Rattle.vcp_typed.specs.TStmtTree.{TStmtTree, TStmtTrees, TArmTrees, TBranchTrees, TOtherTree, assign, if_, case, for_, no_tstmts, and_tstmt}
use Rattle.vcp_typed.specs.TStmtTree.{and_tarm, and_tbranch, no_tother, tother}
use Rattle.vcp_typed.specs.TStmtViews.{tstmt_tree, tstmt_trees, tarm_trees, tbranch_trees}
use Rattle.vcp_typed.specs.Checked.{ty_of, AreTurns, IsStmt, AreStmts, AreArms, AreBranches}
use Rattle.vcp_typed.specs.Fitting.{AreFit}
use Rattle.vcp_typed.specs.Meaning.{Stop, and_then, stop, in_range, unless_zero, operate, sign, apply, value, values, turns_from, all_turns, do_stmt, do_stmts}
use Rattle.vcp_typed.specs.Meaning.{do_arms, do_branches, do_other, is_labelled}
use Rattle.std.specs.List.{list_any}
use Rattle.vcp_typed.specs.Size.{stmt_size, stmts_size, arms_size, branches_size, other_size}
use Rattle.vcp_base.specs.Values.{at}
use Rattle.st_tree.specs.declared.expr.UnOp.{UnOp}
use Rattle.st_tree.specs.declared.expr.UnOp.TheVariants as un
use Rattle.st_tree.specs.declared.expr.BinOp.{BinOp}
use Rattle.st_tree.specs.declared.expr.BinOp.TheVariants as bin
use Rattle.vcp_typed.specs.declared.expr.Fun.{Fun}
use Rattle.vcp_typed.specs.declared.expr.Fun.TheVariants as fun
use Rattle.st_plain.specs.declared.stop.Stop.{Stop as Cause}
use Rattle.st_plain.specs.Evaluator.{within_turns}
use Rattle.st_plain.specs.Bodies.{IsBody, statements_of}
use Rattle.st_plain.specs.Outcomes.{Doing}
use Rattle.st_plain.specs.Sound.{SoundExpr, SoundStmt, SoundStmts, SoundArms, SoundBranches, SoundOther, SoundTurns}
use Rattle.st_plain.specs.Weight.{stmt_weight, stmts_weight, arms_weight, branches_weight, other_weight}
use Rattle.st_plain.proofs.Exprs.{fit-inside}
use Rattle.st_plain.proofs.Wide.{not-zero}

-- the law that statements keep values in the types of their slots
abbrev pub BodyFits : Type 0
BodyFits = (slots : List Slot) (held : List ℕ) (ss : TStmtTrees) (turns : List Turn) (m : List ℤ) → AreStmts slots held ss → AreFit slots m → IfOk
    (do_stmts turns ss m) (AreFit slots)

-- ---- the turns of a stop

-- the same stop inside other turns
abbrev inside : {A : Type 0} → List Turn → Result A Stop → Result A Stop
inside turns (Ok v) = Ok v
inside turns (Err s) = Err (record { kind = s.kind; spot = s.spot; turns = turns })

inside-then : {A B : Type 0} (turns : List Turn) (r u : Result A Stop) (next after : A → Result B Stop) → u ≡ inside turns r
    → ((x : A) → after x ≡ inside turns (next x))
    → and_then u after ≡ inside turns (and_then r next)
inside-then turns (Ok x) u next after e h = ap (λ y. and_then y after) e ∙ h x
inside-then turns (Err s) u next after e h = ap (λ y. and_then y after) e

inside-range : (turns : List Turn) (t : Ty) (s : Spot) (v : ℤ) → in_range t s turns v ≡ inside turns (in_range t s [] v)
inside-range turns t s v =
    elim (fits t v) as (λ b. cond b (Ok v) (stop why.Range s turns) ≡ inside turns (cond b (Ok v) (stop why.Range s []))) [ true ↦ refl | false ↦ refl ]

inside-zero : (turns : List Turn) (t : Ty) (s : Spot) (b v : ℤ)
    → unless_zero b s turns (in_range t s turns v) ≡ inside turns (unless_zero b s [] (in_range t s [] v))
inside-zero turns t s b v =
    elim (same b (pos 0)) as (λ z. cond z (stop why.DivZero s turns) (in_range t s turns v) ≡ inside turns (cond z (stop why.DivZero s []) (in_range t s [] v)))
    [ true ↦ refl | false ↦ inside-range turns t s v ]

inside-operator : (turns : List Turn) (op : BinOp) (t : Ty) (s : Spot) (a b : ℤ) → operate op t s turns a b ≡ inside turns (operate op t s [] a b)
inside-operator turns bin.Mul t s a b = inside-range turns t s _
inside-operator turns bin.Div t s a b = inside-zero turns t s b _
inside-operator turns bin.Mod t s a b = inside-zero turns t s b _
inside-operator turns bin.Add t s a b = inside-range turns t s _
inside-operator turns bin.Sub t s a b = inside-range turns t s _
inside-operator turns bin.Lt t s a b = refl
inside-operator turns bin.Gt t s a b = refl
inside-operator turns bin.Le t s a b = refl
inside-operator turns bin.Ge t s a b = refl
inside-operator turns bin.Eq t s a b = refl
inside-operator turns bin.Ne t s a b = refl
inside-operator turns bin.And t s a b = refl
inside-operator turns bin.Xor t s a b = refl
inside-operator turns bin.Or t s a b = refl

inside-sign : (turns : List Turn) (op : UnOp) (t : Ty) (s : Spot) (a : ℤ) → sign op t s turns a ≡ inside turns (sign op t s [] a)
inside-sign turns un.Neg t s a = inside-range turns t s _
inside-sign turns un.Not t s a = refl

inside-function : (turns : List Turn) (f : Fun) (t : Ty) (s : Spot) (vs : List ℤ) → apply f t s turns vs ≡ inside turns (apply f t s [] vs)
inside-function turns fun.Abs t s vs = inside-range turns t s _
inside-function turns fun.Min t s vs = refl
inside-function turns fun.Max t s vs = refl
inside-function turns fun.Limit t s vs = refl
inside-function turns fun.Sel t s vs = refl
inside-function turns fun.IntToDint t s vs = refl
inside-function turns fun.IntToLint t s vs = refl
inside-function turns fun.DintToInt t s vs = inside-range turns ty.Int s (at vs 0)
inside-function turns fun.DintToLint t s vs = refl
inside-function turns fun.LintToInt t s vs = inside-range turns ty.Int s (at vs 0)
inside-function turns fun.LintToDint t s vs = inside-range turns ty.Dint s (at vs 0)
inside-function turns fun.BoolToInt t s vs = refl

mutual
  inside-value : (turns : List Turn) (e : TExprTree) (m : List ℤ) → value turns e m ≡ inside turns (value [] e m)
  inside-value turns (literal t v s) m = refl
  inside-value turns (get n t) m = refl
  inside-value turns (widen t a) m = inside-value turns a m
  inside-value turns (unary op t a s) m = inside-then turns (value [] a m) (value turns a m) _ _ (inside-value turns a m) (λ x. inside-sign turns op t s x)
  inside-value turns (binary op t a b s) m =
      inside-then turns (value [] a m) (value turns a m) _ _ (inside-value turns a m)
      (λ x. inside-then turns (value [] b m) (value turns b m) _ _ (inside-value turns b m) (λ y. inside-operator turns op t s x y))
  inside-value turns (call f t es s) m =
      inside-then turns (values [] es m) (values turns es m) _ _ (inside-values turns es m) (λ vs. inside-function turns f t s vs)

  inside-values : (turns : List Turn) (es : TExprTrees) (m : List ℤ) → values turns es m ≡ inside turns (values [] es m)
  inside-values turns no_texprs m = refl
  inside-values turns (and_texpr e es) m =
      inside-then turns (value [] e m) (value turns e m) _ _ (inside-value turns e m)
      (λ v. inside-then turns (values [] es m) (values turns es m) _ _ (inside-values turns es m) (λ vs. refl))

-- an expression's value, or its stop, inside turns
pub value-ok : (turns : List Turn) (e : TExprTree) (m : List ℤ) (v : ℤ) → Ok v ≡ value [] e m → value turns e m ≡ Ok v
value-ok turns e m v h = inside-value turns e m ∙ ap (λ r. inside turns r) (sym h)

pub value-err : (turns : List Turn) (e : TExprTree) (m : List ℤ) (s : Cause) → Err (within_turns [] s) ≡ value [] e m
    → value turns e m ≡ Err (within_turns turns s)
value-err turns e m s h = inside-value turns e m ∙ ap (λ r. inside turns r) (sym h)

-- ---- assignments

pub assign-inside : (s : TStmtTree) (slot : ℕ) (e : TExprTree) (sp : Spot) (m : List ℤ) → s ≡ assign slot e sp → SoundStmt s m → slot < length m
assign-inside s slot e sp m is h =
    let typed : IsStmt h.slots h.held (assign slot e sp) = subst (λ x. IsStmt h.slots h.held x) is h.typed in
    fit-inside h.slots m slot typed.0.of typed.0.there h.fit

pub assign-sound : (s : TStmtTree) (slot : ℕ) (e : TExprTree) (sp : Spot) (m : List ℤ) → s ≡ assign slot e sp → SoundStmt s m → SoundExpr e m
assign-sound s slot e sp m is h =
    let typed : IsStmt h.slots h.held (assign slot e sp) = subst (λ x. IsStmt h.slots h.held x) is h.typed in
    record { slots = h.slots; typed = typed.1; fit = h.fit }

pub assign-ok : (turns : List Turn) (s : TStmtTree) (slot : ℕ) (e : TExprTree) (sp : Spot) (m : List ℤ) (v : ℤ) → s ≡ assign slot e sp → Ok v ≡ value [] e m
    → Ok (slice_set m slot v) ≡ do_stmt turns s m
assign-ok turns s slot e sp m v is h =
    sym (ap (λ x. do_stmt turns x m) is ∙ ap (λ r. and_then r (λ x. Ok (slice_set m slot x))) (value-ok turns e m v h))

pub assign-err : (turns : List Turn) (s : TStmtTree) (slot : ℕ) (e : TExprTree) (sp : Spot) (m : List ℤ) (d : Cause) → s ≡ assign slot e sp
    → Err (within_turns [] d) ≡ value [] e m → Err (within_turns turns d) ≡ do_stmt turns s m
assign-err turns s slot e sp m d is h =
    sym (ap (λ x. do_stmt turns x m) is ∙ ap (λ r. and_then r (λ x. Ok (slice_set m slot x))) (value-err turns e m d h))

-- ---- IF and CASE

pub if-arms : (s : TStmtTree) (arms : TArmTrees) (o : TOtherTree) (m : List ℤ) → s ≡ if_ arms o → SoundStmt s m → SoundArms arms m
if-arms s arms o m is h =
    let typed : IsStmt h.slots h.held (if_ arms o) = subst (λ x. IsStmt h.slots h.held x) is h.typed in
    record { slots = h.slots; held = h.held; typed = typed.0; fit = h.fit }

pub if-other : (s : TStmtTree) (arms : TArmTrees) (o : TOtherTree) (m : List ℤ) → s ≡ if_ arms o → SoundStmt s m → SoundOther o m
if-other s arms o m is h =
    let typed : IsStmt h.slots h.held (if_ arms o) = subst (λ x. IsStmt h.slots h.held x) is h.typed in
    record { slots = h.slots; held = h.held; typed = typed.1; fit = h.fit }

pub if-is : (turns : List Turn) (s : TStmtTree) (arms : TArmTrees) (o : TOtherTree) (m : List ℤ) (r : Result (List ℤ) Stop) → s ≡ if_ arms o
    → r ≡ do_arms turns arms (do_other turns o) m → r ≡ do_stmt turns s m
if-is turns s arms o m r is h = h ∙ sym (ap (λ x. do_stmt turns x m) is)

pub case-sound : (s : TStmtTree) (e : TExprTree) (b : TBranchTrees) (o : TOtherTree) (sp : Spot) (m : List ℤ) → s ≡ case e b o sp → SoundStmt s m
    → SoundExpr e m
case-sound s e b o sp m is h =
    let typed : IsStmt h.slots h.held (case e b o sp) = subst (λ x. IsStmt h.slots h.held x) is h.typed in
    record { slots = h.slots; typed = typed.0; fit = h.fit }

pub case-branches : (s : TStmtTree) (e : TExprTree) (b : TBranchTrees) (o : TOtherTree) (sp : Spot) (m : List ℤ) → s ≡ case e b o sp → SoundStmt s m
    → SoundBranches b m
case-branches s e b o sp m is h =
    let typed : IsStmt h.slots h.held (case e b o sp) = subst (λ x. IsStmt h.slots h.held x) is h.typed in
    record { slots = h.slots; held = h.held; of = ty_of e; typed = typed.2; fit = h.fit }

pub case-other : (s : TStmtTree) (e : TExprTree) (b : TBranchTrees) (o : TOtherTree) (sp : Spot) (m : List ℤ) → s ≡ case e b o sp → SoundStmt s m
    → SoundOther o m
case-other s e b o sp m is h =
    let typed : IsStmt h.slots h.held (case e b o sp) = subst (λ x. IsStmt h.slots h.held x) is h.typed in
    record { slots = h.slots; held = h.held; typed = typed.3; fit = h.fit }

pub case-is : (turns : List Turn) (s : TStmtTree) (e : TExprTree) (b : TBranchTrees) (o : TOtherTree) (sp : Spot) (m : List ℤ) (v w : ℤ)
    (r : Result (List ℤ) Stop) → s ≡ case e b o sp
    → Ok v ≡ value [] e m → w ≡ v → r ≡ do_branches turns w b (do_other turns o) m → r ≡ do_stmt turns s m
case-is turns s e b o sp m v w r is on same h =
    h ∙ ap (λ x. do_branches turns x b (do_other turns o) m) same
    ∙ sym (ap (λ x. do_stmt turns x m) is ∙ ap (λ x. and_then x (λ w. do_branches turns w b (do_other turns o) m)) (value-ok turns e m v on))

pub case-err : (turns : List Turn) (s : TStmtTree) (e : TExprTree) (b : TBranchTrees) (o : TOtherTree) (sp : Spot) (m : List ℤ) (d : Cause) → s ≡ case e b o sp
    → Err (within_turns [] d) ≡ value [] e m → Err (within_turns turns d) ≡ do_stmt turns s m
case-err turns s e b o sp m d is on =
    sym (ap (λ x. do_stmt turns x m) is ∙ ap (λ x. and_then x (λ w. do_branches turns w b (do_other turns o) m)) (value-err turns e m d on))

-- ---- FOR

pub for-inside : (s : TStmtTree) (slot : ℕ) (first by : ℤ) (n : ℕ) (body : TStmtTrees) (sp : Spot) (m : List ℤ) → s ≡ for_ slot first by n body sp
    → SoundStmt s m → slot < length m
for-inside s slot first by n body sp m is h =
    let typed : IsStmt h.slots h.held (for_ slot first by n body sp) = subst (λ x. IsStmt h.slots h.held x) is h.typed in
    fit-inside h.slots m slot typed.1.of typed.1.there h.fit

pub for-sound : (s : TStmtTree) (slot : ℕ) (first by : ℤ) (n : ℕ) (body : TStmtTrees) (sp : Spot) (m : List ℤ) → s ≡ for_ slot first by n body sp
    → SoundStmt s m
    → SoundTurns slot first by n body m
for-sound s slot first by n body sp m is h =
    let typed : IsStmt h.slots h.held (for_ slot first by n body sp) = subst (λ x. IsStmt h.slots h.held x) is h.typed in
    record { slots = h.slots; held = h.held; of = typed.0; set = typed.1; values = typed.4; typed = typed.5; fit = h.fit }

pub for-none : (turns : List Turn) (s : TStmtTree) (slot : ℕ) (first by : ℤ) (n : ℕ) (body : TStmtTrees) (sp : Spot) (m : List ℤ)
    → s ≡ for_ slot first by n body sp → n ≡ 0
    → Ok (slice_set m slot first) ≡ do_stmt turns s m
for-none turns s slot first by n body sp m is none = sym (ap (λ x. do_stmt turns x m) is ∙ ap (λ k. do_stmt turns (for_ slot first by k body sp) m) none)

pub for-some : (turns : List Turn) (s : TStmtTree) (slot : ℕ) (first by : ℤ) (n : ℕ) (body : TStmtTrees) (sp : Spot) (m : List ℤ) (r : Result (List ℤ) Stop)
    → s ≡ for_ slot first by n body sp
    → r ≡ all_turns slot first by n (λ v. do_stmts (turns ++ record { name = slot; value = v } ∷ []) body) m → r ≡ do_stmt turns s m
for-some turns s slot first by n body sp m r is h = h ∙ sym (ap (λ x. do_stmt turns x m) is)

at-least-once : (n a : ℕ) → 2 + a ≤ suc n * (2 + a)
at-least-once n a = grind arith

pub for-room : (slot : ℕ) (first by : ℤ) (n : ℕ) (body : TStmtTrees) (s : Spot) → 0 < n → 1 + stmts_size body ≤ stmt_size (for_ slot first by n body s)
for-room slot first by zero body s some = absurd (omega (arith, some))
for-room slot first by (suc n) body s some = omega (arith, at-least-once n (stmts_size body))

-- ---- lists of statements

drop-at : {X : Type 0} (xs : List X) (i : ℕ) (x : X) → i < length xs → x ≡ get_or xs i x → drop i xs ≡ x ∷ drop (i + 1) xs
drop-at xs i x lt is = rw (add-one, drop-cons xs i x) (ap (λ y. y ∷ drop (suc i) xs) (sym is))

pub stmts-at : (ss : List TStmt) (i : ℕ) (s : TStmt) → i < length ss → s ≡ get_or ss i s
    → tstmt_trees (drop i ss) ≡ and_tstmt (tstmt_tree s) (tstmt_trees (drop (i + 1) ss))
stmts-at ss i s lt is = ap tstmt_trees (drop-at ss i s lt is)

pub stmt-lighter : (ss : List TStmt) (i : ℕ) (s : TStmt) → i < length ss → s ≡ get_or ss i s → stmt_weight (tstmt_tree s) < stmts_weight (tstmt_trees ss)
stmt-lighter [] i s lt is = absurd (omega (arith, lt))
stmt-lighter (x ∷ xs) zero s lt is = let same : stmt_weight (tstmt_tree s) ≡ stmt_weight (tstmt_tree x) = ap (λ y. stmt_weight (tstmt_tree y)) is in
    omega (arith, same)
stmt-lighter (x ∷ xs) (suc i) s lt is =
    let k : i < length xs = omega (arith, lt) in
    let h : stmt_weight (tstmt_tree s) < stmts_weight (tstmt_trees xs) = stmt-lighter xs i s k is in
    omega (arith, h)

pub stmts-first : (all : TStmtTrees) (s : TStmtTree) (ss : TStmtTrees) (m : List ℤ) → all ≡ and_tstmt s ss → SoundStmts all m → SoundStmt s m
stmts-first all s ss m is h =
    let typed : AreStmts h.slots h.held (and_tstmt s ss) = subst (λ x. AreStmts h.slots h.held x) is h.typed in
    record { slots = h.slots; held = h.held; typed = typed.0; fit = h.fit }

pub stmts-rest : BodyFits → (turns : List Turn) (all : TStmtTrees) (s : TStmtTree) (ss : TStmtTrees) (m next : List ℤ) → all ≡ and_tstmt s ss → SoundStmts all m
    → Ok next ≡ do_stmt turns s m → SoundStmts ss next
stmts-rest law turns all s ss m next is h e =
    let typed : AreStmts h.slots h.held (and_tstmt s ss) = subst (λ x. AreStmts h.slots h.held x) is h.typed in
    let fit : IfOk (and_then (do_stmt turns s m) (λ x. Ok x)) (AreFit h.slots) = law h.slots h.held (and_tstmt s no_tstmts) turns m (typed.0, tt) h.fit in
    let one : AreFit h.slots next = subst (λ r. IfOk (and_then r (λ x. Ok x)) (AreFit h.slots)) (sym e) fit in
    record { slots = h.slots; held = h.held; typed = typed.1; fit = one }

pub stmts-next : (turns : List Turn) (all : TStmtTrees) (s : TStmtTree) (ss : TStmtTrees) (m next : List ℤ) (w : Result (List ℤ) Stop) → all ≡ and_tstmt s ss
    → do_stmts turns all m ≡ w → Ok next ≡ do_stmt turns s m → do_stmts turns ss next ≡ w
stmts-next turns all s ss m next w is h e = ap (λ r. and_then r (λ x. do_stmts turns ss x)) e ∙ sym (ap (λ x. do_stmts turns x m) is) ∙ h

pub stmts-stop : (turns : List Turn) (all : TStmtTrees) (s : TStmtTree) (ss : TStmtTrees) (m : List ℤ) (d : Stop) → all ≡ and_tstmt s ss
    → Err d ≡ do_stmt turns s m → Err d ≡ do_stmts turns all m
stmts-stop turns all s ss m d is h = ap (λ r. and_then r (λ x. do_stmts turns ss x)) h ∙ sym (ap (λ x. do_stmts turns x m) is)

-- ---- the arms of an IF

pub arms-at : (arms : List TArm) (i : ℕ) (a : TArm) → i < length arms → a ≡ get_or arms i a
    → tarm_trees (drop i arms) ≡ and_tarm (texpr_tree a.cond) (tstmt_trees a.body.items.items) a.spot (tarm_trees (drop (i + 1) arms))
arms-at arms i a lt is = ap tarm_trees (drop-at arms i a lt is)

pub arm-lighter : (arms : List TArm) (i : ℕ) (a : TArm) → i < length arms → a ≡ get_or arms i a
    → 1 + stmts_weight (tstmt_trees a.body.items.items) < arms_weight (tarm_trees arms)
arm-lighter [] i a lt is = absurd (omega (arith, lt))
arm-lighter (x ∷ xs) zero a lt is =
    let same : stmts_weight (tstmt_trees a.body.items.items) ≡ stmts_weight (tstmt_trees x.body.items.items) =
    ap (λ (y : TArm). stmts_weight (tstmt_trees y.body.items.items)) is in
    omega (arith, same)
arm-lighter (x ∷ xs) (suc i) a lt is =
    let k : i < length xs = omega (arith, lt) in
    let h : 1 + stmts_weight (tstmt_trees a.body.items.items) < arms_weight (tarm_trees xs) = arm-lighter xs i a k is in
    omega (arith, h)

is-zero : (v : ℤ) → SFits w64 v → of_z w64 v ≡ 0 → same v (pos 0) ≡ true
is-zero (pos n) f e = ap (λ (k : ℕ). same (pos k) (pos 0)) e
is-zero (negsuc n) f e = absurd (omega (arith, f.sfits, e))

-- what the arms from the next one on do, where there is one
arms-err : (t : List Turn) (all : TArmTrees) (e : TExprTree) (b : TStmtTrees) (sp : Spot) (rest : TArmTrees) (m : List ℤ) (d : Cause) (o : Doing)
    → all ≡ and_tarm e b sp rest → Err (within_turns [] d) ≡ value [] e m → Err (within_turns t d) ≡ do_arms t all o m
arms-err t all e b sp rest m d o is h =
    sym (ap (λ x. do_arms t x o m) is ∙ ap (λ r. and_then r (λ v. cond (same v (pos 0)) (do_arms t rest o m) (do_stmts t b m))) (value-err t e m d h))

arms-not : (t : List Turn) (all : TArmTrees) (e : TExprTree) (b : TStmtTrees) (sp : Spot) (rest : TArmTrees) (m : List ℤ) (v : ℤ) (o : Doing)
    → all ≡ and_tarm e b sp rest → Ok v ≡ value [] e m → SFits w64 v → of_z w64 v ≡ 0 → do_arms t rest o m ≡ do_arms t all o m
arms-not t all e b sp rest m v o is h f z =
    sym (ap (λ x. do_arms t x o m) is ∙ ap (λ r. and_then r (λ x. cond (same x (pos 0)) (do_arms t rest o m) (do_stmts t b m))) (value-ok t e m v h)
    ∙ ap (λ x. cond x (do_arms t rest o m) (do_stmts t b m)) (is-zero v f z))

arms-is : (t : List Turn) (all : TArmTrees) (e : TExprTree) (b : TStmtTrees) (sp : Spot) (rest : TArmTrees) (m : List ℤ) (v : ℤ) (o : Doing)
    → all ≡ and_tarm e b sp rest → Ok v ≡ value [] e m → (of_z w64 v ≡ 0 → ⊥) → do_stmts t b m ≡ do_arms t all o m
arms-is t all e b sp rest m v o is h z =
    sym (ap (λ x. do_arms t x o m) is ∙ ap (λ r. and_then r (λ x. cond (same x (pos 0)) (do_arms t rest o m) (do_stmts t b m))) (value-ok t e m v h)
    ∙ ap (λ x. cond x (do_arms t rest o m) (do_stmts t b m)) (not-zero v z))

-- the arms that are left do what all of them do
pub record ArmsLeft (left all : TArmTrees) (m : List ℤ) : Type 0 where
  pub sound : SoundArms left m
  pub same : (t : List Turn) (o : Doing) → do_arms t left o m ≡ do_arms t all o m

pub arm-cond : (arms : List TArm) (i : ℕ) (a : TArm) (m : List ℤ) → i < length arms → a ≡ get_or arms i a → SoundArms (tarm_trees (drop i arms)) m
    → SoundExpr (texpr_tree a.cond) m
arm-cond arms i a m lt is h =
    let typed = subst (λ x. AreArms h.slots h.held x) (arms-at arms i a lt is) h.typed in
    record { slots = h.slots; typed = typed.0; fit = h.fit }

pub arm-stops : (arms : List TArm) (i : ℕ) (a : TArm) (m : List ℤ) (d : Cause) (o : TOtherTree) → i < length arms → a ≡ get_or arms i a
    → ArmsLeft (tarm_trees (drop i arms)) (tarm_trees arms) m → Err (within_turns [] d) ≡ value [] (texpr_tree a.cond) m
    → (t : List Turn) → Err (within_turns t d) ≡ do_arms t (tarm_trees arms) (do_other t o) m
arm-stops arms i a m d o lt is left stops t =
    arms-err t _ (texpr_tree a.cond) (tstmt_trees a.body.items.items) a.spot (tarm_trees (drop (i + 1) arms)) m d (do_other t o) (arms-at arms i a lt is) stops
    ∙ left.same t (do_other t o)

pub next-arms : (arms : List TArm) (i : ℕ) (a : TArm) (m : List ℤ) (v : ℤ) → i < length arms → a ≡ get_or arms i a
    → ArmsLeft (tarm_trees (drop i arms)) (tarm_trees arms) m → Ok v ≡ value [] (texpr_tree a.cond) m → SFits w64 v → of_z w64 v ≡ 0
    → ArmsLeft (tarm_trees (drop (i + 1) arms)) (tarm_trees arms) m
next-arms arms i a m v lt is left gives f none =
    let here = arms-at arms i a lt is in
    let typed = subst (λ x. AreArms left.sound.slots left.sound.held x) here left.sound.typed in
    record {
      sound = record { slots = left.sound.slots; held = left.sound.held; typed = typed.3; fit = left.sound.fit };
      same = λ t o. arms-not t _ (texpr_tree a.cond) (tstmt_trees a.body.items.items) a.spot (tarm_trees (drop (i + 1) arms)) m v o here gives f none
          ∙ left.same t o;
    }

arm-smaller : (arms : List TArm) (i : ℕ) (a : TArm) → i < length arms → a ≡ get_or arms i a
    → stmts_size (tstmt_trees a.body.items.items) ≤ arms_size (tarm_trees arms)
arm-smaller [] i a lt is = absurd (omega (arith, lt))
arm-smaller (x ∷ xs) zero a lt is =
    let same : stmts_size (tstmt_trees a.body.items.items) ≡ stmts_size (tstmt_trees x.body.items.items) =
    ap (λ (y : TArm). stmts_size (tstmt_trees y.body.items.items)) is in
    omega (arith, same)
arm-smaller (x ∷ xs) (suc i) a lt is =
    let k : i < length xs = omega (arith, lt) in
    let h : stmts_size (tstmt_trees a.body.items.items) ≤ arms_size (tarm_trees xs) = arm-smaller xs i a k is in
    omega (arith, h)

pub arm-body : (arms : List TArm) (i : ℕ) (a : TArm) (body : List TStmt) (m : List ℤ) (v : ℤ) (o : TOtherTree) → i < length arms → a ≡ get_or arms i a
    → body ≡ a.body.items.items → ArmsLeft (tarm_trees (drop i arms)) (tarm_trees arms) m → Ok v ≡ value [] (texpr_tree a.cond) m → (of_z w64 v ≡ 0 → ⊥)
    → IsBody (λ t. do_arms t (tarm_trees arms) (do_other t o)) (1 + arms_weight (tarm_trees arms) + other_weight o) (arms_size (tarm_trees arms) + other_size o)
    m (tstmt_trees body)
arm-body arms i a body m v o lt is items left gives true_ =
    let here = arms-at arms i a lt is in
    let typed = subst (λ x. AreArms left.sound.slots left.sound.held x) here left.sound.typed in
    let inner : IsBody (λ t. do_arms t (tarm_trees arms) (do_other t o)) (1 + arms_weight (tarm_trees arms) + other_weight o)
    (arms_size (tarm_trees arms) + other_size o) m (tstmt_trees a.body.items.items) = record {
      same = λ t. arms-is t _ (texpr_tree a.cond) (tstmt_trees a.body.items.items) a.spot (tarm_trees (drop (i + 1) arms)) m v (do_other t o) here gives true_
          ∙ left.same t (do_other t o);
      sound = record { slots = left.sound.slots; held = left.sound.held; typed = typed.2; fit = left.sound.fit };
      lighter = omega (arith, arm-lighter arms i a lt is);
      small = omega (arith, arm-smaller arms i a lt is);
    } in
    subst (λ x. IsBody (λ t. do_arms t (tarm_trees arms) (do_other t o)) (1 + arms_weight (tarm_trees arms) + other_weight o)
    (arms_size (tarm_trees arms) + other_size o) m (tstmt_trees x)) (sym items) inner

-- where nothing else is done, the statements of ELSE are
pub else-body : (o : TOtherTree) (body : TStmtTrees) (does : List Turn → Doing) (weight size : ℕ) (m : List ℤ) → body ≡ statements_of o → SoundOther o m
    → ((t : List Turn) → do_other t o m ≡ does t m) → IsBody does (1 + weight + other_weight o) (size + other_size o) m body
else-body no_tother body does weight size m e h f =
    subst (λ x. IsBody does (1 + weight + 0) (size + 0) m x) (sym e) (record {
      same = f;
      sound = record { slots = h.slots; held = h.held; typed = tt; fit = h.fit };
      lighter = omega arith;
      small = omega arith;
    })
else-body (tother inner) body does weight size m e h f =
    subst (λ x. IsBody does (1 + weight + (1 + stmts_weight inner)) (size + stmts_size inner) m x) (sym e) (record {
      same = f;
      sound = record { slots = h.slots; held = h.held; typed = h.typed; fit = h.fit };
      lighter = omega arith;
      small = omega arith;
    })

-- ---- the branches of a CASE

pub branches-at : (branches : List TBranch) (i : ℕ) (b : TBranch) → i < length branches → b ≡ get_or branches i b
    → tbranch_trees (drop i branches) ≡ and_tbranch b.labels.items.items (tstmt_trees b.body.items.items) (tbranch_trees (drop (i + 1) branches))
branches-at branches i b lt is = ap tbranch_trees (drop-at branches i b lt is)

pub branch-lighter : (branches : List TBranch) (i : ℕ) (b : TBranch) → i < length branches → b ≡ get_or branches i b
    → 1 + stmts_weight (tstmt_trees b.body.items.items) < branches_weight (tbranch_trees branches)
branch-lighter [] i b lt is = absurd (omega (arith, lt))
branch-lighter (x ∷ xs) zero b lt is =
    let same : stmts_weight (tstmt_trees b.body.items.items) ≡ stmts_weight (tstmt_trees x.body.items.items) =
    ap (λ (y : TBranch). stmts_weight (tstmt_trees y.body.items.items)) is in
    omega (arith, same)
branch-lighter (x ∷ xs) (suc i) b lt is =
    let k : i < length xs = omega (arith, lt) in
    let h : 1 + stmts_weight (tstmt_trees b.body.items.items) < branches_weight (tbranch_trees xs) = branch-lighter xs i b k is in
    omega (arith, h)

branch-smaller : (branches : List TBranch) (i : ℕ) (b : TBranch) → i < length branches → b ≡ get_or branches i b
    → stmts_size (tstmt_trees b.body.items.items) ≤ branches_size (tbranch_trees branches)
branch-smaller [] i b lt is = absurd (omega (arith, lt))
branch-smaller (x ∷ xs) zero b lt is =
    let same : stmts_size (tstmt_trees b.body.items.items) ≡ stmts_size (tstmt_trees x.body.items.items) =
    ap (λ (y : TBranch). stmts_size (tstmt_trees y.body.items.items)) is in
    omega (arith, same)
branch-smaller (x ∷ xs) (suc i) b lt is =
    let k : i < length xs = omega (arith, lt) in
    let h : stmts_size (tstmt_trees b.body.items.items) ≤ branches_size (tbranch_trees xs) = branch-smaller xs i b k is in
    omega (arith, h)

-- the branches that are left do what all of them do
pub record BranchesLeft (v : ℤ) (left all : TBranchTrees) : Type 0 where
  pub sound : (m : List ℤ) → SoundBranches all m → SoundBranches left m
  pub same : (t : List Turn) (o : Doing) (m : List ℤ) → do_branches t v left o m ≡ do_branches t v all o m

branches-are : (t : List Turn) (v : ℤ) (all : TBranchTrees) (ls : List TLabel) (b : TStmtTrees) (rest : TBranchTrees) (m : List ℤ) (o : Doing) (x : Bool)
    → all ≡ and_tbranch ls b rest → x ≡ list_any (is_labelled v) ls → cond x (do_stmts t b m) (do_branches t v rest o m) ≡ do_branches t v all o m
branches-are t v all ls b rest m o x is e = ap (λ y. cond y (do_stmts t b m) (do_branches t v rest o m)) e ∙ sym (ap (λ y. do_branches t v y o m) is)

pub next-branches : (branches : List TBranch) (i : ℕ) (b : TBranch) (v : ℤ) (x : Bool) → i < length branches → b ≡ get_or branches i b
    → BranchesLeft v (tbranch_trees (drop i branches)) (tbranch_trees branches) → x ≡ list_any (is_labelled v) b.labels.items.items → x ≡ false
    → BranchesLeft v (tbranch_trees (drop (i + 1) branches)) (tbranch_trees branches)
next-branches branches i b v x lt is left has none =
    let here = branches-at branches i b lt is in
    record {
      sound = λ m all.
          let h = left.sound m all in
          let typed = subst (λ y. AreBranches h.slots h.held h.of y) here h.typed in
          record { slots = h.slots; held = h.held; of = h.of; typed = typed.2; fit = h.fit };
      same = λ t o m.
          branches-are t v _ b.labels.items.items (tstmt_trees b.body.items.items) (tbranch_trees (drop (i + 1) branches)) m o false here (sym none ∙ has)
          ∙ left.same t o m;
    }

pub branch-body : (branches : List TBranch) (i : ℕ) (b : TBranch) (body : List TStmt) (v : ℤ) (x : Bool) (o : TOtherTree) (m : List ℤ) → i < length branches
    → b ≡ get_or branches i b → body ≡ b.body.items.items → BranchesLeft v (tbranch_trees (drop i branches)) (tbranch_trees branches)
    → x ≡ list_any (is_labelled v) b.labels.items.items → x ≡ true → SoundBranches (tbranch_trees branches) m
    → IsBody (λ t. do_branches t v (tbranch_trees branches) (do_other t o)) (1 + branches_weight (tbranch_trees branches) + other_weight o)
    (branches_size (tbranch_trees branches) + other_size o) m (tstmt_trees body)
branch-body branches i b body v x o m lt is items left has there all =
    let here = branches-at branches i b lt is in
    let h = left.sound m all in
    let typed = subst (λ y. AreBranches h.slots h.held h.of y) here h.typed in
    let inner : IsBody (λ t. do_branches t v (tbranch_trees branches) (do_other t o)) (1 + branches_weight (tbranch_trees branches) + other_weight o)
    (branches_size (tbranch_trees branches) + other_size o) m (tstmt_trees b.body.items.items) = record {
      same = λ t.
          branches-are t v _ b.labels.items.items (tstmt_trees b.body.items.items) (tbranch_trees (drop (i + 1) branches)) m (do_other t o) true here
          (sym there ∙ has)
          ∙ left.same t (do_other t o) m;
      sound = record { slots = h.slots; held = h.held; typed = typed.1; fit = h.fit };
      lighter = omega (arith, branch-lighter branches i b lt is);
      small = omega (arith, branch-smaller branches i b lt is);
    } in
    subst (λ y. IsBody (λ t. do_branches t v (tbranch_trees branches) (do_other t o)) (1 + branches_weight (tbranch_trees branches) + other_weight o)
    (branches_size (tbranch_trees branches) + other_size o) m (tstmt_trees y)) (sym items) inner

-- ---- the turns of a FOR

set-fits : (slots : List Slot) (m : List ℤ) (n : ℕ) (s : Slot) (v : ℤ) → slice_get slots n ≡ Some s → AreFit slots m → fits s.ty v ≡ true
    → AreFit slots (slice_set m n v)
set-fits [] m n s v e h f = absurd cc
set-fits (x ∷ slots) [] n s v e h f = absurd h
set-fits (x ∷ slots) (w ∷ m) zero s v e h f = let is : x ≡ s = cc in (subst (λ (y : Slot). fits y.ty v ≡ true) (sym is) f, h.1)
set-fits (x ∷ slots) (w ∷ m) (suc n) s v e h f = (h.0, set-fits slots m n s v e h.1 f)

pub turns-inside : (slot : ℕ) (v by : ℤ) (n : ℕ) (body : TStmtTrees) (m : List ℤ) → SoundTurns slot v by n body m → slot < length m
turns-inside slot v by n body m h = fit-inside h.slots m slot h.set.of h.set.there h.fit

entered-fits : (slot : ℕ) (v by : ℤ) (n k : ℕ) (body : TStmtTrees) (m next : List ℤ) → n ≡ suc k → (h : SoundTurns slot v by n body m)
    → next ≡ slice_set m slot v → AreFit h.slots next
entered-fits slot v by n k body m next is h set =
    let values : AreTurns h.of (suc k) v by = subst (λ x. AreTurns h.of x v by) is h.values in
    let one : fits h.set.of.ty v ≡ true = subst (λ (u : Ty). fits u v ≡ true) (sym h.set.ty) values.0 in
    let fit : AreFit h.slots (slice_set m slot v) = set-fits h.slots m slot h.set.of v h.set.there h.fit one in
    subst (λ x. AreFit h.slots x) (sym set) fit

pub turns-enter : (slot : ℕ) (v by : ℤ) (n k : ℕ) (body : TStmtTrees) (m next : List ℤ) → n ≡ suc k → SoundTurns slot v by n body m → next ≡ slice_set m slot v
    → SoundStmts body next
turns-enter slot v by n k body m next is h set =
    record { slots = h.slots; held = h.held ++ slot ∷ []; typed = h.typed; fit = entered-fits slot v by n k body m next is h set }

next-values : (t : Ty) (k : ℕ) (v by w : ℤ) → AreTurns t k (v +ℤ by) by → (0 < k → w ≡ v +ℤ by) → AreTurns t k w by
next-values t zero v by w h e = tt
next-values t (suc j) v by w h e = let some : 0 < suc j = omega arith in subst (λ x. AreTurns t (suc j) x by) (sym (e some)) h

pub turns-rest : BodyFits → (t : List Turn) (slot : ℕ) (v by w : ℤ) (n k : ℕ) (body : TStmtTrees) (m entered next : List ℤ) → n ≡ suc k
    → SoundTurns slot v by n body m
    → entered ≡ slice_set m slot v → Ok next ≡ do_stmts t body entered → (0 < k → w ≡ v +ℤ by) → SoundTurns slot w by k body next
turns-rest law t slot v by w n k body m entered next is h set done e =
    let fit : IfOk (do_stmts t body entered) (AreFit h.slots) =
    law h.slots (h.held ++ slot ∷ []) body t entered h.typed (entered-fits slot v by n k body m entered is h set) in
    let values : AreTurns h.of (suc k) v by = subst (λ x. AreTurns h.of x v by) is h.values in
    record {
      slots = h.slots;
      held = h.held;
      of = h.of;
      set = h.set;
      values = next-values h.of k v by w values.1 e;
      typed = h.typed;
      fit = subst (λ r. IfOk r (AreFit h.slots)) (sym done) fit;
    }

-- each type has values of 64 bits
fits-width : (t : Ty) (v : ℤ) → fits t v ≡ true → SFits w64 v
fits-width ty.Bool v h = grind (arith, h)
fits-width ty.Int v h = grind (arith, h)
fits-width ty.Dint v h = grind (arith, h)
fits-width ty.Lint v h = grind (arith, h)

next-fits : (slot : ℕ) (v by : ℤ) (n k : ℕ) (body : TStmtTrees) (m : List ℤ) → n ≡ suc (suc k) → (h : SoundTurns slot v by n body m)
    → fits h.of (v +ℤ by) ≡ true
next-fits slot v by n k body m is h =
    let values : AreTurns h.of (suc (suc k)) v by = subst (λ x. AreTurns h.of x v by) is h.values in
    values.1.0

pub next-width : (slot : ℕ) (v by : ℤ) (n k : ℕ) (body : TStmtTrees) (m : List ℤ) → n ≡ suc (suc k) → SoundTurns slot v by n body m → SFits w64 (v +ℤ by)
next-width slot v by n k body m is h = fits-width h.of (v +ℤ by) (next-fits slot v by n k body m is h)

over-next : (slot : ℕ) (by : ℤ) (f : ℤ → Doing) (k : ℕ) (v w : ℤ) (next : List ℤ) → (0 < k → w ≡ v +ℤ by)
    → turns_from slot by f k w next ≡ turns_from slot by f k (v +ℤ by) next
over-next slot by f zero v w next e = refl
over-next slot by f (suc j) v w next e = let some : 0 < suc j = omega arith in ap (λ x. turns_from slot by f (suc j) x next) (e some)

pub turns-next : (slot : ℕ) (by : ℤ) (f : ℤ → Doing) (n k : ℕ) (v w : ℤ) (m next : List ℤ) (all : Result (List ℤ) Stop) → n ≡ suc k
    → turns_from slot by f n v m ≡ all
    → Ok next ≡ f v (slice_set m slot v) → (0 < k → w ≡ v +ℤ by) → turns_from slot by f k w next ≡ all
turns-next slot by f n k v w m next all is h done e =
    over-next slot by f k v w next e
    ∙ ap (λ r. and_then r (λ x. turns_from slot by f k (v +ℤ by) x)) done
    ∙ sym (ap (λ x. turns_from slot by f x v m) is) ∙ h

pub turns-stop : (slot : ℕ) (by : ℤ) (f : ℤ → Doing) (n k : ℕ) (v : ℤ) (m : List ℤ) (d : Stop) (all : Result (List ℤ) Stop) → n ≡ suc k
    → turns_from slot by f n v m ≡ all → Err d ≡ f v (slice_set m slot v) → Err d ≡ all
turns-stop slot by f n k v m d all is h stops =
    ap (λ r. and_then r (λ x. turns_from slot by f k (v +ℤ by) x)) stops ∙ sym (ap (λ x. turns_from slot by f x v m) is) ∙ h

pub turns-none : (slot : ℕ) (by : ℤ) (f : ℤ → Doing) (n : ℕ) (v : ℤ) (m : List ℤ) (all : Result (List ℤ) Stop) → n ≡ 0 → turns_from slot by f n v m ≡ all
    → Ok m ≡ all
turns-none slot by f n v m all none h = ap (λ k. turns_from slot by f k v m) (sym none) ∙ h

-- the meaning of a turn's body, at the turns and the values with which it is entered
pub body-at : (t u : List Turn) (slot : ℕ) (v : ℤ) (entered : List Turn) (body : TStmtTrees) (m set : List ℤ) (r : Result (List ℤ) Stop) → t ≡ u
    → entered ≡ t ++ record { name = slot; value = v } ∷ [] → set ≡ slice_set m slot v → r ≡ do_stmts entered body set
    → r ≡ do_stmts (u ++ record { name = slot; value = v } ∷ []) body (slice_set m slot v)
body-at t u slot v entered body m set r et ee es h =
    h ∙ (λ i. do_stmts ((ee ∙ ap (λ x. x ++ record { name = slot; value = v } ∷ []) et) i) body (es i))

pub sound-at : (slot : ℕ) (v w by to : ℤ) (n : ℕ) (b : TStmtTrees) (m : List ℤ) → SoundTurns slot v by n b m → w ≡ v → to ≡ by → SoundTurns slot w to n b m
sound-at slot v w by to n b m h e f = subst (λ x. SoundTurns slot x to n b m) (sym e) (subst (λ x. SoundTurns slot v x n b m) (sym f) h)

pub turns-at : (slot : ℕ) (v w by to : ℤ) (n : ℕ) (f : ℤ → Doing) (m : List ℤ) (r : Result (List ℤ) Stop) → w ≡ v → to ≡ by → r ≡ all_turns slot w to n f m
    → r ≡ all_turns slot v by n f m
turns-at slot v w by to n f m r e g h = h ∙ λ i. all_turns slot (e i) (g i) n f m

-- ---- labels

-- the first of the labels that are left is the value, or has it in its range
pub label-found : (v : ℤ) (l : TLabel) (left rest all : List TLabel) → left ≡ l ∷ rest → true ≡ is_labelled v l
    → list_any (is_labelled v) left ≡ list_any (is_labelled v) all → true ≡ list_any (is_labelled v) all
label-found v l left rest all e here left_all = ap (λ b. b || list_any (is_labelled v) rest) here ∙ sym (ap (list_any (is_labelled v)) e) ∙ left_all

-- it isn't
pub label-passed : (v : ℤ) (l : TLabel) (left rest all : List TLabel) → left ≡ l ∷ rest → false ≡ is_labelled v l
    → list_any (is_labelled v) left ≡ list_any (is_labelled v) all → list_any (is_labelled v) rest ≡ list_any (is_labelled v) all
label-passed v l left rest all e here left_all = ap (λ b. b || list_any (is_labelled v) rest) here ∙ sym (ap (list_any (is_labelled v)) e) ∙ left_all
