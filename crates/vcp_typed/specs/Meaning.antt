-- Meaning: the values of expressions and what statements do, after IEC 61131-3, Structured Text, with this project's stops.
use Rattle.std.specs.Prelude.{ℕ, zero, suc, ℤ, pos, neg_ℤ, ◌+ℤ◌, ◌-ℤ◌, ◌*ℤ◌, int_lt, int_le, int_div, int_rem, unsigned_abs, Bool, cond, not, ◌&&◌, ◌||◌, List}
use Rattle.std.specs.Prelude.{[], ◌∷◌, ◌++◌, slice_set, Result, Ok, Err}
use Rattle.std.specs.List.{list_any}
use Rattle.vcp_base.specs.declared.spot.Spot.{Spot}
use Rattle.vcp_base.specs.declared.turns.Turn.{Turn}
use Rattle.vcp_base.specs.declared.ty.Ty.{Ty}
use Rattle.vcp_base.specs.declared.ty.Ty.TheVariants as ty
use Rattle.vcp_base.specs.declared.kind.StopKind.{StopKind}
use Rattle.vcp_base.specs.declared.kind.StopKind.TheVariants as why
use Rattle.vcp_base.specs.Types.{fits}
use Rattle.vcp_base.specs.Kinds.{same, truth}
use Rattle.vcp_base.specs.Values.{at}
use Rattle.st_tree.specs.declared.expr.UnOp.{UnOp}
use Rattle.st_tree.specs.declared.expr.UnOp.TheVariants as un
use Rattle.st_tree.specs.declared.expr.BinOp.{BinOp}
use Rattle.st_tree.specs.declared.expr.BinOp.TheVariants as bin
use Rattle.vcp_typed.specs.declared.expr.Fun.{Fun}
use Rattle.vcp_typed.specs.declared.expr.Fun.TheVariants as fun
use Rattle.vcp_typed.specs.declared.stmt.TLabel.{TLabel}
use Rattle.vcp_typed.specs.TExprTree.{TExprTree, TExprTrees, literal, get, widen, unary, binary, call, no_texprs, and_texpr}
use Rattle.vcp_typed.specs.TStmtTree.{TStmtTree, TStmtTrees, TArmTrees, TBranchTrees, TOtherTree, assign, if_, case, for_, no_tstmts, and_tstmt, no_tarms}
use Rattle.vcp_typed.specs.TStmtTree.{and_tarm, no_tbranches, and_tbranch, no_tother, tother}

-- A stop: why, at which operator or function, and in which turns of the enclosing FORs, outermost first. The name of a
-- turn is the number of the control variable's slot.
pub record Stop : Type 0 where
  pub kind : StopKind
  pub spot : Spot
  pub turns : List Turn

-- goes on with a result, or stops
abbrev pub and_then : {A B : Type 0} → Result A Stop → (A → Result B Stop) → Result B Stop
and_then (Ok x) next = next x
and_then (Err s) next = Err s

abbrev pub stop : {A : Type 0} → StopKind → Spot → List Turn → Result A Stop
stop kind spot turns = Err (record { kind = kind; spot = spot; turns = turns })

-- a value that must be one of the type
abbrev pub in_range : Ty → Spot → List Turn → ℤ → Result ℤ Stop
in_range t spot turns v = cond (fits t v) (Ok v) (stop why.Range spot turns)

-- a value that is divided for, unless by zero
abbrev pub unless_zero : ℤ → Spot → List Turn → Result ℤ Stop → Result ℤ Stop
unless_zero divisor spot turns r = cond (same divisor (pos 0)) (stop why.DivZero spot turns) r

-- the value of an operator on operands of the type; `int_div` cuts towards zero, and `int_rem a b` is a - (a/b)*b
abbrev pub operate : BinOp → Ty → Spot → List Turn → ℤ → ℤ → Result ℤ Stop
operate bin.Mul t spot turns a b = in_range t spot turns (a *ℤ b)
operate bin.Div t spot turns a b = unless_zero b spot turns (in_range t spot turns (int_div a b))
operate bin.Mod t spot turns a b = unless_zero b spot turns (in_range t spot turns (int_rem a b))
operate bin.Add t spot turns a b = in_range t spot turns (a +ℤ b)
operate bin.Sub t spot turns a b = in_range t spot turns (a -ℤ b)
operate bin.Lt t spot turns a b = Ok (truth (int_lt a b))
operate bin.Gt t spot turns a b = Ok (truth (int_lt b a))
operate bin.Le t spot turns a b = Ok (truth (int_le a b))
operate bin.Ge t spot turns a b = Ok (truth (int_le b a))
operate bin.Eq t spot turns a b = Ok (truth (same a b))
operate bin.Ne t spot turns a b = Ok (truth (not (same a b)))
operate bin.And t spot turns a b = Ok (truth (same a (pos 1) && same b (pos 1)))
operate bin.Xor t spot turns a b = Ok (truth (not (same a b)))
operate bin.Or t spot turns a b = Ok (truth (same a (pos 1) || same b (pos 1)))

-- the value of a sign
abbrev pub sign : UnOp → Ty → Spot → List Turn → ℤ → Result ℤ Stop
sign un.Neg t spot turns a = in_range t spot turns (neg_ℤ a)
sign un.Not t spot turns a = Ok (pos 1 -ℤ a)

-- the lesser of two numbers
abbrev pub lesser : ℤ → ℤ → ℤ
lesser a b = cond (int_lt b a) b a

-- the greater of two numbers
abbrev pub greater : ℤ → ℤ → ℤ
greater a b = cond (int_lt a b) b a

-- the value of a function, whose value has the type; SEL(G, IN0, IN1) is IN0 where G is FALSE, and LIMIT(MN, IN, MX) is MIN(MAX(IN, MN), MX)
abbrev pub apply : Fun → Ty → Spot → List Turn → List ℤ → Result ℤ Stop
apply fun.Abs t spot turns vs = in_range t spot turns (pos (unsigned_abs (at vs 0)))
apply fun.Min t spot turns vs = Ok (lesser (at vs 0) (at vs 1))
apply fun.Max t spot turns vs = Ok (greater (at vs 0) (at vs 1))
apply fun.Limit t spot turns vs = Ok (lesser (greater (at vs 1) (at vs 0)) (at vs 2))
apply fun.Sel t spot turns vs = Ok (cond (same (at vs 0) (pos 0)) (at vs 1) (at vs 2))
apply fun.IntToDint t spot turns vs = Ok (at vs 0)
apply fun.IntToLint t spot turns vs = Ok (at vs 0)
apply fun.DintToInt t spot turns vs = in_range ty.Int spot turns (at vs 0)
apply fun.DintToLint t spot turns vs = Ok (at vs 0)
apply fun.LintToInt t spot turns vs = in_range ty.Int spot turns (at vs 0)
apply fun.LintToDint t spot turns vs = in_range ty.Dint spot turns (at vs 0)
apply fun.BoolToInt t spot turns vs = Ok (at vs 0)

-- The value of an expression where the slots have the values m. Operands and arguments are evaluated from the left, all of them.
abbrev mutual
  pub value : List Turn → TExprTree → List ℤ → Result ℤ Stop
  value turns (literal t v spot) m = Ok v
  value turns (get slot t) m = Ok (at m slot)
  value turns (widen t a) m = value turns a m
  value turns (unary op t a spot) m = and_then (value turns a m) (λ x. sign op t spot turns x)
  value turns (binary op t a b spot) m =
      and_then (value turns a m) (λ x. and_then (value turns b m) (λ y. operate op t spot turns x y))
  value turns (call f t es spot) m = and_then (values turns es m) (λ vs. apply f t spot turns vs)

  pub values : List Turn → TExprTrees → List ℤ → Result (List ℤ) Stop
  values turns no_texprs m = Ok []
  values turns (and_texpr e es) m = and_then (value turns e m) (λ v. and_then (values turns es m) (λ vs. Ok (v ∷ vs)))

-- the value is the label's, or in its range
abbrev pub is_labelled : ℤ → TLabel → Bool
is_labelled v l = int_le l.first v && int_le v l.last

-- A turn with the value v: the control variable gets it, and the body is done.
abbrev pub turn : ℕ → (ℤ → List ℤ → Result (List ℤ) Stop) → ℤ → List ℤ → Result (List ℤ) Stop
turn slot body v m = body v (slice_set m slot v)

-- so many turns from the value v on
abbrev pub turns_from : ℕ → ℤ → (ℤ → List ℤ → Result (List ℤ) Stop) → ℕ → ℤ → List ℤ → Result (List ℤ) Stop
turns_from slot by body zero v m = Ok m
turns_from slot by body (suc n) v m = and_then (turn slot body v m) (λ next. turns_from slot by body n (v +ℤ by) next)

-- all turns of a FOR; where there is none, the control variable gets the first value
abbrev pub all_turns : ℕ → ℤ → ℤ → ℕ → (ℤ → List ℤ → Result (List ℤ) Stop) → List ℤ → Result (List ℤ) Stop
all_turns slot first by zero body m = Ok (slice_set m slot first)
all_turns slot first by (suc n) body m = turns_from slot by body (suc n) first m

-- What statements make of the values of the slots.
abbrev mutual
  pub do_stmt : List Turn → TStmtTree → List ℤ → Result (List ℤ) Stop
  do_stmt turns (assign slot e spot) m = and_then (value turns e m) (λ v. Ok (slice_set m slot v))
  do_stmt turns (if_ arms o) m = do_arms turns arms (do_other turns o) m
  do_stmt turns (case e branches o spot) m = and_then (value turns e m) (λ v. do_branches turns v branches (do_other turns o) m)
  do_stmt turns (for_ slot first by n body spot) m =
      all_turns slot first by n (λ v. do_stmts (turns ++ record { name = slot; value = v } ∷ []) body) m

  pub do_stmts : List Turn → TStmtTrees → List ℤ → Result (List ℤ) Stop
  do_stmts turns no_tstmts m = Ok m
  do_stmts turns (and_tstmt s ss) m = and_then (do_stmt turns s m) (λ next. do_stmts turns ss next)

  -- the body of the first arm whose condition is TRUE, or else what comes otherwise
  pub do_arms : List Turn → TArmTrees → (List ℤ → Result (List ℤ) Stop) → List ℤ → Result (List ℤ) Stop
  do_arms turns no_tarms otherwise m = otherwise m
  do_arms turns (and_tarm e body spot arms) otherwise m =
      and_then (value turns e m) (λ v. cond (same v (pos 0)) (do_arms turns arms otherwise m) (do_stmts turns body m))

  -- the body of the first branch with a label for the value, or else what comes otherwise
  pub do_branches : List Turn → ℤ → TBranchTrees → (List ℤ → Result (List ℤ) Stop) → List ℤ → Result (List ℤ) Stop
  do_branches turns v no_tbranches otherwise m = otherwise m
  do_branches turns v (and_tbranch ls body branches) otherwise m =
      cond (list_any (is_labelled v) ls) (do_stmts turns body m) (do_branches turns v branches otherwise m)

  -- the body of ELSE, or nothing
  pub do_other : List Turn → TOtherTree → List ℤ → Result (List ℤ) Stop
  do_other turns no_tother m = Ok m
  do_other turns (tother body) m = do_stmts turns body m
