-- Steps: the statement of an instruction does to the variables what the instruction does, and to the hidden variable of the
-- result's type what it does to the result.
use Rattle.std.proofs.Common.{◌≡◌, ℕ, ◌+◌, ◌-◌, ◌<◌, ℤ, pos, ◌-ℤ◌, Bool, true, false, cond, List, [], ◌++◌, length, slice_set, Option, Some, None}
use Rattle.std.proofs.Common.{Result, Ok, Err, refl, sym, ap, subst, ◌∙◌, arith}
use Rattle.std.proofs.lemmas.List.{set-append_left, set-append_right, get_or_append_left, get_or-append_right, set-get_or}
use Rattle.vcp_base.specs.declared.spot.Spot.{Spot}
use Rattle.vcp_base.specs.declared.ty.Ty.{Ty}
use Rattle.vcp_base.specs.declared.ty.Ty.TheVariants as ty
use Rattle.vcp_base.specs.Kinds.{same, truth}
use Rattle.vcp_base.specs.Values.{at}
use Rattle.st_tree.specs.declared.expr.UnOp.TheVariants as un
use Rattle.st_tree.specs.declared.expr.BinOp.{BinOp}
use Rattle.vcp_typed.specs.TExprTree.{TExprTree, literal, get, widen, unary, binary, call}
use Rattle.vcp_typed.specs.Rules.{widens, common, result}
use Rattle.vcp_typed.specs.Meaning.{Stop, and_then, operate, sign, value, do_stmt}
use Rattle.st_types.specs.ExprTyping.{as_type, widened}
use Rattle.il_front.specs.declared.instruction.Operand.TheVariants as operand
use Rattle.il_front.specs.declared.instruction.Action.TheVariants as action
use Rattle.il_front.specs.Accumulator.{Operand, Action, Now, operand_type, worth, flipped, combined, acted}
use Rattle.il_front.specs.Judging.{loads}
use Rattle.il_front.specs.TypedForm.{operand_expr, turned, kept, combining, action_stmt}

-- ---- the instructions' variables

-- the operand is a variable that is there, or a number
abbrev pub OperandIn : ℕ → Operand → Type 0
OperandIn n (operand.Variable slot t) = slot < n
OperandIn n (operand.Number t v) = Unit {0}

-- the variables of the action are there
abbrev pub ActionIn : ℕ → Action → Type 0
ActionIn n (action.Load negated o) = OperandIn n o
ActionIn n (action.Store negated slot t) = slot < n
ActionIn n (action.Put to slot t) = slot < n
ActionIn n action.Complement = Unit {0}
ActionIn n (action.Combine op negated o) = OperandIn n o

-- ---- expressions

as_type_value : (t : Ty) (e : TExprTree) (m : List ℤ) → value [] (as_type t e) m ≡ value [] e m
as_type_value t (literal u v s) m = refl
as_type_value t (get slot u) m = refl
as_type_value t (widen u a) m = refl
as_type_value t (unary op u a s) m = refl
as_type_value t (binary op u a b s) m = refl
as_type_value t (call f u es s) m = refl

either_value : (b : Bool) (x y : TExprTree) (m : List ℤ) → value [] x m ≡ value [] y m → value [] (cond b x y) m ≡ value [] y m
either_value true x y m e = e
either_value false x y m e = refl

-- widening keeps the value
widened_value : (t u : Ty) (e : TExprTree) (m : List ℤ) → value [] (widened t u e) m ≡ value [] e m
widened_value t u e m = either_value (widens u t) (as_type t e) e m (as_type_value t e m)

turned_value : (negated : Bool) (s : Spot) (e : TExprTree) (m : List ℤ) (x : ℤ) → value [] e m ≡ Ok x
    → value [] (turned negated s e) m ≡ Ok (flipped negated x)
turned_value true s e m x h = ap (λ (r : Result ℤ Stop). and_then r (λ y. sign un.Not ty.Bool s [] y)) h
turned_value false s e m x h = h

-- an operand has its value, whatever the hidden variables hold
operand_value : (vars h : List ℤ) (s : Spot) (o : Operand) → OperandIn (length vars) o
    → value [] (operand_expr s o) (vars ++ h) ≡ Ok (worth vars o)
operand_value vars h s (operand.Variable slot t) lt =
    ap (λ (v : ℤ). let r : Result ℤ Stop = Ok v in r) (get_or_append_left vars h (pos 0) slot lt)
operand_value vars h s (operand.Number t v) lt = refl

-- ---- places

back : (n j : ℕ) → (n + j) - n ≡ j
back n j = omega arith

-- the hidden variable at place j, behind n declared ones
pub hidden-at : (vars h : List ℤ) (n j : ℕ) → length vars ≡ n → at (vars ++ h) (n + j) ≡ at h j
hidden-at vars h n j e = get_or-append_right vars h n (n + j) (pos 0) e (omega arith) ∙ ap (λ (k : ℕ). at h k) (back n j)

pub hidden-set : (vars h : List ℤ) (n j : ℕ) (v : ℤ) → length vars ≡ n → slice_set (vars ++ h) (n + j) v ≡ vars ++ slice_set h j v
hidden-set vars h n j v e =
    set-append_right vars h n (n + j) v e (omega arith) ∙ ap (λ (k : ℕ). vars ++ slice_set h k v) (back n j)

-- ---- what is left

-- the values of all variables behind an instruction: the declared ones, and the hidden ones with the result in that of its type
abbrev pub left_by : (Ty → ℕ) → List ℤ → Now → Result (List ℤ) Stop
left_by j h next = Ok (next.vars ++ slice_set h (j next.ty) next.value)

abbrev pub done : List ℤ → Result (List ℤ) Stop
done m = Ok m

-- the value of an expression goes to a variable
assigned : (r : Result ℤ Stop) (x : ℤ) (m : List ℤ) (slot : ℕ) → r ≡ Ok x → and_then r (λ v. done (slice_set m slot v)) ≡ done (slice_set m slot x)
assigned r x m slot e = ap (λ (q : Result ℤ Stop). and_then q (λ v. done (slice_set m slot v))) e

-- the result is in the hidden variable of its type
abbrev pub Keeps : (Ty → ℕ) → List ℤ → Now → Type 0
Keeps j h now = at h (j now.ty) ≡ now.value

-- where the result stays, the hidden variables do
stays : (j : Ty → ℕ) (h : List ℤ) (now : Now) → Keeps j h now → slice_set h (j now.ty) now.value ≡ h
stays j h now k = ap (λ (v : ℤ). slice_set h (j now.ty) v) (sym k) ∙ set-get_or h (j now.ty) (pos 0)

put_in : (c : Bool) (vars h : List ℤ) (slot : ℕ) (x : ℤ) → slot < length vars
    → cond c (done (vars ++ h)) (done (slice_set (vars ++ h) slot x)) ≡ done (cond c vars (slice_set vars slot x) ++ h)
put_in true vars h slot x lt = refl
put_in false vars h slot x lt = ap done (set-append_left vars h slot x lt)

-- an operator, where its operands have these values
operated : (j : Ty → ℕ) (n : ℕ) (vars h : List ℤ) (u : Ty) (r : Result ℤ Stop) → length vars ≡ n
    → and_then r (λ v. done (slice_set (vars ++ h) (n + j u) v))
    ≡ and_then (and_then r (λ v. let q : Result Now Stop = Ok (record { vars = vars; ty = u; value = v }) in q)) (left_by j h)
operated j n vars h u (Ok v) e = ap done (hidden-set vars h n (j u) v e)
operated j n vars h u (Err s) e = refl

both_values : (op : BinOp) (w : Ty) (s : Spot) (a b : Result ℤ Stop) (x y : ℤ) → a ≡ Ok x → b ≡ Ok y
    → and_then a (λ p. and_then b (λ q. operate op w s [] p q)) ≡ operate op w s [] x y
both_values op w s a b x y e f =
    ap (λ (r : Result ℤ Stop). and_then r (λ p. and_then b (λ q. operate op w s [] p q))) e
    ∙ ap (λ (r : Result ℤ Stop). and_then r (λ q. operate op w s [] x q)) f

-- the number of the slot of each type
abbrev pub placed : ℕ → (Ty → ℕ) → Ty → ℕ
placed n j t = n + j t

-- the kept result has its value
kept_value : (j : Ty → ℕ) (n : ℕ) (now : Now) (h : List ℤ) → length now.vars ≡ n → Keeps j h now
    → value [] (kept (placed n j) now.ty) (now.vars ++ h) ≡ Ok now.value
kept_value j n now h e k = ap (λ (v : ℤ). let r : Result ℤ Stop = Ok v in r) (hidden-at now.vars h n (j now.ty) e ∙ k)

combine_step : (j : Ty → ℕ) (n : ℕ) (now : Now) (h : List ℤ) (op : BinOp) (s : Spot) (e : TExprTree) (u : Ty) (y : ℤ) (c : Option Ty)
    → length now.vars ≡ n → Keeps j h now → value [] e (now.vars ++ h) ≡ Ok y
    → do_stmt [] (combining (placed n j) op s now.ty e u c) (now.vars ++ h) ≡ and_then (combined op s y c now) (left_by j h)
combine_step j n now h op s e u y None l k v =
    assigned (value [] (kept (placed n j) now.ty) (now.vars ++ h)) now.value (now.vars ++ h) (n + j now.ty) (kept_value j n now h l k)
    ∙ ap done (hidden-set now.vars h n (j now.ty) now.value l)
combine_step j n now h op s e u y (Some w) l k v =
    ap (λ (r : Result ℤ Stop). and_then r (λ x. done (slice_set (now.vars ++ h) (n + j (result op w)) x)))
    (both_values op w s (value [] (widened w now.ty (kept (placed n j) now.ty)) (now.vars ++ h)) (value [] (widened w u e) (now.vars ++ h)) now.value y
    (widened_value w now.ty (kept (placed n j) now.ty) (now.vars ++ h) ∙ kept_value j n now h l k)
    (widened_value w u e (now.vars ++ h) ∙ v))
    ∙ operated j n now.vars h (result op w) (operate op w s [] now.value y) l

-- the statement of an action, beside the action; LD doesn't look at the result
pub step-beside : (j : Ty → ℕ) (n : ℕ) (spot s : Spot) (a : Action) (now : Now) (h : List ℤ) → length now.vars ≡ n → ActionIn n a
    → (loads a ≡ false → Keeps j h now)
    → do_stmt [] (action_stmt (placed n j) spot s now.ty a) (now.vars ++ h) ≡ and_then (acted spot a now) (left_by j h)
step-beside j n spot s (action.Load negated o) now h l i k =
    assigned (value [] (turned negated spot (operand_expr s o)) (now.vars ++ h)) (flipped negated (worth now.vars o)) (now.vars ++ h) (n + j (operand_type o))
    (turned_value negated spot (operand_expr s o) (now.vars ++ h) (worth now.vars o)
    (operand_value now.vars h s o (subst (λ (m : ℕ). OperandIn m o) (sym l) i)))
    ∙ ap done (hidden-set now.vars h n (j (operand_type o)) (flipped negated (worth now.vars o)) l)
step-beside j n spot s (action.Store negated slot u) now h l i k =
    assigned (value [] (widened u now.ty (turned negated spot (kept (placed n j) now.ty))) (now.vars ++ h)) (flipped negated now.value) (now.vars ++ h) slot
    (widened_value u now.ty (turned negated spot (kept (placed n j) now.ty)) (now.vars ++ h)
    ∙ turned_value negated spot (kept (placed n j) now.ty) (now.vars ++ h) now.value (kept_value j n now h l (k refl)))
    ∙ ap done (set-append_left now.vars h slot (flipped negated now.value) (subst (λ (m : ℕ). slot < m) (sym l) i))
    ∙ ap (λ (g : List ℤ). done (slice_set now.vars slot (flipped negated now.value) ++ g)) (sym (stays j h now (k refl)))
step-beside j n spot s (action.Put to slot u) now h l i k =
    ap (λ (v : ℤ). cond (same v (pos 0)) (done (now.vars ++ h)) (done (slice_set (now.vars ++ h) slot (truth to))))
    (hidden-at now.vars h n (j now.ty) l ∙ k refl)
    ∙ put_in (same now.value (pos 0)) now.vars h slot (truth to) (subst (λ (m : ℕ). slot < m) (sym l) i)
    ∙ ap (λ (g : List ℤ). done (cond (same now.value (pos 0)) now.vars (slice_set now.vars slot (truth to)) ++ g)) (sym (stays j h now (k refl)))
step-beside j n spot s action.Complement now h l i k =
    ap (λ (v : ℤ). done (slice_set (now.vars ++ h) (n + j now.ty) (pos 1 -ℤ v))) (hidden-at now.vars h n (j now.ty) l ∙ k refl)
    ∙ ap done (hidden-set now.vars h n (j now.ty) (pos 1 -ℤ now.value) l)
step-beside j n spot s (action.Combine op negated o) now h l i k =
    combine_step j n now h op spot (turned negated spot (operand_expr s o)) (operand_type o) (flipped negated (worth now.vars o))
    (common op now.ty (operand_type o)) l (k refl)
    (turned_value negated spot (operand_expr s o) (now.vars ++ h) (worth now.vars o)
    (operand_value now.vars h s o (subst (λ (m : ℕ). OperandIn m o) (sym l) i)))
