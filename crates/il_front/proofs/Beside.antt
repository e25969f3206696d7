-- Beside: the source run of the typed program is the accumulator's run.
use Rattle.std.proofs.Common.{◌≡◌, ℕ, ◌<◌, ℤ, pos, Bool, true, false, cond, ◌||◌, List, [], ◌∷◌, ◌++◌, length, slice_set, Option, Some, None}
use Rattle.std.proofs.Common.{Result, Ok, Err, refl, sym, ap, ap₂, subst, ◌∙◌, length-set, get_or-set_same}
use Rattle.std.proofs.lemmas.List.{map-append, length-map}
use Rattle.std.specs.Prelude.{IfOk}
use Rattle.vcp_base.specs.declared.spot.Spot.{Spot}
use Rattle.vcp_base.specs.declared.ty.Ty.{Ty}
use Rattle.vcp_base.specs.declared.ty.Ty.TheVariants as ty
use Rattle.vcp_base.specs.Types.{same_type}
use Rattle.st_tree.specs.declared.expr.BinOp.{BinOp}
use Rattle.vcp_typed.specs.declared.slot.Slot.{Slot}
use Rattle.vcp_typed.specs.Rules.{common, result}
use Rattle.vcp_typed.specs.Meaning.{Stop, and_then, operate, do_stmt, do_stmts}
use Rattle.vcp_typed.specs.SourceRun.{Run, initial, with_inputs, outputs, after_cycle, run_from, source_run}
use Rattle.il_front.specs.declared.instruction.Action.TheVariants as action
use Rattle.il_front.specs.Accumulator.{Action, Instruction, Il, Now, operand_type, worth, flipped, combined, acted, does_all, begun, acc_from, acc_run}
use Rattle.il_front.specs.Judging.{loads}
use Rattle.il_front.specs.TypedForm.{used_before, all_types, next_type, combined_type, uses, used_by, action_stmt, statements, hidden_of, hidden_slots}
use Rattle.il_front.specs.TypedForm.{typed_il}
use Rattle.il_front.proofs.HiddenSlots.{same_self, place-below, hidden-local, inputs-beside, inputs-long, outputs-beside}
use Rattle.il_front.proofs.Steps.{ActionIn, Keeps, placed, left_by, done, step-beside}

-- ---- what an action leaves

-- behind an action, where the result had the type t and there are n variables
pub record Behind (n : ℕ) (t : Ty) (next : Now) : Type 0 where
  pub ty : next.ty ≡ t
  pub long : length next.vars ≡ n

combined_behind : (n : ℕ) (op : BinOp) (s : Spot) (y : ℤ) (c : Option Ty) (now : Now) → length now.vars ≡ n
    → IfOk (combined op s y c now) (Behind n (combined_type op now.ty c))
combined_behind n op s y None now e = record { ty = refl; long = e }
combined_behind n op s y (Some w) now e = one (operate op w s [] now.value y)
  where
    one : (r : Result ℤ Stop)
        → IfOk (and_then r (λ v. let q : Result Now Stop = Ok (record { vars = now.vars; ty = result op w; value = v }) in q)) (Behind n (result op w))
    one (Ok v) = record { ty = refl; long = e }
    one (Err z) = tt

long_put : (c : Bool) (n slot : ℕ) (x : ℤ) (vars : List ℤ) → length vars ≡ n → length (cond c vars (slice_set vars slot x)) ≡ n
long_put true n slot x vars e = e
long_put false n slot x vars e = length-set vars slot x ∙ e

acted_behind : (n : ℕ) (s : Spot) (a : Action) (now : Now) → length now.vars ≡ n → IfOk (acted s a now) (Behind n (next_type now.ty a))
acted_behind n s (action.Load negated o) now e = record { ty = refl; long = e }
acted_behind n s (action.Store negated slot u) now e = record { ty = refl; long = length-set now.vars slot (flipped negated now.value) ∙ e }
acted_behind n s (action.Put to slot u) now e = record { ty = refl; long = long_put _ n slot _ now.vars e }
acted_behind n s action.Complement now e = record { ty = refl; long = e }
acted_behind n s (action.Combine op negated o) now e =
    combined_behind n op s (flipped negated (worth now.vars o)) (common op now.ty (operand_type o)) now e

-- ---- one instruction after the other

-- the variables of the instructions are there, and the hidden one of each type that the result takes is one of k
abbrev pub AreFine : ℕ → ℕ → (Ty → ℕ) → Ty → List Instruction → Type 0
AreFine n k j t [] = Unit {0}
AreFine n k j t (i ∷ is) = ActionIn n i.action × (j (next_type t i.action) < k) × AreFine n k j (next_type t i.action) is

-- the first instruction finds the result where it looks at it
abbrev pub Finds : (Ty → ℕ) → List ℤ → Now → List Instruction → Type 0
Finds j h now [] = Unit {0}
Finds j h now (i ∷ is) = loads i.action ≡ false → Keeps j h now

always : (j : Ty → ℕ) (h : List ℤ) (now : Now) (is : List Instruction) → Keeps j h now → Finds j h now is
always j h now [] k = tt
always j h now (i ∷ is) k = λ e. k

-- statements end as instructions do: with the same values of the n declared variables and some of the k hidden ones, or with
-- the same stop
abbrev pub Ends : ℕ → ℕ → Result (List ℤ) Stop → Result Now Stop → Type 0
Ends n k r (Err s) = r ≡ Err s
Ends n k r (Ok next) = (h : List ℤ) × (r ≡ Ok (next.vars ++ h)) × (length next.vars ≡ n) × (length h ≡ k)

one_more : (n k : ℕ) (j : Ty → ℕ) (is : List Instruction) (h : List ℤ) (t : Ty)
    → ((next : Now) (g : List ℤ) → length next.vars ≡ n → length g ≡ k → AreFine n k j next.ty is → Finds j g next is
    → Ends n k (do_stmts [] (statements (placed n j) next.ty is) (next.vars ++ g)) (does_all is next))
    → length h ≡ k → j t < k → AreFine n k j t is
    → (a : Result Now Stop) → IfOk a (Behind n t) → (r : Result (List ℤ) Stop) → r ≡ and_then a (left_by j h)
    → Ends n k (and_then r (λ next. do_stmts [] (statements (placed n j) t is) next)) (and_then a (λ next. does_all is next))
one_more n k j is h t rest m lt f (Err s) b r e = ap (λ (q : Result (List ℤ) Stop). and_then q (λ next. do_stmts [] (statements (placed n j) t is) next)) e
one_more n k j is h t rest m lt f (Ok next) b r e =
    let after : List ℤ = slice_set h (j next.ty) next.value in
    let below : j next.ty < length h = subst (λ (u : Ty). j u < length h) (sym b.ty) (subst (λ (c : ℕ). j t < c) (sym m) lt) in
    let here : Ends n k (do_stmts [] (statements (placed n j) next.ty is) (next.vars ++ after)) (does_all is next) =
    rest next after b.long (length-set h (j next.ty) next.value ∙ m)
    (subst (λ (u : Ty). AreFine n k j u is) (sym b.ty) f)
    (always j after next is (get_or-set_same h (j next.ty) next.value (pos 0) below)) in
    let same : do_stmts [] (statements (placed n j) next.ty is) (next.vars ++ after)
    ≡ and_then r (λ x. do_stmts [] (statements (placed n j) t is) x) =
    ap (λ (u : Ty). do_stmts [] (statements (placed n j) u is) (next.vars ++ after)) b.ty
    ∙ sym (ap (λ (q : Result (List ℤ) Stop). and_then q (λ x. do_stmts [] (statements (placed n j) t is) x)) e) in
    subst (λ (q : Result (List ℤ) Stop). Ends n k q (does_all is next)) same here

pub all-beside : (n k : ℕ) (j : Ty → ℕ) (is : List Instruction) (now : Now) (h : List ℤ) → length now.vars ≡ n → length h ≡ k
    → AreFine n k j now.ty is → Finds j h now is
    → Ends n k (do_stmts [] (statements (placed n j) now.ty is) (now.vars ++ h)) (does_all is now)
all-beside n k j [] now h l m f g = (h, refl, l, m)
all-beside n k j (i ∷ is) now h l m f g =
    one_more n k j is h (next_type now.ty i.action) (λ next after. all-beside n k j is next after) m f.1 f.2
    (acted i.spot i.action now) (acted_behind n i.spot i.action now l)
    (do_stmt [] (action_stmt (placed n j) i.spot i.at now.ty i.action) (now.vars ++ h))
    (step-beside j n i.spot i.at i.action now h l f.0 g)

-- ---- a program's instructions

-- the variables of instructions are there, and the first one loads a result
abbrev pub AreIn : ℕ → List Instruction → Type 0
AreIn n [] = Unit {0}
AreIn n (i ∷ is) = ActionIn n i.action × AreIn n is

abbrev pub LoadsFirst : List Instruction → Type 0
LoadsFirst [] = Unit {0}
LoadsFirst (i ∷ is) = loads i.action ≡ true

pub record IsSound (i : Il) : Type 0 where
  pub variables : AreIn (length i.slots) i.code
  pub first : LoadsFirst i.code

pub or_true : (b : Bool) → (true || b) ≡ true
or_true b = refl

pub or_rest : (a b : Bool) → b ≡ true → (a || b) ≡ true
or_rest true b e = refl
or_rest false b e = e

-- each type that the result takes behind these instructions is used, and has its hidden variable
fine : (n : ℕ) (used : Ty → Bool) (t : Ty) (is : List Instruction) → ((u : Ty) → uses is t u ≡ true → used u ≡ true) → AreIn n is
    → AreFine n (length (hidden_slots used all_types)) (λ u. used_before used u all_types) t is
fine n used t [] h i = tt
fine n used t (x ∷ is) h i =
    let next : Ty = next_type t x.action in (
      i.0,
      place-below used next (h next (ap (λ (b : Bool). b || uses is next next) (same_self next) ∙ or_true (uses is next next))),
      fine n used next is (λ u e. h u (or_rest (same_type next u) (uses is next u) e)) i.1,
    )

finds : (j : Ty → ℕ) (h vars : List ℤ) (is : List Instruction) → LoadsFirst is → Finds j h (begun vars) is
finds j h vars [] f = tt
finds j h vars (i ∷ is) f = λ e. absurd (let both : false ≡ true = sym e ∙ f in cc)

-- ---- runs

both_rows : (o p : List ℤ) (r q : Run) → o ≡ p → r ≡ q
    → (let x : Run = record { rows = o ∷ r.rows; end = r.end } in x) ≡ record { rows = p ∷ q.rows; end = q.end }
both_rows o p r q e f = ap₂ (λ (l : List ℤ) (x : Run). let y : Run = record { rows = l ∷ x.rows; end = x.end } in y) e f

-- the hidden variables of an instruction list, and their places
abbrev count : Il → ℕ
count i = length (hidden_of i)

abbrev place : Il → Ty → ℕ
place i t = used_before (used_by i.code) t all_types

after_beside : (i : Il) (rows : List (List ℤ)) (r : Result (List ℤ) Stop) (a : Result Now Stop)
    → ((vars h : List ℤ) → length vars ≡ length i.slots → length h ≡ count i → run_from (typed_il i) (vars ++ h) rows ≡ acc_from i vars rows)
    → Ends (length i.slots) (count i) r a
    → after_cycle (typed_il i).slots (λ next. run_from (typed_il i) next rows) r
    ≡ after_cycle i.slots (λ next. acc_from i next rows) (and_then a (λ now. done now.vars))
after_beside i rows r (Err s) rest e = ap (after_cycle (typed_il i).slots (λ next. run_from (typed_il i) next rows)) e
after_beside i rows r (Ok next) rest e =
    ap (after_cycle (typed_il i).slots (λ next. run_from (typed_il i) next rows)) e.1
    ∙ both_rows (outputs (typed_il i).slots (next.vars ++ e.0)) (outputs i.slots next.vars) (run_from (typed_il i) (next.vars ++ e.0) rows)
    (acc_from i next.vars rows)
    (outputs-beside i.slots (hidden_of i) next.vars e.0 (hidden-local (used_by i.code) all_types) e.2)
    (rest next.vars e.0 e.2 e.3)

run-beside : (i : Il) → IsSound i → (rows : List (List ℤ)) (vars h : List ℤ) → length vars ≡ length i.slots → length h ≡ count i
    → run_from (typed_il i) (vars ++ h) rows ≡ acc_from i vars rows
run-beside i sound [] vars h l m = refl
run-beside i sound (row ∷ rows) vars h l m =
    ap (λ (x : List ℤ). after_cycle (typed_il i).slots (λ next. run_from (typed_il i) next rows) (do_stmts [] (typed_il i).body x))
    (inputs-beside i.slots (hidden_of i) row vars h (hidden-local (used_by i.code) all_types) l m)
    ∙ after_beside i rows (do_stmts [] (typed_il i).body (with_inputs i.slots row vars ++ h)) (does_all i.code (begun (with_inputs i.slots row vars)))
    (λ v g. run-beside i sound rows v g)
    (all-beside (length i.slots) (count i) (place i) i.code (begun (with_inputs i.slots row vars)) h
    (inputs-long i.slots row vars l) m
    (fine (length i.slots) (used_by i.code) ty.Bool i.code (λ u e. e) sound.variables)
    (finds (place i) h (with_inputs i.slots row vars) i.code sound.first))

-- the run of the typed program is the accumulator's
pub runs-are-one : (i : Il) (rows : List (List ℤ)) → IsSound i → source_run (typed_il i) rows ≡ acc_run i rows
runs-are-one i rows sound =
    ap (λ (m : List ℤ). run_from (typed_il i) m rows) (map-append (λ (s : Slot). s.init) i.slots (hidden_of i))
    ∙ run-beside i sound rows (initial i.slots) (initial (hidden_of i))
    (length-map i.slots (λ (s : Slot). s.init)) (length-map (hidden_of i) (λ (s : Slot). s.init))
