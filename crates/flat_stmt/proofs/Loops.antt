-- Loops: statements, branches and turns one after another: what was done so far, and what is still to come.
use Rattle.std.proofs.Common.{◌≡◌, ℕ, ◌+◌, ◌≤◌, ℤ, pos, Bool, true, false, not, cond, List, Option, Result, Ok, Err, refl, sym, ap, ◌∙◌, arith}
use Rattle.std.specs.List.{list_any}
use Rattle.vcp_base.specs.declared.spot.Spot.{Spot}
use Rattle.vcp_base.specs.declared.turns.Turn.{Turn}
use Rattle.vcp_base.specs.Kinds.{same, truth}
use Rattle.vcp_typed.specs.declared.stmt.TLabel.{TLabel}
use Rattle.vcp_typed.specs.TExprTree.{TExprTree}
use Rattle.vcp_typed.specs.TStmtTree.{TStmtTrees, TArmTrees, TBranchTrees, and_tarm, and_tbranch}
use Rattle.vcp_typed.specs.Meaning.{Stop, and_then, value, is_labelled, do_stmts, do_arms, do_branches}
use Rattle.flat_expr.specs.Laws.{Laws}
use Rattle.flat_expr.specs.State.{State, IsState}
use Rattle.flat_stmt.specs.Moves.{here, Doing, Moves, Any, where_reached, Does}
use Rattle.flat_stmt.specs.Branches.{branch_of, arm_of, rest_of}
use Rattle.flat_stmt.proofs.Algebra.{Lasts, repathed, then_do, moves_then, moves_same, moves_nothing}
use Rattle.flat_stmt.proofs.Branches.{restored}
use Rattle.flat_stmt.proofs.Turns.{does_nothing, does_same, does_then}

and_then-assoc : {A B C : Type 0} (r : Result A Stop) (f : A → Result B Stop) (g : B → Result C Stop)
    → and_then (and_then r f) g ≡ and_then r (λ x. and_then (f x) g)
and_then-assoc (Ok x) f g = refl
and_then-assoc (Err s) f g = refl

and_then-all : {A B : Type 0} (r : Result A Stop) (f g : A → Result B Stop) → ((x : A) → f x ≡ g x) → and_then r f ≡ and_then r g
and_then-all (Ok x) f g h = h x
and_then-all (Err s) f g h = refl

and_then-ok : (r : Result (List ℤ) Stop) → and_then r (λ m. Ok m) ≡ r
and_then-ok (Ok x) = refl
and_then-ok (Err s) = refl

-- ---- statements, and turns

-- Operations were added for what was done so far; with what is still to come it is the whole. `left` and `most` are the sizes of both.
pub record Done (old now : State) (left most : ℕ) (rest whole : List ℤ → Result (List ℤ) Stop) : Type 0 where
  pub size : ℕ
  pub doing : List ℤ → Result (List ℤ) Stop
  pub does : Does old now size doing
  pub fits : size + left ≤ most
  pub same : (m : List ℤ) → and_then (doing m) rest ≡ whole m

pub done_start : (s : State) (most : ℕ) (whole : List ℤ → Result (List ℤ) Stop) → IsState s → Done s s most most whole whole
done_start s most whole i = record {
  size = 0;
  doing = λ m. Ok m;
  does = does_nothing s i;
  fits = omega arith;
  same = λ m. refl;
}

pub done_step : Laws → (a b c : State) (size left left2 most : ℕ) (f rest rest2 whole : List ℤ → Result (List ℤ) Stop) → Done a b left most rest whole
    → Does b c size f → size + left2 ≤ left → ((m : List ℤ) → and_then (f m) rest2 ≡ rest m) → Done a c left2 most rest2 whole
done_step laws a b c size left left2 most f rest rest2 whole d step le is = record {
  size = d.size + size;
  doing = λ m. and_then (d.doing m) f;
  does = does_then laws a b c d.size size d.doing f d.does step;
  fits = omega (arith, d.fits, le);
  same = λ m. and_then-assoc (d.doing m) f rest2 ∙ and_then-all (d.doing m) (λ x. and_then (f x) rest2) rest is ∙ d.same m;
}

pub done_end : (a b : State) (left most : ℕ) (rest whole : List ℤ → Result (List ℤ) Stop) → Done a b left most rest whole → ((m : List ℤ) → rest m ≡ Ok m)
    → Does a b most whole
done_end a b left most rest whole d is =
    does_same a b d.size most d.doing whole (omega (arith, d.fits))
    (λ m. sym (and_then-ok (d.doing m)) ∙ and_then-all (d.doing m) (λ x. Ok x) rest (λ x. sym (is x)) ∙ d.same m) d.does

-- ---- branches

-- the same for branches, where the values are such
pub record Branched (old now : State) (Such : List ℤ → Type 0) (left most : ℕ) (rest whole : List ℤ → Result (List ℤ) Stop) : Type 0 where
  pub size : ℕ
  pub doing : Doing
  pub moves : Moves old now Such size doing
  pub fits : size + left ≤ most
  pub same : (b : Bool) (m : List ℤ) → and_then (doing b m) (rest_of rest) ≡ rest_of whole (here b m)

pub branched_start : (s : State) (Such : List ℤ → Type 0) (most : ℕ) (whole : List ℤ → Result (List ℤ) Stop) → IsState s
    → Branched s s Such most most whole whole
branched_start s Such most whole i = record {
  size = 0;
  doing = λ b m. Ok (here b m);
  moves = moves_nothing s Such i;
  fits = omega arith;
  same = λ b m. refl;
}

-- the state now
pub branched_state : (a b : State) (Such : List ℤ → Type 0) (left most : ℕ) (rest whole : List ℤ → Result (List ℤ) Stop)
    → Branched a b Such left most rest whole → IsState b
branched_state a b Such left most rest whole d = repathed (record b { path = a.path }) b.path d.moves.continues.after d.moves.path

pub branched_step : Laws → (a b c : State) (Such : List ℤ → Type 0) (size left left2 most : ℕ) (f : Doing) (rest rest2 whole : List ℤ → Result (List ℤ) Stop)
    → Lasts a Such → Branched a b Such left most rest whole → Moves b c Such size f → size + left2 ≤ left →
    ((d : Bool) (m : List ℤ) → and_then (f d m) (rest_of rest2) ≡ rest_of rest (here d m)) → Branched a c Such left2 most rest2 whole
branched_step laws a b c Such size left left2 most f rest rest2 whole lasts d step le is = record {
  size = d.size + size;
  doing = then_do d.doing f;
  moves = moves_then laws a b c Such d.size size d.doing f lasts d.moves step;
  fits = omega (arith, d.fits, le);
  same = λ x m. and_then-assoc (d.doing x m) (λ h. f h.reached h.slots) (rest_of rest2)
      ∙ and_then-all (d.doing x m) (λ h. and_then (f h.reached h.slots) (rest_of rest2)) (rest_of rest) (λ h. is h.reached h.slots) ∙ d.same x m;
}

-- ELSE, and the path condition of before
pub branched_end : Laws → (a b c : State) (p : Option ℕ) (Such : List ℤ → Type 0) (left most size : ℕ) (rest whole : List ℤ → Result (List ℤ) Stop)
    → Lasts a Such → p ≡ a.path → Branched a b Such left most rest whole → Does b c size rest → size ≤ left →
    Moves a (record c { path = p }) Such most (where_reached whole)
branched_end laws a b c p Such left most size rest whole lasts is_path d step le =
    moves_same a (record c { path = p }) Such Such (d.size + size) most (where_reached whole) (where_reached whole) (omega (arith, d.fits, le)) (λ vs h. h)
    (λ vs now h. refl)
    (restored laws a c p Such (d.size + size) (then_do d.doing (where_reached rest)) whole lasts is_path
    (moves_then laws a b c Such d.size size d.doing (where_reached rest) lasts d.moves
    (moves_same b c Any Such size size (where_reached rest) (where_reached rest) (omega arith) (λ vs h. tt) (λ vs now h. refl) step.moves))
    (λ x m. and_then-assoc (d.doing x m) (λ h. where_reached rest h.reached h.slots) (λ h. Ok h.slots)
    ∙ and_then-all (d.doing x m) (λ h. and_then (where_reached rest h.reached h.slots) (λ i. Ok i.slots)) (rest_of rest) (λ h. slots_of h.reached h.slots)
    ∙ d.same x m))
  where
    only_slots : (b : Bool) (r : Result (List ℤ) Stop) → and_then (and_then r (λ n. Ok (here b n))) (λ i. Ok i.slots) ≡ r
    only_slots b (Ok m) = refl
    only_slots b (Err s) = refl

    slots_of : (b : Bool) (m : List ℤ) → and_then (where_reached rest b m) (λ i. Ok i.slots) ≡ cond b (rest m) (Ok m)
    slots_of true m = only_slots true (rest m)
    slots_of false m = refl

-- a branch whose condition is x, and what comes after it
branch_rest : (more b : Bool) (x : ℤ) (body rest : List ℤ → Result (List ℤ) Stop) (m : List ℤ) → (more ≡ false → (n : List ℤ) → rest n ≡ Ok n)
    → and_then (branch_of more x body b m) (rest_of rest) ≡ cond b (cond (same x (pos 0)) (rest m) (body m)) (Ok m)
branch_rest more true x body rest m last = go more (same x (pos 0)) last
  where
    taken : (b : Bool) (r : Result (List ℤ) Stop) → (b ≡ false → (n : List ℤ) → rest n ≡ Ok n)
        → and_then (and_then r (λ n. Ok (here (not b) n))) (rest_of rest) ≡ r
    taken true (Ok n) h = refl
    taken false (Ok n) h = h refl n
    taken b (Err s) h = refl

    go : (d z : Bool) → (d ≡ false → (n : List ℤ) → rest n ≡ Ok n)
        → and_then (cond z (Ok (here true m)) (and_then (body m) (λ n. Ok (here (not d) n)))) (rest_of rest) ≡ cond z (rest m) (body m)
    go d true h = refl
    go d false h = taken d (body m) h
branch_rest more false x body rest m last = refl

pub arm_rest : (more b : Bool) (turns : List Turn) (e : TExprTree) (body : TStmtTrees) (spot : Spot) (arms : TArmTrees) (other : List ℤ
    → Result (List ℤ) Stop) (m : List ℤ) → (more ≡ false → (n : List ℤ) → do_arms turns arms other n ≡ Ok n) →
    and_then (arm_of more turns e (do_stmts turns body) b m) (rest_of (do_arms turns arms other)) ≡ rest_of (do_arms turns (and_tarm e body spot arms) other)
    (here b m)
arm_rest more true turns e body spot arms other m last = go (value turns e m)
  where
    go : (r : Result ℤ Stop)
        → and_then (and_then r (λ x. branch_of more x (do_stmts turns body) true m)) (rest_of (do_arms turns arms other))
        ≡ and_then r (λ v. cond (same v (pos 0)) (do_arms turns arms other m) (do_stmts turns body m))
    go (Ok x) = branch_rest more true x (do_stmts turns body) (do_arms turns arms other) m last
    go (Err s) = refl
arm_rest more false turns e body spot arms other m last = refl

truth_zero : (c : Bool) (x y : Result (List ℤ) Stop) → cond (same (truth c) (pos 0)) x y ≡ cond c y x
truth_zero true x y = refl
truth_zero false x y = refl

pub case_rest : (more b : Bool) (turns : List Turn) (v : ℤ) (ls : List TLabel) (body : TStmtTrees) (branches : TBranchTrees) (other : List ℤ
    → Result (List ℤ) Stop) (m : List ℤ) → (more ≡ false → (n : List ℤ) → do_branches turns v branches other n ≡ Ok n) →
    and_then (branch_of more (truth (list_any (is_labelled v) ls)) (do_stmts turns body) b m) (rest_of (do_branches turns v branches other)) ≡ rest_of
    (do_branches turns v (and_tbranch ls body branches) other) (here b m)
case_rest more b turns v ls body branches other m last =
    branch_rest more b (truth (list_any (is_labelled v) ls)) (do_stmts turns body) (do_branches turns v branches other) m last
    ∙ ap (λ r. cond b r (Ok m)) (truth_zero (list_any (is_labelled v) ls) (do_branches turns v branches other m) (do_stmts turns body m))
