-- Statements: the steps of each function over statements, from what its calls give.
use Rattle.std.proofs.Common.{◌≡◌, ℕ, zero, suc, add-one, ◌+◌, ◌*◌, ◌<◌, ◌≤◌, ℤ, ◌+ℤ◌, Bool, true, false, cond, List, [], ◌∷◌, ◌++◌, length, length-append}
use Rattle.std.proofs.Common.{drop, drop-cons, eqb, get_or, slice_get, Option, Some, Result, Ok, Err, refl, sym, ap, ap₂, ◌∙◌, subst, arith, w64, SFits}
use Rattle.std.specs.Prelude.{sum_by, All}
use Rattle.std.specs.List.{list_any}
use Rattle.std.specs.Prelude.{◌||◌}
use Rattle.std.proofs.lemmas.Bool.{or_parts}
use Rattle.vcp_base.specs.declared.code.Profile.{Profile}
use Rattle.vcp_base.specs.Code.{admits}
use Rattle.vcp_typed.specs.Wide.{expr_is_wide, stmt_is_wide, stmts_are_wide, arms_are_wide, branches_are_wide, other_is_wide}
use Rattle.std.proofs.lemmas.Option.{slice_get_within}
use Rattle.op_graph.specs.declared.op.TurnNode.{TurnNode}
use Rattle.vcp_base.specs.declared.ty.Ty.{Ty}
use Rattle.vcp_base.specs.declared.ty.Ty.TheVariants as ty
use Rattle.vcp_base.specs.declared.turns.Turn.{Turn}
use Rattle.vcp_base.specs.declared.spot.Spot.{Spot}
use Rattle.vcp_base.specs.Limits.{most_turn_nodes}
use Rattle.vcp_base.specs.Types.{fits}
use Rattle.vcp_base.specs.Kinds.{truth}
use Rattle.op_graph.specs.Lists.{turns_of}
use Rattle.vcp_base.specs.Values.{at}
use Rattle.vcp_typed.specs.declared.slot.Slot.{Slot}
use Rattle.vcp_typed.specs.declared.stmt.TLabel.{TLabel}
use Rattle.vcp_typed.specs.declared.stmt.TArm.{TArm}
use Rattle.vcp_typed.specs.declared.stmt.TBranch.{TBranch}
use Rattle.vcp_typed.specs.declared.stmt.TStmt.{TStmt}
use Rattle.vcp_typed.specs.TExprTree.{TExprTree}
use Rattle.vcp_typed.specs.TExprViews.{texpr_tree}
use Rattle.vcp_typed.specs.TStmtTree.{TStmtTree, TStmtTrees, TArmTrees, TBranchTrees, TOtherTree, assign, case, for_, and_tstmt, and_tarm}
use Rattle.vcp_typed.specs.TStmtTree.{and_tbranch, no_tother, tother}
use Rattle.vcp_typed.specs.TStmtViews.{tstmt_tree, tstmt_trees, tarm_trees, tbranch_trees}
use Rattle.vcp_typed.specs.Meaning.{Stop, and_then, value, is_labelled, turn, turns_from, do_stmt, do_stmts, do_arms, do_branches, do_other}
use Rattle.vcp_typed.specs.Checked.{IsExpr, ty_of, AreTurns, IsLabel}
use Rattle.vcp_typed.specs.Size.{expr_size, stmt_size, stmts_size, arms_size, branches_size, other_size, label_size}
use Rattle.flat_expr.specs.Laws.{Laws}
use Rattle.flat_expr.specs.State.{State, IsState, IsA, IsPlace, Meant, Computes, Follows, active, Makes, Flattens, Continues, Allows, guarded, meaning_of, reserved}
use Rattle.flat_stmt.specs.Moves.{here, Moves, Any, where_reached, Does, setting}
use Rattle.flat_stmt.specs.Conditions.{joins, any_labelled}
use Rattle.flat_stmt.specs.Branches.{Conditions, branch_of, arm_of, next_of, choosing}
use Rattle.flat_stmt.specs.Parts.{Context, context, ConditionPart, StmtPart, StmtsPart, ArmsPart, BranchesPart, OtherPart, statements_of}
use Rattle.flat_stmt.specs.Adds.{AddsBranches, rest_size}
use Rattle.flat_stmt.specs.Steps.{Enters, EntersArm, EntersLabelled, EntersTurn, Exits}
use Rattle.flat_stmt.specs.declared.branch.Entered.{Entered}
use Rattle.flat_stmt.proofs.Weight.{stmt_weight, stmts_weight, arms_weight, branches_weight, other_weight}
use Rattle.flat_stmt.proofs.Algebra.{With, Binds, place_typed, moves_same, moves_nothing, moves_with, follows_continues}
use Rattle.flat_stmt.proofs.Branches.{lasts_any, lasts_at, branch_more, branch_last, arm_moves, labels_moves}
use Rattle.flat_stmt.proofs.Turns.{same_turns, does_continues, does_same, does_then, nested}
use Rattle.flat_stmt.proofs.Loops.{Done, done_start, done_step, done_end, Branched, branched_step, branched_end, arm_rest, case_rest}

-- ---- lists

drop-at : {X : Type 0} (xs : List X) (i : ℕ) (x : X) → i < length xs → x ≡ get_or xs i x → drop i xs ≡ x ∷ drop (i + 1) xs
drop-at xs i x lt is = rw (add-one, drop-cons xs i x) (ap (λ y. y ∷ drop (suc i) xs) (sym is))

drop_all : {X : Type 0} (xs : List X) (n : ℕ) → length xs ≡ n → drop n xs ≡ []
drop_all [] zero e = refl
drop_all [] (suc n) e = refl
drop_all (x ∷ xs) zero e = absurd (omega (arith, e))
drop_all (x ∷ xs) (suc n) e = drop_all xs n (omega (arith, e))

pub slot_there : (slots : List Slot) (i : ℕ) → i < length slots → (x : Slot) × (slice_get slots i ≡ Some x)
slot_there [] i lt = absurd (omega (arith, lt))
slot_there (x ∷ slots) zero lt = (x, refl)
slot_there (x ∷ slots) (suc i) lt = slot_there slots i (omega (arith, lt))

pub stmts_at : (ss : List TStmt) (i : ℕ) (s : TStmt) → i < length ss → s ≡ get_or ss i s
    → tstmt_trees (drop i ss) ≡ and_tstmt (tstmt_tree s) (tstmt_trees (drop (i + 1) ss))
stmts_at ss i s lt is = ap tstmt_trees (drop-at ss i s lt is)

pub stmt_lighter : (ss : List TStmt) (i : ℕ) (s : TStmt) → i < length ss → s ≡ get_or ss i s → stmt_weight (tstmt_tree s) < stmts_weight (tstmt_trees ss)
stmt_lighter [] i s lt is = absurd (omega (arith, lt))
stmt_lighter (x ∷ xs) zero s lt is = omega (arith, ap (λ y. stmt_weight (tstmt_tree y)) is)
stmt_lighter (x ∷ xs) (suc i) s lt is = omega (arith, stmt_lighter xs i s (omega (arith, lt)) is)

pub arms_at : (arms : List TArm) (i : ℕ) (a : TArm) → i < length arms → a ≡ get_or arms i a
    → tarm_trees (drop i arms) ≡ and_tarm (texpr_tree a.cond) (tstmt_trees a.body.items.items) a.spot (tarm_trees (drop (i + 1) arms))
arms_at arms i a lt is = ap tarm_trees (drop-at arms i a lt is)

pub arm_lighter : (arms : List TArm) (i : ℕ) (a : TArm) → i < length arms → a ≡ get_or arms i a
    → stmts_weight (tstmt_trees a.body.items.items) < arms_weight (tarm_trees arms)
arm_lighter [] i a lt is = absurd (omega (arith, lt))
arm_lighter (x ∷ xs) zero a lt is =
    let same_weight : stmts_weight (tstmt_trees a.body.items.items) ≡ stmts_weight (tstmt_trees x.body.items.items) =
    ap (λ (y : TArm). stmts_weight (tstmt_trees y.body.items.items)) is in
    omega (arith, same_weight)
arm_lighter (x ∷ xs) (suc i) a lt is = omega (arith, arm_lighter xs i a (omega (arith, lt)) is)

pub branches_at : (branches : List TBranch) (i : ℕ) (b : TBranch) → i < length branches → b ≡ get_or branches i b
    → tbranch_trees (drop i branches) ≡ and_tbranch b.labels.items.items (tstmt_trees b.body.items.items) (tbranch_trees (drop (i + 1) branches))
branches_at branches i b lt is = ap tbranch_trees (drop-at branches i b lt is)

pub branch_lighter : (branches : List TBranch) (i : ℕ) (b : TBranch) → i < length branches → b ≡ get_or branches i b
    → stmts_weight (tstmt_trees b.body.items.items) < branches_weight (tbranch_trees branches)
branch_lighter [] i b lt is = absurd (omega (arith, lt))
branch_lighter (x ∷ xs) zero b lt is =
    let same_weight : stmts_weight (tstmt_trees b.body.items.items) ≡ stmts_weight (tstmt_trees x.body.items.items) =
    ap (λ (y : TBranch). stmts_weight (tstmt_trees y.body.items.items)) is in
    omega (arith, same_weight)
branch_lighter (x ∷ xs) (suc i) b lt is = omega (arith, branch_lighter xs i b (omega (arith, lt)) is)

-- ---- a branch

-- a body inside a branch, in the turns of before
entered_body : (s1 set s3 : State) (r : ℕ) (branch : Entered) (ss : TStmtTrees) (f : Enters s1 set r branch)
    → Does set s3 (stmts_size ss) (do_stmts (turns_of set.graph set.turn) ss)
    → Does (record f.joined { path = Some f.path }) s3 (stmts_size ss) (do_stmts (turns_of s1.graph s1.turn) ss)
entered_body s1 set s3 r branch ss f d =
    subst (λ ts. Does (record f.joined { path = Some f.path }) s3 (stmts_size ss) (do_stmts ts ss))
    (same_turns s1 f.joined (follows_continues s1 f.joined f.makes.follows))
    (subst (λ s. Does s s3 (stmts_size ss) (do_stmts (turns_of s.graph s.turn) ss)) f.is d)

-- a branch: what is added before its body, its body, and what comes after
branch_moves : Laws → (s1 set s3 last : State) (r : ℕ) (more : Bool) (branch : Entered) (ss : TStmtTrees) → Enters s1 set r branch
    → Does set s3 (stmts_size ss) (do_stmts (turns_of set.graph set.turn) ss) → Exits more s3 last branch → (x : ℤ)
    → Moves s1 last (λ vs. at vs r ≡ x) (3 + stmts_size ss) (branch_of more x (do_stmts (turns_of s1.graph s1.turn) ss))
branch_moves laws s1 set s3 last r true branch ss f d next x =
    branch_more laws s1 f.joined s3 last r f.path branch.outer x (stmts_size ss) (do_stmts (turns_of s1.graph s1.turn) ss) f.outer f.before f.there f.makes
    (entered_body s1 set s3 r branch ss f d)
    (λ o. subst (λ k. Moves s3 last (Conditions k x branch.outer o) 2 (next_of x o)) f.condition (next x o))
branch_moves laws s1 set s3 last r false branch ss f d is x =
    subst (λ s. Moves s1 s (λ vs. at vs r ≡ x) (3 + stmts_size ss) (branch_of false x (do_stmts (turns_of s1.graph s1.turn) ss))) (sym is)
    (branch_last laws s1 f.joined s3 r f.path branch.outer x (stmts_size ss) (do_stmts (turns_of s1.graph s1.turn) ss) f.outer f.before f.there f.makes
    (entered_body s1 set s3 r branch ss f d))

-- inside a branch the outer condition and the branch's are there
pub outer_there : (s1 set s3 : State) (r n : ℕ) (branch : Entered) (g : List ℤ → Result (List ℤ) Stop) → Enters s1 set r branch → Does set s3 n g
    → IsPlace ty.Bool s3.graph.operations branch.outer
outer_there s1 set s3 r n branch g f d =
    place_typed set s3 ty.Bool branch.outer d.moves.continues.typed
    (subst (λ s. IsPlace ty.Bool s.graph.operations branch.outer) (sym f.is)
    (place_typed s1 f.joined ty.Bool branch.outer f.makes.follows.typed (subst (IsPlace ty.Bool s1.graph.operations) (sym f.outer) f.before.path)))

pub condition_there : (s1 set s3 : State) (r n : ℕ) (branch : Entered) (g : List ℤ → Result (List ℤ) Stop) → Enters s1 set r branch → Does set s3 n g
    → IsA ty.Bool s3.graph.operations branch.condition
condition_there s1 set s3 r n branch g f d =
    subst (IsA ty.Bool s3.graph.operations) (sym f.condition)
    (d.moves.continues.typed ty.Bool r (subst (λ s. IsA ty.Bool s.graph.operations r) (sym f.is) (f.makes.follows.typed ty.Bool r f.there)))

pub same_context : (a b : State) → Continues a b → context b ≡ context a
same_context a b f = ap₂ (λ slots profile. record { slots = slots; profile = profile }) f.slots f.profile

-- what is there when a body begins: at most so many operations and turn nodes more than before
pub record Ready (old new : State) (most nodes : ℕ) : Type 0 where
  pub same : context new ≡ context old
  pub count : reserved new ≤ reserved old + most
  pub few : length new.graph.turn_nodes ≤ length old.graph.turn_nodes + nodes

pub made_context : (a b : State) → Follows a b → context b ≡ context a
made_context a b f = ap₂ (λ slots profile. record { slots = slots; profile = profile }) f.slots f.profile

made_ready : {is_read : ℕ → Bool} (old mid new : State) (t : Ty) (n m k : ℕ) (meant : Meant) → Computes old mid is_read t n meant k → Ready mid new m 0
    → Ready old new (n + m) 0
made_ready old mid new t n m k meant f r = record {
  same = r.same ∙ made_context old mid f.follows;
  count = omega (arith, f.count, r.count);
  few = omega (arith, r.few, ap length f.follows.turn_nodes);
}

enters_ready : (s1 set : State) (r : ℕ) (branch : Entered) → Enters s1 set r branch → Ready s1 set 1 0
enters_ready s1 set r branch f =
    made_ready s1 f.joined set ty.Bool 1 0 f.path (joins branch.outer r) f.makes
    (record {
      same = ap context f.is;
      count = omega (arith, ap reserved f.is);
      few = omega (arith, ap (λ (s : State). length s.graph.turn_nodes) f.is);
    })

pub arm_ready : (a set : State) (e : TExprTree) (branch : Entered) → EntersArm a set e branch → Ready a set (expr_size e + 1) 0
arm_ready a set e branch f = made_ready a f.0 set (ty_of e) (expr_size e) 1 f.1 (meaning_of a e) f.2 (enters_ready f.0 set f.1 branch f.3)

pub labelled_ready : (a set : State) (k : ℕ) (ls : List TLabel) (branch : Entered) → EntersLabelled a set k ls branch → Ready a set (sum_by label_size ls + 1) 0
labelled_ready a set k ls branch f =
    made_ready a f.0 set ty.Bool (sum_by label_size ls) 1 f.1 (any_labelled k ls) f.2 (enters_ready f.0 set f.1 branch f.3)

pub turn_ready : (a set : State) (slot : ℕ) (v : ℤ) → EntersTurn a set slot v → Ready a set 2 1
turn_ready a set slot v f =
    let c = does_continues (record f.nested { turn = f.n }) set 2 (setting slot v) f.sets.does in
    record {
      same = same_context (record f.nested { turn = f.n }) set c ∙ ap context f.nests.is;
      count = omega (arith, f.sets.does.moves.count, ap reserved f.nests.is);
      few = omega (
        arith,
        ap length f.sets.nodes,
        ap (λ (s : State). length s.graph.turn_nodes) f.nests.is,
        length-append a.graph.turn_nodes (record { parent = a.turn; name = slot; value = v } ∷ []),
      );
    }

pub turn_longer : (a set : State) (slot : ℕ) (v : ℤ) → EntersTurn a set slot v → length a.graph.turn_nodes ≤ length set.graph.turn_nodes
turn_longer a set slot v f =
    omega (
      arith,
      ap length f.sets.nodes,
      ap (λ (s : State). length s.graph.turn_nodes) f.nests.is,
      length-append a.graph.turn_nodes (record { parent = a.turn; name = slot; value = v } ∷ []),
    )

-- ---- loops

-- the turns round the place are as at the begin of the loop
branched_turns : (a b : State) (Such : List ℤ → Type 0) (left most : ℕ) (rest whole : List ℤ → Result (List ℤ) Stop) → Branched a b Such left most rest whole
    → turns_of b.graph b.turn ≡ turns_of a.graph a.turn
branched_turns a b Such left most rest whole d = same_turns a (record b { path = a.path }) d.moves.continues

pub stmts_step : Laws → (a b c : State) (ss : List TStmt) (i : ℕ) (s : TStmt) → i < length ss → s ≡ get_or ss i s →
    Done a b (stmts_size (tstmt_trees (drop i ss))) (stmts_size (tstmt_trees ss)) (do_stmts (turns_of a.graph a.turn) (tstmt_trees (drop i ss)))
    (do_stmts (turns_of a.graph a.turn) (tstmt_trees ss)) →
    Does b c (stmt_size (tstmt_tree s)) (do_stmt (turns_of b.graph b.turn) (tstmt_tree s)) →
    Done a c (stmts_size (tstmt_trees (drop (i + 1) ss))) (stmts_size (tstmt_trees ss)) (do_stmts (turns_of a.graph a.turn) (tstmt_trees (drop (i + 1) ss)))
    (do_stmts (turns_of a.graph a.turn) (tstmt_trees ss))
stmts_step laws a b c ss i s lt is d step =
    let tree = stmts_at ss i s lt is in
    let turns = same_turns a b (does_continues a b d.size d.doing d.does) in
    done_step laws a b c (stmt_size (tstmt_tree s)) (stmts_size (tstmt_trees (drop i ss))) (stmts_size (tstmt_trees (drop (i + 1) ss)))
    (stmts_size (tstmt_trees ss))
    (do_stmt (turns_of a.graph a.turn) (tstmt_tree s)) (do_stmts (turns_of a.graph a.turn) (tstmt_trees (drop i ss)))
    (do_stmts (turns_of a.graph a.turn) (tstmt_trees (drop (i + 1) ss))) (do_stmts (turns_of a.graph a.turn) (tstmt_trees ss))
    d (subst (λ ts. Does b c (stmt_size (tstmt_tree s)) (do_stmt ts (tstmt_tree s))) turns step) (omega (arith, ap stmts_size tree))
    (λ m. ap (λ x. do_stmts (turns_of a.graph a.turn) x m) (sym tree))

-- after the last branch nothing is left
abbrev pub IsLast : Bool → ℕ → ℕ → TOtherTree → Type 0
IsLast more i n other = more ≡ false → (n ≡ i + 1) × (other ≡ no_tother)

pub arms_step : Laws → (a b c : State) (arms : List TArm) (i : ℕ) (arm : TArm) (more : Bool) (other : TOtherTree) → i < length arms → arm ≡ get_or arms i arm
    → IsLast more i (length arms) other →
    Branched a b Any (arms_size (tarm_trees (drop i arms)) + other_size other) (arms_size (tarm_trees arms) + other_size other)
    (do_arms (turns_of a.graph a.turn) (tarm_trees (drop i arms)) (do_other (turns_of a.graph a.turn) other))
    (do_arms (turns_of a.graph a.turn) (tarm_trees arms) (do_other (turns_of a.graph a.turn) other)) →
    Moves b c Any (3 + expr_size (texpr_tree arm.cond) + stmts_size (tstmt_trees arm.body.items.items))
    (arm_of more (turns_of b.graph b.turn) (texpr_tree arm.cond) (do_stmts (turns_of b.graph b.turn) (tstmt_trees arm.body.items.items))) →
    Branched a c Any (arms_size (tarm_trees (drop (i + 1) arms)) + other_size other) (arms_size (tarm_trees arms) + other_size other)
    (do_arms (turns_of a.graph a.turn) (tarm_trees (drop (i + 1) arms)) (do_other (turns_of a.graph a.turn) other))
    (do_arms (turns_of a.graph a.turn) (tarm_trees arms) (do_other (turns_of a.graph a.turn) other))
arms_step laws a b c arms i arm more other lt is last d step =
    branched_step laws a b c Any (3 + expr_size e + stmts_size body) (arms_size (tarm_trees (drop i arms)) + other_size other)
    (arms_size rest + other_size other) (arms_size (tarm_trees arms) + other_size other)
    (arm_of more ts e (do_stmts ts body)) (do_arms ts (tarm_trees (drop i arms)) (do_other ts other)) (do_arms ts rest (do_other ts other))
    (do_arms ts (tarm_trees arms) (do_other ts other)) (lasts_any a) d
    (subst (λ us. Moves b c Any (3 + expr_size e + stmts_size body) (arm_of more us e (do_stmts us body))) (branched_turns a b Any _ _ _ _ d) step)
    (omega (arith, ap arms_size tree))
    (λ x m. arm_rest more x ts e body arm.spot rest (do_other ts other) m (λ no n. nothing (last no) n)
    ∙ ap (λ t. cond x (do_arms ts t (do_other ts other) m) (Ok m)) (sym tree))
  where
    ts : List Turn
    ts = turns_of a.graph a.turn

    e : TExprTree
    e = texpr_tree arm.cond

    body : TStmtTrees
    body = tstmt_trees arm.body.items.items

    rest : TArmTrees
    rest = tarm_trees (drop (i + 1) arms)

    tree : tarm_trees (drop i arms) ≡ and_tarm e body arm.spot rest
    tree = arms_at arms i arm lt is

    nothing : (length arms ≡ i + 1) × (other ≡ no_tother) → (n : List ℤ) → do_arms ts rest (do_other ts other) n ≡ Ok n
    nothing h n = ap (λ xs. do_arms ts (tarm_trees xs) (do_other ts other) n) (drop_all arms (i + 1) h.0) ∙ ap (λ o. do_other ts o n) h.1

pub case_step : Laws → (a b c : State) (t : Ty) (k : ℕ) (branches : List TBranch) (i : ℕ) (branch : TBranch) (more : Bool) (other : TOtherTree)
    → i < length branches → branch ≡ get_or branches i branch → IsLast more i (length branches) other → IsA t a.graph.operations k → (v : ℤ) →
    Branched a b (λ vs. at vs k ≡ v) (branches_size (tbranch_trees (drop i branches)) + other_size other)
    (branches_size (tbranch_trees branches) + other_size other)
    (do_branches (turns_of a.graph a.turn) v (tbranch_trees (drop i branches)) (do_other (turns_of a.graph a.turn) other))
    (do_branches (turns_of a.graph a.turn) v (tbranch_trees branches) (do_other (turns_of a.graph a.turn) other)) →
    Moves b c (λ vs. at vs k ≡ v) (3 + sum_by label_size branch.labels.items.items + stmts_size (tstmt_trees branch.body.items.items))
    (branch_of more (truth (list_any (is_labelled v) branch.labels.items.items)) (do_stmts (turns_of b.graph b.turn) (tstmt_trees branch.body.items.items)))
    →
    Branched a c (λ vs. at vs k ≡ v) (branches_size (tbranch_trees (drop (i + 1) branches)) + other_size other)
    (branches_size (tbranch_trees branches) + other_size other)
    (do_branches (turns_of a.graph a.turn) v (tbranch_trees (drop (i + 1) branches)) (do_other (turns_of a.graph a.turn) other))
    (do_branches (turns_of a.graph a.turn) v (tbranch_trees branches) (do_other (turns_of a.graph a.turn) other))
case_step laws a b c t k branches i branch more other lt is last hk v d step =
    branched_step laws a b c (λ vs. at vs k ≡ v) (3 + sum_by label_size ls + stmts_size body)
    (branches_size (tbranch_trees (drop i branches)) + other_size other) (branches_size rest + other_size other)
    (branches_size (tbranch_trees branches) + other_size other)
    (branch_of more (truth (list_any (is_labelled v) ls)) (do_stmts ts body)) (do_branches ts v (tbranch_trees (drop i branches)) (do_other ts other))
    (do_branches ts v rest (do_other ts other)) (do_branches ts v (tbranch_trees branches) (do_other ts other)) (lasts_at laws a t k v hk) d
    (subst (λ us. Moves b c (λ vs. at vs k ≡ v) (3 + sum_by label_size ls + stmts_size body)
    (branch_of more (truth (list_any (is_labelled v) ls)) (do_stmts us body))) (branched_turns a b (λ vs. at vs k ≡ v) _ _ _ _ d) step)
    (omega (arith, ap branches_size tree))
    (λ x m. case_rest more x ts v ls body rest (do_other ts other) m (λ no n. nothing (last no) n)
    ∙ ap (λ y. cond x (do_branches ts v y (do_other ts other) m) (Ok m)) (sym tree))
  where
    ts : List Turn
    ts = turns_of a.graph a.turn

    ls : List TLabel
    ls = branch.labels.items.items

    body : TStmtTrees
    body = tstmt_trees branch.body.items.items

    rest : TBranchTrees
    rest = tbranch_trees (drop (i + 1) branches)

    tree : tbranch_trees (drop i branches) ≡ and_tbranch ls body rest
    tree = branches_at branches i branch lt is

    nothing : (length branches ≡ i + 1) × (other ≡ no_tother) → (n : List ℤ) → do_branches ts v rest (do_other ts other) n ≡ Ok n
    nothing h n = ap (λ xs. do_branches ts v (tbranch_trees xs) (do_other ts other) n) (drop_all branches (i + 1) h.0) ∙ ap (λ o. do_other ts o n) h.1

-- ---- an arm

-- its condition is evaluated, and its body is done under it
pub arm_done : Laws → (a set s3 c : State) (e : TExprTree) (branch : Entered) (more : Bool) (inner body : TStmtTrees) → inner ≡ body
    → EntersArm a set e branch → Does set s3 (stmts_size inner) (do_stmts (turns_of set.graph set.turn) inner) → Exits more s3 c branch →
    Moves a c Any (3 + expr_size e + stmts_size body) (arm_of more (turns_of a.graph a.turn) e (do_stmts (turns_of a.graph a.turn) body))
arm_done laws a set s3 c e branch more inner body is f d next =
    moves_same a c Any Any (expr_size e + (3 + stmts_size body)) (3 + expr_size e + stmts_size body) (arm_of more ts e (do_stmts ts body))
    (arm_of more ts e (do_stmts ts body)) (omega arith) (λ vs h. h) (λ vs now h. refl)
    (arm_moves laws a f.0 c e f.1 (3 + stmts_size body) more (do_stmts ts body) f.2
    (λ x. subst (λ ss. Moves f.0 c (λ vs. at vs f.1 ≡ x) (3 + stmts_size ss) (branch_of more x (do_stmts ts ss))) is
    (subst (λ us. Moves f.0 c (λ vs. at vs f.1 ≡ x) (3 + stmts_size inner) (branch_of more x (do_stmts us inner)))
    (same_turns a f.0 (follows_continues a f.0 f.2.follows)) (branch_moves laws f.0 set s3 c f.1 more branch inner f.3 d next x))))
  where
    ts : List Turn
    ts = turns_of a.graph a.turn

-- ---- CASE

pub case_done : Laws → (a b c : State) (e : TExprTree) (k : ℕ) (branches : TBranchTrees) (other : TOtherTree) → Flattens a b e k → AddsBranches b c k branches other →
    Does a c (expr_size e + branches_size branches + other_size other) (choosing (turns_of a.graph a.turn) e branches other)
case_done laws a b c e k branches other f q = record {
  path = q.0 ∙ f.follows.path;
  moves = moves_same a c Any Any (expr_size e + (branches_size branches + other_size other)) (expr_size e + branches_size branches + other_size other)
      (where_reached (choosing ts e branches other)) (where_reached (choosing ts e branches other)) (omega arith) (λ vs h. h) (λ vs now h. refl)
      (moves_with laws a b c (ty_of e) Any k (expr_size e) (branches_size branches + other_size other) (meaning_of a e)
      (where_reached (choosing ts e branches other)) (λ v. where_reached (do_branches ts v branches (do_other ts other))) (lasts_any a) f
      (λ v. moves_same b c (λ vs. at vs k ≡ v) (With Any k v) (branches_size branches + other_size other) (branches_size branches + other_size other)
      (where_reached (do_branches ts v branches (do_other ts other))) (where_reached (do_branches ts v branches (do_other ts other))) (omega arith)
      (λ vs h. h.1) (λ vs now h. refl)
      (subst (λ us. Moves b c (λ vs. at vs k ≡ v) (branches_size branches + other_size other) (where_reached (do_branches us v branches (do_other us other))))
      (same_turns a b (follows_continues a b f.follows)) (q.1 v)))
      (λ now vs types h. binds (active a.path vs) (value ts e now) now));
}
  where
    ts : List Turn
    ts = turns_of a.graph a.turn

    binds : (b : Bool) (x : Result ℤ Stop) (m : List ℤ)
        → Binds (guarded b x) (cond b (and_then (and_then x (λ v. do_branches ts v branches (do_other ts other) m)) (λ n. Ok (here b n))) (Ok (here b m)))
        (λ v. where_reached (do_branches ts v branches (do_other ts other)) b m)
    binds true (Ok v) m = refl
    binds true (Err s) m = refl
    binds false x m = λ v. refl

-- ---- parts of statements

drop_past : {X : Type 0} (xs : List X) (n : ℕ) → length xs ≤ n → drop n xs ≡ []
drop_past [] zero le = refl
drop_past [] (suc n) le = refl
drop_past (x ∷ xs) zero le = absurd (omega (arith, le))
drop_past (x ∷ xs) (suc n) le = drop_past xs n (omega (arith, le))

-- the same inside a loop, whose path condition may be another
pub in_loop : (a b : State) (p : Option ℕ) → Continues a (record b { path = p }) → context b ≡ context a
in_loop a b p f = same_context a (record b { path = p }) f

-- a type of the code is one later
pub admitted_later : (a b : State) (t : Ty) → b.graph.profile ≡ a.graph.profile → admits a.graph.profile t ≡ true → admits b.graph.profile t ≡ true
admitted_later a b t e h = ap (λ p. admits p t) e ∙ h

pub allows_first : (p : Profile) (a b : Bool) → Allows p (a || b) → Allows p a
allows_first p a b h = λ narrow. (or_parts a b (h narrow)).0

pub allows_second : (p : Profile) (a b : Bool) → Allows p (a || b) → Allows p b
allows_second p a b h = λ narrow. (or_parts a b (h narrow)).1

three_parts : (a b c : Bool) → (a || b || c) ≡ false → (a ≡ false) × (b ≡ false) × (c ≡ false)
three_parts true b c h = absurd cc
three_parts false true c h = absurd cc
three_parts false false c h = (refl, refl, h)

pub allows_three : (p : Profile) (a b c : Bool) → Allows p (a || b || c) → Allows p a × Allows p b × Allows p c
allows_three p a b c h =
    ((λ narrow. (three_parts a b c (h narrow)).0), (λ narrow. (three_parts a b c (h narrow)).1), (λ narrow. (three_parts a b c (h narrow)).2))

pub stmts_first : (before c : Context) (all : TStmtTrees) (s : TStmtTree) (ss : TStmtTrees) → all ≡ and_tstmt s ss → c ≡ before → StmtsPart before all
    → StmtPart c s
stmts_first before c all s ss is same h =
    subst (λ x. StmtPart x s) (sym same)
    (let g = subst (λ x. StmtsPart before x) is h in (g.0, g.1.0, allows_first before.profile (stmt_is_wide s) (stmts_are_wide ss) g.2))

pub stmts_rest : (c : Context) (all : TStmtTrees) (s : TStmtTree) (ss : TStmtTrees) → all ≡ and_tstmt s ss → StmtsPart c all → StmtsPart c ss
stmts_rest c all s ss is h = let g = subst (λ x. StmtsPart c x) is h in (g.0, g.1.1, allows_second c.profile (stmt_is_wide s) (stmts_are_wide ss) g.2)

pub arm_condition : (before c : Context) (all : TArmTrees) (e : TExprTree) (body : TStmtTrees) (spot : Spot) (arms : TArmTrees)
    → all ≡ and_tarm e body spot arms → c ≡ before → ArmsPart before all → ConditionPart c e
arm_condition before c all e body spot arms is same h =
    subst (λ x. ConditionPart x e) (sym same)
    (let g = subst (λ x. ArmsPart before x) is h in
    (g.1.0, g.1.1, (allows_three before.profile (expr_is_wide e) (stmts_are_wide body) (arms_are_wide arms) g.2).0))

pub arm_body : (before c : Context) (all : TArmTrees) (e : TExprTree) (inner body : TStmtTrees) (spot : Spot) (arms : TArmTrees)
    → all ≡ and_tarm e body spot arms → inner ≡ body → c ≡ before → ArmsPart before all → StmtsPart c inner
arm_body before c all e inner body spot arms is same_body same h =
    subst (λ x. StmtsPart x inner) (sym same)
    (subst (λ ss. StmtsPart before ss) (sym same_body)
    (let g = subst (λ x. ArmsPart before x) is h in
    (g.0, g.1.2, (allows_three before.profile (expr_is_wide e) (stmts_are_wide body) (arms_are_wide arms) g.2).1)))

-- the selector of CASE
pub case_selector : (c : Context) (s : TStmtTree) (e : TExprTree) (branches : TBranchTrees) (o : TOtherTree) (spot : Spot) → s ≡ case e branches o spot
    → StmtPart c s → IsExpr c.slots e × Allows c.profile (expr_is_wide e)
case_selector c s e branches o spot is h =
    let g = subst (λ x. StmtPart c x) is h in
    (g.1.0, (allows_three c.profile (expr_is_wide e) (branches_are_wide branches) (other_is_wide o) g.2).0)

pub arms_rest : (c : Context) (all : TArmTrees) (e : TExprTree) (body : TStmtTrees) (spot : Spot) (arms : TArmTrees) → all ≡ and_tarm e body spot arms
    → ArmsPart c all → ArmsPart c arms
arms_rest c all e body spot arms is h =
    let g = subst (λ x. ArmsPart c x) is h in
    (g.0, g.1.3, (allows_three c.profile (expr_is_wide e) (stmts_are_wide body) (arms_are_wide arms) g.2).2)

pub branch_labels : (before : Context) (t : Ty) (all : TBranchTrees) (read ls : List TLabel) (body : TStmtTrees) (branches : TBranchTrees)
    → all ≡ and_tbranch ls body branches → read ≡ ls → BranchesPart before t all → All (IsLabel t) read
branch_labels before t all read ls body branches is same h =
    subst (All (IsLabel t)) (sym same) (subst (λ x. BranchesPart before t x) is h).1.0

pub branch_body : (before c : Context) (t : Ty) (all : TBranchTrees) (ls : List TLabel) (inner body : TStmtTrees) (branches : TBranchTrees)
    → all ≡ and_tbranch ls body branches → inner ≡ body → c ≡ before → BranchesPart before t all → StmtsPart c inner
branch_body before c t all ls inner body branches is same_body same h =
    subst (λ x. StmtsPart x inner) (sym same)
    (subst (λ ss. StmtsPart before ss) (sym same_body)
    (let g = subst (λ x. BranchesPart before t x) is h in
    (g.0, g.1.1, allows_first before.profile (stmts_are_wide body) (branches_are_wide branches) g.2)))

pub branches_rest : (c : Context) (t : Ty) (all : TBranchTrees) (ls : List TLabel) (body : TStmtTrees) (branches : TBranchTrees)
    → all ≡ and_tbranch ls body branches → BranchesPart c t all → BranchesPart c t branches
branches_rest c t all ls body branches is h =
    let g = subst (λ x. BranchesPart c t x) is h in
    (g.0, g.1.2, allows_second c.profile (stmts_are_wide body) (branches_are_wide branches) g.2)

pub else_part : (before c : Context) (ss : TStmtTrees) (o : TOtherTree) → ss ≡ statements_of o → c ≡ before → OtherPart before o → StmtsPart c ss
else_part before c ss o is same h = subst (λ x. StmtsPart x ss) (sym same) (subst (λ x. StmtsPart before x) (sym is) (part o h))
  where
    part : (o : TOtherTree) → OtherPart before o → StmtsPart before (statements_of o)
    part no_tother h = (h.0, tt, h.2)
    part (tother body) h = h

pub else_size : (ss : TStmtTrees) (o : TOtherTree) → ss ≡ statements_of o → stmts_size ss ≡ other_size o
else_size ss no_tother is = ap stmts_size is
else_size ss (tother body) is = ap stmts_size is

pub else_lighter : (ss : TStmtTrees) (o : TOtherTree) → ss ≡ statements_of o → stmts_weight ss ≡ other_weight o
else_lighter ss no_tother is = ap stmts_weight is
else_lighter ss (tother body) is = ap stmts_weight is

else_does : (b c : State) (ts : List Turn) (ss : TStmtTrees) (o : TOtherTree) → ss ≡ statements_of o → Does b c (stmts_size ss) (do_stmts ts ss)
    → Does b c (other_size o) (do_other ts o)
else_does b c ts ss no_tother is d = subst (λ x. Does b c (stmts_size x) (do_stmts ts x)) is d
else_does b c ts ss (tother body) is d = subst (λ x. Does b c (stmts_size x) (do_stmts ts x)) is d

-- ---- how many operations and turn nodes the parts of a loop may add

-- an arm: before its body, its body, and all of it
pub arm_begins : (size most : ℕ) (all : TArmTrees) (e : TExprTree) (body : TStmtTrees) (spot : Spot) (arms : TArmTrees) (o : TOtherTree)
    → all ≡ and_tarm e body spot arms → size + (arms_size all + other_size o) ≤ most → size + (1 + expr_size e) ≤ most
arm_begins size most all e body spot arms o is fits = omega (arith, ap arms_size is, fits)

pub arm_inside : (size most : ℕ) (all : TArmTrees) (e : TExprTree) (inner body : TStmtTrees) (spot : Spot) (arms : TArmTrees) (o : TOtherTree)
    → all ≡ and_tarm e body spot arms → inner ≡ body → size + (arms_size all + other_size o) ≤ most → size + (expr_size e + 1) + stmts_size inner ≤ most
arm_inside size most all e inner body spot arms o is same fits = omega (arith, ap arms_size is, ap stmts_size same, fits)

pub arm_whole : (size most : ℕ) (all : TArmTrees) (e : TExprTree) (inner body : TStmtTrees) (spot : Spot) (arms : TArmTrees) (o : TOtherTree)
    → all ≡ and_tarm e body spot arms → inner ≡ body → size + (arms_size all + other_size o) ≤ most → size + (expr_size e + 1) + stmts_size inner + 2 ≤ most
arm_whole size most all e inner body spot arms o is same fits = omega (arith, ap arms_size is, ap stmts_size same, fits)

pub arm_nodes : (a b set : State) (size most : ℕ) (all : TArmTrees) (e : TExprTree) (inner body : TStmtTrees) (spot : Spot) (arms : TArmTrees) (o : TOtherTree)
    → all ≡ and_tarm e body spot arms → inner ≡ body → length set.graph.turn_nodes ≤ length b.graph.turn_nodes + 0
    → length b.graph.turn_nodes ≤ length a.graph.turn_nodes + size → size + (arms_size all + other_size o) ≤ most
    → length a.graph.turn_nodes + most ≤ most_turn_nodes → length set.graph.turn_nodes + stmts_size inner ≤ most_turn_nodes
arm_nodes a b set size most all e inner body spot arms o is same few more fits room = omega (arith, ap arms_size is, ap stmts_size same, few, more, fits, room)

-- a branch of CASE
pub branch_begins : (size most : ℕ) (all : TBranchTrees) (read ls : List TLabel) (body : TStmtTrees) (branches : TBranchTrees) (o : TOtherTree)
    → all ≡ and_tbranch ls body branches → read ≡ ls → size + (branches_size all + other_size o) ≤ most → size + (1 + sum_by label_size read) ≤ most
branch_begins size most all read ls body branches o is same fits = omega (arith, ap branches_size is, ap (sum_by label_size) same, fits)

pub branch_inside : (size most : ℕ) (all : TBranchTrees) (read ls : List TLabel) (inner body : TStmtTrees) (branches : TBranchTrees) (o : TOtherTree)
    → all ≡ and_tbranch ls body branches → read ≡ ls → inner ≡ body → size + (branches_size all + other_size o) ≤ most
    → size + (sum_by label_size read + 1) + stmts_size inner ≤ most
branch_inside size most all read ls inner body branches o is same same_body fits =
    omega (arith, ap branches_size is, ap (sum_by label_size) same, ap stmts_size same_body, fits)

pub branch_whole : (size most : ℕ) (all : TBranchTrees) (read ls : List TLabel) (inner body : TStmtTrees) (branches : TBranchTrees) (o : TOtherTree)
    → all ≡ and_tbranch ls body branches → read ≡ ls → inner ≡ body → size + (branches_size all + other_size o) ≤ most
    → size + (sum_by label_size read + 1) + stmts_size inner + 2 ≤ most
branch_whole size most all read ls inner body branches o is same same_body fits =
    omega (arith, ap branches_size is, ap (sum_by label_size) same, ap stmts_size same_body, fits)

pub branch_nodes : (a b set : State) (size most : ℕ) (all : TBranchTrees) (ls : List TLabel) (inner body : TStmtTrees) (branches : TBranchTrees) (o : TOtherTree)
    → all ≡ and_tbranch ls body branches → inner ≡ body → length set.graph.turn_nodes ≤ length b.graph.turn_nodes + 0
    → length b.graph.turn_nodes ≤ length a.graph.turn_nodes + size → size + (branches_size all + other_size o) ≤ most
    → length a.graph.turn_nodes + most ≤ most_turn_nodes → length set.graph.turn_nodes + stmts_size inner ≤ most_turn_nodes
branch_nodes a b set size most all ls inner body branches o is same few more fits room =
    omega (arith, ap branches_size is, ap stmts_size same, few, more, fits, room)

-- ELSE
pub else_fits : (before : ℕ) (ss : TStmtTrees) (o : TOtherTree) → ss ≡ statements_of o → stmts_size ss ≤ before + other_size o
else_fits before ss o is = omega (arith, else_size ss o is)

pub else_begins : (size before most : ℕ) (ss : TStmtTrees) (o : TOtherTree) → ss ≡ statements_of o → size + (before + other_size o) ≤ most
    → size + stmts_size ss ≤ most
else_begins size before most ss o is fits = omega (arith, else_size ss o is, fits)

-- CASE: its selector, and all of it
pub case_begins : (s : TStmtTree) (e : TExprTree) (branches : TBranchTrees) (o : TOtherTree) (spot : Spot) → s ≡ case e branches o spot
    → 0 + expr_size e ≤ stmt_size s
case_begins s e branches o spot is = omega (arith, ap stmt_size is)

pub case_fits : (s : TStmtTree) (e : TExprTree) (branches : TBranchTrees) (o : TOtherTree) (spot : Spot) → s ≡ case e branches o spot
    → expr_size e + rest_size branches o ≤ stmt_size s
case_fits s e branches o spot is = omega (arith, ap stmt_size is)

pub case_nodes : (a b : State) (s : TStmtTree) (e : TExprTree) (branches : TBranchTrees) (o : TOtherTree) (spot : Spot) → s ≡ case e branches o spot
    → b.graph.turn_nodes ≡ a.graph.turn_nodes → length a.graph.turn_nodes + stmt_size s ≤ most_turn_nodes
    → length b.graph.turn_nodes + rest_size branches o ≤ most_turn_nodes
case_nodes a b s e branches o spot is same room = omega (arith, ap stmt_size is, ap length same, room)

-- a statement
pub stmt_fits : (size most : ℕ) (all : TStmtTrees) (s : TStmtTree) (ss : TStmtTrees) → all ≡ and_tstmt s ss → size + stmts_size all ≤ most
    → size + stmt_size s ≤ most
stmt_fits size most all s ss is fits = omega (arith, ap stmts_size is, fits)

pub stmt_nodes : (a b : State) (size most : ℕ) (all : TStmtTrees) (s : TStmtTree) (ss : TStmtTrees) → all ≡ and_tstmt s ss
    → length b.graph.turn_nodes ≤ length a.graph.turn_nodes + size → size + stmts_size all ≤ most → length a.graph.turn_nodes + most ≤ most_turn_nodes
    → length b.graph.turn_nodes + stmt_size s ≤ most_turn_nodes
stmt_nodes a b size most all s ss is few fits room = omega (arith, ap stmts_size is, few, fits, room)

pub path_of : (s last : State) (p q : Option ℕ) → last ≡ record s { path = p } → p ≡ q → last.path ≡ q
path_of s last p q is e = ap (λ (x : State). x.path) is ∙ e

-- ---- the ends of loops

pub stmts_end : (a b : State) (ss : List TStmt) (i : ℕ) → length ss ≤ i →
    Done a b (stmts_size (tstmt_trees (drop i ss))) (stmts_size (tstmt_trees ss)) (do_stmts (turns_of a.graph a.turn) (tstmt_trees (drop i ss)))
    (do_stmts (turns_of a.graph a.turn) (tstmt_trees ss)) →
    Does a b (stmts_size (tstmt_trees ss)) (do_stmts (turns_of a.graph a.turn) (tstmt_trees ss))
stmts_end a b ss i le d =
    done_end a b (stmts_size (tstmt_trees (drop i ss))) (stmts_size (tstmt_trees ss)) (do_stmts (turns_of a.graph a.turn) (tstmt_trees (drop i ss)))
    (do_stmts (turns_of a.graph a.turn) (tstmt_trees ss)) d
    (λ m. ap (λ xs. do_stmts (turns_of a.graph a.turn) (tstmt_trees xs) m) (drop_past ss i le))

pub arms_end : Laws → (a b c last : State) (p : Option ℕ) (arms : List TArm) (i : ℕ) (ss : TStmtTrees) (other : TOtherTree) → ss ≡ statements_of other
    → length arms ≤ i → p ≡ a.path →
    Branched a b Any (arms_size (tarm_trees (drop i arms)) + other_size other) (arms_size (tarm_trees arms) + other_size other)
    (do_arms (turns_of a.graph a.turn) (tarm_trees (drop i arms)) (do_other (turns_of a.graph a.turn) other))
    (do_arms (turns_of a.graph a.turn) (tarm_trees arms) (do_other (turns_of a.graph a.turn) other)) →
    Does b c (stmts_size ss) (do_stmts (turns_of b.graph b.turn) ss) → last ≡ record c { path = p } →
    Does a last (arms_size (tarm_trees arms) + other_size other)
    (do_arms (turns_of a.graph a.turn) (tarm_trees arms) (do_other (turns_of a.graph a.turn) other))
arms_end laws a b c last p arms i ss other is_else le is_path d step is =
    subst (λ s. Does a s (arms_size (tarm_trees arms) + other_size other) (do_arms ts (tarm_trees arms) (do_other ts other))) (sym is)
    (record {
      path = is_path;
      moves = branched_end laws a b c p Any (arms_size (tarm_trees (drop i arms)) + other_size other) (arms_size (tarm_trees arms) + other_size other)
          (other_size other) (do_arms ts (tarm_trees (drop i arms)) (do_other ts other)) (do_arms ts (tarm_trees arms) (do_other ts other))
          (lasts_any a) is_path d
          (does_same b c (other_size other) (other_size other) (do_other ts other) (do_arms ts (tarm_trees (drop i arms)) (do_other ts other)) (omega arith)
          (λ m. ap (λ xs. do_arms ts (tarm_trees xs) (do_other ts other) m) (sym (drop_past arms i le)))
          (subst (λ us. Does b c (other_size other) (do_other us other)) (branched_turns a b Any _ _ _ _ d) (else_does b c (turns_of b.graph b.turn) ss other is_else step))) (omega arith);
    })
  where
    ts : List Turn
    ts = turns_of a.graph a.turn

pub branches_end : Laws → (a b c last : State) (t : Ty) (k : ℕ) (p : Option ℕ) (branches : List TBranch) (i : ℕ) (ss : TStmtTrees) (other : TOtherTree)
    → ss ≡ statements_of other → length branches ≤ i → p ≡ a.path → IsA t a.graph.operations k → (v : ℤ) →
    Branched a b (λ vs. at vs k ≡ v) (branches_size (tbranch_trees (drop i branches)) + other_size other)
    (branches_size (tbranch_trees branches) + other_size other)
    (do_branches (turns_of a.graph a.turn) v (tbranch_trees (drop i branches)) (do_other (turns_of a.graph a.turn) other))
    (do_branches (turns_of a.graph a.turn) v (tbranch_trees branches) (do_other (turns_of a.graph a.turn) other)) →
    Does b c (stmts_size ss) (do_stmts (turns_of b.graph b.turn) ss) → last ≡ record c { path = p } →
    Moves a last (λ vs. at vs k ≡ v) (branches_size (tbranch_trees branches) + other_size other)
    (where_reached (do_branches (turns_of a.graph a.turn) v (tbranch_trees branches) (do_other (turns_of a.graph a.turn) other)))
branches_end laws a b c last t k p branches i ss other is_else le is_path hk v d step is =
    subst (λ s. Moves a s (λ vs. at vs k ≡ v) (branches_size (tbranch_trees branches) + other_size other)
    (where_reached (do_branches ts v (tbranch_trees branches) (do_other ts other)))) (sym is)
    (branched_end laws a b c p (λ vs. at vs k ≡ v) (branches_size (tbranch_trees (drop i branches)) + other_size other)
    (branches_size (tbranch_trees branches) + other_size other) (other_size other) (do_branches ts v (tbranch_trees (drop i branches)) (do_other ts other))
    (do_branches ts v (tbranch_trees branches) (do_other ts other)) (lasts_at laws a t k v hk) is_path d
    (does_same b c (other_size other) (other_size other) (do_other ts other) (do_branches ts v (tbranch_trees (drop i branches)) (do_other ts other))
    (omega arith) (λ m. ap (λ xs. do_branches ts v (tbranch_trees xs) (do_other ts other) m) (sym (drop_past branches i le)))
    (subst (λ us. Does b c (other_size other) (do_other us other)) (branched_turns a b (λ vs. at vs k ≡ v) _ _ _ _ d) (else_does b c (turns_of b.graph b.turn) ss other is_else step))) (omega arith))
  where
    ts : List Turn
    ts = turns_of a.graph a.turn

-- ---- a branch of CASE

-- without labels it is never taken
pub untaken : (a : State) (k n : ℕ) (ls : List TLabel) (more : Bool) (body : List ℤ → Result (List ℤ) Stop) → IsState a → length ls ≡ 0 → (v : ℤ)
    → Moves a a (λ vs. at vs k ≡ v) n (branch_of more (truth (list_any (is_labelled v) ls)) body)
untaken a k n [] more body i e v =
    moves_same a a (λ vs. at vs k ≡ v) (λ vs. at vs k ≡ v) 0 n (λ b m. Ok (here b m)) (branch_of more (truth false) body) (omega arith) (λ vs h. h)
    (λ vs now h. same_thing (active a.path vs) now) (moves_nothing a (λ vs. at vs k ≡ v) i)
  where
    same_thing : (b : Bool) (m : List ℤ) → Ok (here b m) ≡ branch_of more (truth false) body b m
    same_thing true m = refl
    same_thing false m = refl
untaken a k n (l ∷ ls) more body i e v = absurd (omega (arith, e))

pub case_branch_done : Laws → (a set s3 c : State) (t : Ty) (k : ℕ) (v : ℤ) (read ls : List TLabel) (branch : Entered) (more : Bool) (inner body : TStmtTrees)
    → read ≡ ls → inner ≡ body → IsA t a.graph.operations k → EntersLabelled a set k read branch
    → Does set s3 (stmts_size inner) (do_stmts (turns_of set.graph set.turn) inner) → Exits more s3 c branch →
    Moves a c (λ vs. at vs k ≡ v) (3 + sum_by label_size ls + stmts_size body)
    (branch_of more (truth (list_any (is_labelled v) ls)) (do_stmts (turns_of a.graph a.turn) body))
case_branch_done laws a set s3 c t k v read ls branch more inner body is_ls is_body hk f d next =
    moves_same a c (λ vs. at vs k ≡ v) (λ vs. at vs k ≡ v) (sum_by label_size ls + (3 + stmts_size body)) (3 + sum_by label_size ls + stmts_size body)
    (branch_of more (truth (list_any (is_labelled v) ls)) (do_stmts ts body)) (branch_of more (truth (list_any (is_labelled v) ls)) (do_stmts ts body))
    (omega arith) (λ vs h. h) (λ vs now h. refl)
    (labels_moves laws a f.0 c t k f.1 (sum_by label_size ls) (3 + stmts_size body) v ls more (do_stmts ts body) hk
    (subst (λ xs. Makes a f.0 ty.Bool (sum_by label_size xs) (any_labelled k xs) f.1) is_ls f.2)
    (λ x. subst (λ ss. Moves f.0 c (λ vs. at vs f.1 ≡ x) (3 + stmts_size ss) (branch_of more x (do_stmts ts ss))) is_body
    (subst (λ us. Moves f.0 c (λ vs. at vs f.1 ≡ x) (3 + stmts_size inner) (branch_of more x (do_stmts us inner)))
    (same_turns a f.0 (follows_continues a f.0 f.2.follows)) (branch_moves laws f.0 set s3 c f.1 more branch inner f.3 d next x))))
  where
    ts : List Turn
    ts = turns_of a.graph a.turn

-- ---- FOR

pub turn_done : Laws → (s0 s2 s3 last : State) (slot outer : ℕ) (v w : ℤ) (ss : TStmtTrees) → w ≡ v → outer ≡ s0.turn → EntersTurn s0 s2 slot w
    → Does s2 s3 (stmts_size ss) (do_stmts (turns_of s2.graph s2.turn) ss) → last ≡ record s3 { turn = outer } →
    Does s0 last (2 + stmts_size ss) (turn slot (λ x. do_stmts (turns_of s0.graph s0.turn ++ record { name = slot; value = x } ∷ []) ss) v)
turn_done laws s0 s2 s3 last slot outer v w ss is_value is_outer entered d is_last =
    subst (λ s. Does s0 s (2 + stmts_size ss) (does v)) (sym is_last)
    (subst (λ o. Does s0 (record s3 { turn = o }) (2 + stmts_size ss) (does v)) (sym is_outer)
    (subst (λ x. Does s0 (record s3 { turn = s0.turn }) (2 + stmts_size ss) (does x)) is_value
    (nested s0 entered.nested s3 node entered.n (2 + stmts_size ss) (does w) entered.nests
    (does_then laws inside s2 s3 2 (stmts_size ss) (setting slot w) (do_stmts (turns_of s0.graph s0.turn ++ record { name = slot; value = w } ∷ []) ss)
    entered.sets.does
    (subst (λ ts. Does s2 s3 (stmts_size ss) (do_stmts ts ss))
    (same_turns inside s2 (does_continues inside s2 2 (setting slot w) entered.sets.does) ∙ entered.nests.here) d))
    (omega (
      arith,
      d.moves.few,
      ap length entered.sets.nodes,
      ap (λ (s : State). length s.graph.turn_nodes) entered.nests.is,
      length-append s0.graph.turn_nodes (node ∷ []),
    )))))
  where
    does : ℤ → List ℤ → Result (List ℤ) Stop
    does x = turn slot (λ y. do_stmts (turns_of s0.graph s0.turn ++ record { name = slot; value = y } ∷ []) ss) x

    node : TurnNode
    node = record { parent = s0.turn; name = slot; value = w }

    inside : State
    inside = record entered.nested { turn = entered.n }

pub for_size : (slot : ℕ) (first by : ℤ) (n : ℕ) (body : TStmtTrees) (spot : Spot) → (n ≡ 0 → ⊥)
    → stmt_size (for_ slot first by n body spot) ≡ n * (2 + stmts_size body)
for_size slot first by zero body spot some = absurd (some refl)
for_size slot first by (suc n) body spot some = refl

some_same : (a b : Slot) → Some a ≡ Some b → a ≡ b
some_same a b e = cc

pub for_values : (c : Context) (slot : ℕ) (first by : ℤ) (n : ℕ) (body : TStmtTrees) (spot : Spot) → StmtPart c (for_ slot first by n body spot) → (x : Slot)
    → slice_get c.slots slot ≡ Some x → AreTurns x.ty n first by
for_values c slot first by n body spot h x e =
    let may = h.1.1 in
    let is : may.of ≡ x = some_same may.of x (sym may.there ∙ e) in
    subst (λ t. AreTurns t n first by) (sym may.ty ∙ ap (λ (y : Slot). y.ty) is) h.1.4

-- the first value
pub for_first : (c : Context) (slot : ℕ) (first by : ℤ) (n : ℕ) (body : TStmtTrees) (spot : Spot) → StmtPart c (for_ slot first by n body spot) → (x : Slot)
    → slice_get c.slots slot ≡ Some x → fits x.ty first ≡ true
for_first c slot first by n body spot h x e =
    let may = h.1.1 in
    let is : may.of ≡ x = some_same may.of x (sym may.there ∙ e) in
    subst (λ t. fits t first ≡ true) (sym may.ty ∙ ap (λ (y : Slot). y.ty) is) h.1.3

pub for_slot : (c : Context) (slot : ℕ) (first by : ℤ) (n : ℕ) (body : TStmtTrees) (spot : Spot) → StmtPart c (for_ slot first by n body spot)
    → slot < length c.slots
for_slot c slot first by n body spot h = slice_get_within c.slots slot h.1.1.of h.1.1.there

pub for_body : (before c : Context) (slot : ℕ) (first by : ℤ) (n : ℕ) (body : TStmtTrees) (spot : Spot) → c ≡ before
    → StmtPart before (for_ slot first by n body spot) → StmtsPart c body
for_body before c slot first by n body spot same h = subst (λ x. StmtsPart x body) (sym same) (h.0 ++ slot ∷ [], h.1.5, h.2)

pub turns_start : (a : State) (slot : ℕ) (by v : ℤ) (body : ℤ → List ℤ → Result (List ℤ) Stop) (n k each : ℕ) → k ≡ n → IsState a
    → Done a a (k * each) (n * each) (turns_from slot by body k v) (turns_from slot by body n v)
turns_start a slot by v body n k each e i =
    subst (λ j. Done a a (j * each) (n * each) (turns_from slot by body j v) (turns_from slot by body n v)) (sym e)
    (done_start a (n * each) (turns_from slot by body n v) i)

pub next_from : (slot : ℕ) (by v w : ℤ) (body : ℤ → List ℤ → Result (List ℤ) Stop) (n k : ℕ) → n ≡ suc k → (0 < k → w ≡ v +ℤ by) → (m : List ℤ)
    → and_then (turn slot body v m) (turns_from slot by body k w) ≡ turns_from slot by body n v m
next_from slot by v w body n k e is m = ap (λ f. and_then (turn slot body v m) f) (same_rest k is) ∙ ap (λ j. turns_from slot by body j v m) (sym e)
  where
    same_rest : (j : ℕ) → (0 < j → w ≡ v +ℤ by) → turns_from slot by body j w ≡ (λ next. turns_from slot by body j (v +ℤ by) next)
    same_rest zero h = refl
    same_rest (suc j) h = ap (λ x. turns_from slot by body (suc j) x) (h (omega arith))

pub turns_step : Laws → (a b c : State) (slot : ℕ) (by v w : ℤ) (ss : TStmtTrees) (most n k : ℕ) (whole : List ℤ → Result (List ℤ) Stop) → n ≡ suc k
    → (0 < k → w ≡ v +ℤ by) →
    Done a b (n * (2 + stmts_size ss)) most
    (turns_from slot by (λ x. do_stmts (turns_of a.graph a.turn ++ record { name = slot; value = x } ∷ []) ss) n v) whole →
    Does b c (2 + stmts_size ss) (turn slot (λ x. do_stmts (turns_of b.graph b.turn ++ record { name = slot; value = x } ∷ []) ss) v) →
    Done a c (k * (2 + stmts_size ss)) most
    (turns_from slot by (λ x. do_stmts (turns_of a.graph a.turn ++ record { name = slot; value = x } ∷ []) ss) k w) whole
turns_step laws a b c slot by v w ss most n k whole e is d step =
    done_step laws a b c (2 + stmts_size ss) (n * (2 + stmts_size ss)) (k * (2 + stmts_size ss)) most (turn slot body v) (turns_from slot by body n v)
    (turns_from slot by body k w) whole d
    (subst (λ ts. Does b c (2 + stmts_size ss) (turn slot (λ x. do_stmts (ts ++ record { name = slot; value = x } ∷ []) ss) v))
    (same_turns a b (does_continues a b d.size d.doing d.does)) step)
    (turn_fits n k (2 + stmts_size ss) e) (next_from slot by v w body n k e is)
  where
    body : ℤ → List ℤ → Result (List ℤ) Stop
    body x = do_stmts (turns_of a.graph a.turn ++ record { name = slot; value = x } ∷ []) ss

    turn_fits : (n k each : ℕ) → n ≡ suc k → each + k * each ≤ n * each
    turn_fits n k each e = subst (λ j. each + k * each ≤ j * each) (sym e) (omega arith)

pub turns_end : (a b : State) (slot : ℕ) (first by first1 by1 v : ℤ) (n k : ℕ) (ss : TStmtTrees) (spot : Spot) → (n ≡ 0 → ⊥) → k ≡ 0 → first1 ≡ first → by1 ≡ by
    →
    Done a b (k * (2 + stmts_size ss)) (n * (2 + stmts_size ss))
    (turns_from slot by1 (λ x. do_stmts (turns_of a.graph a.turn ++ record { name = slot; value = x } ∷ []) ss) k v)
    (turns_from slot by1 (λ x. do_stmts (turns_of a.graph a.turn ++ record { name = slot; value = x } ∷ []) ss) n first1) →
    Does a b (stmt_size (for_ slot first by n ss spot)) (do_stmt (turns_of a.graph a.turn) (for_ slot first by n ss spot))
turns_end a b slot first by first1 by1 v n k ss spot some none is_first is_by d =
    does_same a b (n * (2 + stmts_size ss)) (stmt_size (for_ slot first by n ss spot)) (turns_from slot by1 body n first1)
    (do_stmt (turns_of a.graph a.turn) (for_ slot first by n ss spot)) (omega (arith, for_size slot first by n ss spot some))
    (λ m. ap₂ (λ x y. turns_from slot x body n y m) is_by is_first ∙ whole n some m)
    (done_end a b (k * (2 + stmts_size ss)) (n * (2 + stmts_size ss)) (turns_from slot by1 body k v) (turns_from slot by1 body n first1) d
    (λ m. ap (λ j. turns_from slot by1 body j v m) none))
  where
    body : ℤ → List ℤ → Result (List ℤ) Stop
    body x = do_stmts (turns_of a.graph a.turn ++ record { name = slot; value = x } ∷ []) ss

    whole : (n : ℕ) → (n ≡ 0 → ⊥) → (m : List ℤ) → turns_from slot by body n first m ≡ do_stmt (turns_of a.graph a.turn) (for_ slot first by n ss spot) m
    whole zero some m = absurd (some refl)
    whole (suc n) some m = refl

-- the values of turns have 64 bits, and so has the next one
pub fits_width : (t : Ty) (v : ℤ) → fits t v ≡ true → SFits w64 v
fits_width ty.Bool v h = grind (arith, h)
fits_width ty.Int v h = grind (arith, h)
fits_width ty.Dint v h = grind (arith, h)
fits_width ty.Lint v h = grind (arith, h)

pub next_width : (t : Ty) (v by : ℤ) (n k : ℕ) → n ≡ suc (suc k) → AreTurns t n v by → SFits w64 (v +ℤ by)
next_width t v by n k e h = fits_width t (v +ℤ by) (subst (λ j. AreTurns t j v by) e h).1.0

pub next_values : (t : Ty) (v w by : ℤ) (n k : ℕ) → n ≡ suc k → (0 < k → w ≡ v +ℤ by) → AreTurns t n v by → AreTurns t k w by
next_values t v w by n k e is h = go k is (subst (λ j. AreTurns t j v by) e h).1
  where
    go : (j : ℕ) → (0 < j → w ≡ v +ℤ by) → AreTurns t j (v +ℤ by) by → AreTurns t j w by
    go zero is h = tt
    go (suc j) is h = subst (λ x. AreTurns t (suc j) x by) (sym (is (omega arith))) h

pub first_fits : (t : Ty) (v by : ℤ) (n k : ℕ) → n ≡ suc k → AreTurns t n v by → fits t v ≡ true
first_fits t v by n k e h = (subst (λ j. AreTurns t j v by) e h).0

turn_left : (n k each size most : ℕ) → n ≡ suc k → size + n * each ≤ most → size + each ≤ most
turn_left n k each size most e fit =
    let h : size + suc k * each ≤ most = subst (λ j. size + j * each ≤ most) e fit in
    omega (arith, h)

-- operations and turn nodes of a turn: before its body, and its body
pub turn_begins : (body n k size most whole : ℕ) → n ≡ suc k → size + n * (2 + body) ≤ most → whole ≡ most → size + 2 ≤ whole
turn_begins body n k size most whole e fit is = omega (arith, turn_left n k (2 + body) size most e fit, is)

pub turn_inside : (body n k size most whole : ℕ) → n ≡ suc k → size + n * (2 + body) ≤ most → whole ≡ most → size + 2 + body ≤ whole
turn_inside body n k size most whole e fit is = omega (arith, turn_left n k (2 + body) size most e fit, is)

pub turn_enters : (body n k nodes size most whole : ℕ) → n ≡ suc k → size + n * (2 + body) ≤ most → whole ≡ most → nodes + whole ≤ most_turn_nodes
    → (now : ℕ) → now ≤ nodes + size → now < most_turn_nodes
turn_enters body n k nodes size most whole e fit is room now few = omega (arith, turn_left n k (2 + body) size most e fit, is, room, few)

pub turn_body : (body n k nodes size most whole : ℕ) → n ≡ suc k → size + n * (2 + body) ≤ most → whole ≡ most → nodes + whole ≤ most_turn_nodes
    → (now inside : ℕ) → now ≤ nodes + size → inside ≤ now + 1 → inside + body ≤ most_turn_nodes
turn_body body n k nodes size most whole e fit is room now inside few one = omega (arith, turn_left n k (2 + body) size most e fit, is, room, few, one)

-- the tree of a statement
pub stmt_does : (a b : State) (ts : List Turn) (s tree : TStmtTree) (f : List ℤ → Result (List ℤ) Stop) → s ≡ tree → ((m : List ℤ) → f m ≡ do_stmt ts tree m)
    → Does a b (stmt_size tree) f → Does a b (stmt_size s) (do_stmt ts s)
stmt_does a b ts s tree f is same_thing d =
    subst (λ x. Does a b (stmt_size x) (do_stmt ts x)) (sym is) (does_same a b (stmt_size tree) (stmt_size tree) f (do_stmt ts tree) (omega arith) same_thing d)

pub turns_at : (t : Ty) (v w by to : ℤ) (n k : ℕ) → k ≡ n → w ≡ v → to ≡ by → AreTurns t n v by → AreTurns t k w to
turns_at t v w by to n k e f g h = subst (λ j. AreTurns t j w to) (sym e) (subst (λ x. AreTurns t n x to) (sym f) (subst (λ y. AreTurns t n v y) (sym g) h))

-- ---- what an assignment requires

pub assignment_value : (c : Context) (s : TStmtTree) (slot : ℕ) (e : TExprTree) (sp : Spot) → s ≡ assign slot e sp → StmtPart c s → IsExpr c.slots e
assignment_value c s slot e sp is h = (subst (StmtPart c) is h).1.1

pub assignment_code : (c : Context) (s : TStmtTree) (slot : ℕ) (e : TExprTree) (sp : Spot) → s ≡ assign slot e sp → StmtPart c s
    → Allows c.profile (expr_is_wide e)
assignment_code c s slot e sp is h = (subst (StmtPart c) is h).2

pub assignment_slot : (c : Context) (s : TStmtTree) (slot : ℕ) (e : TExprTree) (sp : Spot) → s ≡ assign slot e sp → StmtPart c s → slot < length c.slots
assignment_slot c s slot e sp is h =
    let set = (subst (StmtPart c) is h).1.0 in slice_get_within c.slots slot set.of set.there

pub assignment_fits : (c : Context) (s : TStmtTree) (slot : ℕ) (e : TExprTree) (sp : Spot) → s ≡ assign slot e sp → StmtPart c s
    → (x : Slot) → slice_get c.slots slot ≡ Some x → x.ty ≡ ty_of e
assignment_fits c s slot e sp is h x there =
    let set = (subst (StmtPart c) is h).1.0 in
    let same : Some set.of ≡ Some x = sym set.there ∙ there in
    let one : x ≡ set.of = cc in
    ap (λ (y : Slot). y.ty) one ∙ set.ty

-- ---- a branch with labels

pub some_labels : (len : ℕ) (labels items : List TLabel) → len ≡ length items → eqb len 0 ≡ false → labels ≡ items → 0 < length labels
some_labels zero labels items all some is = absurd cc
some_labels (suc n) labels items all some is = omega (arith, all, ap length is)
