-- An item of a list weighs less than the list.
use Rattle.std.proofs.Common.{◌≡◌, ℕ, zero, suc, ◌<◌, List, [], ◌∷◌, length, get_or, ap, arith}
use Rattle.st_tree.specs.declared.stmt.Stmt.{Stmt}
use Rattle.st_tree.specs.declared.stmt.Arm.{Arm}
use Rattle.st_tree.specs.declared.stmt.Branch.{Branch}
use Rattle.st_tree.specs.StmtViews.{stmt_tree, stmt_trees, arm_trees, branch_trees}
use Rattle.st_types.proofs.Weight.{stmt_weight, stmts_weight, arms_weight, branches_weight}

pub stmt-lighter : (ss : List Stmt) (i : ℕ) (s : Stmt) → i < length ss → s ≡ get_or ss i s → stmt_weight (stmt_tree s) < stmts_weight (stmt_trees ss)
stmt-lighter [] i s lt is = absurd (omega (arith, lt))
stmt-lighter (x ∷ xs) zero s lt is = let same : stmt_weight (stmt_tree s) ≡ stmt_weight (stmt_tree x) = ap (λ y. stmt_weight (stmt_tree y)) is in
    omega (arith, same)
stmt-lighter (x ∷ xs) (suc i) s lt is =
    let k : i < length xs = omega (arith, lt) in
    let h : stmt_weight (stmt_tree s) < stmts_weight (stmt_trees xs) = stmt-lighter xs i s k is in
    omega (arith, h)

pub arm-lighter : (arms : List Arm) (i : ℕ) (a : Arm) → i < length arms → a ≡ get_or arms i a
    → stmts_weight (stmt_trees a.body.items.items) < arms_weight (arm_trees arms)
arm-lighter [] i a lt is = absurd (omega (arith, lt))
arm-lighter (x ∷ xs) zero a lt is =
    let same : stmts_weight (stmt_trees a.body.items.items) ≡ stmts_weight (stmt_trees x.body.items.items) =
    ap (λ (y : Arm). stmts_weight (stmt_trees y.body.items.items)) is in
    omega (arith, same)
arm-lighter (x ∷ xs) (suc i) a lt is =
    let k : i < length xs = omega (arith, lt) in
    let h : stmts_weight (stmt_trees a.body.items.items) < arms_weight (arm_trees xs) = arm-lighter xs i a k is in
    omega (arith, h)

pub branch-lighter : (branches : List Branch) (i : ℕ) (b : Branch) → i < length branches → b ≡ get_or branches i b
    → stmts_weight (stmt_trees b.body.items.items) < branches_weight (branch_trees branches)
branch-lighter [] i b lt is = absurd (omega (arith, lt))
branch-lighter (x ∷ xs) zero b lt is =
    let same : stmts_weight (stmt_trees b.body.items.items) ≡ stmts_weight (stmt_trees x.body.items.items) =
    ap (λ (y : Branch). stmts_weight (stmt_trees y.body.items.items)) is in
    omega (arith, same)
branch-lighter (x ∷ xs) (suc i) b lt is =
    let k : i < length xs = omega (arith, lt) in
    let h : stmts_weight (stmt_trees b.body.items.items) < branches_weight (branch_trees xs) = branch-lighter xs i b k is in
    omega (arith, h)
