-- Appends: lists of trees, and placed tokens, one behind the other.
use Rattle.std.proofs.Common.{◌≡◌, ℕ, List, [], ◌∷◌, ◌++◌, refl, ap, ◌∙◌, append_assoc}
use Rattle.std.proofs.lemmas.List.{map-append}
use Rattle.vcp_base.specs.declared.spot.Spot.{Spot}
use Rattle.st_lexer.specs.declared.token.Token.{Token}
use Rattle.st_tree.specs.ExprTree.{ExprTree}
use Rattle.st_tree.specs.StmtTree.{LabelTree, StmtTree, StmtTrees, ArmTrees, BranchTrees, no_stmts, and_stmt, no_arms, and_arm, no_branches, and_branch}
use Rattle.st_tree.specs.Appended.{stmts_and, arms_and, branches_and}
use Rattle.st_tree.specs.Placed.{Placed, tokens_of, Within}

-- ---- trees

abbrev pub append_stmts : StmtTrees → StmtTrees → StmtTrees
append_stmts no_stmts more = more
append_stmts (and_stmt s ss) more = and_stmt s (append_stmts ss more)

pub stmts-none : (ss : StmtTrees) → append_stmts ss no_stmts ≡ ss
stmts-none no_stmts = refl
stmts-none (and_stmt s ss) = ap (λ (x : StmtTrees). and_stmt s x) (stmts-none ss)

-- one more, and then the rest
pub stmts-next : (ss : StmtTrees) (s : StmtTree) (more : StmtTrees) → append_stmts (stmts_and ss s) more ≡ append_stmts ss (and_stmt s more)
stmts-next no_stmts s more = refl
stmts-next (and_stmt x xs) s more = ap (λ (y : StmtTrees). and_stmt x y) (stmts-next xs s more)

abbrev pub append_arms : ArmTrees → ArmTrees → ArmTrees
append_arms no_arms more = more
append_arms (and_arm e body s arms) more = and_arm e body s (append_arms arms more)

pub arms-none : (arms : ArmTrees) → append_arms arms no_arms ≡ arms
arms-none no_arms = refl
arms-none (and_arm e body s arms) = ap (λ (x : ArmTrees). and_arm e body s x) (arms-none arms)

pub arms-next : (arms : ArmTrees) (e : ExprTree) (body : StmtTrees) (s : Spot) (more : ArmTrees)
    → append_arms (arms_and arms e body s) more ≡ append_arms arms (and_arm e body s more)
arms-next no_arms e body s more = refl
arms-next (and_arm d other_body r arms) e body s more = ap (λ (x : ArmTrees). and_arm d other_body r x) (arms-next arms e body s more)

abbrev pub append_branches : BranchTrees → BranchTrees → BranchTrees
append_branches no_branches more = more
append_branches (and_branch ls body branches) more = and_branch ls body (append_branches branches more)

pub branches-none : (branches : BranchTrees) → append_branches branches no_branches ≡ branches
branches-none no_branches = refl
branches-none (and_branch ls body branches) = ap (λ (x : BranchTrees). and_branch ls body x) (branches-none branches)

pub branches-next : (branches : BranchTrees) (ls : List LabelTree) (body : StmtTrees) (more : BranchTrees)
    → append_branches (branches_and branches ls body) more ≡ append_branches branches (and_branch ls body more)
branches-next no_branches ls body more = refl
branches-next (and_branch ms other_body branches) ls body more = ap (λ (x : BranchTrees). and_branch ms other_body x) (branches-next branches ls body more)

-- ---- placed tokens

pub tokens-append : (ps qs : List Placed) (rest : List Token) → tokens_of (ps ++ qs) ++ rest ≡ tokens_of ps ++ (tokens_of qs ++ rest)
tokens-append ps qs rest = ap (λ (x : List Token). x ++ rest) (map-append (λ (p : Placed). p.token) ps qs) ∙ append_assoc (tokens_of ps) (tokens_of qs) rest

pub within-front : (limit : ℕ) (ps qs : List Placed) → Within limit (ps ++ qs) → Within limit ps
within-front limit [] qs w = tt
within-front limit (p ∷ ps) qs w = (w.0, within-front limit ps qs w.1)

pub within-back : (limit : ℕ) (ps qs : List Placed) → Within limit (ps ++ qs) → Within limit qs
within-back limit [] qs w = w
within-back limit (p ∷ ps) qs w = within-back limit ps qs w.1
