use Rattle.std.proofs.Common.{◌∷◌, [], suc, refl, sym, ap}
use Rattle.st_lexer.specs.declared.token.Key.TheVariants as keys
use Rattle.st_lexer.specs.declared.token.Sym.TheVariants as symbols
use Rattle.st_tree.specs.StmtViews.{stmt_trees, label_trees, other_tree}
use Rattle.st_writer.specs.CanonicalStmt as canonical
use Rattle.st_writer.specs.Adds.{arm_key}
use Rattle.st_writer.specs.Lexemes as lexeme
use Rattle.st_writer.proofs.Added.{and_then, nothing, same, at_level, head_ends}
use Rattle.st_writer.proofs.Lists.{all, turn, ends}
use Rattle.st_writer.proofs.Stmts.{stmt_at, stmts-are, arm_at, arms-are, branch_at, branches-are, tree-if, tree-case, tree-for}
use Rattle.st_writer.proofs.writer.Writer.+stmt.Goals as goal

pub stmts-loop-i-init : goal.stmts-loop-i-init
stmts-loop-i-init t c = nothing

pub stmts-loop-i-preserved : goal.stmts-loop-i-preserved
stmts-loop-i-preserved t c =
    turn (stmt_at c.deeper-level.result) c.args.stmts.now c.loop-i.i c.index-stmts-i.result c.loop-i-test.true (sym c.index-stmts-i.is) c.loop-i.invariant
    c.stmt-self.ensures

pub stmts-returns : goal.stmts-returns
stmts-returns t c =
    and_then c.deeper-level.ensures.adds (at_level (suc c.args.outer) (λ n. canonical.stmts n (stmt_trees c.args.stmts.now)) c.deeper-level.ensures.level
    (ends (stmt_at c.deeper-level.result) c.args.stmts.now c.loop-i.i _ (stmts-are _ c.args.stmts.now) c.loop-i-test.false c.loop-i.invariant))

pub arms-loop-i-init : goal.arms-loop-i-init
arms-loop-i-init t c = nothing

pub arms-loop-i-preserved : goal.arms-loop-i-preserved
arms-loop-i-preserved t c =
    turn (arm_at c.args.level) c.args.arms.now c.loop-i.i c.index-arms-i.result c.loop-i-test.true (sym c.index-arms-i.is) c.loop-i.invariant c.arm-self.ensures

pub arms-returns : goal.arms-returns
arms-returns t c =
    ends (arm_at c.args.level) c.args.arms.now c.loop-i.i _ (arms-are c.args.level c.args.arms.now) c.loop-i-test.false c.loop-i.invariant

pub arm-returns : goal.arm-returns
arm-returns t c =
    and_then (c.head.ensures (lexeme.word (arm_key c.args.i) ∷ lexeme.blank ∷ []) (lexeme.blank ∷ lexeme.word keys.Then ∷ []) (sym c.arm_text.ensures) refl)
    (same (ap (λ x. canonical.stmts (suc c.args.level) (stmt_trees x)) c.deref.ensures.value) c.stmts.ensures)

pub branches-loop-i-init : goal.branches-loop-i-init
branches-loop-i-init t c = nothing

pub branches-loop-i-preserved : goal.branches-loop-i-preserved
branches-loop-i-preserved t c =
    turn (branch_at c.deeper-inner.result) c.args.branches.now c.loop-i.i c.index-branches-i.result c.loop-i-test.true (sym c.index-branches-i.is)
    c.loop-i.invariant c.branch-self.ensures

pub branches-returns : goal.branches-returns
branches-returns t c =
    and_then c.deeper-inner.ensures.adds (same (branches-are c.args.level c.args.branches.now)
    (at_level (suc c.args.level) (λ n. all (branch_at n) c.args.branches.now) c.deeper-inner.ensures.level
    (ends (branch_at c.deeper-inner.result) c.args.branches.now c.loop-i.i _ refl c.loop-i-test.false c.loop-i.invariant)))

pub branch-returns : goal.branch-returns
branch-returns t c =
    let colon = lexeme.symbol symbols.Colon ∷ [] in
    and_then (head_ends (lexeme.indent c.args.level) [] (canonical.labels (label_trees c.args.branch.now.labels.items.items)) colon
    (and_then c.indent.ensures (and_then (same (ap (λ x. canonical.labels (label_trees x)) c.deref.ensures.value) c.labels.ensures)
    (c.put.ensures (lexeme.symbol symbols.Colon ∷ lexeme.line_end ∷ []) refl))))
    (same (ap (λ x. canonical.stmts (suc c.args.level) (stmt_trees x)) c.deref-2.ensures.value) c.stmts.ensures)

pub other-returns-in-Some : goal.other-returns-in-Some
other-returns-in-Some t c =
    same (ap (λ o. canonical.else_of c.args.level (other_tree o)) (sym c.in-Some.is))
    (and_then (c.line.ensures (lexeme.word keys.Else ∷ []) refl)
    (same (ap (λ x. canonical.stmts (suc c.args.level) (stmt_trees x)) c.deref.ensures.value) c.stmts.ensures))

pub stmt-returns-in-If : goal.stmt-returns-in-If
stmt-returns-in-If t c =
    let s = c.in-If in
    same (ap (canonical.stmt c.args.level)
    (sym (tree-if c.args.s.now s.arms s.other c.deref.result.now (c.trees_of_nodes.ensures.if_ _ _) s.is c.deref.ensures.value)))
    (and_then c.arms.ensures (and_then c.other.ensures (c.line.ensures (lexeme.word keys.EndIf ∷ lexeme.symbol symbols.Semi ∷ []) refl)))

pub stmt-returns-in-Case : goal.stmt-returns-in-Case
stmt-returns-in-Case t c =
    let s = c.in-Case in
    same (ap (canonical.stmt c.args.level)
    (sym (tree-case c.args.s.now s.on s.branches s.other s.spot c.deref-in-Case.result.now (c.trees_of_nodes.ensures.case _ _ _ _) s.is
    c.deref-in-Case.ensures.value)))
    (and_then (c.head.ensures (lexeme.word keys.Case ∷ lexeme.blank ∷ []) (lexeme.blank ∷ lexeme.word keys.Of ∷ []) refl refl)
    (and_then c.branches.ensures (and_then c.other-in-Case.ensures
    (c.line-in-Case.ensures (lexeme.word keys.EndCase ∷ lexeme.symbol symbols.Semi ∷ []) refl))))

pub stmt-returns-in-For : goal.stmt-returns-in-For
stmt-returns-in-For t c =
    let s = c.in-For in
    same (ap (canonical.stmt c.args.level)
    (sym (tree-for c.args.s.now s.name s.name_spot s.first s.last s.by s.body s.spot c.deref-in-For.result.now (c.trees_of_nodes.ensures.for_ _ _ _ _ _ _ _)
    s.is c.deref-in-For.ensures.value)))
    (and_then c.for_line.ensures (and_then c.stmts.ensures (c.line-in-For.ensures (lexeme.word keys.EndFor ∷ lexeme.symbol symbols.Semi ∷ []) refl)))
