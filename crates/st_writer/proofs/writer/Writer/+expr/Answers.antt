use Rattle.std.proofs.Common.{ℕ, suc, ◌∷◌, [], ◌++◌, ◌+◌, refl, sym, ap, ◌∙◌, add-one, rules, w64, SFits}
use Rattle.std.proofs.lemmas.Int.{to_z-of_z}
use Rattle.std.specs.Prelude.{nat_lt}
use Rattle.st_lexer.specs.declared.token.Sym.TheVariants as symbols
use Rattle.st_tree.specs.ExprTree.{ExprTree, call}
use Rattle.st_tree.specs.ExprViews.{expr_tree, expr_trees}
use Rattle.st_writer.specs.CanonicalExpr as canonical
use Rattle.st_writer.specs.Lexemes as lexeme
use Rattle.st_writer.specs.Lexemes.{Lexeme}
use Rattle.st_writer.proofs.Added.{and_then, nothing, same, in_brackets}
use Rattle.st_writer.proofs.Lists.{turn, ends}
use Rattle.st_writer.proofs.Exprs.{arg, args-are}
use Rattle.st_writer.proofs.writer.Writer.+expr.Goals as goal

pub args-loop-i-init : goal.args-loop-i-init
args-loop-i-init t c = nothing

pub args-loop-i-preserved : goal.args-loop-i-preserved
args-loop-i-preserved t c =
    turn arg c.args.args.now c.loop-i.i c.index-args-i.result c.loop-i-test.true (sym c.index-args-i.is) c.loop-i.invariant
    (and_then c.separator.ensures c.expr-self.ensures)

pub args-returns : goal.args-returns
args-returns t c = ends arg c.args.args.now c.loop-i.i _ (args-are c.args.args.now) c.loop-i-test.false c.loop-i.invariant

pub call-returns : goal.call-returns
call-returns t c = and_then c.name.ensures (and_then (c.put.ensures (lexeme.symbol symbols.LParen ∷ []) refl)
    (and_then c.args-2.ensures (c.put-2.ensures (lexeme.symbol symbols.RParen ∷ []) refl)))

pub expr-returns-in-Unary : goal.expr-returns-in-Unary
expr-returns-in-Unary t c =
    same (ap (λ e. canonical.expr c.args.wanted (expr_tree e)) (sym c.in-Unary.is))
    (and_then (c.put.ensures (canonical.sign c.in-Unary.op) (sym c.sign_text.ensures))
    (same (ap (λ e. canonical.expr 8 (expr_tree e)) c.deref.ensures) c.expr.ensures))

pub expr-returns-in-Binary : goal.expr-returns-in-Binary
expr-returns-in-Binary t c =
    let strength : ℕ = c.level_of-strength.result in
    let op = c.in-Binary.op in
    let b : ExprTree = expr_tree c.in-Binary.right.value in
    let sign = lexeme.blank ∷ canonical.operator op ∷ lexeme.blank ∷ [] in
    let left = same (ap (λ e. canonical.expr strength (expr_tree e)) c.deref-in-Binary.ensures) c.expr-in-Binary.ensures in
    let right = same (ap (λ e. canonical.expr (strength + 1) (expr_tree e)) c.deref-in-Binary-2.ensures ∙ ap (λ k. canonical.expr k b) (add-one strength))
    c.expr-in-Binary-2.ensures in
    let body = and_then left (and_then (c.put-in-Binary.ensures sign (sym c.operator_text.ensures)) right) in
    same (ap (λ k. canonical.bracketed (nat_lt k c.args.wanted) (canonical.expr k (expr_tree c.in-Binary.left.value) ++ (sign ++ canonical.expr (suc k) b)))
    c.level_of-strength.ensures.value
    ∙ ap (λ e. canonical.expr c.args.wanted (expr_tree e)) (sym c.in-Binary.is))
    (in_brackets (nat_lt strength c.args.wanted) _ (and_then c.opening.ensures (and_then body c.closing.ensures)))

pub expr-returns-in-Call : goal.expr-returns-in-Call
expr-returns-in-Call t c =
    let e = c.in-Call in
    same (ap (λ es. canonical.expr c.args.wanted (call e.name (expr_trees es) e.spot)) c.deref-in-Call.ensures.value
    ∙ ap (canonical.expr c.args.wanted) (sym (ap expr_tree e.is ∙ c.trees_of_nodes.ensures.call _ _ _))) c.call.ensures

pub expr-returns-in-Name : goal.expr-returns-in-Name
expr-returns-in-Name t c = same (ap (λ e. canonical.expr c.args.wanted (expr_tree e)) (sym c.in-Name.is)) c.name.ensures

pub expr-returns-in-Lit : goal.expr-returns-in-Lit
expr-returns-in-Lit t c =
    let f : SFits w64 c.in-Lit.value = search rules in
    same (ap (λ v. lexeme.literal c.in-Lit.ty v ∷ []) (to_z-of_z w64 c.in-Lit.value f)
    ∙ ap (λ e. canonical.expr c.args.wanted (expr_tree e)) (sym c.in-Lit.is)) c.literal.ensures
