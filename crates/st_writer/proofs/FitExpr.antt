-- The lexemes of an expression fit, before any that no word goes on with.
use Rattle.std.proofs.Common.{ℕ, suc, Bool, true, false, List, [], ◌∷◌, ◌++◌, sym, refl, subst, append_assoc}
use Rattle.std.specs.Prelude.{nat_lt}
use Rattle.st_lexer.specs.declared.token.Key.TheVariants as key
use Rattle.st_lexer.specs.declared.token.Sym.TheVariants as symbol
use Rattle.st_tree.specs.declared.expr.UnOp.TheVariants as un
use Rattle.st_tree.specs.declared.expr.BinOp.{BinOp}
use Rattle.st_tree.specs.declared.expr.BinOp.TheVariants as bin
use Rattle.st_tree.specs.ExprTree.{ExprTree, ExprTrees, literal, name, unary, binary, call, no_exprs, and_expr}
use Rattle.st_tree.specs.Operators.{level, any_level, unary_level}
use Rattle.st_writer.specs.Lexemes as lexeme
use Rattle.st_writer.specs.CanonicalExpr.{operator, bracketed, expr, args, more_args}
use Rattle.st_writer.proofs.IsReadable.{ReadableExpr, ReadableExprs}
use Rattle.st_writer.proofs.Fits.{Fits, Free, Safe, fit-blank, fit-comma, fit-close, fit-minus, fit-open, fit-symbol, fit-word, fit-key, fit-literal, name-safe}
use Rattle.st_writer.proofs.Fits.{literal-safe}
use Rattle.st_writer.proofs.Covered.{AllFit}

-- how the text of lexemes begins
abbrev pub Ends : List lexeme.Lexeme → Type 0
Ends ys = Free (lexeme.text_of ys)

abbrev pub IsSafe : List lexeme.Lexeme → Type 0
IsSafe ys = Safe (lexeme.text_of ys)

pub joined : (xs ys zs : List lexeme.Lexeme) → AllFit (xs ++ (ys ++ zs)) → AllFit ((xs ++ ys) ++ zs)
joined xs ys zs fit = subst AllFit (sym (append_assoc xs ys zs)) fit

pub ends-joined : (xs ys zs : List lexeme.Lexeme) → Ends (xs ++ (ys ++ zs)) → Ends ((xs ++ ys) ++ zs)
ends-joined xs ys zs ends = subst Ends (sym (append_assoc xs ys zs)) ends

safe-joined : (xs ys zs : List lexeme.Lexeme) → IsSafe (xs ++ (ys ++ zs)) → IsSafe ((xs ++ ys) ++ zs)
safe-joined xs ys zs safe = subst IsSafe (sym (append_assoc xs ys zs)) safe

fit-operator : (op : BinOp) (rest : List ℕ) → Fits (operator op) (32 ∷ rest)
fit-operator bin.Mul rest = fit-symbol symbol.Star rest
fit-operator bin.Div rest = fit-symbol symbol.Slash rest
fit-operator bin.Mod rest = fit-key key.Mod (32 ∷ rest) refl
fit-operator bin.Add rest = fit-symbol symbol.Plus rest
fit-operator bin.Sub rest = fit-symbol symbol.Minus rest
fit-operator bin.Lt rest = fit-symbol symbol.Lt rest
fit-operator bin.Gt rest = fit-symbol symbol.Gt rest
fit-operator bin.Le rest = fit-symbol symbol.Le rest
fit-operator bin.Ge rest = fit-symbol symbol.Ge rest
fit-operator bin.Eq rest = fit-symbol symbol.Eq rest
fit-operator bin.Ne rest = fit-symbol symbol.Ne rest
fit-operator bin.And rest = fit-key key.And (32 ∷ rest) refl
fit-operator bin.Xor rest = fit-key key.Xor (32 ∷ rest) refl
fit-operator bin.Or rest = fit-key key.Or (32 ∷ rest) refl

-- an operator and what stands behind it
abbrev from_operator : BinOp → ExprTree → List lexeme.Lexeme
from_operator op b = lexeme.blank ∷ operator op ∷ lexeme.blank ∷ expr (suc (level op)) b

safe-bracketed : (needed : Bool) (xs ys : List lexeme.Lexeme) → IsSafe (xs ++ ys) → IsSafe (bracketed needed xs ++ ys)
safe-bracketed true xs ys safe = refl
safe-bracketed false xs ys safe = safe

safe-expr : (l : ℕ) (e : ExprTree) (ys : List lexeme.Lexeme) → ReadableExpr e → IsSafe (expr l e ++ ys)
safe-expr l (literal ty v s) ys r = literal-safe ty v (lexeme.text_of ys) r
safe-expr l (name n s) ys r = name-safe n (lexeme.text_of ys) r
safe-expr l (unary un.Neg a s) ys r = refl
safe-expr l (unary un.Not a s) ys r = refl
safe-expr l (binary op a b s) ys r =
    safe-bracketed (nat_lt (level op) l) (expr (level op) a ++ from_operator op b) ys
    (safe-joined (expr (level op) a) (from_operator op b) ys (safe-expr (level op) a (from_operator op b ++ ys) r.0))
safe-expr l (call n es s) ys r = name-safe n _ r.0

safe-args : (es : ExprTrees) (ys : List lexeme.Lexeme) → ReadableExprs es → IsSafe ys → IsSafe (args es ++ ys)
safe-args no_exprs ys r safe = safe
safe-args (and_expr e es) ys r safe = safe-joined (expr any_level e) (more_args es) ys (safe-expr any_level e (more_args es ++ ys) r.0)

fit-bracketed : (needed : Bool) (xs ys : List lexeme.Lexeme) → Ends ys → AllFit ys
    → ((zs : List lexeme.Lexeme) → Ends zs → AllFit zs → AllFit (xs ++ zs)) → ((zs : List lexeme.Lexeme) → IsSafe (xs ++ zs))
    → AllFit (bracketed needed xs ++ ys)
fit-bracketed true xs ys ends fit f safe =
    let close = lexeme.symbol symbol.RParen ∷ [] in
    (fit-open _ (safe-joined xs close ys (safe (close ++ ys))), joined xs close ys (f (close ++ ys) refl (fit-close _, fit)))
fit-bracketed false xs ys ends fit f safe = f ys ends fit

ends-more : (es : ExprTrees) (ys : List lexeme.Lexeme) → Ends ys → Ends (more_args es ++ ys)
ends-more no_exprs ys ends = ends
ends-more (and_expr e es) ys ends = refl

mutual
  pub fit-expr : (l : ℕ) (e : ExprTree) (ys : List lexeme.Lexeme) → ReadableExpr e → Ends ys → AllFit ys → AllFit (expr l e ++ ys)
  fit-expr l (literal ty v s) ys r ends fit = (fit-literal ty v (lexeme.text_of ys) r ends, fit)
  fit-expr l (name n s) ys r ends fit = (fit-word n _ (lexeme.text_of ys) r ends, fit)
  fit-expr l (unary un.Neg a s) ys r ends fit = (fit-minus _, fit-expr unary_level a ys r ends fit)
  fit-expr l (unary un.Not a s) ys r ends fit = (fit-key key.Not _ refl, (fit-blank _, fit-expr unary_level a ys r ends fit))
  fit-expr l (binary op a b s) ys r ends fit =
      fit-bracketed (nat_lt (level op) l) (expr (level op) a ++ from_operator op b) ys ends fit
      (λ zs ends_so fit_so. joined (expr (level op) a) (from_operator op b) zs
      (fit-expr (level op) a (from_operator op b ++ zs) r.0 refl
      (fit-blank _, (fit-operator op _, (fit-blank _, fit-expr (suc (level op)) b zs r.1 ends_so fit_so)))))
      (λ zs. safe-joined (expr (level op) a) (from_operator op b) zs (safe-expr (level op) a (from_operator op b ++ zs) r.0))
  fit-expr l (call n es s) ys r ends fit =
      let close = lexeme.symbol symbol.RParen ∷ [] in (
        fit-word n _ _ r.0 refl,
        (
          fit-open _ (safe-joined (args es) close ys (safe-args es (close ++ ys) r.1 refl)),
          joined (args es) close ys
              (fit-args es (close ++ ys) r.1 refl (fit-close _, fit)),
        ),
      )

  fit-args : (es : ExprTrees) (ys : List lexeme.Lexeme) → ReadableExprs es → Ends ys → AllFit ys → AllFit (args es ++ ys)
  fit-args no_exprs ys r ends fit = fit
  fit-args (and_expr e es) ys r ends fit =
      joined (expr any_level e) (more_args es) ys (fit-expr any_level e (more_args es ++ ys) r.0 (ends-more es ys ends) (fit-more es ys r.1 ends fit))

  fit-more : (es : ExprTrees) (ys : List lexeme.Lexeme) → ReadableExprs es → Ends ys → AllFit ys → AllFit (more_args es ++ ys)
  fit-more no_exprs ys r ends fit = fit
  fit-more (and_expr e es) ys r ends fit = (
    fit-comma _,
    (
      fit-blank _,
      joined (expr any_level e) (more_args es) ys
          (fit-expr any_level e (more_args es ++ ys) r.0 (ends-more es ys ends) (fit-more es ys r.1 ends fit)),
    ),
  )

-- an expression with what stands behind it on its line
pub fit-expr-and : (e : ExprTree) (xs ys : List lexeme.Lexeme) → ReadableExpr e → Ends (xs ++ ys) → AllFit (xs ++ ys) → AllFit ((expr any_level e ++ xs) ++ ys)
fit-expr-and e xs ys r ends fit = joined (expr any_level e) xs ys (fit-expr any_level e (xs ++ ys) r ends fit)
