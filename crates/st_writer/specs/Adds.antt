-- Adds: what a step of the writer adds to the text.
use Rattle.std.specs.Prelude.{◌≡◌, ℕ, zero, suc, List, [], ◌∷◌, ◌++◌, Bool, false, cond, Option, None}
use Rattle.vcp_base.specs.declared.ty.Ty.{Ty}
use Rattle.st_lexer.specs.Literals.{prefix}
use Rattle.st_lexer.specs.declared.token.Key.{Key}
use Rattle.st_lexer.specs.declared.token.Key.TheVariants as key
use Rattle.st_lexer.specs.declared.token.Sym.{Sym}
use Rattle.st_lexer.specs.declared.token.Sym.TheVariants as sym
use Rattle.st_tree.specs.ExprTree.{ExprTree}
use Rattle.st_tree.specs.Operators.{any_level}
use Rattle.st_writer.specs.CanonicalExpr.{expr}
use Rattle.st_writer.specs.CanonicalStmt.{step}
use Rattle.st_writer.specs.Lexemes.{Lexeme, text_of, line, word, name, symbol, blank}
use Rattle.st_writer.specs.declared.writer.Writer.{Writer}

-- Unless memory ran out, now or before, the bytes of these lexemes stand behind the text.
pub record Adds (old new : Writer) (xs : List Lexeme) : Type 0 where
  pub so_far : new.has_failed ≡ false → old.has_failed ≡ false
  pub text : new.has_failed ≡ false → new.text.list.items ≡ old.text.list.items ++ text_of xs

-- these bytes, whatever lexemes they are
abbrev pub Puts : Writer → Writer → List ℕ → Type 0
Puts old new bytes = (xs : List Lexeme) → text_of xs ≡ bytes → Adds old new xs

-- what stands before the digits of a number
abbrev pub prefix_piece : Option Ty → List Lexeme
prefix_piece t = record { bytes = prefix t; tok = None } ∷ []

-- what is written before item i of a list: nothing before the first, a comma and a space before each other
abbrev pub separator : ℕ → List Lexeme
separator zero = []
separator (suc i) = symbol sym.Comma ∷ blank ∷ []

-- a bracket where brackets are needed
abbrev pub where_needed : Bool → Sym → List Lexeme
where_needed needed bracket = cond needed (symbol bracket ∷ []) []

-- the keyword of condition i of an IF: IF for the first, ELSIF for each other
abbrev pub arm_key : ℕ → Key
arm_key zero = key.If
arm_key (suc i) = key.Elsif

-- the line of an expression between lexemes
abbrev pub head_line : ℕ → List Lexeme → ExprTree → List Lexeme → List Lexeme
head_line n xs e ys = line n (xs ++ (expr any_level e ++ ys))

-- the first line of a FOR
abbrev pub for_line : ℕ → List ℕ → ExprTree → ExprTree → Option ExprTree → List Lexeme
for_line n f first last by =
    line n (
    word key.For ∷ blank ∷ name f ∷ blank ∷ symbol sym.Assign ∷ blank
    ∷ (expr any_level first ++ blank ∷ word key.To ∷ blank ∷ (expr any_level last ++ blank ∷ (step by ++ word key.Do ∷ []))))
