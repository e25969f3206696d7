-- Worked: the machine on small programs.
use Rattle.std.specs.Prelude.{◌≡◌, refl, ℕ, [], ◌∷◌, Ok, Err}
use Rattle.vcp_base.specs.declared.spot.Spot.{Spot}
use Rattle.st_lexer.specs.declared.token.Key.TheVariants as key
use Rattle.st_lexer.specs.declared.token.Sym.TheVariants as sym
use Rattle.st_lexer.specs.declared.token.Tok.{Tok}
use Rattle.st_lexer.specs.declared.token.Tok.TheVariants as tok
use Rattle.st_lexer.specs.declared.token.Token.{Token}
use Rattle.st_tree.specs.declared.expr.BinOp.TheVariants as bin
use Rattle.st_tree.specs.ExprTree.{name, binary}
use Rattle.st_tree.specs.StmtTree.{assign, no_stmts, and_stmt}
use Rattle.st_parser.specs.declared.fault.SyntaxFault.TheVariants as fault
use Rattle.st_parser.specs.ExprMachine.{Context}
use Rattle.st_parser.specs.ProgramMachine.{read_program}

abbrev spot : ℕ → Spot
spot n = record { line = 1; col = n }

abbrev t : ℕ → Tok → Token
t n k = record { tok = k; from = n; to = n; spot = spot n }

abbrev c : Context
c = record { bytes = λ x. x.from ∷ []; most = 64 }

-- PROGRAM p y := a - b - c; END_PROGRAM
subtraction : read_program c (spot 99)
    (t 1 (tok.Key key.Program) ∷ t 2 tok.Name ∷ t 3 tok.Name ∷ t 4 (tok.Sym sym.Assign) ∷ t 5 tok.Name ∷ t 6 (tok.Sym sym.Minus) ∷ t 7 tok.Name
    ∷ t 8 (tok.Sym sym.Minus) ∷ t 9 tok.Name ∷ t 10 (tok.Sym sym.Semi) ∷ t 11 (tok.Key key.EndProgram) ∷ [])
    ≡ Ok (record {
      name = 2 ∷ [];
      blocks = [];
      body =
          and_stmt (assign (3 ∷ []) (binary bin.Sub (binary bin.Sub (name (5 ∷ []) (spot 5)) (name (7 ∷ []) (spot 7)) (spot 6)) (name (9 ∷ []) (spot 9)) (spot 8))
          (spot 3)) no_stmts;
    })
subtraction = refl

-- PROGRAM p y := ; END_PROGRAM
missing_value : read_program c (spot 99)
    (t 1 (tok.Key key.Program) ∷ t 2 tok.Name ∷ t 3 tok.Name ∷ t 4 (tok.Sym sym.Assign) ∷ t 5 (tok.Sym sym.Semi) ∷ t 6 (tok.Key key.EndProgram) ∷ [])
    ≡ Err (fault.Syntax (spot 5))
missing_value = refl
