-- CanonicalProgram: the canonical text of a program.
use Rattle.std.specs.Prelude.{ℕ, List, [], ◌∷◌, ◌++◌, flat_map, Option, Some, None}
use Rattle.st_lexer.specs.declared.token.Key.TheVariants as key
use Rattle.st_lexer.specs.declared.token.Sym.TheVariants as sym
use Rattle.st_tree.specs.declared.program.Section.{Section}
use Rattle.st_tree.specs.declared.program.Section.TheVariants as section
use Rattle.st_tree.specs.ExprTree.{ExprTree}
use Rattle.st_tree.specs.ProgramTree.{DeclaredTree, DeclTree, BlockTree, ProgramTree}
use Rattle.st_tree.specs.Operators.{any_level}
use Rattle.st_tree.specs.Programs.{type_key}
use Rattle.st_writer.specs.Lexemes as lexeme
use Rattle.st_writer.specs.CanonicalExpr.{expr}
use Rattle.st_writer.specs.CanonicalStmt.{stmts}

abbrev pub more_names : List DeclaredTree → List lexeme.Lexeme
more_names [] = []
more_names (d ∷ ds) = lexeme.symbol sym.Comma ∷ lexeme.blank ∷ lexeme.name d.name ∷ more_names ds

-- the names of a declaration
abbrev pub names : List DeclaredTree → List lexeme.Lexeme
names [] = []
names (d ∷ ds) = lexeme.name d.name ∷ more_names ds

-- the initial value, where one is given
abbrev pub init : Option ExprTree → List lexeme.Lexeme
init None = []
init (Some e) = lexeme.blank ∷ lexeme.symbol sym.Assign ∷ lexeme.blank ∷ expr any_level e

-- a declaration, on a line
abbrev pub decl : DeclTree → List lexeme.Lexeme
decl d =
    lexeme.line 1 (
    names d.names ++ lexeme.blank ∷ lexeme.symbol sym.Colon ∷ lexeme.blank ∷ lexeme.word (type_key d.ty)
    ∷ (init d.init ++ lexeme.symbol sym.Semi ∷ []))

-- the head of a block
abbrev pub head : Section → List lexeme.Lexeme
head section.Input = lexeme.word key.VarInput ∷ []
head section.Output = lexeme.word key.VarOutput ∷ []
head section.Local = lexeme.word key.Var ∷ []
head section.Constant = lexeme.word key.Var ∷ lexeme.blank ∷ lexeme.word key.Constant ∷ []
head section.Retain = lexeme.word key.Var ∷ lexeme.blank ∷ lexeme.word key.Retain ∷ []

abbrev pub block : BlockTree → List lexeme.Lexeme
block b = lexeme.line 0 (head b.section) ++ (flat_map decl b.decls ++ lexeme.line 0 (lexeme.word key.EndVar ∷ []))

-- the program: its body is at level 1
abbrev pub program : ProgramTree → List lexeme.Lexeme
program p =
    lexeme.line 0 (lexeme.word key.Program ∷ lexeme.blank ∷ lexeme.name p.name ∷ [])
    ++ (flat_map block p.blocks ++ (stmts 1 p.body ++ lexeme.line 0 (lexeme.word key.EndProgram ∷ [])))

-- its canonical text
abbrev pub canonical : ProgramTree → List ℕ
canonical p = lexeme.text_of (program p)
