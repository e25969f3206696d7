-- Programs: the tokens that spell them.
--
--   program = PROGRAM name {block} stmts END_PROGRAM
--   block   = (VAR_INPUT | VAR_OUTPUT | VAR [CONSTANT | RETAIN]) {decl} END_VAR
--   decl    = name {"," name} ":" (BOOL | INT | DINT | LINT) [":=" expr] ";"
use Rattle.std.specs.Prelude.{◌≡◌, ℕ, List, [], ◌∷◌, ◌++◌, Option, Some, None}
use Rattle.vcp_base.specs.declared.ty.Ty.{Ty}
use Rattle.vcp_base.specs.declared.ty.Ty.TheVariants as ty
use Rattle.st_lexer.specs.declared.token.Key.{Key}
use Rattle.st_lexer.specs.declared.token.Key.TheVariants as key
use Rattle.st_lexer.specs.declared.token.Sym.TheVariants as sym
use Rattle.st_lexer.specs.declared.token.Tok.TheVariants as tok
use Rattle.st_lexer.specs.declared.token.Token.{Token}
use Rattle.st_tree.specs.declared.program.Section.{Section}
use Rattle.st_tree.specs.declared.program.Section.TheVariants as section
use Rattle.st_tree.specs.ExprTree.{ExprTree}
use Rattle.st_tree.specs.StmtTree.{StmtTrees}
use Rattle.st_tree.specs.ProgramTree.{DeclaredTree, DeclTree, BlockTree, ProgramTree}
use Rattle.st_tree.specs.Operators.{any_level}
use Rattle.st_tree.specs.Placed.{Placed, at}
use Rattle.st_tree.specs.Expressions.{SpellsExpr}
use Rattle.st_tree.specs.Statements.{SpellsStmts}

-- the reserved word of a type
abbrev pub type_key : Ty → Key
type_key ty.Bool = key.Bool
type_key ty.Int = key.Int
type_key ty.Dint = key.Dint
type_key ty.Lint = key.Lint

-- the names of a declaration, from the first to the colon behind the last
pub data SpellsNames (bytes : Token → List ℕ) : List DeclaredTree → List Placed → Type 0 where
  spells_last_name : (n c : Token) →
      n.tok ≡ tok.Name →
      c.tok ≡ tok.Sym sym.Colon →
      SpellsNames bytes (record { name = bytes n; spot = n.spot } ∷ []) (at 0 n ∷ at 0 c ∷ [])
  spells_next_name : (ds : List DeclaredTree) (n c : Token) (ts : List Placed) →
      n.tok ≡ tok.Name →
      c.tok ≡ tok.Sym sym.Comma →
      SpellsNames bytes ds ts →
      SpellsNames bytes (record { name = bytes n; spot = n.spot } ∷ ds) (at 0 n ∷ at 0 c ∷ ts)

-- the initial value of a declaration, where one is given, and the semicolon
pub data SpellsInit (bytes : Token → List ℕ) : Option ExprTree → List Placed → Type 0 where
  spells_no_init : (c : Token) →
      c.tok ≡ tok.Sym sym.Semi →
      SpellsInit bytes None (at 0 c ∷ [])
  spells_init : (e : ExprTree) (a c : Token) (ts : List Placed) →
      a.tok ≡ tok.Sym sym.Assign →
      SpellsExpr bytes 0 any_level e ts →
      c.tok ≡ tok.Sym sym.Semi →
      SpellsInit bytes (Some e) (at 0 a ∷ (ts ++ at 0 c ∷ []))

-- a declaration
pub data SpellsDecl (bytes : Token → List ℕ) : DeclTree → List Placed → Type 0 where
  spells_decl : (ds : List DeclaredTree) (ty : Ty) (init : Option ExprTree) (t : Token) (ts us : List Placed) →
      SpellsNames bytes ds ts →
      t.tok ≡ tok.Key (type_key ty) →
      SpellsInit bytes init us →
      SpellsDecl bytes (record { names = ds; ty = ty; init = init }) (ts ++ at 0 t ∷ us)

-- the declarations of a block, and END_VAR
pub data SpellsDecls (bytes : Token → List ℕ) : List DeclTree → List Placed → Type 0 where
  spells_end_var : (e : Token) →
      e.tok ≡ tok.Key key.EndVar →
      SpellsDecls bytes [] (at 0 e ∷ [])
  spells_next_decl : (d : DeclTree) (ds : List DeclTree) (ts us : List Placed) →
      SpellsDecl bytes d ts →
      SpellsDecls bytes ds us →
      SpellsDecls bytes (d ∷ ds) (ts ++ us)

-- the head of a block of this section
pub data SpellsHead : Section → List Placed → Type 0 where
  spells_input : (t : Token) → t.tok ≡ tok.Key key.VarInput → SpellsHead section.Input (at 0 t ∷ [])
  spells_output : (t : Token) → t.tok ≡ tok.Key key.VarOutput → SpellsHead section.Output (at 0 t ∷ [])
  spells_local : (t : Token) → t.tok ≡ tok.Key key.Var → SpellsHead section.Local (at 0 t ∷ [])
  spells_constant : (t u : Token) →
      t.tok ≡ tok.Key key.Var →
      u.tok ≡ tok.Key key.Constant →
      SpellsHead section.Constant (at 0 t ∷ at 0 u ∷ [])
  spells_retain : (t u : Token) →
      t.tok ≡ tok.Key key.Var →
      u.tok ≡ tok.Key key.Retain →
      SpellsHead section.Retain (at 0 t ∷ at 0 u ∷ [])

-- the blocks of a program
pub data SpellsBlocks (bytes : Token → List ℕ) : List BlockTree → List Placed → Type 0 where
  spells_no_block : SpellsBlocks bytes [] []
  spells_block : (section : Section) (ds : List DeclTree) (bs : List BlockTree) (ts us vs : List Placed) →
      SpellsHead section ts →
      SpellsDecls bytes ds us →
      SpellsBlocks bytes bs vs →
      SpellsBlocks bytes (record { section = section; decls = ds } ∷ bs) (ts ++ (us ++ vs))

-- a program
pub data SpellsProgram (bytes : Token → List ℕ) : ProgramTree → List Placed → Type 0 where
  spells_program : (bs : List BlockTree) (body : StmtTrees) (p n e : Token) (ts us : List Placed) →
      p.tok ≡ tok.Key key.Program →
      n.tok ≡ tok.Name →
      SpellsBlocks bytes bs ts →
      SpellsStmts bytes 0 body us →
      e.tok ≡ tok.Key key.EndProgram →
      SpellsProgram bytes (record { name = bytes n; blocks = bs; body = body })
      (at 0 p ∷ at 0 n ∷ (ts ++ (us ++ at 0 e ∷ [])))
