-- ProgramMachine: a program read token by token.
-- How the parser reads, and no promise: what it promises is in Answers.
use Rattle.std.specs.Prelude.{ℕ, List, [], ◌∷◌, ◌++◌, Option, Some, None, Result, Ok, Err, cond}
use Rattle.vcp_base.specs.declared.spot.Spot.{Spot}
use Rattle.vcp_base.specs.declared.ty.Ty.{Ty}
use Rattle.vcp_base.specs.declared.ty.Ty.TheVariants as ty
use Rattle.st_lexer.specs.declared.token.Token.{Token}
use Rattle.st_tree.specs.declared.program.Section.{Section}
use Rattle.st_tree.specs.declared.program.Section.TheVariants as section
use Rattle.st_tree.specs.ExprTree.{ExprTree}
use Rattle.st_tree.specs.StmtTree.{StmtTrees, no_stmts}
use Rattle.st_tree.specs.ProgramTree.{DeclaredTree, DeclTree, BlockTree, ProgramTree}
use Rattle.st_parser.specs.declared.fault.SyntaxFault.{SyntaxFault}
use Rattle.st_parser.specs.declared.fault.SyntaxFault.TheVariants as fault
use Rattle.st_parser.specs.declared.marks.Mark.{Mark}
use Rattle.st_parser.specs.declared.marks.Mark.TheVariants as mark
use Rattle.st_parser.specs.Marks.{mark_of, is}
use Rattle.st_parser.specs.ExprMachine.{Context, Form, Mode, want, Reading, step, ends_before}
use Rattle.st_parser.specs.StmtMachine.{Level, At, Phase, start, finished, refused, stmt_step}

-- the program's name, and the blocks that are whole
pub record Front : Type 0 where
  pub name : List ℕ
  pub blocks : List BlockTree

-- a block that is open, and the declarations that are whole
pub record Opening : Type 0 where
  pub front : Front
  pub section : Section
  pub decls : List DeclTree

-- what was read last
pub data State : Type 0 where
  at_program : State
  at_name : State
  at_block : Front → State
  at_var : Front → State
  at_decl : Opening → State
  at_comma : Opening → List DeclaredTree → State
  at_next_name : Opening → List DeclaredTree → State
  at_type : Opening → List DeclaredTree → State
  at_init : Opening → List DeclaredTree → Ty → State
  in_init : Opening → List DeclaredTree → Ty → List Form → Mode → State
  in_body : Front → List Level → StmtTrees → Phase → State

-- the declared name that a token is
abbrev pub declared : Context → Token → DeclaredTree
declared c t = record { name = c.bytes t; spot = t.spot }

-- the block with one declaration more
abbrev pub with_decl : Opening → List DeclaredTree → Ty → Option ExprTree → Opening
with_decl o ds ty init = record { front = o.front; section = o.section; decls = o.decls ++ record { names = ds; ty = ty; init = init } ∷ [] }

-- the program's front with the block that ends
abbrev pub with_block : Opening → Front
with_block o = record { name = o.front.name; blocks = o.front.blocks ++ record { section = o.section; decls = o.decls } ∷ [] }

abbrev pub begun : Front → Section → Opening
begun f k = record { front = f; section = k; decls = [] }

abbrev pub body_step : Front → Result At SyntaxFault → Result State SyntaxFault
body_step f (Ok a) = Ok (in_body f a.outer a.stmts a.phase)
body_step f (Err e) = Err e

-- a token where a declaration may begin
abbrev pub decl_at : Context → Opening → Mark → Token → Result State SyntaxFault
decl_at c o m t =
    cond (is m mark.Name) (Ok (at_comma o (declared c t ∷ [])))
    (cond (is m mark.EndVar) (Ok (at_block (with_block o))) (refused t))

-- a token where a block may begin, or the body
abbrev pub block_at : Context → Front → Mark → Token → Result State SyntaxFault
block_at c f m t =
    cond (is m mark.VarInput) (Ok (at_decl (begun f section.Input)))
    (cond (is m mark.VarOutput) (Ok (at_decl (begun f section.Output)))
    (cond (is m mark.Var) (Ok (at_var f))
    (body_step f (stmt_step c [] no_stmts start t))))

-- a token behind VAR
abbrev pub var_at : Context → Front → Mark → Token → Result State SyntaxFault
var_at c f m t =
    cond (is m mark.Constant) (Ok (at_decl (begun f section.Constant)))
    (cond (is m mark.Retain) (Ok (at_decl (begun f section.Retain)))
    (decl_at c (begun f section.Local) m t))

-- the word of a type
abbrev pub type_at : Opening → List DeclaredTree → Mark → Token → Result State SyntaxFault
type_at o ds m t =
    cond (is m mark.Bool) (Ok (at_init o ds ty.Bool))
    (cond (is m mark.Int) (Ok (at_init o ds ty.Int))
    (cond (is m mark.Dint) (Ok (at_init o ds ty.Dint))
    (cond (is m mark.Lint) (Ok (at_init o ds ty.Lint)) (refused t))))

-- the token behind an initial value
abbrev pub init_read_on : Opening → List DeclaredTree → Ty → Result Reading SyntaxFault → Result State SyntaxFault
init_read_on o ds ty (Ok r) = Ok (in_init o ds ty r.forms r.mode)
init_read_on o ds ty (Err f) = Err f

-- a token of an initial value, or the one behind it
abbrev pub init_at : Context → Opening → List DeclaredTree → Ty → List Form → Mode → Token → Option ExprTree → Result State SyntaxFault
init_at c o ds ty fs m t (Some e) = cond (is (mark_of t.tok) mark.Semi) (Ok (at_decl (with_decl o ds ty (Some e)))) (refused t)
init_at c o ds ty fs m t None = init_read_on o ds ty (step c 0 fs m t)

abbrev pub program_step : Context → State → Token → Result State SyntaxFault
program_step c at_program t = cond (is (mark_of t.tok) mark.Program) (Ok at_name) (refused t)
program_step c at_name t = cond (is (mark_of t.tok) mark.Name) (Ok (at_block (record { name = c.bytes t; blocks = [] }))) (refused t)
program_step c (at_block f) t = block_at c f (mark_of t.tok) t
program_step c (at_var f) t = var_at c f (mark_of t.tok) t
program_step c (at_decl o) t = decl_at c o (mark_of t.tok) t
program_step c (at_comma o ds) t =
    cond (is (mark_of t.tok) mark.Comma) (Ok (at_next_name o ds))
    (cond (is (mark_of t.tok) mark.Colon) (Ok (at_type o ds)) (refused t))
program_step c (at_next_name o ds) t = cond (is (mark_of t.tok) mark.Name) (Ok (at_comma o (ds ++ declared c t ∷ []))) (refused t)
program_step c (at_type o ds) t = type_at o ds (mark_of t.tok) t
program_step c (at_init o ds ty) t =
    cond (is (mark_of t.tok) mark.Semi) (Ok (at_decl (with_decl o ds ty None)))
    (cond (is (mark_of t.tok) mark.Assign) (Ok (in_init o ds ty [] want)) (refused t))
program_step c (in_init o ds ty fs m) t = init_at c o ds ty fs m t (ends_before fs m t)
program_step c (in_body f outer ss phase) t = body_step f (stmt_step c outer ss phase t)

-- what is whole where the tokens end: a program whose END_PROGRAM was read
abbrev pub finish : Spot → State → Result ProgramTree SyntaxFault
finish end (in_body f [] ss finished) = Ok (record { name = f.name; blocks = f.blocks; body = ss })
finish end _ = Err (fault.Syntax end)

abbrev pub onward : Result State SyntaxFault → (State → Result ProgramTree SyntaxFault) → Result ProgramTree SyntaxFault
onward (Ok s) next = next s
onward (Err f) next = Err f

-- reads tokens from a state on; `end` is the spot behind the last token's text
abbrev pub run : Context → Spot → List Token → State → Result ProgramTree SyntaxFault
run c end [] s = finish end s
run c end (t ∷ ts) s = onward (program_step c s t) (run c end ts)

-- reads a program
abbrev pub read_program : Context → Spot → List Token → Result ProgramTree SyntaxFault
read_program c end ts = run c end ts at_program
