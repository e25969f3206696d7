-- ProgramViews: the state of the code between the tokens of a program, without where it lies in memory.
-- What ties the code to the machine, and no promise: those are in Answers.
use Rattle.std.specs.Prelude.{List, map}
use Rattle.st_tree.specs.StmtViews.{stmt_trees}
use Rattle.st_tree.specs.ProgramTree.{DeclaredTree}
use Rattle.st_tree.specs.ProgramViews.{declared_tree, decl_tree, block_tree}
use Rattle.st_parser.specs.declared.state.Parsed.{Parsed}
use Rattle.st_parser.specs.declared.state.Place.{Place}
use Rattle.st_parser.specs.declared.state.Place.TheVariants as place_is
use Rattle.st_parser.specs.FormViews.{forms, mode}
use Rattle.st_parser.specs.StateViews.{levels, phase}
use Rattle.st_parser.specs.ProgramMachine as machine

abbrev pub front : Parsed → machine.Front
front p = record { name = p.name; blocks = map block_tree p.blocks.items.items }

abbrev pub opening : Parsed → machine.Opening
opening p = record { front = front p; section = p.section; decls = map decl_tree p.decls.items.items }

abbrev pub names : Parsed → List DeclaredTree
names p = map declared_tree p.names.items.items

abbrev pub program : Parsed → Place → machine.State
program p place_is.AtProgram = machine.at_program
program p place_is.AtName = machine.at_name
program p place_is.AtBlock = machine.at_block (front p)
program p place_is.AtVar = machine.at_var (front p)
program p place_is.AtDecl = machine.at_decl (opening p)
program p place_is.AtComma = machine.at_comma (opening p) (names p)
program p place_is.AtNextName = machine.at_next_name (opening p) (names p)
program p place_is.AtType = machine.at_type (opening p) (names p)
program p place_is.AtInit = machine.at_init (opening p) (names p) p.ty
program p place_is.InInit = machine.in_init (opening p) (names p) p.ty (forms p.forms.items) (mode p.mode)
program p place_is.InBody = machine.in_body (front p) (levels p.bodies.outer.items) (stmt_trees p.bodies.stmts.items.items) (phase p.bodies.phase)
