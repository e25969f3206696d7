-- StateViews: the state of the code, without where it lies in memory.
-- What ties the code to the machine, and no promise: those are in Answers.
use Rattle.std.specs.Prelude.{◌≡◌, List, [], ◌∷◌, Option, Some, None, Result, Ok, Err}
use Rattle.vcp_base.specs.declared.spot.Spot.{Spot}
use Rattle.st_tree.specs.ExprTree.{ExprTree}
use Rattle.st_tree.specs.StmtTree.{StmtTrees}
use Rattle.st_tree.specs.ExprViews.{expr_tree, expr_tree_or_none}
use Rattle.st_tree.specs.StmtViews.{label_trees, stmt_trees, arm_trees, branch_trees}
use Rattle.st_tree.specs.Items.{arm_items, branch_items}
use Rattle.st_parser.specs.declared.fault.SyntaxFault.{SyntaxFault}
use Rattle.st_parser.specs.declared.fault.SyntaxFault.TheVariants as fault
use Rattle.st_parser.specs.declared.state.Selection.{Selection}
use Rattle.st_parser.specs.declared.state.Loop.{Loop}
use Rattle.st_parser.specs.declared.state.Body.{Body}
use Rattle.st_parser.specs.declared.state.Body.TheVariants as body_is
use Rattle.st_parser.specs.declared.state.Level.{Level}
use Rattle.st_parser.specs.declared.state.Purpose.{Purpose}
use Rattle.st_parser.specs.declared.state.Purpose.TheVariants as purpose_is
use Rattle.st_parser.specs.declared.state.Constant.{Constant}
use Rattle.st_parser.specs.declared.state.Constant.TheVariants as constant_is
use Rattle.st_parser.specs.declared.state.LabelPhase.{LabelPhase}
use Rattle.st_parser.specs.declared.state.Phase.{Phase}
use Rattle.st_parser.specs.declared.state.Phase.TheVariants as phase_is
use Rattle.st_parser.specs.declared.state.Bodies.{Bodies}
use Rattle.st_parser.specs.FormViews.{forms, mode}
use Rattle.st_parser.specs.StmtMachine as machine

abbrev pub selection : Selection → machine.Selection
selection k = record { on = expr_tree k.on; spot = k.spot; branches = branch_trees (branch_items k.branches) }

abbrev pub loop : Loop → machine.Loop
loop l = record { name = l.name; name_spot = l.name_spot; spot = l.spot }

abbrev pub body : Body → machine.Body
body (body_is.OfArm arms e s) = machine.of_arm (arm_trees (arm_items arms)) (expr_tree e) s
body (body_is.OfIfElse arms) = machine.of_if_else (arm_trees (arm_items arms))
body (body_is.OfBranch k ls) = machine.of_branch (selection k) (label_trees ls.items.items)
body (body_is.OfCaseElse k) = machine.of_case_else (selection k)
body (body_is.OfLoop l first last by) = machine.of_loop (loop l) (expr_tree first) (expr_tree last) (expr_tree_or_none by)

abbrev pub level : Level → machine.Level
level l = record { body = body l.body; before = stmt_trees l.before.items.items }

-- the last one is the innermost
abbrev pub inside : List machine.Level → List Level → List machine.Level
inside outer [] = outer
inside outer (l ∷ ls) = inside (level l ∷ outer) ls

unfoldable pub levels : List Level → List machine.Level
levels ls = inside [] ls

abbrev pub purpose : Purpose → machine.Purpose
purpose (purpose_is.ToAssign f s) = machine.to_assign f s
purpose (purpose_is.ToTest arms s) = machine.to_test (arm_trees (arm_items arms)) s
purpose (purpose_is.ToSelect s) = machine.to_select s
purpose (purpose_is.ToBegin l) = machine.to_begin (loop l)
purpose (purpose_is.ToEnd l first) = machine.to_end (loop l) (expr_tree first)
purpose (purpose_is.ToStep l first last) = machine.to_step (loop l) (expr_tree first) (expr_tree last)

-- how far a label is whose first constant is whole, where its last one is read, and whose constant is read so far
abbrev pub wanted : Option ExprTree → machine.LabelPhase
wanted None = machine.first_wanted
wanted (Some e) = machine.last_wanted e

abbrev pub negated : Option ExprTree → Spot → machine.LabelPhase
negated None = machine.first_negated
negated (Some e) = machine.last_negated e

abbrev pub read : Option ExprTree → ExprTree → machine.LabelPhase
read None = machine.first_read
read (Some e) = machine.last_read e

abbrev pub constant : Option ExprTree → Constant → machine.LabelPhase
constant first constant_is.Wanted = wanted first
constant first (constant_is.Negated s) = negated first s
constant first (constant_is.Read e) = read first (expr_tree e)

abbrev pub label_phase : LabelPhase → machine.LabelPhase
label_phase p = constant (expr_tree_or_none p.first) p.constant

abbrev pub phase : Phase → machine.Phase
phase phase_is.Start = machine.start
phase (phase_is.Named f s) = machine.named f s
phase (phase_is.Reading p fs m) = machine.reading (purpose p) (forms fs.items) (mode m)
phase phase_is.Closed = machine.closed
phase (phase_is.LoopBegun s) = machine.loop_begun s
phase (phase_is.LoopNamed l) = machine.loop_named (loop l)
phase (phase_is.Labelling k ls p) = machine.labelling (selection k) (label_trees ls.items.items) (label_phase p)
phase phase_is.Finished = machine.finished

abbrev pub within : List machine.Level → StmtTrees → Phase → machine.At
within outer ss p = record { outer = outer; stmts = ss; phase = phase p }

abbrev pub state : Bodies → Phase → machine.At
state b = within (levels b.outer.items) (stmt_trees b.stmts.items.items)

-- the result is that of the machine, unless memory ran out
abbrev pub Gives : {A B : Type 0} → (A → B) → Result A SyntaxFault → Result B SyntaxFault → Type 0
Gives view (Ok a) r = r ≡ Ok (view a)
Gives view (Err fault.Memory) r = Unit {0}
Gives view (Err (fault.Syntax s)) r = r ≡ Err (fault.Syntax s)
Gives view (Err (fault.Depth s)) r = r ≡ Err (fault.Depth s)

-- the innermost level goes, where there is one
abbrev pub Leaves : List machine.Level → Option Level → List machine.Level → Type 0
Leaves old None new = (old ≡ []) × (new ≡ [])
Leaves old (Some l) new = old ≡ level l ∷ new
