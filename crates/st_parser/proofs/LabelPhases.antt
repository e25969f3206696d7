-- LabelPhases: a token of a constant of a label, the first one or the last.
use Rattle.std.proofs.Common.{suc, List, length, Option, Some, None, Result}
use Rattle.vcp_base.specs.declared.spot.Spot.{Spot}
use Rattle.st_lexer.specs.declared.token.Token.{Token}
use Rattle.st_tree.specs.ExprTree.{ExprTree}
use Rattle.st_tree.specs.StmtTree.{LabelTree, StmtTrees}
use Rattle.st_parser.specs.declared.fault.SyntaxFault.{SyntaxFault}
use Rattle.st_parser.specs.Marks.{begins_by}
use Rattle.st_parser.specs.ExprMachine.{Context, no_deeper}
use Rattle.st_parser.specs.StateViews.{Gives, wanted, negated, read}
use Rattle.st_parser.specs.StmtMachine.{Selection, Level, At, const_at, number_at, with_phase, label_step}

pub on-wanted : {A : Type 0} (v : A → At) (r : Result A SyntaxFault) (c : Context) (outer : List Level) (ss : StmtTrees) (k : Selection)
    (ls : List LabelTree) (first : Option ExprTree) (t : Token)
    → Gives v r (with_phase outer ss k ls (no_deeper c.most (suc (length outer)) t (const_at c (read first) (negated first) (begins_by t.tok) t)))
    → Gives v r (label_step c outer ss k ls (wanted first) t)
on-wanted v r c outer ss k ls None t g = g
on-wanted v r c outer ss k ls (Some e) t g = g

pub on-negated : {A : Type 0} (v : A → At) (r : Result A SyntaxFault) (c : Context) (outer : List Level) (ss : StmtTrees) (k : Selection)
    (ls : List LabelTree) (first : Option ExprTree) (s : Spot) (t : Token)
    → Gives v r (with_phase outer ss k ls (no_deeper c.most (suc (suc (length outer))) t (number_at (read first) s t.tok t)))
    → Gives v r (label_step c outer ss k ls (negated first s) t)
on-negated v r c outer ss k ls None s t g = g
on-negated v r c outer ss k ls (Some e) s t g = g
