-- TokenSteps: a token that is taken leads on.
use Rattle.std.proofs.Common.{◌≡◌, ℕ, ◌≤◌, Bool, cond, List, ◌∷◌, Result, Ok, Err, ap}
use Rattle.std.proofs.lemmas.Bool.{le-leb}
use Rattle.vcp_base.specs.declared.spot.Spot.{Spot}
use Rattle.st_lexer.specs.declared.token.Token.{Token}
use Rattle.st_tree.specs.StmtTree.{StmtTrees}
use Rattle.st_parser.specs.declared.fault.SyntaxFault.{SyntaxFault}
use Rattle.st_parser.specs.declared.fault.SyntaxFault.TheVariants as fault
use Rattle.st_parser.specs.ExprMachine.{Context, no_deeper}
use Rattle.st_parser.specs.StmtMachine.{Level, Phase, At, stmt_step}
use Rattle.st_parser.specs.ProgramMachine.{Front, State, in_body, body_step, program_step, onward, run}

pub taken : (c : Context) (end : Spot) (t : Token) (rest : List Token) (s r : State) → program_step c s t ≡ Ok r → run c end (t ∷ rest) s ≡ run c end rest r
taken c end t rest s r h = ap (λ (x : Result State SyntaxFault). onward x (run c end rest)) h

pub body-taken : (c : Context) (end : Spot) (f : Front) (outer : List Level) (ss : StmtTrees) (phase : Phase) (t : Token) (rest : List Token) (a : At)
    → stmt_step c outer ss phase t ≡ Ok a
    → run c end (t ∷ rest) (in_body f outer ss phase) ≡ run c end rest (in_body f a.outer a.stmts a.phase)
body-taken c end f outer ss phase t rest a h = ap (λ (x : Result At SyntaxFault). onward (body_step f x) (run c end rest)) h

-- a token within the limit
pub not-deeper : {A : Type 0} (most depth : ℕ) (t : Token) (a : A) → depth ≤ most → no_deeper most depth t (Ok a) ≡ Ok a
not-deeper {A = A} most depth t a le = ap (λ (b : Bool). let r : Result A SyntaxFault = cond b (Ok a) (Err (fault.Depth t.spot)) in r) (le-leb depth most le)
