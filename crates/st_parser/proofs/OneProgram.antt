-- OneProgram: tokens are spelled by one program at most, and what is spelled at any depth is not refused for its syntax.
use Rattle.std.proofs.Common.{◌≡◌, ℕ, ◌+◌, ◌≤◌, List, [], ◌∷◌, Result, Ok, Err, sym, ap, ◌∙◌, subst, arith}
use Rattle.vcp_base.specs.declared.spot.Spot.{Spot}
use Rattle.st_lexer.specs.declared.token.Token.{Token}
use Rattle.st_tree.specs.ProgramTree.{ProgramTree}
use Rattle.st_tree.specs.Placed.{Placed, tokens_of, Within}
use Rattle.st_tree.specs.Programs.{SpellsProgram}
use Rattle.st_parser.specs.declared.fault.SyntaxFault.{SyntaxFault}
use Rattle.st_parser.specs.declared.fault.SyntaxFault.TheVariants as fault
use Rattle.st_parser.specs.ExprMachine.{Context}
use Rattle.st_parser.specs.ProgramMachine.{at_program, read_program}
use Rattle.st_parser.proofs.ProgramComplete.{complete}
use Rattle.st_parser.proofs.Deeper.{Agrees, run-agrees}

-- ---- a limit that is high enough

pub within-higher : (m n : ℕ) (ps : List Placed) → m ≤ n → Within m ps → Within n ps
within-higher m n [] le w = tt
within-higher m n (p ∷ ps) le w = (omega (arith, le, w.0), within-higher m n ps le w.1)

pub within-some : (ps : List Placed) → (limit : ℕ) × Within limit ps
within-some [] = (0, tt)
within-some (p ∷ ps) = let r = within-some ps in (p.depth + r.0, (omega arith, within-higher r.0 (p.depth + r.0) ps (omega arith) r.1))

-- with a limit that is high enough, a program that is spelled is read
spelled-high : (bytes : Token → List ℕ) (most : ℕ) (end : Spot) (p : ProgramTree) (ps : List Placed) → SpellsProgram bytes p ps
    → (limit : ℕ) × (most ≤ limit) × (read_program (record { bytes = bytes; most = limit }) end (tokens_of ps) ≡ Ok p)
spelled-high bytes most end p ps sp =
    let r = within-some ps in
    (most + r.0, omega arith, complete (record { bytes = bytes; most = most + r.0 }) end p ps sp (within-higher r.0 (most + r.0) ps (omega arith) r.1))

-- ---- one program at most

pub only-one : (bytes : Token → List ℕ) (p q : ProgramTree) (ps qs : List Placed) → SpellsProgram bytes p ps → SpellsProgram bytes q qs
    → tokens_of ps ≡ tokens_of qs → p ≡ q
only-one bytes p q ps qs sp sq same =
    let r = within-some ps in
    let s = within-some qs in
    let c : Context = record { bytes = bytes; most = r.0 + s.0 } in
    let end : Spot = record { line = 0; col = 0 } in
    let first : read_program c end (tokens_of ps) ≡ Ok p = complete c end p ps sp (within-higher r.0 (r.0 + s.0) ps (omega arith) r.1) in
    let second : read_program c end (tokens_of qs) ≡ Ok q = complete c end q qs sq (within-higher s.0 (r.0 + s.0) qs (omega arith) s.1) in
    let both : Ok p ≡ Ok q = sym first ∙ ap (read_program c end) same ∙ second in
    cc

-- ---- a fault of syntax

-- what is spelled at any depth is not refused for its syntax
pub no-syntax : (bytes : Token → List ℕ) (most : ℕ) (end : Spot) (p : ProgramTree) (ps : List Placed) (s : Spot) → SpellsProgram bytes p ps
    → read_program (record { bytes = bytes; most = most }) end (tokens_of ps) ≡ Err (fault.Syntax s) → ⊥
no-syntax bytes most end p ps s sp h =
    let r = spelled-high bytes most end p ps sp in
    let a : Agrees (read_program (record { bytes = bytes; most = most }) end (tokens_of ps))
    (read_program (record { bytes = bytes; most = r.0 }) end (tokens_of ps)) = run-agrees bytes most r.0 r.1 end (tokens_of ps) at_program in
    let b : read_program (record { bytes = bytes; most = r.0 }) end (tokens_of ps) ≡ Err (fault.Syntax s) =
    subst (λ (x : Result ProgramTree SyntaxFault). Agrees x (read_program (record { bytes = bytes; most = r.0 }) end (tokens_of ps))) h a in
    let both : Ok p ≡ Err (fault.Syntax s) = sym r.2 ∙ b in
    absurd cc
