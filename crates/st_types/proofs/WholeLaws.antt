-- WholeLaws: the typing of a program from that of its declarations and its body.
use Rattle.std.proofs.Common.{◌≡◌, ◌⊎◌, ℕ, ◌≤◌, [], length, Option, Some, None, option_map, sym, ap, subst, arith}
use Rattle.st_tree.specs.ProgramTree.{ProgramTree}
use Rattle.vcp_typed.specs.Size.{cut, size}
use Rattle.vcp_typed.specs.SourceRun.{Program}
use Rattle.vcp_typed.specs.TStmtTree.{TStmtTrees}
use Rattle.st_types.specs.declared.fault.Fault.{Fault}
use Rattle.st_types.specs.DeclSteps.{Makes}
use Rattle.st_types.specs.DeclTyping.{Made, nothing_made, BlocksFault}
use Rattle.st_types.specs.Notes.{Notes}
use Rattle.st_types.specs.StmtTyping.{StmtsFault, stmts_of}
use Rattle.st_tree.specs.Declarable.{names_of}
use Rattle.vcp_base.specs.Limits.{most_names, most_size}
use Rattle.st_types.specs.Typing.{made, FaultAt, typed_of, IsFaultless, IsTyped}
use Rattle.st_types.proofs.NoteLaws.{pair}

-- the faults that are noted are those of the program
pub program-notes : (p : ProgramTree) (n : Made) (b c : Option Fault) → Makes None b n (made p) (BlocksFault n.entries nothing_made p.blocks)
    → Notes b c (StmtsFault n.entries [] p.body) → Notes None c (FaultAt p)
program-notes p n b c h k =
    subst (λ m. Notes None c (λ f. BlocksFault m.entries nothing_made p.blocks f ⊎ StmtsFault m.entries [] p.body f)) h.gives
    (pair None b c (BlocksFault n.entries nothing_made p.blocks) (StmtsFault n.entries [] p.body) h.notes k)

abbrev program_of : Made → TStmtTrees → Program
program_of m b = record { slots = m.slots; body = b }

-- the checked program is what the declarations made, with the checked body
pub program-gives : (p : ProgramTree) (n : Made) (o : Option TStmtTrees) → n ≡ made p → o ≡ stmts_of n.entries [] p.body
    → typed_of p ≡ option_map (program_of n) o
program-gives p n o e g =
    subst (λ m. option_map (program_of m) (stmts_of m.entries [] p.body) ≡ option_map (program_of n) o) e
    (ap (option_map (program_of n)) (sym g))

cut-small : (n : ℕ) → cut n ≤ most_size → n ≤ most_size
cut-small n h = omega arith

pub small-size : (t : Program) (n : ℕ) → n ≡ cut (size t) → n ≤ most_size → size t ≤ most_size
small-size t n e h = cut-small (size t) (subst (λ k. k ≤ most_size) e h)

pub checked : (p : ProgramTree) (t : Program) → IsFaultless p → length (names_of p) ≤ most_names → typed_of p ≡ Some t → size t ≤ most_size → IsTyped p t
checked p t never few is room = record { faultless = never; few = few; is = is; room = room }
