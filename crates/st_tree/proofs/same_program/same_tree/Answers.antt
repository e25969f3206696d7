use Rattle.std.proofs.Common.{◌≡◌, Bool, false, List, refl, ap}
use Rattle.std.specs.Prelude.{IsTrue, ◌↔◌, map}
use Rattle.st_tree.specs.declared.program.Block.{Block}
use Rattle.st_tree.specs.declared.program.Program.{Program}
use Rattle.st_tree.specs.ProgramTree.{BlockTree, ProgramTree}
use Rattle.st_tree.specs.ProgramViews.{block_tree, program_tree}
use Rattle.st_tree.specs.Bare.{bare, bare_block}
use Rattle.st_tree.proofs.Pointwise.{never, carried}
use Rattle.st_tree.proofs.SameStmts.{bare_stmts_of}
use Rattle.st_tree.proofs.same_program.same_tree.Goals as goal

abbrev bare_of : Program → ProgramTree
bare_of p = bare (program_tree p)

abbrev bare_blocks_of : List Block → List BlockTree
bare_blocks_of blocks = map bare_block (map block_tree blocks)

-- programs are one where their names, blocks and bodies are
same-body : (r : Bool) (a b : Program) → a.name ≡ b.name → bare_blocks_of a.blocks.items.items ≡ bare_blocks_of b.blocks.items.items
    → (IsTrue r ↔ (bare_stmts_of a.body.items.items ≡ bare_stmts_of b.body.items.items)) → IsTrue r ↔ (bare_of a ≡ bare_of b)
same-body r a b name blocks h = (
  λ t. λ i. record { name = name i; blocks = blocks i; body = h.0 t i },
  λ q. h.1 (ap (λ (p : ProgramTree). p.body) q),
)

other-blocks : (r : Bool) (a b : Program) → r ≡ false → (IsTrue r ↔ (bare_blocks_of a.blocks.items.items ≡ bare_blocks_of b.blocks.items.items))
    → IsTrue r ↔ (bare_of a ≡ bare_of b)
other-blocks r a b e h = (λ t. absurd cc, λ q. h.1 (ap (λ (p : ProgramTree). p.blocks) q))

pub returns-then-not-same_text : goal.returns-then-not-same_text
returns-then-not-same_text c = never (λ e. c.if-not-same_text.ensures.1 (ap (λ (p : ProgramTree). p.name) e))

pub returns-then-same_blocks : goal.returns-then-same_blocks
returns-then-same_blocks c =
    same-body _ c.args.a.now c.args.b.now (c.if-not-same_text.ensures.0 refl)
    ((carried bare_blocks_of _ _ _ _ _ c.same_blocks.ensures c.deref.ensures.value c.deref-2.ensures.value).0 c.if-same_blocks.true)
    (carried bare_stmts_of _ _ _ _ _ c.same_stmts.ensures c.deref-then-same_blocks.ensures.value c.deref-then-same_blocks-2.ensures.value)

pub returns-else-same_blocks : goal.returns-else-same_blocks
returns-else-same_blocks c =
    other-blocks _ c.args.a.now c.args.b.now c.if-same_blocks.false
    (carried bare_blocks_of _ _ _ _ _ c.same_blocks.ensures c.deref.ensures.value c.deref-2.ensures.value)
