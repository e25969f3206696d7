-- ReadSlots: the slots that an expression reads.
use Rattle.std.specs.Prelude.{ℕ, ◌==◌, Bool, false, ◌||◌}
use Rattle.vcp_typed.specs.TExprTree.{TExprTree, TExprTrees, literal, get, widen, unary, binary, call, no_texprs, and_texpr}

abbrev mutual
  pub reads_slot : TExprTree → ℕ → Bool
  reads_slot (literal t v spot) slot = false
  reads_slot (get n t) slot = n == slot
  reads_slot (widen t a) slot = reads_slot a slot
  reads_slot (unary op t a spot) slot = reads_slot a slot
  reads_slot (binary op t a b spot) slot = reads_slot a slot || reads_slot b slot
  reads_slot (call f t es spot) slot = read_slots es slot

  pub read_slots : TExprTrees → ℕ → Bool
  read_slots no_texprs slot = false
  read_slots (and_texpr e es) slot = reads_slot e slot || read_slots es slot
