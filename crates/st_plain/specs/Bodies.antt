-- Bodies: the body that an IF or a CASE does.
use Rattle.std.specs.Prelude.{◌≡◌, ◌≤◌, ◌<◌, ℕ, ℤ, List}
use Rattle.vcp_base.specs.declared.turns.Turn.{Turn}
use Rattle.vcp_typed.specs.TStmtTree.{TStmtTrees, TOtherTree, no_tstmts, no_tother, tother}
use Rattle.vcp_typed.specs.Meaning.{do_stmts}
use Rattle.vcp_typed.specs.Size.{stmts_size}
use Rattle.st_plain.specs.Outcomes.{Doing}
use Rattle.st_plain.specs.Sound.{SoundStmts}
use Rattle.st_plain.specs.Weight.{stmts_weight}

-- From the values m the body does what is to be done, inside any turns. It is lighter and no larger than what it is a part of.
pub record IsBody (does : List Turn → Doing) (weight size : ℕ) (m : List ℤ) (body : TStmtTrees) : Type 0 where
  pub same : (turns : List Turn) → do_stmts turns body m ≡ does turns m
  pub sound : SoundStmts body m
  pub lighter : stmts_weight body < weight
  pub small : stmts_size body ≤ size

-- the statements of an ELSE, if there is one
abbrev pub statements_of : TOtherTree → TStmtTrees
statements_of no_tother = no_tstmts
statements_of (tother body) = body
