-- Arguments: the value of one argument of a function.
use Rattle.std.specs.Prelude.{ℕ, zero, suc, ℤ, pos, List, [], Result, Ok}
use Rattle.vcp_typed.specs.Meaning.{Stop, value}
use Rattle.vcp_typed.specs.TExprTree.{TExprTrees, no_texprs, and_texpr}

-- the value of the argument at a place, and 0 where there is none
abbrev pub argument_at : TExprTrees → ℕ → List ℤ → Result ℤ Stop
argument_at no_texprs i m = Ok (pos 0)
argument_at (and_texpr e es) zero m = value [] e m
argument_at (and_texpr e es) (suc i) m = argument_at es i m
