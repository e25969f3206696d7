-- Codes: an evaluator as a tree of numbers, which its value needs in the logic. No contract speaks of them.
use Rattle.std.specs.Coded.{Coded, codes}
use Rattle.vcp_typed.specs.Codes.{program_code}
use Rattle.st_plain.specs.Evaluator.{Evaluator}

-- the code of an evaluator
pub evaluator_code : Coded Evaluator
evaluator_code = Prim.hlevel (codes, program_code)
