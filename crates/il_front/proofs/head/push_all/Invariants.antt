use Rattle.std.proofs.Common.{◌≡◌, ◌++◌, take}
use Rattle.il_front.proofs.head.push_all.Given as goal

abbrev pub invariant-loop-i : goal.invariant-loop-i
invariant-loop-i l = l.words.tokens ≡ l.initial.words.tokens ++ take l.i l.tokens.tokens
