use Rattle.std.proofs.Common.{◌≡◌, drop}
use Rattle.st_lexer.specs.Symbols.{symbol_among}
use Rattle.st_lexer.proofs.symbols.symbol_among.Given as goal

abbrev pub invariant-loop-symbol : goal.invariant-loop-symbol
invariant-loop-symbol l = symbol_among (drop l.symbol-index l.symbols) l.rest ≡ symbol_among l.symbols l.rest
