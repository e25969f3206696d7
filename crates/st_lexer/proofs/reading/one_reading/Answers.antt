use Rattle.st_lexer.proofs.Covers.{cover-one, tokens-one, reads-not, place-one, reason-one, reads-inside}
use Rattle.st_lexer.proofs.Total.{reads-or-stops}
use Rattle.st_lexer.proofs.Fronts.{longest-symbol}
use Rattle.st_lexer.proofs.Longest.{longest-token, token-spelled, gaps-first}
use Rattle.st_lexer.proofs.Openings.{one-opening}
use Rattle.st_lexer.proofs.Lacking.{every-symbol, symbol-begins, every-word}
use Rattle.st_lexer.proofs.reading.one_reading.Goals as goal

pub returns : goal.returns
returns c = record {
  total = reads-or-stops;
  pieces = λ text ps qs c d. cover-one text ps qs 0 c d;
  tokens = tokens-one;
  inside = reads-inside;
  either =
      reads-not;
  place = place-one;
  reason = reason-one;
  opens = one-opening;
  gaps = gaps-first;
  spelled = token-spelled;
  longest = longest-token;
  begins =
      symbol-begins;
  longest_symbol = longest-symbol;
  symbols = every-symbol;
  words = every-word;
}
