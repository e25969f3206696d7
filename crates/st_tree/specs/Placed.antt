-- Placed: a token with its depth, which is the sum of
-- the IF, CASE and FOR statements in whose bodies it is (labels are in the body of their CASE);
-- the round brackets and argument lists that are open round it;
-- the signs to whose operand it belongs;
-- and for each chain of operators of one level that it belongs to, the operators of that chain that come before it.
use Rattle.std.specs.Prelude.{ℕ, ◌≤◌, List, [], ◌∷◌, map}
use Rattle.st_lexer.specs.declared.token.Token.{Token}

pub record Placed : Type 0 where
  pub token : Token
  pub depth : ℕ

-- the token t at depth d
abbrev pub at : ℕ → Token → Placed
at d t = record { token = t; depth = d }

abbrev pub tokens_of : List Placed → List Token
tokens_of ps = map (λ p. p.token) ps

-- no token is deeper than the limit
abbrev pub Within : ℕ → List Placed → Type 0
Within limit [] = Unit {0}
Within limit (p ∷ ps) = (p.depth ≤ limit) × Within limit ps
