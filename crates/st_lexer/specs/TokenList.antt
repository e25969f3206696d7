-- What contracts see of Tokens.
use Rattle.std.specs.Prelude.{List}
use Rattle.vcp_base.specs.declared.spot.Spot.{Spot}
use Rattle.st_lexer.specs.declared.token.Token.{Token}

-- a list of tokens, and the spot of the byte after the last of their text
pub record TokenList : Type 0 where
  pub tokens : List Token
  pub end : Spot
