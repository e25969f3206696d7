-- Lines: the head of a text, and the lines of the tokens behind it.
use Rattle.std.specs.Prelude.{ℕ, zero, suc, ◌+◌, ◌==◌, Bool, true, false, cond, min, List, [], ◌∷◌, ◌++◌, length, take, drop, codes}
use Rattle.vcp_base.specs.declared.spot.Spot.{Spot}
use Rattle.st_lexer.specs.declared.token.Key.TheVariants as key
use Rattle.st_lexer.specs.declared.token.Tok.{Tok}
use Rattle.st_lexer.specs.declared.token.Tok.TheVariants as tok
use Rattle.st_lexer.specs.declared.token.Token.{Token}
use Rattle.st_lexer.specs.Spots.{spot_at}

abbrev pub is_end_var : Tok → Bool
is_end_var (tok.Key key.EndVar) = true
is_end_var _ = false

abbrev pub is_end_program : Tok → Bool
is_end_program (tok.Key key.EndProgram) = true
is_end_program _ = false

-- how many tokens there are through the last END_VAR of a token and those behind it, where there are so many through the last
-- of those behind it; 0 where there is none
abbrev pub one_before : Tok → ℕ → ℕ
one_before t zero = cond (is_end_var t) 1 0
one_before t (suc n) = suc (suc n)

-- how many tokens there are through the last END_VAR, 0 where there is none
abbrev pub through_end_var : List Token → ℕ
through_end_var [] = 0
through_end_var (t ∷ ts) = one_before t.tok (through_end_var ts)

-- so many tokens as they are through the last END_VAR, else two, else all
abbrev pub or_two : ℕ → List Token → ℕ
or_two zero ts = min 2 (length ts)
or_two (suc n) ts = suc n

-- how many tokens the head has
abbrev pub head_count : List Token → ℕ
head_count ts = or_two (through_end_var ts) ts

-- where the last of these tokens ends, and 0 where there is none
abbrev pub end_of : List Token → ℕ
end_of [] = 0
end_of (t ∷ []) = t.to
end_of (t ∷ u ∷ us) = end_of (u ∷ us)

-- the tokens of the head
abbrev pub head_of : List Token → List Token
head_of ts = take (head_count ts) ts

-- a place so many bytes further on in its line
abbrev pub right_of : Spot → ℕ → Spot
right_of spot n = record { line = spot.line; col = spot.col + n }

-- the text with a space and END_PROGRAM behind it, where the token that is added to the head has its bytes
abbrev pub ended : List ℕ → List ℕ
ended text = text ++ codes " END_PROGRAM"

-- END_PROGRAM as if it were behind the head and a space
abbrev pub added_end : List ℕ → List Token → Token
added_end text head = record {
  tok = tok.Key key.EndProgram;
  from = length text + 1;
  to = length text + 12;
  spot = right_of (spot_at text (end_of head)) 1;
}

-- The head in Structured Text: its tokens, and END_PROGRAM.
abbrev pub head_tokens : List ℕ → List Token → List Token
head_tokens text ts = head_of ts ++ added_end text (head_of ts) ∷ []

-- the place behind that END_PROGRAM
abbrev pub head_end : List ℕ → List Token → Spot
head_end text ts = right_of (spot_at text (end_of (head_of ts))) 12

-- the tokens behind the head
abbrev pub behind_head : List Token → List Token
behind_head ts = drop (head_count ts) ts

-- the token begins in the line that these tokens begin in
abbrev pub joins : Token → List Token → Bool
joins t [] = false
joins t (u ∷ us) = t.spot.line == u.spot.line

-- the lines of a token and those behind it, which have these lines
abbrev pub and_token : Token → List (List Token) → List (List Token)
and_token t [] = (t ∷ []) ∷ []
and_token t (l ∷ ls) = cond (joins t l) ((t ∷ l) ∷ ls) ((t ∷ []) ∷ l ∷ ls)

-- the tokens line by line: each is in the line in which it begins
abbrev pub lines_of : List Token → List (List Token)
lines_of [] = []
lines_of (t ∷ ts) = and_token t (lines_of ts)
