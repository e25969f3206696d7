-- The one reading of a text: pieces that adjoin, each a gap or, where no gap begins, the longest token at its place.
use Rattle.std.specs.Prelude.{◌≡◌, ◌⊎◌, ℕ, ◌+◌, ◌<◌, ◌≤◌, ◌==◌, Bool, true, false, ◌&&◌, ◌||◌, List, [], ◌∷◌, ◌++◌, length, take, drop, slice_index, Option}
use Rattle.std.specs.Prelude.{Some, None, codes}
use Rattle.std.specs.List.{prefix_len}
use Rattle.std.specs.Char.{is_ascii_digit}
use Rattle.vcp_base.specs.declared.spot.Spot.{Spot}
use Rattle.vcp_base.specs.declared.ty.Ty.{Ty}
use Rattle.vcp_base.specs.Names.{is_letter, is_letter_or_digit}
use Rattle.st_lexer.specs.declared.token.Key.TheVariants as key
use Rattle.st_lexer.specs.declared.token.Tok.{Tok}
use Rattle.st_lexer.specs.declared.token.Tok.TheVariants as tok
use Rattle.st_lexer.specs.declared.token.Token.{Token}
use Rattle.st_lexer.specs.declared.fault.Reason.{Reason}
use Rattle.st_lexer.specs.declared.fault.Reason.TheVariants as reason
use Rattle.st_lexer.specs.declared.fault.LexFault.{LexFault}
use Rattle.st_lexer.specs.declared.fault.LexFault.TheVariants as fault
use Rattle.st_lexer.specs.declared.literal.Literal.{Literal}
use Rattle.st_lexer.specs.declared.piece.Opening.{Opening}
use Rattle.st_lexer.specs.declared.piece.Opening.TheVariants as opens
use Rattle.st_lexer.specs.Literals.{prefix, begins_typed, BeginsLiteral, literal_at}
use Rattle.st_lexer.specs.Spots.{is_not_lf, spot_at}
use Rattle.st_lexer.specs.Symbols.{all_symbols, begins, spelling, symbol_among}
use Rattle.st_lexer.specs.Words.{word}

-- a space, tab, CR or LF
abbrev pub is_blank : ℕ → Bool
is_blank b = b == 32 || b == 9 || b == 13 || b == 10

-- the bytes EF BB BF
abbrev pub order_mark : List ℕ
order_mark = 239 ∷ 187 ∷ 191 ∷ []

-- a comment opens that `*` and the byte `last` close: `)` (41) one that `(*` opens, `/` (47) one that `/*` opens
abbrev pub OpensComment : ℕ → List ℕ → Type 0
OpensComment last s = ((last ≡ 41) × (begins (codes "(*") s ≡ true)) ⊎ ((last ≡ 47) × (begins (codes "/*") s ≡ true))

-- a gap begins at place p of a text, where s is the text from there on: a blank, the order mark at the very front, or a comment
abbrev pub begins_gap : ℕ → List ℕ → Bool
begins_gap p s =
    is_blank (slice_index s 0) || ((begins order_mark s && p == 0) || (begins (codes "(*") s || (begins (codes "/*") s || begins (codes "//") s)))

-- a byte with which a token begins that is no symbol: a word, a literal, or `&` (38)
abbrev pub begins_token : ℕ → Bool
begins_token b = is_letter b || (is_ascii_digit b || b == 38)

-- What begins at place p of a text, where s is the text from there on. A symbol, the longest with which s begins, is one
-- only where no gap begins; nothing begins where no gap, token or literal does.
abbrev pub Begins : ℕ → List ℕ → Opening → Type 0
Begins p s opens.Blank = is_blank (slice_index s 0) ≡ true
Begins p s opens.OrderMark = (p ≡ 0) × (begins order_mark s ≡ true)
Begins p s (opens.Comment last) = OpensComment last s
Begins p s opens.LineComment = begins (codes "//") s ≡ true
Begins p s opens.Word = (is_letter (slice_index s 0) ≡ true) × ((t : Ty) → begins_typed t s ≡ false)
Begins p s (opens.Literal t) = BeginsLiteral t s
Begins p s opens.Ampersand = (slice_index s 0 == 38) ≡ true
Begins p s (opens.Symbol y) = (begins_gap p s ≡ false) × (symbol_among all_symbols s ≡ Some y)
Begins p s opens.Nothing =
    (begins_gap p s ≡ false) × (begins_token (slice_index s 0) ≡ false) × (symbol_among all_symbols s ≡ None)

-- the mark that closes a comment, `*` (42) and one more byte, is at k
abbrev pub Closes : ℕ → List ℕ → ℕ → Type 0
Closes last s k = (k + 1 < length s) × (slice_index s k ≡ 42) × (slice_index s (k + 1) ≡ last)

-- the first closing mark behind the opening one ends at n
abbrev pub ClosesFirst : ℕ → List ℕ → ℕ → Type 0
ClosesFirst last s n =
    (k : ℕ) × (n ≡ k + 2) × (2 ≤ k) × Closes last s k × ((j : ℕ) → 2 ≤ j → j < k → Closes last s j → ⊥)

-- n bytes at the front of s are a gap (None) or a token, where this begins there
abbrev pub Stands : Opening → List ℕ → ℕ → Option Tok → Type 0
Stands opens.Blank s n t = (n ≡ 1) × (t ≡ None)
Stands opens.OrderMark s n t = (n ≡ 3) × (t ≡ None)
Stands (opens.Comment last) s n t = ClosesFirst last s n × (t ≡ None)
Stands opens.LineComment s n t = (n ≡ prefix_len is_not_lf s) × (t ≡ None)
Stands opens.Word s n t = (n ≡ prefix_len is_letter_or_digit s) × (t ≡ Some (word (take n s)))
Stands (opens.Literal ty) s n t =
    (l : Literal) × (literal_at ty (drop (length (prefix ty)) s) ≡ Some l) × (n ≡ length (prefix ty) + l.len)
    × (t ≡ Some (tok.Number ty l.value))
Stands opens.Ampersand s n t = (n ≡ 1) × (t ≡ Some (tok.Key key.And))
Stands (opens.Symbol y) s n t = (n ≡ length (spelling y)) × (t ≡ Some (tok.Sym y))
Stands opens.Nothing s n t = ⊥

-- no piece is at the front of s, where this begins there, for this reason
abbrev pub Refuses : Opening → List ℕ → Reason → Type 0
Refuses opens.Nothing s r = r ≡ reason.Byte
Refuses (opens.Comment last) s r = (r ≡ reason.Comment) × ((k : ℕ) → 2 ≤ k → Closes last s k → ⊥)
Refuses (opens.Literal ty) s r = (r ≡ reason.Number) × (literal_at ty (drop (length (prefix ty)) s) ≡ None)
Refuses _ s r = ⊥

-- n bytes at place p of a text, where s is the text from there on, are a gap (None) or a token
abbrev pub StandsAt : ℕ → List ℕ → ℕ → Option Tok → Type 0
StandsAt p s n t = (o : Opening) × Begins p s o × Stands o s n t

-- no piece is there, for this reason
abbrev pub RefusedAt : ℕ → List ℕ → Reason → Type 0
RefusedAt p s r = (o : Opening) × Begins p s o × Refuses o s r

-- a piece of a text, with its token unless it is a gap
pub record Piece : Type 0 where
  pub from : ℕ
  pub to : ℕ
  pub is : Option Tok

-- a piece of the text: some bytes, within it, that are at their place
abbrev pub IsPiece : List ℕ → Piece → Type 0
IsPiece text p =
    (n : ℕ) × (0 < n) × (p.to ≡ p.from + n) × (p.to ≤ length text)
    × StandsAt p.from (drop p.from text) n p.is

-- pieces that adjoin, and cover the text from a to b
abbrev pub Cover : List ℕ → List Piece → ℕ → ℕ → Type 0
Cover text [] a b = a ≡ b
Cover text (p ∷ ps) a b = (p.from ≡ a) × IsPiece text p × Cover text ps p.to b

-- the token of a piece, with the spot of its first byte
abbrev pub token_of : List ℕ → Piece → Option Tok → List Token
token_of text p None = []
token_of text p (Some t) = record { tok = t; from = p.from; to = p.to; spot = spot_at text p.from } ∷ []

abbrev pub tokens_of : List ℕ → List Piece → List Token
tokens_of text [] = []
tokens_of text (p ∷ ps) = token_of text p p.is ++ tokens_of text ps

-- the tokens are those of a reading of the text: pieces that cover it from its first byte to its last
abbrev pub Reads : List ℕ → List Token → Type 0
Reads text ts = (ps : List Piece) × Cover text ps 0 (length text) × (ts ≡ tokens_of text ps)

-- the token has some bytes, and they are in the text
abbrev pub IsInside : List ℕ → Token → Type 0
IsInside text t = (t.from < t.to) × (t.to ≤ length text)

-- pieces cover the text up to byte p, and none is there, for this reason
abbrev pub LexAt : List ℕ → ℕ → Reason → Type 0
LexAt text p r =
    (ps : List Piece) × Cover text ps 0 p × (p < length text) × RefusedAt p (drop p text) r

-- a fault at this spot is reported for this reason: the reading goes no further than the spot's byte
abbrev pub StopsAt : List ℕ → Spot → Reason → Type 0
StopsAt text spot r = (p : ℕ) × LexAt text p r × (spot ≡ spot_at text p)

-- the fault that has a reason and a spot
abbrev pub fault_of : Reason → Spot → LexFault
fault_of reason.Byte spot = fault.Byte spot
fault_of reason.Comment spot = fault.Comment spot
fault_of reason.Number spot = fault.Number spot

-- which fault is reported, unless memory ran out
abbrev pub Faults : List ℕ → LexFault → Type 0
Faults text (fault.Byte spot) = StopsAt text spot reason.Byte
Faults text (fault.Comment spot) = StopsAt text spot reason.Comment
Faults text (fault.Number spot) = StopsAt text spot reason.Number
Faults text fault.Memory = Unit {0}
