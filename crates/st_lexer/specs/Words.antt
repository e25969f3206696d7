-- Reserved words: how each is spelled, and which word is one.
use Rattle.std.specs.Prelude.{ℕ, List, [], ◌∷◌, Option, Some, None, if◌then◌else◌, codes}
use Rattle.std.specs.Str.{str_eq_ignore_ascii_case}
use Rattle.st_lexer.specs.declared.token.Key.{Key}
use Rattle.st_lexer.specs.declared.token.Key.TheVariants as key
use Rattle.st_lexer.specs.declared.token.Tok.{Tok}
use Rattle.st_lexer.specs.declared.token.Tok.TheVariants as tok

-- the table of reserved words
abbrev pub spelling : Key → List ℕ
spelling key.Program = codes "PROGRAM"
spelling key.EndProgram = codes "END_PROGRAM"
spelling key.Var = codes "VAR"
spelling key.VarInput = codes "VAR_INPUT"
spelling key.VarOutput = codes "VAR_OUTPUT"
spelling key.Constant = codes "CONSTANT"
spelling key.Retain = codes "RETAIN"
spelling key.EndVar = codes "END_VAR"
spelling key.Bool = codes "BOOL"
spelling key.Int = codes "INT"
spelling key.Dint = codes "DINT"
spelling key.Lint = codes "LINT"
spelling key.If = codes "IF"
spelling key.Then = codes "THEN"
spelling key.Elsif = codes "ELSIF"
spelling key.Else = codes "ELSE"
spelling key.EndIf = codes "END_IF"
spelling key.Case = codes "CASE"
spelling key.Of = codes "OF"
spelling key.EndCase = codes "END_CASE"
spelling key.For = codes "FOR"
spelling key.To = codes "TO"
spelling key.By = codes "BY"
spelling key.Do = codes "DO"
spelling key.EndFor = codes "END_FOR"
spelling key.And = codes "AND"
spelling key.Or = codes "OR"
spelling key.Xor = codes "XOR"
spelling key.Not = codes "NOT"
spelling key.Mod = codes "MOD"
spelling key.True = codes "TRUE"
spelling key.False = codes "FALSE"
spelling key.Sint = codes "SINT"
spelling key.Usint = codes "USINT"
spelling key.Uint = codes "UINT"
spelling key.Udint = codes "UDINT"
spelling key.Ulint = codes "ULINT"
spelling key.Real = codes "REAL"
spelling key.Lreal = codes "LREAL"
spelling key.String = codes "STRING"
spelling key.Time = codes "TIME"
spelling key.Array = codes "ARRAY"
spelling key.Struct = codes "STRUCT"
spelling key.While = codes "WHILE"
spelling key.Repeat = codes "REPEAT"
spelling key.Until = codes "UNTIL"
spelling key.Exit = codes "EXIT"
spelling key.Continue = codes "CONTINUE"
spelling key.Return = codes "RETURN"
spelling key.At = codes "AT"
spelling key.Function = codes "FUNCTION"
spelling key.FunctionBlock = codes "FUNCTION_BLOCK"

-- all reserved words
abbrev pub all_keys : List Key
all_keys =
    key.Program ∷ key.EndProgram ∷ key.Var ∷ key.VarInput ∷ key.VarOutput ∷ key.Constant ∷
    key.Retain ∷ key.EndVar ∷ key.Bool ∷ key.Int ∷ key.Dint ∷ key.Lint ∷
    key.If ∷ key.Then ∷ key.Elsif ∷ key.Else ∷ key.EndIf ∷ key.Case ∷
    key.Of ∷ key.EndCase ∷ key.For ∷ key.To ∷ key.By ∷ key.Do ∷
    key.EndFor ∷ key.And ∷ key.Or ∷ key.Xor ∷ key.Not ∷ key.Mod ∷
    key.True ∷ key.False ∷ key.Sint ∷ key.Usint ∷ key.Uint ∷ key.Udint ∷
    key.Ulint ∷ key.Real ∷ key.Lreal ∷ key.String ∷ key.Time ∷ key.Array ∷
    key.Struct ∷ key.While ∷ key.Repeat ∷ key.Until ∷ key.Exit ∷ key.Continue ∷
    key.Return ∷ key.At ∷ key.Function ∷ key.FunctionBlock ∷ []

-- the first of the reserved words whose spelling w is, without regard to case
unfoldable pub key_among : List Key → List ℕ → Option Key
key_among [] w = None
key_among (k ∷ ks) w = if str_eq_ignore_ascii_case w (spelling k) then Some k else key_among ks w

-- the token of the reserved word that was found, else a name
abbrev pub key_or_name : Option Key → Tok
key_or_name None = tok.Name
key_or_name (Some k) = tok.Key k

-- a word is a reserved word or a name
abbrev pub word : List ℕ → Tok
word w = key_or_name (key_among all_keys w)
