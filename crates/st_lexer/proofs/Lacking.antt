-- The tables lack no symbol and no reserved word.
use Rattle.std.proofs.Common.{◌≡◌, ℕ, Bool, true, false, cond, refl, List, [], ◌∷◌, Option, Some, None}
use Rattle.st_lexer.specs.declared.token.Key.{Key}
use Rattle.st_lexer.specs.declared.token.Key.TheVariants as key
use Rattle.st_lexer.specs.declared.token.Sym.{Sym}
use Rattle.st_lexer.specs.declared.token.Sym.TheVariants as symbol
use Rattle.st_lexer.specs.declared.token.Tok.TheVariants as tok
use Rattle.st_lexer.specs.Symbols.{begins, spelling, all_symbols, symbol_among}
use Rattle.st_lexer.specs.Words as words

other-case : (t : Bool) (y : Sym) (later : Option Sym) → cond t (Some y) later ≡ None → (t ≡ false) × (later ≡ None)
other-case true y later e = absurd cc
other-case false y later e = (refl, e)

-- a text begins with none of these symbols
abbrev NoneOf : List Sym → List ℕ → Type 0
NoneOf [] s = Unit {0}
NoneOf (y ∷ ys) s = (begins (spelling y) s ≡ false) × NoneOf ys s

-- where no symbol is found, the text begins with none of them
none-begins : (ys : List Sym) (s : List ℕ) → symbol_among ys s ≡ None → NoneOf ys s
unfolding symbol_among
none-begins [] s e = tt
none-begins (y ∷ ys) s e = let c = other-case (begins (spelling y) s) y (symbol_among ys s) e in (c.0, none-begins ys s c.1)

at-symbol : (s : List ℕ) (z : Sym) → NoneOf all_symbols s → begins (spelling z) s ≡ false
at-symbol s symbol.Assign h = h.0
at-symbol s symbol.Colon h = h.1.0
at-symbol s symbol.Semi h = h.1.1.0
at-symbol s symbol.Comma h = h.1.1.1.0
at-symbol s symbol.LParen h = h.1.1.1.1.0
at-symbol s symbol.RParen h = h.1.1.1.1.1.0
at-symbol s symbol.DotDot h = h.1.1.1.1.1.1.0
at-symbol s symbol.Plus h = h.1.1.1.1.1.1.1.0
at-symbol s symbol.Minus h = h.1.1.1.1.1.1.1.1.0
at-symbol s symbol.Star h = h.1.1.1.1.1.1.1.1.1.0
at-symbol s symbol.Slash h = h.1.1.1.1.1.1.1.1.1.1.0
at-symbol s symbol.Eq h = h.1.1.1.1.1.1.1.1.1.1.1.0
at-symbol s symbol.Ne h = h.1.1.1.1.1.1.1.1.1.1.1.1.0
at-symbol s symbol.Le h = h.1.1.1.1.1.1.1.1.1.1.1.1.1.0
at-symbol s symbol.Ge h = h.1.1.1.1.1.1.1.1.1.1.1.1.1.1.0
at-symbol s symbol.Lt h = h.1.1.1.1.1.1.1.1.1.1.1.1.1.1.1.0
at-symbol s symbol.Gt h = h.1.1.1.1.1.1.1.1.1.1.1.1.1.1.1.1.0

pub every-symbol : (s : List ℕ) (z : Sym) → symbol_among all_symbols s ≡ None → begins (spelling z) s ≡ false
every-symbol s z e = at-symbol s z (none-begins all_symbols s e)

found-case : (s : List ℕ) (y z : Sym) (t : Bool) → begins (spelling y) s ≡ t → (later : Option Sym) → (later ≡ Some z → begins (spelling z) s ≡ true)
    → cond t (Some y) later ≡ Some z → begins (spelling z) s ≡ true
found-case s y z true b later f e = let same : y ≡ z = cc in rw same at b
found-case s y z false b later f e = f e

found-begins : (ys : List Sym) (s : List ℕ) (z : Sym) → symbol_among ys s ≡ Some z → begins (spelling z) s ≡ true
unfolding symbol_among
found-begins [] s z e = cc
found-begins (y ∷ ys) s z e = found-case s y z (begins (spelling y) s) refl (symbol_among ys s) (found-begins ys s z) e

-- the symbol that is found is one with which the text begins
pub symbol-begins : (s : List ℕ) (z : Sym) → symbol_among all_symbols s ≡ Some z → begins (spelling z) s ≡ true
symbol-begins s z e = found-begins all_symbols s z e

-- each reserved word is found by its spelling
pub every-word : (k : Key) → words.word (words.spelling k) ≡ tok.Key k
unfolding words.key_among
every-word key.Program = refl
every-word key.EndProgram = refl
every-word key.Var = refl
every-word key.VarInput = refl
every-word key.VarOutput = refl
every-word key.Constant = refl
every-word key.Retain = refl
every-word key.EndVar = refl
every-word key.Bool = refl
every-word key.Int = refl
every-word key.Dint = refl
every-word key.Lint = refl
every-word key.If = refl
every-word key.Then = refl
every-word key.Elsif = refl
every-word key.Else = refl
every-word key.EndIf = refl
every-word key.Case = refl
every-word key.Of = refl
every-word key.EndCase = refl
every-word key.For = refl
every-word key.To = refl
every-word key.By = refl
every-word key.Do = refl
every-word key.EndFor = refl
every-word key.And = refl
every-word key.Or = refl
every-word key.Xor = refl
every-word key.Not = refl
every-word key.Mod = refl
every-word key.True = refl
every-word key.False = refl
every-word key.Sint = refl
every-word key.Usint = refl
every-word key.Uint = refl
every-word key.Udint = refl
every-word key.Ulint = refl
every-word key.Real = refl
every-word key.Lreal = refl
every-word key.String = refl
every-word key.Time = refl
every-word key.Array = refl
every-word key.Struct = refl
every-word key.While = refl
every-word key.Repeat = refl
every-word key.Until = refl
every-word key.Exit = refl
every-word key.Continue = refl
every-word key.Return = refl
every-word key.At = refl
every-word key.Function = refl
every-word key.FunctionBlock = refl
