-- Looking a word or a symbol up in its table, from place i of the table on.
use Rattle.std.proofs.Common.{◌≡◌, ℕ, ◌+◌, ◌<◌, ◌≤◌, cond, List, ◌∷◌, length, get_or, drop, Some, None, refl, ◌∙◌}
use Rattle.std.specs.Str.{str_eq_ignore_ascii_case}
use Rattle.std.proofs.lemmas.List.{at_drop_more, at_drop_all}
use Rattle.st_lexer.specs.declared.token.Key.{Key}
use Rattle.st_lexer.specs.declared.token.Key.TheVariants as key
use Rattle.st_lexer.specs.declared.token.Sym.{Sym}
use Rattle.st_lexer.specs.declared.token.Sym.TheVariants as sym
use Rattle.st_lexer.specs.Words as words
use Rattle.st_lexer.specs.Symbols as symbols

key-step : (k : Key) (ks : List Key) (w : List ℕ)
    → words.key_among (k ∷ ks) w ≡ cond (str_eq_ignore_ascii_case w (words.spelling k)) (Some k) (words.key_among ks w)
unfolding words.key_among
key-step k ks w = refl

pub key-drop : (ks : List Key) (w : List ℕ) (i : ℕ) → i < length ks
    → words.key_among (drop i ks) w
    ≡ cond (str_eq_ignore_ascii_case w (words.spelling (get_or ks i key.Program))) (Some (get_or ks i key.Program)) (words.key_among (drop (i + 1) ks) w)
key-drop ks w i h = at_drop_more (λ (l : List Key). words.key_among l w) ks i key.Program h ∙ key-step (get_or ks i key.Program) (drop (i + 1) ks) w

pub key-all : (ks : List Key) (w : List ℕ) (i : ℕ) → length ks ≤ i → words.key_among (drop i ks) w ≡ None
unfolding words.key_among
key-all ks w i h = at_drop_all (λ (l : List Key). words.key_among l w) ks i h

pub ruleset key_rules = (key-drop, key-all)

symbol-step : (y : Sym) (ys : List Sym) (s : List ℕ)
    → symbols.symbol_among (y ∷ ys) s ≡ cond (symbols.begins (symbols.spelling y) s) (Some y) (symbols.symbol_among ys s)
unfolding symbols.symbol_among
symbol-step y ys s = refl

pub symbol-drop : (ys : List Sym) (s : List ℕ) (i : ℕ) → i < length ys
    → symbols.symbol_among (drop i ys) s
    ≡ cond (symbols.begins (symbols.spelling (get_or ys i sym.Assign)) s) (Some (get_or ys i sym.Assign)) (symbols.symbol_among (drop (i + 1) ys) s)
symbol-drop ys s i h = at_drop_more (λ (l : List Sym). symbols.symbol_among l s) ys i sym.Assign h ∙ symbol-step (get_or ys i sym.Assign) (drop (i + 1) ys) s

pub symbol-all : (ys : List Sym) (s : List ℕ) (i : ℕ) → length ys ≤ i → symbols.symbol_among (drop i ys) s ≡ None
unfolding symbols.symbol_among
symbol-all ys s i h = at_drop_all (λ (l : List Sym). symbols.symbol_among l s) ys i h

pub ruleset symbol_rules = (symbol-drop, symbol-all)
