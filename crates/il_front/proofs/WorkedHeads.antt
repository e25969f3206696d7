-- WorkedHeads: heads of texts, and their reserved names.
use Rattle.std.proofs.Common.{◌≡◌, ℕ, List, [], ◌∷◌, Some, None, refl}
use Rattle.std.specs.Prelude.{codes}
use Rattle.vcp_base.specs.declared.spot.Spot.{Spot}
use Rattle.st_lexer.specs.declared.token.Key.{Key}
use Rattle.st_lexer.specs.declared.token.Key.TheVariants as key
use Rattle.st_lexer.specs.declared.token.Tok.{Tok}
use Rattle.st_lexer.specs.declared.token.Tok.TheVariants as tok
use Rattle.st_lexer.specs.declared.token.Token.{Token}
use Rattle.st_lexer.specs.Spots.{spot_after}
use Rattle.st_tree.specs.ProgramTree.{DeclaredTree}
use Rattle.il_front.specs.Lines.{head_count, added_end, head_of, head_end, lines_of}
use Rattle.il_front.specs.TypedForm.{first_reserved}

abbrev at : ℕ → ℕ → Spot
at line col = record { line = line; col = col }

abbrev token : Tok → ℕ → ℕ → ℕ → ℕ → Token
token t from to line col = record { tok = t; from = from; to = to; spot = at line col }

abbrev k : Key → ℕ → ℕ → ℕ → ℕ → Token
k w = token (tok.Key w)

abbrev n : ℕ → ℕ → ℕ → ℕ → Token
n = token tok.Name

-- where the added END_PROGRAM stands: behind an empty text, and behind PROGRAM alone
behind-nothing : (added_end [] (head_of [])).spot ≡ at 1 2
unfolding spot_after
behind-nothing = refl

behind-program : (added_end (codes "PROGRAM") (head_of (k key.Program 0 7 1 1 ∷ []))).spot ≡ at 1 9
unfolding spot_after
behind-program = refl

end-of-nothing : head_end [] [] ≡ at 1 13
unfolding spot_after
end-of-nothing = refl

-- LD x, END_PROGRAM: without an END_VAR the head has two tokens
two-tokens : head_count (n 0 2 1 1 ∷ n 3 4 1 4 ∷ k key.EndProgram 5 16 2 1 ∷ []) ≡ 2
two-tokens = refl

-- PROGRAM p VAR END_VAR LD END_VAR x: the head goes through the last END_VAR
last-end-var : head_count (k key.Program 0 7 1 1 ∷ n 8 9 1 9 ∷ k key.Var 10 13 2 1 ∷ k key.EndVar 14 21 2 5 ∷ n 22 24 3 1 ∷ k key.EndVar 25 32 3 4 ∷ n 33 34 4 1
    ∷ []) ≡ 6
last-end-var = refl

-- a, b in a line, and c in the next
two-lines : lines_of (n 0 1 1 1 ∷ n 2 3 1 3 ∷ n 4 5 2 1 ∷ []) ≡ (n 0 1 1 1 ∷ n 2 3 1 3 ∷ []) ∷ (n 4 5 2 1 ∷ []) ∷ []
two-lines = refl

abbrev declared : List ℕ → Spot → DeclaredTree
declared name spot = record { name = name; spot = spot }

reserved-in-capitals : first_reserved (declared (codes "_ACC_int") (at 2 5) ∷ []) ≡ Some (at 2 5)
reserved-in-capitals = refl

first-that-is : first_reserved (declared (codes "a") (at 2 5) ∷ declared (codes "_acc_lint") (at 2 8) ∷ declared (codes "_acc_bool") (at 2 19) ∷ [])
    ≡ Some (at 2 8)
first-that-is = refl

none-is : first_reserved (declared (codes "acc_int") (at 2 5) ∷ declared (codes "_acc_word") (at 2 14) ∷ []) ≡ None
none-is = refl
