-- WorkedFaults: lines that are refused.
use Rattle.std.proofs.Common.{◌≡◌, ℕ, ℤ, pos, List, [], ◌∷◌, ◌++◌, Some, None, Result, Err, refl}
use Rattle.std.specs.Prelude.{codes}
use Rattle.vcp_base.specs.declared.spot.Spot.{Spot}
use Rattle.vcp_base.specs.declared.ty.Ty.TheVariants as ty
use Rattle.st_lexer.specs.declared.token.Key.{Key}
use Rattle.st_lexer.specs.declared.token.Key.TheVariants as key
use Rattle.st_lexer.specs.declared.token.Sym.{Sym}
use Rattle.st_lexer.specs.declared.token.Sym.TheVariants as sym
use Rattle.st_lexer.specs.declared.token.Tok.{Tok}
use Rattle.st_lexer.specs.declared.token.Tok.TheVariants as tok
use Rattle.st_lexer.specs.declared.token.Token.{Token}
use Rattle.st_tree.specs.declared.program.Section.{Section}
use Rattle.st_tree.specs.declared.program.Section.TheVariants as section
use Rattle.vcp_base.specs.declared.ty.Ty.{Ty}
use Rattle.vcp_typed.specs.declared.slot.Slot.{Slot}
use Rattle.il_front.specs.declared.fault.IlFault.{IlFault}
use Rattle.il_front.specs.declared.fault.IlFault.TheVariants as fault
use Rattle.il_front.specs.Accumulator.{Instruction}
use Rattle.il_front.specs.Lines.{lines_of, behind_head}
use Rattle.il_front.specs.Judging.{listed}

abbrev at : ℕ → ℕ → Spot
at line col = record { line = line; col = col }

abbrev token : Tok → ℕ → ℕ → ℕ → ℕ → Token
token t from to line col = record { tok = t; from = from; to = to; spot = at line col }

-- a name, a reserved word, a symbol, and a literal without a type and with one
abbrev n : ℕ → ℕ → ℕ → ℕ → Token
n = token tok.Name

abbrev k : Key → ℕ → ℕ → ℕ → ℕ → Token
k w = token (tok.Key w)

abbrev s : Sym → ℕ → ℕ → ℕ → ℕ → Token
s y = token (tok.Sym y)

abbrev u : ℤ → ℕ → ℕ → ℕ → ℕ → Token
u v = token (tok.Number None v)

abbrev v : Ty → ℤ → ℕ → ℕ → ℕ → ℕ → Token
v t x = token (tok.Number (Some t) x)

abbrev slot : List ℕ → Section → Ty → ℤ → Slot
slot name section t init = record { name = name; spot = at 0 0; section = section; ty = t; init = init }

-- what the lines behind the head come to, where the text ends at the spot `end`
abbrev lines_told : List Slot → List ℕ → List Token → Spot → Result (List Instruction) IlFault
lines_told slots text ts end = listed text slots end None (lines_of (behind_head ts))

-- PROGRAM p VAR_INPUT x : DINT; END_VAR VAR_OUTPUT y : DINT; END_VAR
abbrev text_1 : List ℕ
text_1 = codes "PROGRAM p VAR_INPUT x : DINT; END_VAR VAR_OUTPUT y : DINT; END_VAR"

abbrev tokens_1 : List Token
tokens_1 =
    k key.Program 0 7 1 1 ∷ n 8 9 1 9 ∷ k key.VarInput 10 19 2 1 ∷ n 20 21 2 11 ∷ s sym.Colon 22 23 2 13 ∷ k key.Dint 24 28 2 15 ∷
    s sym.Semi 28 29 2 19 ∷ k key.EndVar 30 37 2 21 ∷ k key.VarOutput 38 48 3 1 ∷ n 49 50 3 12 ∷ s sym.Colon 51 52 3 14 ∷ k key.Dint 53 57 3 16 ∷
    s sym.Semi 57 58 3 20 ∷ k key.EndVar 59 66 3 22 ∷ []

abbrev slots_1 : List Slot
slots_1 = slot (codes "x") section.Input ty.Dint (pos 0) ∷ slot (codes "y") section.Output ty.Dint (pos 0) ∷ []

-- PROGRAM p VAR_INPUT x : DINT; b : BOOL; n : INT; END_VAR VAR_OUTPUT y : DINT; q : BOOL; END_VAR
abbrev text_2 : List ℕ
text_2 = codes "PROGRAM p VAR_INPUT x : DINT; b : BOOL; n : INT; END_VAR VAR_OUTPUT y : DINT; q : BOOL; END_VAR"

abbrev tokens_2 : List Token
tokens_2 =
    k key.Program 0 7 1 1 ∷ n 8 9 1 9 ∷ k key.VarInput 10 19 2 1 ∷ n 20 21 2 11 ∷ s sym.Colon 22 23 2 13 ∷ k key.Dint 24 28 2 15 ∷
    s sym.Semi 28 29 2 19 ∷ n 30 31 2 21 ∷ s sym.Colon 32 33 2 23 ∷ k key.Bool 34 38 2 25 ∷ s sym.Semi 38 39 2 29 ∷ n 40 41 2 31 ∷
    s sym.Colon 42 43 2 33 ∷ k key.Int 44 47 2 35 ∷ s sym.Semi 47 48 2 38 ∷ k key.EndVar 49 56 2 40 ∷ k key.VarOutput 57 67 3 1 ∷ n 68 69 3 12 ∷
    s sym.Colon 70 71 3 14 ∷ k key.Dint 72 76 3 16 ∷ s sym.Semi 76 77 3 20 ∷ n 78 79 3 22 ∷ s sym.Colon 80 81 3 24 ∷ k key.Bool 82 86 3 26 ∷
    s sym.Semi 86 87 3 30 ∷ k key.EndVar 88 95 3 32 ∷ []

abbrev slots_2 : List Slot
slots_2 =
    slot (codes "x") section.Input ty.Dint (pos 0) ∷ slot (codes "b") section.Input ty.Bool (pos 0) ∷ slot (codes "n") section.Input ty.Int (pos 0) ∷
    slot (codes "y") section.Output ty.Dint (pos 0) ∷ slot (codes "q") section.Output ty.Bool (pos 0) ∷ []

-- PROGRAM p VAR CONSTANT C : INT := 3; END_VAR VAR_OUTPUT y : INT; END_VAR
abbrev text_6 : List ℕ
text_6 = codes "PROGRAM p VAR CONSTANT C : INT := 3; END_VAR VAR_OUTPUT y : INT; END_VAR"

abbrev tokens_6 : List Token
tokens_6 =
    k key.Program 0 7 1 1 ∷ n 8 9 1 9 ∷ k key.Var 10 13 2 1 ∷ k key.Constant 14 22 2 5 ∷ n 23 24 2 14 ∷ s sym.Colon 25 26 2 16 ∷
    k key.Int 27 30 2 18 ∷ s sym.Assign 31 33 2 22 ∷ u (pos 3) 34 35 2 25 ∷ s sym.Semi 35 36 2 26 ∷ k key.EndVar 37 44 2 28 ∷
    k key.VarOutput 45 55 3 1 ∷ n 56 57 3 12 ∷ s sym.Colon 58 59 3 14 ∷ k key.Int 60 63 3 16 ∷ s sym.Semi 63 64 3 19 ∷ k key.EndVar 65 72 3 21 ∷ []

abbrev slots_6 : List Slot
slots_6 = slot (codes "y") section.Output ty.Int (pos 0) ∷ []

-- ADD 1; ST y; END_PROGRAM
row-2 : lines_told slots_1 (text_1 ++ codes " ADD 1 ST y END_PROGRAM ")
    (tokens_1 ++ n 67 70 4 1 ∷ u (pos 1) 71 72 4 5 ∷ n 73 75 5 1 ∷ n 76 77 5 4 ∷ k key.EndProgram 78 89 6 1 ∷ []) (at 7 1)
    ≡ Err (fault.Empty (at 4 1))
row-2 = refl

-- FOO x; END_PROGRAM
row-34 : lines_told slots_2 (text_2 ++ codes " FOO x END_PROGRAM ")
    (tokens_2 ++ n 96 99 4 1 ∷ n 100 101 4 5 ∷ k key.EndProgram 102 113 5 1 ∷ []) (at 6 1)
    ≡ Err (fault.Instruction (at 4 1))
row-34 = refl

-- LD; END_PROGRAM
row-35 : lines_told slots_2 (text_2 ++ codes " LD END_PROGRAM ")
    (tokens_2 ++ n 96 98 4 1 ∷ k key.EndProgram 99 110 5 1 ∷ []) (at 6 1)
    ≡ Err (fault.Instruction (at 4 1))
row-35 = refl

-- LD x x; END_PROGRAM
row-36 : lines_told slots_2 (text_2 ++ codes " LD x x END_PROGRAM ")
    (tokens_2 ++ n 96 98 4 1 ∷ n 99 100 4 4 ∷ n 101 102 4 6 ∷ k key.EndProgram 103 114 5 1 ∷ []) (at 6 1)
    ≡ Err (fault.Instruction (at 4 1))
row-36 = refl

-- LD - x; END_PROGRAM
row-37 : lines_told slots_2 (text_2 ++ codes " LD - x END_PROGRAM ")
    (tokens_2 ++ n 96 98 4 1 ∷ s sym.Minus 99 100 4 4 ∷ n 101 102 4 6 ∷ k key.EndProgram 103 114 5 1 ∷ []) (at 6 1)
    ≡ Err (fault.Instruction (at 4 1))
row-37 = refl

-- LD - INT#5; END_PROGRAM
row-38 : lines_told slots_2 (text_2 ++ codes " LD - INT#5 END_PROGRAM ")
    (tokens_2 ++ n 96 98 4 1 ∷ s sym.Minus 99 100 4 4 ∷ v ty.Int (pos 5) 101 106 4 6 ∷ k key.EndProgram 107 118 5 1 ∷ []) (at 6 1)
    ≡ Err (fault.Instruction (at 4 1))
row-38 = refl

-- NOT x; END_PROGRAM
row-39 : lines_told slots_2 (text_2 ++ codes " NOT x END_PROGRAM ")
    (tokens_2 ++ k key.Not 96 99 4 1 ∷ n 100 101 4 5 ∷ k key.EndProgram 102 113 5 1 ∷ []) (at 6 1)
    ≡ Err (fault.Instruction (at 4 1))
row-39 = refl

-- LD x ADD 1; END_PROGRAM
row-40 : lines_told slots_2 (text_2 ++ codes " LD x ADD 1 END_PROGRAM ")
    (tokens_2 ++ n 96 98 4 1 ∷ n 99 100 4 4 ∷ n 101 104 4 6 ∷ u (pos 1) 105 106 4 10 ∷ k key.EndProgram 107 118 5 1 ∷ []) (at 6 1)
    ≡ Err (fault.Instruction (at 4 1))
row-40 = refl

-- LD x; END_PROGRAM; LD x
row-41 : lines_told slots_2 (text_2 ++ codes " LD x END_PROGRAM LD x ")
    (tokens_2 ++ n 96 98 4 1 ∷ n 99 100 4 4 ∷ k key.EndProgram 101 112 5 1 ∷ n 113 115 6 1 ∷ n 116 117 6 4 ∷ []) (at 7 1)
    ≡ Err (fault.Instruction (at 5 1))
row-41 = refl

-- LD x
row-42 : lines_told slots_2 (text_2 ++ codes " LD x ")
    (tokens_2 ++ n 96 98 4 1 ∷ n 99 100 4 4 ∷ []) (at 5 1)
    ≡ Err (fault.Instruction (at 5 1))
row-42 = refl

-- LD x END_PROGRAM
row-43 : lines_told slots_2 (text_2 ++ codes " LD x END_PROGRAM ")
    (tokens_2 ++ n 96 98 4 1 ∷ n 99 100 4 4 ∷ k key.EndProgram 101 112 4 6 ∷ []) (at 5 1)
    ≡ Err (fault.Instruction (at 4 1))
row-43 = refl

--
row-44 : lines_told slots_2 (text_2 ++ codes " ")
    (tokens_2 ++ []) (at 4 1)
    ≡ Err (fault.Instruction (at 4 1))
row-44 = refl

-- LD; x; END_PROGRAM
row-45 : lines_told slots_2 (text_2 ++ codes " LD x END_PROGRAM ")
    (tokens_2 ++ n 96 98 4 1 ∷ n 99 100 5 1 ∷ k key.EndProgram 101 112 6 1 ∷ []) (at 7 1)
    ≡ Err (fault.Instruction (at 4 1))
row-45 = refl

-- LD (x); END_PROGRAM
row-46 : lines_told slots_2 (text_2 ++ codes " LD (x) END_PROGRAM ")
    (tokens_2 ++ n 96 98 4 1 ∷ s sym.LParen 99 100 4 4 ∷ n 100 101 4 5 ∷ s sym.RParen 101 102 4 6 ∷ k key.EndProgram 103 114 5 1 ∷ []) (at 6 1)
    ≡ Err (fault.Instruction (at 4 1))
row-46 = refl

-- l: LD x; END_PROGRAM
row-47 : lines_told slots_2 (text_2 ++ codes " l: LD x END_PROGRAM ")
    (tokens_2 ++ n 96 97 4 1 ∷ s sym.Colon 97 98 4 2 ∷ n 99 101 4 4 ∷ n 102 103 4 7 ∷ k key.EndProgram 104 115 5 1 ∷ []) (at 6 1)
    ≡ Err (fault.Instruction (at 4 1))
row-47 = refl

-- JMP x; END_PROGRAM
row-48 : lines_told slots_2 (text_2 ++ codes " JMP x END_PROGRAM ")
    (tokens_2 ++ n 96 99 4 1 ∷ n 100 101 4 5 ∷ k key.EndProgram 102 113 5 1 ∷ []) (at 6 1)
    ≡ Err (fault.Instruction (at 4 1))
row-48 = refl

-- LD z; END_PROGRAM
row-49 : lines_told slots_2 (text_2 ++ codes " LD z END_PROGRAM ")
    (tokens_2 ++ n 96 98 4 1 ∷ n 99 100 4 4 ∷ k key.EndProgram 101 112 5 1 ∷ []) (at 6 1)
    ≡ Err (fault.Operand (at 4 4))
row-49 = refl

-- LD INT#40000; END_PROGRAM
row-50 : lines_told slots_2 (text_2 ++ codes " LD INT#40000 END_PROGRAM ")
    (tokens_2 ++ n 96 98 4 1 ∷ v ty.Int (pos 40000) 99 108 4 4 ∷ k key.EndProgram 109 120 5 1 ∷ []) (at 6 1)
    ≡ Err (fault.Operand (at 4 4))
row-50 = refl

-- ADD z; END_PROGRAM
row-51 : lines_told slots_2 (text_2 ++ codes " ADD z END_PROGRAM ")
    (tokens_2 ++ n 96 99 4 1 ∷ n 100 101 4 5 ∷ k key.EndProgram 102 113 5 1 ∷ []) (at 6 1)
    ≡ Err (fault.Operand (at 4 5))
row-51 = refl

-- LD x; ST 5; END_PROGRAM
row-52 : lines_told slots_2 (text_2 ++ codes " LD x ST 5 END_PROGRAM ")
    (tokens_2 ++ n 96 98 4 1 ∷ n 99 100 4 4 ∷ n 101 103 5 1 ∷ u (pos 5) 104 105 5 4 ∷ k key.EndProgram 106 117 6 1 ∷ []) (at 7 1)
    ≡ Err (fault.Target (at 5 4))
row-52 = refl

-- LD x; ST x; END_PROGRAM
row-53 : lines_told slots_2 (text_2 ++ codes " LD x ST x END_PROGRAM ")
    (tokens_2 ++ n 96 98 4 1 ∷ n 99 100 4 4 ∷ n 101 103 5 1 ∷ n 104 105 5 4 ∷ k key.EndProgram 106 117 6 1 ∷ []) (at 7 1)
    ≡ Err (fault.Target (at 5 4))
row-53 = refl

-- ST x; END_PROGRAM
row-54 : lines_told slots_2 (text_2 ++ codes " ST x END_PROGRAM ")
    (tokens_2 ++ n 96 98 4 1 ∷ n 99 100 4 4 ∷ k key.EndProgram 101 112 5 1 ∷ []) (at 6 1)
    ≡ Err (fault.Target (at 4 4))
row-54 = refl

-- S TRUE; END_PROGRAM
row-55 : lines_told slots_2 (text_2 ++ codes " S TRUE END_PROGRAM ")
    (tokens_2 ++ n 96 97 4 1 ∷ k key.True 98 102 4 3 ∷ k key.EndProgram 103 114 5 1 ∷ []) (at 6 1)
    ≡ Err (fault.Target (at 4 3))
row-55 = refl

-- ADD x; END_PROGRAM
row-56 : lines_told slots_2 (text_2 ++ codes " ADD x END_PROGRAM ")
    (tokens_2 ++ n 96 99 4 1 ∷ n 100 101 4 5 ∷ k key.EndProgram 102 113 5 1 ∷ []) (at 6 1)
    ≡ Err (fault.Empty (at 4 1))
row-56 = refl

-- NOT; END_PROGRAM
row-57 : lines_told slots_2 (text_2 ++ codes " NOT END_PROGRAM ")
    (tokens_2 ++ k key.Not 96 99 4 1 ∷ k key.EndProgram 100 111 5 1 ∷ []) (at 6 1)
    ≡ Err (fault.Empty (at 4 1))
row-57 = refl

-- ST y; END_PROGRAM
row-58 : lines_told slots_2 (text_2 ++ codes " ST y END_PROGRAM ")
    (tokens_2 ++ n 96 98 4 1 ∷ n 99 100 4 4 ∷ k key.EndProgram 101 112 5 1 ∷ []) (at 6 1)
    ≡ Err (fault.Empty (at 4 1))
row-58 = refl

-- LD x; AND b; END_PROGRAM
row-59 : lines_told slots_2 (text_2 ++ codes " LD x AND b END_PROGRAM ")
    (tokens_2 ++ n 96 98 4 1 ∷ n 99 100 4 4 ∷ k key.And 101 104 5 1 ∷ n 105 106 5 5 ∷ k key.EndProgram 107 118 6 1 ∷ []) (at 7 1)
    ≡ Err (fault.Mismatch (at 5 1))
row-59 = refl

-- LD b; ADD 1; END_PROGRAM
row-60 : lines_told slots_2 (text_2 ++ codes " LD b ADD 1 END_PROGRAM ")
    (tokens_2 ++ n 96 98 4 1 ∷ n 99 100 4 4 ∷ n 101 104 5 1 ∷ u (pos 1) 105 106 5 5 ∷ k key.EndProgram 107 118 6 1 ∷ []) (at 7 1)
    ≡ Err (fault.Mismatch (at 5 1))
row-60 = refl

-- LDN x; END_PROGRAM
row-61 : lines_told slots_2 (text_2 ++ codes " LDN x END_PROGRAM ")
    (tokens_2 ++ n 96 99 4 1 ∷ n 100 101 4 5 ∷ k key.EndProgram 102 113 5 1 ∷ []) (at 6 1)
    ≡ Err (fault.Mismatch (at 4 1))
row-61 = refl

-- LD x; NOT; END_PROGRAM
row-62 : lines_told slots_2 (text_2 ++ codes " LD x NOT END_PROGRAM ")
    (tokens_2 ++ n 96 98 4 1 ∷ n 99 100 4 4 ∷ k key.Not 101 104 5 1 ∷ k key.EndProgram 105 116 6 1 ∷ []) (at 7 1)
    ≡ Err (fault.Mismatch (at 5 1))
row-62 = refl

-- LD b; GT b; END_PROGRAM
row-63 : lines_told slots_2 (text_2 ++ codes " LD b GT b END_PROGRAM ")
    (tokens_2 ++ n 96 98 4 1 ∷ n 99 100 4 4 ∷ n 101 103 5 1 ∷ n 104 105 5 4 ∷ k key.EndProgram 106 117 6 1 ∷ []) (at 7 1)
    ≡ Err (fault.Mismatch (at 5 1))
row-63 = refl

-- LD x; ST q; END_PROGRAM
row-64 : lines_told slots_2 (text_2 ++ codes " LD x ST q END_PROGRAM ")
    (tokens_2 ++ n 96 98 4 1 ∷ n 99 100 4 4 ∷ n 101 103 5 1 ∷ n 104 105 5 4 ∷ k key.EndProgram 106 117 6 1 ∷ []) (at 7 1)
    ≡ Err (fault.Mismatch (at 5 1))
row-64 = refl

-- LD b; ST y; END_PROGRAM
row-65 : lines_told slots_2 (text_2 ++ codes " LD b ST y END_PROGRAM ")
    (tokens_2 ++ n 96 98 4 1 ∷ n 99 100 4 4 ∷ n 101 103 5 1 ∷ n 104 105 5 4 ∷ k key.EndProgram 106 117 6 1 ∷ []) (at 7 1)
    ≡ Err (fault.Mismatch (at 5 1))
row-65 = refl

-- LD x; S q; END_PROGRAM
row-66 : lines_told slots_2 (text_2 ++ codes " LD x S q END_PROGRAM ")
    (tokens_2 ++ n 96 98 4 1 ∷ n 99 100 4 4 ∷ n 101 102 5 1 ∷ n 103 104 5 3 ∷ k key.EndProgram 105 116 6 1 ∷ []) (at 7 1)
    ≡ Err (fault.Mismatch (at 5 1))
row-66 = refl

-- LD b; S y; END_PROGRAM
row-67 : lines_told slots_2 (text_2 ++ codes " LD b S y END_PROGRAM ")
    (tokens_2 ++ n 96 98 4 1 ∷ n 99 100 4 4 ∷ n 101 102 5 1 ∷ n 103 104 5 3 ∷ k key.EndProgram 105 116 6 1 ∷ []) (at 7 1)
    ≡ Err (fault.Mismatch (at 5 1))
row-67 = refl

-- LD 40000; ST n; END_PROGRAM
row-68 : lines_told slots_2 (text_2 ++ codes " LD 40000 ST n END_PROGRAM ")
    (tokens_2 ++ n 96 98 4 1 ∷ u (pos 40000) 99 104 4 4 ∷ n 105 107 5 1 ∷ n 108 109 5 4 ∷ k key.EndProgram 110 121 6 1 ∷ []) (at 7 1)
    ≡ Err (fault.Target (at 5 4))
row-68 = refl

-- LD x; STN y; END_PROGRAM
row-69 : lines_told slots_2 (text_2 ++ codes " LD x STN y END_PROGRAM ")
    (tokens_2 ++ n 96 98 4 1 ∷ n 99 100 4 4 ∷ n 101 104 5 1 ∷ n 105 106 5 5 ∷ k key.EndProgram 107 118 6 1 ∷ []) (at 7 1)
    ≡ Err (fault.Mismatch (at 5 1))
row-69 = refl

-- FOO; LD z; END_PROGRAM
row-70 : lines_told slots_2 (text_2 ++ codes " FOO LD z END_PROGRAM ")
    (tokens_2 ++ n 96 99 4 1 ∷ n 100 102 5 1 ∷ n 103 104 5 4 ∷ k key.EndProgram 105 116 6 1 ∷ []) (at 7 1)
    ≡ Err (fault.Instruction (at 4 1))
row-70 = refl

-- LD x; AND b; FOO; END_PROGRAM
row-71 : lines_told slots_2 (text_2 ++ codes " LD x AND b FOO END_PROGRAM ")
    (tokens_2 ++ n 96 98 4 1 ∷ n 99 100 4 4 ∷ k key.And 101 104 5 1 ∷ n 105 106 5 5 ∷ n 107 110 6 1 ∷ k key.EndProgram 111 122 7 1 ∷ []) (at 8 1)
    ≡ Err (fault.Mismatch (at 5 1))
row-71 = refl

-- LD C; ST y; END_PROGRAM
row-72 : lines_told slots_6 (text_6 ++ codes " LD C ST y END_PROGRAM ")
    (tokens_6 ++ n 73 75 4 1 ∷ n 76 77 4 4 ∷ n 78 80 5 1 ∷ n 81 82 5 4 ∷ k key.EndProgram 83 94 6 1 ∷ []) (at 7 1)
    ≡ Err (fault.Operand (at 4 4))
row-72 = refl
