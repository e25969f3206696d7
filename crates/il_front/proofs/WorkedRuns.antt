-- WorkedRuns: runs of instruction lists, by the accumulator and by the typed program.
use Rattle.std.proofs.Common.{◌≡◌, ℕ, ℤ, pos, negsuc, List, [], ◌∷◌, ◌++◌, Option, Some, None, Result, Ok, Err, refl}
use Rattle.std.specs.Prelude.{codes}
use Rattle.vcp_base.specs.declared.spot.Spot.{Spot}
use Rattle.vcp_base.specs.declared.ty.Ty.TheVariants as ty
use Rattle.vcp_base.specs.declared.kind.StopKind.TheVariants as why
use Rattle.st_lexer.specs.declared.token.Key.{Key}
use Rattle.st_lexer.specs.declared.token.Key.TheVariants as key
use Rattle.st_lexer.specs.declared.token.Sym.{Sym}
use Rattle.st_lexer.specs.declared.token.Sym.TheVariants as sym
use Rattle.st_lexer.specs.declared.token.Tok.{Tok}
use Rattle.st_lexer.specs.declared.token.Tok.TheVariants as tok
use Rattle.st_lexer.specs.declared.token.Token.{Token}
use Rattle.st_tree.specs.declared.program.Section.{Section}
use Rattle.st_tree.specs.declared.program.Section.TheVariants as section
use Rattle.vcp_base.specs.declared.ty.Ty.{Ty}
use Rattle.vcp_typed.specs.Meaning.{Stop}
use Rattle.vcp_typed.specs.declared.slot.Slot.{Slot}
use Rattle.vcp_typed.specs.SourceRun.{Run, source_run}
use Rattle.il_front.specs.declared.fault.IlFault.{IlFault}
use Rattle.il_front.specs.Accumulator.{Instruction, acc_run}
use Rattle.il_front.specs.Lines.{lines_of, behind_head}
use Rattle.il_front.specs.Judging.{listed}
use Rattle.il_front.specs.TypedForm.{typed_il}

abbrev at : ℕ → ℕ → Spot
at line col = record { line = line; col = col }

abbrev token : Tok → ℕ → ℕ → ℕ → ℕ → Token
token t from to line col = record { tok = t; from = from; to = to; spot = at line col }

-- a name, a reserved word, a symbol, and a literal without a type and with one
abbrev n : ℕ → ℕ → ℕ → ℕ → Token
n = token tok.Name

abbrev k : Key → ℕ → ℕ → ℕ → ℕ → Token
k w = token (tok.Key w)

abbrev s : Sym → ℕ → ℕ → ℕ → ℕ → Token
s y = token (tok.Sym y)

abbrev u : ℤ → ℕ → ℕ → ℕ → ℕ → Token
u v = token (tok.Number None v)

abbrev v : Ty → ℤ → ℕ → ℕ → ℕ → ℕ → Token
v t x = token (tok.Number (Some t) x)

abbrev slot : List ℕ → Section → Ty → ℤ → Slot
slot name section t init = record { name = name; spot = at 0 0; section = section; ty = t; init = init }

-- what the lines behind the head come to, where the text ends at the spot `end`
abbrev lines_told : List Slot → List ℕ → List Token → Spot → Result (List Instruction) IlFault
lines_told slots text ts end = listed text slots end None (lines_of (behind_head ts))

-- the accumulator's run, and that of the typed program
abbrev both_runs : List Slot → List (List ℤ) → Result (List Instruction) IlFault → Option (Run × Run)
both_runs slots rows (Ok code) =
    Some (acc_run (record { slots = slots; code = code }) rows, source_run (typed_il (record { slots = slots; code = code })) rows)
both_runs slots rows (Err f) = None

abbrev twice : List (List ℤ) → Option Stop → Option (Run × Run)
twice rows end = let run : Run = record { rows = rows; end = end } in Some (run, run)

-- PROGRAM p VAR_INPUT x : DINT; END_VAR VAR_OUTPUT y : DINT; END_VAR
abbrev text_1 : List ℕ
text_1 = codes "PROGRAM p VAR_INPUT x : DINT; END_VAR VAR_OUTPUT y : DINT; END_VAR"

abbrev tokens_1 : List Token
tokens_1 =
    k key.Program 0 7 1 1 ∷ n 8 9 1 9 ∷ k key.VarInput 10 19 2 1 ∷ n 20 21 2 11 ∷ s sym.Colon 22 23 2 13 ∷ k key.Dint 24 28 2 15 ∷
    s sym.Semi 28 29 2 19 ∷ k key.EndVar 30 37 2 21 ∷ k key.VarOutput 38 48 3 1 ∷ n 49 50 3 12 ∷ s sym.Colon 51 52 3 14 ∷ k key.Dint 53 57 3 16 ∷
    s sym.Semi 57 58 3 20 ∷ k key.EndVar 59 66 3 22 ∷ []

abbrev slots_1 : List Slot
slots_1 = slot (codes "x") section.Input ty.Dint (pos 0) ∷ slot (codes "y") section.Output ty.Dint (pos 0) ∷ []

-- PROGRAM p VAR_INPUT x : DINT; b : BOOL; n : INT; END_VAR VAR_OUTPUT y : DINT; q : BOOL; END_VAR
abbrev text_2 : List ℕ
text_2 = codes "PROGRAM p VAR_INPUT x : DINT; b : BOOL; n : INT; END_VAR VAR_OUTPUT y : DINT; q : BOOL; END_VAR"

abbrev tokens_2 : List Token
tokens_2 =
    k key.Program 0 7 1 1 ∷ n 8 9 1 9 ∷ k key.VarInput 10 19 2 1 ∷ n 20 21 2 11 ∷ s sym.Colon 22 23 2 13 ∷ k key.Dint 24 28 2 15 ∷
    s sym.Semi 28 29 2 19 ∷ n 30 31 2 21 ∷ s sym.Colon 32 33 2 23 ∷ k key.Bool 34 38 2 25 ∷ s sym.Semi 38 39 2 29 ∷ n 40 41 2 31 ∷
    s sym.Colon 42 43 2 33 ∷ k key.Int 44 47 2 35 ∷ s sym.Semi 47 48 2 38 ∷ k key.EndVar 49 56 2 40 ∷ k key.VarOutput 57 67 3 1 ∷ n 68 69 3 12 ∷
    s sym.Colon 70 71 3 14 ∷ k key.Dint 72 76 3 16 ∷ s sym.Semi 76 77 3 20 ∷ n 78 79 3 22 ∷ s sym.Colon 80 81 3 24 ∷ k key.Bool 82 86 3 26 ∷
    s sym.Semi 86 87 3 30 ∷ k key.EndVar 88 95 3 32 ∷ []

abbrev slots_2 : List Slot
slots_2 =
    slot (codes "x") section.Input ty.Dint (pos 0) ∷ slot (codes "b") section.Input ty.Bool (pos 0) ∷ slot (codes "n") section.Input ty.Int (pos 0) ∷
    slot (codes "y") section.Output ty.Dint (pos 0) ∷ slot (codes "q") section.Output ty.Bool (pos 0) ∷ []

-- PROGRAM p VAR_OUTPUT w : BOOL; q : BOOL := TRUE; END_VAR
abbrev text_3 : List ℕ
text_3 = codes "PROGRAM p VAR_OUTPUT w : BOOL; q : BOOL := TRUE; END_VAR"

abbrev tokens_3 : List Token
tokens_3 =
    k key.Program 0 7 1 1 ∷ n 8 9 1 9 ∷ k key.VarOutput 10 20 2 1 ∷ n 21 22 2 12 ∷ s sym.Colon 23 24 2 14 ∷ k key.Bool 25 29 2 16 ∷
    s sym.Semi 29 30 2 20 ∷ n 31 32 2 22 ∷ s sym.Colon 33 34 2 24 ∷ k key.Bool 35 39 2 26 ∷ s sym.Assign 40 42 2 31 ∷ k key.True 43 47 2 34 ∷
    s sym.Semi 47 48 2 38 ∷ k key.EndVar 49 56 2 40 ∷ []

abbrev slots_3 : List Slot
slots_3 = slot (codes "w") section.Output ty.Bool (pos 0) ∷ slot (codes "q") section.Output ty.Bool (pos 1) ∷ []

-- PROGRAM p VAR_INPUT x : LINT; END_VAR VAR_OUTPUT y : LINT; END_VAR
abbrev text_4 : List ℕ
text_4 = codes "PROGRAM p VAR_INPUT x : LINT; END_VAR VAR_OUTPUT y : LINT; END_VAR"

abbrev tokens_4 : List Token
tokens_4 =
    k key.Program 0 7 1 1 ∷ n 8 9 1 9 ∷ k key.VarInput 10 19 2 1 ∷ n 20 21 2 11 ∷ s sym.Colon 22 23 2 13 ∷ k key.Lint 24 28 2 15 ∷
    s sym.Semi 28 29 2 19 ∷ k key.EndVar 30 37 2 21 ∷ k key.VarOutput 38 48 3 1 ∷ n 49 50 3 12 ∷ s sym.Colon 51 52 3 14 ∷ k key.Lint 53 57 3 16 ∷
    s sym.Semi 57 58 3 20 ∷ k key.EndVar 59 66 3 22 ∷ []

abbrev slots_4 : List Slot
slots_4 = slot (codes "x") section.Input ty.Lint (pos 0) ∷ slot (codes "y") section.Output ty.Lint (pos 0) ∷ []

-- PROGRAM p VAR_OUTPUT y : INT; END_VAR VAR k : INT; END_VAR
abbrev text_5 : List ℕ
text_5 = codes "PROGRAM p VAR_OUTPUT y : INT; END_VAR VAR k : INT; END_VAR"

abbrev tokens_5 : List Token
tokens_5 =
    k key.Program 0 7 1 1 ∷ n 8 9 1 9 ∷ k key.VarOutput 10 20 2 1 ∷ n 21 22 2 12 ∷ s sym.Colon 23 24 2 14 ∷ k key.Int 25 28 2 16 ∷
    s sym.Semi 28 29 2 19 ∷ k key.EndVar 30 37 2 21 ∷ k key.Var 38 41 3 1 ∷ n 42 43 3 5 ∷ s sym.Colon 44 45 3 7 ∷ k key.Int 46 49 3 9 ∷
    s sym.Semi 49 50 3 12 ∷ k key.EndVar 51 58 3 14 ∷ []

abbrev slots_5 : List Slot
slots_5 = slot (codes "y") section.Output ty.Int (pos 0) ∷ slot (codes "k") section.Local ty.Int (pos 0) ∷ []

-- LD x; ADD 1; ST y; END_PROGRAM
row-1 : both_runs slots_1 ((pos 5 ∷ []) ∷ (pos 2147483647 ∷ []) ∷ [])
    (lines_told slots_1 (text_1 ++ codes " LD x ADD 1 ST y END_PROGRAM ")
    (tokens_1 ++ n 67 69 4 1 ∷ n 70 71 4 4 ∷ n 72 75 5 1 ∷ u (pos 1) 76 77 5 5 ∷ n 78 80 6 1 ∷ n 81 82 6 4 ∷ k key.EndProgram 83 94 7 1 ∷
    []) (at 8 1))
    ≡ twice ((pos 6 ∷ []) ∷ []) (Some (record { kind = why.Range; spot = at 5 1; turns = [] }))
row-1 = refl

-- LD x; ADD n; ST y; END_PROGRAM
row-3 : both_runs slots_2 ((pos 5 ∷ pos 1 ∷ pos 3 ∷ []) ∷ (negsuc 6 ∷ pos 0 ∷ pos 2 ∷ []) ∷ (pos 0 ∷ pos 1 ∷ negsuc 32767 ∷ []) ∷ [])
    (lines_told slots_2 (text_2 ++ codes " LD x ADD n ST y END_PROGRAM ")
    (tokens_2 ++ n 96 98 4 1 ∷ n 99 100 4 4 ∷ n 101 104 5 1 ∷ n 105 106 5 5 ∷ n 107 109 6 1 ∷ n 110 111 6 4 ∷ k key.EndProgram 112 123 7 1 ∷
    []) (at 8 1))
    ≡ twice ((pos 8 ∷ pos 0 ∷ []) ∷ (negsuc 4 ∷ pos 0 ∷ []) ∷ (negsuc 32767 ∷ pos 0 ∷ []) ∷ []) None
row-3 = refl

-- LD x; SUB n; ST y; END_PROGRAM
row-4 : both_runs slots_2 ((pos 5 ∷ pos 1 ∷ pos 3 ∷ []) ∷ (negsuc 6 ∷ pos 0 ∷ pos 2 ∷ []) ∷ (pos 0 ∷ pos 1 ∷ negsuc 32767 ∷ []) ∷ [])
    (lines_told slots_2 (text_2 ++ codes " LD x SUB n ST y END_PROGRAM ")
    (tokens_2 ++ n 96 98 4 1 ∷ n 99 100 4 4 ∷ n 101 104 5 1 ∷ n 105 106 5 5 ∷ n 107 109 6 1 ∷ n 110 111 6 4 ∷ k key.EndProgram 112 123 7 1 ∷
    []) (at 8 1))
    ≡ twice ((pos 2 ∷ pos 0 ∷ []) ∷ (negsuc 8 ∷ pos 0 ∷ []) ∷ (pos 32768 ∷ pos 0 ∷ []) ∷ []) None
row-4 = refl

-- LD x; MUL n; ST y; END_PROGRAM
row-5 : both_runs slots_2 ((pos 5 ∷ pos 1 ∷ pos 3 ∷ []) ∷ (negsuc 6 ∷ pos 0 ∷ pos 2 ∷ []) ∷ (pos 0 ∷ pos 1 ∷ negsuc 32767 ∷ []) ∷ [])
    (lines_told slots_2 (text_2 ++ codes " LD x MUL n ST y END_PROGRAM ")
    (tokens_2 ++ n 96 98 4 1 ∷ n 99 100 4 4 ∷ n 101 104 5 1 ∷ n 105 106 5 5 ∷ n 107 109 6 1 ∷ n 110 111 6 4 ∷ k key.EndProgram 112 123 7 1 ∷
    []) (at 8 1))
    ≡ twice ((pos 15 ∷ pos 0 ∷ []) ∷ (negsuc 13 ∷ pos 0 ∷ []) ∷ (pos 0 ∷ pos 0 ∷ []) ∷ []) None
row-5 = refl

-- LD x; DIV n; ST y; END_PROGRAM
row-6 : both_runs slots_2 ((pos 5 ∷ pos 1 ∷ pos 3 ∷ []) ∷ (negsuc 6 ∷ pos 0 ∷ pos 2 ∷ []) ∷ (pos 0 ∷ pos 1 ∷ negsuc 32767 ∷ []) ∷ [])
    (lines_told slots_2 (text_2 ++ codes " LD x DIV n ST y END_PROGRAM ")
    (tokens_2 ++ n 96 98 4 1 ∷ n 99 100 4 4 ∷ n 101 104 5 1 ∷ n 105 106 5 5 ∷ n 107 109 6 1 ∷ n 110 111 6 4 ∷ k key.EndProgram 112 123 7 1 ∷
    []) (at 8 1))
    ≡ twice ((pos 1 ∷ pos 0 ∷ []) ∷ (negsuc 2 ∷ pos 0 ∷ []) ∷ (pos 0 ∷ pos 0 ∷ []) ∷ []) None
row-6 = refl

-- LD x; MOD n; ST y; END_PROGRAM
row-7 : both_runs slots_2 ((pos 5 ∷ pos 1 ∷ pos 3 ∷ []) ∷ (negsuc 6 ∷ pos 0 ∷ pos 2 ∷ []) ∷ (pos 0 ∷ pos 1 ∷ negsuc 32767 ∷ []) ∷ [])
    (lines_told slots_2 (text_2 ++ codes " LD x MOD n ST y END_PROGRAM ")
    (tokens_2 ++ n 96 98 4 1 ∷ n 99 100 4 4 ∷ k key.Mod 101 104 5 1 ∷ n 105 106 5 5 ∷ n 107 109 6 1 ∷ n 110 111 6 4 ∷ k key.EndProgram 112 123 7 1 ∷
    []) (at 8 1))
    ≡ twice ((pos 2 ∷ pos 0 ∷ []) ∷ (negsuc 0 ∷ pos 0 ∷ []) ∷ (pos 0 ∷ pos 0 ∷ []) ∷ []) None
row-7 = refl

-- LD x; GT -7; ST q; END_PROGRAM
row-8 : both_runs slots_2 ((pos 5 ∷ pos 1 ∷ pos 3 ∷ []) ∷ (negsuc 6 ∷ pos 0 ∷ pos 2 ∷ []) ∷ (pos 0 ∷ pos 1 ∷ negsuc 32767 ∷ []) ∷ [])
    (lines_told slots_2 (text_2 ++ codes " LD x GT -7 ST q END_PROGRAM ")
    (tokens_2 ++ n 96 98 4 1 ∷ n 99 100 4 4 ∷ n 101 103 5 1 ∷ s sym.Minus 104 105 5 4 ∷ u (pos 7) 105 106 5 5 ∷ n 107 109 6 1 ∷ n 110 111 6 4 ∷
    k key.EndProgram 112 123 7 1 ∷ []) (at 8 1))
    ≡ twice ((pos 0 ∷ pos 1 ∷ []) ∷ (pos 0 ∷ pos 0 ∷ []) ∷ (pos 0 ∷ pos 1 ∷ []) ∷ []) None
row-8 = refl

-- LD x; GE -7; ST q; END_PROGRAM
row-9 : both_runs slots_2 ((pos 5 ∷ pos 1 ∷ pos 3 ∷ []) ∷ (negsuc 6 ∷ pos 0 ∷ pos 2 ∷ []) ∷ (pos 0 ∷ pos 1 ∷ negsuc 32767 ∷ []) ∷ [])
    (lines_told slots_2 (text_2 ++ codes " LD x GE -7 ST q END_PROGRAM ")
    (tokens_2 ++ n 96 98 4 1 ∷ n 99 100 4 4 ∷ n 101 103 5 1 ∷ s sym.Minus 104 105 5 4 ∷ u (pos 7) 105 106 5 5 ∷ n 107 109 6 1 ∷ n 110 111 6 4 ∷
    k key.EndProgram 112 123 7 1 ∷ []) (at 8 1))
    ≡ twice ((pos 0 ∷ pos 1 ∷ []) ∷ (pos 0 ∷ pos 1 ∷ []) ∷ (pos 0 ∷ pos 1 ∷ []) ∷ []) None
row-9 = refl

-- LD x; EQ -7; ST q; END_PROGRAM
row-10 : both_runs slots_2 ((pos 5 ∷ pos 1 ∷ pos 3 ∷ []) ∷ (negsuc 6 ∷ pos 0 ∷ pos 2 ∷ []) ∷ (pos 0 ∷ pos 1 ∷ negsuc 32767 ∷ []) ∷ [])
    (lines_told slots_2 (text_2 ++ codes " LD x EQ -7 ST q END_PROGRAM ")
    (tokens_2 ++ n 96 98 4 1 ∷ n 99 100 4 4 ∷ n 101 103 5 1 ∷ s sym.Minus 104 105 5 4 ∷ u (pos 7) 105 106 5 5 ∷ n 107 109 6 1 ∷ n 110 111 6 4 ∷
    k key.EndProgram 112 123 7 1 ∷ []) (at 8 1))
    ≡ twice ((pos 0 ∷ pos 0 ∷ []) ∷ (pos 0 ∷ pos 1 ∷ []) ∷ (pos 0 ∷ pos 0 ∷ []) ∷ []) None
row-10 = refl

-- LD x; NE -7; ST q; END_PROGRAM
row-11 : both_runs slots_2 ((pos 5 ∷ pos 1 ∷ pos 3 ∷ []) ∷ (negsuc 6 ∷ pos 0 ∷ pos 2 ∷ []) ∷ (pos 0 ∷ pos 1 ∷ negsuc 32767 ∷ []) ∷ [])
    (lines_told slots_2 (text_2 ++ codes " LD x NE -7 ST q END_PROGRAM ")
    (tokens_2 ++ n 96 98 4 1 ∷ n 99 100 4 4 ∷ n 101 103 5 1 ∷ s sym.Minus 104 105 5 4 ∷ u (pos 7) 105 106 5 5 ∷ n 107 109 6 1 ∷ n 110 111 6 4 ∷
    k key.EndProgram 112 123 7 1 ∷ []) (at 8 1))
    ≡ twice ((pos 0 ∷ pos 1 ∷ []) ∷ (pos 0 ∷ pos 0 ∷ []) ∷ (pos 0 ∷ pos 1 ∷ []) ∷ []) None
row-11 = refl

-- LD x; LE -7; ST q; END_PROGRAM
row-12 : both_runs slots_2 ((pos 5 ∷ pos 1 ∷ pos 3 ∷ []) ∷ (negsuc 6 ∷ pos 0 ∷ pos 2 ∷ []) ∷ (pos 0 ∷ pos 1 ∷ negsuc 32767 ∷ []) ∷ [])
    (lines_told slots_2 (text_2 ++ codes " LD x LE -7 ST q END_PROGRAM ")
    (tokens_2 ++ n 96 98 4 1 ∷ n 99 100 4 4 ∷ n 101 103 5 1 ∷ s sym.Minus 104 105 5 4 ∷ u (pos 7) 105 106 5 5 ∷ n 107 109 6 1 ∷ n 110 111 6 4 ∷
    k key.EndProgram 112 123 7 1 ∷ []) (at 8 1))
    ≡ twice ((pos 0 ∷ pos 0 ∷ []) ∷ (pos 0 ∷ pos 1 ∷ []) ∷ (pos 0 ∷ pos 0 ∷ []) ∷ []) None
row-12 = refl

-- LD x; LT -7; ST q; END_PROGRAM
row-13 : both_runs slots_2 ((pos 5 ∷ pos 1 ∷ pos 3 ∷ []) ∷ (negsuc 6 ∷ pos 0 ∷ pos 2 ∷ []) ∷ (pos 0 ∷ pos 1 ∷ negsuc 32767 ∷ []) ∷ [])
    (lines_told slots_2 (text_2 ++ codes " LD x LT -7 ST q END_PROGRAM ")
    (tokens_2 ++ n 96 98 4 1 ∷ n 99 100 4 4 ∷ n 101 103 5 1 ∷ s sym.Minus 104 105 5 4 ∷ u (pos 7) 105 106 5 5 ∷ n 107 109 6 1 ∷ n 110 111 6 4 ∷
    k key.EndProgram 112 123 7 1 ∷ []) (at 8 1))
    ≡ twice ((pos 0 ∷ pos 0 ∷ []) ∷ (pos 0 ∷ pos 0 ∷ []) ∷ (pos 0 ∷ pos 0 ∷ []) ∷ []) None
row-13 = refl

-- LD TRUE; AND b; ST q; END_PROGRAM
row-14 : both_runs slots_2 ((pos 5 ∷ pos 1 ∷ pos 3 ∷ []) ∷ (negsuc 6 ∷ pos 0 ∷ pos 2 ∷ []) ∷ (pos 0 ∷ pos 1 ∷ negsuc 32767 ∷ []) ∷ [])
    (lines_told slots_2 (text_2 ++ codes " LD TRUE AND b ST q END_PROGRAM ")
    (tokens_2 ++ n 96 98 4 1 ∷ k key.True 99 103 4 4 ∷ k key.And 104 107 5 1 ∷ n 108 109 5 5 ∷ n 110 112 6 1 ∷ n 113 114 6 4 ∷
    k key.EndProgram 115 126 7 1 ∷ []) (at 8 1))
    ≡ twice ((pos 0 ∷ pos 1 ∷ []) ∷ (pos 0 ∷ pos 0 ∷ []) ∷ (pos 0 ∷ pos 1 ∷ []) ∷ []) None
row-14 = refl

-- LD TRUE; ANDN b; ST q; END_PROGRAM
row-15 : both_runs slots_2 ((pos 5 ∷ pos 1 ∷ pos 3 ∷ []) ∷ (negsuc 6 ∷ pos 0 ∷ pos 2 ∷ []) ∷ (pos 0 ∷ pos 1 ∷ negsuc 32767 ∷ []) ∷ [])
    (lines_told slots_2 (text_2 ++ codes " LD TRUE ANDN b ST q END_PROGRAM ")
    (tokens_2 ++ n 96 98 4 1 ∷ k key.True 99 103 4 4 ∷ n 104 108 5 1 ∷ n 109 110 5 6 ∷ n 111 113 6 1 ∷ n 114 115 6 4 ∷ k key.EndProgram 116 127 7 1 ∷
    []) (at 8 1))
    ≡ twice ((pos 0 ∷ pos 0 ∷ []) ∷ (pos 0 ∷ pos 1 ∷ []) ∷ (pos 0 ∷ pos 0 ∷ []) ∷ []) None
row-15 = refl

-- LD TRUE; OR b; ST q; END_PROGRAM
row-16 : both_runs slots_2 ((pos 5 ∷ pos 1 ∷ pos 3 ∷ []) ∷ (negsuc 6 ∷ pos 0 ∷ pos 2 ∷ []) ∷ (pos 0 ∷ pos 1 ∷ negsuc 32767 ∷ []) ∷ [])
    (lines_told slots_2 (text_2 ++ codes " LD TRUE OR b ST q END_PROGRAM ")
    (tokens_2 ++ n 96 98 4 1 ∷ k key.True 99 103 4 4 ∷ k key.Or 104 106 5 1 ∷ n 107 108 5 4 ∷ n 109 111 6 1 ∷ n 112 113 6 4 ∷
    k key.EndProgram 114 125 7 1 ∷ []) (at 8 1))
    ≡ twice ((pos 0 ∷ pos 1 ∷ []) ∷ (pos 0 ∷ pos 1 ∷ []) ∷ (pos 0 ∷ pos 1 ∷ []) ∷ []) None
row-16 = refl

-- LD TRUE; ORN b; ST q; END_PROGRAM
row-17 : both_runs slots_2 ((pos 5 ∷ pos 1 ∷ pos 3 ∷ []) ∷ (negsuc 6 ∷ pos 0 ∷ pos 2 ∷ []) ∷ (pos 0 ∷ pos 1 ∷ negsuc 32767 ∷ []) ∷ [])
    (lines_told slots_2 (text_2 ++ codes " LD TRUE ORN b ST q END_PROGRAM ")
    (tokens_2 ++ n 96 98 4 1 ∷ k key.True 99 103 4 4 ∷ n 104 107 5 1 ∷ n 108 109 5 5 ∷ n 110 112 6 1 ∷ n 113 114 6 4 ∷ k key.EndProgram 115 126 7 1 ∷
    []) (at 8 1))
    ≡ twice ((pos 0 ∷ pos 1 ∷ []) ∷ (pos 0 ∷ pos 1 ∷ []) ∷ (pos 0 ∷ pos 1 ∷ []) ∷ []) None
row-17 = refl

-- LD TRUE; XOR b; ST q; END_PROGRAM
row-18 : both_runs slots_2 ((pos 5 ∷ pos 1 ∷ pos 3 ∷ []) ∷ (negsuc 6 ∷ pos 0 ∷ pos 2 ∷ []) ∷ (pos 0 ∷ pos 1 ∷ negsuc 32767 ∷ []) ∷ [])
    (lines_told slots_2 (text_2 ++ codes " LD TRUE XOR b ST q END_PROGRAM ")
    (tokens_2 ++ n 96 98 4 1 ∷ k key.True 99 103 4 4 ∷ k key.Xor 104 107 5 1 ∷ n 108 109 5 5 ∷ n 110 112 6 1 ∷ n 113 114 6 4 ∷
    k key.EndProgram 115 126 7 1 ∷ []) (at 8 1))
    ≡ twice ((pos 0 ∷ pos 0 ∷ []) ∷ (pos 0 ∷ pos 1 ∷ []) ∷ (pos 0 ∷ pos 0 ∷ []) ∷ []) None
row-18 = refl

-- LD TRUE; XORN b; ST q; END_PROGRAM
row-19 : both_runs slots_2 ((pos 5 ∷ pos 1 ∷ pos 3 ∷ []) ∷ (negsuc 6 ∷ pos 0 ∷ pos 2 ∷ []) ∷ (pos 0 ∷ pos 1 ∷ negsuc 32767 ∷ []) ∷ [])
    (lines_told slots_2 (text_2 ++ codes " LD TRUE XORN b ST q END_PROGRAM ")
    (tokens_2 ++ n 96 98 4 1 ∷ k key.True 99 103 4 4 ∷ n 104 108 5 1 ∷ n 109 110 5 6 ∷ n 111 113 6 1 ∷ n 114 115 6 4 ∷ k key.EndProgram 116 127 7 1 ∷
    []) (at 8 1))
    ≡ twice ((pos 0 ∷ pos 1 ∷ []) ∷ (pos 0 ∷ pos 0 ∷ []) ∷ (pos 0 ∷ pos 1 ∷ []) ∷ []) None
row-19 = refl

-- LD TRUE; EQ b; ST q; END_PROGRAM
row-20 : both_runs slots_2 ((pos 5 ∷ pos 1 ∷ pos 3 ∷ []) ∷ (negsuc 6 ∷ pos 0 ∷ pos 2 ∷ []) ∷ (pos 0 ∷ pos 1 ∷ negsuc 32767 ∷ []) ∷ [])
    (lines_told slots_2 (text_2 ++ codes " LD TRUE EQ b ST q END_PROGRAM ")
    (tokens_2 ++ n 96 98 4 1 ∷ k key.True 99 103 4 4 ∷ n 104 106 5 1 ∷ n 107 108 5 4 ∷ n 109 111 6 1 ∷ n 112 113 6 4 ∷ k key.EndProgram 114 125 7 1 ∷
    []) (at 8 1))
    ≡ twice ((pos 0 ∷ pos 1 ∷ []) ∷ (pos 0 ∷ pos 0 ∷ []) ∷ (pos 0 ∷ pos 1 ∷ []) ∷ []) None
row-20 = refl

-- LD TRUE; NE b; ST q; END_PROGRAM
row-21 : both_runs slots_2 ((pos 5 ∷ pos 1 ∷ pos 3 ∷ []) ∷ (negsuc 6 ∷ pos 0 ∷ pos 2 ∷ []) ∷ (pos 0 ∷ pos 1 ∷ negsuc 32767 ∷ []) ∷ [])
    (lines_told slots_2 (text_2 ++ codes " LD TRUE NE b ST q END_PROGRAM ")
    (tokens_2 ++ n 96 98 4 1 ∷ k key.True 99 103 4 4 ∷ n 104 106 5 1 ∷ n 107 108 5 4 ∷ n 109 111 6 1 ∷ n 112 113 6 4 ∷ k key.EndProgram 114 125 7 1 ∷
    []) (at 8 1))
    ≡ twice ((pos 0 ∷ pos 0 ∷ []) ∷ (pos 0 ∷ pos 1 ∷ []) ∷ (pos 0 ∷ pos 0 ∷ []) ∷ []) None
row-21 = refl

-- LDN b; ST q; NOT; STN q; LD n; ST y; END_PROGRAM
row-22 : both_runs slots_2 ((pos 5 ∷ pos 1 ∷ pos 3 ∷ []) ∷ (negsuc 6 ∷ pos 0 ∷ pos 2 ∷ []) ∷ (pos 0 ∷ pos 1 ∷ negsuc 32767 ∷ []) ∷ [])
    (lines_told slots_2 (text_2 ++ codes " LDN b ST q NOT STN q LD n ST y END_PROGRAM ")
    (tokens_2 ++ n 96 99 4 1 ∷ n 100 101 4 5 ∷ n 102 104 5 1 ∷ n 105 106 5 4 ∷ k key.Not 107 110 6 1 ∷ n 111 114 7 1 ∷ n 115 116 7 5 ∷ n 117 119 8 1 ∷
    n 120 121 8 4 ∷ n 122 124 9 1 ∷ n 125 126 9 4 ∷ k key.EndProgram 127 138 10 1 ∷ []) (at 11 1))
    ≡ twice ((pos 3 ∷ pos 0 ∷ []) ∷ (pos 2 ∷ pos 1 ∷ []) ∷ (negsuc 32767 ∷ pos 0 ∷ []) ∷ []) None
row-22 = refl

-- LD b; S q; LDN b; R q; END_PROGRAM
row-23 : both_runs slots_2 ((pos 5 ∷ pos 1 ∷ pos 3 ∷ []) ∷ (negsuc 6 ∷ pos 0 ∷ pos 2 ∷ []) ∷ (pos 0 ∷ pos 1 ∷ negsuc 32767 ∷ []) ∷ [])
    (lines_told slots_2 (text_2 ++ codes " LD b S q LDN b R q END_PROGRAM ")
    (tokens_2 ++ n 96 98 4 1 ∷ n 99 100 4 4 ∷ n 101 102 5 1 ∷ n 103 104 5 3 ∷ n 105 108 6 1 ∷ n 109 110 6 5 ∷ n 111 112 7 1 ∷ n 113 114 7 3 ∷
    k key.EndProgram 115 126 8 1 ∷ []) (at 9 1))
    ≡ twice ((pos 0 ∷ pos 1 ∷ []) ∷ (pos 0 ∷ pos 0 ∷ []) ∷ (pos 0 ∷ pos 1 ∷ []) ∷ []) None
row-23 = refl

-- the result is what was loaded, and not what the variable is by now: LD q; R q; ST w; END_PROGRAM
row-24 : both_runs slots_3 ([] ∷ [] ∷ [])
    (lines_told slots_3 (text_3 ++ codes " LD q R q ST w END_PROGRAM ")
    (tokens_3 ++ n 57 59 3 1 ∷ n 60 61 3 4 ∷ n 62 63 4 1 ∷ n 64 65 4 3 ∷ n 66 68 5 1 ∷ n 69 70 5 4 ∷ k key.EndProgram 71 82 6 1 ∷ []) (at 7 1))
    ≡ twice ((pos 1 ∷ pos 0 ∷ []) ∷ (pos 0 ∷ pos 0 ∷ []) ∷ []) None
row-24 = refl

-- no instruction: END_PROGRAM
row-25 : both_runs slots_3 ([] ∷ [] ∷ [])
    (lines_told slots_3 (text_3 ++ codes " END_PROGRAM ")
    (tokens_3 ++ k key.EndProgram 57 68 3 1 ∷ []) (at 4 1))
    ≡ twice ((pos 0 ∷ pos 1 ∷ []) ∷ (pos 0 ∷ pos 1 ∷ []) ∷ []) None
row-25 = refl

-- ld X; add 1 (* in any case *) // and remarks; ; st Y; end_program
row-26 : both_runs slots_2 ((pos 5 ∷ pos 1 ∷ pos 3 ∷ []) ∷ (negsuc 6 ∷ pos 0 ∷ pos 2 ∷ []) ∷ (pos 0 ∷ pos 1 ∷ negsuc 32767 ∷ []) ∷ [])
    (lines_told slots_2 (text_2 ++ codes " ld X  add 1 (* in any case *) // and remarks      st Y  end_program")
    (tokens_2 ++ n 96 98 4 1 ∷ n 99 100 4 4 ∷ n 102 105 5 1 ∷ u (pos 1) 106 107 5 5 ∷ n 146 148 7 3 ∷ n 149 150 7 6 ∷ k key.EndProgram 152 163 8 1 ∷
    []) (at 8 12))
    ≡ twice ((pos 6 ∷ pos 0 ∷ []) ∷ (negsuc 5 ∷ pos 0 ∷ []) ∷ (pos 1 ∷ pos 0 ∷ []) ∷ []) None
row-26 = refl

-- the result is widened: LD n; ADD 40000; ST y; END_PROGRAM
row-27 : both_runs slots_2 ((pos 5 ∷ pos 1 ∷ pos 3 ∷ []) ∷ (negsuc 6 ∷ pos 0 ∷ pos 2 ∷ []) ∷ (pos 0 ∷ pos 1 ∷ negsuc 32767 ∷ []) ∷ [])
    (lines_told slots_2 (text_2 ++ codes " LD n ADD 40000 ST y END_PROGRAM ")
    (tokens_2 ++ n 96 98 4 1 ∷ n 99 100 4 4 ∷ n 101 104 5 1 ∷ u (pos 40000) 105 110 5 5 ∷ n 111 113 6 1 ∷ n 114 115 6 4 ∷
    k key.EndProgram 116 127 7 1 ∷ []) (at 8 1))
    ≡ twice ((pos 40003 ∷ pos 0 ∷ []) ∷ (pos 40002 ∷ pos 0 ∷ []) ∷ (pos 7232 ∷ pos 0 ∷ []) ∷ []) None
row-27 = refl

-- INT times INT is INT, and stops: LD n; MUL n; ST y; END_PROGRAM
row-28 : both_runs slots_2 ((pos 5 ∷ pos 1 ∷ pos 3 ∷ []) ∷ (negsuc 6 ∷ pos 0 ∷ pos 2 ∷ []) ∷ (pos 0 ∷ pos 1 ∷ negsuc 32767 ∷ []) ∷ [])
    (lines_told slots_2 (text_2 ++ codes " LD n MUL n ST y END_PROGRAM ")
    (tokens_2 ++ n 96 98 4 1 ∷ n 99 100 4 4 ∷ n 101 104 5 1 ∷ n 105 106 5 5 ∷ n 107 109 6 1 ∷ n 110 111 6 4 ∷ k key.EndProgram 112 123 7 1 ∷
    []) (at 8 1))
    ≡ twice ((pos 9 ∷ pos 0 ∷ []) ∷ (pos 4 ∷ pos 0 ∷ []) ∷ []) (Some (record { kind = why.Range; spot = at 5 1; turns = [] }))
row-28 = refl

-- LD INT#7; ADD DINT#1; ST y; END_PROGRAM
row-29 : both_runs slots_2 ((pos 5 ∷ pos 1 ∷ pos 3 ∷ []) ∷ (negsuc 6 ∷ pos 0 ∷ pos 2 ∷ []) ∷ (pos 0 ∷ pos 1 ∷ negsuc 32767 ∷ []) ∷ [])
    (lines_told slots_2 (text_2 ++ codes " LD INT#7 ADD DINT#1 ST y END_PROGRAM ")
    (tokens_2 ++ n 96 98 4 1 ∷ v ty.Int (pos 7) 99 104 4 4 ∷ n 105 108 5 1 ∷ v ty.Dint (pos 1) 109 115 5 5 ∷ n 116 118 6 1 ∷ n 119 120 6 4 ∷
    k key.EndProgram 121 132 7 1 ∷ []) (at 8 1))
    ≡ twice ((pos 8 ∷ pos 0 ∷ []) ∷ (pos 8 ∷ pos 0 ∷ []) ∷ (pos 8 ∷ pos 0 ∷ []) ∷ []) None
row-29 = refl

-- LD 16#FF; SUB -1; ST y; END_PROGRAM
row-30 : both_runs slots_2 ((pos 5 ∷ pos 1 ∷ pos 3 ∷ []) ∷ (negsuc 6 ∷ pos 0 ∷ pos 2 ∷ []) ∷ (pos 0 ∷ pos 1 ∷ negsuc 32767 ∷ []) ∷ [])
    (lines_told slots_2 (text_2 ++ codes " LD 16#FF SUB -1 ST y END_PROGRAM ")
    (tokens_2 ++ n 96 98 4 1 ∷ u (pos 255) 99 104 4 4 ∷ n 105 108 5 1 ∷ s sym.Minus 109 110 5 5 ∷ u (pos 1) 110 111 5 6 ∷ n 112 114 6 1 ∷
    n 115 116 6 4 ∷ k key.EndProgram 117 128 7 1 ∷ []) (at 8 1))
    ≡ twice ((pos 256 ∷ pos 0 ∷ []) ∷ (pos 256 ∷ pos 0 ∷ []) ∷ (pos 256 ∷ pos 0 ∷ []) ∷ []) None
row-30 = refl

-- LD x; DIV 0; ST y; END_PROGRAM
row-31 : both_runs slots_2 ((pos 5 ∷ pos 1 ∷ pos 3 ∷ []) ∷ (negsuc 6 ∷ pos 0 ∷ pos 2 ∷ []) ∷ (pos 0 ∷ pos 1 ∷ negsuc 32767 ∷ []) ∷ [])
    (lines_told slots_2 (text_2 ++ codes " LD x DIV 0 ST y END_PROGRAM ")
    (tokens_2 ++ n 96 98 4 1 ∷ n 99 100 4 4 ∷ n 101 104 5 1 ∷ u (pos 0) 105 106 5 5 ∷ n 107 109 6 1 ∷ n 110 111 6 4 ∷ k key.EndProgram 112 123 7 1 ∷
    []) (at 8 1))
    ≡ twice ([]) (Some (record { kind = why.DivZero; spot = at 5 1; turns = [] }))
row-31 = refl

-- LINT: LD x; ADD 9223372036854775807; ST y; END_PROGRAM
row-32 : both_runs slots_4 ((pos 5 ∷ []) ∷ (pos 2147483647 ∷ []) ∷ [])
    (lines_told slots_4 (text_4 ++ codes " LD x ADD 9223372036854775807 ST y END_PROGRAM ")
    (tokens_4 ++ n 67 69 4 1 ∷ n 70 71 4 4 ∷ n 72 75 5 1 ∷ u (pos 9223372036854775807) 76 95 5 5 ∷ n 96 98 6 1 ∷ n 99 100 6 4 ∷
    k key.EndProgram 101 112 7 1 ∷ []) (at 8 1))
    ≡ twice ([]) (Some (record { kind = why.Range; spot = at 5 1; turns = [] }))
row-32 = refl

-- a counter: LD k; ADD 1; ST k; ST y; END_PROGRAM
row-33 : both_runs slots_5 ([] ∷ [] ∷ [] ∷ [] ∷ [])
    (lines_told slots_5 (text_5 ++ codes " LD k ADD 1 ST k ST y END_PROGRAM ")
    (tokens_5 ++ n 59 61 4 1 ∷ n 62 63 4 4 ∷ n 64 67 5 1 ∷ u (pos 1) 68 69 5 5 ∷ n 70 72 6 1 ∷ n 73 74 6 4 ∷ n 75 77 7 1 ∷ n 78 79 7 4 ∷
    k key.EndProgram 80 91 8 1 ∷ []) (at 9 1))
    ≡ twice ((pos 1 ∷ []) ∷ (pos 2 ∷ []) ∷ (pos 3 ∷ []) ∷ (pos 4 ∷ []) ∷ []) None
row-33 = refl
