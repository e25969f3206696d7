-- Lines: the line of each refusal of a file, which begins with the file's name, and of each other fault. Each ends with LF.
use Rattle.std.specs.Prelude.{ℕ, List, [], ◌∷◌, ◌++◌, Option, Some, None, decimal, codes}
use Rattle.vcp_base.specs.declared.spot.Spot.{Spot}
use Rattle.st_lexer.specs.declared.fault.LexFault.{LexFault}
use Rattle.st_lexer.specs.declared.fault.LexFault.TheVariants as lexer
use Rattle.st_parser.specs.declared.fault.SyntaxFault.{SyntaxFault}
use Rattle.st_parser.specs.declared.fault.SyntaxFault.TheVariants as syntax
use Rattle.st_types.specs.declared.fault.TypeFault.{TypeFault}
use Rattle.st_types.specs.declared.fault.TypeFault.TheVariants as typing
use Rattle.il_front.specs.declared.fault.IlFault.TheVariants as il
use Rattle.input_rows.specs.declared.fault.RowFault.{RowFault}
use Rattle.input_rows.specs.declared.fault.RowFault.TheVariants as rows
use Rattle.image_file.specs.declared.fault.ImageFault.TheVariants as image
use Rattle.fault_script.specs.declared.script_fault.ScriptFault.TheVariants as script
use Rattle.telegram.specs.declared.script.wire_fault.WireFault.TheVariants as wire
use Rattle.vcp_inputs.specs.declared.refusal.Refusal.{Refusal}
use Rattle.vcp_inputs.specs.declared.refusal.Refusal.TheVariants as refusal
use Rattle.vcp_inputs.specs.declared.refusal.NoInput.{NoInput}
use Rattle.vcp_inputs.specs.declared.refusal.NoInput.TheVariants as input

-- the line where memory was wanted; it names no file
abbrev pub memory_text : List ℕ
memory_text = codes "no memory\n"

-- the line where the sink of the output failed; nor does this
abbrev pub write_fault_text : List ℕ
write_fault_text = codes "write fault\n"

-- the line of a file that couldn't be read
abbrev pub read_fault_text : List ℕ → List ℕ
read_fault_text name = name ++ codes " read fault\n"

-- ---- what a line tells

-- What is told behind a file's name: the numbers of a place, which are the line and the column of a source, a record and a column of rows, a
-- record, an offset or the line of a script; and the code and the name of the fault that is there. The file as a whole has no numbers.
pub record Diagnostic : Type 0 where
  pub place : List ℕ
  pub what : List ℕ

abbrev pub diagnostic : List ℕ → List ℕ → Option Diagnostic
diagnostic place what = Some (record { place = place; what = what })

abbrev pub at_spot : Spot → List ℕ → Option Diagnostic
at_spot spot what = diagnostic (spot.line ∷ spot.col ∷ []) what

-- ---- the place and the code of each refusal, and none of want of memory

-- of a fault of the lexer
abbrev pub of_lexing : LexFault → Option Diagnostic
of_lexing (lexer.Byte spot) = at_spot spot (codes "S1 Byte")
of_lexing (lexer.Comment spot) = at_spot spot (codes "S2 Comment")
of_lexing (lexer.Number spot) = at_spot spot (codes "S3 Number")
of_lexing lexer.Memory = None

-- of a fault of the parser
abbrev pub of_parsing : SyntaxFault → Option Diagnostic
of_parsing (syntax.Syntax spot) = at_spot spot (codes "S4 Syntax")
of_parsing (syntax.Depth spot) = at_spot spot (codes "S5 Depth")
of_parsing syntax.Memory = None

-- of a fault of typing
abbrev pub of_typing : TypeFault → Option Diagnostic
of_typing (typing.Duplicate spot) = at_spot spot (codes "T1 Duplicate")
of_typing (typing.Unknown spot) = at_spot spot (codes "T2 Unknown")
of_typing (typing.Mismatch spot) = at_spot spot (codes "T3 Mismatch")
of_typing (typing.Assign spot) = at_spot spot (codes "T4 Assign")
of_typing (typing.Bound spot) = at_spot spot (codes "T5 Bound")
of_typing (typing.Label spot) = at_spot spot (codes "T6 Label")
of_typing (typing.Call spot) = at_spot spot (codes "T7 Call")
of_typing (typing.Literal spot) = at_spot spot (codes "T8 Literal")
of_typing (typing.Names spot) = at_spot spot (codes "L3 Names")
of_typing typing.Size = diagnostic [] (codes "L2 Size")
of_typing typing.Memory = None

abbrev pub diagnostic_of : Refusal → Option Diagnostic
diagnostic_of refusal.Bytes = diagnostic [] (codes "L1 Bytes")
diagnostic_of (refusal.Lexing f) = of_lexing f
diagnostic_of (refusal.Parsing f) = of_parsing f
diagnostic_of (refusal.Typing f) = of_typing f
diagnostic_of (refusal.Listing (il.Lex f)) = of_lexing f
diagnostic_of (refusal.Listing (il.Syntax f)) = of_parsing f
diagnostic_of (refusal.Listing (il.Types f)) = of_typing f
diagnostic_of (refusal.Listing (il.Instruction spot)) = at_spot spot (codes "Q1 Instruction")
diagnostic_of (refusal.Listing (il.Operand spot)) = at_spot spot (codes "Q2 Operand")
diagnostic_of (refusal.Listing (il.Target spot)) = at_spot spot (codes "Q3 Target")
diagnostic_of (refusal.Listing (il.Empty spot)) = at_spot spot (codes "Q4 Empty")
diagnostic_of (refusal.Listing (il.Mismatch spot)) = at_spot spot (codes "Q5 Mismatch")
diagnostic_of (refusal.Listing (il.Reserved spot)) = at_spot spot (codes "Q6 Reserved")
diagnostic_of (refusal.Listing il.Memory) = None
diagnostic_of (refusal.Rows rows.Header) = diagnostic (1 ∷ []) (codes "R1 Header")
diagnostic_of (refusal.Rows (rows.Width row)) = diagnostic (row ∷ []) (codes "R2 Width")
diagnostic_of (refusal.Rows (rows.Cell row column)) = diagnostic (row ∷ column ∷ []) (codes "R3 Cell")
diagnostic_of (refusal.Rows rows.Form) = diagnostic [] (codes "R4 Form")
diagnostic_of (refusal.Rows rows.Cycles) = diagnostic [] (codes "L4 Cycles")
diagnostic_of (refusal.Rows rows.Cycle) = diagnostic [] (codes "R5 Cycle")
diagnostic_of (refusal.Rows rows.Memory) = None
diagnostic_of (refusal.Image (image.Magic at)) = diagnostic (at ∷ []) (codes "I1 Magic")
diagnostic_of (refusal.Image (image.Version at)) = diagnostic (at ∷ []) (codes "I2 Version")
diagnostic_of (refusal.Image (image.Short at)) = diagnostic (at ∷ []) (codes "I3 Short")
diagnostic_of (refusal.Image (image.Field at)) = diagnostic (at ∷ []) (codes "I4 Field")
diagnostic_of (refusal.Image (image.Operand at)) = diagnostic (at ∷ []) (codes "I5 Operand")
diagnostic_of (refusal.Image (image.Table at stored expected)) =
    diagnostic (at ∷ []) (codes "I6 Table stored " ++ (decimal stored ++ (codes " expected " ++ decimal expected)))
diagnostic_of (refusal.Image (image.Rest at)) = diagnostic (at ∷ []) (codes "I7 Rest")
diagnostic_of (refusal.Image image.Memory) = None
diagnostic_of refusal.Audit = diagnostic [] (codes "L6 Audit")
diagnostic_of refusal.Trace = diagnostic [] (codes "L7 Trace")
diagnostic_of refusal.Seed = diagnostic [] (codes "L8 Seed")
diagnostic_of (refusal.Script (script.Form line)) = diagnostic (line ∷ []) (codes "F1 Form")
diagnostic_of (refusal.Script (script.Site line)) = diagnostic (line ∷ []) (codes "F2 Site")
diagnostic_of (refusal.Script (script.Early line)) = diagnostic (line ∷ []) (codes "F3 Early")
diagnostic_of (refusal.Script (script.Kind line)) = diagnostic (line ∷ []) (codes "F4 Kind")
diagnostic_of (refusal.Script (script.Group line)) = diagnostic (line ∷ []) (codes "F5 Group")
diagnostic_of (refusal.Script (script.Twice line)) = diagnostic (line ∷ []) (codes "F6 Twice")
diagnostic_of (refusal.Script (script.Faults line)) = diagnostic (line ∷ []) (codes "L5 Faults")
diagnostic_of (refusal.Script script.Memory) = None
diagnostic_of (refusal.Wire (wire.Form line)) = diagnostic (line ∷ []) (codes "G1 Form")
diagnostic_of (refusal.Wire (wire.Range line)) = diagnostic (line ∷ []) (codes "G2 Range")
diagnostic_of (refusal.Wire (wire.Unsent line)) = diagnostic (line ∷ []) (codes "G3 Unsent")
diagnostic_of (refusal.Wire wire.Memory) = None

-- ---- lines

-- the numbers of a place, each behind a colon, and then a text
abbrev pub behind_place : List ℕ → List ℕ → List ℕ
behind_place [] text = text
behind_place (n ∷ place) text = codes ":" ++ (decimal n ++ behind_place place text)

-- the line of a diagnostic of the file under a name; without one memory was wanted
abbrev pub diagnostic_text : List ℕ → Option Diagnostic → List ℕ
diagnostic_text name None = memory_text
diagnostic_text name (Some d) = name ++ behind_place d.place (codes " " ++ (d.what ++ codes "\n"))

-- a refusal of the file under a name
abbrev pub refusal_text : List ℕ → Refusal → List ℕ
refusal_text name r = diagnostic_text name (diagnostic_of r)

-- the line where there is nothing of the file under a name, and the status
abbrev pub input_text : List ℕ → NoInput → List ℕ
input_text name input.Unread = read_fault_text name
input_text name (input.Refused r) = refusal_text name r
input_text name input.Memory = memory_text

abbrev pub input_status : NoInput → ℕ
input_status input.Unread = 5
input_status (input.Refused r) = 1
input_status input.Memory = 7

-- ---- lines of other files

-- a fault of rows
abbrev pub rows_text : List ℕ → RowFault → List ℕ
rows_text name f = refusal_text name (refusal.Rows f)

-- a fault at the place of one number
abbrev pub place_text : List ℕ → ℕ → List ℕ → List ℕ
place_text name place what = diagnostic_text name (diagnostic (place ∷ []) what)
