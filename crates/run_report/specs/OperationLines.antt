-- The lines on a graph's operations, listed and traced. Each ends with LF.
use Rattle.std.specs.Prelude.{ℕ, ℤ, List, [], ◌∷◌, ◌++◌, take, slice_index_or, decimal, codes, map, flat_map}
use Rattle.std.specs.Fmt.{signed_decimal}
use Rattle.vcp_base.specs.declared.code.Profile.{Profile}
use Rattle.vcp_base.specs.declared.kind.Kind.{Kind}
use Rattle.vcp_base.specs.declared.kind.Kind.TheVariants as kind
use Rattle.vcp_base.specs.Kinds.{operands}
use Rattle.vcp_base.specs.Spellings.{kind_name, ty_name}
use Rattle.vcp_base.specs.Stops.{told_turn}
use Rattle.coded_unit.specs.Words.{modulo, value_part}
use Rattle.op_graph.specs.declared.op.Op.{Op}
use Rattle.op_graph.specs.Lists.{Lists, turns_of}
use Rattle.signature_table.specs.Signatures.{Numbers, signature, expected}
use Rattle.run_report.specs.Lines.{place_text, turn_text}

-- how many operands a listing shows: all, but for a LOAD, which reads its cell
abbrev pub shown_operands : Kind → ℕ
shown_operands kind.Load = 0
shown_operands k = operands k

-- a number after a space
abbrev pub number_cell : ℕ → List ℕ
number_cell n = codes " " ++ decimal n

-- the operations that the operands read
abbrev pub operands_text : Op → List ℕ
operands_text op = flat_map number_cell (take (shown_operands op.kind) (op.a ∷ op.b ∷ op.c ∷ []))

-- the operation's own number, where its kind has one: the number of an input, a cell or an output, or the value of a constant
abbrev pub own_text : Kind → ℤ → List ℕ
own_text kind.Input imm = codes " in " ++ signed_decimal imm
own_text kind.Const imm = codes " val " ++ signed_decimal imm
own_text kind.Load imm = codes " cell " ++ signed_decimal imm
own_text kind.Store imm = codes " cell " ++ signed_decimal imm
own_text kind.Out imm = codes " out " ++ signed_decimal imm
own_text _ imm = []

-- operation i up to its operands: its number, its kind, and the types of its operands and of its result
abbrev pub operation_front : ℕ → Op → List ℕ
operation_front i op = decimal i ++ (codes " " ++ (kind_name op.kind ++ (codes " " ++ (ty_name op.from ++ (codes " " ++ ty_name op.ty)))))

-- the signature and the correction of operation i
abbrev pub code_text : Numbers → ℕ → List ℕ
code_text t i = codes " sig " ++ (decimal (signature t.profile t.seed i) ++ (codes " cor " ++ decimal (slice_index_or t.corrections i 0)))

-- the operation's place in the source, and the turns round it, outermost first
abbrev pub source_text : Lists → Op → List ℕ
source_text g op = codes " at " ++ (place_text op.spot ++ flat_map turn_text (map (told_turn g.names) (turns_of g op.turn)))

-- operation i of a graph and its table: what it does on which operands, its own number, the numbers of its code, its place
abbrev pub list_text : Lists → Numbers → ℕ → Op → List ℕ
list_text g t i op = operation_front i op ++ (operands_text op ++ (own_text op.kind op.imm ++ (code_text t i ++ (source_text g op ++ codes "\n"))))

-- the value and the residue of a word in a code
abbrev pub parts_text : Profile → ℤ → List ℕ
parts_text p w = signed_decimal (value_part p w) ++ (codes " " ++ decimal (modulo p w))

-- the word of operation i in a cycle: its number, its kind, the word, the word's parts in the code, and the expected residue
abbrev pub trace_text : Profile → Numbers → ℕ → ℕ → Kind → ℤ → List ℕ
trace_text p t i cycle k w =
    decimal i ++ (codes " " ++ (kind_name k ++ (codes " " ++ (signed_decimal w ++ (codes " " ++ (parts_text p w
    ++ (codes " " ++ (decimal (expected t.profile t.seed t.step i cycle) ++ codes "\n"))))))))
