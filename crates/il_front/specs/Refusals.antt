-- Refusals: how a fault that a crate below reports is reported here.
use Rattle.st_lexer.specs.declared.fault.LexFault.{LexFault}
use Rattle.st_lexer.specs.declared.fault.LexFault.TheVariants as lexer
use Rattle.st_parser.specs.declared.fault.SyntaxFault.{SyntaxFault}
use Rattle.st_parser.specs.declared.fault.SyntaxFault.TheVariants as syntax
use Rattle.st_types.specs.declared.fault.TypeFault.{TypeFault}
use Rattle.st_types.specs.declared.fault.TypeFault.TheVariants as typing
use Rattle.il_front.specs.declared.fault.IlFault.{IlFault}
use Rattle.il_front.specs.declared.fault.IlFault.TheVariants as fault

-- of a fault of the lexer; its want of memory is want of memory
abbrev pub unlexed : LexFault → IlFault
unlexed (lexer.Byte spot) = fault.Lex (lexer.Byte spot)
unlexed (lexer.Comment spot) = fault.Lex (lexer.Comment spot)
unlexed (lexer.Number spot) = fault.Lex (lexer.Number spot)
unlexed lexer.Memory = fault.Memory

-- of a fault of the parser
abbrev pub unparsed : SyntaxFault → IlFault
unparsed (syntax.Syntax spot) = fault.Syntax (syntax.Syntax spot)
unparsed (syntax.Depth spot) = fault.Syntax (syntax.Depth spot)
unparsed syntax.Memory = fault.Memory

-- of a fault of typing
abbrev pub untyped : TypeFault → IlFault
untyped (typing.Duplicate spot) = fault.Types (typing.Duplicate spot)
untyped (typing.Unknown spot) = fault.Types (typing.Unknown spot)
untyped (typing.Mismatch spot) = fault.Types (typing.Mismatch spot)
untyped (typing.Assign spot) = fault.Types (typing.Assign spot)
untyped (typing.Bound spot) = fault.Types (typing.Bound spot)
untyped (typing.Label spot) = fault.Types (typing.Label spot)
untyped (typing.Call spot) = fault.Types (typing.Call spot)
untyped (typing.Literal spot) = fault.Types (typing.Literal spot)
untyped (typing.Names spot) = fault.Types (typing.Names spot)
untyped typing.Size = fault.Types typing.Size
untyped typing.Memory = fault.Memory
