-- HeadLaws: the tokens of the head, its reserved names, and its refusals.
use Rattle.std.proofs.Common.{◌≡◌, ℕ, zero, suc, ◌+◌, ◌≤◌, Bool, true, false, cond, List, [], ◌∷◌, ◌++◌, length, take, drop, slice_get}
use Rattle.std.proofs.Common.{All, Option, Some, None, refl, sym, ap, ◌∙◌, arith, codes, length-append}
use Rattle.std.proofs.lemmas.List.Elements.{All-nil, All-cons, All-append, All-tail}
use Rattle.vcp_base.specs.Limits.{most_depth, most_source_bytes}
use Rattle.vcp_base.specs.declared.spot.Spot.{Spot}
use Rattle.st_lexer.specs.declared.token.Key.{Key}
use Rattle.st_lexer.specs.declared.token.Key.TheVariants as key
use Rattle.st_lexer.specs.declared.token.Tok.TheVariants as tok
use Rattle.st_lexer.specs.declared.token.Token.{Token}
use Rattle.st_lexer.specs.Reading.{IsInside, Reads, Faults}
use Rattle.st_lexer.specs.declared.fault.LexFault.{LexFault}
use Rattle.st_lexer.specs.declared.fault.LexFault.TheVariants as lexer
use Rattle.st_parser.specs.declared.fault.SyntaxFault.{SyntaxFault}
use Rattle.st_parser.specs.declared.fault.SyntaxFault.TheVariants as syntax
use Rattle.st_parser.specs.Answers.{Refuses as RefusesTokens}
use Rattle.st_tree.specs.Spelling.{Spells, SpellsWithin}
use Rattle.st_tree.specs.Declarable.{HasNames, names_of}
use Rattle.st_tree.specs.ProgramTree.{DeclaredTree, DeclTree, BlockTree, ProgramTree}
use Rattle.st_types.specs.declared.fault.TypeFault.{TypeFault}
use Rattle.st_types.specs.declared.fault.TypeFault.TheVariants as typing
use Rattle.st_types.specs.Typing.{IsTyped, Refuses as RefusesTree}
use Rattle.vcp_typed.specs.SourceRun.{Program}
use Rattle.il_front.specs.declared.fault.IlFault.TheVariants as fault
use Rattle.il_front.specs.Lines.{is_end_var, one_before, through_end_var, head_count, end_of, head_of, ended, added_end, head_tokens}
use Rattle.il_front.specs.Lines.{head_end}
use Rattle.il_front.specs.Heads.{IsHeadOf, decls_names, blocks_names}
use Rattle.il_front.specs.TypedForm.{is_reserved, first_reserved}
use Rattle.il_front.specs.Answers.{most_il_bytes, IsHead, IsBegun, NotIl, unlexed, unparsed, mistyped, reserved, no_memory}
use Rattle.il_front.specs.Refusals as told
use Rattle.il_front.proofs.LineLaws.{drop-at, all-at}

-- ---- how many tokens the head has

through-front : (ts : List Token) (i n : ℕ) → through_end_var (drop i ts) ≡ suc n → through_end_var ts ≡ i + suc n
through-front ts zero n e = e ∙ (let z : suc n ≡ 0 + suc n = omega arith in z)
through-front [] (suc i) n e = absurd (let no : 0 ≡ suc n = e in cc)
through-front (x ∷ xs) (suc i) n e =
    ap (one_before x.tok) (through-front xs i n e ∙ (let z : i + suc n ≡ suc (i + n) = omega arith in z))
    ∙ (let z : suc (suc (i + n)) ≡ suc i + suc n = omega arith in z)

-- the last END_VAR stands at place i
pub through-last : (ts : List Token) (i : ℕ) (t : Token) → slice_get ts i ≡ Some t → is_end_var t.tok ≡ true
    → through_end_var (drop (suc i) ts) ≡ 0 → through_end_var ts ≡ suc i
through-last ts i t e is none =
    let one : through_end_var (drop i ts) ≡ 1 =
    ap through_end_var (drop-at ts i t e) ∙ ap (one_before t.tok) none ∙ ap (λ (b : Bool). cond b 1 0) is in
    through-front ts i 0 one ∙ (let z : i + 1 ≡ suc i = omega arith in z)

pub through-none : (ts : List Token) (i : ℕ) (t : Token) → slice_get ts i ≡ Some t → is_end_var t.tok ≡ false
    → through_end_var (drop (suc i) ts) ≡ 0 → through_end_var (drop i ts) ≡ 0
through-none ts i t e is none =
    ap through_end_var (drop-at ts i t e) ∙ ap (one_before t.tok) none ∙ ap (λ (b : Bool). cond b 1 0) is

-- ---- its tokens

pub end-last : (ts : List Token) (i : ℕ) (t : Token) → slice_get ts i ≡ Some t → end_of (take (suc i) ts) ≡ t.to
end-last [] i t e = absurd cc
end-last (x ∷ xs) zero t e = let same : x ≡ t = cc in ap (λ (y : Token). y.to) same
end-last (x ∷ []) (suc i) t e = absurd cc
end-last (x ∷ y ∷ ys) (suc i) t e = end-last (y ∷ ys) i t e

pub take-more : (ts : List Token) (i : ℕ) (t : Token) → slice_get ts i ≡ Some t → take (suc i) ts ≡ take i ts ++ t ∷ []
take-more [] i t e = absurd cc
take-more (x ∷ xs) zero t e = let same : x ≡ t = cc in ap (λ (y : Token). y ∷ []) same
take-more (x ∷ xs) (suc i) t e = ap (λ (ys : List Token). x ∷ ys) (take-more xs i t e)

inside-longer : (text more : List ℕ) (t : Token) → IsInside text t → IsInside (text ++ more) t
inside-longer text more t h = (h.0, omega (arith, h.1, length-append text more))

all-longer : (text more : List ℕ) (ts : List Token) (k : ℕ) → All (IsInside text) ts → All (IsInside (text ++ more)) (take k ts)
all-longer text more ts zero h = All-nil (IsInside (text ++ more))
all-longer text more [] (suc k) h = All-nil (IsInside (text ++ more))
all-longer text more (t ∷ ts) (suc k) h =
    All-cons (IsInside (text ++ more)) t (take k ts) (inside-longer text more t (all-at (IsInside text) (t ∷ ts) 0 t refl h))
    (all-longer text more ts k (All-tail (IsInside text) t ts h))

pub head-inside : (text : List ℕ) (ts : List Token) → All (IsInside text) ts → All (IsInside (ended text)) (head_tokens text ts)
head-inside text ts h =
    All-append (IsInside (ended text)) (head_of ts) (added_end text (head_of ts) ∷ []) (all-longer text (codes " END_PROGRAM") ts (head_count ts) h)
    (All-cons (IsInside (ended text)) (added_end text (head_of ts)) []
    (omega arith, omega (arith, length-append text (codes " END_PROGRAM")))
    (All-nil (IsInside (ended text))))

-- ---- reserved names

either-spot : (b : Bool) (s : Spot) (o : Option Spot) → cond b (Some s) o ≡ None → (b ≡ false) × (o ≡ None)
either-spot true s o e = absurd cc
either-spot false s o e = (refl, e)

pub reserved-none : (xs ys : List DeclaredTree) → first_reserved xs ≡ None → first_reserved (xs ++ ys) ≡ first_reserved ys
reserved-none [] ys e = refl
reserved-none (x ∷ xs) ys e =
    let (other, rest) = either-spot (is_reserved x.name) x.spot (first_reserved xs) e in
    ap (λ (b : Bool). cond b (Some x.spot) (first_reserved (xs ++ ys))) other ∙ reserved-none xs ys rest

one-spot : (b : Bool) (s t : Spot) (o p : Option Spot) → (o ≡ Some t → p ≡ Some t) → cond b (Some s) o ≡ Some t → cond b (Some s) p ≡ Some t
one-spot true s t o p f e = e
one-spot false s t o p f e = f e

pub reserved-some : (xs ys : List DeclaredTree) (s : Spot) → first_reserved xs ≡ Some s → first_reserved (xs ++ ys) ≡ Some s
reserved-some [] ys s e = absurd cc
reserved-some (x ∷ xs) ys s e =
    one-spot (is_reserved x.name) x.spot s (first_reserved xs) (first_reserved (xs ++ ys)) (reserved-some xs ys s) e

pub names-step : (ds rest : List DeclaredTree) (d : DeclaredTree) (b : Bool) → ds ≡ d ∷ rest → b ≡ is_reserved d.name → b ≡ false
    → first_reserved rest ≡ first_reserved ds
names-step ds rest d b e is off = sym (ap first_reserved e ∙ ap (λ (x : Bool). cond x (Some d.spot) (first_reserved rest)) (sym is ∙ off))

pub names-found : (ds rest : List DeclaredTree) (d : DeclaredTree) (b : Bool) → ds ≡ d ∷ rest → b ≡ is_reserved d.name → b ≡ true
    → Some d.spot ≡ first_reserved ds
names-found ds rest d b e is on = sym (ap first_reserved e ∙ ap (λ (x : Bool). cond x (Some d.spot) (first_reserved rest)) (sym is ∙ on))

pub decls-step : (ds rest : List DeclTree) (d : DeclTree) (o : Option Spot) → ds ≡ d ∷ rest → o ≡ first_reserved d.names → o ≡ None
    → first_reserved (decls_names rest) ≡ first_reserved (decls_names ds)
decls-step ds rest d o e is none =
    sym (reserved-none d.names (decls_names rest) (sym is ∙ none)) ∙ ap (λ (xs : List DeclTree). first_reserved (decls_names xs)) (sym e)

pub decls-found : (ds rest : List DeclTree) (d : DeclTree) (o : Option Spot) (s : Spot) → ds ≡ d ∷ rest → o ≡ first_reserved d.names → o ≡ Some s
    → Some s ≡ first_reserved (decls_names ds)
decls-found ds rest d o s e is some =
    sym (reserved-some d.names (decls_names rest) s (sym is ∙ some)) ∙ ap (λ (xs : List DeclTree). first_reserved (decls_names xs)) (sym e)

pub blocks-step : (bs rest : List BlockTree) (b : BlockTree) (o : Option Spot) → bs ≡ b ∷ rest → o ≡ first_reserved (decls_names b.decls) → o ≡ None
    → first_reserved (blocks_names rest) ≡ first_reserved (blocks_names bs)
blocks-step bs rest b o e is none =
    sym (reserved-none (decls_names b.decls) (blocks_names rest) (sym is ∙ none)) ∙ ap (λ (xs : List BlockTree). first_reserved (blocks_names xs)) (sym e)

pub blocks-found : (bs rest : List BlockTree) (b : BlockTree) (o : Option Spot) (s : Spot) → bs ≡ b ∷ rest → o ≡ first_reserved (decls_names b.decls)
    → o ≡ Some s → Some s ≡ first_reserved (blocks_names bs)
blocks-found bs rest b o s e is some =
    sym (reserved-some (decls_names b.decls) (blocks_names rest) s (sym is ∙ some)) ∙ ap (λ (xs : List BlockTree). first_reserved (blocks_names xs)) (sym e)

-- ---- refusals

pub lexer_refuses : (text : List ℕ) (f : LexFault) → Faults text f → NotIl text (told.unlexed f)
lexer_refuses text (lexer.Byte spot) h = unlexed (lexer.Byte spot) (λ e. cc) h
lexer_refuses text (lexer.Comment spot) h = unlexed (lexer.Comment spot) (λ e. cc) h
lexer_refuses text (lexer.Number spot) h = unlexed (lexer.Number spot) (λ e. cc) h
lexer_refuses text lexer.Memory h = no_memory

pub parser_refuses : (text : List ℕ) (ts : List Token) (f : SyntaxFault) → Reads text ts
    → RefusesTokens (ended text) (head_tokens text ts) (head_end text ts) f → NotIl text (told.unparsed f)
parser_refuses text ts (syntax.Syntax spot) r h = unparsed ts (syntax.Syntax spot) (λ e. cc) r h
parser_refuses text ts (syntax.Depth spot) r h = unparsed ts (syntax.Depth spot) (λ e. cc) r h
parser_refuses text ts syntax.Memory r h = no_memory

pub typing_refuses : (text : List ℕ) (ts : List Token) (p : ProgramTree) (f : TypeFault) → Reads text ts → IsHead text ts p → RefusesTree p f
    → NotIl text (told.untyped f)
typing_refuses text ts p (typing.Duplicate spot) r s h = mistyped ts p (typing.Duplicate spot) (λ e. cc) r s h
typing_refuses text ts p (typing.Unknown spot) r s h = mistyped ts p (typing.Unknown spot) (λ e. cc) r s h
typing_refuses text ts p (typing.Mismatch spot) r s h = mistyped ts p (typing.Mismatch spot) (λ e. cc) r s h
typing_refuses text ts p (typing.Assign spot) r s h = mistyped ts p (typing.Assign spot) (λ e. cc) r s h
typing_refuses text ts p (typing.Bound spot) r s h = mistyped ts p (typing.Bound spot) (λ e. cc) r s h
typing_refuses text ts p (typing.Label spot) r s h = mistyped ts p (typing.Label spot) (λ e. cc) r s h
typing_refuses text ts p (typing.Call spot) r s h = mistyped ts p (typing.Call spot) (λ e. cc) r s h
typing_refuses text ts p (typing.Literal spot) r s h = mistyped ts p (typing.Literal spot) (λ e. cc) r s h
typing_refuses text ts p (typing.Names spot) r s h = mistyped ts p (typing.Names spot) (λ e. cc) r s h
typing_refuses text ts p typing.Size r s h = mistyped ts p typing.Size (λ e. cc) r s h
typing_refuses text ts p typing.Memory r s h = no_memory

-- ---- what the head gives

as_spelled : (text : List ℕ) (ts : List Token) (p : ProgramTree) → SpellsWithin most_depth p text ts → Spells p text ts
as_spelled text ts p (ps, spells, tokens, within) = (ps, spells, tokens)

-- what spelling says of the names that the first tokens of a reading and a reserved word declare
abbrev NamesLaw : Type 0
NamesLaw = (p : ProgramTree) (text more : List ℕ) (k : ℕ) (ts : List Token) (e : Token) (w : Key) → Reads text ts
    → length (text ++ more) ≤ most_source_bytes → e.tok ≡ tok.Key w → Spells p (text ++ more) (take k ts ++ e ∷ []) → HasNames p

pub head_names : NamesLaw → (text : List ℕ) (ts : List Token) (p : ProgramTree) → length text ≤ most_il_bytes → Reads text ts → IsHead text ts p → HasNames p
head_names law text ts p short reads h =
    law p text (codes " END_PROGRAM") (head_count ts) ts (added_end text (head_of ts)) key.EndProgram reads
    (omega (arith, short, length-append text (codes " END_PROGRAM"))) refl (as_spelled (ended text) (head_tokens text ts) p h)

pub begun : (text : List ℕ) (ts : List Token) (p : ProgramTree) (t : Program) → Reads text ts → IsHead text ts p → IsTyped p t → IsBegun text ts p t
begun text ts p t reads spelled typed = record { reads = reads; spelled = spelled; typed = typed }

pub reserved_refuses : (text : List ℕ) (ts : List Token) (p : ProgramTree) (t : Program) (spot : Spot) (o : Option Spot) → IsBegun text ts p t
    → o ≡ first_reserved (names_of p) → o ≡ Some spot → NotIl text (fault.Reserved spot)
reserved_refuses text ts p t spot o b is some = reserved ts p t spot b (sym is ∙ some)

pub head_is : (text : List ℕ) (ts : List Token) (p : ProgramTree) (t : Program) (o : Option Spot) → IsBegun text ts p t → HasNames p
    → o ≡ first_reserved (names_of p) → o ≡ None → IsHeadOf text ts t
head_is text ts p t o b names is none = record { tree = p; begun = b; names = names; free = sym is ∙ none }
