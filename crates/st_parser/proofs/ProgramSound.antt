-- ProgramSound: a program that is read is spelled.
use Rattle.std.proofs.Common.{◌≡◌, ℕ, ◌≤◌, List, [], ◌∷◌, ◌++◌, Option, Some, None, Result, Ok, Err, sym, refl, ap, ◌∙◌, subst, arith, append_assoc, append-nil}
use Rattle.std.proofs.lemmas.List.{map_push}
use Rattle.vcp_base.specs.declared.spot.Spot.{Spot}
use Rattle.vcp_base.specs.declared.ty.Ty.{Ty}
use Rattle.vcp_base.specs.declared.ty.Ty.TheVariants as ty
use Rattle.st_lexer.specs.declared.token.Key.TheVariants as key
use Rattle.st_lexer.specs.declared.token.Sym.TheVariants as symbol
use Rattle.st_lexer.specs.declared.token.Tok.TheVariants as tok
use Rattle.st_lexer.specs.declared.token.Token.{Token}
use Rattle.st_tree.specs.declared.program.Section.{Section}
use Rattle.st_tree.specs.declared.program.Section.TheVariants as section
use Rattle.st_tree.specs.ExprTree.{ExprTree}
use Rattle.st_tree.specs.StmtTree.{StmtTrees, no_stmts}
use Rattle.st_tree.specs.ProgramTree.{DeclaredTree, DeclTree, BlockTree, ProgramTree}
use Rattle.st_tree.specs.Operators.{any_level}
use Rattle.st_tree.specs.Placed.{Placed, at, tokens_of, Within}
use Rattle.st_tree.specs.Expressions.{SpellsExpr}
use Rattle.st_tree.specs.Statements.{SpellsStmts, spells_no_stmt}
use Rattle.st_tree.specs.Programs.{type_key, SpellsNames, spells_last_name, spells_next_name, SpellsInit, spells_no_init, spells_init, spells_decl}
use Rattle.st_tree.specs.Programs.{SpellsDecls, spells_end_var, spells_next_decl, SpellsHead, spells_input, spells_output, spells_local, spells_constant}
use Rattle.st_tree.specs.Programs.{spells_retain, SpellsBlocks, spells_no_block, spells_block, SpellsProgram, spells_program}
use Rattle.st_parser.specs.declared.fault.SyntaxFault.{SyntaxFault}
use Rattle.st_parser.specs.declared.marks.Mark.{Mark}
use Rattle.st_parser.specs.declared.marks.Mark.TheVariants as mark
use Rattle.st_parser.specs.Marks.{mark_of, is}
use Rattle.st_parser.specs.ExprMachine.{Context, Form, Mode, want, Reading, step, ends_before}
use Rattle.st_parser.specs.StmtMachine.{At, start, named, reading, closed, loop_begun, loop_named, labelling, finished, refused, stmt_step}
use Rattle.st_parser.specs.ProgramMachine.{Front, Opening, State, at_program, at_name, at_block, at_var, at_decl, at_comma, at_next_name, at_type, at_init}
use Rattle.st_parser.specs.ProgramMachine.{in_init, in_body, declared, with_decl, with_block, begun, body_step, decl_at, block_at, var_at, type_at}
use Rattle.st_parser.specs.ProgramMachine.{init_read_on, init_at, program_step, finish, onward, run, read_program}
use Rattle.st_parser.proofs.ExprSound.{HasRead, none-read, step-read, ends-read}
use Rattle.st_parser.proofs.MarkTable.{IsMark, mark_is}
use Rattle.st_parser.proofs.SoFar.{Stands}
use Rattle.st_parser.proofs.LabelSound.{chosen, Sound}
use Rattle.st_parser.proofs.StmtSound.{stmt-sound}

-- ---- what has been read, said by what any tokens that complete it make of it

-- the program's front, with these blocks more
abbrev pub with_blocks : Front → List BlockTree → Front
with_blocks f bs = record { name = f.name; blocks = f.blocks ++ bs }

-- up to the body
abbrev pub BodyNext : Context → Front → List Placed → Type 0
BodyNext c f hs =
    (body : StmtTrees) (us : List Placed) (e : Token) → SpellsStmts c.bytes 0 body us → e.tok ≡ tok.Key key.EndProgram
    → SpellsProgram c.bytes (record { name = f.name; blocks = f.blocks; body = body }) (hs ++ (us ++ at 0 e ∷ []))

-- up to where a block may begin
abbrev pub BlocksNext : Context → Front → List Placed → Type 0
BlocksNext c f hs = (bs : List BlockTree) (ts : List Placed) → SpellsBlocks c.bytes bs ts → BodyNext c (with_blocks f bs) (hs ++ ts)

-- up to where a declaration may begin
abbrev pub DeclsNext : Context → Opening → List Placed → Type 0
DeclsNext c o hs =
    (ds : List DeclTree) (ts : List Placed) → SpellsDecls c.bytes ds ts
    → BlocksNext c (with_blocks o.front (record { section = o.section; decls = o.decls ++ ds } ∷ [])) (hs ++ ts)

-- up to the initial value, or none
abbrev pub InitNext : Context → Opening → List DeclaredTree → Ty → List Placed → Type 0
InitNext c o ds ty hs = (init : Option ExprTree) (ts : List Placed) → SpellsInit c.bytes init ts → DeclsNext c (with_decl o ds ty init) (hs ++ ts)

-- up to the type
abbrev pub TypeNext : Context → Opening → List DeclaredTree → List Placed → Type 0
TypeNext c o ds hs = (ty : Ty) (t : Token) → t.tok ≡ tok.Key (type_key ty) → InitNext c o ds ty (hs ++ at 0 t ∷ [])

-- up to where a name must come
abbrev pub NamesNext : Context → Opening → List DeclaredTree → List Placed → Type 0
NamesNext c o ds hs = (more : List DeclaredTree) (ts : List Placed) → SpellsNames c.bytes more ts → TypeNext c o (ds ++ more) (hs ++ ts)

-- what has been read where the machine stands
abbrev pub Holds : Context → State → List Placed → Type 0
Holds c at_program cs = cs ≡ []
Holds c at_name cs = (p : Token) × (p.tok ≡ tok.Key key.Program) × (cs ≡ at 0 p ∷ [])
Holds c (at_block f) cs = BlocksNext c f cs
Holds c (at_var f) cs = (hs : List Placed) × (v : Token) × BlocksNext c f hs × (v.tok ≡ tok.Key key.Var) × (cs ≡ hs ++ at 0 v ∷ [])
Holds c (at_decl o) cs = DeclsNext c o cs
Holds c (at_comma o ds) cs =
    ((t : Token) → t.tok ≡ tok.Sym symbol.Comma → NamesNext c o ds (cs ++ at 0 t ∷ []))
    × ((t : Token) → t.tok ≡ tok.Sym symbol.Colon → TypeNext c o ds (cs ++ at 0 t ∷ []))
Holds c (at_next_name o ds) cs = NamesNext c o ds cs
Holds c (at_type o ds) cs = TypeNext c o ds cs
Holds c (at_init o ds ty) cs = InitNext c o ds ty cs
Holds c (in_init o ds ty fs m) cs =
    (hs : List Placed) × (es : List Placed)
    × ((e : ExprTree) (ts : List Placed) (t : Token) → SpellsExpr c.bytes 0 any_level e ts → t.tok ≡ tok.Sym symbol.Semi
    → DeclsNext c (with_decl o ds ty (Some e)) (hs ++ (ts ++ at 0 t ∷ [])))
    × HasRead c 0 fs m es × (cs ≡ hs ++ es)
Holds c (in_body f outer ss p) cs = (hs : List Placed) × (us : List Placed) × BodyNext c f hs × Stands c outer ss p us × (cs ≡ hs ++ us)

-- behind the tokens cs the token t was read at some depth within the limit
abbrev pub Kept : Context → Token → List Placed → Result State SyntaxFault → Type 0
Kept c t cs (Ok s) = (k : ℕ) × (k ≤ c.most) × Holds c s (cs ++ at k t ∷ [])
Kept c t cs (Err f) = Unit {0}

-- a token outside statements is not inside anything
outside : (c : Context) (t : Token) (cs : List Placed) (s : State) → Holds c s (cs ++ at 0 t ∷ []) → Kept c t cs (Ok s)
outside c t cs s h = (0, omega arith, h)

-- ---- the body

pub body-next : (c : Context) (f : Front) (cs : List Placed) → BlocksNext c f cs → BodyNext c f cs
body-next c f cs h =
    subst (λ (x : List Placed). BodyNext c f x) (append-nil cs)
    (subst (λ (x : List BlockTree). BodyNext c (record { name = f.name; blocks = x }) (cs ++ [])) (append-nil f.blocks) (h [] [] spells_no_block))

body-kept : (c : Context) (t : Token) (f : Front) (hs us : List Placed) (r : Result At SyntaxFault) → BodyNext c f hs → Sound c t us r
    → Kept c t (hs ++ us) (body_step f r)
body-kept c t f hs us (Ok a) h s = (s.0, s.1, (hs, us ++ at s.0 t ∷ [], h, s.2, append_assoc hs us (at s.0 t ∷ [])))
body-kept c t f hs us (Err x) h s = tt

-- ---- the blocks

-- a block begins
pub begun-next : (c : Context) (f : Front) (k : Section) (hs ts : List Placed) → BlocksNext c f hs → SpellsHead k ts → DeclsNext c (begun f k) (hs ++ ts)
begun-next c f k hs ts h head ds us sp bs vs sb =
    let tokens : hs ++ (ts ++ (us ++ vs)) ≡ ((hs ++ ts) ++ us) ++ vs = simp append_assoc in
    let block : List BlockTree = record { section = k; decls = ds } ∷ [] in
    subst (λ (x : List Placed). BodyNext c (with_blocks (with_blocks f block) bs) x) tokens
    (subst (λ (x : List BlockTree). BodyNext c (record { name = f.name; blocks = x }) (hs ++ (ts ++ (us ++ vs)))) (sym (append_assoc f.blocks block bs))
    (h (record { section = k; decls = ds } ∷ bs) (ts ++ (us ++ vs)) (spells_block k ds bs ts us vs head sp sb)))

-- a block ends
ended-next : (c : Context) (o : Opening) (cs : List Placed) (t : Token) → DeclsNext c o cs → t.tok ≡ tok.Key key.EndVar
    → BlocksNext c (with_block o) (cs ++ at 0 t ∷ [])
ended-next c o cs t h k =
    subst (λ (x : List DeclTree). BlocksNext c (with_blocks o.front (record { section = o.section; decls = x } ∷ [])) (cs ++ at 0 t ∷ [])) (append-nil o.decls)
    (h [] (at 0 t ∷ []) (spells_end_var t k))

-- ---- the declarations

-- a declaration that is whole
decl-next : (c : Context) (o : Opening) (hs ts us : List Placed) (ds : List DeclaredTree) (ty : Ty) (init : Option ExprTree) (t : Token)
    → DeclsNext c o hs → SpellsNames c.bytes ds ts → t.tok ≡ tok.Key (type_key ty) → SpellsInit c.bytes init us
    → DeclsNext c (with_decl o ds ty init) (hs ++ (ts ++ at 0 t ∷ us))
decl-next c o hs ts us ds ty init t h sn k si more vs sp =
    let decl : DeclTree = record { names = ds; ty = ty; init = init } in
    let all : List Placed = ts ++ at 0 t ∷ us in
    subst (λ (x : List Placed). BlocksNext c (with_blocks o.front (record { section = o.section; decls = (o.decls ++ decl ∷ []) ++ more } ∷ [])) x)
    (sym (append_assoc hs all vs))
    (subst (λ (x : List DeclTree). BlocksNext c (with_blocks o.front (record { section = o.section; decls = x } ∷ [])) (hs ++ (all ++ vs)))
    (sym (append_assoc o.decls (decl ∷ []) more))
    (h (decl ∷ more) (all ++ vs) (spells_next_decl decl more all vs (spells_decl ds ty init t ts us sn k si) sp)))

-- where a declaration may begin, names may come
names-next : (c : Context) (o : Opening) (hs : List Placed) → DeclsNext c o hs → NamesNext c o [] hs
names-next c o hs h ds ts sn ty t k init us si =
    let tokens : hs ++ (ts ++ at 0 t ∷ us) ≡ ((hs ++ ts) ++ at 0 t ∷ []) ++ us = simp append_assoc in
    subst (λ (x : List Placed). DeclsNext c (with_decl o ds ty init) x) tokens (decl-next c o hs ts us ds ty init t h sn k si)

-- a name more
name-next : (c : Context) (o : Opening) (ds : List DeclaredTree) (cs : List Placed) (n : Token) → NamesNext c o ds cs → n.tok ≡ tok.Name
    → Holds c (at_comma o (ds ++ declared c n ∷ [])) (cs ++ at 0 n ∷ [])
name-next c o ds cs n h k = (
  λ t kt more ts sn.
      let tokens : cs ++ (at 0 n ∷ at 0 t ∷ ts) ≡ ((cs ++ at 0 n ∷ []) ++ at 0 t ∷ []) ++ ts = simp append_assoc in
      subst (λ (x : List Placed). TypeNext c o ((ds ++ declared c n ∷ []) ++ more) x) tokens
      (subst (λ (x : List DeclaredTree). TypeNext c o x (cs ++ (at 0 n ∷ at 0 t ∷ ts))) (sym (append_assoc ds (declared c n ∷ []) more))
      (h (declared c n ∷ more) (at 0 n ∷ at 0 t ∷ ts) (spells_next_name more n t ts k kt sn))),
  λ t kt.
      subst (λ (x : List Placed). TypeNext c o (ds ++ declared c n ∷ []) x) (sym (append_assoc cs (at 0 n ∷ []) (at 0 t ∷ [])))
      (h (declared c n ∷ []) (at 0 n ∷ at 0 t ∷ []) (spells_last_name n t k kt)),
)

decl-kept : (c : Context) (t : Token) (o : Opening) (m : Mark) (cs : List Placed) → DeclsNext c o cs → IsMark m t.tok → Kept c t cs (decl_at c o m t)
decl-kept c t o m cs h mk =
    chosen (Kept c t cs) (is m mark.Name) (Ok (at_comma o (declared c t ∷ []))) _
    (λ e. outside c t cs (at_comma o (declared c t ∷ [])) (name-next c o [] cs t (names-next c o cs h) (mk mark.Name e)))
    (chosen (Kept c t cs) (is m mark.EndVar) (Ok (at_block (with_block o))) (refused t)
    (λ e. outside c t cs (at_block (with_block o)) (ended-next c o cs t h (mk mark.EndVar e))) tt)

block-kept : (c : Context) (t : Token) (f : Front) (m : Mark) (cs : List Placed) → BlocksNext c f cs → IsMark m t.tok → Kept c t cs (block_at c f m t)
block-kept c t f m cs h mk =
    let P : Result State SyntaxFault → Type 0 = Kept c t cs in
    chosen P (is m mark.VarInput) (Ok (at_decl (begun f section.Input))) _
    (λ e. outside c t cs (at_decl (begun f section.Input)) (begun-next c f section.Input cs (at 0 t ∷ []) h (spells_input t (mk mark.VarInput e))))
    (chosen P (is m mark.VarOutput) (Ok (at_decl (begun f section.Output))) _
    (λ e. outside c t cs (at_decl (begun f section.Output)) (begun-next c f section.Output cs (at 0 t ∷ []) h (spells_output t (mk mark.VarOutput e))))
    (chosen P (is m mark.Var) (Ok (at_var f)) _
    (λ e. outside c t cs (at_var f) (cs, t, h, mk mark.Var e, refl))
    (subst (λ (x : List Placed). Kept c t x (body_step f (stmt_step c [] no_stmts start t))) (append-nil cs)
    (body-kept c t f cs [] (stmt_step c [] no_stmts start t) (body-next c f cs h) (stmt-sound c t [] no_stmts start [] spells_no_stmt)))))

var-kept : (c : Context) (t : Token) (f : Front) (m : Mark) (cs : List Placed) → Holds c (at_var f) cs → IsMark m t.tok → Kept c t cs (var_at c f m t)
var-kept c t f m cs h mk =
    let P : Result State SyntaxFault → Type 0 = Kept c t (h.0 ++ at 0 h.1 ∷ []) in
    let tokens : h.0 ++ (at 0 h.1 ∷ at 0 t ∷ []) ≡ (h.0 ++ at 0 h.1 ∷ []) ++ at 0 t ∷ [] = simp append_assoc in
    subst (λ (x : List Placed). Kept c t x (var_at c f m t)) (sym h.4)
    (chosen P (is m mark.Constant) (Ok (at_decl (begun f section.Constant))) _
    (λ e. outside c t (h.0 ++ at 0 h.1 ∷ []) (at_decl (begun f section.Constant))
    (subst (λ (x : List Placed). DeclsNext c (begun f section.Constant) x) tokens
    (begun-next c f section.Constant h.0 (at 0 h.1 ∷ at 0 t ∷ []) h.2 (spells_constant h.1 t h.3 (mk mark.Constant e)))))
    (chosen P (is m mark.Retain) (Ok (at_decl (begun f section.Retain))) (decl_at c (begun f section.Local) m t)
    (λ e. outside c t (h.0 ++ at 0 h.1 ∷ []) (at_decl (begun f section.Retain))
    (subst (λ (x : List Placed). DeclsNext c (begun f section.Retain) x) tokens
    (begun-next c f section.Retain h.0 (at 0 h.1 ∷ at 0 t ∷ []) h.2 (spells_retain h.1 t h.3 (mk mark.Retain e)))))
    (decl-kept c t (begun f section.Local) m (h.0 ++ at 0 h.1 ∷ []) (begun-next c f section.Local h.0 (at 0 h.1 ∷ []) h.2 (spells_local h.1 h.3)) mk)))

type-kept : (c : Context) (t : Token) (o : Opening) (ds : List DeclaredTree) (m : Mark) (cs : List Placed) → TypeNext c o ds cs → IsMark m t.tok
    → Kept c t cs (type_at o ds m t)
type-kept c t o ds m cs h mk =
    let P : Result State SyntaxFault → Type 0 = Kept c t cs in
    chosen P (is m mark.Bool) (Ok (at_init o ds ty.Bool)) _
    (λ e. outside c t cs (at_init o ds ty.Bool) (h ty.Bool t (mk mark.Bool e)))
    (chosen P (is m mark.Int) (Ok (at_init o ds ty.Int)) _
    (λ e. outside c t cs (at_init o ds ty.Int) (h ty.Int t (mk mark.Int e)))
    (chosen P (is m mark.Dint) (Ok (at_init o ds ty.Dint)) _
    (λ e. outside c t cs (at_init o ds ty.Dint) (h ty.Dint t (mk mark.Dint e)))
    (chosen P (is m mark.Lint) (Ok (at_init o ds ty.Lint)) (refused t)
    (λ e. outside c t cs (at_init o ds ty.Lint) (h ty.Lint t (mk mark.Lint e))) tt)))

-- ---- the initial value

init_on-kept : (c : Context) (t : Token) (o : Opening) (ds : List DeclaredTree) (ty : Ty) (fs : List Form) (m : Mode) (cs : List Placed)
    (h : Holds c (in_init o ds ty fs m) cs) (r : Result Reading SyntaxFault)
    → step c 0 fs m t ≡ r → Kept c t (h.0 ++ h.1) (init_read_on o ds ty r)
init_on-kept c t o ds ty fs m cs h (Ok r) e =
    let n = step-read c 0 fs m h.1 t r h.3 e in
    (n.0, n.2, (h.0, h.1 ++ at n.0 t ∷ [], h.2, n.1, append_assoc h.0 h.1 (at n.0 t ∷ [])))
init_on-kept c t o ds ty fs m cs h (Err f) e = tt

init-kept : (c : Context) (t : Token) (o : Opening) (ds : List DeclaredTree) (ty : Ty) (fs : List Form) (m : Mode) (cs : List Placed)
    (h : Holds c (in_init o ds ty fs m) cs) (x : Option ExprTree)
    → ends_before fs m t ≡ x → Kept c t (h.0 ++ h.1) (init_at c o ds ty fs m t x)
init-kept c t o ds ty fs m cs h (Some e) is_whole =
    chosen (Kept c t (h.0 ++ h.1)) (is (mark_of t.tok) mark.Semi) (Ok (at_decl (with_decl o ds ty (Some e)))) (refused t)
    (λ k. outside c t (h.0 ++ h.1) (at_decl (with_decl o ds ty (Some e)))
    (subst (λ (x : List Placed). DeclsNext c (with_decl o ds ty (Some e)) x) (sym (append_assoc h.0 h.1 (at 0 t ∷ [])))
    (h.2 e h.1 t (ends-read c 0 fs m h.1 t e h.3 is_whole).0 (mark_is t.tok mark.Semi k))))
    tt
init-kept c t o ds ty fs m cs h None is_whole = init_on-kept c t o ds ty fs m cs h (step c 0 fs m t) refl

-- ---- a token

pub name-kept : (c : Context) (p n : Token) → p.tok ≡ tok.Key key.Program → n.tok ≡ tok.Name
    → BlocksNext c (record { name = c.bytes n; blocks = [] }) (at 0 p ∷ at 0 n ∷ [])
name-kept c p n kp kn bs ts sb body us e sp ke = spells_program bs body p n e ts us kp kn sb sp ke

pub step-kept : (c : Context) (t : Token) (s : State) (cs : List Placed) → Holds c s cs → Kept c t cs (program_step c s t)
step-kept c t at_program cs h =
    chosen (Kept c t cs) (is (mark_of t.tok) mark.Program) (Ok at_name) (refused t)
    (λ e. outside c t cs at_name (t, mark_is t.tok mark.Program e, ap (λ (x : List Placed). x ++ at 0 t ∷ []) h)) tt
step-kept c t at_name cs h =
    chosen (Kept c t cs) (is (mark_of t.tok) mark.Name) (Ok (at_block (record { name = c.bytes t; blocks = [] }))) (refused t)
    (λ e. outside c t cs (at_block (record { name = c.bytes t; blocks = [] }))
    (subst (λ (x : List Placed). BlocksNext c (record { name = c.bytes t; blocks = [] }) (x ++ at 0 t ∷ [])) (sym h.2)
    (name-kept c h.0 t h.1 (mark_is t.tok mark.Name e)))) tt
step-kept c t (at_block f) cs h = block-kept c t f (mark_of t.tok) cs h (mark_is t.tok)
step-kept c t (at_var f) cs h = var-kept c t f (mark_of t.tok) cs h (mark_is t.tok)
step-kept c t (at_decl o) cs h = decl-kept c t o (mark_of t.tok) cs h (mark_is t.tok)
step-kept c t (at_comma o ds) cs h =
    chosen (Kept c t cs) (is (mark_of t.tok) mark.Comma) (Ok (at_next_name o ds)) _
    (λ e. outside c t cs (at_next_name o ds) (h.0 t (mark_is t.tok mark.Comma e)))
    (chosen (Kept c t cs) (is (mark_of t.tok) mark.Colon) (Ok (at_type o ds)) (refused t)
    (λ e. outside c t cs (at_type o ds) (h.1 t (mark_is t.tok mark.Colon e))) tt)
step-kept c t (at_next_name o ds) cs h =
    chosen (Kept c t cs) (is (mark_of t.tok) mark.Name) (Ok (at_comma o (ds ++ declared c t ∷ []))) (refused t)
    (λ e. outside c t cs (at_comma o (ds ++ declared c t ∷ [])) (name-next c o ds cs t h (mark_is t.tok mark.Name e))) tt
step-kept c t (at_type o ds) cs h = type-kept c t o ds (mark_of t.tok) cs h (mark_is t.tok)
step-kept c t (at_init o ds ty) cs h =
    chosen (Kept c t cs) (is (mark_of t.tok) mark.Semi) (Ok (at_decl (with_decl o ds ty None))) _
    (λ e. outside c t cs (at_decl (with_decl o ds ty None)) (h None (at 0 t ∷ []) (spells_no_init t (mark_is t.tok mark.Semi e))))
    (chosen (Kept c t cs) (is (mark_of t.tok) mark.Assign) (Ok (in_init o ds ty [] want)) (refused t)
    (λ e. outside c t cs (in_init o ds ty [] want) (
      cs ++ at 0 t ∷ [],
      [],
      λ x ts u sx ku.
          subst (λ (l : List Placed). DeclsNext c (with_decl o ds ty (Some x)) l) (sym (append_assoc cs (at 0 t ∷ []) (ts ++ at 0 u ∷ [])))
          (h (Some x) (at 0 t ∷ (ts ++ at 0 u ∷ [])) (spells_init x t u ts (mark_is t.tok mark.Assign e) sx ku)),
      none-read c 0,
      sym (append-nil (cs ++ at 0 t ∷ [])),
    ))
    tt)
step-kept c t (in_init o ds ty fs m) cs h =
    subst (λ (x : List Placed). Kept c t x (init_at c o ds ty fs m t (ends_before fs m t))) (sym h.4)
    (init-kept c t o ds ty fs m cs h (ends_before fs m t) refl)
step-kept c t (in_body f outer ss p) cs h =
    subst (λ (x : List Placed). Kept c t x (body_step f (stmt_step c outer ss p t))) (sym h.4)
    (body-kept c t f h.0 h.1 (stmt_step c outer ss p t) h.2 (stmt-sound c t outer ss p h.1 h.3))

-- ---- all of them

-- the tokens spell the program, and none is deeper than the limit
abbrev pub SpelledBy : Context → List Token → ProgramTree → Type 0
SpelledBy c ts p = (ps : List Placed) × SpellsProgram c.bytes p ps × (tokens_of ps ≡ ts) × Within c.most ps

abbrev Good : Context → List Token → Result ProgramTree SyntaxFault → Type 0
Good c ts (Ok p) = SpelledBy c ts p
Good c ts (Err f) = Unit {0}

within-push : (most : ℕ) (cs : List Placed) (k : ℕ) (t : Token) → Within most cs → k ≤ most → Within most (cs ++ at k t ∷ [])
within-push most [] k t w le = (le, tt)
within-push most (p ∷ ps) k t w le = (w.0, within-push most ps k t w.1 le)

finish-good : (c : Context) (end : Spot) (s : State) (cs : List Placed) → Holds c s cs → Within c.most cs → Good c (tokens_of cs) (finish end s)
finish-good c end at_program cs h w = tt
finish-good c end at_name cs h w = tt
finish-good c end (at_block f) cs h w = tt
finish-good c end (at_var f) cs h w = tt
finish-good c end (at_decl o) cs h w = tt
finish-good c end (at_comma o ds) cs h w = tt
finish-good c end (at_next_name o ds) cs h w = tt
finish-good c end (at_type o ds) cs h w = tt
finish-good c end (at_init o ds ty) cs h w = tt
finish-good c end (in_init o ds ty fs m) cs h w = tt
finish-good c end (in_body f (level ∷ outer) ss p) cs h w = tt
finish-good c end (in_body f [] ss finished) cs h w =
    let us = h.3 in (
      cs,
      subst (λ (x : List Placed). SpellsProgram c.bytes (record { name = f.name; blocks = f.blocks; body = ss }) x)
          (sym (h.4 ∙ ap (λ (x : List Placed). h.0 ++ x) us.4)) (h.2 ss us.0 us.1 us.2 us.3),
      refl,
      w,
    )
finish-good c end (in_body f [] ss start) cs h w = tt
finish-good c end (in_body f [] ss (named x s)) cs h w = tt
finish-good c end (in_body f [] ss (reading p fs m)) cs h w = tt
finish-good c end (in_body f [] ss closed) cs h w = tt
finish-good c end (in_body f [] ss (loop_begun s)) cs h w = tt
finish-good c end (in_body f [] ss (loop_named l)) cs h w = tt
finish-good c end (in_body f [] ss (labelling k ls p)) cs h w = tt

onward-good : (c : Context) (t : Token) (ts all : List Token) (cs : List Placed) (r : Result State SyntaxFault) (next : State → Result ProgramTree SyntaxFault)
    → ((s : State) (ds : List Placed) → Holds c s ds → Within c.most ds → tokens_of ds ++ ts ≡ all → Good c all (next s))
    → Kept c t cs r → Within c.most cs → tokens_of cs ++ t ∷ ts ≡ all → Good c all (onward r next)
onward-good c t ts all cs (Ok s) next go h w e =
    let tokens : tokens_of (cs ++ at h.0 t ∷ []) ++ ts ≡ tokens_of cs ++ t ∷ ts =
    ap (λ (x : List Token). x ++ ts) (map_push (λ (p : Placed). p.token) cs (at h.0 t)) ∙ append_assoc (tokens_of cs) (t ∷ []) ts in
    go s (cs ++ at h.0 t ∷ []) h.2 (within-push c.most cs h.0 t w h.1) (tokens ∙ e)
onward-good c t ts all cs (Err f) next go h w e = tt

run-good : (c : Context) (end : Spot) (ts all : List Token) (s : State) (cs : List Placed) → Holds c s cs → Within c.most cs → tokens_of cs ++ ts ≡ all
    → Good c all (run c end ts s)
run-good c end [] all s cs h w e = subst (λ (x : List Token). Good c x (finish end s)) (sym (append-nil (tokens_of cs)) ∙ e) (finish-good c end s cs h w)
run-good c end (t ∷ ts) all s cs h w e = onward-good c t ts all cs (program_step c s t) (run c end ts) (run-good c end ts all) (step-kept c t s cs h) w e

-- what is read is spelled
pub sound : (c : Context) (end : Spot) (ts : List Token) (p : ProgramTree) → read_program c end ts ≡ Ok p
    → (ps : List Placed) × SpellsProgram c.bytes p ps × (tokens_of ps ≡ ts) × Within c.most ps
sound c end ts p e = subst (Good c ts) e (run-good c end ts ts at_program [] refl tt refl)
