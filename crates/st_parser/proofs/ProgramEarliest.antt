-- ProgramEarliest: what was read of a program begins one.
use Rattle.std.proofs.Common.{◌≡◌, ℕ, suc, List, [], ◌∷◌, ◌++◌, length, Some, None, pos, sym, refl, ap, ◌∙◌, subst, append_assoc, append-nil}
use Rattle.vcp_base.specs.declared.ty.Ty.{Ty}
use Rattle.vcp_base.specs.declared.ty.Ty.TheVariants as ty
use Rattle.st_lexer.specs.declared.token.Key.TheVariants as key
use Rattle.st_lexer.specs.declared.token.Sym.TheVariants as symbol
use Rattle.st_lexer.specs.declared.token.Tok.{Tok}
use Rattle.st_lexer.specs.declared.token.Tok.TheVariants as tok
use Rattle.st_lexer.specs.declared.token.Token.{Token}
use Rattle.st_tree.specs.declared.program.Section.TheVariants as section
use Rattle.st_tree.specs.ExprTree.{ExprTree, literal}
use Rattle.st_tree.specs.StmtTree.{LabelTree, StmtTree, StmtTrees, no_stmts, no_arms, no_branches, and_branch, no_other}
use Rattle.st_tree.specs.ProgramTree.{DeclaredTree, ProgramTree}
use Rattle.st_tree.specs.Appended.{stmts_and}
use Rattle.st_tree.specs.Operators.{any_level}
use Rattle.st_tree.specs.Placed.{Placed, at}
use Rattle.st_tree.specs.Expressions.{SpellsExpr, spells_literal}
use Rattle.st_tree.specs.Labels.{SpellsLabel, SpellsLabels, spells_value, spells_one, spells_last_label}
use Rattle.st_tree.specs.Statements.{SpellsStmts, spells_no_stmt, spells_no_step, spells_end_if, spells_end_case, spells_branch}
use Rattle.st_tree.specs.Programs.{spells_last_name, spells_no_init, spells_end_var, spells_local, SpellsProgram}
use Rattle.st_parser.specs.ExprMachine.{Context}
use Rattle.st_parser.specs.StmtMachine.{Selection, Loop, Body, of_arm, of_if_else, of_branch, of_case_else, of_loop, Level, Purpose, to_assign, to_test}
use Rattle.st_parser.specs.StmtMachine.{to_select, to_begin, to_end, to_step, LabelPhase, first_wanted, first_negated, first_read, last_wanted, last_negated}
use Rattle.st_parser.specs.StmtMachine.{last_read, Phase, start, named, reading, closed, loop_begun, loop_named, labelling, finished}
use Rattle.st_parser.specs.ProgramMachine.{Front, Opening, State, at_program, at_name, at_block, at_var, at_decl, at_comma, at_next_name, at_type, at_init}
use Rattle.st_parser.specs.ProgramMachine.{in_init, in_body, with_decl, begun}
use Rattle.st_parser.proofs.ExprEarliest.{one, completion, completes}
use Rattle.st_parser.proofs.SoFar.{Opens, Selects, Lists, Ends, Asks, Counts, Labels, Reads, Whole, Stands}
use Rattle.st_parser.proofs.ProgramSound.{BodyNext, BlocksNext, DeclsNext, InitNext, TypeNext, NamesNext, Holds, body-next, begun-next, name-kept}

-- a token of this kind
abbrev made : Tok → Token
made k = record { tok = k; from = 0; to = 0; spot = record { line = 0; col = 0 } }

-- the expression 1
abbrev unit : ExprTree
unit = literal None (pos 1) one.spot

unit-spelled : (bytes : Token → List ℕ) (d l : ℕ) → SpellsExpr bytes d l unit (at d one ∷ [])
unit-spelled bytes d l = spells_literal (record { ty = None; value = pos 1 }) one refl

-- ---- statements

-- with further tokens the tokens cs end in a whole statement
abbrev Extends : (StmtTree → List Placed → Type 0) → List Placed → Type 0
Extends P cs = (s : StmtTree) × (zs : List Placed) × P s (cs ++ zs)

extends-here : (P : StmtTree → List Placed → Type 0) (s : StmtTree) (cs : List Placed) → P s cs → Extends P cs
extends-here P s cs h = (s, [], subst (P s) (sym (append-nil cs)) h)

extends-front : (P : StmtTree → List Placed → Type 0) (cs xs : List Placed) → Extends P (cs ++ xs) → Extends P cs
extends-front P cs xs h = (h.0, xs ++ h.1, subst (P h.0) (append_assoc cs xs h.1) h.2)

-- an open body is closed
body-extends : (c : Context) (d : ℕ) (P : StmtTree → List Placed → Type 0) (body : Body) (ss : StmtTrees) (hs us : List Placed) → Opens c d P body hs
    → SpellsStmts c.bytes (suc d) ss us → Extends P (hs ++ us)
body-extends c d P (of_arm arms e s) ss hs us h sp =
    let x = made (tok.Key key.EndIf) in
    (_, at d x ∷ [], subst (P _) (sym (append_assoc hs us (at d x ∷ []))) (h ss no_arms no_other us (at d x ∷ []) sp (spells_end_if x refl)))
body-extends c d P (of_if_else arms) ss hs us h sp =
    let x = made (tok.Key key.EndIf) in
    (_, at d x ∷ [], subst (P _) (sym (append_assoc hs us (at d x ∷ []))) (h ss us x sp refl))
body-extends c d P (of_branch q ls) ss hs us h sp =
    let x = made (tok.Key key.EndCase) in
    (_, at d x ∷ [], subst (P _) (sym (append_assoc hs us (at d x ∷ []))) (h ss no_branches no_other us (at d x ∷ []) sp (spells_end_case x refl)))
body-extends c d P (of_case_else q) ss hs us h sp =
    let x = made (tok.Key key.EndCase) in
    (_, at d x ∷ [], subst (P _) (sym (append_assoc hs us (at d x ∷ []))) (h ss us x sp refl))
body-extends c d P (of_loop l first last by) ss hs us h sp =
    let x = made (tok.Key key.EndFor) in
    (_, at d x ∷ [], subst (P _) (sym (append_assoc hs us (at d x ∷ []))) (h ss us x sp refl))

-- a body that begins is closed
opens-extends : (c : Context) (d : ℕ) (P : StmtTree → List Placed → Type 0) (body : Body) (hs : List Placed) → Opens c d P body hs → Extends P hs
opens-extends c d P body hs h = subst (Extends P) (append-nil hs) (body-extends c d P body no_stmts hs [] h spells_no_stmt)

-- a label, and the body of its branch
label-extends : (c : Context) (d : ℕ) (P : StmtTree → List Placed → Type 0) (q : Selection) (ls : List LabelTree) (l : LabelTree) (hs ts : List Placed)
    → Lists c d P q ls hs → SpellsLabel c.bytes (suc d) l ts → Extends P (hs ++ ts)
label-extends c d P q ls l hs ts h sp =
    let x = at (suc d) (made (tok.Sym symbol.Colon)) in
    extends-front P (hs ++ ts) (x ∷ [])
    (subst (Extends P) (sym (append_assoc hs ts (x ∷ [])))
    (opens-extends c d P (of_branch q (ls ++ l ∷ [])) (hs ++ (ts ++ x ∷ [])) (h (l ∷ []) (ts ++ x ∷ []) (spells_last_label l x.token ts sp refl))))

selects-extends : (c : Context) (d : ℕ) (P : StmtTree → List Placed → Type 0) (q : Selection) (hs : List Placed) → Selects c d P q hs → Extends P hs
selects-extends c d P q hs h =
    let x = made (tok.Sym symbol.Colon) in
    let e = made (tok.Key key.EndCase) in
    let l : LabelTree = record { first = unit; last = None } in
    let labels : SpellsLabels c.bytes (suc d) (l ∷ []) (at (suc d) one ∷ at (suc d) x ∷ []) =
    spells_last_label l x (at (suc d) one ∷ []) (spells_one unit (at (suc d) one ∷ []) (spells_value (record { ty = None; value = pos 1 }) one refl)) refl in (
      _,
      _,
      h (and_branch (l ∷ []) no_stmts no_branches) no_other _
          (spells_branch (l ∷ []) no_stmts no_branches no_other _ [] (at d e ∷ []) labels spells_no_stmt (spells_end_case e refl)),
    )

ends-extends : (c : Context) (d : ℕ) (P : StmtTree → List Placed → Type 0) (l : Loop) (first e : ExprTree) (hs ts : List Placed) → Ends c d P l first hs
    → SpellsExpr c.bytes d any_level e ts → Extends P (hs ++ ts)
ends-extends c d P l first e hs ts h sp =
    let x = at d (made (tok.Key key.Do)) in
    extends-front P (hs ++ ts) (x ∷ [])
    (subst (Extends P) (sym (append_assoc hs ts (x ∷ [])))
    (opens-extends c d P (of_loop l first e None) (hs ++ (ts ++ x ∷ [])) (h e None ts [] x.token sp spells_no_step refl)))

-- a whole expression, and what must come behind it
asks-extends : (c : Context) (d : ℕ) (P : StmtTree → List Placed → Type 0) (p : Purpose) (e : ExprTree) (hs ts : List Placed) → Asks c d P p hs
    → SpellsExpr c.bytes d any_level e ts → Extends P (hs ++ ts)
asks-extends c d P (to_assign f s) e hs ts h sp = extends-here P _ (hs ++ ts) (h e ts sp)
asks-extends c d P (to_test arms s) e hs ts h sp =
    let x = at d (made (tok.Key key.Then)) in
    extends-front P (hs ++ ts) (x ∷ [])
    (subst (Extends P) (sym (append_assoc hs ts (x ∷ []))) (opens-extends c d P (of_arm arms e s) (hs ++ (ts ++ x ∷ [])) (h e ts x.token sp refl)))
asks-extends c d P (to_select s) e hs ts h sp =
    let x = at d (made (tok.Key key.Of)) in
    extends-front P (hs ++ ts) (x ∷ [])
    (subst (Extends P) (sym (append_assoc hs ts (x ∷ [])))
    (selects-extends c d P (record { on = e; spot = s; branches = no_branches }) (hs ++ (ts ++ x ∷ [])) (h e ts x.token sp refl)))
asks-extends c d P (to_begin l) e hs ts h sp =
    let x = at d (made (tok.Key key.To)) in
    extends-front P (hs ++ ts) (x ∷ [])
    (subst (Extends P) (sym (append_assoc hs ts (x ∷ [])))
    (extends-front P (hs ++ (ts ++ x ∷ [])) (at d one ∷ [])
    (ends-extends c d P l e unit (hs ++ (ts ++ x ∷ [])) (at d one ∷ []) (h e ts x.token sp refl) (unit-spelled c.bytes d any_level))))
asks-extends c d P (to_end l first) e hs ts h sp = ends-extends c d P l first e hs ts h sp
asks-extends c d P (to_step l first last) e hs ts h sp =
    let x = at d (made (tok.Key key.Do)) in
    extends-front P (hs ++ ts) (x ∷ [])
    (subst (Extends P) (sym (append_assoc hs ts (x ∷ [])))
    (opens-extends c d P (of_loop l first last (Some e)) (hs ++ (ts ++ x ∷ [])) (h e ts x.token sp refl)))

-- where an expression must come
ask-extends : (c : Context) (d : ℕ) (P : StmtTree → List Placed → Type 0) (p : Purpose) (hs : List Placed) → Asks c d P p hs → Extends P hs
ask-extends c d P p hs h = extends-front P hs (at d one ∷ []) (asks-extends c d P p unit hs (at d one ∷ []) h (unit-spelled c.bytes d any_level))

counts-extends : (c : Context) (d : ℕ) (P : StmtTree → List Placed → Type 0) (l : Loop) (hs : List Placed) → Counts c d P l hs → Extends P hs
counts-extends c d P l hs h =
    let x = at d (made (tok.Sym symbol.Assign)) in
    extends-front P hs (x ∷ []) (ask-extends c d P (to_begin l) (hs ++ x ∷ []) (h x.token refl))

-- a label that is read in part
labels-extend : (c : Context) (d : ℕ) (P : StmtTree → List Placed → Type 0) (q : Selection) (ls : List LabelTree) (p : LabelPhase) (hs ts : List Placed)
    → Lists c d P q ls hs → Labels c (suc d) p ts → Extends P (hs ++ ts)
labels-extend c d P q ls first_wanted hs ts h l =
    subst (λ (x : List Placed). Extends P (hs ++ x)) (sym l)
    (subst (Extends P) (sym (append-nil hs))
    (extends-front P hs (at (suc d) one ∷ [])
    (label-extends c d P q ls _ hs (at (suc d) one ∷ []) h
    (spells_one unit (at (suc d) one ∷ []) (spells_value (record { ty = None; value = pos 1 }) one refl)))))
labels-extend c d P q ls (first_negated s) hs ts h l =
    let x = at (suc (suc d)) one in
    extends-front P (hs ++ ts) (x ∷ [])
    (subst (Extends P) (sym (append_assoc hs ts (x ∷ [])))
    (label-extends c d P q ls _ hs (ts ++ x ∷ []) h (spells_one _ (ts ++ x ∷ []) (l.1 None (pos 1) one refl))))
labels-extend c d P q ls (first_read e) hs ts h l = label-extends c d P q ls _ hs ts h (spells_one e ts l.1)
labels-extend c d P q ls (last_wanted e) hs ts h l =
    let x = at (suc d) one in
    extends-front P (hs ++ ts) (x ∷ [])
    (subst (Extends P) (sym (append_assoc hs ts (x ∷ [])))
    (label-extends c d P q ls _ hs (ts ++ x ∷ []) h (l.1 unit (x ∷ []) (spells_value (record { ty = None; value = pos 1 }) one refl))))
labels-extend c d P q ls (last_negated e s) hs ts h l =
    let x = at (suc (suc d)) one in
    extends-front P (hs ++ ts) (x ∷ [])
    (subst (Extends P) (sym (append_assoc hs ts (x ∷ []))) (label-extends c d P q ls _ hs (ts ++ x ∷ []) h (l.1 None (pos 1) one refl)))
labels-extend c d P q ls (last_read e f) hs ts h l = label-extends c d P q ls _ hs ts h l.1

-- ---- bodies

-- with further tokens the tokens cs spell statements of a program's body
abbrev Completed : Context → List Placed → Type 0
Completed c cs = (body : StmtTrees) × (zs : List Placed) × SpellsStmts c.bytes 0 body (cs ++ zs)

completed-front : (c : Context) (cs xs : List Placed) → Completed c (cs ++ xs) → Completed c cs
completed-front c cs xs h = (h.0, xs ++ h.1, subst (SpellsStmts c.bytes 0 h.0) (append_assoc cs xs h.1) h.2)

reads-completed : (c : Context) (outer : List Level) (ss : StmtTrees) (cs : List Placed) → Reads c outer ss cs → Completed c cs
reads-completed c [] ss cs r = (ss, [], subst (SpellsStmts c.bytes 0 ss) (sym (append-nil cs)) r)
reads-completed c (level ∷ outer) ss cs r =
    let P : StmtTree → List Placed → Type 0 = Whole c outer level.before in
    let x : Extends P (r.0 ++ r.1) = body-extends c (length outer) P level.body ss r.0 r.1 r.3 r.4 in
    let z = made (tok.Sym symbol.Semi) in
    let rest = reads-completed c outer (stmts_and level.before x.0) (((r.0 ++ r.1) ++ x.1) ++ at (length outer) z ∷ []) (x.2 z refl) in
    subst (Completed c) (sym r.5) (completed-front c (r.0 ++ r.1) x.1 (completed-front c ((r.0 ++ r.1) ++ x.1) (at (length outer) z ∷ []) rest))

whole-completed : (c : Context) (outer : List Level) (ss : StmtTrees) (cs : List Placed) → Extends (Whole c outer ss) cs → Completed c cs
whole-completed c outer ss cs x =
    let z = made (tok.Sym symbol.Semi) in
    completed-front c cs x.1
    (completed-front c (cs ++ x.1) (at (length outer) z ∷ [])
    (reads-completed c outer (stmts_and ss x.0) ((cs ++ x.1) ++ at (length outer) z ∷ []) (x.2 z refl)))

-- ---- programs

-- with further tokens the tokens cs spell a program
abbrev pub Begun : Context → List Placed → Type 0
Begun c cs = (p : ProgramTree) × (zs : List Placed) × SpellsProgram c.bytes p (cs ++ zs)

begun-front : (c : Context) (cs xs : List Placed) → Begun c (cs ++ xs) → Begun c cs
begun-front c cs xs h = (h.0, xs ++ h.1, subst (SpellsProgram c.bytes h.0) (append_assoc cs xs h.1) h.2)

body-begun : (c : Context) (f : Front) (body : StmtTrees) (hs us : List Placed) → BodyNext c f hs → SpellsStmts c.bytes 0 body us → Begun c (hs ++ us)
body-begun c f body hs us h sp =
    let x = made (tok.Key key.EndProgram) in
    (_, at 0 x ∷ [], subst (SpellsProgram c.bytes _) (sym (append_assoc hs us (at 0 x ∷ []))) (h body us x sp refl))

-- the body, as far as it is read
completed-begun : (c : Context) (f : Front) (hs us : List Placed) → BodyNext c f hs → Completed c us → Begun c (hs ++ us)
completed-begun c f hs us h x = begun-front c (hs ++ us) x.1 (subst (Begun c) (sym (append_assoc hs us x.1)) (body-begun c f x.0 hs (us ++ x.1) h x.2))

stands-begun : (c : Context) (f : Front) (hs : List Placed) (outer : List Level) (ss : StmtTrees) (p : Phase) (us : List Placed) → BodyNext c f hs
    → Stands c outer ss p us → Begun c (hs ++ us)
stands-begun c f hs outer ss start us b h = completed-begun c f hs us b (reads-completed c outer ss us h)
stands-begun c f hs outer ss (named n s) us b h =
    let x = at (length outer) (made (tok.Sym symbol.Assign)) in
    completed-begun c f hs us b
    (whole-completed c outer ss us
    (extends-front (Whole c outer ss) us (x ∷ []) (ask-extends c (length outer) (Whole c outer ss) (to_assign n s) (us ++ x ∷ []) (h.5 x.token refl))))
stands-begun c f hs outer ss (reading p fs m) us b h =
    let d : ℕ = length outer in
    let e = completes c d fs m h.1 h.4.0 in
    completed-begun c f hs us b
    (subst (Completed c) (sym h.5)
    (whole-completed c outer ss (h.0 ++ h.1)
    (extends-front (Whole c outer ss) (h.0 ++ h.1) (completion d fs m)
    (subst (Extends (Whole c outer ss)) (sym (append_assoc h.0 h.1 (completion d fs m)))
    (asks-extends c d (Whole c outer ss) p e.0 h.0 (h.1 ++ completion d fs m) h.3 e.1)))))
stands-begun c f hs outer ss closed us b h =
    let z = made (tok.Sym symbol.Semi) in
    completed-begun c f hs us b (completed-front c us (at (length outer) z ∷ []) (reads-completed c outer ss (us ++ at (length outer) z ∷ []) (h.1 z refl)))
stands-begun c f hs outer ss (loop_begun s) us b h =
    let n = at (length outer) (made tok.Name) in
    completed-begun c f hs us b
    (whole-completed c outer ss us
    (extends-front (Whole c outer ss) us (n ∷ []) (counts-extends c (length outer) (Whole c outer ss) _ (us ++ n ∷ []) (h.1 n.token refl))))
stands-begun c f hs outer ss (loop_named l) us b h =
    completed-begun c f hs us b (whole-completed c outer ss us (counts-extends c (length outer) (Whole c outer ss) l us h.1))
stands-begun c f hs outer ss (labelling q ls p) us b h =
    completed-begun c f hs us b
    (subst (Completed c) (sym h.5) (whole-completed c outer ss (h.0 ++ h.1) (labels-extend c (length outer) (Whole c outer ss) q ls p h.0 h.1 h.3 h.4)))
stands-begun c f hs outer ss finished us b h =
    (_, [], subst (SpellsProgram c.bytes _) (ap (λ (x : List Placed). hs ++ x) (sym h.4) ∙ sym (append-nil (hs ++ us))) (b ss h.0 h.1 h.2 h.3))

blocks-begun : (c : Context) (f : Front) (cs : List Placed) → BlocksNext c f cs → Begun c cs
blocks-begun c f cs h = subst (Begun c) (append-nil cs) (body-begun c f no_stmts cs [] (body-next c f cs h) spells_no_stmt)

decls-begun : (c : Context) (o : Opening) (cs : List Placed) → DeclsNext c o cs → Begun c cs
decls-begun c o cs h =
    let x = made (tok.Key key.EndVar) in
    begun-front c cs (at 0 x ∷ []) (blocks-begun c _ (cs ++ at 0 x ∷ []) (h [] (at 0 x ∷ []) (spells_end_var x refl)))

init-begun : (c : Context) (o : Opening) (ds : List DeclaredTree) (t : Ty) (cs : List Placed) → InitNext c o ds t cs → Begun c cs
init-begun c o ds t cs h =
    let x = made (tok.Sym symbol.Semi) in
    begun-front c cs (at 0 x ∷ []) (decls-begun c _ (cs ++ at 0 x ∷ []) (h None (at 0 x ∷ []) (spells_no_init x refl)))

type-begun : (c : Context) (o : Opening) (ds : List DeclaredTree) (cs : List Placed) → TypeNext c o ds cs → Begun c cs
type-begun c o ds cs h =
    let x = made (tok.Key key.Bool) in
    begun-front c cs (at 0 x ∷ []) (init-begun c o ds ty.Bool (cs ++ at 0 x ∷ []) (h ty.Bool x refl))

names-begun : (c : Context) (o : Opening) (ds : List DeclaredTree) (cs : List Placed) → NamesNext c o ds cs → Begun c cs
names-begun c o ds cs h =
    let n = made tok.Name in
    let x = made (tok.Sym symbol.Colon) in
    begun-front c cs (at 0 n ∷ at 0 x ∷ []) (type-begun c o _ (cs ++ (at 0 n ∷ at 0 x ∷ [])) (h _ (at 0 n ∷ at 0 x ∷ []) (spells_last_name n x refl refl)))

-- what was read in this state begins a program
pub begins : (c : Context) (s : State) (cs : List Placed) → Holds c s cs → Begun c cs
begins c at_program cs h =
    let p = made (tok.Key key.Program) in
    let n = made tok.Name in
    subst (Begun c) (sym h)
    (begun-front c [] (at 0 p ∷ at 0 n ∷ []) (blocks-begun c (record { name = c.bytes n; blocks = [] }) (at 0 p ∷ at 0 n ∷ []) (name-kept c p n refl refl)))
begins c at_name cs h =
    let n = made tok.Name in
    subst (Begun c) (sym h.2)
    (begun-front c (at 0 h.0 ∷ []) (at 0 n ∷ [])
    (blocks-begun c (record { name = c.bytes n; blocks = [] }) (at 0 h.0 ∷ at 0 n ∷ []) (name-kept c h.0 n h.1 refl)))
begins c (at_block f) cs h = blocks-begun c f cs h
begins c (at_var f) cs h =
    subst (Begun c) (sym h.4)
    (decls-begun c (begun f section.Local) (h.0 ++ at 0 h.1 ∷ []) (begun-next c f section.Local h.0 (at 0 h.1 ∷ []) h.2 (spells_local h.1 h.3)))
begins c (at_decl o) cs h = decls-begun c o cs h
begins c (at_comma o ds) cs h =
    let x = made (tok.Sym symbol.Colon) in
    begun-front c cs (at 0 x ∷ []) (type-begun c o ds (cs ++ at 0 x ∷ []) (h.1 x refl))
begins c (at_next_name o ds) cs h = names-begun c o ds cs h
begins c (at_type o ds) cs h = type-begun c o ds cs h
begins c (at_init o ds t) cs h = init-begun c o ds t cs h
begins c (in_init o ds t fs m) cs h =
    let x = made (tok.Sym symbol.Semi) in
    let e = completes c 0 fs m h.1 h.3.0 in
    let rest : List Placed = completion 0 fs m in
    let tokens : h.0 ++ ((h.1 ++ rest) ++ at 0 x ∷ []) ≡ (h.0 ++ h.1) ++ (rest ++ at 0 x ∷ []) = simp append_assoc in
    subst (Begun c) (sym h.4)
    (begun-front c (h.0 ++ h.1) (rest ++ at 0 x ∷ [])
    (subst (Begun c) tokens (decls-begun c (with_decl o ds t (Some e.0)) (h.0 ++ ((h.1 ++ rest) ++ at 0 x ∷ [])) (h.2 e.0 (h.1 ++ rest) x e.1 refl))))
begins c (in_body f outer ss p) cs h = subst (Begun c) (sym h.4) (stands-begun c f h.0 outer ss p h.1 h.2 h.3)
