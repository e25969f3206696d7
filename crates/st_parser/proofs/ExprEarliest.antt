-- ExprEarliest: what was read of an expression begins one.
use Rattle.std.proofs.Common.{◌≡◌, ℕ, ◌+◌, ◌<◌, Bool, true, false, cond, leb, List, [], ◌∷◌, ◌++◌, None, Result, Ok, Err, pos, sym, refl, subst, arith}
use Rattle.std.proofs.Common.{append_assoc}
use Rattle.std.proofs.lemmas.Bool.{leb-false}
use Rattle.std.proofs.lemmas.List.{append-nil}
use Rattle.vcp_base.specs.declared.spot.Spot.{Spot}
use Rattle.st_lexer.specs.declared.token.Sym.TheVariants as symbol
use Rattle.st_lexer.specs.declared.token.Tok.TheVariants as tok
use Rattle.st_lexer.specs.declared.token.Token.{Token}
use Rattle.st_tree.specs.ExprTree.{ExprTree, literal, name, unary, binary, call}
use Rattle.st_tree.specs.Appended.{exprs_and}
use Rattle.st_tree.specs.Operators.{any_level, unary_level, level}
use Rattle.st_tree.specs.Placed.{Placed, at}
use Rattle.st_tree.specs.Expressions.{SpellsExpr, spells_literal}
use Rattle.st_parser.specs.declared.fault.SyntaxFault.{SyntaxFault}
use Rattle.st_parser.specs.declared.fault.SyntaxFault.TheVariants as fault
use Rattle.st_parser.specs.declared.marks.Begins.{Begins}
use Rattle.st_parser.specs.declared.marks.Begins.TheVariants as begins
use Rattle.st_parser.specs.declared.marks.Goes.{Goes}
use Rattle.st_parser.specs.declared.marks.Goes.TheVariants as goes
use Rattle.st_parser.specs.Marks.{begins_by, goes_by}
use Rattle.st_parser.specs.ExprMachine.{Context, Form, sign_of, left_of, bracket, arguments, Mode, want, after_name, have, Reading, depth_in, close, no_deeper}
use Rattle.st_parser.specs.ExprMachine.{operand, close_at, part_at, go_on, go_on_name, step}
use Rattle.st_parser.proofs.ExprTables.{Began, begun}
use Rattle.st_parser.proofs.ExprSound.{Opened, Has, Holds, close-bracket, close-arguments, close-sign, close-left, settle, has-name, wants-top}
use Rattle.st_parser.proofs.ExprSound.{alone-spelled}

-- ---- what completes an expression

-- a closing bracket, and the literal 1
abbrev pub closing : Token
closing = record { tok = tok.Sym symbol.RParen; from = 0; to = 0; spot = record { line = 0; col = 0 } }

abbrev pub one : Token
one = record { tok = tok.Number None (pos 1); from = 0; to = 0; spot = record { line = 0; col = 0 } }

-- the brackets that close the open forms, the innermost first
abbrev pub closers : ℕ → List Form → List Placed
closers d [] = []
closers d (sign_of op s ∷ fs) = closers d fs
closers d (left_of op a s ∷ fs) = closers d fs
closers d (bracket ∷ fs) = at (d + depth_in fs) closing ∷ closers d fs
closers d (arguments f s es ∷ fs) = at (d + depth_in fs) closing ∷ closers d fs

-- an operand where one is wanted, and then the brackets
abbrev pub completion : ℕ → List Form → Mode → List Placed
completion d fs want = at (d + depth_in fs) one ∷ closers d fs
completion d fs (after_name f s) = closers d fs
completion d fs (have e) = closers d fs

-- some expression has these tokens
abbrev pub Spelled : Context → ℕ → List Placed → Type 0
Spelled c d ps = (e : ExprTree) × SpellsExpr c.bytes d any_level e ps

-- ---- what was read begins an expression

closes : (c : Context) (d : ℕ) (fs : List Form) (k : ℕ) (e : ExprTree) (ps : List Placed) → Has c d fs k e ps → Spelled c d (ps ++ closers d fs)
closes c d [] k e ps h = (
  e,
  subst (λ (x : List Placed). SpellsExpr c.bytes d any_level e x) (sym (append-nil ps))
      (alone-spelled c d e ps (settle c d [] k any_level e ps h h.wanted (omega arith))),
)
closes c d (sign_of op s ∷ fs) k e ps h = closes c d fs unary_level (unary op e s) ps (close-sign c d op s fs k e ps h)
closes c d (left_of op a s ∷ fs) k e ps h = closes c d fs (level op) (binary op a e s) ps (close-left c d op a s fs k e ps h)
closes c d (bracket ∷ fs) k e ps h =
    let p : Placed = at (d + depth_in fs) closing in
    subst (Spelled c d) (append_assoc ps (p ∷ []) (closers d fs))
    (closes c d fs unary_level e (ps ++ p ∷ []) (close-bracket c d fs e closing ps refl (settle c d (bracket ∷ fs) k any_level e ps h h.wanted (omega arith))))
closes c d (arguments f s es ∷ fs) k e ps h =
    let p : Placed = at (d + depth_in fs) closing in
    subst (Spelled c d) (append_assoc ps (p ∷ []) (closers d fs))
    (closes c d fs unary_level (call f (exprs_and es e) s) (ps ++ p ∷ [])
    (close-arguments c d f s es fs e closing ps refl (settle c d (arguments f s es ∷ fs) k any_level e ps h h.wanted (omega arith))))

-- what forms and mode have read, with its completion, spells an expression
pub completes : (c : Context) (d : ℕ) (fs : List Form) (m : Mode) (ps : List Placed) → Holds c d fs m ps → Spelled c d (ps ++ completion d fs m)
completes c d fs want ps h =
    let p : Placed = at (d + depth_in fs) one in
    let e : ExprTree = literal None (pos 1) one.spot in
    let has : Has c d fs unary_level e (ps ++ p ∷ []) = record {
      before = ps;
      ts = p ∷ [];
      opened = h;
      spelled = spells_literal (record { ty = None; value = pos 1 }) one refl;
      wanted = wants-top fs;
      placed = refl;
    } in
    subst (Spelled c d) (append_assoc ps (p ∷ []) (closers d fs)) (closes c d fs unary_level e (ps ++ p ∷ []) has)
completes c d fs (after_name f s) ps h = closes c d fs unary_level (name f s) ps (has-name c d fs f s ps h)
completes c d fs (have e) ps h = closes c d fs unary_level e ps h

-- ---- how deep the completion is

-- ---- a token that is too deep

-- the reading that goes on with a token at this depth
abbrev pub GoesOn : Context → ℕ → List Placed → ℕ → Token → Type 0
GoesOn c d ps k t = (r : Reading) × Holds c d r.forms r.mode (ps ++ at k t ∷ [])

-- where a token is refused for its depth, an operand is wanted, and the token begins one deeper than the limit
abbrev pub TooDeep : Context → ℕ → List Form → List Placed → Token → Result Reading SyntaxFault → Type 0
TooDeep c d fs ps t (Err (fault.Depth s)) = (s ≡ t.spot) × (c.most < d + depth_in fs) × GoesOn c d ps (d + depth_in fs) t
TooDeep c d fs ps t _ = Unit {0}

deep-if : (c : Context) (d : ℕ) (fs : List Form) (ps : List Placed) (t : Token) (b : Bool) (r : Reading) → (b ≡ false → c.most < d + depth_in fs)
    → Holds c d r.forms r.mode (ps ++ at (d + depth_in fs) t ∷ [])
    → TooDeep c d fs ps t (cond b (Ok r) (Err (fault.Depth t.spot)))
deep-if c d fs ps t true r lt h = tt
deep-if c d fs ps t false r lt h = (refl, lt refl, (r, h))

-- an operand that begins here
deep-begun : (c : Context) (d : ℕ) (fs : List Form) (ps : List Placed) (t : Token) (r : Reading) → Holds c d r.forms r.mode (ps ++ at (d + depth_in fs) t ∷ [])
    → TooDeep c d fs ps t (no_deeper c.most (d + depth_in fs) t (Ok r))
deep-begun c d fs ps t r h = deep-if c d fs ps t (leb (d + depth_in fs) c.most) r (leb-false (d + depth_in fs) c.most) h

deep-operand : (c : Context) (d : ℕ) (fs : List Form) (ps : List Placed) (t : Token) (b : Begins) → Began b t.tok → Opened c d fs ps
    → TooDeep c d fs ps t (no_deeper c.most (d + depth_in fs) t (operand c fs b t))
deep-operand c d fs ps t (begins.Literal ty v) i o =
    deep-begun c d fs ps t (record { forms = fs; mode = have (literal ty v t.spot) })
    (record {
      before = ps;
      ts = at (d + depth_in fs) t ∷ [];
      opened = o;
      spelled = spells_literal (record { ty = ty; value = v }) t i;
      wanted =
          wants-top fs;
      placed = refl;
    })
deep-operand c d fs ps t begins.Named i o = deep-begun c d fs ps t (record { forms = fs; mode = after_name (c.bytes t) t.spot }) (ps, t, o, i, refl, refl, refl)
deep-operand c d fs ps t (begins.Sign op) i o = deep-begun c d fs ps t (record { forms = sign_of op t.spot ∷ fs; mode = want }) (ps, t, o, i, refl, refl)
deep-operand c d fs ps t begins.Opens i o = deep-begun c d fs ps t (record { forms = bracket ∷ fs; mode = want }) (ps, t, o, i, refl)
deep-operand c d fs ps t begins.Nothing i o = tt

close-shallow : (c : Context) (d : ℕ) (gs : List Form) (ps : List Placed) (fs : List Form) (e : ExprTree) (t : Token) → TooDeep c d gs ps t (close_at fs e t)
close-shallow c d gs ps [] e t = tt
close-shallow c d gs ps (sign_of op s ∷ fs) e t = tt
close-shallow c d gs ps (left_of op a s ∷ fs) e t = tt
close-shallow c d gs ps (bracket ∷ fs) e t = tt
close-shallow c d gs ps (arguments f s es ∷ fs) e t = tt

part-shallow : (c : Context) (d : ℕ) (gs : List Form) (ps : List Placed) (fs : List Form) (e : ExprTree) (t : Token) → TooDeep c d gs ps t (part_at fs e t)
part-shallow c d gs ps [] e t = tt
part-shallow c d gs ps (sign_of op s ∷ fs) e t = tt
part-shallow c d gs ps (left_of op a s ∷ fs) e t = tt
part-shallow c d gs ps (bracket ∷ fs) e t = tt
part-shallow c d gs ps (arguments f s es ∷ fs) e t = tt

go-shallow : (c : Context) (d : ℕ) (ps : List Placed) (g : Goes) (fs : List Form) (e : ExprTree) (t : Token) → TooDeep c d fs ps t (go_on g fs e t)
go-shallow c d ps (goes.Joins op) fs e t = tt
go-shallow c d ps goes.Closes fs e t = close-shallow c d fs ps (close any_level fs e).forms (close any_level fs e).expr t
go-shallow c d ps goes.Parts fs e t = part-shallow c d fs ps (close any_level fs e).forms (close any_level fs e).expr t
go-shallow c d ps goes.Ends fs e t = tt

name-shallow : (c : Context) (d : ℕ) (ps : List Placed) (b : Begins) (fs : List Form) (f : List ℕ) (s : Spot) (t : Token)
    → TooDeep c d fs ps t (go_on_name b fs f s t)
name-shallow c d ps (begins.Literal ty v) fs f s t = go-shallow c d ps (goes_by t.tok) fs (name f s) t
name-shallow c d ps begins.Named fs f s t = go-shallow c d ps (goes_by t.tok) fs (name f s) t
name-shallow c d ps (begins.Sign op) fs f s t = go-shallow c d ps (goes_by t.tok) fs (name f s) t
name-shallow c d ps begins.Opens fs f s t = tt
name-shallow c d ps begins.Nothing fs f s t = go-shallow c d ps (goes_by t.tok) fs (name f s) t

pub too-deep : (c : Context) (d : ℕ) (fs : List Form) (m : Mode) (ps : List Placed) (t : Token) → Holds c d fs m ps → TooDeep c d fs ps t (step c d fs m t)
too-deep c d fs want ps t h = deep-operand c d fs ps t (begins_by t.tok) (begun t.tok) h
too-deep c d fs (after_name f s) ps t h = name-shallow c d ps (begins_by t.tok) fs f s t
too-deep c d fs (have e) ps t h = go-shallow c d ps (goes_by t.tok) fs e t
