-- ExprComplete: an expression that is spelled is read, whatever follows it.
use Rattle.std.proofs.Common.{◌≡◌, ℕ, suc, ◌+◌, ◌≤◌, Bool, cond, List, [], ◌∷◌, ◌++◌, Some, None, Result, Ok, Err, refl, ap, ◌∙◌, arith, append_assoc}
use Rattle.std.proofs.lemmas.Bool.{le-leb, lt-leb}
use Rattle.std.proofs.lemmas.List.{map-append}
use Rattle.vcp_base.specs.declared.spot.Spot.{Spot}
use Rattle.st_lexer.specs.declared.token.Sym.TheVariants as symbol
use Rattle.st_lexer.specs.declared.token.Tok.TheVariants as tok
use Rattle.st_lexer.specs.declared.token.Token.{Token}
use Rattle.st_tree.specs.declared.expr.UnOp.{UnOp}
use Rattle.st_tree.specs.declared.expr.BinOp.{BinOp}
use Rattle.st_tree.specs.declared.expr.BinOp.TheVariants as bin
use Rattle.st_tree.specs.ExprTree.{ExprTree, ExprTrees, literal, name, unary, binary, call, no_exprs, and_expr}
use Rattle.st_tree.specs.Appended.{exprs_and}
use Rattle.st_tree.specs.Operators.{operator, level, any_level, unary_level, chain}
use Rattle.st_tree.specs.Placed.{Placed, at, tokens_of, Within}
use Rattle.st_tree.specs.Expressions.{SpellsExpr, SpellsArgs, spells_literal, spells_name, spells_unary, spells_binary, spells_call, spells_brackets}
use Rattle.st_tree.specs.Expressions.{spells_last, spells_next}
use Rattle.st_parser.specs.declared.fault.SyntaxFault.{SyntaxFault}
use Rattle.st_parser.specs.declared.fault.SyntaxFault.TheVariants as fault
use Rattle.st_parser.specs.declared.marks.Begins.{Begins}
use Rattle.st_parser.specs.declared.marks.Begins.TheVariants as begins
use Rattle.st_parser.specs.declared.marks.Goes.{Goes}
use Rattle.st_parser.specs.declared.marks.Goes.TheVariants as goes
use Rattle.st_parser.specs.Marks.{begins_by, goes_by}
use Rattle.st_parser.specs.ExprMachine.{Context, Form, sign_of, left_of, bracket, arguments, Mode, want, after_name, have, Reading, depth_in, Closed, close}
use Rattle.st_parser.specs.ExprMachine.{no_deeper, operand, close_at, part_at, go_on, go_on_name, step, alone, whole_before, name_before, ends_before}
use Rattle.st_parser.proofs.ExprTables.{literal-begins, sign-begins, operator-joins, operator-opens-not}

-- what continues an expression at base depth d: `go ts fs m` is the result of reading the tokens on
pub record Reads (c : Context) (d : ℕ) {X : Type 0} (go : List Token → List Form → Mode → X) : Type 0 where
  -- a token that ends nothing and is taken by the step
  pub ok : (t : Token) (ts : List Token) (fs : List Form) (m : Mode) (r : Reading) → ends_before fs m t ≡ None → step c d fs m t ≡ Ok r
      → go (t ∷ ts) fs m ≡ go ts r.forms r.mode
  -- what the next token does is all that matters of forms and mode
  pub same : (t : Token) (ts : List Token) (fs gs : List Form) (m n : Mode) → ends_before fs m t ≡ ends_before gs n t → step c d fs m t ≡ step c d gs n t
      → go (t ∷ ts) fs m ≡ go (t ∷ ts) gs n

-- ---- levels

-- the level that is wanted inside the innermost form
abbrev pub wants : List Form → ℕ
wants [] = any_level
wants (sign_of op s ∷ fs) = unary_level
wants (left_of op a s ∷ fs) = suc (level op)
wants (bracket ∷ fs) = any_level
wants (arguments f s es ∷ fs) = any_level

-- how strongly a token takes the operand before it
abbrev takes_by : Goes → ℕ
takes_by (goes.Joins op) = level op
takes_by goes.Closes = 0
takes_by goes.Parts = 0
takes_by goes.Ends = 0

-- the token does not take an operand of level l apart: it binds no more strongly, and opens no argument list
abbrev pub Lets : ℕ → Token → Type 0
Lets l t = (takes_by (goes_by t.tok) ≤ l) × (begins_by t.tok ≡ begins.Opens → ⊥)

pub level-within : (op : BinOp) → (1 ≤ level op) × (level op ≤ 7)
level-within bin.Mul = (omega arith, omega arith)
level-within bin.Div = (omega arith, omega arith)
level-within bin.Mod = (omega arith, omega arith)
level-within bin.Add = (omega arith, omega arith)
level-within bin.Sub = (omega arith, omega arith)
level-within bin.Lt = (omega arith, omega arith)
level-within bin.Gt = (omega arith, omega arith)
level-within bin.Le = (omega arith, omega arith)
level-within bin.Ge = (omega arith, omega arith)
level-within bin.Eq = (omega arith, omega arith)
level-within bin.Ne = (omega arith, omega arith)
level-within bin.And = (omega arith, omega arith)
level-within bin.Xor = (omega arith, omega arith)
level-within bin.Or = (omega arith, omega arith)

Lets-weaker : (l m : ℕ) (t : Token) → l ≤ m → Lets l t → Lets m t
Lets-weaker l m t le h = (omega (arith, h.0, le), h.1)

pub Lets-closed : (l : ℕ) (t : Token) → t.tok ≡ tok.Sym symbol.RParen → Lets l t
Lets-closed l t e = rw e (omega arith, λ h. absurd cc)

pub Lets-parted : (l : ℕ) (t : Token) → t.tok ≡ tok.Sym symbol.Comma → Lets l t
Lets-parted l t e = rw e (omega arith, λ h. absurd cc)

pub Lets-joined : (op : BinOp) (t : Token) → t.tok ≡ operator op → Lets (level op) t
Lets-joined op t e = rw (e, operator-joins op) (omega arith, operator-opens-not op)

Lets-ended : (l : ℕ) (t : Token) → goes_by t.tok ≡ goes.Ends → (begins_by t.tok ≡ begins.Opens → ⊥) → Lets l t
Lets-ended l t e o = rw e (omega arith, o)

-- ---- what a token ends

not-ended : (g : Goes) (fs : List Form) (e : ExprTree) (t : Token) (r : Reading) → go_on g fs e t ≡ Ok r → whole_before g fs e ≡ None
not-ended (goes.Joins op) fs e t r h = refl
not-ended goes.Closes fs e t r h = refl
not-ended goes.Parts fs e t r h = refl
not-ended goes.Ends fs e t r h = absurd cc

name-not-ended : (b : Begins) (fs : List Form) (f : List ℕ) (s : Spot) (t : Token) (r : Reading) → go_on_name b fs f s t ≡ Ok r
    → name_before b (goes_by t.tok) fs (name f s) ≡ None
name-not-ended begins.Opens fs f s t r h = refl
name-not-ended (begins.Literal ty v) fs f s t r h = not-ended (goes_by t.tok) fs (name f s) t r h
name-not-ended begins.Named fs f s t r h = not-ended (goes_by t.tok) fs (name f s) t r h
name-not-ended (begins.Sign op) fs f s t r h = not-ended (goes_by t.tok) fs (name f s) t r h
name-not-ended begins.Nothing fs f s t r h = not-ended (goes_by t.tok) fs (name f s) t r h

-- a token that is taken ends nothing
pub taken-ends-not : (c : Context) (d : ℕ) (fs : List Form) (m : Mode) (t : Token) (r : Reading) → step c d fs m t ≡ Ok r → ends_before fs m t ≡ None
taken-ends-not c d fs want t r h = refl
taken-ends-not c d fs (after_name f s) t r h = name-not-ended (begins_by t.tok) fs f s t r h
taken-ends-not c d fs (have e) t r h = not-ended (goes_by t.tok) fs e t r h

-- an expression ends before a token that ends expressions
pub ends-have : (e : ExprTree) (t : Token) → goes_by t.tok ≡ goes.Ends → ends_before [] (have e) t ≡ Some e
ends-have e t ends = ap (λ (g : Goes). whole_before g [] e) ends

-- ---- what closes at once

close-left : (l : ℕ) (op : BinOp) (a : ExprTree) (s : Spot) (fs : List Form) (e : ExprTree) → l ≤ level op
    → close l (left_of op a s ∷ fs) e ≡ close l fs (binary op a e s)
close-left l op a s fs e le =
    ap (λ (b : Bool). cond b (close l fs (binary op a e s)) (record { forms = left_of op a s ∷ fs; expr = e })) (le-leb l (level op) le)

-- an operator behind an operand that is closed
abbrev pub joined : BinOp → Token → Closed → Result Reading SyntaxFault
joined op t x = Ok (record { forms = left_of op x.expr t.spot ∷ x.forms; mode = want })

go-left : (g : Goes) (op : BinOp) (a : ExprTree) (s : Spot) (fs : List Form) (e : ExprTree) (t : Token) → takes_by g ≤ level op
    → go_on g (left_of op a s ∷ fs) e t ≡ go_on g fs (binary op a e s) t
go-left (goes.Joins o) op a s fs e t le =
    ap (joined o t) (close-left (level o) op a s fs e le)
go-left goes.Closes op a s fs e t le = ap (λ (x : Closed). close_at x.forms x.expr t) (close-left any_level op a s fs e (level-within op).0)
go-left goes.Parts op a s fs e t le = ap (λ (x : Closed). part_at x.forms x.expr t) (close-left any_level op a s fs e (level-within op).0)
go-left goes.Ends op a s fs e t le = refl

go-sign : (g : Goes) (op : UnOp) (s : Spot) (fs : List Form) (e : ExprTree) (t : Token) → go_on g (sign_of op s ∷ fs) e t ≡ go_on g fs (unary op e s) t
go-sign (goes.Joins o) op s fs e t = refl
go-sign goes.Closes op s fs e t = refl
go-sign goes.Parts op s fs e t = refl
go-sign goes.Ends op s fs e t = refl

go-name : (b : Begins) (fs : List Form) (f : List ℕ) (s : Spot) (t : Token) → (b ≡ begins.Opens → ⊥)
    → go_on_name b fs f s t ≡ go_on (goes_by t.tok) fs (name f s) t
go-name (begins.Literal ty v) fs f s t h = refl
go-name begins.Named fs f s t h = refl
go-name (begins.Sign op) fs f s t h = refl
go-name begins.Opens fs f s t h = absurd (h refl)
go-name begins.Nothing fs f s t h = refl

whole-left : (g : Goes) (op : BinOp) (a : ExprTree) (s : Spot) (fs : List Form) (e : ExprTree)
    → whole_before g (left_of op a s ∷ fs) e ≡ whole_before g fs (binary op a e s)
whole-left (goes.Joins o) op a s fs e = refl
whole-left goes.Closes op a s fs e = refl
whole-left goes.Parts op a s fs e = refl
whole-left goes.Ends op a s fs e = ap (λ (x : Closed). alone x.forms x.expr) (close-left any_level op a s fs e (level-within op).0)

whole-sign : (g : Goes) (op : UnOp) (s : Spot) (fs : List Form) (e : ExprTree) → whole_before g (sign_of op s ∷ fs) e ≡ whole_before g fs (unary op e s)
whole-sign (goes.Joins o) op s fs e = refl
whole-sign goes.Closes op s fs e = refl
whole-sign goes.Parts op s fs e = refl
whole-sign goes.Ends op s fs e = refl

whole-name : (b : Begins) (g : Goes) (fs : List Form) (e : ExprTree) → (b ≡ begins.Opens → ⊥) → name_before b g fs e ≡ whole_before g fs e
whole-name (begins.Literal ty v) g fs e h = refl
whole-name begins.Named g fs e h = refl
whole-name (begins.Sign op) g fs e h = refl
whole-name begins.Opens g fs e h = absurd (h refl)
whole-name begins.Nothing g fs e h = refl

-- an operator of a level that is wanted closes nothing
pub keeps : (l : ℕ) (fs : List Form) (e : ExprTree) → wants fs ≤ l → l ≤ 7 → close l fs e ≡ record { forms = fs; expr = e }
keeps l [] e w b = refl
keeps l (sign_of op s ∷ fs) e w b = absurd (omega (arith, w, b))
keeps l (left_of op a s ∷ fs) e w b =
    ap (λ (x : Bool). cond x (close l fs (binary op a e s)) (record { forms = left_of op a s ∷ fs; expr = e })) (lt-leb l (level op) w)
keeps l (bracket ∷ fs) e w b = refl
keeps l (arguments f s es ∷ fs) e w b = refl

-- ---- arguments

abbrev and_exprs : ExprTrees → ExprTrees → ExprTrees
and_exprs no_exprs es = es
and_exprs (and_expr x xs) es = and_expr x (and_exprs xs es)

and-then : (before : ExprTrees) (e : ExprTree) (es : ExprTrees) → and_exprs (exprs_and before e) es ≡ and_exprs before (and_expr e es)
and-then no_exprs e es = refl
and-then (and_expr x xs) e es = ap (λ (y : ExprTrees). and_expr x y) (and-then xs e es)

and-last : (before : ExprTrees) (e : ExprTree) → exprs_and before e ≡ and_exprs before (and_expr e no_exprs)
and-last no_exprs e = refl
and-last (and_expr x xs) e = ap (λ (y : ExprTrees). and_expr x y) (and-last xs e)

-- ---- lists of placed tokens

pub tokens-split : (ts us : List Placed) (p : Placed) (rest : List Token) → tokens_of (ts ++ p ∷ us) ++ rest ≡ tokens_of ts ++ p.token ∷ (tokens_of us ++ rest)
tokens-split ts us p rest =
    ap (λ (x : List Token). x ++ rest) (map-append (λ (q : Placed). q.token) ts (p ∷ us)) ∙ append_assoc (tokens_of ts) (p.token ∷ tokens_of us) rest

pub within-split : (most : ℕ) (ts us : List Placed) → Within most (ts ++ us) → Within most ts × Within most us
within-split most [] us w = (tt, w)
within-split most (p ∷ ts) us w = let r = within-split most ts us w.1 in ((w.0, r.0), r.1)

-- ---- what is spelled is read, whatever follows

step-want : (c : Context) (d : ℕ) (fs : List Form) (t : Token) (b : Begins) (r : Reading) → begins_by t.tok ≡ b → operand c fs b t ≡ Ok r
    → d + depth_in fs ≤ c.most → step c d fs want t ≡ Ok r
step-want c d fs t b r e o le =
    let taken : operand c fs (begins_by t.tok) t ≡ Ok r = ap (λ (x : Begins). operand c fs x t) e ∙ o in
    ap (λ (x : Result Reading SyntaxFault). no_deeper c.most (d + depth_in fs) t x) taken
    ∙ ap (λ (x : Bool). cond x (Ok r) (Err (fault.Depth t.spot))) (le-leb (d + depth_in fs) c.most le)

step-have : (c : Context) (d : ℕ) (fs : List Form) (e : ExprTree) (t : Token) (g : Goes) (r : Reading) → goes_by t.tok ≡ g → go_on g fs e t ≡ Ok r
    → step c d fs (have e) t ≡ Ok r
step-have c d fs e t g r k o = ap (λ (x : Goes). go_on x fs e t) k ∙ o

module _ {X : Type 0} (c : Context) (d : ℕ) (go : List Token → List Form → Mode → X) (rs : Reads c d go) where
  pub by_step : (t : Token) (ts : List Token) (fs : List Form) (m : Mode) (r : Reading) → step c d fs m t ≡ Ok r → go (t ∷ ts) fs m ≡ go ts r.forms r.mode
  by_step t ts fs m r h = rs.ok t ts fs m r (taken-ends-not c d fs m t r h) h

  pub by_want : (fs : List Form) (t : Token) (b : Begins) (r : Reading) (rest : List Token) → begins_by t.tok ≡ b → operand c fs b t ≡ Ok r
      → d + depth_in fs ≤ c.most → go (t ∷ rest) fs want ≡ go rest r.forms r.mode
  by_want fs t b r rest e o le = by_step t rest fs want r (step-want c d fs t b r e o le)

  pub by_have : (fs : List Form) (e : ExprTree) (t : Token) (g : Goes) (r : Reading) (rest : List Token) → goes_by t.tok ≡ g → go_on g fs e t ≡ Ok r
      → go (t ∷ rest) fs (have e) ≡ go rest r.forms r.mode
  by_have fs e t g r rest k o = by_step t rest fs (have e) r (step-have c d fs e t g r k o)

  pub by_left : (t : Token) (ts : List Token) (op : BinOp) (a : ExprTree) (s : Spot) (fs : List Form) (e : ExprTree) → Lets (level op) t
      → go (t ∷ ts) (left_of op a s ∷ fs) (have e) ≡ go (t ∷ ts) fs (have (binary op a e s))
  by_left t ts op a s fs e lets =
      rs.same t ts (left_of op a s ∷ fs) fs (have e) (have (binary op a e s)) (whole-left (goes_by t.tok) op a s fs e)
      (go-left (goes_by t.tok) op a s fs e t lets.0)

  pub by_sign : (t : Token) (ts : List Token) (op : UnOp) (s : Spot) (fs : List Form) (e : ExprTree)
      → go (t ∷ ts) (sign_of op s ∷ fs) (have e) ≡ go (t ∷ ts) fs (have (unary op e s))
  by_sign t ts op s fs e =
      rs.same t ts (sign_of op s ∷ fs) fs (have e) (have (unary op e s)) (whole-sign (goes_by t.tok) op s fs e) (go-sign (goes_by t.tok) op s fs e t)

  pub by_name : (t : Token) (ts : List Token) (l : ℕ) (f : List ℕ) (s : Spot) (fs : List Form) → Lets l t
      → go (t ∷ ts) fs (after_name f s) ≡ go (t ∷ ts) fs (have (name f s))
  by_name t ts l f s fs lets =
      rs.same t ts fs fs (after_name f s) (have (name f s)) (whole-name (begins_by t.tok) (goes_by t.tok) fs (name f s) lets.1)
      (go-name (begins_by t.tok) fs f s t lets.1)

  mutual
    pub reads : {k l : ℕ} {e : ExprTree} {ps : List Placed} → SpellsExpr c.bytes k l e ps → (fs : List Form) (x : Token) (rest : List Token) → wants fs ≤ l
        → l ≤ unary_level → d + depth_in fs ≡ k → Within c.most ps → Lets l x
        → go (tokens_of ps ++ x ∷ rest) fs want ≡ go (x ∷ rest) fs (have e)
    reads (spells_literal v t i) fs x rest w b k within lets =
        by_want fs t (begins.Literal v.ty v.value) (record { forms = fs; mode = have (literal v.ty v.value t.spot) }) (x ∷ rest) (literal-begins t.tok v i) refl
        (omega (arith, k, within.0))
    reads {l = l} (spells_name t i) fs x rest w b k within lets =
        by_want fs t begins.Named (record { forms = fs; mode = after_name (c.bytes t) t.spot }) (x ∷ rest) (ap begins_by i) refl (omega (arith, k, within.0))
        ∙ by_name x rest l (c.bytes t) t.spot fs lets
    reads {l = l} (spells_unary op a t ts i sa) fs x rest w b k within lets =
        by_want fs t (begins.Sign op) (record { forms = sign_of op t.spot ∷ fs; mode = want }) (tokens_of ts ++ x ∷ rest) (ap begins_by i ∙ sign-begins op) refl
        (omega (arith, k, within.0))
        ∙ reads sa (sign_of op t.spot ∷ fs) x rest (omega arith) (omega arith) (omega (arith, k)) within.1 (Lets-weaker l unary_level x b lets)
        ∙ by_sign x rest op t.spot fs a
    reads {k = depth} {l = l} (spells_binary op a b t ts us le i sa sb) fs x rest w b8 k within lets =
        let p : Placed = at (depth + chain (level op) a) t in
        let lv = level-within op in
        let parts = within-split c.most ts (p ∷ us) within in
        ap (λ (r : List Token). go r fs want) (tokens-split ts us p (x ∷ rest))
        ∙ reads sa fs t (tokens_of us ++ x ∷ rest) (omega (arith, w, le)) (omega (arith, lv.1)) k parts.0 (Lets-joined op t i)
        ∙ by_have fs a t (goes.Joins op) (record { forms = left_of op a t.spot ∷ fs; mode = want }) (tokens_of us ++ x ∷ rest)
        (ap goes_by i ∙ operator-joins op) (ap (joined op t) (keeps (level op) fs a (omega (arith, w, le)) lv.1))
        ∙ reads sb (left_of op a t.spot ∷ fs) x rest (omega arith) (omega (arith, lv.1)) (omega (arith, k)) parts.1.1
        (Lets-weaker l (suc (level op)) x (omega (arith, le)) lets)
        ∙ by_left x rest op a t.spot fs b (Lets-weaker l (level op) x le lets)
    reads (spells_call f o es ts i j sa) fs x rest w b k within lets =
        by_want fs f begins.Named (record { forms = fs; mode = after_name (c.bytes f) f.spot }) (o ∷ (tokens_of ts ++ x ∷ rest)) (ap begins_by i) refl
        (omega (arith, k, within.0))
        ∙ by_step o (tokens_of ts ++ x ∷ rest) fs (after_name (c.bytes f) f.spot) (record { forms = arguments (c.bytes f) f.spot no_exprs ∷ fs; mode = want })
        (ap (λ (y : Begins). go_on_name y fs (c.bytes f) f.spot o) (ap begins_by j))
        ∙ reads_args sa fs (c.bytes f) f.spot no_exprs x rest k within.1.1
    reads {k = depth} (spells_brackets e o z ts i j sa) fs x rest w b k within lets =
        let parts = within-split c.most ts (at depth z ∷ []) within.1 in
        by_want fs o begins.Opens (record { forms = bracket ∷ fs; mode = want }) (tokens_of (ts ++ at depth z ∷ []) ++ x ∷ rest) (ap begins_by i) refl
        (omega (arith, k, within.0))
        ∙ ap (λ (r : List Token). go r (bracket ∷ fs) want) (tokens-split ts [] (at depth z) (x ∷ rest))
        ∙ reads sa (bracket ∷ fs) z (x ∷ rest) (omega arith) (omega arith) (omega (arith, k)) parts.0 (Lets-closed any_level z j)
        ∙ by_have (bracket ∷ fs) e z goes.Closes (record { forms = fs; mode = have e }) (x ∷ rest) (ap goes_by j) refl

    pub reads_args : {k : ℕ} {es : ExprTrees} {ps : List Placed} → SpellsArgs c.bytes k es ps
        → (fs : List Form) (f : List ℕ) (s : Spot) (before : ExprTrees) (x : Token) (rest : List Token) → d + depth_in fs ≡ k → Within c.most ps
        → go (tokens_of ps ++ x ∷ rest) (arguments f s before ∷ fs) want ≡ go (x ∷ rest) fs (have (call f (and_exprs before es) s))
    reads_args {k = depth} (spells_last e z ts j sa) fs f s before x rest k within =
        let parts = within-split c.most ts (at depth z ∷ []) within in
        ap (λ (r : List Token). go r (arguments f s before ∷ fs) want) (tokens-split ts [] (at depth z) (x ∷ rest))
        ∙ reads sa (arguments f s before ∷ fs) z (x ∷ rest) (omega arith) (omega arith) (omega (arith, k)) parts.0 (Lets-closed any_level z j)
        ∙ by_have (arguments f s before ∷ fs) e z goes.Closes (record { forms = fs; mode = have (call f (exprs_and before e) s) }) (x ∷ rest)
        (ap goes_by j) refl
        ∙ ap (λ (y : ExprTrees). go (x ∷ rest) fs (have (call f y s))) (and-last before e)
    reads_args {k = depth} (spells_next e es z ts us j sa sb) fs f s before x rest k within =
        let parts = within-split c.most ts (at (suc depth) z ∷ us) within in
        ap (λ (r : List Token). go r (arguments f s before ∷ fs) want) (tokens-split ts us (at (suc depth) z) (x ∷ rest))
        ∙ reads sa (arguments f s before ∷ fs) z (tokens_of us ++ x ∷ rest) (omega arith) (omega arith) (omega (arith, k)) parts.0 (Lets-parted any_level z j)
        ∙ by_have (arguments f s before ∷ fs) e z goes.Parts (record { forms = arguments f s (exprs_and before e) ∷ fs; mode = want })
        (tokens_of us ++ x ∷ rest) (ap goes_by j) refl
        ∙ reads_args sb fs f s (exprs_and before e) x rest k parts.1.1
        ∙ ap (λ (y : ExprTrees). go (x ∷ rest) fs (have (call f y s))) (and-then before e es)

-- an expression that is spelled is read up to the token behind it, which ends expressions
pub expr-read : {X : Type 0} (c : Context) (d : ℕ) (go : List Token → List Form → Mode → X) → Reads c d go
    → (e : ExprTree) (ps : List Placed) (t : Token) (rest : List Token)
    → SpellsExpr c.bytes d any_level e ps → Within c.most ps → goes_by t.tok ≡ goes.Ends → (begins_by t.tok ≡ begins.Opens → ⊥)
    → go (tokens_of ps ++ t ∷ rest) [] want ≡ go (t ∷ rest) [] (have e)
expr-read c d go rs e ps t rest sp within ends opens =
    reads c d go rs sp [] t rest (omega arith) (omega arith) (omega arith) within (Lets-ended any_level t ends opens)
