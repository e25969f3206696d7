-- ExprSound: an expression that is read is spelled.
use Rattle.std.proofs.Common.{◌≡◌, ℕ, suc, ◌+◌, ◌≤◌, ◌==◌, Bool, true, false, cond, leb, List, [], ◌∷◌, ◌++◌, Option, Some, None, Result, Ok, Err, sym, refl}
use Rattle.std.proofs.Common.{ap, ◌∙◌, subst, arith, append_assoc}
use Rattle.std.proofs.lemmas.Bool.{leb-true, leb-false, eqb-true}
use Rattle.vcp_base.specs.declared.spot.Spot.{Spot}
use Rattle.st_lexer.specs.declared.token.Sym.TheVariants as symbol
use Rattle.st_lexer.specs.declared.token.Tok.TheVariants as tok
use Rattle.st_lexer.specs.declared.token.Token.{Token}
use Rattle.st_tree.specs.declared.expr.UnOp.{UnOp}
use Rattle.st_tree.specs.declared.expr.BinOp.{BinOp}
use Rattle.st_tree.specs.ExprTree.{ExprTree, ExprTrees, name, unary, binary, call, no_exprs, and_expr}
use Rattle.st_tree.specs.Appended.{exprs_and}
use Rattle.st_tree.specs.Operators.{sign, operator, level, any_level, unary_level, chain}
use Rattle.st_tree.specs.Placed.{Placed, at, Within}
use Rattle.st_tree.specs.Expressions.{SpellsExpr, SpellsArgs, spells_literal, spells_name, spells_unary, spells_binary, spells_call, spells_brackets}
use Rattle.st_tree.specs.Expressions.{spells_last, spells_next}
use Rattle.st_parser.specs.declared.fault.SyntaxFault.{SyntaxFault}
use Rattle.st_parser.specs.declared.fault.SyntaxFault.TheVariants as fault
use Rattle.st_parser.specs.declared.marks.Begins.{Begins}
use Rattle.st_parser.specs.declared.marks.Begins.TheVariants as begins
use Rattle.st_parser.specs.declared.marks.Goes.{Goes}
use Rattle.st_parser.specs.declared.marks.Goes.TheVariants as goes
use Rattle.st_parser.specs.Marks.{begins_by, goes_by}
use Rattle.st_parser.specs.ExprMachine.{Context, Form, sign_of, left_of, bracket, arguments, Mode, want, after_name, have, Reading, depth_in, Closed, close}
use Rattle.st_parser.specs.ExprMachine.{no_deeper, operand, close_at, part_at, go_on, go_on_name, step, alone, whole_before, name_before, ends_before}
use Rattle.st_parser.proofs.ExprTables.{Began, begun, Went, went}
use Rattle.st_parser.proofs.ExprComplete.{wants, level-within, within-split}

-- ---- what a spelling allows

-- what stands where a stronger operator is wanted stands where a weaker one is
pub weaken : {bytes : Token → List ℕ} {d l : ℕ} {e : ExprTree} {ps : List Placed} → SpellsExpr bytes d l e ps → (m : ℕ) → m ≤ l → SpellsExpr bytes d m e ps
weaken (spells_literal v t i) m le = spells_literal v t i
weaken (spells_name t i) m le = spells_name t i
weaken (spells_unary op a t ts i sa) m le = spells_unary op a t ts i sa
weaken (spells_binary op a b t ts us le2 i sa sb) m le = spells_binary op a b t ts us (omega (arith, le, le2)) i sa sb
weaken (spells_call f o es ts i j sa) m le = spells_call f o es ts i j sa
weaken (spells_brackets e o z ts i j sa) m le = spells_brackets e o z ts i j sa

-- the same depth, written otherwise
at-depth : {bytes : Token → List ℕ} {l : ℕ} {e : ExprTree} {ps : List Placed} (d k : ℕ) → d ≡ k → SpellsExpr bytes d l e ps → SpellsExpr bytes k l e ps
at-depth {bytes = bytes} {l = l} {e = e} {ps = ps} d k is sp = subst (λ (x : ℕ). SpellsExpr bytes x l e ps) is sp

chain-deepest : (most d k inner : ℕ) (b : Bool) → (d + suc inner) ≤ most → (b ≡ true → k ≡ inner) → d + cond b (suc k) 0 ≤ most
chain-deepest most d k inner true le is = omega (arith, le, is refl)
chain-deepest most d k inner false le is = omega (arith, le)

-- a spelled expression within the limit has room for its chain
pub deepest : {bytes : Token → List ℕ} {d l : ℕ} {e : ExprTree} {ps : List Placed} (most : ℕ) → SpellsExpr bytes d l e ps → Within most ps → (n : ℕ)
    → d + chain n e ≤ most
deepest most (spells_literal v t i) within n = omega (arith, within.0)
deepest most (spells_name t i) within n = omega (arith, within.0)
deepest most (spells_unary op a t ts i sa) within n = omega (arith, within.0)
deepest {d = d} most (spells_binary op a b t ts us le i sa sb) within n =
    let parts = within-split most ts (at (d + chain (level op) a) t ∷ us) within in
    chain-deepest most d (chain n a) (chain (level op) a) (level op == n) (omega (arith, deepest most sb parts.1.1 0))
    (λ same. ap (λ (x : ℕ). chain x a) (sym (eqb-true (level op) n same)))
deepest most (spells_call f o es ts i j sa) within n = omega (arith, within.0)
deepest {d = d} most (spells_brackets e o z ts i j sa) within n = omega (arith, deepest most sa (within-split most ts (at d z ∷ []) within.1).0 n)

-- the arguments so far at depth d, each with the comma behind it
abbrev pub Front : Context → ℕ → ExprTrees → List Placed → Type 0
Front c d no_exprs us = us ≡ []
Front c d (and_expr e es) us =
    (ts : List Placed) × (t : Token) × (vs : List Placed) × SpellsExpr c.bytes (suc d) any_level e ts × (t.tok ≡ tok.Sym symbol.Comma) × Front c d es vs
    × (us ≡ ts ++ at (suc d) t ∷ vs)

-- the tokens of the open forms
abbrev pub Opened : Context → ℕ → List Form → List Placed → Type 0
Opened c d [] ps = ps ≡ []
Opened c d (sign_of op s ∷ fs) ps =
    (before : List Placed) × (t : Token) × Opened c d fs before × (t.tok ≡ sign op) × (s ≡ t.spot) × (ps ≡ before ++ at (d + depth_in fs) t ∷ [])
Opened c d (left_of op a s ∷ fs) ps =
    (before : List Placed) × (ts : List Placed) × (t : Token) × Opened c d fs before × (wants fs ≤ level op) × SpellsExpr c.bytes (d + depth_in fs)
    (level op) a ts
    × (t.tok ≡ operator op) × (s ≡ t.spot) × (ps ≡ (before ++ ts) ++ at ((d + depth_in fs) + chain (level op) a) t ∷ [])
Opened c d (bracket ∷ fs) ps =
    (before : List Placed) × (t : Token) × Opened c d fs before × (t.tok ≡ tok.Sym symbol.LParen) × (ps ≡ before ++ at (d + depth_in fs) t ∷ [])
Opened c d (arguments f s es ∷ fs) ps =
    (before : List Placed) × (n : Token) × (o : Token) × (us : List Placed) × Opened c d fs before × (n.tok ≡ tok.Name) × (o.tok ≡ tok.Sym symbol.LParen)
    × (f ≡ c.bytes n) × (s ≡ n.spot) × Front c (d + depth_in fs) es us
    × (ps ≡ before ++ at (d + depth_in fs) n ∷ at (d + depth_in fs) o ∷ us)

-- a whole operand of level l behind the open forms
pub record Has (c : Context) (d : ℕ) (fs : List Form) (l : ℕ) (e : ExprTree) (ps : List Placed) : Type 0 where
  pub before : List Placed
  pub ts : List Placed
  pub opened : Opened c d fs before
  pub spelled : SpellsExpr c.bytes (d + depth_in fs) l e ts
  pub wanted : wants fs ≤ l
  pub placed : ps ≡ before ++ ts

-- what forms and mode have read, without its depth
abbrev pub Holds : Context → ℕ → List Form → Mode → List Placed → Type 0
Holds c d fs want ps = Opened c d fs ps
Holds c d fs (after_name f s) ps =
    (before : List Placed) × (t : Token) × Opened c d fs before × (t.tok ≡ tok.Name) × (f ≡ c.bytes t) × (s ≡ t.spot)
    × (ps ≡ before ++ at (d + depth_in fs) t ∷ [])
Holds c d fs (have e) ps = Has c d fs unary_level e ps

-- the tokens that forms and mode have read at base depth d, none deeper than the limit
abbrev pub HasRead : Context → ℕ → List Form → Mode → List Placed → Type 0
HasRead c d fs m ps = Holds c d fs m ps × Within c.most ps

pub wants-top : (fs : List Form) → wants fs ≤ unary_level
wants-top [] = omega arith
wants-top (sign_of op s ∷ fs) = omega arith
wants-top (left_of op a s ∷ fs) = omega (arith, (level-within op).1)
wants-top (bracket ∷ fs) = omega arith
wants-top (arguments f s es ∷ fs) = omega arith

pub settle : (c : Context) (d : ℕ) (fs : List Form) (k l : ℕ) (e : ExprTree) (ps : List Placed) → Has c d fs k e ps → l ≤ k → wants fs ≤ l → Has c d fs l e ps
settle c d fs k l e ps h le w = record { before = h.before; ts = h.ts; opened = h.opened; spelled = weaken h.spelled l le; wanted = w; placed = h.placed }

-- ---- what closes

pub close-sign : (c : Context) (d : ℕ) (op : UnOp) (s : Spot) (fs : List Form) (k : ℕ) (e : ExprTree) (ps : List Placed) → Has c d (sign_of op s ∷ fs) k e ps
    → Has c d fs unary_level (unary op e s) ps
close-sign c d op s fs k e ps h =
    let o = h.opened in
    let here : ℕ = d + depth_in fs in
    record {
      before = o.0;
      ts = at here o.1 ∷ h.ts;
      opened = o.2;
      spelled = subst (λ (x : Spot). SpellsExpr c.bytes here unary_level (unary op e x) (at here o.1 ∷ h.ts)) (sym o.4)
          (spells_unary op e o.1 h.ts o.3 (at-depth (d + suc (depth_in fs)) (suc here) (omega arith) (weaken h.spelled unary_level h.wanted)));
      wanted = wants-top fs;
      placed = h.placed ∙ ap (λ (b : List Placed). b ++ h.ts) o.5 ∙ append_assoc o.0 (at here o.1 ∷ []) h.ts;
    }

pub close-left : (c : Context) (d : ℕ) (op : BinOp) (a : ExprTree) (s : Spot) (fs : List Form) (k : ℕ) (e : ExprTree) (ps : List Placed)
    → Has c d (left_of op a s ∷ fs) k e ps → Has c d fs (level op) (binary op a e s) ps
close-left c d op a s fs k e ps h =
    let o = h.opened in
    let here : ℕ = d + depth_in fs in
    let p : Placed = at (here + chain (level op) a) o.2 in
    record {
      before = o.0;
      ts = o.1 ++ p ∷ h.ts;
      opened = o.3;
      spelled = subst (λ (x : Spot). SpellsExpr c.bytes here (level op) (binary op a e x) (o.1 ++ p ∷ h.ts)) (sym o.7)
          (spells_binary op a e o.2 o.1 h.ts (omega arith) o.6 o.5
          (at-depth (d + (depth_in fs + suc (chain (level op) a))) (here + suc (chain (level op) a)) (omega arith)
          (weaken h.spelled (suc (level op)) h.wanted)));
      wanted = o.4;
      placed = h.placed ∙ ap (λ (b : List Placed). b ++ h.ts) o.8 ∙ append_assoc (o.0 ++ o.1) (p ∷ []) h.ts ∙ append_assoc o.0 o.1 (p ∷ h.ts);
    }

chosen : (P : Closed → Type 0) (b : Bool) (x y : Closed) → (b ≡ true → P x) → (b ≡ false → P y) → P (cond b x y)
chosen P true x y f g = f refl
chosen P false x y f g = g refl

pub closed : (c : Context) (d l : ℕ) (fs : List Form) (k : ℕ) (e : ExprTree) (ps : List Placed) → Has c d fs k e ps → 1 ≤ l → l ≤ k → l ≤ 7
    → Has c d (close l fs e).forms l (close l fs e).expr ps
closed c d l [] k e ps h pos le top = settle c d [] k l e ps h le pos
closed c d l (sign_of op s ∷ fs) k e ps h pos le top =
    closed c d l fs unary_level (unary op e s) ps (close-sign c d op s fs k e ps h) pos (omega (arith, top)) top
closed c d l (left_of op a s ∷ fs) k e ps h pos le top =
    chosen (λ (x : Closed). Has c d x.forms l x.expr ps) (leb l (level op)) (close l fs (binary op a e s)) (record { forms = left_of op a s ∷ fs; expr = e })
    (λ is. closed c d l fs (level op) (binary op a e s) ps (close-left c d op a s fs k e ps h) pos (leb-true l (level op) is) top)
    (λ not. settle c d (left_of op a s ∷ fs) k l e ps h le (leb-false l (level op) not))
closed c d l (bracket ∷ fs) k e ps h pos le top = settle c d (bracket ∷ fs) k l e ps h le pos
closed c d l (arguments f s es ∷ fs) k e ps h pos le top = settle c d (arguments f s es ∷ fs) k l e ps h le pos

-- ---- one token

-- the token was taken at some depth, if it was
abbrev Fine : Context → ℕ → List Placed → Token → Result Reading SyntaxFault → Type 0
Fine c d ps t (Ok r) = (k : ℕ) × Holds c d r.forms r.mode (ps ++ at k t ∷ []) × (k ≤ c.most)
Fine c d ps t (Err f) = Unit {0}

operand-fine : (c : Context) (d : ℕ) (b : Begins) (fs : List Form) (t : Token) (ps : List Placed) → Began b t.tok → Opened c d fs ps → d + depth_in fs ≤ c.most
    → Fine c d ps t (operand c fs b t)
operand-fine c d (begins.Literal ty v) fs t ps i o le = (
  d + depth_in fs,
  record {
    before = ps;
    ts = at (d + depth_in fs) t ∷ [];
    opened = o;
    spelled = spells_literal (record { ty = ty; value = v }) t i;
    wanted = wants-top fs;
    placed = refl;
  },
  le,
)
operand-fine c d begins.Named fs t ps i o le = (d + depth_in fs, (ps, t, o, i, refl, refl, refl), le)
operand-fine c d (begins.Sign op) fs t ps i o le = (d + depth_in fs, (ps, t, o, i, refl, refl), le)
operand-fine c d begins.Opens fs t ps i o le = (d + depth_in fs, (ps, t, o, i, refl), le)
operand-fine c d begins.Nothing fs t ps i o le = tt

fine-if : (c : Context) (d : ℕ) (ps : List Placed) (t : Token) (b : Bool) (r : Reading) (f : SyntaxFault) → (b ≡ true → Fine c d ps t (Ok r))
    → Fine c d ps t (cond b (Ok r) (Err f))
fine-if c d ps t true r f h = h refl
fine-if c d ps t false r f h = tt

no_deeper-fine : (c : Context) (d depth : ℕ) (t : Token) (ps : List Placed) (r : Result Reading SyntaxFault) → (depth ≤ c.most → Fine c d ps t r)
    → Fine c d ps t (no_deeper c.most depth t r)
no_deeper-fine c d depth t ps (Ok r) h = fine-if c d ps t (leb depth c.most) r (fault.Depth t.spot) (λ e. h (leb-true depth c.most e))
no_deeper-fine c d depth t ps (Err f) h = tt

-- an operand has room for its chain, where all that was read is within the limit
has-room : (c : Context) (d : ℕ) (fs : List Form) (l : ℕ) (e : ExprTree) (ps : List Placed) → Has c d fs l e ps → Within c.most ps → (n : ℕ)
    → d + depth_in fs + chain n e ≤ c.most
has-room c d fs l e ps h within n = deepest c.most h.spelled (within-split c.most h.before h.ts (subst (Within c.most) h.placed within)).1 n

join-fine : (c : Context) (d : ℕ) (op : BinOp) (fs : List Form) (e : ExprTree) (t : Token) (ps : List Placed) → t.tok ≡ operator op → Has c d fs (level op) e ps
    → Within c.most ps
    → Fine c d ps t (Ok (record { forms = left_of op e t.spot ∷ fs; mode = want }))
join-fine c d op fs e t ps i h within = (
  (d + depth_in fs) + chain (level op) e,
  (h.before, h.ts, t, h.opened, h.wanted, h.spelled, i, refl, ap (λ (x : List Placed). x ++ at ((d + depth_in fs) + chain (level op) e) t ∷ []) h.placed),
  has-room c d fs (level op) e ps h within (level op),
)

-- one argument more
front-next : (c : Context) (d : ℕ) (es : ExprTrees) (us : List Placed) (e : ExprTree) (ts : List Placed) (t : Token) → Front c d es us
    → SpellsExpr c.bytes (suc d) any_level e ts → t.tok ≡ tok.Sym symbol.Comma
    → Front c d (exprs_and es e) (us ++ (ts ++ at (suc d) t ∷ []))
front-next c d no_exprs us e ts t f sp i = (ts, t, [], sp, i, refl, ap (λ (x : List Placed). x ++ (ts ++ at (suc d) t ∷ [])) f)
front-next c d (and_expr x xs) us e ts t f sp i = (
  f.0,
  f.1,
  f.2 ++ (ts ++ at (suc d) t ∷ []),
  f.3,
  f.4,
  front-next c d xs f.2 e ts t f.5 sp i,
  ap (λ (y : List Placed). y ++ (ts ++ at (suc d) t ∷ [])) f.6 ∙ append_assoc f.0 (at (suc d) f.1 ∷ f.2) (ts ++ at (suc d) t ∷ []),
)

-- the last argument, and the bracket
front-last : (c : Context) (d : ℕ) (es : ExprTrees) (us : List Placed) (e : ExprTree) (ts : List Placed) (t : Token) → Front c d es us
    → SpellsExpr c.bytes (suc d) any_level e ts → t.tok ≡ tok.Sym symbol.RParen
    → SpellsArgs c.bytes d (exprs_and es e) (us ++ (ts ++ at d t ∷ []))
front-last c d no_exprs us e ts t f sp i =
    subst (λ (x : List Placed). SpellsArgs c.bytes d (and_expr e no_exprs) (x ++ (ts ++ at d t ∷ []))) (sym f) (spells_last e t ts i sp)
front-last c d (and_expr x xs) us e ts t f sp i =
    subst (λ (y : List Placed). SpellsArgs c.bytes d (and_expr x (exprs_and xs e)) y)
    (sym (ap (λ (y : List Placed). y ++ (ts ++ at d t ∷ [])) f.6 ∙ append_assoc f.0 (at (suc d) f.1 ∷ f.2) (ts ++ at d t ∷ [])))
    (spells_next x (exprs_and xs e) f.1 f.0 (f.2 ++ (ts ++ at d t ∷ [])) f.4 f.3 (front-last c d xs f.2 e ts t f.5 sp i))

-- an expression in brackets, and one that is the last argument, with the closing bracket
pub close-bracket : (c : Context) (d : ℕ) (fs : List Form) (e : ExprTree) (t : Token) (ps : List Placed) → t.tok ≡ tok.Sym symbol.RParen
    → Has c d (bracket ∷ fs) any_level e ps
    → Has c d fs unary_level e (ps ++ at (d + depth_in fs) t ∷ [])
close-bracket c d fs e t ps i h =
    let o = h.opened in
    let here : ℕ = d + depth_in fs in
    let p : Placed = at here t in
    record {
      before = o.0;
      ts = at here o.1 ∷ (h.ts ++ p ∷ []);
      opened = o.2;
      spelled = spells_brackets e o.1 t h.ts o.3 i (at-depth (d + suc (depth_in fs)) (suc here) (omega arith) h.spelled);
      wanted = wants-top fs;
      placed = ap (λ (x : List Placed). x ++ p ∷ []) (h.placed ∙ ap (λ (b : List Placed). b ++ h.ts) o.4 ∙ append_assoc o.0 (at here o.1 ∷ []) h.ts)
          ∙ append_assoc o.0 (at here o.1 ∷ h.ts) (p ∷ []);
    }

pub close-arguments : (c : Context) (d : ℕ) (f : List ℕ) (s : Spot) (es : ExprTrees) (fs : List Form) (e : ExprTree) (t : Token) (ps : List Placed)
    → t.tok ≡ tok.Sym symbol.RParen
    → Has c d (arguments f s es ∷ fs) any_level e ps → Has c d fs unary_level (call f (exprs_and es e) s) (ps ++ at (d + depth_in fs) t ∷ [])
close-arguments c d f s es fs e t ps i h =
    let o = h.opened in
    let here : ℕ = d + depth_in fs in
    let p : Placed = at here t in
    let all = front-last c here es o.3 e h.ts t o.9 (at-depth (d + suc (depth_in fs)) (suc here) (omega arith) h.spelled) i in
    let inside : List Placed = o.3 ++ (h.ts ++ p ∷ []) in
    let is_call = spells_call {l = unary_level} o.1 o.2 (exprs_and es e) inside o.5 o.6 all in
    record {
      before = o.0;
      ts = at here o.1 ∷ at here o.2 ∷ inside;
      opened = o.4;
      spelled = subst (λ (x : Spot). SpellsExpr c.bytes here unary_level (call f (exprs_and es e) x) (at here o.1 ∷ at here o.2 ∷ inside)) (sym o.8)
          (subst (λ (x : List ℕ). SpellsExpr c.bytes here unary_level (call x (exprs_and es e) o.1.spot) (at here o.1 ∷ at here o.2 ∷ inside))
          (sym o.7) is_call);
      wanted = wants-top fs;
      placed = ap (λ (x : List Placed). x ++ p ∷ []) (h.placed ∙ ap (λ (b : List Placed). b ++ h.ts) o.10) ∙ simp append_assoc;
    }

close-fine : (c : Context) (d : ℕ) (fs : List Form) (e : ExprTree) (t : Token) (ps : List Placed) → t.tok ≡ tok.Sym symbol.RParen → Has c d fs any_level e ps
    → Within c.most ps → Fine c d ps t (close_at fs e t)
close-fine c d [] e t ps i h within = tt
close-fine c d (sign_of op s ∷ fs) e t ps i h within = tt
close-fine c d (left_of op a s ∷ fs) e t ps i h within = tt
close-fine c d (bracket ∷ fs) e t ps i h within =
    (d + depth_in fs, close-bracket c d fs e t ps i h, omega (arith, has-room c d (bracket ∷ fs) any_level e ps h within 0))
close-fine c d (arguments f s es ∷ fs) e t ps i h within =
    (d + depth_in fs, close-arguments c d f s es fs e t ps i h, omega (arith, has-room c d (arguments f s es ∷ fs) any_level e ps h within 0))

part-fine : (c : Context) (d : ℕ) (fs : List Form) (e : ExprTree) (t : Token) (ps : List Placed) → t.tok ≡ tok.Sym symbol.Comma → Has c d fs any_level e ps
    → Within c.most ps → Fine c d ps t (part_at fs e t)
part-fine c d [] e t ps i h within = tt
part-fine c d (sign_of op s ∷ fs) e t ps i h within = tt
part-fine c d (left_of op a s ∷ fs) e t ps i h within = tt
part-fine c d (bracket ∷ fs) e t ps i h within = tt
part-fine c d (arguments f s es ∷ fs) e t ps i h within =
    let o = h.opened in
    let here : ℕ = d + depth_in fs in
    let p : Placed = at (suc here) t in (
      suc here,
      (
        o.0,
        o.1,
        o.2,
        o.3 ++ (h.ts ++ p ∷ []),
        o.4,
        o.5,
        o.6,
        o.7,
        o.8,
        front-next c here es o.3 e h.ts t o.9 (at-depth (d + suc (depth_in fs)) (suc here) (omega arith) h.spelled) i,
        ap (λ (x : List Placed). x ++ p ∷ []) (h.placed ∙ ap (λ (b : List Placed). b ++ h.ts) o.10) ∙ simp append_assoc,
      ),
      omega (arith, has-room c d (arguments f s es ∷ fs) any_level e ps h within 0),
    )

go-fine : (c : Context) (d : ℕ) (g : Goes) (fs : List Form) (e : ExprTree) (t : Token) (ps : List Placed) → Went g t.tok → Has c d fs unary_level e ps
    → Within c.most ps → Fine c d ps t (go_on g fs e t)
go-fine c d (goes.Joins op) fs e t ps i h within =
    let lv = level-within op in
    join-fine c d op (close (level op) fs e).forms (close (level op) fs e).expr t ps i
    (closed c d (level op) fs unary_level e ps h lv.0 (omega (arith, lv.1)) lv.1) within
go-fine c d goes.Closes fs e t ps i h within =
    close-fine c d (close any_level fs e).forms (close any_level fs e).expr t ps i
    (closed c d any_level fs unary_level e ps h (omega arith) (omega arith) (omega arith)) within
go-fine c d goes.Parts fs e t ps i h within =
    part-fine c d (close any_level fs e).forms (close any_level fs e).expr t ps i
    (closed c d any_level fs unary_level e ps h (omega arith) (omega arith) (omega arith)) within
go-fine c d goes.Ends fs e t ps i h within = tt

pub has-name : (c : Context) (d : ℕ) (fs : List Form) (f : List ℕ) (s : Spot) (ps : List Placed) → Holds c d fs (after_name f s) ps
    → Has c d fs unary_level (name f s) ps
has-name c d fs f s ps h =
    let here : ℕ = d + depth_in fs in
    record {
      before = h.0;
      ts = at here h.1 ∷ [];
      opened = h.2;
      spelled = subst (λ (x : Spot). SpellsExpr c.bytes here unary_level (name f x) (at here h.1 ∷ [])) (sym h.5)
          (subst (λ (x : List ℕ). SpellsExpr c.bytes here unary_level (name x h.1.spot) (at here h.1 ∷ [])) (sym h.4) (spells_name h.1 h.3));
      wanted = wants-top fs;
      placed = h.6;
    }

name-fine : (c : Context) (d : ℕ) (b : Begins) (fs : List Form) (f : List ℕ) (s : Spot) (t : Token) (ps : List Placed) → Began b t.tok
    → Holds c d fs (after_name f s) ps → Within c.most ps → Fine c d ps t (go_on_name b fs f s t)
name-fine c d (begins.Literal ty v) fs f s t ps i h within = go-fine c d (goes_by t.tok) fs (name f s) t ps (went t.tok) (has-name c d fs f s ps h) within
name-fine c d begins.Named fs f s t ps i h within = go-fine c d (goes_by t.tok) fs (name f s) t ps (went t.tok) (has-name c d fs f s ps h) within
name-fine c d (begins.Sign op) fs f s t ps i h within = go-fine c d (goes_by t.tok) fs (name f s) t ps (went t.tok) (has-name c d fs f s ps h) within
name-fine c d begins.Opens fs f s t ps i h within =
    let here : ℕ = d + depth_in fs in (
      here,
      (h.0, h.1, t, [], h.2, h.3, i, h.4, h.5, refl, ap (λ (x : List Placed). x ++ at here t ∷ []) h.6 ∙ append_assoc h.0 (at here h.1 ∷ []) (at here t ∷ [])),
      omega (arith, has-room c d fs unary_level (name f s) ps (has-name c d fs f s ps h) within 0),
    )
name-fine c d begins.Nothing fs f s t ps i h within = go-fine c d (goes_by t.tok) fs (name f s) t ps (went t.tok) (has-name c d fs f s ps h) within

step-fine : (c : Context) (d : ℕ) (fs : List Form) (m : Mode) (t : Token) (ps : List Placed) → HasRead c d fs m ps → Fine c d ps t (step c d fs m t)
step-fine c d fs want t ps h =
    no_deeper-fine c d (d + depth_in fs) t ps (operand c fs (begins_by t.tok) t) (λ le. operand-fine c d (begins_by t.tok) fs t ps (begun t.tok) h.0 le)
step-fine c d fs (after_name f s) t ps h = name-fine c d (begins_by t.tok) fs f s t ps (begun t.tok) h.0 h.1
step-fine c d fs (have e) t ps h = go-fine c d (goes_by t.tok) fs e t ps (went t.tok) h.0 h.1

-- ---- what is read

pub within-append : (most : ℕ) (ts us : List Placed) → Within most ts → Within most us → Within most (ts ++ us)
within-append most [] us w v = v
within-append most (p ∷ ts) us w v = (w.0, within-append most ts us w.1 v)

pub none-read : (c : Context) (d : ℕ) → HasRead c d [] want []
none-read c d = (refl, tt)

pub step-read : (c : Context) (d : ℕ) (fs : List Form) (m : Mode) (ps : List Placed) (t : Token) (r : Reading) → HasRead c d fs m ps → step c d fs m t ≡ Ok r
    → (k : ℕ) × HasRead c d r.forms r.mode (ps ++ at k t ∷ []) × (k ≤ c.most)
step-read c d fs m ps t r h ok =
    let f = subst (Fine c d ps t) ok (step-fine c d fs m t ps h) in
    (f.0, (f.1, within-append c.most ps (at f.0 t ∷ []) h.1 (f.2, tt)), f.2)

-- ---- where it ends

abbrev Good : Context → ℕ → List Placed → Option ExprTree → Type 0
Good c d ps (Some e) = SpellsExpr c.bytes d any_level e ps
Good c d ps None = Unit {0}

pub alone-spelled : (c : Context) (d : ℕ) (e : ExprTree) (ps : List Placed) → Has c d [] any_level e ps → SpellsExpr c.bytes d any_level e ps
alone-spelled c d e ps h =
    let placed : h.ts ≡ ps = sym (h.placed ∙ ap (λ (b : List Placed). b ++ h.ts) h.opened) in
    at-depth (d + 0) d (omega arith) (subst (λ (x : List Placed). SpellsExpr c.bytes (d + 0) any_level e x) placed h.spelled)

alone-good : (c : Context) (d : ℕ) (fs : List Form) (e : ExprTree) (ps : List Placed) → Has c d fs any_level e ps → Good c d ps (alone fs e)
alone-good c d [] e ps h = alone-spelled c d e ps h
alone-good c d (f ∷ fs) e ps h = tt

whole-good : (c : Context) (d : ℕ) (g : Goes) (fs : List Form) (e : ExprTree) (ps : List Placed) → Has c d fs unary_level e ps
    → Good c d ps (whole_before g fs e)
whole-good c d (goes.Joins op) fs e ps h = tt
whole-good c d goes.Closes fs e ps h = tt
whole-good c d goes.Parts fs e ps h = tt
whole-good c d goes.Ends fs e ps h =
    alone-good c d (close any_level fs e).forms (close any_level fs e).expr ps
    (closed c d any_level fs unary_level e ps h (omega arith) (omega arith) (omega arith))

name-good : (c : Context) (d : ℕ) (b : Begins) (g : Goes) (fs : List Form) (e : ExprTree) (ps : List Placed) → Has c d fs unary_level e ps
    → Good c d ps (name_before b g fs e)
name-good c d (begins.Literal ty v) g fs e ps h = whole-good c d g fs e ps h
name-good c d begins.Named g fs e ps h = whole-good c d g fs e ps h
name-good c d (begins.Sign op) g fs e ps h = whole-good c d g fs e ps h
name-good c d begins.Opens g fs e ps h = tt
name-good c d begins.Nothing g fs e ps h = whole-good c d g fs e ps h

ends-good : (c : Context) (d : ℕ) (fs : List Form) (m : Mode) (ps : List Placed) (t : Token) → Holds c d fs m ps → Good c d ps (ends_before fs m t)
ends-good c d fs want ps t h = tt
ends-good c d fs (after_name f s) ps t h = name-good c d (begins_by t.tok) (goes_by t.tok) fs (name f s) ps (has-name c d fs f s ps h)
ends-good c d fs (have e) ps t h = whole-good c d (goes_by t.tok) fs e ps h

pub ends-read : (c : Context) (d : ℕ) (fs : List Form) (m : Mode) (ps : List Placed) (t : Token) (e : ExprTree) → HasRead c d fs m ps
    → ends_before fs m t ≡ Some e
    → SpellsExpr c.bytes d any_level e ps × Within c.most ps
ends-read c d fs m ps t e h ends = (subst (Good c d ps) ends (ends-good c d fs m ps t h.0), h.1)
