-- ExprDeep: an expression with a token that is too deep is read up to the first such token, which is refused for its depth.
use Rattle.std.proofs.Common.{◌≡◌, ◌⊎◌, ℕ, suc, ◌+◌, ◌<◌, ◌≤◌, Bool, cond, List, [], ◌∷◌, ◌++◌, Result, Ok, Err, inl, inr, refl, sym, ap, ◌∙◌, subst, arith}
use Rattle.std.proofs.Common.{append_assoc}
use Rattle.std.proofs.lemmas.Bool.{lt-leb}
use Rattle.std.proofs.lemmas.List.{map-append}
use Rattle.vcp_base.specs.declared.spot.Spot.{Spot}
use Rattle.st_lexer.specs.declared.token.Sym.TheVariants as symbol
use Rattle.st_lexer.specs.declared.token.Tok.TheVariants as tok
use Rattle.st_lexer.specs.declared.token.Token.{Token}
use Rattle.st_tree.specs.declared.expr.BinOp.{BinOp}
use Rattle.st_tree.specs.ExprTree.{ExprTree, ExprTrees, literal, no_exprs}
use Rattle.st_tree.specs.Appended.{exprs_and}
use Rattle.st_tree.specs.Operators.{operator, level, any_level, unary_level, chain}
use Rattle.st_tree.specs.Placed.{Placed, at, tokens_of, Within}
use Rattle.st_tree.specs.Expressions.{SpellsExpr, SpellsArgs, spells_literal, spells_name, spells_unary, spells_binary, spells_call, spells_brackets}
use Rattle.st_tree.specs.Expressions.{spells_last, spells_next}
use Rattle.st_parser.specs.declared.fault.SyntaxFault.{SyntaxFault}
use Rattle.st_parser.specs.declared.fault.SyntaxFault.TheVariants as fault
use Rattle.st_parser.specs.declared.marks.Begins.{Begins}
use Rattle.st_parser.specs.declared.marks.Begins.TheVariants as begins
use Rattle.st_parser.specs.declared.marks.Goes.TheVariants as goes
use Rattle.st_parser.specs.Marks.{begins_by, goes_by}
use Rattle.st_parser.specs.ExprMachine.{Context, Form, sign_of, left_of, bracket, arguments, Mode, want, after_name, have, Reading, depth_in, no_deeper}
use Rattle.st_parser.specs.ExprMachine.{operand, step, go_on_name}
use Rattle.st_parser.proofs.ExprTables.{literal-begins, sign-begins, operator-joins}
use Rattle.st_parser.proofs.ExprComplete.{Reads, wants, level-within, Lets-joined, Lets-parted, joined, keeps, by_step, by_want, by_have, reads}
use Rattle.st_parser.proofs.ExprSound.{deepest}

-- the tokens us, all within the limit, and then x, which is deeper, are the first of the tokens
abbrev pub First : ℕ → List Placed → List Placed → Placed → Type 0
First m [] us x = ⊥
First m (p ∷ ps) [] x = (m < p.depth) × (x ≡ p)
First m (p ∷ ps) (u ∷ us) x = (u ≡ p) × (p.depth ≤ m) × First m ps us x

-- the first one stands in the one list, or behind it in the other
pub first-split : (m : ℕ) (ts vs us : List Placed) (x : Placed) → First m (ts ++ vs) us x
    → First m ts us x ⊎ ((ws : List Placed) × (us ≡ ts ++ ws) × Within m ts × First m vs ws x)
first-split m [] vs us x h = inr (us, refl, tt, h)
first-split m (t ∷ ts) vs [] x h = inl h
first-split m (t ∷ ts) vs (u ∷ us) x h = elim (first-split m ts vs us x h.2) [
  | inl r ↦ inl (h.0, h.1, r)
  | inr r ↦ inr (r.0, ap (λ (y : Placed). y ∷ us) h.0 ∙ ap (λ (ys : List Placed). t ∷ ys) r.1, (h.1, r.2), r.3)
]

step-deep : (c : Context) (d : ℕ) (fs : List Form) (t : Token) (r : Reading) → operand c fs (begins_by t.tok) t ≡ Ok r → c.most < d + depth_in fs
    → step c d fs want t ≡ Err (fault.Depth t.spot)
step-deep c d fs t r o lt =
    ap (λ (x : Result Reading SyntaxFault). no_deeper c.most (d + depth_in fs) t x) o
    ∙ ap (λ (x : Bool). cond x (Ok r) (Err (fault.Depth t.spot))) (lt-leb (d + depth_in fs) c.most lt)

module _ {X : Type 0} (c : Context) (d : ℕ) (go : List Token → List Form → Mode → X) (rs : Reads c d go) where
  -- the tokens us are taken, and then x is refused for its depth
  pub record Refuses (fs : List Form) (us : List Placed) (x : Placed) : Type 0 where
    pub inner : List Form
    pub takes : (rest : List Token) → go (tokens_of us ++ rest) fs want ≡ go rest inner want
    pub refused : step c d inner want x.token ≡ Err (fault.Depth x.token.spot)

  here : (fs : List Form) (t : Token) (x : Placed) (k : ℕ) (b : Begins) (r : Reading) → begins_by t.tok ≡ b → operand c fs b t ≡ Ok r → x ≡ at k t → c.most < k
      → d + depth_in fs ≡ k → Refuses fs [] x
  here fs t x k b r i o e lt is = subst (λ (y : Placed). Refuses fs [] y) (sym e) (record {
    inner = fs;
    takes = λ rest. refl;
    refused = step-deep c d fs t r (ap (λ (y : Begins). operand c fs y t) i ∙ o) (omega (arith, lt, is));
  })

  after : (us vs : List Placed) (fs gs : List Form) (x : Placed) → ((rest : List Token) → go (tokens_of us ++ rest) fs want ≡ go rest gs want) → Refuses gs vs x
      → Refuses fs (us ++ vs) x
  after us vs fs gs x taken q = record {
    inner = q.inner;
    takes = λ rest.
        ap (λ (ts : List Token). go (ts ++ rest) fs want) (map-append (λ (p : Placed). p.token) us vs)
        ∙ ap (λ (ts : List Token). go ts fs want) (append_assoc (tokens_of us) (tokens_of vs) rest)
        ∙ taken (tokens_of vs ++ rest) ∙ q.takes rest;
    refused = q.refused;
  }

  -- one token, and then the others
  behind : (u p : Placed) (us : List Placed) (fs gs : List Form) (x : Placed) → u ≡ p → ((rest : List Token) → go (p.token ∷ rest) fs want ≡ go rest gs want)
      → Refuses gs us x → Refuses fs (u ∷ us) x
  behind u p us fs gs x e taken q = subst (λ (y : Placed). Refuses fs (y ∷ us) x) (sym e) (after (p ∷ []) us fs gs x taken q)

  -- a closing bracket stands no deeper than what it closes
  closer-not : (k : ℕ) (z : Token) (ws : List Placed) (x : Placed) → k ≤ c.most → First c.most (at k z ∷ []) ws x → ⊥
  closer-not k z [] x le h = omega (arith, le, h.0)
  closer-not k z (u ∷ ws) x le h = h.2

  -- the first one stands behind the left operand
  deep_right : {k l : ℕ} (op : BinOp) (a : ExprTree) (t : Token) (ts vs ws : List Placed) (fs : List Form) (x : Placed) → l ≤ level op → wants fs ≤ l
      → t.tok ≡ operator op
      → SpellsExpr c.bytes k (level op) a ts → d + depth_in fs ≡ k → Within c.most ts → First c.most (at (k + chain (level op) a) t ∷ vs) ws x
      → ((ys : List Placed) → First c.most vs ys x → Refuses (left_of op a t.spot ∷ fs) ys x) → Refuses fs (ts ++ ws) x
  deep_right op a t ts vs [] fs x le w i sa is within h right = absurd (omega (arith, deepest c.most sa within (level op), h.0))
  deep_right {k = k} op a t ts vs (u ∷ ws) fs x le w i sa is within h right =
      let lv = level-within op in
      let p : Placed = at (k + chain (level op) a) t in
      subst (λ (y : Placed). Refuses fs (ts ++ y ∷ ws) x) (sym h.0)
      (subst (λ (ys : List Placed). Refuses fs ys x) (append_assoc ts (p ∷ []) ws)
      (after (ts ++ p ∷ []) ws fs (left_of op a t.spot ∷ fs) x
      (λ rest.
      ap (λ (ys : List Token). go (ys ++ rest) fs want) (map-append (λ (q : Placed). q.token) ts (p ∷ []))
      ∙ ap (λ (ys : List Token). go ys fs want) (append_assoc (tokens_of ts) (t ∷ []) rest)
      ∙ reads c d go rs sa fs t rest (omega (arith, w, le)) (omega (arith, lv.1)) is within (Lets-joined op t i)
      ∙ by_have c d go rs fs a t (goes.Joins op) (record { forms = left_of op a t.spot ∷ fs; mode = want }) rest (ap goes_by i ∙ operator-joins op)
      (ap (joined op t) (keeps (level op) fs a (omega (arith, w, le)) lv.1)))
      (right ws h.2)))

  -- the first one stands behind the first argument
  deep_next : {k : ℕ} (e : ExprTree) (z : Token) (ts vs ws : List Placed) (fs : List Form) (f : List ℕ) (s : Spot) (before : ExprTrees) (x : Placed)
      → z.tok ≡ tok.Sym symbol.Comma
      → SpellsExpr c.bytes (suc k) any_level e ts → d + depth_in fs ≡ k → Within c.most ts → First c.most (at (suc k) z ∷ vs) ws x
      → ((ys : List Placed) → First c.most vs ys x → Refuses (arguments f s (exprs_and before e) ∷ fs) ys x) → Refuses (arguments f s before ∷ fs) (ts ++ ws) x
  deep_next e z ts vs [] fs f s before x j sa is within h next = absurd (omega (arith, deepest c.most sa within 0, h.0))
  deep_next {k = k} e z ts vs (u ∷ ws) fs f s before x j sa is within h next =
      let p : Placed = at (suc k) z in
      subst (λ (y : Placed). Refuses (arguments f s before ∷ fs) (ts ++ y ∷ ws) x) (sym h.0)
      (subst (λ (ys : List Placed). Refuses (arguments f s before ∷ fs) ys x) (append_assoc ts (p ∷ []) ws)
      (after (ts ++ p ∷ []) ws (arguments f s before ∷ fs) (arguments f s (exprs_and before e) ∷ fs) x
      (λ rest.
      ap (λ (ys : List Token). go (ys ++ rest) (arguments f s before ∷ fs) want) (map-append (λ (q : Placed). q.token) ts (p ∷ []))
      ∙ ap (λ (ys : List Token). go ys (arguments f s before ∷ fs) want) (append_assoc (tokens_of ts) (z ∷ []) rest)
      ∙ reads c d go rs sa (arguments f s before ∷ fs) z rest (omega arith) (omega arith) (omega (arith, is)) within (Lets-parted any_level z j)
      ∙ by_have c d go rs (arguments f s before ∷ fs) e z goes.Parts (record { forms = arguments f s (exprs_and before e) ∷ fs; mode = want }) rest
      (ap goes_by j) refl)
      (next ws h.2)))

  mutual
    pub deep : {k l : ℕ} {e : ExprTree} {ps : List Placed} → SpellsExpr c.bytes k l e ps → (fs : List Form) (us : List Placed) (x : Placed) → wants fs ≤ l
        → l ≤ unary_level → d + depth_in fs ≡ k → First c.most ps us x
        → Refuses fs us x
    deep {k = k} (spells_literal v t i) fs [] x w b is h =
        here fs t x k (begins.Literal v.ty v.value) (record { forms = fs; mode = have (literal v.ty v.value t.spot) })
        (literal-begins t.tok v i) refl h.1 h.0 is
    deep (spells_literal v t i) fs (u ∷ us) x w b is h = absurd h.2
    deep {k = k} (spells_name t i) fs [] x w b is h =
        here fs t x k begins.Named (record { forms = fs; mode = after_name (c.bytes t) t.spot }) (ap begins_by i) refl h.1 h.0 is
    deep (spells_name t i) fs (u ∷ us) x w b is h = absurd h.2
    deep {k = k} (spells_unary op a t ts i sa) fs [] x w b is h =
        here fs t x k (begins.Sign op) (record { forms = sign_of op t.spot ∷ fs; mode = want }) (ap begins_by i ∙ sign-begins op) refl h.1 h.0 is
    deep {k = k} (spells_unary op a t ts i sa) fs (u ∷ us) x w b is h =
        behind u (at k t) us fs (sign_of op t.spot ∷ fs) x h.0
        (λ rest. by_want c d go rs fs t (begins.Sign op) (record { forms = sign_of op t.spot ∷ fs; mode = want }) rest (ap begins_by i ∙ sign-begins op) refl
        (omega (arith, is, h.1)))
        (deep sa (sign_of op t.spot ∷ fs) us x (omega arith) (omega arith) (omega (arith, is)) h.2)
    deep {k = k} (spells_binary op a b t ts vs le i sa sb) fs us x w b8 is h = elim (first-split c.most ts (at (k + chain (level op) a) t ∷ vs) us x h) [
      | inl r ↦ deep sa fs us x (omega (arith, w, le)) (omega (arith, (level-within op).1)) is r
      | inr r ↦ subst (λ (ys : List Placed). Refuses fs ys x) (sym r.1)
          (deep_right op a t ts vs r.0 fs x le w i sa is r.2 r.3
          (λ ys g. deep sb (left_of op a t.spot ∷ fs) ys x (omega arith) (omega (arith, (level-within op).1)) (omega (arith, is)) g))
    ]
    deep {k = k} (spells_call f o es ts i j sa) fs [] x w b is h =
        here fs f x k begins.Named (record { forms = fs; mode = after_name (c.bytes f) f.spot }) (ap begins_by i) refl h.1 h.0 is
    deep {k = k} (spells_call f o es ts i j sa) fs (u ∷ []) x w b is h = absurd (omega (arith, h.1, h.2.0))
    deep {k = k} (spells_call f o es ts i j sa) fs (u ∷ v ∷ us) x w b is h =
        subst (λ (y : Placed). Refuses fs (y ∷ v ∷ us) x) (sym h.0)
        (subst (λ (y : Placed). Refuses fs (at k f ∷ y ∷ us) x) (sym h.2.0)
        (after (at k f ∷ at k o ∷ []) us fs (arguments (c.bytes f) f.spot no_exprs ∷ fs) x
        (λ rest.
        by_want c d go rs fs f begins.Named (record { forms = fs; mode = after_name (c.bytes f) f.spot }) (o ∷ rest) (ap begins_by i) refl
        (omega (arith, is, h.1))
        ∙ by_step c d go rs o rest fs (after_name (c.bytes f) f.spot) (record { forms = arguments (c.bytes f) f.spot no_exprs ∷ fs; mode = want })
        (ap (λ (y : Begins). go_on_name y fs (c.bytes f) f.spot o) (ap begins_by j)))
        (deep_args sa fs (c.bytes f) f.spot no_exprs us x is h.1 h.2.2)))
    deep {k = k} (spells_brackets e o z ts i j sa) fs [] x w b is h =
        here fs o x k begins.Opens (record { forms = bracket ∷ fs; mode = want }) (ap begins_by i) refl h.1 h.0 is
    deep {k = k} (spells_brackets e o z ts i j sa) fs (u ∷ us) x w b is h =
        behind u (at k o) us fs (bracket ∷ fs) x h.0
        (λ rest. by_want c d go rs fs o begins.Opens (record { forms = bracket ∷ fs; mode = want }) rest (ap begins_by i) refl (omega (arith, is, h.1)))
        (elim (first-split c.most ts (at k z ∷ []) us x h.2) [
          | inl r ↦ deep sa (bracket ∷ fs) us x (omega arith) (omega arith) (omega (arith, is)) r
          | inr r ↦ absurd (closer-not k z r.0 x h.1 r.3)
        ])

    deep_args : {k : ℕ} {es : ExprTrees} {ps : List Placed} → SpellsArgs c.bytes k es ps
        → (fs : List Form) (f : List ℕ) (s : Spot) (before : ExprTrees) (us : List Placed) (x : Placed) → d + depth_in fs ≡ k → k ≤ c.most
        → First c.most ps us x → Refuses (arguments f s before ∷ fs) us x
    deep_args {k = k} (spells_last e z ts j sa) fs f s before us x is le h = elim (first-split c.most ts (at k z ∷ []) us x h) [
      | inl r ↦ deep sa (arguments f s before ∷ fs) us x (omega arith) (omega arith) (omega (arith, is)) r
      | inr r ↦ absurd (closer-not k z r.0 x le r.3)
    ]
    deep_args {k = k} (spells_next e es z ts vs j sa sb) fs f s before us x is le h = elim (first-split c.most ts (at (suc k) z ∷ vs) us x h) [
      | inl r ↦ deep sa (arguments f s before ∷ fs) us x (omega arith) (omega arith) (omega (arith, is)) r
      | inr r ↦ subst (λ (ys : List Placed). Refuses (arguments f s before ∷ fs) ys x) (sym r.1)
          (deep_next e z ts vs r.0 fs f s before x j sa is r.2 r.3 (λ ys g. deep_args sb fs f s (exprs_and before e) ys x is le g))
    ]
