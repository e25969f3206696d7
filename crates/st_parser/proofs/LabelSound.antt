-- LabelSound: labels that are read are spelled.
use Rattle.std.proofs.Common.{◌≡◌, ℕ, suc, ◌≤◌, Bool, true, false, cond, leb, List, [], ◌∷◌, ◌++◌, length, Some, None, Result, Ok, Err, sym, refl, ◌∙◌, subst}
use Rattle.std.proofs.Common.{append_assoc, append-nil, leb-true}
use Rattle.vcp_base.specs.declared.spot.Spot.{Spot}
use Rattle.st_lexer.specs.declared.token.Sym.TheVariants as symbol
use Rattle.st_lexer.specs.declared.token.Tok.{Tok}
use Rattle.st_lexer.specs.declared.token.Tok.TheVariants as tok
use Rattle.st_lexer.specs.declared.token.Token.{Token}
use Rattle.st_tree.specs.declared.expr.UnOp.TheVariants as un
use Rattle.st_tree.specs.ExprTree.{ExprTree, literal, name, unary}
use Rattle.st_tree.specs.StmtTree.{LabelTree, StmtTree, StmtTrees}
use Rattle.st_tree.specs.Placed.{Placed, at}
use Rattle.st_tree.specs.Labels.{SpellsLabel, spells_value, spells_named, spells_negative, spells_one, spells_range, spells_last_label, spells_next_label}
use Rattle.st_tree.specs.Statements.{spells_no_stmt}
use Rattle.st_parser.specs.declared.fault.SyntaxFault.{SyntaxFault}
use Rattle.st_parser.specs.declared.fault.SyntaxFault.TheVariants as fault
use Rattle.st_parser.specs.declared.marks.Begins.{Begins}
use Rattle.st_parser.specs.declared.marks.Begins.TheVariants as begins
use Rattle.st_parser.specs.declared.marks.Mark.{Mark}
use Rattle.st_parser.specs.declared.marks.Mark.TheVariants as mark
use Rattle.st_parser.specs.Marks.{begins_by, mark_of, is}
use Rattle.st_parser.specs.ExprMachine.{Context, no_deeper}
use Rattle.st_parser.specs.StmtMachine.{Selection, Body, of_branch, Level, LabelPhase, first_wanted, first_negated, first_read, last_wanted, last_negated}
use Rattle.st_parser.specs.StmtMachine.{last_read, labelling, At, refused, to, opened, const_at, number_at, with_phase, label_ends, label_step}
use Rattle.st_parser.proofs.ExprTables.{Began, begun}
use Rattle.st_parser.proofs.MarkTable.{IsMark, mark_is}
use Rattle.st_parser.proofs.SoFar.{Opens, Lists, Labels, Whole, Stands}

-- ---- choices

pub chosen : {A : Type 0} (P : A → Type 0) (b : Bool) (x y : A) → (b ≡ true → P x) → P y → P (cond b x y)
chosen P true x y f g = f refl
chosen P false x y f g = g

pub not_deeper : {A : Type 0} (P : Result A SyntaxFault → Type 0) (most depth : ℕ) (t : Token) (r : Result A SyntaxFault) → ((f : SyntaxFault) → P (Err f))
    → (depth ≤ most → P r) → P (no_deeper most depth t r)
not_deeper P most depth t (Ok a) e f = chosen P (leb depth most) (Ok a) (Err (fault.Depth t.spot)) (λ le. f (leb-true depth most le)) (e (fault.Depth t.spot))
not_deeper P most depth t (Err x) e f = e x

-- ---- what a step comes to

-- behind the tokens cs the token t was read at some depth within the limit
abbrev pub Sound : Context → Token → List Placed → Result At SyntaxFault → Type 0
Sound c t cs (Ok a) = (k : ℕ) × (k ≤ c.most) × Stands c a.outer a.stmts a.phase (cs ++ at k t ∷ [])
Sound c t cs (Err f) = Unit {0}

pub sound_err : (c : Context) (t : Token) (cs : List Placed) (f : SyntaxFault) → Sound c t cs (Err f)
sound_err c t cs f = tt

-- a body begins
pub opened-sound : (c : Context) (t : Token) (k : ℕ) (cs hs : List Placed) (body : Body) (outer : List Level) (ss : StmtTrees) → k ≤ c.most
    → length outer ≤ c.most
    → Opens c (length outer) (Whole c outer ss) body hs → cs ++ at k t ∷ [] ≡ hs → Sound c t cs (opened body outer ss)
opened-sound c t k cs hs body outer ss kl le o e = (k, kl, (hs, [], le, o, spells_no_stmt, e ∙ sym (append-nil hs)))

-- ---- a constant

-- where a label at depth d stands behind a token more
abbrev LabelSound : Context → ℕ → Token → List Placed → Result LabelPhase SyntaxFault → Type 0
LabelSound c d t ts (Ok p) = (k : ℕ) × (k ≤ c.most) × Labels c d p (ts ++ at k t ∷ [])
LabelSound c d t ts (Err f) = Unit {0}

first-sound : (c : Context) (d : ℕ) (b : Begins) (t : Token) → Began b t.tok → d ≤ c.most → LabelSound c d t [] (const_at c first_read first_negated b t)
first-sound c d (begins.Literal ty v) t k le = (d, le, (le, spells_value (record { ty = ty; value = v }) t k))
first-sound c d begins.Named t k le = (d, le, (le, spells_named t k))
first-sound c d (begins.Sign un.Neg) t k le = (d, le, (le, λ ty v u ku. spells_negative ty v t u k ku))
first-sound c d (begins.Sign un.Not) t k le = tt
first-sound c d begins.Opens t k le = tt
first-sound c d begins.Nothing t k le = tt

last-sound : (c : Context) (d : ℕ) (b : Begins) (t : Token) (e : ExprTree) (ts : List Placed) → Began b t.tok → d ≤ c.most → Labels c d (last_wanted e) ts
    → LabelSound c d t ts (const_at c (last_read e) (last_negated e) b t)
last-sound c d (begins.Literal ty v) t e ts k le l = (d, le, (le, l.1 (literal ty v t.spot) (at d t ∷ []) (spells_value (record { ty = ty; value = v }) t k)))
last-sound c d begins.Named t e ts k le l = (d, le, (le, l.1 (name (c.bytes t) t.spot) (at d t ∷ []) (spells_named t k)))
last-sound c d (begins.Sign un.Neg) t e ts k le l = (
  d,
  le,
  (
    le,
    λ ty v u ku.
        subst (λ (x : List Placed). SpellsLabel c.bytes d (record { first = e; last = Some (unary un.Neg (literal ty v u.spot) t.spot) }) x)
        (sym (append_assoc ts (at d t ∷ []) (at (suc d) u ∷ [])))
        (l.1 (unary un.Neg (literal ty v u.spot) t.spot) (at d t ∷ at (suc d) u ∷ []) (spells_negative ty v t u k ku)),
  ),
)
last-sound c d (begins.Sign un.Not) t e ts k le l = tt
last-sound c d begins.Opens t e ts k le l = tt
last-sound c d begins.Nothing t e ts k le l = tt

first-number-sound : (c : Context) (d : ℕ) (s : Spot) (k : Tok) (t : Token) (ts : List Placed) → t.tok ≡ k → suc d ≤ c.most → Labels c d (first_negated s) ts
    → LabelSound c d t ts (number_at first_read s k t)
first-number-sound c d s (tok.Number ty v) t ts k le l = (suc d, le, (l.0, l.1 ty v t k))
first-number-sound c d s tok.Name t ts k le l = tt
first-number-sound c d s (tok.Key x) t ts k le l = tt
first-number-sound c d s (tok.Sym x) t ts k le l = tt

last-number-sound : (c : Context) (d : ℕ) (e : ExprTree) (s : Spot) (k : Tok) (t : Token) (ts : List Placed) → t.tok ≡ k → suc d ≤ c.most
    → Labels c d (last_negated e s) ts → LabelSound c d t ts (number_at (last_read e) s k t)
last-number-sound c d e s (tok.Number ty v) t ts k le l = (suc d, le, (l.0, l.1 ty v t k))
last-number-sound c d e s tok.Name t ts k le l = tt
last-number-sound c d e s (tok.Key x) t ts k le l = tt
last-number-sound c d e s (tok.Sym x) t ts k le l = tt

-- ---- a label

phase-sound : (c : Context) (outer : List Level) (ss : StmtTrees) (k : Selection) (ls : List LabelTree) (t : Token) (hs ts : List Placed)
    (r : Result LabelPhase SyntaxFault)
    → length outer ≤ c.most → Lists c (length outer) (Whole c outer ss) k ls hs → LabelSound c (suc (length outer)) t ts r
    → Sound c t (hs ++ ts) (with_phase outer ss k ls r)
phase-sound c outer ss k ls t hs ts (Ok p) le h l = (l.0, l.1, (hs, ts ++ at l.0 t ∷ [], le, h, l.2, append_assoc hs ts (at l.0 t ∷ [])))
phase-sound c outer ss k ls t hs ts (Err f) le h l = tt

-- a label and the comma behind it
next-label : (c : Context) (d : ℕ) (P : StmtTree → List Placed → Type 0) (k : Selection) (ls : List LabelTree) (l : LabelTree) (t : Token) (hs ts : List Placed)
    → Lists c d P k ls hs → SpellsLabel c.bytes (suc d) l ts → t.tok ≡ tok.Sym symbol.Comma → Lists c d P k (ls ++ l ∷ []) (hs ++ (ts ++ at (suc d) t ∷ []))
next-label c d P k ls l t hs ts h sp kt more us sps =
    let tokens : hs ++ (ts ++ at (suc d) t ∷ us) ≡ (hs ++ (ts ++ at (suc d) t ∷ [])) ++ us = simp append_assoc in
    subst (λ (x : List Placed). Opens c d P (of_branch k ((ls ++ l ∷ []) ++ more)) x) tokens
    (subst (λ (x : List LabelTree). Opens c d P (of_branch k x) (hs ++ (ts ++ at (suc d) t ∷ us))) (sym (append_assoc ls (l ∷ []) more))
    (h (l ∷ more) (ts ++ at (suc d) t ∷ us) (spells_next_label l more t ts us sp kt sps)))

label_ends-sound : (c : Context) (outer : List Level) (ss : StmtTrees) (k : Selection) (ls : List LabelTree) (l : LabelTree) (m : Mark) (t : Token)
    (hs ts : List Placed)
    → length outer ≤ c.most → suc (length outer) ≤ c.most → Lists c (length outer) (Whole c outer ss) k ls hs → SpellsLabel c.bytes (suc (length outer)) l ts
    → IsMark m t.tok
    → Sound c t (hs ++ ts) (label_ends outer ss k (ls ++ l ∷ []) m t)
label_ends-sound c outer ss k ls l m t hs ts le deep h sp mk =
    let d : ℕ = suc (length outer) in
    let behind : List Placed = hs ++ (ts ++ at d t ∷ []) in
    chosen (Sound c t (hs ++ ts)) (is m mark.Comma) (to outer ss (labelling k (ls ++ l ∷ []) first_wanted)) _
    (λ e. (
      d,
      deep,
      (
        behind,
        [],
        le,
        next-label c (length outer) (Whole c outer ss) k ls l t hs ts h sp (mk mark.Comma e),
        refl,
        append_assoc hs ts (at d t ∷ [])
            ∙ sym (append-nil behind),
      ),
    ))
    (chosen (Sound c t (hs ++ ts)) (is m mark.Colon) (opened (of_branch k (ls ++ l ∷ [])) outer ss) (refused t)
    (λ e. opened-sound c t d (hs ++ ts) behind (of_branch k (ls ++ l ∷ [])) outer ss deep le
    (h (l ∷ []) (ts ++ at d t ∷ []) (spells_last_label l t ts sp (mk mark.Colon e)))
    (append_assoc hs ts (at d t ∷ [])))
    tt)

-- a token of a label
pub label-sound : (c : Context) (outer : List Level) (ss : StmtTrees) (k : Selection) (ls : List LabelTree) (p : LabelPhase) (t : Token) (hs ts : List Placed)
    → length outer ≤ c.most → Lists c (length outer) (Whole c outer ss) k ls hs → Labels c (suc (length outer)) p ts
    → Sound c t (hs ++ ts) (label_step c outer ss k ls p t)
label-sound c outer ss k ls first_wanted t hs ts le h l =
    let d : ℕ = suc (length outer) in
    phase-sound c outer ss k ls t hs ts (no_deeper c.most d t (const_at c first_read first_negated (begins_by t.tok) t)) le h
    (subst (λ (x : List Placed). LabelSound c d t x (no_deeper c.most d t (const_at c first_read first_negated (begins_by t.tok) t))) (sym l)
    (not_deeper (LabelSound c d t []) c.most d t (const_at c first_read first_negated (begins_by t.tok) t) (λ f. tt)
    (first-sound c d (begins_by t.tok) t (begun t.tok))))
label-sound c outer ss k ls (first_negated s) t hs ts le h l =
    let d : ℕ = suc (length outer) in
    phase-sound c outer ss k ls t hs ts (no_deeper c.most (suc d) t (number_at first_read s t.tok t)) le h
    (not_deeper (LabelSound c d t ts) c.most (suc d) t (number_at first_read s t.tok t) (λ f. tt) (λ deep. first-number-sound c d s t.tok t ts refl deep l))
label-sound c outer ss k ls (first_read e) t hs ts le h l =
    let d : ℕ = suc (length outer) in
    chosen (Sound c t (hs ++ ts)) (is (mark_of t.tok) mark.DotDot) (to outer ss (labelling k ls (last_wanted e))) _
    (λ is_range. (
      d,
      l.0,
      (
        hs,
        ts ++ at d t ∷ [],
        le,
        h,
        (
          l.0,
          λ f us sp.
              subst (λ (x : List Placed). SpellsLabel c.bytes d (record { first = e; last = Some f }) x) (sym (append_assoc ts (at d t ∷ []) us))
              (spells_range e f t ts us l.1 (mark_is t.tok mark.DotDot is_range) sp),
        ),
        append_assoc hs ts (at d t ∷ []),
      ),
    ))
    (label_ends-sound c outer ss k ls (record { first = e; last = None }) (mark_of t.tok) t hs ts le l.0 h (spells_one e ts l.1) (mark_is t.tok))
label-sound c outer ss k ls (last_wanted e) t hs ts le h l =
    let d : ℕ = suc (length outer) in
    phase-sound c outer ss k ls t hs ts (no_deeper c.most d t (const_at c (last_read e) (last_negated e) (begins_by t.tok) t)) le h
    (not_deeper (LabelSound c d t ts) c.most d t (const_at c (last_read e) (last_negated e) (begins_by t.tok) t) (λ f. tt)
    (λ deep. last-sound c d (begins_by t.tok) t e ts (begun t.tok) deep l))
label-sound c outer ss k ls (last_negated e s) t hs ts le h l =
    let d : ℕ = suc (length outer) in
    phase-sound c outer ss k ls t hs ts (no_deeper c.most (suc d) t (number_at (last_read e) s t.tok t)) le h
    (not_deeper (LabelSound c d t ts) c.most (suc d) t (number_at (last_read e) s t.tok t) (λ f. tt) (λ deep. last-number-sound c d e s t.tok t ts refl deep l))
label-sound c outer ss k ls (last_read e f) t hs ts le h l =
    label_ends-sound c outer ss k ls (record { first = e; last = Some f }) (mark_of t.tok) t hs ts le l.0 h l.1 (mark_is t.tok)
