-- ExactPlace: from one law of the machine, the exact place of a fault of depth.
use Rattle.std.proofs.Common.{◌≡◌, ◌⊎◌, ℕ, ◌<◌, Bool, true, false, leb, List, [], ◌∷◌, ◌++◌, Result, Ok, Err, inl, inr, refl, sym, ap, ◌∙◌, subst, append_assoc}
use Rattle.std.proofs.Common.{append-nil}
use Rattle.std.proofs.lemmas.Bool.{leb-true, leb-false}
use Rattle.std.proofs.lemmas.List.{map-append}
use Rattle.vcp_base.specs.declared.spot.Spot.{Spot}
use Rattle.st_lexer.specs.declared.token.Token.{Token}
use Rattle.st_tree.specs.ProgramTree.{ProgramTree}
use Rattle.st_tree.specs.Placed.{Placed, tokens_of, Within}
use Rattle.st_tree.specs.Programs.{SpellsProgram}
use Rattle.st_parser.specs.declared.fault.SyntaxFault.{SyntaxFault}
use Rattle.st_parser.specs.declared.fault.SyntaxFault.TheVariants as fault
use Rattle.st_parser.specs.ExprMachine.{Context}
use Rattle.st_parser.specs.StmtMachine.{finished}
use Rattle.st_parser.specs.ProgramMachine.{State, at_program, in_body, finish, onward, run}
use Rattle.st_parser.proofs.ProgramComplete.{complete}
use Rattle.st_parser.proofs.ExprDeep.{First}
use Rattle.st_parser.proofs.ProgramDeep.{law}

-- ---- the first token that is too deep

first-by : (m : ℕ) (q : Placed) (qs rs : List Placed) (x : Placed) (b : Bool) → leb q.depth m ≡ b
    → ((us : List Placed) × (y : Placed) × (vs : List Placed) × First m (qs ++ x ∷ rs) us y × (qs ++ x ∷ [] ≡ us ++ y ∷ vs))
    → (us : List Placed) × (y : Placed) × (vs : List Placed) × First m (q ∷ (qs ++ x ∷ rs)) us y × (q ∷ (qs ++ x ∷ []) ≡ us ++ y ∷ vs)
first-by m q qs rs x true e r = (q ∷ r.0, r.1, r.2, (refl, leb-true q.depth m e, r.3), ap (λ (l : List Placed). q ∷ l) r.4)
first-by m q qs rs x false e r = ([], q, qs ++ x ∷ [], (leb-false q.depth m e, refl), refl)

-- where a token is too deep there is a first such token, no later
first-of : (m : ℕ) (qs rs : List Placed) (x : Placed) → m < x.depth
    → (us : List Placed) × (y : Placed) × (vs : List Placed) × First m (qs ++ x ∷ rs) us y × (qs ++ x ∷ [] ≡ us ++ y ∷ vs)
first-of m [] rs x lt = ([], x, [], (lt, refl), refl)
first-of m (q ∷ qs) rs x lt = first-by m q qs rs x (leb q.depth m) refl (first-of m qs rs x lt)

pub first-is : (m : ℕ) (ps us : List Placed) (x : Placed) → First m ps us x → (vs : List Placed) × (ps ≡ us ++ x ∷ vs)
first-is m [] us x h = absurd h
first-is m (p ∷ ps) [] x h = (ps, ap (λ (y : Placed). y ∷ ps) (sym h.1))
first-is m (p ∷ ps) (u ∷ us) x h =
    let r = first-is m ps us x h.2 in
    (r.0, ap (λ (l : List Placed). p ∷ l) r.1 ∙ ap (λ (y : Placed). y ∷ (us ++ x ∷ r.0)) (sym h.0))

pub first-depth : (m : ℕ) (ps us : List Placed) (x : Placed) → First m ps us x → m < x.depth
first-depth m [] us x h = absurd h
first-depth m (p ∷ ps) [] x h = subst (λ (y : Placed). m < y.depth) (sym h.1) h.0
first-depth m (p ∷ ps) (u ∷ us) x h = first-depth m ps us x h.2

within-by : (m : ℕ) (p : Placed) (ps : List Placed) (b : Bool) → leb p.depth m ≡ b → Within m ps ⊎ ((us : List Placed) × (x : Placed) × First m ps us x)
    → Within m (p ∷ ps) ⊎ ((us : List Placed) × (x : Placed) × First m (p ∷ ps) us x)
within-by m p ps true e (inl w) = inl (leb-true p.depth m e, w)
within-by m p ps true e (inr r) = inr (p ∷ r.0, r.1, (refl, leb-true p.depth m e, r.2))
within-by m p ps false e r = inr ([], p, (leb-false p.depth m e, refl))

pub within-or-first : (m : ℕ) (ps : List Placed) → Within m ps ⊎ ((us : List Placed) × (x : Placed) × First m ps us x)
within-or-first m [] = inl tt
within-or-first m (p ∷ ps) = within-by m p ps (leb p.depth m) refl (within-or-first m ps)

-- ---- two places in one list

pub splits : (a b e d : List Token) (x y : Token) → a ++ x ∷ b ≡ e ++ y ∷ d
    → ((a ≡ e) × (x ≡ y)) ⊎ (((v : List Token) × (e ≡ a ++ x ∷ v)) ⊎ ((v : List Token) × (a ≡ e ++ y ∷ v)))
splits [] b [] d x y h = let k : x ≡ y = cc in inl (refl, k)
splits [] b (z ∷ e) d x y h = let k : z ≡ x = cc in inr (inl (e, ap (λ (w : Token). w ∷ e) k))
splits (z ∷ a) b [] d x y h = let k : z ≡ y = cc in inr (inr (a, ap (λ (w : Token). w ∷ a) k))
splits (z ∷ a) b (w ∷ e) d x y h =
    let k : z ≡ w = cc in
    let t : a ++ x ∷ b ≡ e ++ y ∷ d = cc in
    elim (splits a b e d x y t) [
      | inl r ↦ inl (ap (λ (u : Token). u ∷ a) k ∙ ap (λ (l : List Token). w ∷ l) r.0, r.1)
      | inr r ↦ inr (elim r [
        | inl s ↦ inl (s.0, ap (λ (u : Token). u ∷ e) (sym k) ∙ ap (λ (l : List Token). z ∷ l) s.1)
        | inr s ↦ inr (s.0, ap (λ (u : Token). u ∷ a) k ∙ ap (λ (l : List Token). w ∷ l) s.1)
      ])
    ]

pub placed-split : (us vs : List Placed) (x : Placed) → tokens_of (us ++ x ∷ vs) ≡ tokens_of us ++ x.token ∷ tokens_of vs
placed-split us vs x = map-append (λ (p : Placed). p.token) us (x ∷ vs)

no-depth : (end y : Spot) (s : State) → finish end s ≡ Err (fault.Depth y) → ⊥
no-depth end y (in_body f [] ss finished) e = absurd cc
no-depth end y _ e = absurd cc

-- ---- what the one law gives

module _ (c : Context) (end : Spot) where
  -- the tokens through t begin a program in which t is too deep
  pub record IsDeep (before : List Token) (t : Token) : Type 0 where
    pub program : ProgramTree
    pub front : List Placed
    pub deep : Placed
    pub more : List Placed
    pub spelled : SpellsProgram c.bytes program (front ++ deep ∷ more)
    pub stands : tokens_of front ≡ before
    pub is : deep.token ≡ t
    pub depth : c.most < deep.depth

  -- the tokens us are taken, and the machine stands in the state r
  abbrev pub Reached : List Token → State → Type 0
  Reached us r = (rest : List Token) → run c end (us ++ rest) at_program ≡ run c end rest r

  stuck : (p : ProgramTree) (ps us : List Placed) (x : Placed) (rest : List Token) → SpellsProgram c.bytes p ps → First c.most ps us x
      → run c end (tokens_of us ++ x.token ∷ rest) at_program ≡ Err (fault.Depth x.token.spot)
  stuck p ps us x rest sp h =
      let r = law c end p ps us x sp h in
      r.1 (x.token ∷ rest) ∙ ap (λ (s : Result State SyntaxFault). onward s (run c end rest)) r.2

  not-reached : (us : List Token) (r : State) (y : Spot) → Reached us r → run c end us at_program ≡ Err (fault.Depth y) → ⊥
  not-reached us r y reach e = no-depth end y r (sym (reach []) ∙ ap (λ (l : List Token). run c end l at_program) (append-nil us) ∙ e)

  -- none of the tokens is too deep that are not refused for their depth
  pub not-deep : (us : List Token) → ((y : Spot) → run c end us at_program ≡ Err (fault.Depth y) → ⊥) → (before behind : List Token) (t : Token)
      → us ≡ before ++ t ∷ behind → IsDeep before t → ⊥
  not-deep us not before behind t split deep =
      let q = first-of c.most deep.front deep.more deep.deep deep.depth in
      let same : tokens_of q.0 ++ q.1.token ∷ tokens_of q.2 ≡ before ++ t ∷ [] =
      sym (placed-split q.0 q.2 q.1) ∙ ap tokens_of (sym q.4) ∙ placed-split deep.front [] deep.deep
      ∙ ap (λ (l : List Token). l ++ deep.deep.token ∷ []) deep.stands ∙ ap (λ (w : Token). before ++ w ∷ []) deep.is in
      let all : us ≡ tokens_of q.0 ++ q.1.token ∷ (tokens_of q.2 ++ behind) =
      split ∙ sym (append_assoc before (t ∷ []) behind) ∙ ap (λ (l : List Token). l ++ behind) (sym same)
      ∙ append_assoc (tokens_of q.0) (q.1.token ∷ tokens_of q.2) behind in
      not q.1.token.spot
      (ap (λ (l : List Token). run c end l at_program) all
      ∙ stuck deep.program (deep.front ++ deep.deep ∷ deep.more) q.0 q.1 (tokens_of q.2 ++ behind) deep.spelled q.3)

  -- none of the tokens that are taken is too deep
  pub none-deep : (us : List Token) (r : State) → Reached us r → (before behind : List Token) (t : Token) → us ≡ before ++ t ∷ behind → IsDeep before t → ⊥
  none-deep us r reach = not-deep us (λ y e. not-reached us r y reach e)

  -- a token that is refused for its depth, where a program goes on with it, is too deep
  pub is-deep : (us : List Token) (t : Token) (y : Spot) (r : State) (more : List Token) (p : ProgramTree) (ps : List Placed) → Reached us r
      → ((rest : List Token) → run c end (us ++ t ∷ rest) at_program ≡ Err (fault.Depth y))
      → SpellsProgram c.bytes p ps → tokens_of ps ≡ us ++ t ∷ more → IsDeep us t
  is-deep us t y r more p ps reach refused sp same =
      elim (within-or-first c.most ps) [
        | inl w ↦
            let both : Ok p ≡ Err (fault.Depth y) = sym (complete c end p ps sp w) ∙ ap (λ (l : List Token). run c end l at_program) same ∙ refused more in
            absurd cc
        | inr q ↦
            let f = first-is c.most ps q.0 q.1 q.2 in
            let two : tokens_of q.0 ++ q.1.token ∷ tokens_of f.0 ≡ us ++ t ∷ more = sym (placed-split q.0 f.0 q.1) ∙ ap tokens_of (sym f.1) ∙ same in
            elim (splits (tokens_of q.0) (tokens_of f.0) us more q.1.token t two) [
              | inl k ↦ record {
                program = p;
                front = q.0;
                deep = q.1;
                more = f.0;
                spelled = subst (λ (l : List Placed). SpellsProgram c.bytes p l) f.1 sp;
                stands = k.0;
                is = k.1;
                depth = first-depth c.most ps q.0 q.1 q.2;
              }
              | inr k ↦ elim k [
                | inl v ↦ absurd (not-reached us r q.1.token.spot reach (ap (λ (l : List Token). run c end l at_program) v.1 ∙ stuck p ps q.0 q.1 v.0 sp q.2))
                | inr v ↦
                    let g = law c end p ps q.0 q.1 sp q.2 in
                    absurd (no-depth end y g.0
                    (sym (g.1 []) ∙ ap (λ (l : List Token). run c end l at_program) (append-nil (tokens_of q.0) ∙ v.1) ∙ refused v.0))
              ]
            ]
      ]
