-- OneAnswer: of the answers on the same tokens no two hold together.
use Rattle.std.proofs.Common.{◌≡◌, ◌≢◌, ◌⊎◌, ℕ, List, [], ◌∷◌, ◌++◌, inl, inr, refl, sym, ap, ◌∙◌, subst, append_assoc}
use Rattle.vcp_base.specs.Limits.{most_depth}
use Rattle.vcp_base.specs.declared.spot.Spot.{Spot}
use Rattle.st_lexer.specs.declared.token.Token.{Token}
use Rattle.st_tree.specs.ProgramTree.{ProgramTree}
use Rattle.st_tree.specs.Placed.{Placed, at, tokens_of}
use Rattle.st_tree.specs.Programs.{SpellsProgram}
use Rattle.st_tree.specs.Spelling.{Spells, SpellsWithin, Begins, bytes_in, left_aside}
use Rattle.st_parser.specs.declared.fault.SyntaxFault.{SyntaxFault}
use Rattle.st_parser.specs.declared.fault.SyntaxFault.TheVariants as fault
use Rattle.st_parser.specs.Answers.{IsTooDeep, NoneTooDeep, FirstWrong, EndsEarly, FirstTooDeep, Refuses}
use Rattle.st_parser.proofs.ExprDeep.{First}
use Rattle.st_parser.proofs.ExactPlace.{first-is, first-depth, within-or-first, splits, placed-split}

-- tokens in which one is too deep begin a program through it
deep-begins : (before : List Token) (t : Token) → IsTooDeep before t → Begins (before ++ t ∷ [])
deep-begins before t d =
    let front = d.1.1 in
    let more = d.1.2 in
    let tokens : tokens_of (front ++ at d.0 t ∷ more) ≡ (before ++ t ∷ []) ++ tokens_of more =
    placed-split front more (at d.0 t) ∙ ap (λ (l : List Token). l ++ t ∷ tokens_of more) d.1.4 ∙ sym (append_assoc before (t ∷ []) (tokens_of more)) in
    (tokens_of more, d.1.0, front ++ at d.0 t ∷ more, d.1.3, tokens)

-- the tokens through t stand in front of those with more behind
through : (before rest : List Token) (t : Token) → (before ++ t ∷ []) ++ rest ≡ before ++ t ∷ rest
through before rest t = append_assoc before (t ∷ []) rest

module _ (front : (ts us : List Token) → Begins (ts ++ us) → Begins ts) where
  begins-through : (ts before rest : List Token) (t : Token) → ts ≡ before ++ t ∷ rest → Begins ts → Begins (before ++ t ∷ [])
  begins-through ts before rest t is b = front (before ++ t ∷ []) rest (subst Begins (is ∙ sym (through before rest t)) b)

  two-wrong : (ts : List Token) (x y : Spot) → FirstWrong ts x → FirstWrong ts y → x ≡ y
  two-wrong ts x y f g = elim (splits f.0 f.2 g.0 g.2 f.1 g.1 (sym f.3 ∙ g.3)) [
    | inl k ↦ f.4 ∙ ap (λ (t : Token). t.spot) k.1 ∙ sym g.4
    | inr k ↦ elim k [
      | inl v ↦ absurd (f.6 (begins-through g.0 f.0 v.0 f.1 v.1 g.5))
      | inr v ↦ absurd (g.6 (begins-through f.0 g.0 v.0 g.1 v.1 f.5))
    ]
  ]

  wrong-begins : (ts : List Token) (x : Spot) → FirstWrong ts x → Begins ts → ⊥
  wrong-begins ts x f b = f.6 (begins-through ts f.0 f.2 f.1 f.3 b)

  deep-behind : (before other rest : List Token) (t u : Token) → before ≡ other ++ u ∷ rest → Begins (before ++ t ∷ []) → Begins (other ++ u ∷ [])
  deep-behind before other rest t u is b =
      begins-through (before ++ t ∷ []) other (rest ++ t ∷ []) u (ap (λ (l : List Token). l ++ t ∷ []) is ∙ append_assoc other (u ∷ rest) (t ∷ [])) b

  deep-wrong : (ts : List Token) (x y : Spot) → FirstTooDeep ts x → FirstWrong ts y → ⊥
  deep-wrong ts x y f g = elim (splits f.0 f.2 g.0 g.2 f.1 g.1 (sym f.3 ∙ g.3)) [
    | inl k ↦
        let here : f.0 ++ f.1 ∷ [] ≡ g.0 ++ g.1 ∷ [] = ap (λ (l : List Token). l ++ f.1 ∷ []) k.0 ∙ ap (λ (t : Token). g.0 ++ t ∷ []) k.1 in
        g.6 (subst Begins here (deep-begins f.0 f.1 f.5))
    | inr k ↦ elim k [
      | inl v ↦ g.7 f.0 v.0 f.1 v.1 f.5
      | inr v ↦ g.6 (deep-behind f.0 g.0 v.0 f.1 g.1 v.1 (deep-begins f.0 f.1 f.5))
    ]
  ]

two-deep : (ts : List Token) (x y : Spot) → FirstTooDeep ts x → FirstTooDeep ts y → x ≡ y
two-deep ts x y f g = elim (splits f.0 f.2 g.0 g.2 f.1 g.1 (sym f.3 ∙ g.3)) [
  | inl k ↦ f.4 ∙ ap (λ (t : Token). t.spot) k.1 ∙ sym g.4
  | inr k ↦ elim k [
    | inl v ↦ absurd (g.6 f.0 v.0 f.1 v.1 f.5)
    | inr v ↦ absurd (f.6 g.0 v.0 g.1 v.1 g.5)
  ]
]

deep-none : (ts : List Token) (x : Spot) → FirstTooDeep ts x → NoneTooDeep ts → ⊥
deep-none ts x f none = none f.0 f.2 f.1 f.3 f.5

module _ (front : (ts us : List Token) → Begins (ts ++ us) → Begins ts) where
  two-syntax : (text : List ℕ) (ts : List Token) (end x y : Spot) → FirstWrong ts x ⊎ EndsEarly text ts end x → FirstWrong ts y ⊎ EndsEarly text ts end y
      → x ≡ y
  two-syntax text ts end x y (inl f) (inl g) = two-wrong front ts x y f g
  two-syntax text ts end x y (inl f) (inr g) = absurd (wrong-begins front ts x f g.1)
  two-syntax text ts end x y (inr f) (inl g) = absurd (wrong-begins front ts y g f.1)
  two-syntax text ts end x y (inr f) (inr g) = f.0 ∙ sym g.0

  deep-syntax : (text : List ℕ) (ts : List Token) (end x y : Spot) → FirstTooDeep ts x → FirstWrong ts y ⊎ EndsEarly text ts end y → ⊥
  deep-syntax text ts end x y f (inl g) = deep-wrong front ts x y f g
  deep-syntax text ts end x y f (inr g) = deep-none ts x f g.3

  pub one-fault : (text : List ℕ) (ts : List Token) (end : Spot) (f g : SyntaxFault) → Refuses text ts end f → Refuses text ts end g → f ≢ fault.Memory
      → g ≢ fault.Memory → f ≡ g
  one-fault text ts end (fault.Syntax x) (fault.Syntax y) f g m n = ap (λ (s : Spot). fault.Syntax s) (two-syntax text ts end x y f g)
  one-fault text ts end (fault.Syntax x) (fault.Depth y) f g m n = absurd (deep-syntax text ts end y x g f)
  one-fault text ts end (fault.Depth x) (fault.Syntax y) f g m n = absurd (deep-syntax text ts end x y f g)
  one-fault text ts end (fault.Depth x) (fault.Depth y) f g m n = ap (λ (s : Spot). fault.Depth s) (two-deep ts x y f g)
  one-fault text ts end fault.Memory g f h m n = absurd (m refl)
  one-fault text ts end (fault.Syntax x) fault.Memory f g m n = absurd (n refl)
  one-fault text ts end (fault.Depth x) fault.Memory f g m n = absurd (n refl)

  module _ (begins : (p : ProgramTree) (text : List ℕ) (ts : List Token) → Spells p text ts → Begins ts) where
    syntax-spelled : (text : List ℕ) (ts : List Token) (end x : Spot) (p : ProgramTree) → Spells p text ts → FirstWrong ts x ⊎ EndsEarly text ts end x → ⊥
    syntax-spelled text ts end x p s (inl f) = wrong-begins front ts x f (begins p text ts s)
    syntax-spelled text ts end x p s (inr f) = f.2 p s

    pub no-fault : (text : List ℕ) (ts : List Token) (end : Spot) (p : ProgramTree) (f : SyntaxFault) → Spells p text ts → NoneTooDeep ts
        → Refuses text ts end f → f ≡ fault.Memory
    no-fault text ts end p (fault.Syntax x) s none f = absurd (syntax-spelled text ts end x p s f)
    no-fault text ts end p (fault.Depth x) s none f = absurd (deep-none ts x f none)
    no-fault text ts end p fault.Memory s none f = refl

module _ (renamed : (b c : Token → List ℕ) (p : ProgramTree) (ps : List Placed) → SpellsProgram b p ps → (q : ProgramTree) × SpellsProgram c q ps) where
  deep-in : (text : List ℕ) (ts : List Token) (p : ProgramTree) (ps us : List Placed) (x : Placed) → SpellsProgram (bytes_in text) p ps → tokens_of ps ≡ ts
      → First most_depth ps us x → NoneTooDeep ts → ⊥
  deep-in text ts p ps us x sp is first none =
      let f = first-is most_depth ps us x first in
      let r = renamed (bytes_in text) left_aside p ps sp in
      let spelled : SpellsProgram left_aside r.0 (us ++ at x.depth x.token ∷ f.0) = subst (λ (l : List Placed). SpellsProgram left_aside r.0 l) f.1 r.1 in
      none (tokens_of us) (tokens_of f.0) x.token (sym is ∙ ap tokens_of f.1 ∙ placed-split us f.0 x)
      (x.depth, (r.0, us, f.0, spelled, refl), first-depth most_depth ps us x first)

  pub within-by-none : (text : List ℕ) (ts : List Token) (p : ProgramTree) → Spells p text ts → NoneTooDeep ts → SpellsWithin most_depth p text ts
  within-by-none text ts p (ps, sp, is) none = elim (within-or-first most_depth ps) [
    | inl w ↦ (ps, sp, is, w)
    | inr q ↦ absurd (deep-in text ts p ps q.0 q.1 sp is q.2 none)
  ]
