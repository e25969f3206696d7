-- DeclNodes: the steps of typing declarations, one after another.
use Rattle.std.proofs.Common.{◌≡◌, ◌⊎◌, inl, inr, ℕ, ℤ, false, List, [], ◌∷◌, Option, Some, None, option_map, option_and_then, neg_ℤ, refl, sym, ap, ◌∙◌, subst}
use Rattle.vcp_base.specs.declared.spot.Spot.{Spot}
use Rattle.vcp_base.specs.declared.ty.Ty.{Ty}
use Rattle.st_tree.specs.declared.expr.UnOp.{UnOp}
use Rattle.st_tree.specs.declared.program.Section.{Section}
use Rattle.st_tree.specs.ExprTree.{ExprTree, literal, name, unary}
use Rattle.st_tree.specs.ProgramTree.{DeclaredTree, DeclTree, BlockTree}
use Rattle.st_types.specs.declared.fault.Fault.{Fault}
use Rattle.st_types.specs.declared.fault.Rule.TheVariants as rule
use Rattle.st_types.specs.Faults.{fault}
use Rattle.st_types.specs.Notes.{Notes}
use Rattle.st_types.specs.Scope.{Entry, find}
use Rattle.st_types.specs.StmtTyping.{Known, Form, spot_of, form_of_entry, form_of_negated, form, known_form, constant}
use Rattle.st_types.specs.ExprTyping.{both, sized, Untyped, negated, type_of}
use Rattle.st_types.specs.DeclTyping.{Made, is_new, after_name, after_names, known_init, init_value, Misfit, NamesFault, InitFault, after_decl, DeclFault}
use Rattle.st_types.specs.DeclTyping.{after_decls, DeclsFault, after_blocks, BlocksFault}
use Rattle.st_types.specs.DeclSteps.{FormFault, Judges, InitForm, DeclForm, DeclsForm, BlocksForm, InitInside, DeclsInside, BlocksInside, JudgesInit, Makes}
use Rattle.st_types.specs.DeclSteps.{MakesNames}
use Rattle.st_types.proofs.NoteLaws.{quiet, pair, notes-as, note-where, note-always}
use Rattle.st_types.proofs.ConstantLaws.{name-known, name-form, sign-known, sign-form}

-- ---- faults inside initial values apart from other faults

init-split : (all before : List Entry) (i : Option ExprTree) (f : Fault) → InitFault all before i f → InitForm before i f ⊎ InitInside all i f
init-split all before None f h = absurd h
init-split all before (Some e) f (inl h) = inr h
init-split all before (Some e) f (inr h) = inl h

init-form : (all before : List Entry) (i : Option ExprTree) (f : Fault) → InitForm before i f → InitFault all before i f
init-form all before None f h = absurd h
init-form all before (Some e) f h = inr h

init-inside : (all before : List Entry) (i : Option ExprTree) (f : Fault) → InitInside all i f → InitFault all before i f
init-inside all before None f h = absurd h
init-inside all before (Some e) f h = inl h

decl-split : (all : List Entry) (k : Section) (m : Made) (d : DeclTree) (f : Fault) → DeclFault all k m d f → DeclForm k m d f ⊎ InitInside all d.init f
decl-split all k m d f (inl h) = elim (init-split all m.entries d.init f h) [ inl a ↦ inl (inl a) | inr b ↦ inr b ]
decl-split all k m d f (inr h) = inl (inr h)

decl-form : (all : List Entry) (k : Section) (m : Made) (d : DeclTree) (f : Fault) → DeclForm k m d f → DeclFault all k m d f
decl-form all k m d f (inl h) = inl (init-form all m.entries d.init f h)
decl-form all k m d f (inr h) = inr h

decls-split : (all : List Entry) (k : Section) (m : Made) (ds : List DeclTree) (f : Fault) → DeclsFault all k m ds f → DeclsForm k m ds f ⊎ DeclsInside all ds f
decls-split all k m [] f h = absurd h
decls-split all k m (d ∷ ds) f (inl h) = elim (decl-split all k m d f h) [ inl a ↦ inl (inl a) | inr b ↦ inr (inl b) ]
decls-split all k m (d ∷ ds) f (inr h) = elim (decls-split all k (after_decl k m d) ds f h) [ inl a ↦ inl (inr a) | inr b ↦ inr (inr b) ]

decls-form : (all : List Entry) (k : Section) (m : Made) (ds : List DeclTree) (f : Fault) → DeclsForm k m ds f → DeclsFault all k m ds f
decls-form all k m [] f h = absurd h
decls-form all k m (d ∷ ds) f (inl h) = inl (decl-form all k m d f h)
decls-form all k m (d ∷ ds) f (inr h) = inr (decls-form all k (after_decl k m d) ds f h)

decls-inside : (all : List Entry) (k : Section) (m : Made) (ds : List DeclTree) (f : Fault) → DeclsInside all ds f → DeclsFault all k m ds f
decls-inside all k m [] f h = absurd h
decls-inside all k m (d ∷ ds) f (inl h) = inl (inl (init-inside all m.entries d.init f h))
decls-inside all k m (d ∷ ds) f (inr h) = inr (decls-inside all k (after_decl k m d) ds f h)

blocks-split : (all : List Entry) (m : Made) (bs : List BlockTree) (f : Fault) → BlocksFault all m bs f → BlocksForm m bs f ⊎ BlocksInside all bs f
blocks-split all m [] f h = absurd h
blocks-split all m (b ∷ bs) f (inl h) = elim (decls-split all b.section m b.decls f h) [ inl a ↦ inl (inl a) | inr b ↦ inr (inl b) ]
blocks-split all m (b ∷ bs) f (inr h) = elim (blocks-split all (after_decls b.section m b.decls) bs f h) [ inl a ↦ inl (inr a) | inr b ↦ inr (inr b) ]

blocks-form : (all : List Entry) (m : Made) (bs : List BlockTree) (f : Fault) → BlocksForm m bs f → BlocksFault all m bs f
blocks-form all m [] f h = absurd h
blocks-form all m (b ∷ bs) f (inl h) = inl (decls-form all b.section m b.decls f h)
blocks-form all m (b ∷ bs) f (inr h) = inr (blocks-form all (after_decls b.section m b.decls) bs f h)

blocks-inside : (all : List Entry) (m : Made) (bs : List BlockTree) (f : Fault) → BlocksInside all bs f → BlocksFault all m bs f
blocks-inside all m [] f h = absurd h
blocks-inside all m (b ∷ bs) f (inl h) = inl (decls-inside all b.section m b.decls f h)
blocks-inside all m (b ∷ bs) f (inr h) = inr (blocks-inside all (after_decls b.section m b.decls) bs f h)

-- both walks together meet all faults of declarations
pub two-walks : (a b c : Option Fault) (all : List Entry) (m n end : Made) (bs : List BlockTree) → Makes a b n end (BlocksForm m bs)
    → Notes b c (BlocksInside all bs) → Makes a c n end (BlocksFault all m bs)
two-walks a b c all m n end bs h k = record {
  notes = notes-as a c (λ f. BlocksForm m bs f ⊎ BlocksInside all bs f) (BlocksFault all m bs) (pair a b c (BlocksForm m bs) (BlocksInside all bs) h.notes k)
      (λ f. blocks-split all m bs f)
      (λ f s. elim s [ inl x ↦ blocks-form all m bs f x | inr y ↦ blocks-inside all m bs f y ]);
  gives = h.gives;
}

-- ---- initial values

pub literal-judges : (s : List Entry) (t : Option Ty) (v : ℤ) (p : Spot) (a : Option Fault) (k : Option Known) → k ≡ constant s (literal t v p)
    → Judges s (literal t v p) a a k
literal-judges s t v p a k is = record { notes = quiet a (FormFault s (literal t v p)) (λ f h. absurd cc); gives = is }

pub name-judges : (s : List Entry) (n : List ℕ) (p : Spot) (a b : Option Fault) (k : Option Known)
    → k ≡ option_and_then (λ e. both known_form (form_of_entry e) (Some e.ty)) (find s n)
    → Notes a b (λ f. (f ≡ fault rule.Bound p) × (k ≡ None)) → Judges s (name n p) a b k
name-judges s n p a b k is h =
    let own : k ≡ constant s (name n p) = is ∙ name-known (find s n) in
    record {
      notes = note-where a b (fault rule.Bound p) (k ≡ None) (form s (name n p) ≡ None) h
          (λ e. own ∙ ap (λ (o : Option Form). both known_form o (type_of s (name n p))) e)
          (λ e. name-form (find s n) (sym own ∙ e));
      gives = own;
    }

pub sign-judges : (s : List Entry) (op : UnOp) (x : ExprTree) (p : Spot) (a b : Option Fault) (l : Option Untyped) (k : Option Known) → l ≡ negated op x
    → Notes a b (λ f. (f ≡ fault rule.Bound p) × (l ≡ None))
    → k ≡ option_and_then (λ x. both known_form (Some (form_of_negated x)) (sized (neg_ℤ x.value))) l → Judges s (unary op x p) a b k
sign-judges s op x p a b l k is h gives = record {
  notes = note-where a b (fault rule.Bound p) (l ≡ None) (form s (unary op x p) ≡ None) h (λ e. is ∙ sign-form (negated op x) e)
      (λ e. ap (option_map form_of_negated) (sym is ∙ e));
  gives = gives ∙ ap (option_and_then (λ x. both known_form (Some (form_of_negated x)) (sized (neg_ℤ x.value)))) is
      ∙ sign-known op (negated op x) (type_of s x);
}

-- what else is no constant form
pub other-judges : (s : List Entry) (e : ExprTree) (p : Spot) (a b : Option Fault) → p ≡ spot_of e → form s e ≡ None → constant s e ≡ None
    → Notes a b (λ f. f ≡ fault rule.Bound p) → Judges s e a b None
other-judges s e p a b at never none h = record {
  notes = note-always a b (fault rule.Bound (spot_of e)) (form s e ≡ None) (subst (λ q. Notes a b (λ f. f ≡ fault rule.Bound q)) at h) never;
  gives = sym none;
}

-- ---- names

pub no-names : (k : Section) (t : Ty) (v : ℤ) (x : Option Known) (m : Made) (a : Option Fault) → Makes a a m m (NamesFault m k t v x [])
no-names k t v x m a = record { notes = quiet a (NamesFault m k t v x []) (λ f h. h); gives = refl }

pub one-name : (k : Section) (t : Ty) (v : ℤ) (x : Option Known) (d : DeclaredTree) (ds : List DeclaredTree) (m n end : Made) (a b c e : Option Fault)
    → Notes a b (λ f. (f ≡ fault rule.Duplicate d.spot) × (is_new m d.name ≡ false)) → n ≡ after_name m k t v d
    → Notes b c (λ f. (f ≡ fault rule.Mismatch d.spot) × Misfit x t)
    → Makes c e end (after_names n k t v ds) (NamesFault n k t v x ds)
    → Makes a e end (after_names m k t v (d ∷ ds)) (NamesFault m k t v x (d ∷ ds))
one-name k t v x d ds m n end a b c e n1 is n2 rest =
    let r = subst (λ y. Makes c e end (after_names y k t v ds) (NamesFault y k t v x ds)) is rest in
    record {
      notes = pair a b e (λ f. (f ≡ fault rule.Duplicate d.spot) × (is_new m d.name ≡ false))
          (λ f. ((f ≡ fault rule.Mismatch d.spot) × Misfit x t) ⊎ NamesFault (after_name m k t v d) k t v x ds f) n1
          (pair b c e (λ f. (f ≡ fault rule.Mismatch d.spot) × Misfit x t) (NamesFault (after_name m k t v d) k t v x ds) n2 r.notes);
      gives = r.gives;
    }

-- ---- declarations and blocks

pub one-init : (k : Section) (d : DeclTree) (m n : Made) (a b c : Option Fault) (x : Option Known)
    → JudgesInit m d.init a b x → MakesNames k d.ty x d.names m n b c → Makes a c n (after_decl k m d) (DeclForm k m d)
one-init k d m n a b c x init names =
    let r = subst (λ y. MakesNames k d.ty y d.names m n b c) init.gives names in
    record {
      notes = pair a b c (InitForm m.entries d.init) (NamesFault m k d.ty (init_value m d.init) (known_init m d.init) d.names) init.notes r.notes;
      gives = r.gives;
    }

pub no-decls : (k : Section) (m : Made) (a : Option Fault) → Makes a a m m (DeclsForm k m [])
no-decls k m a = record { notes = quiet a (DeclsForm k m []) (λ f h. h); gives = refl }

pub one-decl : (k : Section) (d : DeclTree) (ds : List DeclTree) (m n end : Made) (a b c : Option Fault)
    → Makes a b n (after_decl k m d) (DeclForm k m d)
    → Makes b c end (after_decls k n ds) (DeclsForm k n ds)
    → Makes a c end (after_decls k m (d ∷ ds)) (DeclsForm k m (d ∷ ds))
one-decl k d ds m n end a b c first rest =
    let r = subst (λ y. Makes b c end (after_decls k y ds) (DeclsForm k y ds)) first.gives rest in
    record { notes = pair a b c (DeclForm k m d) (DeclsForm k (after_decl k m d) ds) first.notes r.notes; gives = r.gives }

pub no-blocks : (m : Made) (a : Option Fault) → Makes a a m m (BlocksForm m [])
no-blocks m a = record { notes = quiet a (BlocksForm m []) (λ f h. h); gives = refl }

pub one-block : (g : BlockTree) (bs : List BlockTree) (m n end : Made) (a b c : Option Fault)
    → Makes a b n (after_decls g.section m g.decls) (DeclsForm g.section m g.decls)
    → Makes b c end (after_blocks n bs) (BlocksForm n bs)
    → Makes a c end (after_blocks m (g ∷ bs)) (BlocksForm m (g ∷ bs))
one-block g bs m n end a b c first rest =
    let r = subst (λ y. Makes b c end (after_blocks y bs) (BlocksForm y bs)) first.gives rest in
    record { notes = pair a b c (DeclsForm g.section m g.decls) (BlocksForm (after_decls g.section m g.decls) bs) first.notes r.notes; gives = r.gives }
