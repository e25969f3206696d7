-- Faultless: a program without a fault has a checked program, which keeps the rules of checked programs.
use Rattle.std.proofs.Common.{◌≡◌, inl, inr, ℕ, ◌≤◌, List, [], length, slice_get, Option, Some, None, option_map, refl, sym, ap, ◌∙◌, subst, arith}
use Rattle.std.proofs.lemmas.Option.{slice_get_within}
use Rattle.st_tree.specs.ProgramTree.{DeclaredTree, ProgramTree}
use Rattle.vcp_typed.specs.declared.slot.Slot.{Slot}
use Rattle.vcp_typed.specs.TStmtTree.{TStmtTrees}
use Rattle.vcp_typed.specs.SourceRun.{Program}
use Rattle.vcp_typed.specs.Size.{size}
use Rattle.vcp_typed.specs.Checked.{SlotsFit, AreStmts, IsChecked}
use Rattle.st_types.specs.declared.fault.Rule.TheVariants as rule
use Rattle.st_types.specs.declared.fault.TypeFault.{TypeFault}
use Rattle.st_types.specs.declared.fault.TypeFault.TheVariants as told
use Rattle.st_types.specs.Faults.{fault}
use Rattle.st_types.specs.StmtTyping.{stmts_of}
use Rattle.st_types.specs.DeclTyping.{nothing_made}
use Rattle.st_tree.specs.Declarable.{names_of, HasNames}
use Rattle.vcp_base.specs.Limits.{most_names}
use Rattle.st_types.specs.Typing.{made, typed_of, IsFaultless, IsTyped, IsTooLarge, Refuses}
use Rattle.st_types.proofs.ExprLaws.{same-value}
use Rattle.st_types.proofs.StmtLaws.{no-stmts}
use Rattle.st_types.proofs.MadeChecked.{stmts-checked}
use Rattle.st_types.proofs.DeclLaws.{IsSound, nothing-sound, blocks-sound, blocks-length}

is-there : {A : Type 0} (o : Option A) → (o ≡ None → ⊥) → (x : A) × (o ≡ Some x)
is-there None h = absurd (h refl)
is-there (Some x) h = (x, refl)

-- what the declarations of a program without a fault make is sound
pub made-sound : (p : ProgramTree) → HasNames p → IsFaultless p → IsSound (made p)
made-sound p w never = blocks-sound (made p).entries nothing_made p.blocks nothing-sound w (λ f e. never f (inl e))

-- a body without a fault has a checked one
pub body-made : (p : ProgramTree) → IsFaultless p → (body : TStmtTrees) × (stmts_of (made p).entries [] p.body ≡ Some body)
body-made p never = is-there (stmts_of (made p).entries [] p.body) (λ e. let g = no-stmts (made p).entries [] p.body e in never g.0 (inr g.1))

-- a program without a fault has a checked program
pub faultless-typed : (p : ProgramTree) → IsFaultless p → (t : Program) × (typed_of p ≡ Some t)
faultless-typed p never =
    let b = body-made p never in
    (record { slots = (made p).slots; body = b.0 }, ap (option_map (λ body. record { slots = (made p).slots; body = body })) b.1)

-- all rules of checked programs but the two limits
pub record Keeps (p : ProgramTree) (t : Program) : Type 0 where
  pub is : typed_of p ≡ Some t
  pub slots : SlotsFit [] t.slots
  pub body : AreStmts t.slots [] t.body
  pub few : length t.slots ≤ length (names_of p)

few-slots : (p : ProgramTree) → length (made p).slots ≤ length (names_of p)
few-slots p =
    let h = blocks-length nothing_made p.blocks in
    let none : List Slot = [] in
    let e : length none ≡ 0 = refl in
    omega arith

-- a program without a fault has a checked program that keeps all rules but the limits
pub faultless-keeps : (p : ProgramTree) → HasNames p → IsFaultless p → (t : Program) × Keeps p t
faultless-keeps p w never =
    let b = body-made p never in
    let sound = made-sound p w never in (
      record { slots = (made p).slots; body = b.0 },
      record {
        is = ap (option_map (λ body. record { slots = (made p).slots; body = body })) b.1;
        slots = sound.slots;
        body = stmts-checked (made p).slots (made p).entries [] p.body b.0 sound.scope b.1;
        few = few-slots p;
      },
    )

-- a program has one checked program at most
pub one-typed : (p : ProgramTree) (t u : Program) → typed_of p ≡ Some t → typed_of p ≡ Some u → t ≡ u
one-typed p t u e f = same-value t u (sym e ∙ f)

pub typed-keeps : (p : ProgramTree) (t : Program) → HasNames p → IsFaultless p → typed_of p ≡ Some t → Keeps p t
typed-keeps p t w never is =
    let k = faultless-keeps p w never in
    subst (Keeps p) (one-typed p k.0 t k.1.is is) k.1

-- the checked program of a tree keeps all rules
pub typed-checked : (p : ProgramTree) (t : Program) → HasNames p → IsTyped p t → IsChecked t
typed-checked p t w h =
    let k = typed-keeps p t w h.faultless h.is in
    record { slots = k.slots; body = k.body; few = few-enough (length t.slots) (length (names_of p)) k.few h.few; room = h.room }
  where
    few-enough : (n m : ℕ) → n ≤ m → m ≤ most_names → n ≤ most_names
    few-enough n m h k = omega arith

-- ---- a program that has a checked program within the limits isn't refused

-- a tree has one checked program at most
pub is-typed-one : (p : ProgramTree) (t u : Program) → IsTyped p t → IsTyped p u → t ≡ u
is-typed-one p t u h k = one-typed p t u h.is k.is

pub past-none : (p : ProgramTree) (d : DeclaredTree) → length (names_of p) ≤ most_names → slice_get (names_of p) most_names ≡ Some d → ⊥
past-none p d h e = let k = slice_get_within (names_of p) most_names d e in omega arith

large-none : (p : ProgramTree) (t : Program) → IsTyped p t → IsTooLarge p → ⊥
large-none p t h k =
    let e : size t ≡ size k.typed = ap size (one-typed p t k.typed h.is k.is) in
    let room = h.room in
    let large = k.large in
    omega arith

-- such a tree is refused for want of memory alone
pub typed-refused : (p : ProgramTree) (t : Program) (e : TypeFault) → IsTyped p t → Refuses p e → e ≡ told.Memory
typed-refused p t (told.Duplicate spot) h k = absurd (h.faultless (fault rule.Duplicate spot) k.0)
typed-refused p t (told.Unknown spot) h k = absurd (h.faultless (fault rule.Unknown spot) k.0)
typed-refused p t (told.Mismatch spot) h k = absurd (h.faultless (fault rule.Mismatch spot) k.0)
typed-refused p t (told.Assign spot) h k = absurd (h.faultless (fault rule.Assign spot) k.0)
typed-refused p t (told.Bound spot) h k = absurd (h.faultless (fault rule.Bound spot) k.0)
typed-refused p t (told.Label spot) h k = absurd (h.faultless (fault rule.Label spot) k.0)
typed-refused p t (told.Call spot) h k = absurd (h.faultless (fault rule.Call spot) k.0)
typed-refused p t (told.Literal spot) h k = absurd (h.faultless (fault rule.Literal spot) k.0)
typed-refused p t (told.Names spot) h k = absurd (past-none p k.1.0 h.few k.1.1)
typed-refused p t told.Size h k = absurd (large-none p t h k)
typed-refused p t told.Memory h k = refl
