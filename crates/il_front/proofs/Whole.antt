-- Whole: the typed program of a text of instructions keeps the rules of checked programs.
use Rattle.std.proofs.Common.{◌≡◌, ℕ, Bool, true, false, List, [], ◌∷◌, sym, ap, subst, ◌∙◌}
use Rattle.std.specs.List.{list_all}
use Rattle.vcp_base.specs.declared.ty.Ty.{Ty}
use Rattle.vcp_base.specs.declared.ty.Ty.TheVariants as ty
use Rattle.st_tree.specs.ProgramTree.{DeclaredTree, ProgramTree}
use Rattle.st_tree.specs.Declarable.{HasNames, names_of}
use Rattle.st_types.specs.Typing.{IsTyped}
use Rattle.vcp_typed.specs.declared.slot.Slot.{Slot}
use Rattle.vcp_typed.specs.SourceRun.{Program}
use Rattle.vcp_typed.specs.Checked.{SlotsFit, IsChecked}
use Rattle.il_front.specs.Accumulator.{Instruction, Il}
use Rattle.il_front.specs.TypedForm.{used_by, typed_il}
use Rattle.il_front.specs.Answers.{IsIl}
use Rattle.il_front.proofs.Beside.{LoadsFirst}
use Rattle.il_front.proofs.Sound.{listed-sound}
use Rattle.il_front.proofs.Checking.{PartLaws, FindsUsed, statements-made}
use Rattle.il_front.proofs.Fitting.{LiteralLaw, listed-fitting}
use Rattle.il_front.proofs.Named.{is_free, hidden-follow, none-reserved}

-- what the crates below say: the clauses of their laws
pub record TypingLaws : Type 0 where
  pub parts : PartLaws
  pub literal : LiteralLaw
  pub keeps : (p : ProgramTree) (t : Program) → HasNames p → IsTyped p t → IsChecked t
  pub named : (p : ProgramTree) (t : Program) (test : List ℕ → Bool) → IsTyped p t → list_all (λ (d : DeclaredTree). test d.name) (names_of p) ≡ true
      → list_all (λ (s : Slot). test s.name) t.slots ≡ true

finds_used : (used : Ty → Bool) (is : List Instruction) → LoadsFirst is → FindsUsed used ty.Bool is
finds_used used [] h = tt
finds_used used (i ∷ is) h = λ e. absurd (let no : false ≡ true = sym e ∙ h in cc)

-- the typed program keeps the rules, where the head's names are declarable
pub typed-checked : TypingLaws → (text : List ℕ) (i : Il) (h : IsIl text i) → HasNames h.tree → IsChecked (typed_il i)
typed-checked laws text i h n =
    let slots_fit : SlotsFit [] i.slots = subst (SlotsFit []) (sym h.slots) (laws.keeps h.tree h.head n h.begun.typed).slots in
    let free : list_all (λ (s : Slot). is_free s.name) i.slots ≡ true =
    ap (λ (ss : List Slot). list_all (λ (s : Slot). is_free s.name) ss) h.slots
    ∙ laws.named h.tree h.head is_free h.begun.typed (none-reserved (names_of h.tree) h.free) in
    record {
      slots = hidden-follow i.slots (used_by i.code) slots_fit free;
      body = statements-made laws.parts i.slots (used_by i.code) ty.Bool i.code (listed-fitting laws.literal text h.tokens i h.code) (λ u e. e)
          (finds_used (used_by i.code) i.code (listed-sound text h.tokens i h.code).first);
      few = h.few;
      room = h.room;
    }
