-- Built: the typed program that is built of the instructions, and its refusals.
use Rattle.std.proofs.Common.{◌≡◌, ℕ, ◌<◌, ◌≤◌, Bool, List, ◌++◌, length, drop, None, Result, Ok, Err, ◌⊎◌, inl, inr}
use Rattle.std.proofs.Common.{sym, ap, subst, ◌∙◌, arith}
use Rattle.std.specs.Prelude.{IfErr, IfOk}
use Rattle.vcp_base.specs.Limits.{most_names, most_size}
use Rattle.vcp_base.specs.declared.spot.Spot.{Spot}
use Rattle.vcp_base.specs.declared.ty.Ty.{Ty}
use Rattle.vcp_base.specs.declared.ty.Ty.TheVariants as ty
use Rattle.st_lexer.specs.declared.token.Token.{Token}
use Rattle.st_lexer.specs.Spots.{spot_at}
use Rattle.vcp_typed.specs.declared.slot.Slot.{Slot}
use Rattle.vcp_typed.specs.SourceRun.{Program}
use Rattle.vcp_typed.specs.Size.{size, cut}
use Rattle.vcp_typed.specs.TStmtTree.{TStmtTrees}
use Rattle.il_front.specs.declared.fault.IlFault.{IlFault}
use Rattle.il_front.specs.declared.fault.IlFault.TheVariants as fault
use Rattle.il_front.specs.declared.places.Places.{Places}
use Rattle.il_front.specs.Accumulator.{Instruction, Il}
use Rattle.il_front.specs.Lines.{head_count, lines_of}
use Rattle.il_front.specs.Judging.{listed}
use Rattle.il_front.specs.TypedForm.{hidden_slots, all_types, used_by, statements, typed_il}
use Rattle.il_front.specs.Places.{used_in, place_behind, place_in}
use Rattle.il_front.specs.Answers.{listed_in, IsFew, IsIl, NotIl, misread, crowded, too_large, no_memory}
use Rattle.il_front.specs.Heads.{IsHeadOf}
use Rattle.il_front.specs.Outcomes.{IsBeyond}

abbrev program_of : List Slot → TStmtTrees → Program
program_of s b = record { slots = s; body = b }

-- the parts are those of the typed program
pub parts_are : (i : Il) (p : Places) (s : List Slot) (b : TStmtTrees) → p.declared ≡ length i.slots → used_in p ≡ used_by i.code
    → s ≡ i.slots ++ hidden_slots (used_in p) all_types → b ≡ statements (place_in p) ty.Bool i.code → record { slots = s; body = b } ≡ typed_il i
parts_are i p s b declared used slots body =
    ap (λ (x : List Slot). program_of x b) (slots ∙ ap (λ (u : Ty → Bool). i.slots ++ hidden_slots u all_types) used)
    ∙ ap (program_of (typed_il i).slots)
    (body ∙ ap (λ (n : ℕ). statements (place_behind n (used_in p)) ty.Bool i.code) declared
    ∙ ap (λ (u : Ty → Bool). statements (place_behind (length i.slots) u) ty.Bool i.code) used)

pub slots_are : (i : Il) (p : Places) (s : List Slot) → used_in p ≡ used_by i.code → s ≡ i.slots ++ hidden_slots (used_in p) all_types → s ≡ (typed_il i).slots
slots_are i p s used slots = slots ∙ ap (λ (u : Ty → Bool). i.slots ++ hidden_slots u all_types) used

pub few_slots : (i : Il) (s : List Slot) → s ≡ (typed_il i).slots → length s ≤ most_names → IsFew i
few_slots i s e h = subst (λ (x : List Slot). length x ≤ most_names) e h

pub many_slots : (i : Il) (s : List Slot) → s ≡ (typed_il i).slots → most_names < length s → most_names < length (typed_il i).slots
many_slots i s e h = subst (λ (x : List Slot). most_names < length x) e h

pub small_size : (i : Il) (p : Program) (n : ℕ) → p ≡ typed_il i → n ≡ cut (size p) → n ≤ most_size → size (typed_il i) ≤ most_size
small_size i p n e is h = subst (λ (x : Program). size x ≤ most_size) e (omega (arith, is, h))

pub large_size : (i : Il) (p : Program) (n : ℕ) → p ≡ typed_il i → n ≡ cut (size p) → most_size < n → most_size < size (typed_il i)
large_size i p n e is h = subst (λ (x : Program). most_size < size x) e (omega (arith, is, h))

-- the code's list of instructions is the definition's
pub as_listed : (text : List ℕ) (ts : List Token) (slots : List Slot) (end : Spot) (n : ℕ) (r : Result (List Instruction) IlFault)
    → end ≡ spot_at text (length text) → n ≡ head_count ts → listed text slots end None (lines_of (drop n ts)) ≡ r → listed_in text ts slots ≡ r
as_listed text ts slots end n r at is e =
    sym (ap (λ (x : Spot). listed text slots x None (lines_of (drop n ts))) at
    ∙ ap (λ (k : ℕ). listed text slots (spot_at text (length text)) None (lines_of (drop k ts))) is)
    ∙ e

-- and so where the variables and the instructions are handed on
pub listed_code : (text : List ℕ) (ts : List Token) (head : Program) (slots other : List Slot) (end : Spot) (n : ℕ) (items code : List Instruction)
    → end ≡ spot_at text (length text) → n ≡ head_count ts → slots ≡ head.slots → other ≡ head.slots → code ≡ items
    → listed text slots end None (lines_of (drop n ts)) ≡ Ok items → listed_in text ts other ≡ Ok code
listed_code text ts head slots other end n items code at is same same' codes e =
    ap (listed_in text ts) (same' ∙ sym same)
    ∙ as_listed text ts slots end n (Ok items) at is e
    ∙ ap (λ (x : List Instruction). let r : Result (List Instruction) IlFault = Ok x in r) (sym codes)

module _ (text : List ℕ) (ts : List Token) (head : Program) (h : IsHeadOf text ts head) where
  pub lines_refuse : (slots : List Slot) (f : IlFault) → slots ≡ head.slots → (f ≡ fault.Memory) ⊎ (listed_in text ts slots ≡ Err f) → NotIl text f
  lines_refuse slots f same (inl e) = subst (NotIl text) (sym e) no_memory
  lines_refuse slots f same (inr e) = misread ts h.tree head f h.begun h.free (ap (listed_in text ts) (sym same) ∙ e)

  pub listed_refuses : (slots : List Slot) (end : Spot) (n : ℕ) (f : IlFault) → end ≡ spot_at text (length text) → n ≡ head_count ts → slots ≡ head.slots
      → (f ≡ fault.Memory) ⊎ (listed text slots end None (lines_of (drop n ts)) ≡ Err f) → NotIl text f
  listed_refuses slots end n f at is same (inl e) = lines_refuse slots f same (inl e)
  listed_refuses slots end n f at is same (inr e) = lines_refuse slots f same (inr (as_listed text ts slots end n (Err f) at is e))

  pub limits_refuse : (i : Il) (f : IlFault) → i.slots ≡ head.slots → listed_in text ts i.slots ≡ Ok i.code → IsBeyond i f → NotIl text f
  limits_refuse i f slots code (inl e) = subst (NotIl text) (sym e) no_memory
  limits_refuse i f slots code (inr (inl (e, many))) = subst (NotIl text) (sym e) (crowded ts h.tree head i h.begun h.free slots code many)
  limits_refuse i f slots code (inr (inr (e, few, large))) = subst (NotIl text) (sym e) (too_large ts h.tree head i h.begun h.free slots code few large)

-- so the text is the instruction list
abbrev pub is_il : (text : List ℕ) (ts : List Token) (head : Program) (h : IsHeadOf text ts head) (i : Il) → i.slots ≡ head.slots
    → listed_in text ts i.slots ≡ Ok i.code → IsFew i → size (typed_il i) ≤ most_size → IsIl text i
is_il text ts head h i slots code few room = record {
  tokens = ts;
  tree = h.tree;
  head = head;
  begun = h.begun;
  free = h.free;
  slots = slots;
  code = code;
  few = few;
  room = room;
}

pub ok_weaker : {A E : Type 0} (r : Result A E) (P Q : A → Type 0) → ((a : A) → P a → Q a) → IfOk r P → IfOk r Q
ok_weaker (Ok a) P Q f h = f a h
ok_weaker (Err e) P Q f h = tt

pub err_weaker : {A E : Type 0} (r : Result A E) (P Q : E → Type 0) → ((e : E) → P e → Q e) → IfErr r P → IfErr r Q
err_weaker (Ok a) P Q f h = tt
err_weaker (Err e) P Q f h = f e h
