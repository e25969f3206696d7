-- Listing: lines are judged one after the other.
use Rattle.std.proofs.Common.{◌≡◌, ℕ, zero, suc, ◌<◌, ◌≤◌, Bool, true, false, cond, List, [], ◌∷◌, ◌++◌, length, take, drop, slice_get, ◌⊎◌, inl, inr}
use Rattle.std.proofs.Common.{Option, Some, Result, Ok, Err}
use Rattle.std.proofs.Common.{refl, sym, ap, ◌∙◌, arith, append_assoc, append-nil}
use Rattle.vcp_base.specs.declared.spot.Spot.{Spot}
use Rattle.vcp_base.specs.declared.ty.Ty.{Ty}
use Rattle.st_lexer.specs.declared.token.Token.{Token}
use Rattle.vcp_typed.specs.declared.slot.Slot.{Slot}
use Rattle.il_front.specs.declared.fault.IlFault.{IlFault}
use Rattle.il_front.specs.declared.fault.IlFault.TheVariants as fault
use Rattle.il_front.specs.Accumulator.{Instruction}
use Rattle.il_front.specs.Lines.{lines_of}
use Rattle.il_front.specs.Judging.{Judged, taken, faulted, judged, is_last_word, first_spot, alone, and_more, onto, listed}
use Rattle.il_front.proofs.LineLaws.{some-line, drop-at}

-- with these instructions at the front
abbrev pub with_front : List Instruction → Result (List Instruction) IlFault → Result (List Instruction) IlFault
with_front done (Ok is) = Ok (done ++ is)
with_front done (Err f) = Err f

front-more : (done : List Instruction) (i : Instruction) (r : Result (List Instruction) IlFault)
    → with_front done (and_more i r) ≡ with_front (done ++ i ∷ []) r
front-more done i (Ok is) = let e : done ++ i ∷ is ≡ done ++ i ∷ [] ++ is = sym (append_assoc done (i ∷ []) is) in
    ap (λ (x : List Instruction). let r : Result (List Instruction) IlFault = Ok x in r) e
front-more done i (Err f) = refl

module _ (text : List ℕ) (slots : List Slot) (end : Spot) where
  abbrev ListedFrom : Option Ty → List (List Token) → Result (List Instruction) IlFault
  ListedFrom before ls = listed text slots end before ls

  -- a line that is taken
  pub line-taken : (before : Option Ty) (l : List Token) (ls : List (List Token)) (done : List Instruction) (i : Instruction) (t : Ty)
      → is_last_word l ≡ false → judged text slots before (first_spot end l) l ≡ taken i t
      → with_front done (listed text slots end before (l ∷ ls)) ≡ with_front (done ++ i ∷ []) (listed text slots end (Some t) ls)
  line-taken before l ls done i t last j =
      ap (with_front done)
      (ap (λ (b : Bool). cond b (alone (first_spot end l) ls)
      (onto (judged text slots before (first_spot end l) l) (λ u. listed text slots end (Some u) ls))) last
      ∙ ap (λ (x : Judged). onto x (λ u. listed text slots end (Some u) ls)) j)
      ∙ front-more done i (listed text slots end (Some t) ls)

  -- a line that is refused
  pub line-refused : (before : Option Ty) (l : List Token) (ls : List (List Token)) (done : List Instruction) (f : IlFault)
      → is_last_word l ≡ false → judged text slots before (first_spot end l) l ≡ faulted f
      → with_front done (listed text slots end before (l ∷ ls)) ≡ Err f
  line-refused before l ls done f last j =
      ap (with_front done)
      (ap (λ (b : Bool). cond b (alone (first_spot end l) ls)
      (onto (judged text slots before (first_spot end l) l) (λ u. listed text slots end (Some u) ls))) last
      ∙ ap (λ (x : Judged). onto x (λ u. listed text slots end (Some u) ls)) j)

  -- the last line, where none is behind it
  pub line-last : (before : Option Ty) (l : List Token) (done : List Instruction) → is_last_word l ≡ true
      → with_front done (listed text slots end before (l ∷ [])) ≡ Ok done
  line-last before l done last =
      ap (with_front done)
      (ap (λ (b : Bool). cond b (alone (first_spot end l) [])
      (onto (judged text slots before (first_spot end l) l) (λ u. listed text slots end (Some u) []))) last)
      ∙ ap (λ (x : List Instruction). let r : Result (List Instruction) IlFault = Ok x in r) (append-nil done)

  alone-none : (spot : Spot) (ls : List (List Token)) → (l : List Token) × (rest : List (List Token)) × (ls ≡ l ∷ rest)
      → alone spot ls ≡ Err (fault.Instruction spot)
  alone-none spot ls (l, rest, e) = ap (alone spot) e

  -- END_PROGRAM with tokens behind its line
  pub line-not-last : (before : Option Ty) (l : List Token) (us : List Token) (done : List Instruction) → is_last_word l ≡ true → 0 < length us
      → with_front done (listed text slots end before (l ∷ lines_of us)) ≡ Err (fault.Instruction (first_spot end l))
  line-not-last before l us done last some =
      ap (with_front done)
      (ap (λ (b : Bool). cond b (alone (first_spot end l) (lines_of us))
      (onto (judged text slots before (first_spot end l) l) (λ u. listed text slots end (Some u) (lines_of us)))) last
      ∙ alone-none (first_spot end l) (lines_of us) (some-line us some))

  -- ---- the steps of the code, from a list ll of lines; r is what all lines come to

  pub step_taken : (before : Option Ty) (ll ls : List (List Token)) (l : List Token) (done more : List Instruction) (spot : Spot) (i : Instruction) (t : Ty)
      (r : Result (List Instruction) IlFault) → ll ≡ l ∷ ls → first_spot end l ≡ spot → is_last_word l ≡ false
      → judged text slots before spot l ≡ taken i t → more ≡ done ++ i ∷ [] → with_front done (listed text slots end before ll) ≡ r
      → with_front more (listed text slots end (Some t) ls) ≡ r
  step_taken before ll ls l done more spot i t r e first last j m h =
      ap (λ (d : List Instruction). with_front d (listed text slots end (Some t) ls)) m
      ∙ sym (line-taken before l ls done i t last (ap (λ (s : Spot). judged text slots before s l) first ∙ j))
      ∙ ap (λ (x : List (List Token)). with_front done (listed text slots end before x)) (sym e) ∙ h

  pub step_refused : (before : Option Ty) (ll ls : List (List Token)) (l : List Token) (done : List Instruction) (spot : Spot) (f : IlFault)
      (r : Result (List Instruction) IlFault) → ll ≡ l ∷ ls → first_spot end l ≡ spot → is_last_word l ≡ false
      → (f ≡ fault.Memory) ⊎ (judged text slots before spot l ≡ faulted f) → with_front done (listed text slots end before ll) ≡ r
      → (f ≡ fault.Memory) ⊎ (r ≡ Err f)
  step_refused before ll ls l done spot f r e first last (inl memory) h = inl memory
  step_refused before ll ls l done spot f r e first last (inr j) h =
      inr (sym h ∙ ap (λ (x : List (List Token)). with_front done (listed text slots end before x)) e
      ∙ line-refused before l ls done f last (ap (λ (s : Spot). judged text slots before s l) first ∙ j))

  pub step_last : (before : Option Ty) (ll : List (List Token)) (l us : List Token) (done : List Instruction)
      (r : Result (List Instruction) IlFault) → ll ≡ l ∷ lines_of us → us ≡ [] → is_last_word l ≡ true
      → with_front done (listed text slots end before ll) ≡ r → r ≡ Ok done
  step_last before ll l us done r e none last h =
      sym h
      ∙ ap (λ (x : List (List Token)). with_front done (listed text slots end before x)) (e ∙ ap (λ (x : List Token). l ∷ lines_of x) none)
      ∙ line-last before l done last

  pub step_not_last : (before : Option Ty) (ll : List (List Token)) (l us : List Token) (done : List Instruction) (spot : Spot)
      (r : Result (List Instruction) IlFault) → ll ≡ l ∷ lines_of us → 0 < length us → is_last_word l ≡ true → first_spot end l ≡ spot
      → with_front done (listed text slots end before ll) ≡ r → r ≡ Err (fault.Instruction spot)
  step_not_last before ll l us done spot r e some last first h =
      sym h
      ∙ ap (λ (x : List (List Token)). with_front done (listed text slots end before x)) e
      ∙ line-not-last before l us done last some
      ∙ ap (λ (s : Spot). let x : Result (List Instruction) IlFault = Err (fault.Instruction s) in x) first

  pub step_none : (before : Option Ty) (us : List Token) (done : List Instruction) (r : Result (List Instruction) IlFault) → us ≡ []
      → with_front done (listed text slots end before (lines_of us)) ≡ r → r ≡ Err (fault.Instruction end)
  step_none before us done r none h = sym h ∙ ap (λ (x : List Token). with_front done (listed text slots end before (lines_of x))) none

-- the spot of the first token from a place on
pub first-spot : (ts : List Token) (i n : ℕ) (t : Token) (end : Spot) → slice_get ts i ≡ Some t → 0 < n → first_spot end (take n (drop i ts)) ≡ t.spot
first-spot ts i zero t end e h = absurd (let no : 1 ≤ 0 = h in omega arith)
first-spot ts i (suc n) t end e h = ap (λ (xs : List Token). first_spot end (take (suc n) xs)) (drop-at ts i t e)
