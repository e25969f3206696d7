-- OneAnswer: a text is one instruction list at most, or is refused in one way.
use Rattle.std.proofs.Common.{◌≡◌, ◌≢◌, ℕ, ◌<◌, ◌≤◌, Bool, true, false, List, length, Option, Some, None, Result, Ok, Err, refl, sym, ap, subst, ◌∙◌, arith}
use Rattle.std.proofs.Math.Dec.{ltb}
use Rattle.std.proofs.lemmas.Bool.{le-ltb, lt-ltb}
use Rattle.vcp_base.specs.Limits.{most_depth, most_names, most_size}
use Rattle.vcp_base.specs.declared.spot.Spot.{Spot}
use Rattle.st_lexer.specs.declared.fault.LexFault.{LexFault}
use Rattle.st_lexer.specs.declared.fault.LexFault.TheVariants as lexer
use Rattle.st_lexer.specs.declared.fault.Reason.{Reason}
use Rattle.st_lexer.specs.declared.fault.Reason.TheVariants as reason
use Rattle.st_lexer.specs.declared.token.Token.{Token}
use Rattle.st_lexer.specs.Reading.{Reads, LexAt, StopsAt, Faults}
use Rattle.st_lexer.specs.Spots.{spot_at}
use Rattle.st_parser.specs.declared.fault.SyntaxFault.{SyntaxFault}
use Rattle.st_parser.specs.declared.fault.SyntaxFault.TheVariants as syntax
use Rattle.st_parser.specs.Answers.{Refuses}
use Rattle.st_tree.specs.Spelling.{Spells, SpellsWithin}
use Rattle.st_tree.specs.ProgramTree.{ProgramTree}
use Rattle.st_tree.specs.Declarable.{names_of}
use Rattle.st_types.specs.declared.fault.TypeFault.{TypeFault}
use Rattle.st_types.specs.declared.fault.TypeFault.TheVariants as typing
use Rattle.st_types.specs.Typing.{IsTyped, Refuses as RefusesTree}
use Rattle.vcp_typed.specs.declared.slot.Slot.{Slot}
use Rattle.vcp_typed.specs.SourceRun.{Program}
use Rattle.vcp_typed.specs.Size.{size}
use Rattle.il_front.specs.declared.fault.IlFault.{IlFault}
use Rattle.il_front.specs.declared.fault.IlFault.TheVariants as fault
use Rattle.il_front.specs.Accumulator.{Instruction, Il}
use Rattle.il_front.specs.Lines.{ended, head_tokens, head_end}
use Rattle.il_front.specs.TypedForm.{first_reserved, typed_il}
use Rattle.il_front.specs.Answers.{IsHead, IsBegun, listed_in, IsFew, IsIl, NotIl, unlexed, unparsed, mistyped, reserved, misread, crowded, too_large}
use Rattle.il_front.specs.Answers.{no_memory, first_place}

-- the laws of reading, of parsing and of typing
pub record Laws : Type 0 where
  pub tokens : (text : List ℕ) (a b : List Token) → Reads text a → Reads text b → a ≡ b
  pub either : (text : List ℕ) (a : List Token) (p : ℕ) (r : Reason) → Reads text a → LexAt text p r → ⊥
  pub place : (text : List ℕ) (p q : ℕ) (r s : Reason) → LexAt text p r → LexAt text q s → p ≡ q
  pub reason : (text : List ℕ) (p q : ℕ) (r s : Reason) → LexAt text p r → LexAt text q s → r ≡ s
  pub program : (p q : ProgramTree) (text : List ℕ) (ts : List Token) → Spells p text ts → Spells q text ts → p ≡ q
  pub spelled : (p : ProgramTree) (text : List ℕ) (ts : List Token) (end : Spot) (f : SyntaxFault) → SpellsWithin most_depth p text ts → Refuses text ts end f
      → f ≡ syntax.Memory
  pub parsed : (text : List ℕ) (ts : List Token) (end : Spot) (f g : SyntaxFault) → f ≢ syntax.Memory → g ≢ syntax.Memory → Refuses text ts end f
      → Refuses text ts end g → f ≡ g
  pub typed : (p : ProgramTree) (t u : Program) → IsTyped p t → IsTyped p u → t ≡ u
  pub apart : (p : ProgramTree) (t : Program) (e : TypeFault) → IsTyped p t → RefusesTree p e → e ≡ typing.Memory
  pub refused : (p : ProgramTree) (e g : TypeFault) → (e ≡ typing.Memory → ⊥) → (g ≡ typing.Memory → ⊥) → RefusesTree p e → RefusesTree p g → e ≡ g

-- instructions as the answer to lines, and no spot
abbrev ok_of : List Instruction → Result (List Instruction) IlFault
ok_of code = Ok code

abbrev no_spot : Option Spot
no_spot = None

-- a fault of the lexer, from its reason and its place
abbrev fault_of : Reason → Spot → LexFault
fault_of reason.Byte spot = lexer.Byte spot
fault_of reason.Comment spot = lexer.Comment spot
fault_of reason.Number spot = lexer.Number spot

stops : (text : List ℕ) (f : LexFault) → f ≢ lexer.Memory → Faults text f → (why : Reason) × (spot : Spot) × StopsAt text spot why × (f ≡ fault_of why spot)
stops text (lexer.Byte spot) known h = (reason.Byte, spot, h, refl)
stops text (lexer.Comment spot) known h = (reason.Comment, spot, h, refl)
stops text (lexer.Number spot) known h = (reason.Number, spot, h, refl)
stops text lexer.Memory known h = absurd (known refl)

as_spelled : (text : List ℕ) (ts : List Token) (p : ProgramTree) → SpellsWithin most_depth p text ts → Spells p text ts
as_spelled text ts p (ps, spells, tokens, within) = (ps, spells, tokens)

module _ (laws : Laws) where
  lexed_once : (text : List ℕ) (f g : LexFault) → f ≢ lexer.Memory → g ≢ lexer.Memory → Faults text f → Faults text g → f ≡ g
  lexed_once text f g known known' h k =
      let (why, spot, (p, at, is), f_is) = stops text f known h in
      let (why', spot', (q, at', is'), g_is) = stops text g known' k in
      let spots : spot ≡ spot' = is ∙ (ap (spot_at text) (laws.place text p q why why' at at') ∙ sym is') in
      let reasons : why ≡ why' = laws.reason text p q why why' at at' in
      f_is ∙ ap (λ w. fault_of w spot) reasons ∙ ap (fault_of why') spots ∙ sym g_is

  lexed_apart : (text : List ℕ) (f : LexFault) (ts : List Token) → f ≢ lexer.Memory → Faults text f → Reads text ts → ⊥
  lexed_apart text f ts known h reads =
      let (why, spot, (p, at, is), f_is) = stops text f known h in laws.either text ts p why reads at

  -- a text has one head
  head_once : (text : List ℕ) (ts us : List Token) (p q : ProgramTree) → Reads text ts → Reads text us → IsHead text ts p → IsHead text us q → p ≡ q
  head_once text ts us p q r r' h k =
      laws.program p q (ended text) (head_tokens text ts) (as_spelled (ended text) (head_tokens text ts) p h)
      (as_spelled (ended text) (head_tokens text ts) q (subst (λ (vs : List Token). IsHead text vs q) (laws.tokens text us ts r' r) k))

  -- and is begun in one way
  record Same (text : List ℕ) (ts us : List Token) (p q : ProgramTree) (t u : Program) : Type 0 where
    tokens : ts ≡ us
    tree : p ≡ q
    head : t ≡ u

  begun_once : (text : List ℕ) (ts us : List Token) (p q : ProgramTree) (t u : Program) → IsBegun text ts p t → IsBegun text us q u → Same text ts us p q t u
  begun_once text ts us p q t u a b =
      let trees = head_once text ts us p q a.reads b.reads a.spelled b.spelled in
      record {
        tokens = laws.tokens text ts us a.reads b.reads;
        tree = trees;
        head = laws.typed q t u (subst (λ (x : ProgramTree). IsTyped x t) trees a.typed) b.typed;
      }

  listed_same : (text : List ℕ) (ts us : List Token) (a b : List Slot) → ts ≡ us → a ≡ b → listed_in text ts a ≡ listed_in text us b
  listed_same text ts us a b e f = ap (λ (x : List Token). listed_in text x a) e ∙ ap (listed_in text us) f

  -- two lists of one text, with what was found on the way to each
  il_same : (text : List ℕ) (ts us : List Token) (p q : ProgramTree) (t u : Program) (i j : Il) → IsBegun text ts p t → IsBegun text us q u
      → i.slots ≡ t.slots → j.slots ≡ u.slots → listed_in text ts i.slots ≡ Ok i.code → listed_in text us j.slots ≡ Ok j.code → i ≡ j
  il_same text ts us p q t u i j a b si sj ci cj =
      let same = begun_once text ts us p q t u a b in
      let slots : i.slots ≡ j.slots = si ∙ (ap (λ (x : Program). x.slots) same.head ∙ sym sj) in
      let oks : ok_of i.code ≡ ok_of j.code = sym ci ∙ (listed_same text ts us i.slots j.slots same.tokens slots ∙ cj) in
      let codes : i.code ≡ j.code = cc in
      ap (λ (x : List Slot). let r : Il = record { slots = x; code = i.code } in r) slots
      ∙ ap (λ (x : List Instruction). let r : Il = record { slots = j.slots; code = x } in r) codes

  pub one : (text : List ℕ) (i j : Il) → IsIl text i → IsIl text j → i ≡ j
  one text i j a b = il_same text a.tokens b.tokens a.tree b.tree a.head b.head i j a.begun b.begun a.slots b.slots a.code b.code

  pub either : (text : List ℕ) (i : Il) (f : IlFault) → IsIl text i → NotIl text f → f ≡ fault.Memory
  either text i _ a (unlexed f known h) = absurd (lexed_apart text f a.tokens known h a.begun.reads)
  either text i _ a (unparsed ts f known reads wrong) =
      absurd (known (laws.spelled a.tree (ended text) (head_tokens text ts) (head_end text ts) f
      (subst (λ (vs : List Token). IsHead text vs a.tree) (laws.tokens text a.tokens ts a.begun.reads reads) a.begun.spelled) wrong))
  either text i _ a (mistyped ts tree f known reads head refused) =
      absurd (known (laws.apart tree a.head f
      (subst (λ (x : ProgramTree). IsTyped x a.head) (head_once text a.tokens ts a.tree tree a.begun.reads reads a.begun.spelled head) a.begun.typed) refused))
  either text i _ a (reserved ts tree head spot begun is) =
      let same = begun_once text a.tokens ts a.tree tree a.head head a.begun begun in
      let no : no_spot ≡ Some spot = sym a.free ∙ (ap (λ (x : ProgramTree). first_reserved (names_of x)) same.tree ∙ is) in
      absurd cc
  either text i _ a (misread ts tree head f begun free is) =
      let same = begun_once text a.tokens ts a.tree tree a.head head a.begun begun in
      let no : ok_of i.code ≡ Err f =
      sym a.code ∙ (listed_same text a.tokens ts i.slots head.slots same.tokens (a.slots ∙ ap (λ (x : Program). x.slots) same.head) ∙ is) in
      absurd cc
  either text i _ a (crowded ts tree head j begun free slots code many) =
      let same : i ≡ j = il_same text a.tokens ts a.tree tree a.head head i j a.begun begun a.slots slots a.code code in
      let few : IsFew j = subst IsFew same a.few in
      absurd (omega (arith, few, many))
  either text i _ a (too_large ts tree head j begun free slots code few large) =
      let same : i ≡ j = il_same text a.tokens ts a.tree tree a.head head i j a.begun begun a.slots slots a.code code in
      let room : size (typed_il j) ≤ most_size = subst (λ (x : Il). size (typed_il x) ≤ most_size) same a.room in
      absurd (omega (arith, room, large))
  either text i _ a no_memory = refl

-- ---- one refusal

-- what is told of the limits, of the lines and of the names, in the order of the refusals
abbrev told_of_limits : Bool → Bool → Option IlFault
told_of_limits true large = Some (fault.Types (typing.Names first_place))
told_of_limits false true = Some (fault.Types typing.Size)
told_of_limits false false = None

abbrev told_of_list : Il → Option IlFault
told_of_list i = told_of_limits (ltb most_names (length (typed_il i).slots)) (ltb most_size (size (typed_il i)))

abbrev told_of_lines : List Slot → Result (List Instruction) IlFault → Option IlFault
told_of_lines slots (Ok code) = told_of_list (record { slots = slots; code = code })
told_of_lines slots (Err f) = Some f

abbrev told_of : List Slot → Option Spot → Result (List Instruction) IlFault → Option IlFault
told_of slots None lines = told_of_lines slots lines
told_of slots (Some spot) lines = Some (fault.Reserved spot)

many_told : (i : Il) → most_names < length (typed_il i).slots → told_of_list i ≡ Some (fault.Types (typing.Names first_place))
many_told i h =
    ap (λ (b : Bool). told_of_limits b (ltb most_size (size (typed_il i)))) (lt-ltb most_names (length (typed_il i).slots) h)

large_told : (i : Il) → IsFew i → most_size < size (typed_il i) → told_of_list i ≡ Some (fault.Types typing.Size)
large_told i few large =
    ap (λ (b : Bool). told_of_limits b (ltb most_size (size (typed_il i)))) (le-ltb most_names (length (typed_il i).slots) few)
    ∙ ap (told_of_limits false) (lt-ltb most_size (size (typed_il i)) large)

-- where a refusal is found: in the tokens, in the head's tokens, in its types, or behind it
data Found (text : List ℕ) (f : IlFault) : Type 0 where
  in_tokens : (l : LexFault) → l ≢ lexer.Memory → Faults text l → f ≡ fault.Lex l → Found text f
  in_head : (ts : List Token) (s : SyntaxFault) → s ≢ syntax.Memory → Reads text ts → Refuses (ended text) (head_tokens text ts) (head_end text ts) s
      → f ≡ fault.Syntax s → Found text f
  in_types : (ts : List Token) (tree : ProgramTree) (t : TypeFault) → t ≢ typing.Memory → Reads text ts → IsHead text ts tree → RefusesTree tree t
      → f ≡ fault.Types t → Found text f
  behind : (ts : List Token) (tree : ProgramTree) (head : Program) → IsBegun text ts tree head
      → told_of head.slots (first_reserved (names_of tree)) (listed_in text ts head.slots) ≡ Some f → Found text f

-- what is told behind the head, where there is no reserved name
told_behind : (text : List ℕ) (ts : List Token) (tree : ProgramTree) (head : Program) (r : Result (List Instruction) IlFault)
    → first_reserved (names_of tree) ≡ None → listed_in text ts head.slots ≡ r
    → told_of head.slots (first_reserved (names_of tree)) (listed_in text ts head.slots) ≡ told_of_lines head.slots r
told_behind text ts tree head r free is =
    ap (λ (o : Option Spot). told_of head.slots o (listed_in text ts head.slots)) free ∙ ap (told_of_lines head.slots) is

told_of_same : (i : Il) (slots : List Slot) → i.slots ≡ slots → told_of_lines slots (Ok i.code) ≡ told_of_list i
told_of_same i slots e = ap (λ (x : List Slot). told_of_list (record { slots = x; code = i.code })) (sym e)

found : (text : List ℕ) (f : IlFault) → f ≢ fault.Memory → NotIl text f → Found text f
found text _ known (unlexed l k h) = in_tokens l k h refl
found text _ known (unparsed ts s k reads wrong) = in_head ts s k reads wrong refl
found text _ known (mistyped ts tree t k reads spelled wrong) = in_types ts tree t k reads spelled wrong refl
found text _ known (reserved ts tree head spot b is) =
    behind ts tree head b (ap (λ (o : Option Spot). told_of head.slots o (listed_in text ts head.slots)) is)
found text _ known (misread ts tree head f b free is) = behind ts tree head b (told_behind text ts tree head (Err f) free is)
found text _ known (crowded ts tree head i b free slots code many) =
    behind ts tree head b
    (told_behind text ts tree head (Ok i.code) free (ap (listed_in text ts) (sym slots) ∙ code)
    ∙ (told_of_same i head.slots slots ∙ many_told i many))
found text _ known (too_large ts tree head i b free slots code few large) =
    behind ts tree head b
    (told_behind text ts tree head (Ok i.code) free (ap (listed_in text ts) (sym slots) ∙ code)
    ∙ (told_of_same i head.slots slots ∙ large_told i few large))
found text _ known no_memory = absurd (known refl)

module _ (laws : Laws) where
  head_apart : (text : List ℕ) (ts us : List Token) (s : SyntaxFault) (tree : ProgramTree) → s ≢ syntax.Memory → Reads text ts
      → Refuses (ended text) (head_tokens text ts) (head_end text ts) s → Reads text us → IsHead text us tree → ⊥
  head_apart text ts us s tree known reads wrong reads' spelled =
      known (laws.spelled tree (ended text) (head_tokens text ts) (head_end text ts) s
      (subst (λ (vs : List Token). IsHead text vs tree) (laws.tokens text us ts reads' reads) spelled) wrong)

  types_apart : (text : List ℕ) (ts us : List Token) (p q : ProgramTree) (t : TypeFault) (head : Program) → t ≢ typing.Memory → Reads text ts
      → IsHead text ts p → RefusesTree p t → IsBegun text us q head → ⊥
  types_apart text ts us p q t head known reads spelled wrong b =
      known (laws.apart p head t
      (subst (λ (x : ProgramTree). IsTyped x head) (head_once laws text us ts q p b.reads reads b.spelled spelled) b.typed) wrong)

  told_once : (text : List ℕ) (ts us : List Token) (p q : ProgramTree) (t u : Program) → IsBegun text ts p t → IsBegun text us q u
      → told_of t.slots (first_reserved (names_of p)) (listed_in text ts t.slots) ≡ told_of u.slots (first_reserved (names_of q)) (listed_in text us u.slots)
  told_once text ts us p q t u a b =
      let same = begun_once laws text ts us p q t u a b in
      ap (λ (x : Program). told_of x.slots (first_reserved (names_of p)) (listed_in text ts x.slots)) same.head
      ∙ (ap (λ (x : ProgramTree). told_of u.slots (first_reserved (names_of x)) (listed_in text ts u.slots)) same.tree
      ∙ ap (λ (x : List Token). told_of u.slots (first_reserved (names_of q)) (listed_in text x u.slots)) same.tokens)

  found_once : (text : List ℕ) (f g : IlFault) → Found text f → Found text g → f ≡ g
  found_once text f g (in_tokens l k h e) (in_tokens m k' h' e') = e ∙ (ap fault.Lex (lexed_once laws text l m k k' h h') ∙ sym e')
  found_once text f g (in_tokens l k h e) (in_head us s' k' reads' wrong' e') = absurd (lexed_apart laws text l us k h reads')
  found_once text f g (in_tokens l k h e) (in_types us q u k' reads' spelled' wrong' e') = absurd (lexed_apart laws text l us k h reads')
  found_once text f g (in_tokens l k h e) (behind us q head b e') = absurd (lexed_apart laws text l us k h b.reads)
  found_once text f g (in_head ts s k reads wrong e) (in_tokens m k' h' e') = absurd (lexed_apart laws text m ts k' h' reads)
  found_once text f g (in_head ts s k reads wrong e) (in_head us s' k' reads' wrong' e') =
      e ∙ (ap fault.Syntax
      (laws.parsed (ended text) (head_tokens text ts) (head_end text ts) s s' k k' wrong
      (subst (λ (vs : List Token). Refuses (ended text) (head_tokens text vs) (head_end text vs) s') (laws.tokens text us ts reads' reads) wrong'))
      ∙ sym e')
  found_once text f g (in_head ts s k reads wrong e) (in_types us q u k' reads' spelled' wrong' e') =
      absurd (head_apart text ts us s q k reads wrong reads' spelled')
  found_once text f g (in_head ts s k reads wrong e) (behind us q head b e') = absurd (head_apart text ts us s q k reads wrong b.reads b.spelled)
  found_once text f g (in_types ts p t k reads spelled wrong e) (in_tokens m k' h' e') = absurd (lexed_apart laws text m ts k' h' reads)
  found_once text f g (in_types ts p t k reads spelled wrong e) (in_head us s' k' reads' wrong' e') =
      absurd (head_apart text us ts s' p k' reads' wrong' reads spelled)
  found_once text f g (in_types ts p t k reads spelled wrong e) (in_types us q u k' reads' spelled' wrong' e') =
      e ∙ (ap fault.Types
      (laws.refused p t u k k' wrong
      (subst (λ (x : ProgramTree). RefusesTree x u) (head_once laws text us ts q p reads' reads spelled' spelled) wrong'))
      ∙ sym e')
  found_once text f g (in_types ts p t k reads spelled wrong e) (behind us q head b e') =
      absurd (types_apart text ts us p q t head k reads spelled wrong b)
  found_once text f g (behind ts p head a e) (in_tokens m k' h' e') = absurd (lexed_apart laws text m ts k' h' a.reads)
  found_once text f g (behind ts p head a e) (in_head us s' k' reads' wrong' e') =
      absurd (head_apart text us ts s' p k' reads' wrong' a.reads a.spelled)
  found_once text f g (behind ts p head a e) (in_types us q u k' reads' spelled' wrong' e') =
      absurd (types_apart text us ts q p u head k' reads' spelled' wrong' a)
  found_once text f g (behind ts p t a e) (behind us q u b e') =
      let one : Some f ≡ Some g = sym e ∙ (told_once text ts us p q t u a b ∙ e') in cc

  pub refused : (text : List ℕ) (f g : IlFault) → f ≢ fault.Memory → g ≢ fault.Memory → NotIl text f → NotIl text g → f ≡ g
  refused text f g known known' h k = found_once text f g (found text f known h) (found text g known' k)
