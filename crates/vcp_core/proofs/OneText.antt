-- OneText: a text is one program or one image, or is refused in one way.
use Rattle.std.proofs.Common.{ℕ, ◌≡◌, ◌≢◌, refl, sym, ap, ◌∙◌, List, length}
use Rattle.vcp_base.specs.Limits.{most_depth}
use Rattle.vcp_base.specs.declared.spot.Spot.{Spot}
use Rattle.st_lexer.specs.declared.fault.LexFault.{LexFault}
use Rattle.st_lexer.specs.declared.fault.LexFault.TheVariants as lexer
use Rattle.st_lexer.specs.declared.fault.Reason.{Reason}
use Rattle.st_lexer.specs.declared.fault.Reason.TheVariants as reason
use Rattle.st_lexer.specs.declared.token.Token.{Token}
use Rattle.st_lexer.specs.Reading.{Reads, LexAt, StopsAt, Faults}
use Rattle.st_lexer.specs.Spots.{spot_at}
use Rattle.st_parser.specs.declared.fault.SyntaxFault.{SyntaxFault}
use Rattle.st_parser.specs.declared.fault.SyntaxFault.TheVariants as syntax
use Rattle.st_parser.specs.Answers.{Refuses}
use Rattle.st_tree.specs.Spelling.{Spells, SpellsWithin}
use Rattle.st_tree.specs.ProgramTree.{ProgramTree}
use Rattle.st_types.specs.declared.fault.TypeFault.{TypeFault}
use Rattle.st_types.specs.declared.fault.TypeFault.TheVariants as typing
use Rattle.st_types.specs.Typing.{IsTyped, Refuses as RefusesTree}
use Rattle.vcp_typed.specs.SourceRun.{Program}
use Rattle.il_front.specs.declared.fault.IlFault.{IlFault}
use Rattle.il_front.specs.declared.fault.IlFault.TheVariants as il
use Rattle.il_front.specs.Accumulator.{Il}
use Rattle.il_front.specs.Answers.{IsIl, NotIl}
use Rattle.vcp_inputs.specs.declared.refusal.Refusal.{Refusal}
use Rattle.vcp_inputs.specs.declared.refusal.Refusal.TheVariants as refusal
use Rattle.vcp_inputs.specs.Listings.{NotListing, no_listing}
use Rattle.vcp_inputs.specs.Programs.{IsProgram, NoProgram, unlexed, unparsed, TypedOf, NotTyped, no_program, mistyped}
use Rattle.op_graph.specs.Lists.{Lists}
use Rattle.signature_table.specs.Signatures.{Numbers, table_of}
use Rattle.image_file.specs.declared.fault.ImageFault.{ImageFault}
use Rattle.image_file.specs.Graphs.{HasImage, ImageFaultAt}
use Rattle.image_file.specs.Image.{image_of}
use Rattle.vcp_inputs.specs.declared.images.Image.{Image}
use Rattle.vcp_inputs.specs.Images.{ImageOf, NotImage, no_image}
use Rattle.weight_audit.specs.AuditText.{AuditOf}

-- the law of images
pub record ImageLaws : Type 0 where
  pub graph : (g h : Lists) (seed other_seed step other_step : ℕ) → HasImage g seed step → HasImage h other_seed other_step
      → image_of g seed step ≡ image_of h other_seed other_step → (g ≡ h) × (seed ≡ other_seed) × (step ≡ other_step)
  pub fault : (bytes : List ℕ) (e f : ImageFault) → ImageFaultAt bytes e → ImageFaultAt bytes f → e ≡ f
  pub none : (g : Lists) (seed step : ℕ) (e : ImageFault) → HasImage g seed step → ImageFaultAt (image_of g seed step) e → ⊥

-- the law of instruction lists
pub record ListingLaws : Type 0 where
  pub one : (text : List ℕ) (i j : Il) → IsIl text i → IsIl text j → i ≡ j
  pub either : (text : List ℕ) (i : Il) (f : IlFault) → IsIl text i → NotIl text f → f ≡ il.Memory
  pub refused : (text : List ℕ) (f g : IlFault) → f ≢ il.Memory → g ≢ il.Memory → NotIl text f → NotIl text g → f ≡ g

-- a graph has one audit
abbrev pub OneAudit : Type 0
OneAudit = (g : Lists) (horizon : ℕ) (s t : List ℕ) → AuditOf g horizon s → AuditOf g horizon t → s ≡ t

-- the laws of reading, of parsing, of typing, of images and of audits
pub record Laws : Type 0 where
  pub tokens : (text : List ℕ) (a b : List Token) → Reads text a → Reads text b → a ≡ b
  pub either : (text : List ℕ) (a : List Token) (p : ℕ) (r : Reason) → Reads text a → LexAt text p r → ⊥
  pub place : (text : List ℕ) (p q : ℕ) (r s : Reason) → LexAt text p r → LexAt text q s → p ≡ q
  pub reason : (text : List ℕ) (p q : ℕ) (r s : Reason) → LexAt text p r → LexAt text q s → r ≡ s
  pub spelled : (p : ProgramTree) (text : List ℕ) (ts : List Token) (end : Spot) (f : SyntaxFault) → SpellsWithin most_depth p text ts → Refuses text ts end f
      → f ≡ syntax.Memory
  pub parsed : (text : List ℕ) (ts : List Token) (end : Spot) (f g : SyntaxFault) → f ≢ syntax.Memory → g ≢ syntax.Memory → Refuses text ts end f
      → Refuses text ts end g → f ≡ g
  pub typed : (p : ProgramTree) (t u : Program) → IsTyped p t → IsTyped p u → t ≡ u
  pub apart : (p : ProgramTree) (t : Program) (e : TypeFault) → IsTyped p t → RefusesTree p e → e ≡ typing.Memory
  pub refused : (p : ProgramTree) (e g : TypeFault) → (e ≡ typing.Memory → ⊥) → (g ≡ typing.Memory → ⊥) → RefusesTree p e → RefusesTree p g → e ≡ g
  pub listings : ListingLaws
  pub images : ImageLaws
  pub audits : OneAudit

-- ---- a text is one program, or is refused in one way

-- a fault of the lexer, from its reason and its place
abbrev fault_of : Reason → Spot → LexFault
fault_of reason.Byte spot = lexer.Byte spot
fault_of reason.Comment spot = lexer.Comment spot
fault_of reason.Number spot = lexer.Number spot

stops : (text : List ℕ) (f : LexFault) → f ≢ lexer.Memory → Faults text f → (why : Reason) × (spot : Spot) × StopsAt text spot why × (f ≡ fault_of why spot)
stops text (lexer.Byte spot) known h = (reason.Byte, spot, h, refl)
stops text (lexer.Comment spot) known h = (reason.Comment, spot, h, refl)
stops text (lexer.Number spot) known h = (reason.Number, spot, h, refl)
stops text lexer.Memory known h = absurd (known refl)

module _ (laws : Laws) where
  lexed_once : (text : List ℕ) (f g : LexFault) → f ≢ lexer.Memory → g ≢ lexer.Memory → Faults text f → Faults text g → f ≡ g
  lexed_once text f g known known' h k =
      let (why, spot, (p, at, is), f_is) = stops text f known h in
      let (why', spot', (q, at', is'), g_is) = stops text g known' k in
      let spots : spot ≡ spot' = is ∙ (ap (spot_at text) (laws.place text p q why why' at at') ∙ sym is') in
      let reasons : why ≡ why' = laws.reason text p q why why' at at' in
      f_is ∙ ap (λ w. fault_of w spot) reasons ∙ ap (fault_of why') spots ∙ sym g_is

  lexed_apart : (text : List ℕ) (f : LexFault) (ts : List Token) → f ≢ lexer.Memory → Faults text f → Reads text ts → ⊥
  lexed_apart text f ts known h reads =
      let (why, spot, (p, at, is), f_is) = stops text f known h in laws.either text ts p why reads at

  pub refused_once : (text : List ℕ) (r s : Refusal) → NoProgram text r → NoProgram text s → r ≡ s
  refused_once text _ _ (unlexed f known h) (unlexed g known' k) = ap refusal.Lexing (lexed_once text f g known known' h k)
  refused_once text _ _ (unlexed f known h) (unparsed us g known' reads' wrong') = absurd (lexed_apart text f us known h reads')
  refused_once text _ _ (unparsed ts f known reads wrong) (unlexed g known' k) = absurd (lexed_apart text g ts known' k reads)
  refused_once text _ _ (unparsed ts f known reads wrong) (unparsed us g known' reads' wrong') =
      ap refusal.Parsing (laws.parsed text ts (spot_at text (length text)) f g known known' wrong (rw (laws.tokens text us ts reads' reads) at wrong'))

  pub program_or_none : (text : List ℕ) (r : Refusal) (p : ProgramTree) → IsProgram text p → NoProgram text r → ⊥
  program_or_none text _ p is (unlexed f known h) = lexed_apart text f is.tokens known h is.reads
  program_or_none text _ p is (unparsed us f known reads wrong) =
      known (laws.spelled p text us (spot_at text (length text)) f (rw (laws.tokens text is.tokens us is.reads reads) at is.spells) wrong)

  as_spelled : (text : List ℕ) (ts : List Token) (p : ProgramTree) → SpellsWithin most_depth p text ts → Spells p text ts
  as_spelled text ts p (ps, spells, tokens, within) = (ps, spells, tokens)

  pub program_once : (text : List ℕ) (p q : ProgramTree) → IsProgram text p → IsProgram text q → p ≡ q
  program_once text p q is other =
      other.only p (rw (laws.tokens text is.tokens other.tokens is.reads other.reads) at (as_spelled text is.tokens p is.spells))

  pub typed_once : (text : List ℕ) (t u : Program) → TypedOf text t → TypedOf text u → t ≡ u
  typed_once text t u is other =
      laws.typed is.tree t u is.typed (rw (program_once text other.tree is.tree other.program is.program) at other.typed)

  pub typed_apart : (text : List ℕ) (t : Program) (r : Refusal) → TypedOf text t → NotTyped text r → ⊥
  typed_apart text t _ is (no_program r h) = program_or_none text r is.tree is.program h
  typed_apart text t _ is (mistyped p f program known refused) =
      known (laws.apart is.tree t f is.typed (rw (program_once text p is.tree program is.program) at refused))

  pub untyped_once : (text : List ℕ) (r s : Refusal) → NotTyped text r → NotTyped text s → r ≡ s
  untyped_once text _ _ (no_program r h) (no_program s k) = refused_once text r s h k
  untyped_once text _ _ (no_program r h) (mistyped q g program known refused) = absurd (program_or_none text r q program h)
  untyped_once text _ _ (mistyped p f program known refused) (no_program s k) = absurd (program_or_none text s p program k)
  untyped_once text _ _ (mistyped p f program known refused) (mistyped q g program' known' refused') =
      ap refusal.Typing (laws.refused p f g known known' refused (rw (program_once text q p program' program) at refused'))

-- ---- a text is one instruction list, or is refused in one way

module _ (laws : ListingLaws) where
  pub listing_or_none : (text : List ℕ) (i : Il) (r : Refusal) → IsIl text i → NotListing text r → ⊥
  listing_or_none text i _ is (no_listing f known h) = known (laws.either text i f is h)

  pub no_listing_once : (text : List ℕ) (r s : Refusal) → NotListing text r → NotListing text s → r ≡ s
  no_listing_once text _ _ (no_listing f known h) (no_listing g other k) = ap refusal.Listing (laws.refused text f g known other h k)

-- ---- a text is one image, or is refused in one way

-- a table is that of its graph, with its seed and its step
table_is : (t u : Numbers) (g h : Lists) → t ≡ table_of t.seed t.step g → u ≡ table_of u.seed u.step h → g ≡ h → t.seed ≡ u.seed → t.step ≡ u.step → t ≡ u
table_is t u g h one other graphs seeds steps =
    one ∙ ap (λ x. table_of x t.step g) seeds ∙ ap (λ x. table_of u.seed x g) steps ∙ ap (table_of u.seed u.step) graphs ∙ sym other

module _ (laws : ImageLaws) where
  pub image_once : (text : List ℕ) (i j : Image) → ImageOf text i → ImageOf text j → (i.graph ≡ j.graph) × (i.table ≡ j.table)
  image_once text i j one other =
      let (graphs, seeds, steps) =
      laws.graph i.graph j.graph i.table.seed j.table.seed i.table.step j.table.step one.has other.has (sym one.bytes ∙ other.bytes) in
      (graphs, table_is i.table j.table i.graph j.graph one.table other.table graphs seeds steps)

  pub image_or_none : (text : List ℕ) (i : Image) (r : Refusal) → ImageOf text i → NotImage text r → ⊥
  image_or_none text i _ one (no_image f at) = laws.none i.graph i.table.seed i.table.step f one.has (rw one.bytes at at)

  pub no_image_once : (text : List ℕ) (r s : Refusal) → NotImage text r → NotImage text s → r ≡ s
  no_image_once text _ _ (no_image e h) (no_image f k) = ap refusal.Image (laws.fault text e f h k)
