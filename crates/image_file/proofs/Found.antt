-- What the reader found.
use Rattle.std.proofs.Common.{◌≡◌, ◌<◌, ◌∷◌, [], zero, suc, List, ℕ, Result, Ok, Err, ap, sym, subst, All, arith, ◌⊎◌, inl, inr, ◌∙◌, refl, length}
use Rattle.std.specs.Prelude.{IfOk}
use Rattle.image_file.specs.declared.fields.fault.FieldFault.{FieldFault}
use Rattle.image_file.specs.declared.fields.fault.ReadError.{ReadError}
use Rattle.image_file.specs.declared.fields.fault.ReadError.TheVariants as errors
use Rattle.image_file.specs.declared.whole.Whole.{Whole}
use Rattle.image_file.specs.Pieces.{Gives, read_all, FaultOf}
use Rattle.image_file.specs.Image.{image_piece, Parts, image_of}
use Rattle.image_file.specs.Views.{parts}
use Rattle.image_file.proofs.PieceLaws.{IsBytes, all_takes, all_fails}
use Rattle.image_file.proofs.Sections.{image_law}
use Rattle.op_graph.specs.Lists.{Lists}
use Rattle.signature_table.specs.Signatures.{Numbers, table_of, IsTableOf}
use Rattle.image_file.specs.declared.fields.fault.FieldFault.TheVariants as left
use Rattle.image_file.specs.declared.fault.ImageFault.{ImageFault}
use Rattle.image_file.specs.declared.fault.ImageFault.TheVariants as at
use Rattle.image_file.specs.Graphs.{lists_of, placed, Reads, OrMemory, HasImage, IsImage, ImageFaultAt, OneGraph, NoFault, ImageOrFault}
use Rattle.image_file.proofs.Kept.{fits_graph, parts_back}

pub is_found : (bytes : List ℕ) (r : Result Whole ReadError) → IsBytes bytes → Gives parts r (read_all image_piece bytes)
    → IfOk r (λ w. image_piece.fits (parts w) × (bytes ≡ image_piece.spell (parts w)))
is_found bytes (Ok w) fits given = all_takes image_piece image_law bytes (parts w) fits given
is_found bytes (Err e) fits given = tt

pub is_fault : (bytes : List ℕ) (r : Result Whole ReadError) → IsBytes bytes → Gives parts r (read_all image_piece bytes) → (f : FieldFault)
    → r ≡ Err (errors.FieldFault f) → FaultOf image_piece bytes f
is_fault bytes r fits given f e =
    all_fails image_piece image_law bytes f fits (subst (λ (x : Result Whole ReadError). Gives parts x (read_all image_piece bytes)) e given)

placed_reads : (bytes : List ℕ) (f : FieldFault) → FaultOf image_piece bytes f → Reads bytes (Err (placed (length bytes) f))
placed_reads bytes (left.Magic n) h = (left.Magic n, h, refl)
placed_reads bytes (left.Version n) h = (left.Version n, h, refl)
placed_reads bytes left.Short h = (left.Short, h, refl)
placed_reads bytes (left.Field n) h = (left.Field n, h, refl)
placed_reads bytes (left.Operand n) h = (left.Operand n, h, refl)
placed_reads bytes (left.Table n s e) h = (left.Table n s e, h, refl)
placed_reads bytes (left.Rest n) h = (left.Rest n, h, refl)

pub reads_err : (bytes : List ℕ) (e : ReadError) (r : ImageFault) → ((f : FieldFault) → e ≡ errors.FieldFault f → FaultOf image_piece bytes f)
    → (e ≡ errors.Memory → r ≡ at.Memory) → ((f : FieldFault) → e ≡ errors.FieldFault f → r ≡ placed (length bytes) f) → Reads bytes (Err r)
reads_err bytes errors.Memory r fault memory told = subst (λ (x : ImageFault). Reads bytes (Err x)) (sym (memory refl)) tt
reads_err bytes (errors.FieldFault f) r fault memory told = subst (λ (x : ImageFault). Reads bytes (Err x)) (sym (told f refl)) (placed_reads bytes f (fault f refl))

pub reads_ok : (bytes : List ℕ) (p : Parts) (g : Lists) (t : Numbers) → image_piece.fits p → bytes ≡ image_piece.spell p → g ≡ lists_of p
    → t ≡ table_of p.seed p.step (lists_of p) → Reads bytes (Ok (g, t))
reads_ok bytes p g t h e eg et =
    subst (λ (x : Numbers). Reads bytes (Ok (g, x))) (sym et)
    (subst (λ (y : Lists). Reads bytes (Ok (y, table_of p.seed p.step (lists_of p)))) (sym eg)
    (fits_graph p h, e ∙ ap image_piece.spell (sym (parts_back p)), refl))

-- an image has no fault, so the answer is its graph, or memory ran out
pub only_image : OneGraph → NoFault → (bytes : List ℕ) (r : Result (Lists × Numbers) ImageFault) → Reads bytes r → (g : Lists) (seed step : ℕ)
    → HasImage g seed step → bytes ≡ image_of g seed step → OrMemory r (g, table_of seed step g)
only_image one none bytes (Ok (h, t)) reads g seed step has e =
    let same = one h g t.seed seed t.step step reads.0 has (sym reads.1 ∙ e) in
    ap (λ (x : Numbers). (h, x)) reads.2
    ∙ ap (λ (n : ℕ). (h, table_of n t.step h)) same.1
    ∙ ap (λ (n : ℕ). (h, table_of seed n h)) same.2
    ∙ ap (λ (x : Lists). (x, table_of seed step x)) same.0
only_image one none bytes (Err at.Memory) reads g seed step has e = refl
only_image one none bytes (Err (at.Magic n)) reads g seed step has e = absurd (none g seed step (at.Magic n) has (subst (λ b. ImageFaultAt b (at.Magic n)) e reads))
only_image one none bytes (Err (at.Version n)) reads g seed step has e =
    absurd (none g seed step (at.Version n) has (subst (λ b. ImageFaultAt b (at.Version n)) e reads))
only_image one none bytes (Err (at.Short n)) reads g seed step has e = absurd (none g seed step (at.Short n) has (subst (λ b. ImageFaultAt b (at.Short n)) e reads))
only_image one none bytes (Err (at.Field n)) reads g seed step has e = absurd (none g seed step (at.Field n) has (subst (λ b. ImageFaultAt b (at.Field n)) e reads))
only_image one none bytes (Err (at.Operand n)) reads g seed step has e =
    absurd (none g seed step (at.Operand n) has (subst (λ b. ImageFaultAt b (at.Operand n)) e reads))
only_image one none bytes (Err (at.Table n s x)) reads g seed step has e =
    absurd (none g seed step (at.Table n s x) has (subst (λ b. ImageFaultAt b (at.Table n s x)) e reads))
only_image one none bytes (Err (at.Rest n)) reads g seed step has e = absurd (none g seed step (at.Rest n) has (subst (λ b. ImageFaultAt b (at.Rest n)) e reads))

-- bytes are an image or have a fault
either_by : (bytes : List ℕ) → IsBytes bytes → (r : Result Parts FieldFault) → read_all image_piece bytes ≡ r → IsImage bytes ⊎ ((e : ImageFault) × ImageFaultAt bytes e)
either_by bytes fits (Ok p) e =
    let t = all_takes image_piece image_law bytes p fits e in
    inl (lists_of p, p.seed, p.step, fits_graph p t.0, t.1 ∙ ap image_piece.spell (sym (parts_back p)))
either_by bytes fits (Err f) e = inr (placed (length bytes) f, (f, all_fails image_piece image_law bytes f fits e, refl))

are_bytes : (bytes : List ℕ) → All (λ b. b < 256) bytes → IsBytes bytes
are_bytes [] all i = omega arith
are_bytes (b ∷ bytes) all zero = all 0 b (omega arith)
are_bytes (b ∷ bytes) all (suc i) = are_bytes bytes (λ k d lt. all (suc k) d (omega arith)) i

pub either : ImageOrFault
either bytes all = either_by bytes (are_bytes bytes all) (read_all image_piece bytes) refl

pub reads_table : (bytes : List ℕ) (r : Result (Lists × Numbers) ImageFault) → Reads bytes r → IfOk r (λ x. IsTableOf x.1 x.0)
reads_table bytes (Ok (g, t)) reads = (ap (λ (n : Numbers). n.profile) reads.2, ap (λ (n : Numbers). n.corrections) reads.2)
reads_table bytes (Err e) reads = tt
