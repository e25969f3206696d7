-- WholeText: no element of a picture has an attribute twice.
use Rattle.std.proofs.Common.{ℕ, Bool, true, false, cond, List, [], ◌∷◌, ◌++◌, Option, None, Some, slice_get, flat_map, codes, refl}
use Rattle.std.specs.Option.{is_some}
use Rattle.std.specs.List.{AllByRecursion}
use Rattle.vcp_base.specs.declared.kind.Kind.{Kind}
use Rattle.vcp_base.specs.declared.kind.Kind.TheVariants as kind
use Rattle.op_graph.specs.declared.op.Op.{Op}
use Rattle.op_graph.specs.Lists.{Lists}
use Rattle.op_graph.specs.Reads.{named}
use Rattle.op_graph.specs.Rules.{reads_as}
use Rattle.vcp_outside.specs.Elements.{Element}
use Rattle.vcp_outside.specs.WellFormed.{HasEachOnce}
use Rattle.pictures.specs.declared.colours.Colour.{Colour}
use Rattle.pictures.specs.declared.colours.Colour.TheVariants as colour
use Rattle.pictures.specs.declared.layout.BoxPlace.{BoxPlace}
use Rattle.pictures.specs.declared.looks.Look.{Look}
use Rattle.pictures.specs.declared.looks.Look.TheVariants as look
use Rattle.pictures.specs.Constants.{is_constant}
use Rattle.pictures.specs.Drawn.{Box, Wire, Drawing, own_of}
use Rattle.pictures.specs.Elements.{blindness, note, cell_bar, constant_elements, constant_of, constant_at, body_elements, box_elements, wire_element, line_from, wire_elements, sample, audit_legend, drawing_elements}

abbrev All : List Element → Type 0
All es = AllByRecursion HasEachOnce es

all_both : (xs ys : List Element) → All xs → All ys → All (xs ++ ys)
all_both [] ys h k = k
all_both (x ∷ xs) ys h k = (h.0, all_both xs ys h.1 k)

all_flat : {X : Type 0} (f : X → List Element) → ((x : X) → All (f x)) → (xs : List X) → All (flat_map f xs)
all_flat f each [] = tt
all_flat f each (x ∷ xs) = all_both (f x) (flat_map f xs) (each x) (all_flat f each xs)

of_blindness : (g : Lists) (c : Colour) (p : BoxPlace) → All (blindness g c p)
of_blindness g colour.Unreached p = tt
of_blindness g colour.Plain p = tt
of_blindness g (colour.Blind output after) p = (refl, tt)

of_note : (g : Lists) (l : Look) (p : BoxPlace) → All (note g l p)
of_note g (look.Shown c) p = of_blindness g c p
of_note g look.Untried p = tt
of_note g (look.Tried w some all) p = (refl, tt)

of_bar : (k : Kind) (p : BoxPlace) → All (cell_bar k p)
of_bar kind.Input p = tt
of_bar kind.Const p = tt
of_bar kind.Load p = (refl, tt)
of_bar kind.Store p = (refl, tt)
of_bar kind.Out p = tt
of_bar kind.Conv p = tt
of_bar kind.Neg p = tt
of_bar kind.Not p = tt
of_bar kind.Add p = tt
of_bar kind.Sub p = tt
of_bar kind.Mul p = tt
of_bar kind.Div p = tt
of_bar kind.Mod p = tt
of_bar kind.Eq p = tt
of_bar kind.Lt p = tt
of_bar kind.And p = tt
of_bar kind.Or p = tt
of_bar kind.Xor p = tt
of_bar kind.Sel p = tt

all_if : (b : Bool) (xs ys : List Element) → All xs → All ys → All (cond b xs ys)
all_if true xs ys h k = h
all_if false xs ys h k = k

module _ (g : Lists) (looks : ℕ → Look) where
  of_constant : (p : BoxPlace) (which k : ℕ) (o : Option Op) → All (constant_of g looks p which k o)
  of_constant p which k None = tt
  of_constant p which k (Some op) =
      all_if (is_constant op.kind) (constant_elements p which k (looks k) (own_of g op.kind op.imm)) [] (refl, (refl, tt)) tt

  of_operand : (p : BoxPlace) (op : Op) (which : ℕ) → All (constant_at g looks p op which)
  of_operand p op which =
      all_if (is_some (reads_as op.kind op.from which)) (constant_of g looks p which (named op which) (slice_get g.operations (named op which))) []
      (of_constant p which (named op which) (slice_get g.operations (named op which))) tt

  of_body : (b : Box Look) → All (body_elements g looks b)
  of_body b =
      let first = constant_at g looks b.place b.op 0 in
      let second = constant_at g looks b.place b.op 1 in
      let third = constant_at g looks b.place b.op 2 in
      let constants =
      all_both first (second ++ third) (of_operand b.place b.op 0) (all_both second third (of_operand b.place b.op 1) (of_operand b.place b.op 2)) in
      let bar = all_both (cell_bar b.op.kind b.place) (first ++ (second ++ third)) (of_bar b.op.kind b.place) constants in (
        refl,
        (refl, (refl, (refl, all_both (note g b.look b.place) (cell_bar b.op.kind b.place ++ (first ++ (second ++ third))) (of_note g b.look b.place) bar))),
      )

  of_box : (b : Box Look) → All (box_elements g looks b)
  of_box b = all_if (is_constant b.op.kind) [] (body_elements g looks b) tt (of_body b)

of_line : (w : Wire) (o : Option Op) → All (line_from w o)
of_line w None = (refl, tt)
of_line w (Some op) = all_if (is_constant op.kind) [] (wire_element w ∷ []) tt (refl, tt)

of_sample : (x : ℕ) (class told : List ℕ) (many : Option ℕ) → All (sample x class told many)
of_sample x class told many = (refl, (refl, tt))

pub of_audit_legend : All audit_legend
of_audit_legend =
    let first : List Element = sample 12 (codes "plain") (codes "reaches an output") None in
    let second : List Element = sample 192 (codes "unreached") (codes "reaches none") None in
    let third : List Element = sample 332 (codes "blind") (codes "blind for the output that it names, so many cycles later") None in
    let fourth : List Element = sample 672 (codes "cell") (codes "a cell's LOAD (left) or STORE (right)") None in (
      refl,
      all_both first (second ++ (third ++ fourth)) (of_sample 12 (codes "plain") (codes "reaches an output") None)
          (all_both second (third ++ fourth) (of_sample 192 (codes "unreached") (codes "reaches none") None)
          (all_both third fourth (of_sample 332 (codes "blind") (codes "blind for the output that it names, so many cycles later") None)
          (of_sample 672 (codes "cell") (codes "a cell's LOAD (left) or STORE (right)") None))),
    )

pub each_once : (g : Lists) (looks : ℕ → Look) (legend : List Element) → All legend → (d : Drawing Look) → All (drawing_elements g looks legend d)
each_once g looks legend once d =
    all_both legend (flat_map (wire_elements g) d.wires ++ flat_map (box_elements g looks) d.boxes) once
    (all_both (flat_map (wire_elements g) d.wires) (flat_map (box_elements g looks) d.boxes)
    (all_flat (wire_elements g) (λ w. of_line w (slice_get g.operations w.operand)) d.wires) (all_flat (box_elements g looks) (of_box g looks) d.boxes))
