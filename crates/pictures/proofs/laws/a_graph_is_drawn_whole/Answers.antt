use Rattle.std.proofs.Common.{◌≡◌, ◌+◌, refl}
use Rattle.pictures.specs.Colours.{colours, IsColour}
use Rattle.pictures.specs.Drawn.{drawing}
use Rattle.pictures.specs.Elements.{drawing_elements, audit_legend}
use Rattle.pictures.specs.Looks.{audit_looks, IsAuditLook}
use Rattle.pictures.proofs.Lines.{draws_reads}
use Rattle.pictures.proofs.Seen.{coloured_so}
use Rattle.pictures.proofs.WholeDrawing.{draws_operations}
use Rattle.pictures.proofs.WholeText.{each_once, of_audit_legend}
use Rattle.pictures.proofs.laws.a_graph_is_drawn_whole.Goals as goal

pub returns-clause-whole : goal.returns-clause-whole
returns-clause-whole c g looks places = record {
  operations = draws_operations g (λ n look. look ≡ looks n) looks places (λ n lt. refl);
  reads = draws_reads g places;
}

pub returns-clause-audit_whole : goal.returns-clause-audit_whole
returns-clause-audit_whole c g horizon a places is =
    let tells = c.an_audit_has_one_text.ensures.blind g horizon a is in record {
      operations = draws_operations g (IsAuditLook g horizon) (audit_looks g a (horizon + 1)) places
          (λ n lt. (colours g a (horizon + 1) n, refl, coloured_so g horizon a is tells n lt));
      reads = draws_reads g places;
    }

pub returns-clause-colours_whole : goal.returns-clause-colours_whole
returns-clause-colours_whole c g horizon a places is =
    let tells = c.an_audit_has_one_text.ensures.blind g horizon a is in record {
      operations = draws_operations g (IsColour g horizon) (colours g a (horizon + 1)) places (λ n lt. coloured_so g horizon a is tells n lt);
      reads = draws_reads g places;
    }

pub returns-clause-well_formed : goal.returns-clause-well_formed
returns-clause-well_formed c g looks legend l once =
    let d = drawing g looks l.places in
    c.pictures_are_well_formed.ensures l.width l.height (drawing_elements g looks legend d) (each_once g looks legend once d)

pub returns-clause-audit_well_formed : goal.returns-clause-audit_well_formed
returns-clause-audit_well_formed c g horizon a l =
    let looks = audit_looks g a (horizon + 1) in
    let d = drawing g looks l.places in
    c.pictures_are_well_formed.ensures l.width l.height (drawing_elements g looks audit_legend d) (each_once g looks audit_legend of_audit_legend d)
