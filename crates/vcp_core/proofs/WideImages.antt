-- WideImages: images are taken, and graphs in the wide code have one.
use Rattle.std.proofs.Common.{ℕ, ◌≡◌, true, refl, sym, ap, List, ℤ}
use Rattle.vcp_base.specs.Code.{admits}
use Rattle.vcp_base.specs.declared.code.Profile.TheVariants as profile
use Rattle.vcp_base.specs.declared.ty.Ty.{Ty}
use Rattle.vcp_base.specs.declared.ty.Ty.TheVariants as ty
use Rattle.op_graph.specs.GraphRun.{graph_run}
use Rattle.op_graph.specs.Lists.{Lists}
use Rattle.op_graph.specs.Rules.{IsGraph}
use Rattle.image_file.specs.Graphs.{HasImage}
use Rattle.vcp_core.specs.Tasks.{widened}

-- the wide code has words of each type
wide_admits : (t : Ty) → admits profile.Wide t ≡ true
wide_admits ty.Bool = refl
wide_admits ty.Int = refl
wide_admits ty.Dint = refl
wide_admits ty.Lint = refl

-- so a graph keeps its rules in it
wide_fits : (g : Lists) → IsGraph g → IsGraph (widened g)
wide_fits g h =
    let p = h.part in
    record {
      all_stored = h.all_stored;
      part = record {
        widths = record { places = p.widths.places; values = p.widths.values };
        types = record { operations = λ i d below. (wide_admits _, wide_admits _); loads = λ i d below. wide_admits _ };
        few_names = p.few_names;
        few_inputs = p.few_inputs;
        few_outputs = p.few_outputs;
        few_cells = p.few_cells;
        few_turn_nodes = p.few_turn_nodes;
        few_operations = p.few_operations;
        enough_operations = p.enough_operations;
        stored = p.stored;
        names = p.names;
        inputs = p.inputs;
        outputs = p.outputs;
        loads = p.loads;
        stores = p.stores;
        turn_nodes = p.turn_nodes;
        operations = p.operations;
      };
    }

pub has_wide : (g : Lists) (seed step : ℕ) → HasImage g seed step → HasImage (widened g) seed step
has_wide g seed step h = record { graph = wide_fits g h.graph; seed_to = h.seed_to; step_from = h.step_from; step_to = h.step_to }

-- the run has nothing of the code in it
pub wide_run : (g : Lists) (rows : List (List ℤ)) → graph_run (widened g) rows ≡ graph_run g rows
wide_run g rows = refl

pub wide_same : (g : Lists) → g.profile ≡ profile.Wide → widened g ≡ g
wide_same g is = ap (λ p. record g { profile = p }) (sym is)
