-- What keeps the rules of a graph has an image: cells, and the whole, where the numbers have the format's widths.
use Rattle.std.proofs.Common.{◌≡◌, ℕ, suc, ◌+◌, ◌*◌, ◌<◌, ◌≤◌, true, List, [], ◌∷◌, ◌++◌, length, map, All, Some, slice_get, refl, sym, ap, subst, ◌∙◌, append_assoc, arith, length-append}
use Rattle.std.proofs.lemmas.Bool.{lt-ltb}
use Rattle.std.proofs.lemmas.List.Elements.{All-cons, All-nil}
use Rattle.std.specs.Int.{w64}
use Rattle.std.specs.Prelude.{FitsSigned}
use Rattle.vcp_base.specs.declared.code.Profile.{Profile}
use Rattle.vcp_base.specs.Code.{admits}
use Rattle.vcp_base.specs.Limits.{most_names, most_cells, most_operations}
use Rattle.op_graph.specs.declared.op.Op.{Op}
use Rattle.op_graph.specs.declared.op.Cell.{Cell}
use Rattle.op_graph.specs.declared.op.Loaded.{Loaded}
use Rattle.op_graph.specs.Lists.{Lists, cells, joined}
use Rattle.op_graph.specs.Rules.{Each, LoadFits, StoreFits, LoadedBefore, scope, Operates, PlaceFits, Admitted}
use Rattle.image_file.specs.Entries.{cell_piece}
use Rattle.image_file.specs.Image.{parts_of, said, load_of, store_of, image_piece, head_piece, counts_piece, entry_counts, later_counts, later_lists}
use Rattle.image_file.specs.Graphs.{HasImage, lists_of}
use Rattle.image_file.proofs.FittingLists.{names_fit, inputs_fit, outputs_fit, turns_fit, le_true}
use Rattle.image_file.proofs.FittingOperations.{operations_fit, Sized}
use Rattle.image_file.proofs.Admits.{GraphLaws, all_from_get, inputs_admitted, outputs_admitted}
use Rattle.image_file.proofs.Kept.{and, all_rises}

abbrev cell_of : Loaded → ℕ → Cell
cell_of l n = record { name = l.name; ty = l.ty; init = l.init; load = l.load; store = n }

joined_push : (le : List Loaded) (se : List ℕ) (l : Loaded) (n : ℕ) → length se ≡ length le
    → joined (le ++ l ∷ []) (se ++ n ∷ []) ≡ joined le se ++ cell_of l n ∷ []
joined_push [] [] l n e = refl
joined_push [] (m ∷ se) l n e = absurd (omega arith)
joined_push (k ∷ le) [] l n e = absurd (omega arith)
joined_push (k ∷ le) (m ∷ se) l n e = ap (λ r. cell_of k m ∷ r) (joined_push le se l n (omega arith))

all_loads : (le : List Loaded) (se : List ℕ) (n : ℕ) → All (λ m. m.load < n) le → All (λ c. c.load < n) (joined le se)
all_loads [] se n all = All-nil (λ c. c.load < n)
all_loads (l ∷ le) [] n all = All-nil (λ c. c.load < n)
all_loads (l ∷ le) (m ∷ se) n all =
    All-cons (λ c. c.load < n) (cell_of l m) (joined le se) (all 0 l (omega arith)) (all_loads le se n (λ i d lt. all (suc i) d (omega arith)))

all_stores : (le : List Loaded) (se : List ℕ) (n : ℕ) → All (λ m. m < n) se → All (λ c. c.store < n) (joined le se)
all_stores [] se n all = All-nil (λ c. c.store < n)
all_stores (l ∷ le) [] n all = All-nil (λ c. c.store < n)
all_stores (l ∷ le) (m ∷ se) n all =
    All-cons (λ c. c.store < n) (cell_of l m) (joined le se) (all 0 m (omega arith)) (all_stores le se n (λ i d lt. all (suc i) d (omega arith)))

length-joined : (ls : List Loaded) (ss : List ℕ) → length ss ≡ length ls → length (joined ls ss) ≡ length ls
length-joined [] ss e = refl
length-joined (l ∷ ls) [] e = absurd (omega arith)
length-joined (l ∷ ls) (n ∷ ss) e = let h = length-joined ls ss (omega arith) in omega arith

get_mid : (le : List Loaded) (l : Loaded) (ls : List Loaded) → slice_get (le ++ l ∷ ls) (length le) ≡ Some l
get_mid [] l ls = refl
get_mid (k ∷ le) l ls = get_mid le l ls

pub cells_fit : (p : Profile) (names operations : ℕ) (all le ls : List Loaded) (se ss : List ℕ) → names ≤ most_names → operations ≤ most_operations
    → length ss ≡ length ls → length se ≡ length le → all ≡ le ++ ls → All (λ l. FitsSigned w64 l.init) ls → All (λ l. admits p l.ty ≡ true) ls
    → Each (LoadFits names operations) le ls → Each (StoreFits all operations) se ss
    → Each (λ b. (cell_piece p names operations b).fits) (joined le se) (joined ls ss)
unfolding cell_piece
cells_fit p names operations all le [] se ss few short len before e wide types hl hs = tt
cells_fit p names operations all le (l ∷ ls) se [] few short len before e wide types hl hs = absurd (omega arith)
cells_fit p names operations all le (l ∷ ls) se (n ∷ ss) few short len before e wide types hl hs =
    let f = hl.0 in
    let g = hs.0 in
    let here : slice_get all (length se) ≡ Some l = ap (λ k. slice_get all k) before ∙ ap (λ x. slice_get x (length le)) e ∙ get_mid le l ls in
    let later : l.load < n = subst (λ o. LoadedBefore o n) here g.after_load in (
      (
        (omega (arith, f.name), lt-ltb _ _ f.name),
        (
          (types 0 l (omega arith), refl),
          (
            (wide 0 l (omega arith), f.init),
            (
              (
                omega (arith, f.load),
                and _ _ (lt-ltb _ _ f.load)
                    (all_rises (λ (c : Cell). c.load) l.load (joined le se) (all_loads le se l.load f.load_rises)),
              ),
              (
                (
                  omega (arith, g.store),
                  and _ _ (and _ _ (lt-ltb _ _ later) (lt-ltb _ _ g.store))
                      (all_rises (λ (c : Cell). c.store) n (joined le se) (all_stores le se n g.store_rises)),
                ),
                tt,
              ),
            ),
          ),
        ),
      ),
      subst (λ b. Each (λ b. (cell_piece p names operations b).fits) b (joined ls ss)) (joined_push le se l n before)
          (cells_fit p names operations all (le ++ l ∷ []) ls (se ++ n ∷ []) ss few short (omega arith)
          (omega (arith, length-append le (l ∷ []), length-append se (n ∷ []))) (e ∙ sym (append_assoc le (l ∷ []) ls))
          (λ i d lt. wide (suc i) d (omega arith)) (λ i d lt. types (suc i) d (omega arith)) hl.1 hs.1),
    )

pub loads_back : (ls : List Loaded) (ss : List ℕ) → length ss ≡ length ls → map load_of (joined ls ss) ≡ ls
loads_back [] ss e = refl
loads_back (l ∷ ls) [] e = absurd (omega arith)
loads_back (l ∷ ls) (n ∷ ss) e = ap (λ r. l ∷ r) (loads_back ls ss (omega arith))

pub stores_back : (ls : List Loaded) (ss : List ℕ) → length ss ≡ length ls → map store_of (joined ls ss) ≡ ss
stores_back [] [] e = refl
stores_back [] (n ∷ ss) e = absurd (omega arith)
stores_back (l ∷ ls) [] e = absurd (omega arith)
stores_back (l ∷ ls) (n ∷ ss) e = ap (λ r. n ∷ r) (stores_back ls ss (omega arith))

sizes : (p : Profile) (ops : List Op) → All (λ o. PlaceFits o.spot) ops → All (λ o. FitsSigned w64 o.imm) ops → All (Admitted p) ops → All (Sized p) ops
sizes p ops places imms types = λ k d lt. (places k d lt, imms k d lt, types k d lt)

scope_back : (g : Lists) (ls : List Loaded) (ss : List ℕ) → ls ≡ g.loads → ss ≡ g.stores
    → scope g ≡ record { inputs = g.inputs; outputs = g.outputs; loads = ls; stores = ss }
scope_back g ls ss e f = ap (λ x. record { inputs = g.inputs; outputs = g.outputs; loads = x; stores = g.stores }) (sym e)
    ∙ ap (λ x. record { inputs = g.inputs; outputs = g.outputs; loads = ls; stores = x }) (sym f)

pub graph_fits : GraphLaws → (g : Lists) (seed step : ℕ) → HasImage g seed step → image_piece.fits (parts_of g seed step)
unfolding image_piece later_lists head_piece counts_piece entry_counts later_counts
graph_fits laws g seed step h =
    let p = h.graph.part in
    let inits : All (λ l. FitsSigned w64 l.init) g.loads = all_from_get (λ l. FitsSigned w64 l.init) g.loads (λ k l e. laws.init g k l p e) in
    let imms : All (λ o. FitsSigned w64 o.imm) g.operations = all_from_get (λ o. FitsSigned w64 o.imm) g.operations (λ k o e. laws.imm g k o p e) in
    let len : length (cells g) ≡ length g.loads = length-joined g.loads g.stores h.graph.all_stored in
    let s = said g.profile seed step g.inputs g.outputs (cells g) (length g.turn_nodes) in
    let same : scope g ≡ s.scope =
    scope_back g (map load_of (cells g)) (map store_of (cells g)) (loads_back g.loads g.stores h.graph.all_stored)
    (stores_back g.loads g.stores h.graph.all_stored) in (
      (
        (omega arith, refl),
        (
          (omega arith, refl),
          (
            (omega arith, refl),
            (
              (omega arith, refl),
              (
                (omega arith, refl),
                (
                  (omega arith, refl),
                  (
                    (omega arith, refl),
                    (
                      (omega arith, refl),
                      (
                        (tt, refl),
                        (
                          (omega (arith, h.step_to), and _ _ (le_true _ _ h.step_from) (le_true _ _ h.step_to)),
                          (
                            (omega (arith, h.seed_to), lt-ltb _ _ h.seed_to),
                            (
                              (omega (arith, p.few_names), le_true _ _ p.few_names),
                              (
                                (omega (arith, p.few_inputs), le_true _ _ p.few_inputs),
                                (
                                  (omega (arith, p.few_outputs), le_true _ _ p.few_outputs),
                                  (
                                    (omega (arith, p.few_cells), le_true (length (cells g)) most_cells (omega (arith, p.few_cells))),
                                    (
                                      (omega (arith, p.few_turn_nodes), le_true _ _ p.few_turn_nodes),
                                      (
                                        (
                                          omega (arith, p.few_operations),
                                          and _ _
                                              (le_true (length g.inputs + length g.outputs + 2 * length (cells g)) (length g.operations) (omega (
                                                arith,
                                                p.enough_operations,
                                                h.graph.all_stored,
                                              )))
                                              (le_true _ _ p.few_operations),
                                        ),
                                        tt,
                                      ),
                                    ),
                                  ),
                                ),
                              ),
                            ),
                          ),
                        ),
                      ),
                    ),
                  ),
                ),
              ),
            ),
          ),
        ),
      ),
      (
        (refl, names_fit g.names p.names),
        (
          (refl, inputs_fit g.profile (length g.names) g.inputs p.few_names (inputs_admitted laws g h.graph) p.inputs),
          (
            (
              refl,
              outputs_fit g.profile (length g.names) (length g.operations) g.outputs p.few_names p.few_operations
                  (outputs_admitted laws g h.graph) p.outputs,
            ),
            (
              (
                refl,
                cells_fit g.profile (length g.names) (length g.operations) g.loads [] g.loads [] g.stores p.few_names p.few_operations
                    h.graph.all_stored refl refl inits p.types.loads p.loads p.stores,
              ),
              (
                (refl, turns_fit (length g.names) g.turn_nodes p.few_names p.few_turn_nodes p.widths.values p.turn_nodes),
                (
                  (
                    refl,
                    operations_fit s g.operations p.few_operations p.few_turn_nodes (sizes g.profile g.operations p.widths.places imms p.types.operations)
                        (subst (λ x. Each (Operates x (length g.turn_nodes)) [] g.operations) same p.operations),
                  ),
                  tt,
                ),
              ),
            ),
          ),
        ),
      ),
    )

-- a graph is what its parts say
pub lists_back : (g : Lists) (seed step : ℕ) → HasImage g seed step → lists_of (parts_of g seed step) ≡ g
lists_back g seed step h =
    ap (λ x. record {
      profile = g.profile;
      names = g.names;
      inputs = g.inputs;
      outputs = g.outputs;
      loads = x;
      stores = map store_of (cells g);
      turn_nodes =
          g.turn_nodes;
      operations = g.operations;
    }) (loads_back g.loads g.stores h.graph.all_stored)
    ∙ ap (λ x. record {
      profile = g.profile;
      names = g.names;
      inputs = g.inputs;
      outputs = g.outputs;
      loads = g.loads;
      stores = x;
      turn_nodes =
          g.turn_nodes;
      operations = g.operations;
    }) (stores_back g.loads g.stores h.graph.all_stored)
