-- Joining: which operations are kept and which are joined, while `share` goes through them.
-- How the code finds what is joined, and no promise: what is promised is in Sharing.
use Rattle.std.specs.Prelude.{◌≡◌, ◌≢◌, ℕ, ◌<◌, Bool, true, false, List, [], ◌∷◌, ◌++◌, length, slice_get, Some}
use Rattle.vcp_base.specs.Spellings.{kind_code, ty_code}
use Rattle.op_graph.specs.declared.op.Op.{Op}
use Rattle.op_graph.specs.Lists.{Lists}
use Rattle.graph_passes.specs.declared.sharing.Work.{Work}
use Rattle.graph_passes.specs.Part.{Numbering, below, moved, work, JoinedTo}
use Rattle.graph_passes.specs.Sharing.{joins}
use Rattle.graph_passes.specs.Tables.{marked, number_at}

-- what an operation does, wherever it stands, over operands that are numbered anew
abbrev pub done_by : List ℕ → Op → Work
done_by numbers op = record {
  kind = kind_code op.kind;
  from = ty_code op.from;
  ty = ty_code op.ty;
  a = number_at numbers op.a;
  b = number_at numbers op.b;
  c = number_at numbers op.c;
  imm = op.imm;
}

-- an operation of this number does this, and nothing is entered
pub record IsFound (before after : List (Work × ℕ)) (done : Work) (number : ℕ) : Type 0 where
  pub place : ℕ
  pub there : slice_get before place ≡ Some (done, number)
  pub same : after ≡ before

-- no operation does this, and this one is entered
pub record IsEntered (before after : List (Work × ℕ)) (done : Work) (number : ℕ) : Type 0 where
  pub new : (p n : ℕ) → slice_get before p ≢ Some (done, n)
  pub entered : after ≡ before ++ (done, number) ∷ []

-- the numbering of what is shared: every operation stands, and every cell is kept
abbrev pub sharing : List Bool → List ℕ → Numbering
sharing kept numbers = record {
  kept = marked kept;
  stands = λ i. true;
  number = number_at numbers;
  kept_cell = λ k. true;
  cell_number = below (λ k. true);
}

-- Of the first n operations, each is kept, or joined to an earlier one that is kept and does the same; no two that are kept do the same.
pub record AreJoined (g : Lists) (n : ℕ) (kept : List Bool) (numbers : List ℕ) : Type 0 where
  pub many_kept : length kept ≡ n
  pub many_numbers : length numbers ≡ n
  pub kept_number : (i : ℕ) → marked kept i ≡ true → number_at numbers i ≡ below (marked kept) i
  pub first_number : number_at numbers 0 ≡ 0
  pub entries : (i : ℕ) (op : Op) → i < n → slice_get g.operations i ≡ Some op → joins op.kind ≡ false → marked kept i ≡ true
  pub joined : (i : ℕ) (op : Op) → i < n → slice_get g.operations i ≡ Some op → marked kept i ≡ false → JoinedTo (sharing kept numbers) g i op
  pub differ : (i j : ℕ) (p q : Op) → i < j → j < n → slice_get g.operations i ≡ Some p → slice_get g.operations j ≡ Some q →
      marked kept i ≡ true → marked kept j ≡ true → joins q.kind ≡ true → work (moved (sharing kept numbers) p) ≡ work (moved (sharing kept numbers) q) → ⊥
