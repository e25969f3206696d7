-- Firsts: what is reached first from several starts, and what is reported by that.
use Rattle.std.specs.Prelude.{◌≡◌, ℕ, ◌≤◌, Bool, nat_le, nat_lt, cond, List, slice_get, Option, Some, None}
use Rattle.std.specs.Option.{is_some}
use Rattle.op_graph.specs.declared.op.Outlet.{Outlet}
use Rattle.op_graph.specs.Lists.{Lists}
use Rattle.fault_cover.specs.Sources.{Refuses, Source, comes}
use Rattle.fault_cover.specs.declared.nearest.Nearest.{Nearest}
use Rattle.fault_cover.specs.declared.starts.Start.{Start}
use Rattle.fault_cover.specs.declared.telling.Outlook.{Outlook}
use Rattle.fault_cover.specs.declared.telling.Outlook.TheVariants as outlook
use Rattle.fault_cover.specs.declared.effect.Effect.{Effect}
use Rattle.fault_cover.specs.declared.effect.Effect.TheVariants as told
use Rattle.fault_cover.specs.Walks.{further, kept, NotFurther}

-- what is found for one of the starts, and for none of them anything nearer
pub record IsFirstOf (found : List (Option Nearest)) (starts : List Start) (first : Option Nearest) : Type 0 where
  pub reached : (n : Nearest) → first ≡ Some n → (i : ℕ) × (s : Start) × (slice_get starts i ≡ Some s) × (further (kept found s.op) s.borders ≡ Some n)
  pub least : (i : ℕ) (s : Start) → slice_get starts i ≡ Some s → NotFurther first (further (kept found s.op) s.borders)

-- where no output is reached within the horizon
abbrev pub behind : ℕ → Option Nearest → Option Nearest → Effect
behind horizon output None = cond (is_some output) told.Beyond told.Nothing
behind horizon output (Some q) = cond (nat_le q.borders horizon) (told.RunsOn q.borders q.op) told.Beyond

-- where one is
abbrev pub before : Nearest → Option Nearest → Outlook
before n None = outlook.Outputs n
before n (Some q) = cond (nat_lt q.borders n.borders) (outlook.Is (told.RunsOn q.borders q.op)) (outlook.Outputs n)

abbrev pub outlook_of : ℕ → Option Nearest → Option Nearest → Outlook
outlook_of horizon None stop = outlook.Is (behind horizon None stop)
outlook_of horizon (Some n) stop = cond (nat_le n.borders horizon) (before n stop) (outlook.Is (behind horizon (Some n) stop))

-- ---- what arrives at outputs

-- some output refuses what arrives at it
pub record OneRefuses (g : Lists) (borders : ℕ) (any : Bool) (from : List Source) : Type 0 where
  pub output : ℕ
  pub outlet : Outlet
  pub there : slice_get g.outputs output ≡ Some outlet
  pub refuses : Refuses g.profile any (comes g outlet.op borders from)

-- none of the outputs from this one on does
abbrev pub NoneRefuses : Lists → ℕ → ℕ → Bool → List Source → Type 0
NoneRefuses g first borders any from = (i : ℕ) (o : Outlet) → first ≤ i → slice_get g.outputs i ≡ Some o → Refuses g.profile any (comes g o.op borders from) → ⊥

-- what is reported where outputs are reached first, across so many borders
abbrev pub ToldAt : Lists → ℕ → ℕ → Bool → List Source → Effect → Type 0
ToldAt g first borders any from (told.Refused n) = (n ≡ borders) × OneRefuses g borders any from
ToldAt g first borders any from (told.Shows n output) = (n ≡ borders) × (output ≡ first) × NoneRefuses g first borders any from
ToldAt g first borders any from told.Nothing = ⊥
ToldAt g first borders any from (told.RunsOn n q) = ⊥
ToldAt g first borders any from told.Beyond = ⊥
