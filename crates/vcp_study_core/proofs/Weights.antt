-- Weights: an image whose graph has too many weights.
use Rattle.std.proofs.Common.{◌≡◌, ◌<◌, ◌≤◌, inl, inr, ℕ, suc, Bool, List, Ok, Err, refl, arith}
use Rattle.std.proofs.Math.Nat.{lt_of_not-le}
use Rattle.vcp_base.specs.Limits.{most_horizon}
use Rattle.vcp_outside.specs.Held.{Held}
use Rattle.vcp_outside.specs.Seen.{SinkSeen}
use Rattle.op_graph.specs.Lists.{Lists}
use Rattle.weight_audit.specs.Audit.{Audit, IsAudit, most_weights, weights_up_to}
use Rattle.weight_audit.specs.declared.kept.AuditFault.{AuditFault}
use Rattle.weight_audit.specs.declared.kept.AuditFault.TheVariants as audit_fault
use Rattle.pictures.specs.Arrangement.{Arrangement, IsArranged}
use Rattle.pictures.specs.Elements.{IsGraphPicture, graph_text}
use Rattle.pictures.specs.DotText.{IsDotOf, dot_text}
use Rattle.vcp_inputs.specs.declared.images.Image.{Image}
use Rattle.vcp_inputs.specs.declared.refusal.NoInput.{NoInput}
use Rattle.vcp_inputs.specs.declared.refusal.NoInput.TheVariants as input
use Rattle.vcp_inputs.specs.declared.refusal.Refusal.TheVariants as refusal
use Rattle.vcp_inputs.specs.Lines.{input_text, input_status}
use Rattle.vcp_inputs.specs.Weights.{NoWeights}
use Rattle.vcp_study_core.specs.CarriedOut.{WritesSo, CarriedOut, done, cut, unmade}
use Rattle.vcp_study_core.specs.FromFiles.{input_answer}
use Rattle.vcp_study_core.specs.Forms.{IsSoundStudy, drawn}
use Rattle.vcp_study_core.specs.Tasks.{StudyOf}
use Rattle.vcp_study_core.specs.Texts.{Draws, WritesOne, Weighed, too_large, few}
use Rattle.vcp_study_core.specs.declared.command.Drawing.{Drawing}
use Rattle.vcp_study_core.specs.declared.command.Drawing.TheVariants as drawing
use Rattle.vcp_study_core.proofs.Carrying.{no_memory, refused}
use Rattle.vcp_study_core.proofs.Facts.{appends-nothing}

-- there are no weights of its graph: memory was wanted, or they are too many
pub unweighed : (horizon : ℕ) (m : List ℕ) (i : Image) (Is : List ℕ → Bool → Type 0) (old : SinkSeen) (e : NoInput)
    → NoWeights i horizon e → WritesSo (Weighed horizon m i Is) old old (input_text m e) (input_status e)
unweighed horizon m i Is old e (inl memory) = rw memory (no_memory (Weighed horizon m i Is) old old (appends-nothing old.written))
unweighed horizon m i Is old e (inr (audit, more)) =
    rw audit (refused (Weighed horizon m i Is) old old (input_answer m (input.Refused refusal.Audit)) (too_large more refl) refl refl (appends-nothing old.written))

-- what is made where there aren't too many is made of few, and what is refused as too large has more
clash : {T E : Type 0} (v : T) (e : E) → Ok v ≡ Err e → ⊥
clash v e is = cc

pub few_where : {T E : Type 0} (n most : ℕ) (v : T) (e : E) → (most < n → Ok v ≡ Err e) → n ≤ most
few_where n most v e is = let below : n < suc most = lt_of_not-le (λ more. clash v e (is more)) in omega (arith, below)

pub many_where : (n most : ℕ) (e : AuditFault) → (n ≤ most → e ≡ audit_fault.Memory) → (cells : ℕ) → e ≡ audit_fault.TooLarge cells → most < n
many_where n most e unless cells is = lt_of_not-le (λ le. differ e cells is (unless le))
  where
    differ : (e : AuditFault) (cells : ℕ) → e ≡ audit_fault.TooLarge cells → e ≡ audit_fault.Memory → ⊥
    differ e cells is memory = cc

-- they are few enough, and a text is written
pub weighed : (horizon : ℕ) (m : List ℕ) (i : Image) (Is : List ℕ → Bool → Type 0) (old new : SinkSeen) (line : List ℕ) (code : ℕ)
    → weights_up_to i.graph horizon ≤ most_weights → WritesSo (WritesOne Is) old new line code → WritesSo (Weighed horizon m i Is) old new line code
weighed horizon m i Is old new line code le w = record { reaches = by w.reaches; statuses = w.statuses; write = w.write }
  where
    by : CarriedOut (WritesOne Is) old new line code → CarriedOut (Weighed horizon m i Is) old new line code
    by (done x is appends told same) = done x (few le is) appends told same
    by (cut x is appends told same) = cut x (few le is) appends told same
    by (unmade appends told same) = unmade appends told same

-- the texts of a graph
pub picture : (g : Lists) (horizon : ℕ) (a : Audit) → IsAudit g horizon a → (l : Arrangement) → IsArranged g l
    → IsGraphPicture g horizon (graph_text g a horizon l)
picture g horizon a is l arranged = record { audit = a; is = is; arrangement = l; arranged = arranged; told = refl }

pub dot_of : (g : Lists) (horizon : ℕ) (a : Audit) → IsAudit g horizon a → IsDotOf g horizon (dot_text g a horizon)
dot_of g horizon a is = record { audit = a; is = is; told = refl }

-- a horizon that is sound is one that an audit may have
pub drawn_horizon : (horizon : ℕ) (how : Drawing) → IsSoundStudy (drawn horizon how) → horizon ≤ most_horizon
drawn_horizon horizon drawing.Picture h = h
drawn_horizon horizon drawing.Dot h = h

-- a graph that has too many weights isn't drawn in either way
pub undrawn : (horizon : ℕ) (how : Drawing) (m : List ℕ) (i : Image) (h : Held) (b n : ℕ) (old : SinkSeen) (e : NoInput) → NoWeights i horizon e
    → WritesSo (StudyOf (drawn horizon how) m i h b n) old old (input_text m e) (input_status e)
undrawn horizon drawing.Picture m i h b n old e none = unweighed horizon m i (Draws (IsGraphPicture i.graph horizon)) old e none
undrawn horizon drawing.Dot m i h b n old e none = unweighed horizon m i (Draws (IsDotOf i.graph horizon)) old e none
