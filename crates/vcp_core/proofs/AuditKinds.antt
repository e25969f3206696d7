-- What `audit` comes to where M was loaded.
use Rattle.std.proofs.Common.{ℕ, ◌≡◌, ◌≤◌, inl, inr, refl, sym, subst, List, [], length, Some}
use Rattle.vcp_base.specs.Limits.{most_image_bytes}
use Rattle.vcp_outside.specs.Held.{Held}
use Rattle.weight_audit.specs.Audit.{Audit, most_weights, weights_up_to, IsAudit}
use Rattle.weight_audit.specs.AuditText.{audit_text}
use Rattle.vcp_inputs.specs.Forms.{audit}
use Rattle.vcp_inputs.specs.declared.images.Image.{Image}
use Rattle.vcp_inputs.specs.declared.refusal.Refusal.TheVariants as refusal
use Rattle.vcp_inputs.specs.declared.refusal.NoInput.{NoInput}
use Rattle.vcp_inputs.specs.declared.refusal.NoInput.TheVariants as input
use Rattle.vcp_inputs.specs.Images.{ImageOf, NotImage}
use Rattle.vcp_inputs.specs.Lines.{input_status, input_text, refusal_text}
use Rattle.vcp_inputs.specs.Refusals.{IsCaused}
use Rattle.vcp_inputs.specs.Weights.{NoWeights}
use Rattle.vcp_inputs.specs.Abouts.{about}
use Rattle.vcp_inputs.specs.Kinds.{prints, refusal_task}
use Rattle.vcp_inputs.specs.Performing.{Reaches, done, unmade}
use Rattle.vcp_outside.specs.Seen.{FilesSeen}
use Rattle.coded_machine.specs.Moments.{Moment}
use Rattle.vcp_core.specs.Tasks.{Audited, too_large, TaskOf}
use Rattle.vcp_core.specs.Tasks as tasks
use Rattle.vcp_core.proofs.Performing.{file_takes, still}

-- its audit
pub audit_told : (m : List ℕ) (horizon : ℕ) (held : Held) (i : Image)
    → ((text : List ℕ) × (held m ≡ Some text) × (length text ≤ most_image_bytes) × ImageOf text i) → (a : Audit)
    → weights_up_to i.graph horizon ≤ most_weights → IsAudit i.graph horizon a → TaskOf (audit m horizon) held (prints (audit_text i.graph a horizon))
audit_told m horizon held i loads a few kept =
    file_takes ImageOf NotImage most_image_bytes (Audited horizon m) m held i (prints (audit_text i.graph a horizon)) loads
    (tasks.printed few (audit_text i.graph a horizon) (record { audit = a; is = kept; told = refl }))

-- where there are no weights, nothing was done
pub too_large_audit : (m : List ℕ) (horizon : ℕ) (held : Held) (i : Image) (files later : FilesSeen) (at : Moment) (e : NoInput)
    → ((text : List ℕ) × (held m ≡ Some text) × (length text ≤ most_image_bytes) × ImageOf text i) → NoWeights i horizon e →
    Reaches (about (audit m horizon)) (TaskOf (audit m horizon) held) files later at at (input_text m e) (input_status e)
too_large_audit m horizon held i files later at e loads (inl is) =
    subst (λ (x : NoInput). Reaches (about (audit m horizon)) (TaskOf (audit m horizon) held) files later at at (input_text m x) (input_status x))
    (sym is) (unmade (still at) refl refl)
too_large_audit m horizon held i files later at e loads (inr (is, large)) =
    let s = still at in
    subst (λ (x : NoInput). Reaches (about (audit m horizon)) (TaskOf (audit m horizon) held) files later at at (input_text m x) (input_status x))
    (sym is)
    (done (refusal_task m refusal.Audit) (record { out = []; err = refusal_text m refusal.Audit; status = 1 })
    (file_takes ImageOf NotImage most_image_bytes (Audited horizon m) m held i (refusal_task m refusal.Audit) loads (too_large large)) (refl, refl) s.out refl
    refl)

-- and it isn't for want of a file
pub weights_read : (i : Image) (horizon : ℕ) (e : NoInput) → NoWeights i horizon e → e ≡ input.Unread → ⊥
weights_read i horizon e (inl memory) is = cc
weights_read i horizon e (inr (because, more)) is = cc

-- they are refused for a cause
pub weights_caused : (i : Image) (horizon : ℕ) (e : NoInput) → NoWeights i horizon e → IsCaused e
weights_caused i horizon e (inl memory) = subst IsCaused (sym memory) tt
weights_caused i horizon e (inr (because, more)) = subst IsCaused (sym because) refl
