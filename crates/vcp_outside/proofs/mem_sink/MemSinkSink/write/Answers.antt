use Rattle.std.proofs.Common.{◌≡◌, ◌≤◌, ◌<◌, ◌+◌, ◌-◌, ◌^◌, ◌==◌, Bool, true, false, cond, Ok, ◌∙◌, ap, sym, subst, refl, ℕ, List, [], ◌++◌, take, length, min, append-nil, arith}
use Rattle.std.proofs.lemmas.Bool.{false≢true, eqb-true, eqb-false}
use Rattle.vcp_outside.specs.FailingCalls.{CallCount, one_more}
use Rattle.vcp_outside.specs.MemSink.{SinkInMemory}
use Rattle.vcp_outside.proofs.Causes.{cause_stays}
use Rattle.vcp_outside.proofs.mem_sink.MemSinkSink.write.Goals as goal

min_first : (a b : ℕ) → min a b ≤ a
min_first a b = omega arith

min_some : {n a b : ℕ} → n ≡ min a b → ¬ (b ≡ 0) → 0 < a → 0 < n
min_some is there some = omega (arith, is, there, some)

min_none : {n a : ℕ} (b : ℕ) → n ≡ min a b → a ≡ 0 → n ≡ 0
min_none b is none = omega (arith, is, none)

pub returns-clause-some : goal.returns-clause-some
returns-clause-some c = min_some c.min-count.ensures c.if-left-eq0.false

pub returns-clause-empty : goal.returns-clause-empty
returns-clause-empty c = λ none. ap Ok (min_none _ c.min-count.ensures none)

pub returns-clause-cause : goal.returns-clause-cause
returns-clause-cause c = cause_stays (ap (λ (s : SinkInMemory). s.faults) c.self.view_is)

pub returns-clause-bytes : goal.returns-clause-bytes
returns-clause-bytes c = c.in-Ok.ensures.items ∙ ap (λ (s : SinkInMemory). s.bytes ++ take c.min-count.result c.args.piece.now) c.self.view_is

pub returns-clause-err : goal.returns-clause-err
returns-clause-err c = tt

pub returns-then-is_empty-clause-err : goal.returns-then-is_empty-clause-err
returns-then-is_empty-clause-err c = tt

pub returns-then-next-clause-bound : goal.returns-then-next-clause-bound
returns-then-next-clause-bound c = tt

pub returns-then-next-clause-some : goal.returns-then-next-clause-some
returns-then-next-clause-some c = tt

pub returns-then-next-clause-count : goal.returns-then-next-clause-count
returns-then-next-clause-count c = tt

pub returns-then-next-clause-ok : goal.returns-then-next-clause-ok
returns-then-next-clause-ok c = tt

pub returns-then-next-clause-bytes : goal.returns-then-next-clause-bytes
returns-then-next-clause-bytes c = ap (λ (s : SinkInMemory). s.bytes) c.self.view_is

pub returns-then-is_empty-clause-cause : goal.returns-then-is_empty-clause-cause
returns-then-is_empty-clause-cause c = cause_stays refl

pub returns-then-is_empty-clause-bytes : goal.returns-then-is_empty-clause-bytes
returns-then-is_empty-clause-bytes c = sym (append-nil c.args.self.now.bytes)

pub returns-clause-bound : goal.returns-clause-bound
returns-clause-bound c = rw c.min-count.ensures (min_first (length c.args.piece.now) _)

pub returns-clause-count : goal.returns-clause-count
returns-clause-count c = c.min-count.ensures ∙ ap (λ n. min (length c.args.piece.now) (c.self.inside.room - n)) (c.len.ensures ∙ c.self.inside.bytes.ok.0)
    ∙ ap (λ (s : SinkInMemory). min (length c.args.piece.now) (s.room - length s.bytes)) c.self.view_is

-- a piece of no bytes

nothing : {n : ℕ} (empty : Bool) → empty ≡ (n == 0) → empty ≡ true → n ≡ 0
nothing {n = n} empty told is = eqb-true n 0 (sym told ∙ is)

something : {n : ℕ} (empty : Bool) → empty ≡ (n == 0) → empty ≡ false → n ≡ 0 → ⊥
something {n = n} empty told is none = eqb-false n 0 (sym told ∙ is) none

never_fails : {n : ℕ} {P : Type 0} → n ≡ 0 → (false ≡ true → (0 < n) × P) × ((0 < n) × P → false ≡ true)
never_fails none = (λ e. absurd (false≢true e), λ some. absurd (omega (arith, none, some.0)))

least_none : {n : ℕ} (room : ℕ) → n ≡ 0 → 0 ≡ min n room
least_none room none = omega (arith, none)

unchanged : (s : SinkInMemory) (piece : List ℕ) → (length piece == 0) ≡ true
    → s ≡ record s { bytes = s.bytes ++ []; calls = cond (length piece == 0) s.calls (one_more s.calls) }
unchanged s piece none =
    ap (λ (xs : List ℕ). record s { bytes = xs }) (sym (append-nil s.bytes))
    ∙ ap (λ (b : Bool). record s { bytes = s.bytes ++ []; calls = cond b s.calls (one_more s.calls) }) (sym none)

pub returns-then-is_empty-clause-fails : goal.returns-then-is_empty-clause-fails
returns-then-is_empty-clause-fails c = never_fails (nothing c.is_empty.result c.is_empty.ensures c.if-is_empty.true)

pub returns-then-is_empty-clause-count : goal.returns-then-is_empty-clause-count
returns-then-is_empty-clause-count c = least_none _ (nothing c.is_empty.result c.is_empty.ensures c.if-is_empty.true)

pub returns-then-is_empty-clause-ok : goal.returns-then-is_empty-clause-ok
returns-then-is_empty-clause-ok c = unchanged c.args.self.now c.args.piece.now (sym c.is_empty.ensures ∙ c.if-is_empty.true)

-- a piece that isn't written, or some of it

failed_now : {inside sink : SinkInMemory} (faults : ℕ) (calls : CallCount) → inside ≡ sink → faults ≡ min (inside.faults + 1) (2 ^ 64 - 1)
    → calls ≡ one_more inside.calls → record inside { faults = faults; calls = calls }
    ≡ record sink { faults = min (sink.faults + 1) (2 ^ 64 - 1); calls = one_more sink.calls }
failed_now {inside = inside} faults calls same more next =
    ap (λ (n : ℕ). record inside { faults = n; calls = calls }) more
    ∙ ap (λ (n : CallCount). record inside { faults = min (inside.faults + 1) (2 ^ 64 - 1); calls = n }) next
    ∙ ap (λ (s : SinkInMemory). record s { faults = min (s.faults + 1) (2 ^ 64 - 1); calls = one_more s.calls }) same

written_now : {inside sink : SinkInMemory} (bytes front piece : List ℕ) (calls : CallCount) → inside ≡ sink → bytes ≡ inside.bytes ++ front
    → calls ≡ one_more inside.calls → (length piece == 0) ≡ false → record inside { bytes = bytes; calls = calls }
    ≡ record sink { bytes = sink.bytes ++ front; calls = cond (length piece == 0) sink.calls (one_more sink.calls) }
written_now {inside = inside} {sink = sink} bytes front piece calls same more next some =
    ap (λ (xs : List ℕ). record inside { bytes = xs; calls = calls }) more
    ∙ ap (λ (n : CallCount). record inside { bytes = inside.bytes ++ front; calls = n }) next
    ∙ ap (λ (s : SinkInMemory). record s { bytes = s.bytes ++ front; calls = one_more s.calls }) same
    ∙ ap (λ (b : Bool). record sink { bytes = sink.bytes ++ front; calls = cond b sink.calls (one_more sink.calls) }) (sym some)

pub overflow_sub-left : goal.overflow_sub-left
overflow_sub-left c = subst (λ (n : ℕ). n ≤ c.self.inside.room) (sym c.len.ensures) c.self.invariant.0

pub invariant_of-self : goal.invariant_of-self
invariant_of-self c = c.self.invariant

pub returns-then-next-clause-empty : goal.returns-then-next-clause-empty
returns-then-next-clause-empty c none = absurd (something c.is_empty.result c.is_empty.ensures c.if-is_empty.false none)

pub returns-then-next-clause-err : goal.returns-then-next-clause-err
returns-then-next-clause-err c =
    failed_now c.saturating_add-self-inside.result c.next.new.self c.self.view_is c.saturating_add-self-inside.ensures c.next.ensures.counted

pub returns-clause-ok : goal.returns-clause-ok
returns-clause-ok c =
    written_now c.extend_from_slice.new.self.items _ c.args.piece.now c.next.new.self c.self.view_is c.in-Ok.ensures.items c.next.ensures.counted
    (sym c.is_empty.ensures ∙ c.if-is_empty.false)
