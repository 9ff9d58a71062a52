-- The ticket that a run has when it is sealed.
use Rattle.std.proofs.Common.{◌≡◌, ℕ, ◌+◌, Some, List, ◌∷◌, sym, ap, ◌∙◌}
use Rattle.mdb_base.specs.declared.names.Engine.{Engine}
use Rattle.mdb_base.specs.declared.names.Engine.TheVariants.{Locking, Timestamp, Validation, Multiversion}
use Rattle.mdb_base.specs.declared.names.Tid.{Tid}
use Rattle.mdb_base.proofs.ForCallers.{some_parts}
use Rattle.fed_rules.specs.EngineLines.{IsLive, IsRight, IsStart}
use Rattle.fed_rules.specs.Replies.{invalid, moved, seal_stop}
use Rattle.fed_rules.specs.Runs.{EngineLine, Run, Seals, Start, published}
use Rattle.engine_laws.proofs.AgeTickets.{age_one_taker}
use Rattle.engine_laws.proofs.LockingTickets.{locking_one_taker}
use Rattle.engine_laws.proofs.MultiversionRuns.{multiversion_by_age}
use Rattle.engine_laws.proofs.TimestampRuns.{timestamp_by_age}
use Rattle.engine_laws.proofs.ValidationRuns.{or_why_none}
use Rattle.engine_laws.proofs.ValidationTickets.{owned, unmoved}

-- at its sealing a run has the ticket behind the published one, by each of the rules
pub ticket_is_next : (kind : Engine) → (start : Start) (lines : List EngineLine) (tid : Tid) (n t : ℕ) (run : Run) → start.kind ≡ kind
    → IsStart start → IsRight start (Seals tid n ∷ lines) → IsLive start lines tid run → run.ticket ≡ Some t → t ≡ published start lines + 1
ticket_is_next Locking start lines tid n t run kind begun right live taken = (locking_one_taker start lines kind right.1).next tid run live.0 live.1 t taken
ticket_is_next Timestamp start lines tid n t run kind begun right live taken = (age_one_taker Timestamp timestamp_by_age start lines kind begun right.1).next tid run live.0 live.1 t taken
ticket_is_next Multiversion start lines tid n t run kind begun right live taken = (age_one_taker Multiversion multiversion_by_age start lines kind begun right.1).next tid run live.0 live.1 t taken
ticket_is_next Validation start lines tid n t run kind begun right live taken =
    let (r, (was, stop, next)) = right.0 in
    let same : r ≡ run = some_parts (sym was.0 ∙ live.0) in
    let passed = (or_why_none (invalid start lines r) (moved start lines r.ticket) (sym (ap (λ k. seal_stop k start lines r) kind) ∙ stop)).1 in
    unmoved start lines t (owned start lines kind right.1 tid run live.0 live.1 t taken)
    (ap (moved start lines) (sym taken ∙ sym (ap (λ (q : Run). q.ticket) same)) ∙ passed)
