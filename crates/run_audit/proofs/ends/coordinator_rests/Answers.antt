use Rattle.std.proofs.Common.{List, sym, ap, ◌∙◌}
use Rattle.mdb_base.specs.declared.names.Tid.{Tid}
use Rattle.mdb_base.specs.Words.{is_empty}
use Rattle.fed_rules.specs.Sessions.{fresh}
use Rattle.fed_rules.specs.Story.{story_of}
use Rattle.run_audit.proofs.Rests.{coordinator_armed, coordinator_quiet, coordinator_stopped}
use Rattle.run_audit.proofs.ends.coordinator_rests.Goals as goal

pub returns-then-is_down : goal.returns-then-is_down
returns-then-is_down c = λ scenario commands r.
    coordinator_stopped scenario (story_of scenario commands) (c.if-is_down.ensures _ _ (c.core-core.ensures.held _ _ _ (c.coordinator.ensures (fresh scenario) commands r)))

pub returns-then-is_armed : goal.returns-then-is_armed
returns-then-is_armed c = λ scenario commands r.
    let holds = c.core-core.ensures.held _ _ _ (c.coordinator.ensures (fresh scenario) commands r) in
    coordinator_armed scenario (story_of scenario commands) (c.if-is_down.ensures _ _ holds) (c.if-is_armed.ensures _ _ holds)

pub returns : goal.returns
returns c = λ scenario commands r.
    let holds = c.core-core.ensures.held _ _ _ (c.coordinator.ensures (fresh scenario) commands r) in
    c.are_none.ensures
    ∙ (ap (λ (tids : List Tid). is_empty tids) c.as_slice.ensures.value
    ∙ coordinator_quiet scenario (story_of scenario commands) c.in_ok-known.known.items (c.if-is_down.ensures _ _ holds) (c.if-is_armed.ensures _ _ holds) (c.in_ok-known.ensures _ _ holds (sym (c.if-is_down.ensures _ _ holds))))
