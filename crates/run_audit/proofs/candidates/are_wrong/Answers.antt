use Rattle.std.proofs.Common.{◌≡◌, true, not, List, reverse, sym, ap, subst, ◌∙◌}
use Rattle.std.proofs.lemmas.List.{reverse-reverse}
use Rattle.mdb_base.proofs.ForCallers.{some_parts}
use Rattle.fed_rules.specs.declared.records.CoordRecord.{CoordRecord}
use Rattle.fed_rules.specs.CoordPast.{journal}
use Rattle.fed_rules.specs.Scenarios.{policy, protocols}
use Rattle.fed_rules.specs.Story.{coord_past, story_of}
use Rattle.fed_rules.specs.Sessions.{fresh}
use Rattle.audit_lines.specs.declared.votes.Candidate.{Candidate}
use Rattle.audit_lines.specs.Edges.{goes_round}
use Rattle.run_audit.proofs.Told.{wrong_told}
use Rattle.run_audit.proofs.candidates.are_wrong.Goals as goal

pub returns-in-Some : goal.returns-in-Some
returns-in-Some c = λ scenario commands r.
    let past = coord_past (story_of scenario commands) in
    let holds = c.core.ensures.held _ _ past (c.coordinator.ensures (fresh scenario) commands r) in
    let whole : reverse c.records-records.result.now ≡ journal past =
    ap (λ (rs : List CoordRecord). reverse rs) (c.records-records.ensures _ past holds) ∙ reverse-reverse (journal past) in
    wrong_told scenario (story_of scenario commands) c.args.command c.args.edges.now (not c.goes_round.result) c.in_ok-candidate.field-0
    (c.in_ok-candidate.ensures scenario commands r)
    (c.coordinators_disks_say_all.ensures.going_on (protocols scenario) (policy scenario) past holds.sound.made)
    (λ candidate is.
    let same : c.in-Some.candidate ≡ candidate = some_parts (sym c.in-Some.is ∙ is) in
    ap not
    (subst (λ (v : Candidate). c.goes_round.result ≡ goes_round v.tid v.tickets.items (journal past) c.args.edges.now) same
    (subst (λ (rs : List CoordRecord). c.goes_round.result ≡ goes_round c.in-Some.candidate.tid c.in-Some.candidate.tickets.items rs c.args.edges.now) whole c.goes_round.ensures)))

pub returns-in-None : goal.returns-in-None
returns-in-None c = λ scenario commands r.
    let past = coord_past (story_of scenario commands) in
    let holds = c.core.ensures.held _ _ past (c.coordinator.ensures (fresh scenario) commands r) in
    wrong_told scenario (story_of scenario commands) c.args.command c.args.edges.now true c.in_ok-candidate.field-0
    (c.in_ok-candidate.ensures scenario commands r)
    (c.coordinators_disks_say_all.ensures.going_on (protocols scenario) (policy scenario) past holds.sound.made)
    (λ candidate is. (let none = sym c.in-None.is ∙ is in cc))
