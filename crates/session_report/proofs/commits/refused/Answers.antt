use Rattle.std.proofs.Common.{◌≡◌, ◌+◌, ◌||◌, drop, refl, sym, ap, ◌∙◌}
use Rattle.std.specs.BTreeSet.{BTreeSet, contains}
use Rattle.mdb_base.specs.declared.names.Tid.{Tid}
use Rattle.presumptions.specs.declared.Decision.{Decision}
use Rattle.presumptions.specs.declared.Decision.TheVariants as Decided
use Rattle.presumptions.specs.contracts.Decision.{the_type}
use Rattle.fed_rules.specs.declared.report.Outcome.{Outcome}
use Rattle.session_report.specs.Outcomes.{is_abort, is_refused}
use Rattle.mdb_base.specs.Names.{tid_cmp}
use Rattle.session_report.proofs.Members.{refused_none, refused_one}
use Rattle.session_report.proofs.commits.refused.Goals as goal
use Rattle.session_report.proofs.commits.refused.Goals.{then-eq+in_ok-insert, else-eq}
use denote.Enum.Bare.{sameb}

abbrev any_outcome : Outcome
any_outcome = record { tid = record { tx = record { 0 = 0 }; attempt = 0 }; decision = Decided.Commit }

says_abort : (decision : Decision) → is_abort decision ≡ sameb the_type decision Decided.Abort
says_abort Decided.Commit = refl
says_abort Decided.Abort = refl

pub loop-outcome-preserved : goal.loop-outcome-preserved
loop-outcome-preserved c =
    elim c.if-eq.branch [
      | then-eq+in_ok-insert w ↦ λ tid.
          refused_one c.args.outcomes.now c.loop-outcome.outcome-index any_outcome tid (contains tid_cmp c.loop-outcome.refused tid) (contains tid_cmp c.if-eq.refused tid) _
          c.loop-outcome-test.true (says_abort _ ∙ sym w.if-eq.ensures) (ap (λ (s : BTreeSet Tid). contains tid_cmp s tid) w.refused-is ∙ w.in_ok-insert.ensures.updates.0 tid) (c.loop-outcome.invariant tid)
      | else-eq w ↦ λ tid.
          ap (λ (s : BTreeSet Tid). is_refused (drop (c.loop-outcome.outcome-index + 1) c.args.outcomes.now) tid || contains tid_cmp s tid) w.refused-is
          ∙ refused_none c.args.outcomes.now c.loop-outcome.outcome-index any_outcome tid (contains tid_cmp c.loop-outcome.refused tid) _
          c.loop-outcome-test.true (says_abort _ ∙ sym w.if-eq.ensures) (c.loop-outcome.invariant tid)
    ]
