use Rattle.std.proofs.Common.{List, sym, ap, ◌∙◌}
use Rattle.presumptions.specs.declared.Participant.{Participant}
use Rattle.fed_rules.specs.CoordRecords.{class_of, ends_at_once}
use Rattle.journal_sums.proofs.ForCallers.{commits_at_once}
use Rattle.usable_journals.proofs.awaited.ends_at_once.Goals as goal

pub returns-then-not-is_empty : goal.returns-then-not-is_empty
returns-then-not-is_empty c =
    c.all_presume_commit.ensures
    ∙ commits_at_once c.as_slice-participants.result.now (sym c.is_empty.ensures ∙ c.if-not-is_empty.true)
    ∙ ap (λ (ps : List Participant). ends_at_once (class_of ps)) c.as_slice-participants.ensures.items
