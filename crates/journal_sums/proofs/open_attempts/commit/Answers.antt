use Rattle.std.proofs.Common.{rules, tests, not, ◌&&◌, ◌∙◌}
use Rattle.std.proofs.lemmas.Fn.{filter_same}
use Rattle.mdb_base.specs.Names.{same_tid}
use Rattle.fed_rules.specs.declared.sums.OpenAttempt.{OpenAttempt}
use Rattle.fed_rules.specs.CoordRecords.{class_of, ends_at_once}
use Rattle.journal_sums.proofs.CoordReadingLaws.{filter-those}
use Rattle.journal_sums.proofs.open_attempts.commit.Goals as goal

pub returns : goal.returns
returns c =
    filter_same _ (λ (a : OpenAttempt). not (same_tid a.tid c.args.tid && ends_at_once (class_of a.participants))) _ (λ x b f' k. search (rules, tests)) _ _ c.retain.ensures.filtered
    ∙ filter-those (λ (a : OpenAttempt). not (same_tid a.tid c.args.tid && ends_at_once (class_of a.participants))) c.args.attempts.now.items
