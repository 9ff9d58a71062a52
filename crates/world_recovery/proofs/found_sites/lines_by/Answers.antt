use Rattle.std.proofs.Common.{◌≡◌, ◌++◌, ◌∷◌, [], Some, None, List, take, sym, ap, ◌∙◌}
use Rattle.std.proofs.lemmas.List.{append-nil}
use Rattle.frame_journal.specs.Journal.{records}
use Rattle.fed_rules.specs.declared.scenario.SiteLine.{SiteLine}
use Rattle.world_recovery.specs.Reopening.{line_by, lines_by}
use Rattle.world_recovery.proofs.FoundLines.{next_line}
use Rattle.world_recovery.proofs.found_sites.lines_by.Goals as goal
use Rattle.world_recovery.proofs.found_sites.lines_by.Goals.{in-Some+in_ok-push, in_default}

pub loop-journal-preserved : goal.loop-journal-preserved
loop-journal-preserved c =
    let journals = c.args.journals.now in
    let n = c.loop-journal.journal-index in
    let one = c.journal-item.result in
    let own : c.line_by.result ≡ line_by (records one) = c.line_by.ensures ∙ ap line_by c.records.ensures.records in
    elim c.match-line_by.branch [
      | in-Some+in_ok-push w ↦
          ap (λ (v : _). v.items) w.lines-is
          ∙ (w.in_ok-push.ensures.items
          ∙ (ap (λ (ls : List SiteLine). ls ++ w.in-Some.line ∷ []) c.loop-journal.invariant
          ∙ sym (next_line journals n one (Some w.in-Some.line) c.loop-journal-test.true c.journal-item.is (sym w.in-Some.is ∙ own))))
      | in_default w ↦
          ap (λ (v : _). v.items) w.lines-is
          ∙ (c.loop-journal.invariant
          ∙ sym (next_line journals n one None c.loop-journal-test.true c.journal-item.is (sym w.in_default.is ∙ own) ∙ append-nil (lines_by (take n journals))))
    ]
