use Rattle.std.proofs.Common.{◌∙◌, sym, ap, take, reverse}
use Rattle.audit_lines.specs.Edges.{enters, some_commit}
use Rattle.audit_lines.proofs.Journals.{next_first}
use Rattle.audit_lines.proofs.edges.enters_commit.Goals as goal

pub loop-entry-preserved : goal.loop-entry-preserved
loop-entry-preserved c =
    let records = c.args.records.now in
    let i = c.loop-entry.entry-index in
    c.enters_with-found.ensures (reverse (take i records)) c.loop-entry.invariant
    ∙ ap (some_commit (enters c.args.edge c.args.from.now)) (sym (next_first records i c.entry-item.result c.loop-entry-test.true c.entry-item.is))
