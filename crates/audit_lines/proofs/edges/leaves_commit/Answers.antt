use Rattle.std.proofs.Common.{◌∙◌, sym, ap, take, reverse}
use Rattle.audit_lines.specs.Edges.{leaves, some_commit}
use Rattle.audit_lines.proofs.Journals.{next_first}
use Rattle.audit_lines.proofs.edges.leaves_commit.Goals as goal

pub loop-entry-preserved : goal.loop-entry-preserved
loop-entry-preserved c =
    let records = c.args.records.now in
    let candidate = c.args.candidate.now in
    let i = c.loop-entry.entry-index in
    c.leaves_with-found.ensures (reverse (take i records)) c.loop-entry.invariant
    ∙ ap (some_commit (leaves candidate.tid candidate.tickets.items (reverse records) c.args.edge)) (sym (next_first records i c.entry-item.result c.loop-entry-test.true c.entry-item.is))
