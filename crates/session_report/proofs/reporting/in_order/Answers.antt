use Rattle.std.proofs.Common.{map, ap, ◌∙◌}
use Rattle.session_report.specs.Told.{reads_told}
use Rattle.session_report.proofs.reporting.in_order.Goals as goal

pub returns : goal.returns
returns c = λ scenario story gathered merged.
    let reads = c.of.ensures ∙ (c.in_ok-reads.ensures ∙ (ap (map (reads_told c.args.gathered.telling)) c.as_slice.ensures ∙ gathered.read c.args.order merged)) in
    let outcomes = c.of-2.ensures ∙ gathered.ended in
    let forgotten = c.of-3.ensures ∙ gathered.begun in
    let tables = c.of-4.ensures ∙ gathered.shown in
    λ i. record { order = c.args.order; reads = reads i; outcomes = outcomes i; forgotten = forgotten i; tables = tables i }
