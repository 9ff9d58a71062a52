use Rattle.std.proofs.Common.{◌+◌, arith}
use Rattle.journal_disk.specs.declared.frames.Version.TheVariants.{Second}
use Rattle.journal_disk.specs.declared.reading.Span.{Span}
use Rattle.journal_disk.proofs.Counted.{is_counted}
use Rattle.journal_disk.proofs.Parts.{new_short_at, new_open_at, new_whole_at}
use Rattle.journal_disk.proofs.reading.new_span_at.Goals as goal

pub returns-in_err-count-clause-torn : goal.returns-in_err-count-clause-torn
returns-in_err-count-clause-torn c = rw c.from_residual.ensures (new_short_at c.args.bytes.now c.args.place (λ i. omega (arith, c.type_inv.bytes i)) c.requires.zeros c.in_err-count.ensures)

pub returns-then-rest-count-clause-torn : goal.returns-then-rest-count-clause-torn
returns-then-rest-count-clause-torn c = new_open_at c.args.bytes.now c.args.place (λ i. omega (arith, c.type_inv.bytes i)) c.requires.zeros c.in_ok-count.count c.in_ok-count.rest.now c.in_ok-count.ensures c.if-rest-count.true

pub returns-clause-parts : goal.returns-clause-parts
returns-clause-parts c = new_whole_at c.args.bytes.now c.args.place (λ i. omega (arith, c.type_inv.bytes i)) c.requires.zeros c.in_ok-count.count c.in_ok-count.rest.now c.in_ok-count.ensures c.if-rest-count.false

pub returns-clause-counted : goal.returns-clause-counted
returns-clause-counted c =
    let start = c.args.place + 4 in
    let n = c.in_ok-count.count in
    let span : Span = record { version = Second; start = start; end = start + n; next = (start + n) + 32 } in
    is_counted c.args.bytes.now span (c.args.place + 2) n c.in_ok-count.rest.now (λ i. omega (arith, c.type_inv.bytes i)) c.in_ok-count.ensures
    (omega (arith, c.if-rest-count.false)) (omega arith) (omega arith)
