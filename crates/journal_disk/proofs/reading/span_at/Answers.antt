use Rattle.std.proofs.Common.{◌+◌, refl, arith}
use Rattle.journal_disk.specs.declared.frames.Version.TheVariants.{First}
use Rattle.journal_disk.specs.declared.reading.Span.{Span}
use Rattle.journal_disk.proofs.Counted.{is_counted}
use Rattle.journal_disk.proofs.Parts.{short_at, open_at, whole_at}
use Rattle.journal_disk.proofs.reading.span_at.Goals as goal

pub returns-in_err-first-clause-torn : goal.returns-in_err-first-clause-torn
returns-in_err-first-clause-torn c = rw c.from_residual.ensures (short_at c.args.bytes.now c.args.place (λ i. omega (arith, c.type_inv.bytes i)) c.in_err-first.ensures)

pub returns-then-rest-count-clause-torn : goal.returns-then-rest-count-clause-torn
returns-then-rest-count-clause-torn c = open_at c.args.bytes.now c.args.place c.in_ok-first.first c.in_ok-first.rest.now (λ i. omega (arith, c.type_inv.bytes i)) c.in_ok-first.ensures c.if-rest-count.true

pub returns-clause-parts : goal.returns-clause-parts
returns-clause-parts c = whole_at c.args.bytes.now c.args.place c.in_ok-first.first c.in_ok-first.rest.now (λ i. omega (arith, c.type_inv.bytes i)) c.in_ok-first.ensures c.if-rest-count.false

pub returns-clause-counted : goal.returns-clause-counted
returns-clause-counted c =
    let start = c.args.place + 2 in
    let n = c.in_ok-first.first in
    let span : Span = record { version = First; start = start; end = start + n; next = start + n } in
    is_counted c.args.bytes.now span c.args.place n c.in_ok-first.rest.now (λ i. omega (arith, c.type_inv.bytes i)) c.in_ok-first.ensures c.if-rest-count.false refl refl
