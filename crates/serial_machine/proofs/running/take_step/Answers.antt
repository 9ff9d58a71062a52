use Rattle.std.proofs.Common.{ap, ◌∙◌, sym}
use Rattle.serial_machine.specs.AllTables.{tables_of}
use Rattle.serial_machine.proofs.Steps.{next_is, reads_on, writes_on}
use Rattle.serial_machine.proofs.running.take_step.Goals as goal

pub returns-in-Read-clause-further : goal.returns-in-Read-clause-further
returns-in-Read-clause-further c program done first reached e =
    let (x, (at, (site, act))) = next_is program done c.args.reads.now.items c.args.next e in
    let key = c.in-Read.key in
    let read = c.get-value.ensures ∙ ap (λ s. tables_of c.args.tables.now s key) (sym site) in
    let reads = c.push_reserved.ensures.items in
    rw reads (reads_on program done first c.args.tables.now c.args.reads.now.items x key c.get-value.result reached at (act ∙ c.in-Read.is) read)

pub returns-in-Write-clause-further : goal.returns-in-Write-clause-further
returns-in-Write-clause-further c program done first reached e =
    let (x, (at, (site, act))) = next_is program done c.args.reads.now.items c.args.next e in
    writes_on program done first c.args.tables.now c.put.new.self c.args.reads.now.items x c.in-Write.key c.in-Write.value reached at (act ∙ c.in-Write.is)
    (rw site c.put.ensures.written)
