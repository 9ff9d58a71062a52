use Rattle.std.proofs.Common.{◌+◌, take}
use Rattle.mdb_base.specs.Words.{some_of}
use Rattle.usable_journals.specs.Named.{is_attempt_of}
use Rattle.usable_journals.proofs.NamedLaws.{adds_then}
use Rattle.usable_journals.proofs.PartedLaws.{more}
use Rattle.usable_journals.proofs.unnamed.add_all.Goals as goal

pub loop-entry-preserved : goal.loop-entry-preserved
loop-entry-preserved c =
    let xs = c.args.entries.now in
    let n = c.loop-entry.entry-index in
    let x = c.entry-item.result in
    adds_then (λ tx. some_of (is_attempt_of tx) (take n xs)) (λ tx. is_attempt_of tx x) (λ tx. some_of (is_attempt_of tx) (take (n + 1) xs)) c.args.names.now c.loop-entry.names c.add_record.new.names
    c.loop-entry.invariant c.in_ok-add_record.ensures (λ tx. more (is_attempt_of tx) xs n x c.loop-entry-test.true c.entry-item.is)
