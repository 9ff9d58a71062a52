use Rattle.std.proofs.Common.{◌+◌, take}
use Rattle.mdb_base.specs.Words.{some_of}
use Rattle.usable_journals.specs.Named.{is_committed_of}
use Rattle.usable_journals.proofs.NamedLaws.{adds_then}
use Rattle.usable_journals.proofs.PartedLaws.{more}
use Rattle.usable_journals.proofs.unnamed.add_committed.Goals as goal

pub loop-attempt-preserved : goal.loop-attempt-preserved
loop-attempt-preserved c =
    let xs = c.args.attempts.now in
    let n = c.loop-attempt.attempt-index in
    let x = c.attempt-item.result in
    adds_then (λ tx. some_of (is_committed_of tx) (take n xs)) (λ tx. is_committed_of tx x) (λ tx. some_of (is_committed_of tx) (take (n + 1) xs)) c.args.names.now c.loop-attempt.names c.add.new.names
    c.loop-attempt.invariant c.in_ok-add.ensures (λ tx. more (is_committed_of tx) xs n x c.loop-attempt-test.true c.attempt-item.is)
