use Rattle.std.proofs.Common.{◌+◌, take}
use Rattle.mdb_base.specs.Words.{some_of}
use Rattle.usable_journals.specs.PartedTold.{is_global_of}
use Rattle.usable_journals.specs.SiteTests.{is_local_of}
use Rattle.usable_journals.proofs.PartedLaws.{adds_then, more}
use Rattle.usable_journals.proofs.parted.Parted.take_all.Goals as goal

pub loop-entry-preserved : goal.loop-entry-preserved
loop-entry-preserved c =
    let xs = c.args.entries.now in
    let n = c.loop-entry.entry-index in
    let x = c.entry-item.result in
    adds_then (λ tx. some_of (is_local_of tx) (take n xs)) (λ tx. some_of (is_global_of tx) (take n xs)) (λ tx. is_local_of tx x) (λ tx. is_global_of tx x)
    (λ tx. some_of (is_local_of tx) (take (n + 1) xs)) (λ tx. some_of (is_global_of tx) (take (n + 1) xs)) c.args.self.now c.loop-entry.self c.take.new.self
    c.loop-entry.invariant c.in_ok-take.ensures (λ tx. more (is_local_of tx) xs n x c.loop-entry-test.true c.entry-item.is) (λ tx. more (is_global_of tx) xs n x c.loop-entry-test.true c.entry-item.is)
