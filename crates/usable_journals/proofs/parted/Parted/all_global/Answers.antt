use Rattle.std.proofs.Common.{refl, ◌+◌, take}
use Rattle.mdb_base.specs.Words.{some_of}
use Rattle.usable_journals.specs.PartedTold.{is_held_of, none}
use Rattle.usable_journals.proofs.PartedLaws.{adds_then, more}
use Rattle.usable_journals.proofs.parted.Parted.all_global.Goals as goal

pub loop-held-preserved : goal.loop-held-preserved
loop-held-preserved c =
    let xs = c.args.doubtful.now in
    let n = c.loop-held.held-index in
    let x = c.held-item.result in
    adds_then none (λ tx. some_of (is_held_of tx) (take n xs)) none (λ tx. is_held_of tx x) none (λ tx. some_of (is_held_of tx) (take (n + 1) xs)) c.args.self.now c.loop-held.self c.global.new.self
    c.loop-held.invariant c.in_ok-global.ensures (λ tx. refl) (λ tx. more (is_held_of tx) xs n x c.loop-held-test.true c.held-item.is)
