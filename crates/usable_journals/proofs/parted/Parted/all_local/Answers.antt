use Rattle.std.proofs.Common.{refl, ◌+◌, get_or, take}
use Rattle.mdb_base.specs.Words.{some_of}
use Rattle.fed_rules.specs.Reopened.{nobody}
use Rattle.usable_journals.specs.PartedTold.{is_of, none}
use Rattle.usable_journals.proofs.PartedLaws.{adds_then, more_at}
use Rattle.usable_journals.proofs.parted.Parted.all_local.Goals as goal

pub loop-tid-preserved : goal.loop-tid-preserved
loop-tid-preserved c =
    let xs = c.args.locals.now in
    let n = c.loop-tid.tid-index in
    let x = get_or xs n nobody in
    adds_then (λ tx. some_of (is_of tx) (take n xs)) none (λ tx. is_of tx x) none (λ tx. some_of (is_of tx) (take (n + 1) xs)) none c.args.self.now c.loop-tid.self c.local.new.self
    c.loop-tid.invariant c.in_ok-local.ensures (λ tx. more_at (is_of tx) xs n nobody c.loop-tid-test.true) (λ tx. refl)
