use Rattle.std.proofs.Common.{take, arith}
use Rattle.std.proofs.lemmas.List.{length-take}
use Rattle.run_book.proofs.Promises.{writes_in-turned}
use Rattle.run_book.proofs.granted.count_writes.Goals as goal

pub overflow_add-count : goal.overflow_add-count
overflow_add-count c =
    let few = writes_in-turned (take c.loop-access.access-index c.args.accesses.now) in
    omega (arith, length-take c.loop-access.access-index c.args.accesses.now, c.loop-access.invariant, c.loop-access-test.true)
