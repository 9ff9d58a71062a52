use Rattle.std.proofs.Common.{ap, ◌∙◌, Option}
use Rattle.std.specs.Ordering.{nat_cmp}
use Rattle.std.specs.FinMap.{get-empty}
use Rattle.mdb_base.specs.Words.{or_else}
use Rattle.run_book.specs.declared.key_ages.KeyAges.{KeyAges}
use Rattle.run_book.specs.Ages.{Ages, ages_of, no_ages, restored_writer}
use Rattle.run_book.proofs.accesses.AccessAges.restored.Goals as goal

pub loop-kept-init : goal.loop-kept-init
loop-kept-init c =
    λ q.
    let again : KeyAges → KeyAges = λ a. record a { writer = restored_writer c.args.doubtful.now q a.writer } in
    ap (λ (m : Ages). again (ages_of m q)) c.new-ages.ensures ∙ ap (λ (o : Option KeyAges). again (or_else o no_ages)) (get-empty nat_cmp q.0)
