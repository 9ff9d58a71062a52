use Rattle.std.proofs.Common.{None, [], Option, ap, ◌∙◌}
use Rattle.std.specs.FinMap.{get-empty}
use Rattle.std.specs.Ordering.{nat_cmp}
use Rattle.mdb_base.specs.declared.names.Key.{Key}
use Rattle.run_book.specs.Ages.{Ages, ages_of, no_ages}
use Rattle.run_book.specs.declared.key_ages.KeyAges.{KeyAges}
use Rattle.mdb_base.specs.Words.{or_else}
use Rattle.multiversion_engine.proofs.Starts.{stands_started}
use Rattle.multiversion_engine.proofs.engine.MultiversionEngine.new.Goals as goal

pub returns : goal.returns
returns c =
    stands_started _ c.args.rows.now [] 0 0 None c.in_ok-book.ensures.rising (record { numbered = tt; apart = tt }) c.in_ok-book.ensures.book
    (λ (key : Key). ap (λ (a : Ages). ages_of a key) c.new.ensures ∙ ap (λ (o : Option KeyAges). or_else o no_ages) (get-empty nat_cmp key.0)) c.new-2.ensures c.new-3.ensures c.new-4.ensures
