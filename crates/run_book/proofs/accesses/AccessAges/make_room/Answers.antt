use Rattle.std.proofs.Common.{is_some, Option, sym, ap, ◌∙◌, subst, IsSome}
use Rattle.std.specs.FinMap.{get}
use Rattle.mdb_base.proofs.ForCallers.{is_some-true}
use Rattle.run_book.proofs.HeldBy.{some-found}
use Rattle.site_tables.proofs.ForCallers.{get-lookup}
use Rattle.run_book.specs.declared.key_ages.KeyAges.{KeyAges}
use Rattle.run_book.specs.Ages.{Ages, ages_of}
use Rattle.run_book.proofs.KeyMaps.{room_same}
use Rattle.run_book.proofs.accesses.AccessAges.make_room.Goals as goal

pub returns-in_ok-insert-clause-room : goal.returns-in_ok-insert-clause-room
returns-in_ok-insert-clause-room c = some-found _ c.none.result (get-lookup _ c.args.key.0 ∙ c.in_ok-insert.ensures.updates.1)

pub returns-in_ok-insert-clause-same : goal.returns-in_ok-insert-clause-same
returns-in_ok-insert-clause-same c =
    λ q. room_same c.self.inside.keys.entries _ c.args.key.0 c.none.result c.none.ensures c.in_ok-insert.ensures.updates.0
    (sym c.contains_key.ensures ∙ c.if-not-contains_key.true) q
    ∙ ap (λ (m : Ages). ages_of m q) c.self.view_is

pub returns-else-not-contains_key-clause-room : goal.returns-else-not-contains_key-clause-room
returns-else-not-contains_key-clause-room c =
    subst (λ (m : Ages). IsSome (get m c.args.key.0)) c.self.view_is
    (is_some-true _ (ap (λ (o : Option KeyAges). is_some o) (get-lookup c.self.inside.keys.entries c.args.key.0)
    ∙ (sym c.contains_key.ensures ∙ c.if-not-contains_key.false)))
