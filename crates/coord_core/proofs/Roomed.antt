-- A core for whose store room was made stands for what it stood for.
use Rattle.std.proofs.Common.{◌≡◌, Bool, Option, not, sym, ap, subst, ◌∙◌}
use Rattle.fed_rules.specs.declared.records.CoordRecord.{CoordRecord}
use Rattle.fed_rules.specs.Disk.{Disk}
use Rattle.fed_rules.specs.Happenings.{Trip}
use Rattle.fed_rules.specs.CoordPast.{CoordPast}
use Rattle.fed_rules.specs.CoordPast as Past
use Rattle.fed_rules.specs.Policies.{Policy}
use Rattle.journal_disk.specs.Disk.{Seen}
use Rattle.actor_store.specs.declared.store.Standing.{Standing}
use Rattle.actor_store.specs.Store.{Old, is_up}
use Rattle.actor_store.proofs.ForCallers.{from_kept}
use Rattle.coord_core.specs.declared.coord.CoordCore.{CoordCore}
use Rattle.coord_core.specs.Stands.{Stands, TablesStand}
use Rattle.coord_core.specs.Store.{KeepsBehind, Store}
use Rattle.coord_tables.specs.Terms.{Terms}
use Rattle.coord_core.proofs.Still.{kept_records}

pub stands_roomed : {P : Type 0} (test : P → Policy) (tells : Bool) (old : CoordCore P) (store : Store) (before after : Seen) (terms : Terms) (past : CoordPast)
    → ((found : Old CoordRecord) (rules : Disk CoordRecord) (trip : Option Trip) → KeepsBehind tells before old.store found rules trip → KeepsBehind tells after store found rules trip) → store.standing ≡ old.store.standing
    → Stands test tells old before terms past → Stands test tells (record old { store = store }) after terms past
stands_roomed test tells old store before after terms past keeps same k =
    let kept = from_kept k.stored (keeps _ _ _ k.stored.behind) in
    record {
      holds = record {
        protocols = k.holds.protocols;
        policy = k.holds.policy;
        sound = k.holds.sound;
        records = kept_records tells after store (Past.disk past) (Past.trip past) kept;
        trip = kept.behind.trip;
        armed = kept.behind.armed;
        standing = k.holds.standing ∙ ap (λ s. not (is_up s)) (sym same);
        tables = subst (λ (s : Standing). TablesStand old.tables s terms past) (sym same) k.holds.tables;
        begun = k.holds.begun;
      };
      stored = kept;
    }
