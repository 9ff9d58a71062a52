-- What a new coordinator stands for.
use Rattle.std.proofs.Common.{◌≡◌, ℕ, Bool, not, None, List, [], refl, sym, ap, subst, false}
use Rattle.mdb_base.specs.declared.names.Tx.{Tx}
use Rattle.mdb_base.specs.Rising.{IsRising}
use Rattle.mdb_base.specs.Words.{Each}
use Rattle.presumptions.specs.declared.Participant.{Participant}
use Rattle.record_fields.specs.Named.{IsSite}
use Rattle.fed_rules.specs.declared.records.CoordRecord.{CoordRecord}
use Rattle.fed_rules.specs.CoordRecords.{coord_frame}
use Rattle.fed_rules.specs.Disk.{empty_disk}
use Rattle.fed_rules.specs.Policies.{Policy}
use Rattle.journal_disk.specs.Disk.{Seen}
use Rattle.frame_journal.specs.Journal.{new_journal}
use Rattle.coord_journal.specs.Exact.{spelled_is_read}
use Rattle.coord_journal.specs.Frames.{frame_has_size}
use Rattle.coord_journal.specs.Spelling.{spelling, reading, IsRecord}
use Rattle.actor_store.specs.declared.store.Standing.{Standing}
use Rattle.actor_store.specs.declared.store.Standing.TheVariants.{Up}
use Rattle.actor_store.specs.Store.{Stored, Keeps, is_up, stored}
use Rattle.actor_store.proofs.ForCallers.{from_none, new_keeps}
use Rattle.coord_core.specs.declared.coord.CoordCore.{CoordCore}
use Rattle.coord_tables.specs.Trees.{noted}
use Rattle.coord_core.specs.Stands.{IsEmptyDisk, Stands, TablesStand}
use Rattle.coord_tables.specs.Terms.{Terms}
use Rattle.coord_core.proofs.Still.{kept_records}
use Rattle.coord_tables.specs.Tables.{AreEmpty}
use Rattle.coord_tables.proofs.ForCallers.{nothing_alone, nothing_served}

pub new_stands : {P : Type 0} (test : P → Policy) (core : CoordCore P) (protocols : List Participant) → IsRising (λ (m : Participant). m.site.0) protocols → Each (λ (m : Participant). IsSite m.site) protocols
    → core.protocols ≡ protocols → AreEmpty core.tables → core.begun.listed ≡ [] → stored core.store ≡ record { journal = new_journal; trip = None; standing = Up }
    → (tells : Bool) (seen : Seen) → IsEmptyDisk tells seen → Stands test tells core seen (record { protocols = protocols; policy = test core.policy }) []
new_stands test core protocols rising declared sites tables begun store tells seen empty =
    let terms : Terms = record { protocols = protocols; policy = test core.policy } in
    let kept = from_none false (subst (λ (s : Stored CoordRecord). Keeps spelling IsRecord coord_frame tells seen s empty_disk None) (sym store)
    (new_keeps spelling reading IsRecord coord_frame frame_has_size spelled_is_read tells seen empty.told empty.empty empty.bytes empty.sound)) in
    let standing : core.store.standing ≡ Up = ap (λ (s : Stored CoordRecord). s.standing) store in
    record {
      holds = record {
        protocols = sites;
        policy = refl;
        sound = record { rising = rising; declared = declared; made = tt; alone = nothing_alone; in_range = tt };
        records = kept_records tells seen core.store empty_disk None kept;
        trip = kept.behind.trip;
        armed = kept.behind.armed;
        standing = sym (ap (λ s. not (is_up s)) standing);
        tables = subst (λ (s : Standing). TablesStand core.tables s terms []) (sym standing) (nothing_served core.tables terms tables);
        begun = λ tx. ap (λ (cs : List (Tx × ℕ)). noted cs tx) begun;
      };
      stored = kept;
    }
