-- What the store of a new site stands for.
use Rattle.std.proofs.Common.{◌≡◌, ℕ, Bool, Option, None, Err, List, [], length, refl, sym, ap, subst, arith, false}
use Rattle.std.specs.Prelude.{reverse}
use Rattle.std.proofs.lemmas.List.{nil_from_length}
use Rattle.fed_rules.specs.declared.records.SiteRecord.{SiteRecord}
use Rattle.fed_rules.specs.Disk.{Call, Disk, empty_disk, journal}
use Rattle.fed_rules.specs.Happenings.{Trip}
use Rattle.fed_rules.specs.SiteRecords.{site_frame}
use Rattle.journal_disk.specs.Disk.{Image, Seen, IsSound}
use Rattle.frame_journal.specs.Journal.{new_journal}
use Rattle.frame_journal.specs.Records.{AreRecordsOf}
use Rattle.frame_journal.proofs.ForCallers.{new_is_kept, none_is_part}
use Rattle.journal_rules.specs.Stands.{StandsFor, record_frame}
use Rattle.journal_rules.proofs.ForCallers.{journal_stands}
use Rattle.site_journal.specs.Exact.{spelled_is_read}
use Rattle.site_journal.specs.Frames.{frame_has_size}
use Rattle.site_journal.specs.Spelling.{spelling, reading, IsRecord}
use Rattle.actor_store.specs.declared.store.Break.TheVariants.{Failed, Stopped}
use Rattle.actor_store.specs.declared.store.Standing.TheVariants.{Up}
use Rattle.actor_store.specs.Store as actor
use Rattle.actor_store.specs.Store.{HoldsBytes, taken_as}
use Rattle.actor_store.proofs.ForCallers.{all_written, from_none, sizes, taken_bytes, torn_bytes}
use Rattle.site_core.specs.Store.{Store, Keeps, SomeStop, Ends, stopped_disk}

-- the empty disk of the rules, beside one that holds no byte
no_records : AreRecordsOf (record_frame spelling) [] []
no_records = record { right = record { are_frames = tt; are_right = tt }; rest = []; parts = refl; is_torn = none_is_part }

nothing_stands : (image : Image) → image.bytes ≡ [] → image.synced ≡ 0 → StandsFor spelling site_frame image empty_disk
nothing_stands image none synced =
    record {
      front = [];
      trimmed = refl;
      all = record {
        records = subst (λ (bytes : List ℕ). AreRecordsOf (record_frame spelling) bytes []) (sym none) no_records;
        bytes = ap length none;
        synced = omega (arith, synced);
      };
      newer = [];
      older = [];
      parts = refl;
      border = refl;
    }

no_bytes_there : (seen : Seen) → seen.size ≡ 0 → length seen.image.bytes ≡ seen.size → seen.image.bytes ≡ []
no_bytes_there seen empty told = nil_from_length seen.image.bytes (omega (arith, told, empty))

pub keeps_new : (tells : Bool) (seen : Seen) (store : Store) → seen.size ≡ 0 → length seen.image.bytes ≡ seen.size → IsSound seen.image
    → actor.stored store ≡ record { journal = new_journal; trip = None; standing = Up } → Keeps false tells seen store empty_disk None
keeps_new tells seen store empty told sound is =
    let none = no_bytes_there seen empty told in
    let here : actor.Keeps spelling IsRecord site_frame tells seen (record { journal = new_journal; trip = None; standing = Up }) empty_disk None =
    record {
      kept_on = new_is_kept spelling tells seen empty (λ t. none);
      stands = nothing_stands seen.image none (omega (arith, sound, told, empty));
      torn = none;
      records = refl;
      are = refl;
      are_records = tt;
      written = tt;
      front = omega arith;
      trip = refl;
      armed = tt;
      in_order = refl;
    } in
    from_none false (subst (λ (s : actor.Stored SiteRecord). actor.Keeps spelling IsRecord site_frame tells seen s empty_disk None) (sym is) here)

-- an empty disk holds what a stop before the first call leaves
pub stops_at_once : (seen : Seen) (calls : List (Call SiteRecord)) → seen.size ≡ 0 → length seen.image.bytes ≡ seen.size → SomeStop seen.image empty_disk calls
stops_at_once seen calls empty told =
    let none = no_bytes_there seen empty told in (
      0,
      0,
      record {
        records = subst (λ (bytes : List ℕ). AreRecordsOf (record_frame spelling) bytes []) (sym none) no_records;
        bytes = omega (arith, told, empty);
        torn = none;
      },
    )

-- a store's disk holds the bytes of the rules, synced or not
pub keeps_bytes : (tells : Bool) (seen : Seen) (store : Store) (rules : Disk SiteRecord) (trip : Option Trip) → Keeps false tells seen store rules trip
    → HoldsBytes spelling IsRecord site_frame seen.image rules
keeps_bytes tells seen store rules trip from =
    let k = all_written refl from in
    let same = taken_bytes store.standing seen.image in
    let all = sizes spelling reading IsRecord site_frame frame_has_size spelled_is_read (taken_as store.standing seen.image) rules k.stands in
    record {
      records = subst (λ (bytes : List ℕ). AreRecordsOf (record_frame spelling) bytes (reverse (journal site_frame rules))) same
          (journal_stands spelling site_frame frame_has_size (taken_as store.standing seen.image) rules k.stands);
      bytes = omega (arith, all.0, ap length same);
      torn = torn_bytes spelling reading IsRecord site_frame frame_has_size spelled_is_read store.standing seen.image rules k.torn;
    }

-- where no trip is set, calls of which one failed leave what some stop within them leaves
pub broken_holds : (tells : Bool) (seen : Seen) (store : Store) (rules : Disk SiteRecord) (calls : List (Call SiteRecord))
    → Ends {A = ℕ} (Keeps false tells seen store) rules None calls (Err Failed) → SomeStop seen.image rules calls
broken_holds tells seen store rules calls e = let (n, cut, k) = e in (n, cut, keeps_bytes tells seen store (stopped_disk n cut rules calls) None k)

-- and no trip stops them
pub never_trips : (K : Disk SiteRecord → Option Trip → Type 0) (rules : Disk SiteRecord) (calls : List (Call SiteRecord)) (kept : ℕ)
    → Ends {A = ℕ} K rules None calls (Err (Stopped kept)) → ⊥
never_trips K rules calls kept e = let is = e.1 in cc
