-- A store that may have begun with a found journal: what its calls say of the entries that were found is said of it.
use Rattle.std.proofs.Common.{◌≡◌, ℕ, Bool, true, false, ◌||◌, Option, None, List, [], ◌∷◌, ◌++◌, refl, subst}
use Rattle.mdb_base.specs.Words.{map_some}
use Rattle.fed_rules.specs.Disk.{Call, Append, Sync, CutBack, TrimFront, Stops, Disk}
use Rattle.fed_rules.specs.Happenings.{Trip}
use Rattle.journal_disk.specs.Disk.{Seen}
use Rattle.actor_store.specs.declared.store.SetTrip.{SetTrip}
use Rattle.actor_store.specs.Store.{IsArmed, Keeps, KeepsBehind, KeepsFrom, Stored, none_old, trip_of_rules, writes}

later_found : (opens found : Bool) → (opens || found) ≡ false → found ≡ false
later_found false found e = e
later_found true found e = cc

-- calls write where the later ones do
pub writes_more : {R : Type 0} (first more : List (Call R)) → writes more ≡ true → writes (first ++ more) ≡ true
writes_more [] more e = e
writes_more (Append r ∷ first) more e = refl
writes_more (Sync ∷ first) more e = writes_more first more e
writes_more (CutBack ∷ first) more e = writes_more first more e
writes_more (TrimFront ∷ first) more e = writes_more first more e
writes_more (Stops cut ∷ first) more e = writes_more first more e

module _ {R : Type 0} {spelling : R → List ℕ} {is_record : R → Type 0} {frame_bytes : R → ℕ} {tells : Bool} where
  -- one whose frames are all of version 2
  pub from_none : {seen : Seen} {store : Stored R} {rules : Disk R} {trip : Option Trip} (found : Bool) → Keeps spelling is_record frame_bytes tells seen store rules trip
      → KeepsFrom spelling is_record frame_bytes found tells seen store rules trip
  from_none found k = record { old = none_old; none = λ e. refl; behind = k }

  -- and one that began with an empty disk
  pub all_written : {seen : Seen} {store : Stored R} {rules : Disk R} {trip : Option Trip} {found : Bool} → found ≡ false → KeepsFrom spelling is_record frame_bytes found tells seen store rules trip
      → Keeps spelling is_record frame_bytes tells seen store rules trip
  all_written {seen} {store} {rules} {trip} e k = subst (λ old. KeepsBehind spelling is_record frame_bytes tells seen store old rules trip) (k.none e) k.behind

  -- behind a line that may begin with a found journal
  pub from_later : {seen : Seen} {store : Stored R} {rules : Disk R} {trip : Option Trip} {found : Bool} (opens : Bool) → KeepsFrom spelling is_record frame_bytes found tells seen store rules trip
      → KeepsFrom spelling is_record frame_bytes (opens || found) tells seen store rules trip
  from_later {found = found} opens k = record { old = k.old; none = (λ e. k.none (later_found opens found e)); behind = k.behind }

  -- with another trip
  pub from_trip : {seen : Seen} {store : Stored R} {rules : Disk R} {trip next : Option Trip} {found : Bool} → KeepsFrom spelling is_record frame_bytes found tells seen store rules trip → (to : Option SetTrip)
      → map_some trip_of_rules to ≡ next → IsArmed to → KeepsFrom spelling is_record frame_bytes found tells seen (record store { trip = to }) rules next
  from_trip k to is armed =
      let b = k.behind in
      record {
        old = k.old;
        none = k.none;
        behind = record {
          kept_on = b.kept_on;
          stands = b.stands;
          torn = b.torn;
          records = b.records;
          are = b.are;
          are_records = b.are_records;
          written = b.written;
          front = b.front;
          trip = is;
          armed = armed;
          in_order = b.in_order;
        };
      }

  module _ {before after : Seen} {store new : Stored R} {rules : Disk R} {trip : Option Trip} {found : Bool} (k : KeepsFrom spelling is_record frame_bytes found tells before store rules trip) where
    -- a call that keeps a disk
    pub from_kept : {rules' : Disk R} {trip' : Option Trip} → KeepsBehind spelling is_record frame_bytes tells after new k.old rules' trip' → KeepsFrom spelling is_record frame_bytes found tells after new rules' trip'
    from_kept j = record { old = k.old; none = k.none; behind = j }

    -- calls that were done
    pub from_done : {P : Type 0} {rules' : Disk R} {trip' : Option Trip} → P × KeepsBehind spelling is_record frame_bytes tells after new k.old rules' trip' → P × KeepsFrom spelling is_record frame_bytes found tells after new rules' trip'
    from_done e = (e.0, from_kept e.1)

    -- one that stops the actor
    pub from_stop : {P : Type 0} {rules' : Disk R} {trip' : Option Trip} → KeepsBehind spelling is_record frame_bytes tells after new k.old rules' trip' × P → KeepsFrom spelling is_record frame_bytes found tells after new rules' trip' × P
    from_stop e = (from_kept e.0, e.1)

    -- calls within which a trip came
    pub from_stopped : {P Q S : Trip → Type 0} {D : Trip → Disk R} → (set : Trip) × P set × Q set × KeepsBehind spelling is_record frame_bytes tells after new k.old (D set) None × S set
        → (set : Trip) × P set × Q set × KeepsFrom spelling is_record frame_bytes found tells after new (D set) None × S set
    from_stopped (set, is, few, j, count) = (set, is, few, from_kept j, count)

    -- and calls of which one failed
    pub from_failed : {D : ℕ → ℕ → Disk R} → (n : ℕ) × (cut : ℕ) × KeepsBehind spelling is_record frame_bytes tells after new k.old (D n cut) None
        → (n : ℕ) × (cut : ℕ) × KeepsFrom spelling is_record frame_bytes found tells after new (D n cut) None
    from_failed (n, cut, j) = (n, cut, from_kept j)
