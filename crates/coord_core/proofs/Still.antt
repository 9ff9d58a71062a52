-- What a core stands for after a line that says nothing new, which may set a trip, and after a stop.
use Rattle.std.proofs.Common.{◌≡◌, Bool, true, false, not, Option, None, List, [], ◌∷◌, length, refl, sym, ap, ap₂, subst, ◌∙◌}
use Rattle.std.specs.Prelude.{reverse}
use Rattle.std.proofs.lemmas.Bool.{cond-false}
use Rattle.mdb_base.specs.declared.names.Tx.{Tx}
use Rattle.mdb_base.specs.Words.{map_some}
use Rattle.fed_rules.specs.declared.answers.Answer.TheVariants as Say
use Rattle.fed_rules.specs.declared.events.CoordEvent.{CoordEvent}
use Rattle.fed_rules.specs.declared.records.CoordRecord.{CoordRecord}
use Rattle.fed_rules.specs.Disk.{Call, Disk, after_calls}
use Rattle.fed_rules.specs.Disk as DiskWords
use Rattle.fed_rules.specs.Happenings.{Trip, is_down, set, stopped, used}
use Rattle.fed_rules.specs.CoordRecords.{coord_frame}
use Rattle.fed_rules.specs.CoordPast.{CoordHappening, CoordPast, attempts_of, trip_of}
use Rattle.fed_rules.specs.CoordPast as Past
use Rattle.fed_rules.specs.Policies.{Policy}
use Rattle.coord_laws.specs.Pasts.{IsNumbered}
use Rattle.journal_disk.specs.Disk.{Seen}
use Rattle.frame_journal.specs.Journal.{records}
use Rattle.actor_store.specs.declared.store.SetTrip.{SetTrip}
use Rattle.actor_store.specs.declared.store.Standing.{Standing}
use Rattle.actor_store.specs.declared.store.Standing.TheVariants.{Up, Down, Failing}
use Rattle.actor_store.specs.Store.{IsArmed, is_up, trip_of_rules}
use Rattle.actor_store.proofs.ForCallers.{from_later, from_trip, used_none}
use Rattle.coord_core.specs.declared.coord.CoordCore.{CoordCore}
use Rattle.coord_tables.specs.declared.tables.Tables.{Tables}
use Rattle.coord_tables.specs.Trees.{noted}
use Rattle.coord_core.specs.Found.{opens, was_found}
use Rattle.coord_core.specs.Stands.{Holds, Stands, TablesStand}
use Rattle.coord_core.specs.Store.{Keeps, Store}
use Rattle.coord_tables.specs.Tables.{IsServing}
use Rattle.coord_tables.specs.Terms.{Terms, IsSound, line_of}
use Rattle.coord_tables.proofs.ForCallers.{IsCalm, attempts_same, range_same, serving_calm, sound_more}

-- a store has the records that stand on its disk
pub kept_records : {found : Bool} (tells : Bool) (seen : Seen) (store : Store) (rules : Disk CoordRecord) (trip : Option Trip) → Keeps found tells seen store rules trip → records store.journal ≡ reverse (DiskWords.journal coord_frame rules)
kept_records tells seen store rules trip k = k.behind.are

-- the line that a stop ends
abbrev pub stop_line : CoordPast → CoordEvent → List (Call CoordRecord) → CoordHappening
stop_line past event calls =
    record { event = event; answer = Say.Stopped (length (DiskWords.journal coord_frame (after_calls coord_frame (Past.disk past) calls))); sends = []; calls = calls; lines = [] }

pub stopped_is : (past : CoordPast) (event : CoordEvent) (calls : List (Call CoordRecord)) → stopped coord_frame (Past.disk past) event calls ≡ stop_line past event calls
unfolding stopped
stopped_is past event calls = refl

module _ {P : Type 0} (test : P → Policy) (tells : Bool) where
  pub up_is : (core : CoordCore P) (terms : Terms) (past : CoordPast) → Holds test core terms past → core.store.standing ≡ Up → is_down past ≡ false
  up_is core terms past h up = h.standing ∙ ap (λ s. not (is_up s)) up

  pub down_is : (core : CoordCore P) (terms : Terms) (past : CoordPast) → Holds test core terms past → is_up core.store.standing ≡ false → is_down past ≡ true
  down_is core terms past h down = h.standing ∙ ap not down

  pub serves : (core : CoordCore P) (terms : Terms) (past : CoordPast) → Holds test core terms past → core.store.standing ≡ Up → IsServing core.tables terms past
  serves core terms past h up = subst (λ s. TablesStand core.tables s terms past) up h.tables

  pub serves_up : (core : CoordCore P) (terms : Terms) (past : CoordPast) → Holds test core terms past → is_down past ≡ false → IsServing core.tables terms past
  serves_up core terms past h d = by_standing core.store.standing h.standing h.tables where
    by_standing : (s : Standing) → is_down past ≡ not (is_up s) → TablesStand core.tables s terms past → IsServing core.tables terms past
    by_standing Up e t = t
    by_standing Down e t = cc
    by_standing Failing e t = cc

  -- a stop
  pub stands_stop : (core : CoordCore P) (seen : Seen) (terms : Terms) (past : CoordPast) (event : CoordEvent) (calls : List (Call CoordRecord))
      → line_of terms past event ≡ stop_line past event calls → IsNumbered past event → IsSound terms past
      → core.protocols ≡ terms.protocols → test core.policy ≡ terms.policy → ((tx : Tx) → noted core.begun.listed tx ≡ attempts_of past tx)
      → Keeps (was_found past) tells seen core.store (after_calls coord_frame (Past.disk past) calls) None → is_up core.store.standing ≡ false
      → Stands test tells core seen terms (stop_line past event calls ∷ past)
  stands_stop core seen terms past event calls is numbered sound sites policy begun kept down = record {
    holds = record {
      protocols = sites;
      policy = policy;
      sound = sound_more terms past event (stop_line past event calls) sound is numbered sound.in_range;
      records = kept_records tells seen core.store (after_calls coord_frame (Past.disk past) calls) None kept;
      trip = kept.behind.trip;
      armed = kept.behind.armed;
      standing = sym (ap not down);
      tables = off core.store.standing down;
      begun = begun;
    };
    stored = from_later (opens (stop_line past event calls)) kept;
  } where
    off : (up : Standing) → is_up up ≡ false → TablesStand core.tables up terms (stop_line past event calls ∷ past)
    off Up e = cc
    off Down e = tt
    off Failing e = tt

  -- a line that says nothing new, in any standing; it may set a trip
  pub stands_calm : (old new : CoordCore P) (seen : Seen) (terms : Terms) (past : CoordPast) (event : CoordEvent) (x : CoordHappening) (to : Option SetTrip)
      → Stands test tells old seen terms past → line_of terms past event ≡ x → x.event ≡ event → IsNumbered past event → IsCalm x
      → new.protocols ≡ old.protocols → new.policy ≡ old.policy → new.tables ≡ old.tables → new.begun ≡ old.begun → new.store ≡ record old.store { trip = to }
      → map_some trip_of_rules to ≡ set (trip_of event) (Past.trip past) → IsArmed to
      → Stands test tells new seen terms (x ∷ past)
  stands_calm old new seen terms past event x to k is heard numbered c sites policy tables begun store sets armed =
      let disk : Past.disk (x ∷ past) ≡ Past.disk past = ap (after_calls coord_frame (Past.disk past)) c.calls in
      let in_force : set (trip_of event) (used 0 (Past.trip past)) ≡ Past.trip (x ∷ past) =
      ap₂ (λ e (cs : List (Call CoordRecord)). set (trip_of e) (used (length cs) (Past.trip past))) (sym heard) (sym c.calls)
      ∙ sym (cond-false _ _ _ c.runs) in
      let zeroed : set (trip_of event) (Past.trip past) ≡ set (trip_of event) (used 0 (Past.trip past)) = ap (set (trip_of event)) (sym (used_none (Past.trip past))) in
      let moved : Keeps (was_found past) tells seen (record old.store { trip = to }) (Past.disk past) (Past.trip (x ∷ past)) = from_trip k.stored to (sets ∙ zeroed ∙ in_force) armed in
      let A : Store → Type 0 = λ s. Keeps (was_found past) tells seen s (Past.disk past) (Past.trip (x ∷ past)) in
      let B : Disk CoordRecord → Type 0 = λ d. Keeps (was_found past) tells seen new.store d (Past.trip (x ∷ past)) in
      let kept = subst B (sym disk) (subst A (sym store) moved) in
      let standing : new.store.standing ≡ old.store.standing = ap (λ (s : Store). s.standing) store in
      let T : Tables → Standing → Type 0 = λ t s. TablesStand t s terms (x ∷ past) in
      record {
        holds = record {
          protocols = sites ∙ k.holds.protocols;
          policy = ap test policy ∙ k.holds.policy;
          sound = sound_more terms past event x k.holds.sound is numbered (range_same past x c.begun k.holds.sound.in_range);
          records = kept_records tells seen new.store (Past.disk (x ∷ past)) (Past.trip (x ∷ past)) kept;
          trip = kept.behind.trip;
          armed = kept.behind.armed;
          standing = cond-false _ _ _ c.runs ∙ cond-false _ _ _ c.stays ∙ k.holds.standing ∙ ap (λ s. not (is_up s)) (sym standing);
          tables = subst (λ t. T t new.store.standing) (sym tables) (subst (λ s. T old.tables s) (sym standing) (still old.store.standing k.holds.tables));
          begun = λ tx. ap (λ b. noted b.listed tx) begun ∙ k.holds.begun tx ∙ sym (attempts_same past x c.begun tx);
        };
        stored = from_later (opens x) kept;
      } where
        still : (s : Standing) → TablesStand old.tables s terms past → TablesStand old.tables s terms (x ∷ past)
        still Up t = serving_calm old.tables terms past x c t
        still Down t = tt
        still Failing t = tt
