-- A core that goes on from a journal that was found on its disk stands for the past that the journal stands for.
use Rattle.std.proofs.Common.{◌≡◌, ℕ, ◌<◌, ◌≤◌, Bool, None, List, [], ◌∷◌, map, refl, sym, ap, subst, ◌∙◌, inl, arith, Result, Ok, Err, IsErr, IsErrAnd}
use Rattle.std.specs.Result.{IsErrOf}
use Rattle.std.specs.Prelude.{reverse, All}
use Rattle.std.specs.List.{AllByRecursion}
use Rattle.std.proofs.lemmas.List.Elements.{All-from_recursion}
use Rattle.mdb_base.specs.declared.names.Tid.{Tid}
use Rattle.mdb_base.specs.declared.names.Tx.{Tx}
use Rattle.mdb_base.specs.Counts.{HasCauseOf}
use Rattle.mdb_base.specs.Rising.{IsRising}
use Rattle.mdb_base.specs.Words.{Each}
use Rattle.mdb_base.proofs.ForCallers.{append_each, each_by_place, each_map, first_least, rising_rest}
use Rattle.order_laws.specs.Chains.{In}
use Rattle.order_laws.proofs.ForCallers.{each_from, in_each}
use Rattle.presumptions.specs.declared.Participant.{Participant}
use Rattle.field_bytes.specs.Fields.{IsTid}
use Rattle.record_fields.specs.Named.{IsSite}
use Rattle.record_fields.specs.Sums.{a_committed_attempt, an_open_attempt}
use Rattle.fed_rules.specs.declared.records.CoordRecord.{CoordRecord}
use Rattle.fed_rules.specs.declared.records.CoordRecord.TheVariants as Rec
use Rattle.fed_rules.specs.declared.sums.CommittedAttempt.{CommittedAttempt}
use Rattle.fed_rules.specs.declared.sums.OpenAttempt.{OpenAttempt}
use Rattle.fed_rules.specs.CoordPast.{CoordPast, attempts_of, begun_tids}
use Rattle.fed_rules.specs.CoordPast as Past
use Rattle.fed_rules.specs.CoordRecords.{coord_frame, recorded}
use Rattle.fed_rules.specs.Disk.{Disk, empty_disk, standing}
use Rattle.fed_rules.specs.Disk as DiskWords
use Rattle.fed_rules.specs.Found.{Journal}
use Rattle.fed_rules.specs.Policies.{Policy}
use Rattle.fed_rules.specs.Reopened.{coord_read, coord_reads_as, long_coord, opened_coordinator}
use Rattle.fed_rules.proofs.ForCallers.{opened_journal}
use Rattle.coord_laws.specs.FoundCoordinators.{MembersRise, RiseBySite}
use Rattle.coord_laws.specs.Pasts.{IsOpened, NameDeclared}
use Rattle.coord_laws.proofs.ForCallers.{names_declared, no_length, nothing_read, opened_begun, opened_disk, read_is, torn_short, usable_go_on}
use Rattle.journal_disk.specs.Disk.{Image, Seen}
use Rattle.frame_journal.specs.Journal.{records}
use Rattle.coord_journal.specs.Spelling.{IsRecord}
use Rattle.actor_store.specs.declared.errors.StepErr.{StepErr}
use Rattle.actor_store.specs.declared.errors.StepErr.TheVariants as Err_is
use Rattle.actor_store.specs.declared.store.Standing.TheVariants.{Down}
use Rattle.actor_store.specs.Store.{is_up}
use Rattle.coord_core.specs.declared.coord.CoordCore.{CoordCore}
use Rattle.coord_core.specs.Found.{IsFoundOn, found_disk, was_found}
use Rattle.coord_core.specs.Stands.{Stands}
use Rattle.coord_core.specs.Store.{Keeps}
use Rattle.coord_core.proofs.Backs.{stands_down}
use Rattle.coord_core.proofs.Still.{kept_records}
use Rattle.coord_tables.specs.Found.{attempts_in, found_attempts}
use Rattle.coord_tables.specs.Terms.{IsSound, Terms}
use Rattle.coord_tables.specs.Trees.{noted}
use Rattle.coord_tables.proofs.ForCallers.{attempts_found, named_recorded, opened_alone}

-- ---- the format

-- sites by rising number
rise_all : (ms : List Participant) → IsRising (λ (m : Participant). m.site.0) ms → RiseBySite ms
rise_all [] r = tt
rise_all (m ∷ ms) r = (
  each_by_place (λ (other : Participant). m.site.0 < other.site.0) ms (λ n y at. first_least (λ (p : Participant). p.site.0) m ms n y r at),
  rise_all ms (rising_rest (λ (p : Participant). p.site.0) m ms r),
)

open_rise : (os : List OpenAttempt) → AllByRecursion an_open_attempt.Fits os → Each (λ (o : OpenAttempt). RiseBySite o.participants) os
open_rise [] f = tt
open_rise (o ∷ os) f = (rise_all o.participants f.0.1.1, open_rise os f.1)

-- the participants of each record rise
members_rise : (rs : List CoordRecord) → AllByRecursion IsRecord rs → Each MembersRise rs
members_rise [] f = tt
members_rise (Rec.Initiation t ms ∷ rs) f = (rise_all ms f.0.1.1, members_rise rs f.1)
members_rise (Rec.Abort t ms ∷ rs) f = (rise_all ms f.0.1.1, members_rise rs f.1)
members_rise (Rec.Commit t ks ∷ rs) f = (tt, members_rise rs f.1)
members_rise (Rec.End t ∷ rs) f = (tt, members_rise rs f.1)
members_rise (Rec.Checkpoint sum ∷ rs) f = (open_rise sum.open_attempts f.0.0.2, members_rise rs f.1)

open_range : (os : List OpenAttempt) → AllByRecursion an_open_attempt.Fits os → Each IsTid (map (λ (o : OpenAttempt). o.tid) os)
open_range [] f = tt
open_range (o ∷ os) f = (f.0.0, open_range os f.1)

committed_range : (cs : List CommittedAttempt) → AllByRecursion a_committed_attempt.Fits cs → Each IsTid (map (λ (c : CommittedAttempt). c.tid) cs)
committed_range [] f = tt
committed_range (c ∷ cs) f = (f.0.0, committed_range cs f.1)

-- the attempts that it names lie in their ranges
attempts_range : (r : CoordRecord) → IsRecord r → Each IsTid (attempts_in r)
attempts_range (Rec.Initiation t ms) f = (f.0, tt)
attempts_range (Rec.Commit t ks) f = (f.0, tt)
attempts_range (Rec.Abort t ms) f = (f.0, tt)
attempts_range (Rec.End t) f = (f, tt)
attempts_range (Rec.Checkpoint sum) f =
    append_each IsTid (map (λ (o : OpenAttempt). o.tid) sum.open_attempts) (map (λ (c : CommittedAttempt). c.tid) sum.committed) (open_range sum.open_attempts f.0.2) (committed_range sum.committed f.1.2)

all_range : (rs : List CoordRecord) → AllByRecursion IsRecord rs → Each (λ r. Each IsTid (attempts_in r)) rs
all_range [] f = tt
all_range (r ∷ rs) f = (attempts_range r f.0, all_range rs f.1)

small_range : (rs : List CoordRecord) → AllByRecursion IsRecord rs → AllByRecursion (λ (r : CoordRecord). Each (λ (tid : Tid). tid.attempt < 32) (attempts_in r)) rs
small_range [] f = tt
small_range (r ∷ rs) f = (each_map IsTid (λ (tid : Tid). tid.attempt < 32) (λ tid k. k.attempts) (attempts_in r) (attempts_range r f.0), small_range rs f.1)

pub attempts_small : (rs : List CoordRecord) → AllByRecursion IsRecord rs → All (λ (r : CoordRecord). Each (λ (tid : Tid). tid.attempt < 32) (attempts_in r)) rs
attempts_small rs f = All-from_recursion (λ (r : CoordRecord). Each (λ (tid : Tid). tid.attempt < 32) (attempts_in r)) rs (small_range rs f)

-- ---- the disk

-- the journal stands on the disk that it stands for
found_journal : (journal : Journal CoordRecord) → DiskWords.journal coord_frame (found_disk journal) ≡ journal.records
found_journal journal = by_records journal.records journal.torn
  where
    by_records : (rs : List CoordRecord) (torn : ℕ) → DiskWords.journal coord_frame (found_disk (record { records = rs; torn = torn })) ≡ rs
    by_records [] torn = ap (standing coord_frame 0) (nothing_read torn)
    by_records (newest ∷ older) torn =
        opened_journal coord_frame coord_reads_as newest older (long_coord torn) torn empty_disk (torn_short torn) no_length (λ r. omega arith)

-- ---- the past

module _ (image : Image) (protocols : List Participant) (journal : Journal CoordRecord) (rising : IsRising (λ (m : Participant). m.site.0) protocols) (found : IsFoundOn image protocols journal) where
  abbrev past : CoordPast
  past = opened_coordinator protocols journal

  rise : RiseBySite protocols
  rise = rise_all protocols rising

  in_range : AllByRecursion IsRecord journal.records
  in_range = found.stands.in_range

  members : Each MembersRise journal.records
  members = members_rise journal.records in_range

  declared : NameDeclared protocols (coord_read journal)
  declared = names_declared protocols journal rise found.usable members

  disk_is : Past.disk past ≡ found_disk journal
  disk_is = opened_disk protocols journal declared

  begun_range : Each IsTid (begun_tids past)
  begun_range = each_from IsTid (begun_tids past) (λ g i. one g (opened_begun protocols journal declared g i))
    where
      all : Each IsTid (recorded (coord_read journal))
      all = subst (Each IsTid) (sym (ap recorded (read_is journal.records journal.torn))) (named_recorded IsTid journal.records (all_range journal.records in_range))

      one : (g : Tid) → (u : Tid) × In u (recorded (coord_read journal)) × (u.tx ≡ g.tx) × (g.attempt ≤ u.attempt) → IsTid g
      one g (u, i, same, le) =
          let r : IsTid u = in_each IsTid (recorded (coord_read journal)) u all i in
          let less = r.attempts in
          record {
            least = subst (λ (tx : Tx). 1 ≤ tx.0) same r.least;
            greatest = subst (λ (tx : Tx). tx.0 ≤ 1024) same r.greatest;
            attempts = omega (arith, less, le);
          }

  -- it is the past that a journal stands for
  pub is_opened : IsOpened protocols past
  is_opened = usable_go_on protocols journal rise found.usable members

  -- what holds of a core's past holds of it
  pub sound_opened : (policy : Policy) → Each (λ (m : Participant). IsSite m.site) protocols → IsSound (record { protocols = protocols; policy = policy }) past
  sound_opened policy sites = record {
    rising = rising;
    declared = sites;
    made = inl is_opened;
    alone = opened_alone protocols journal declared found.usable.once;
    in_range = begun_range;
  }

  -- the core stands for it
  pub stands_opened : {P : Type 0} (test : P → Policy) (tells : Bool) (core : CoordCore P) (seen : Seen) → Each (λ (m : Participant). IsSite m.site) protocols → core.protocols ≡ protocols
      → Keeps (was_found past) tells seen core.store (found_disk journal) None → core.store.standing ≡ Down → ((tx : Tx) → noted core.begun.listed tx ≡ found_attempts tx (records core.store.journal))
      → Stands test tells core seen (record { protocols = protocols; policy = test core.policy }) past
  stands_opened test tells core seen sites same kept down begun =
      let terms : Terms = record { protocols = protocols; policy = test core.policy } in
      let here : records core.store.journal ≡ reverse journal.records = kept_records tells seen core.store (found_disk journal) None kept ∙ ap reverse (found_journal journal) in
      stands_down test tells core seen terms past (sound_opened (test core.policy) sites) same refl
      (λ tx. begun tx ∙ ap (found_attempts tx) here ∙ attempts_found protocols journal declared found.usable.sums tx)
      (subst (λ (d : Disk CoordRecord). Keeps (was_found past) tells seen core.store d None) (sym disk_is) kept) (ap is_up down) refl

error_is : {B : Type 0} (e f : StepErr) → IsErrOf {T = B} (Err e) f → e ≡ f
error_is {B} e f same = let here : (let r : Result B StepErr = Err e in r) ≡ Err f = same in cc

is_error : {A : Type 0} (e f : StepErr) → e ≡ f → IsErrOf {T = A} (Err e) f
is_error {A} e f same = ap (λ (x : StepErr). let r : Result A StepErr = Err x in r) same

-- an error that is handed on has the same cause
pub cause_on : {A B : Type 0} (before now : ℕ) (outcome : Result B StepErr) (error : StepErr) → IsErr outcome × IsErrAnd outcome (λ e. e ≡ error) → HasCauseOf {T = A} Err_is.Disk before now (Err error) → HasCauseOf {T = B} Err_is.Disk before now outcome
cause_on before now (Ok core) error h k = cc
cause_on {A} {B} before now (Err e) error h k = record {
  later = k.later;
  failed = (λ i. k.failed (is_error {A = A} error Err_is.Disk (sym h.1 ∙ error_is {B = B} e Err_is.Disk i)));
  clean = (λ n. k.clean (λ i. n (is_error {A = B} e Err_is.Disk (h.1 ∙ error_is {B = A} error Err_is.Disk i))));
}
