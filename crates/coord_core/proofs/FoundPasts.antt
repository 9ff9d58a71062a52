-- Which pasts go on from a found journal: that which a journal stands for, and none that events make of nothing.
use Rattle.std.proofs.Common.{◌≡◌, ℕ, Bool, true, false, ◌&&◌, ◌||◌, List, [], ◌∷◌, refl, sym, ap, ap₂, ◌∙◌, Option}
use Rattle.mdb_base.specs.Words.{some_of, when}
use Rattle.presumptions.specs.declared.Participant.{Participant}
use Rattle.fed_rules.specs.declared.events.CoordEvent.{CoordEvent}
use Rattle.fed_rules.specs.declared.events.CoordEvent.TheVariants as Ev
use Rattle.fed_rules.specs.declared.answers.Answer.TheVariants as Say
use Rattle.fed_rules.specs.declared.records.CoordRecord.{CoordRecord}
use Rattle.fed_rules.specs.Coord.{coord_line}
use Rattle.fed_rules.specs.CoordPast.{CoordHappening, CoordPast, disk}
use Rattle.fed_rules.specs.CoordRecords.{coord_frame, recorded}
use Rattle.fed_rules.specs.Disk.{Disk, Stops}
use Rattle.fed_rules.specs.Found.{Journal}
use Rattle.fed_rules.specs.Happenings.{Trip, is_down, quiet, stopped}
use Rattle.fed_rules.specs.Policies.{Policy}
use Rattle.fed_rules.specs.Reopened.{all_gone, all_heard, coord_read, coord_reads_as, long_coord, opened_coordinator, rewritten, torn_off}
use Rattle.coord_laws.specs.Pasts.{IsMadeByEvents}
use Rattle.coord_laws.proofs.ForCallers.{coord_made}
use Rattle.journal_disk.specs.Disk.{Seen}
use Rattle.actor_store.specs.Store.{Old, writes}
use Rattle.actor_store.proofs.ForCallers.{writes_more}
use Rattle.coord_core.specs.Found.{is_halt, opens, was_found}
use Rattle.coord_core.specs.Store.{Keeps, KeepsBehind, Store}

-- the past that a journal stands for goes on from it
opened_was_found : (protocols : List Participant) (journal : Journal CoordRecord) → was_found (opened_coordinator protocols journal) ≡ true
opened_was_found protocols journal =
    let tids = recorded (coord_read journal) in
    ap (λ (b : Bool). b || some_of opens (all_heard protocols tids (all_gone protocols (coord_read journal) tids)))
    (writes_more (rewritten coord_reads_as journal.records) (torn_off (long_coord journal.torn) journal.torn) refl)

-- a store that keeps a disk behind some entries keeps it of that past
pub found_kept : {tells : Bool} {seen : Seen} {rules : Disk CoordRecord} {trip : Option Trip} (store : Store) (protocols : List Participant) (journal : Journal CoordRecord) (old : Old CoordRecord)
    → KeepsBehind tells seen store old rules trip → Keeps (was_found (opened_coordinator protocols journal)) tells seen store rules trip
found_kept store protocols journal old k = record { old = old; none = (λ e. let both : true ≡ false = sym (opened_was_found protocols journal) ∙ e in cc); behind = k }

-- a halt writes nothing
halt_opens : (past : CoordPast) (cut : ℕ) (down : Bool)
    → opens (when down (quiet (Ev.Halt cut) Say.Down) (stopped coord_frame (disk past) (Ev.Halt cut) (Stops cut ∷ []))) ≡ false
unfolding when stopped
halt_opens past cut true = refl
halt_opens past cut false = refl

not_halt : (protocols : List Participant) (policy : Policy) (past : CoordPast) (event : CoordEvent) → is_halt event ≡ false → opens (coord_line protocols policy past event) ≡ false
not_halt protocols policy past event e =
    let x = coord_line protocols policy past event in
    ap (λ (b : Bool). b && writes x.calls) (ap is_halt (coord_made protocols policy past event).heard ∙ e)

-- so no line of the rules begins with a found journal
pub line_opens : (protocols : List Participant) (policy : Policy) (past : CoordPast) (event : CoordEvent) → opens (coord_line protocols policy past event) ≡ false
unfolding coord_line
line_opens protocols policy past (Ev.Halt cut) = halt_opens past cut (is_down past)
line_opens protocols policy past (Ev.Go tid steps) = not_halt protocols policy past (Ev.Go tid steps) refl
line_opens protocols policy past (Ev.Take site message) = not_halt protocols policy past (Ev.Take site message) refl
line_opens protocols policy past (Ev.Again tid) = not_halt protocols policy past (Ev.Again tid) refl
line_opens protocols policy past (Ev.Late tid) = not_halt protocols policy past (Ev.Late tid) refl
line_opens protocols policy past (Ev.Fate tx) = not_halt protocols policy past (Ev.Fate tx) refl
line_opens protocols policy past (Ev.Trip calls cut) = not_halt protocols policy past (Ev.Trip calls cut) refl
line_opens protocols policy past Ev.Back = not_halt protocols policy past Ev.Back refl
line_opens protocols policy past Ev.Check = not_halt protocols policy past Ev.Check refl

-- nor does a past that events make of nothing
pub next_not_found : (protocols : List Participant) (policy : Policy) (past : CoordPast) (event : CoordEvent) → was_found past ≡ false → was_found (coord_line protocols policy past event ∷ past) ≡ false
next_not_found protocols policy past event e = ap₂ (λ (a b : Bool). a || b) (line_opens protocols policy past event) e

pub made_not_found : (protocols : List Participant) (policy : Policy) (past : CoordPast) → IsMadeByEvents protocols policy past → was_found past ≡ false
made_not_found protocols policy [] made = refl
made_not_found protocols policy (x ∷ past) (event, is, numbered, made) =
    ap (λ (y : CoordHappening). was_found (y ∷ past)) is ∙ next_not_found protocols policy past event (made_not_found protocols policy past made)
