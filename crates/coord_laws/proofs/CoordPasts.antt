-- In every past of the coordinator each Checkpoint is the Sum of what stands before it.
use Rattle.std.proofs.Common.{◌≡◌, List, [], ◌∷◌, ◌++◌, sym, ap, ◌∙◌, subst, inl, inr, arith}
use Rattle.mdb_base.specs.declared.names.Tid.{Tid}
use Rattle.presumptions.specs.declared.Participant.{Participant}
use Rattle.fed_rules.specs.declared.events.CoordEvent.{CoordEvent}
use Rattle.fed_rules.specs.declared.records.CoordRecord.{CoordRecord}
use Rattle.fed_rules.specs.declared.records.CoordRecord.TheVariants.{Initiation, Commit, Abort, End, Checkpoint}
use Rattle.fed_rules.specs.Coord.{coord_past}
use Rattle.fed_rules.specs.CoordPast.{CoordPast, disk, records}
use Rattle.fed_rules.specs.CoordRecords.{coord_frame}
use Rattle.fed_rules.specs.CoordSums.{coord_sum, coord_journal_sum}
use Rattle.fed_rules.specs.Policies.{Policy}
use Rattle.fed_rules.specs.Durable.{IsFirm}
use Rattle.coord_laws.specs.Records.{IsEnd}
use Rattle.coord_laws.proofs.Facts.{WroteAll}
use Rattle.coord_laws.specs.Pasts.{OfPasts}
use Rattle.coord_laws.proofs.Lines.{Kept, coord_lines}
use Rattle.coord_laws.proofs.Past.{any_member, next_turn, past_sound}
use Rattle.coord_laws.specs.Sums.{AreCoordSums, OfCoordinators}
use Rattle.coord_laws.proofs.CoordJournals.{journal_says}
use Rattle.coord_laws.proofs.CoordOpened.{is_summed}

sums_behind : (protocols : List Participant) (newest : CoordRecord) (rs : List CoordRecord) → AreCoordSums protocols (newest ∷ rs)
    → AreCoordSums protocols rs
sums_behind protocols (Initiation t members) rs s = s
sums_behind protocols (Commit t tickets) rs s = s
sums_behind protocols (Abort t members) rs s = s
sums_behind protocols (End t) rs s = s
sums_behind protocols (Checkpoint sum) rs s = s.1

pub sums_front : (protocols : List Participant) (newer kept : List CoordRecord) → AreCoordSums protocols (newer ++ kept) → AreCoordSums protocols kept
sums_front protocols [] kept s = s
sums_front protocols (x ∷ newer) kept s = sums_front protocols newer kept (sums_behind protocols x (newer ++ kept) s)

written_sums : (protocols : List Participant) (g : Tid) (past : CoordPast) (event : CoordEvent) (kept : List CoordRecord)
    → WroteAll protocols g past event kept → AreCoordSums protocols (records past) → AreCoordSums protocols (kept ++ records past)
written_sums protocols g past event [] w s = s
written_sums protocols g past event (Initiation t members ∷ kept) w s = written_sums protocols g past event kept w.1 s
written_sums protocols g past event (Commit t tickets ∷ kept) w s = written_sums protocols g past event kept w.1 s
written_sums protocols g past event (Abort t members ∷ kept) w s = written_sums protocols g past event kept w.1 s
written_sums protocols g past event (End t ∷ kept) w s = written_sums protocols g past event kept w.1 s
written_sums protocols g past event (Checkpoint sum ∷ kept) w s = (
  w.0.0 ∙ sym (ap (λ ks. coord_sum protocols (ks ++ records past)) w.0.1),
  written_sums protocols g past event kept w.1 s,
)

kept_sums : (protocols : List Participant) (g : Tid) (past : CoordPast) (event : CoordEvent) (now : List CoordRecord) → Kept protocols g past event now
    → AreCoordSums protocols (records past) → AreCoordSums protocols now
kept_sums protocols g past event now (inl (kept, w, e)) s =
    subst (AreCoordSums protocols) (sym e) (written_sums protocols g past event kept w s)
kept_sums protocols g past event now (inr (newer, each, e)) s = sums_front protocols newer now (subst (AreCoordSums protocols) e s)

some_attempt : Tid
some_attempt = record { tx = record { 0 = 0 }; attempt = 0 }

-- in every past that goes on from nothing or from what a journal stands for
pub going_sums : OfPasts (λ protocols past. AreCoordSums protocols (records past))
going_sums protocols policy [] made = tt
going_sums protocols policy (x ∷ past) (inl opened) = is_summed protocols (x ∷ past) opened
going_sums protocols policy (x ∷ past) (inr (next, made)) =
    let s = past_sound protocols policy any_member some_attempt past made in
    let t = next_turn protocols policy any_member some_attempt past x next s in
    kept_sums protocols some_attempt past next.event (records (x ∷ past)) t.line.kept (going_sums protocols policy past made)

pub going_say : OfPasts (λ protocols past. coord_journal_sum protocols (records past) ≡ coord_sum protocols (records past))
going_say protocols policy past made = journal_says protocols (records past) (going_sums protocols policy past made)

record IsSummedCoord (protocols : List Participant) (past : CoordPast) : Type 0 where
  firm : IsFirm coord_frame IsEnd (disk past)
  sums : AreCoordSums protocols (records past)

coord_summed : (protocols : List Participant) (policy : Policy) (g : Tid) (events : List CoordEvent)
    → IsSummedCoord protocols (coord_past protocols policy events)
coord_summed protocols policy g [] =
    record { firm = record { sound = record { frames = omega arith; synced = omega arith }; loose = tt }; sums = tt }
coord_summed protocols policy g (event ∷ events) =
    let s = coord_summed protocols policy g events in
    let l = coord_lines protocols policy g (coord_past protocols policy events) event s.firm in
    record { firm = l.firm; sums = kept_sums protocols g (coord_past protocols policy events) event _ l.kept s.sums }

pub coordinators_sum : OfCoordinators (λ protocols past. AreCoordSums protocols (records past))
coordinators_sum protocols policy events = (coord_summed protocols policy some_attempt events).sums

pub coordinators_say : OfCoordinators (λ protocols past. coord_journal_sum protocols (records past) ≡ coord_sum protocols (records past))
coordinators_say protocols policy events =
    journal_says protocols (records (coord_past protocols policy events)) (coordinators_sum protocols policy events)
