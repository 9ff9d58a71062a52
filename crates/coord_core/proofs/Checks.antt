-- A Checkpoint: what the tables stand for behind it, and what the journal says.
use Rattle.std.proofs.Common.{◌≡◌, Bool, true, false, List, [], ◌∷◌, reverse, refl, sym, ap, ◌∙◌, arith}
use Rattle.std.specs.Prelude.{nat_lt}
use Rattle.std.proofs.lemmas.Bool.{ltb-false}
use Rattle.std.proofs.lemmas.List.{reverse-reverse}
use Rattle.mdb_base.specs.declared.names.Tid.{Tid}
use Rattle.mdb_base.specs.Words.{when}
use Rattle.presumptions.specs.declared.Participant.{Participant}
use Rattle.fed_rules.specs.declared.answers.Answer.TheVariants as Say
use Rattle.fed_rules.specs.declared.events.CoordEvent.TheVariants as Ev
use Rattle.fed_rules.specs.declared.events.CoordStep.{CoordStep}
use Rattle.fed_rules.specs.declared.records.CoordRecord.{CoordRecord}
use Rattle.fed_rules.specs.declared.records.CoordRecord.TheVariants as Rec
use Rattle.fed_rules.specs.declared.sums.CoordSum.{CoordSum}
use Rattle.fed_rules.specs.Disk.{Append, Sync, TrimFront, longest}
use Rattle.fed_rules.specs.Happenings.{quiet}
use Rattle.fed_rules.specs.Coord.{answered, of_check}
use Rattle.fed_rules.specs.CoordPast.{CoordHappening, CoordPast}
use Rattle.fed_rules.specs.CoordPast as Past
use Rattle.fed_rules.specs.CoordRecords.{coord_payload}
use Rattle.fed_rules.specs.CoordSums.{coord_journal_sum, coord_sum}
use Rattle.fed_rules.specs.Policies.{Policy}
use Rattle.journal_disk.specs.Disk.{Seen}
use Rattle.journal_disk.specs.Frames.{IsPayload}
use Rattle.frame_journal.specs.Journal.{records}
use Rattle.coord_journal.specs.PayloadSizes.{payload_has_size}
use Rattle.coord_journal.specs.Spelling.{spelling}
use Rattle.actor_store.specs.declared.store.Standing.TheVariants.{Up}
use Rattle.coord_laws.proofs.ForCallers.{going_journals_say_all}
use Rattle.global_exec.specs.Live.{live_of}
use Rattle.protocol_table.specs.Attempts.{known_of}
use Rattle.coord_core.specs.declared.coord.CoordCore.{CoordCore}
use Rattle.coord_tables.specs.declared.tables.Tables.{Tables}
use Rattle.coord_core.specs.Pending.{IsPending}
use Rattle.coord_core.specs.Found.{was_found}
use Rattle.coord_core.specs.Stands.{Holds, Stands, Steps}
use Rattle.coord_core.specs.Store.{Keeps, Store}
use Rattle.coord_tables.specs.Tables.{IsServing}
use Rattle.coord_tables.specs.Terms.{Terms, answer_of, line_of}
use Rattle.coord_tables.proofs.ForCallers.{IsAsBefore, elsewhere, held_still, known_stays, live_stays, quiet_calm, sent_as, stages_stay}
use Rattle.coord_core.proofs.Events.{calm_steps}
use Rattle.coord_core.proofs.Still.{serves, up_is}

-- ---- the journal

-- what is read of the records in memory is what all records say
pub sum_is : {P : Type 0} (test : P → Policy) (core : CoordCore P) (terms : Terms) (past : CoordPast) (slice : List CoordRecord) (sum : CoordSum) → Holds test core terms past
    → slice ≡ records core.store.journal → sum ≡ coord_journal_sum core.protocols (reverse slice) → sum ≡ coord_sum terms.protocols (Past.records past)
sum_is test core terms past slice sum h read is =
    is
    ∙ ap (λ (rs : List CoordRecord). coord_journal_sum core.protocols (reverse rs)) (read ∙ h.records)
    ∙ ap (coord_journal_sum core.protocols) (reverse-reverse (Past.journal past))
    ∙ ap (λ (ps : List Participant). coord_journal_sum ps (Past.journal past)) h.protocols
    ∙ going_journals_say_all terms.protocols terms.policy past h.sound.made

-- ---- the line

-- a Checkpoint that isn't too long fits a frame
pub checkpoint_fits : (sum : CoordSum) → nat_lt longest (coord_payload (Rec.Checkpoint sum)) ≡ false → IsPayload (spelling (Rec.Checkpoint sum))
checkpoint_fits sum small =
    let size = payload_has_size (Rec.Checkpoint sum) in
    let most = ltb-false longest (coord_payload (Rec.Checkpoint sum)) small in
    omega (arith, size, most)

abbrev pub check_line : CoordSum → CoordHappening
check_line sum = record { event = Ev.Check; answer = Say.Checked; sends = []; calls = Append (Rec.Checkpoint sum) ∷ Sync ∷ TrimFront ∷ []; lines = [] }

pub check_is : (terms : Terms) (past : CoordPast) (sum : CoordSum) → sum ≡ coord_sum terms.protocols (Past.records past) → nat_lt longest (coord_payload (Rec.Checkpoint sum)) ≡ false
    → answer_of terms past Ev.Check ≡ check_line sum
unfolding answered of_check when
check_is terms past sum is small =
    ap (λ (s : CoordSum). when (nat_lt longest (coord_payload (Rec.Checkpoint s))) (quiet Ev.Check Say.Large) (check_line s)) (sym is)
    ∙ ap (λ b. when b (quiet Ev.Check Say.Large) (check_line sum)) small

pub large_is : (terms : Terms) (past : CoordPast) (sum : CoordSum) → sum ≡ coord_sum terms.protocols (Past.records past) → nat_lt longest (coord_payload (Rec.Checkpoint sum)) ≡ true
    → answer_of terms past Ev.Check ≡ quiet Ev.Check Say.Large
unfolding answered of_check when
large_is terms past sum is large =
    ap (λ (s : CoordSum). when (nat_lt longest (coord_payload (Rec.Checkpoint s))) (quiet Ev.Check Say.Large) (check_line s)) (sym is)
    ∙ ap (λ b. when b (quiet Ev.Check Say.Large) (check_line sum)) large

-- it says nothing new of any attempt
check_before : (protocols : List Participant) (past : CoordPast) (sum : CoordSum) (t : Tid) → IsAsBefore protocols past (check_line sum) t
check_before protocols past sum t = elsewhere protocols past (check_line sum) t (record { goes = refl; about = refl; begins = refl; named = refl; takes = refl; prepares = refl })

check_serving : (tables : Tables) (terms : Terms) (past : CoordPast) (sum : CoordSum) → IsServing tables terms past → IsServing tables terms (check_line sum ∷ past)
check_serving tables terms past sum s =
    let x = check_line sum in
    record {
      known = λ t. known_stays terms.protocols past x t (check_before terms.protocols past sum t) (known_of t tables.known) (s.known t);
      live = λ t. live_stays terms.protocols past x t (check_before terms.protocols past sum t) (live_of t tables.exec) (s.live t);
      stages = stages_stay terms.protocols past x tables.stages.listed refl (λ t. (check_before terms.protocols past sum t).undecided) (λ t. sent_as terms.protocols past x t (check_before terms.protocols past sum t)) s.stages;
      committed = s.committed;
      graph = s.graph;
      pruned = held_still past x tables.graph refl (λ t. (check_before terms.protocols past sum t).undecided) s.pruned;
    }

module _ {P : Type 0} (test : P → Policy) (tells : Bool) where
  pub check_large : (step : CoordStep) (core : CoordCore P) (seen : Seen) (terms : Terms) (past : CoordPast) (sum : CoordSum) → Stands test tells core seen terms past → core.store.standing ≡ Up
      → sum ≡ coord_sum terms.protocols (Past.records past) → nat_lt longest (coord_payload (Rec.Checkpoint sum)) ≡ true → step.answer ≡ Say.Large → step.sends ≡ []
      → Steps test tells 0 seen step core seen terms past (line_of terms past Ev.Check)
  check_large step core seen terms past sum k up is large said silent =
      calm_steps test tells step core core seen terms past Ev.Check (quiet Ev.Check Say.Large) k up tt tt (large_is terms past sum is large) refl (quiet_calm Ev.Check Say.Large tt tt)
      (record { answer = said; sends = silent }) refl

  pub check_pending : (step : CoordStep) (old : CoordCore P) (store : Store) (before after : Seen) (terms : Terms) (past : CoordPast) (sum : CoordSum) → Stands test tells old before terms past
      → old.store.standing ≡ Up → Keeps (was_found past) tells after store (Past.disk past) (Past.trip past)
      → sum ≡ coord_sum terms.protocols (Past.records past) → nat_lt longest (coord_payload (Rec.Checkpoint sum)) ≡ false → step.answer ≡ Say.Checked → step.sends ≡ []
      → IsPending test tells (Append (Rec.Checkpoint sum) ∷ Sync ∷ TrimFront ∷ []) step (record old { store = store }) after terms past Ev.Check (check_line sum)
  check_pending step old store before after terms past sum k up kept is small said silent = record {
    answered = record {
      usual = tt;
      line = check_is terms past sum is small;
      heard = refl;
      numbered = tt;
      goes = refl;
      stays = refl;
      answer = said;
      sends = silent;
    };
    ready = record {
      stored = kept;
      up = up_is test tells old terms past k.holds up;
      protocols = k.holds.protocols;
      policy = k.holds.policy;
      sound = k.holds.sound;
      in_range = k.holds.sound.in_range;
      serving = check_serving old.tables terms past sum (serves test tells old terms past k.holds up);
      begun = k.holds.begun;
    };
    none_begun = refl;
    makes = refl;
  }
