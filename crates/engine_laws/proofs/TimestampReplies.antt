-- The replies of a timestamp site, in the words of the field.
use Rattle.std.proofs.Common.{◌≡◌, ◌<◌, ◌⊎◌, Bool, true, false, not, ◌&&◌, is_some, List, ◌++◌, refl, sym, ap, ◌∙◌, subst, inl, inr, ltb-true, lt-ltb, true≢false}
use Rattle.std.proofs.lemmas.Bool.{and_parts, and_from}
use Rattle.mdb_base.specs.declared.names.Engine.TheVariants.{Timestamp}
use Rattle.mdb_base.specs.declared.names.Key.{Key}
use Rattle.mdb_base.specs.declared.acts.PlainAct.{PlainAct}
use Rattle.mdb_base.specs.Names.{same_tid}
use Rattle.mdb_base.specs.Words.{those, some_of}
use Rattle.mdb_base.proofs.ForCallers.{among_some, each_among, same_tid-equal, some_among}
use Rattle.fed_rules.specs.Runs.{Start, EngineLine, Run, unended, committed, aborted, has_ticket, is_sealed}
use Rattle.fed_rules.specs.Replies.{AtBegin, conflicts, conflicts_with_read, writes, granted, access_stop, ticket_stop, younger_in_the_way, older_writers, younger_takers, older_takers, is_younger, is_older, is_in_the_way, has_written, key_of, or_reply, seal_stop}
use Rattle.fed_rules.specs.EngineLines.{IsRight}
use Rattle.engine_laws.specs.Unended.{has_write}
use Rattle.engine_laws.specs.Laws.{AlwaysBy}
use Rattle.engine_laws.specs.ReplyLaws.{IsUnended, IsAmong, HasConflict, HasReadConflict, HasWritten, IsYoungerInTheWay, IsOlderWriter, IsYoungerTaker, IsOlderTaker, IsInTime, AnswersByAge, TakesByAge, AlwaysSeals, next_ticket}
use Rattle.engine_laws.proofs.Tables.{clear_unwritten}
use Rattle.engine_laws.proofs.Drawers.{IsDrawer, AllDrew, all_drew, same_age}
use Rattle.engine_laws.proofs.Relations.{Lists, lists_self, lists_unended, lists_those, lists_append, lists_as, in_time_is}
use Rattle.engine_laws.proofs.LockingReplies.{granted_is, taken_from, open_from}
use Rattle.engine_laws.proofs.Sound.{IsApart, IsSound}
use Rattle.engine_laws.proofs.Takers.{IsTaker, HasOneTaker}
use Rattle.engine_laws.proofs.AgeRuns.{age_sound}
use Rattle.engine_laws.proofs.AgeTickets.{age_one_taker}
use Rattle.engine_laws.proofs.TimestampRuns.{timestamp_by_age}

pub lists_younger : (start : Start) (lines : List EngineLine) (me : Run) (act : PlainAct) → IsRight start lines
    → Lists (younger_in_the_way start lines me act) (IsYoungerInTheWay start lines me act)
lists_younger start lines me act right =
    lists_as (younger_in_the_way start lines me act) Found (IsYoungerInTheWay start lines me act) to from
    (lists_append (those any (unended start lines ++ committed start lines)) (those reader (aborted start lines)) FoundAny
    FoundReader
    (lists_those (unended start lines ++ committed start lines)
    (λ run. IsUnended start lines run ⊎ IsAmong run (committed start lines)) any
    (lists_append (unended start lines) (committed start lines) (IsUnended start lines)
    (λ run. IsAmong run (committed start lines)) (lists_unended start lines right) (lists_self (committed start lines))))
    (lists_those (aborted start lines) (λ run. IsAmong run (aborted start lines)) reader (lists_self (aborted start lines))))
  where
    any : Run → Bool
    any = λ run. is_younger me run && is_in_the_way act run

    reader : Run → Bool
    reader = λ run. is_younger me run && some_of (conflicts_with_read act) run.acts

    FoundAny : Run → Type 0
    FoundAny run = (IsUnended start lines run ⊎ IsAmong run (committed start lines)) × (any run ≡ true)

    FoundReader : Run → Type 0
    FoundReader run = IsAmong run (aborted start lines) × (reader run ≡ true)

    Found : Run → Type 0
    Found run = FoundAny run ⊎ FoundReader run

    to : (run : Run) → Found run → IsYoungerInTheWay start lines me act run
    to run (inl (inl at, passed)) =
        let parts = and_parts (is_younger me run) (is_in_the_way act run) passed in
        record { younger = ltb-true me.age run.age parts.0; conflict = inl (at, some_among (conflicts act) run.acts parts.1) }
    to run (inl (inr among, passed)) =
        let parts = and_parts (is_younger me run) (is_in_the_way act run) passed in
        record {
          younger = ltb-true me.age run.age parts.0;
          conflict =
              inr (inl (among, some_among (conflicts act) run.acts parts.1));
        }
    to run (inr (among, passed)) =
        let parts = and_parts (is_younger me run) (some_of (conflicts_with_read act) run.acts) passed in
        record {
          younger = ltb-true me.age run.age parts.0;
          conflict =
              inr (inr (among, some_among (conflicts_with_read act) run.acts parts.1));
        }

    by_way : (run : Run) → me.age < run.age
        → (IsUnended start lines run × HasConflict act run) ⊎ (IsAmong run (committed start lines) × HasConflict act run)
        ⊎ (IsAmong run (aborted start lines) × HasReadConflict act run)
        → Found run
    by_way run younger (inl (at, conflict)) =
        inl (
          inl at,
          and_from (is_younger me run) (is_in_the_way act run) (lt-ltb me.age run.age younger)
              (among_some (conflicts act) run.acts conflict),
        )
    by_way run younger (inr (inl (among, conflict))) =
        inl (
          inr among,
          and_from (is_younger me run) (is_in_the_way act run) (lt-ltb me.age run.age younger)
              (among_some (conflicts act) run.acts conflict),
        )
    by_way run younger (inr (inr (among, conflict))) =
        inr (
          among,
          and_from (is_younger me run) (some_of (conflicts_with_read act) run.acts) (lt-ltb me.age run.age younger)
              (among_some (conflicts_with_read act) run.acts conflict),
        )

    from : (run : Run) → IsYoungerInTheWay start lines me act run → Found run
    from run h = by_way run h.younger h.conflict

pub lists_older : (start : Start) (lines : List EngineLine) (me : Run) (act : PlainAct) → IsRight start lines
    → Lists (older_writers start lines me act) (IsOlderWriter start lines me act)
lists_older start lines me act right =
    lists_as (older_writers start lines me act) (λ run. IsUnended start lines run
    × ((is_older me run && has_written (key_of act) run) ≡ true)) (IsOlderWriter start lines me act)
    (λ run (at, passed).
    let parts = and_parts (is_older me run) (has_written (key_of act) run) passed in
    record { unended = at; older = ltb-true run.age me.age parts.0; wrote = some_among (writes (key_of act)) run.acts parts.1 })
    (λ run h. (
      h.unended,
      and_from (is_older me run) (has_written (key_of act) run) (lt-ltb run.age me.age h.older)
          (among_some (writes (key_of act)) run.acts h.wrote),
    ))
    (lists_those (unended start lines) (IsUnended start lines) (λ run. is_older me run && has_written (key_of act) run)
    (lists_unended start lines right))

pub lists_younger_takers : (start : Start) (lines : List EngineLine) (me : Run) → IsRight start lines
    → Lists (younger_takers start lines me) (IsYoungerTaker start lines me)
lists_younger_takers start lines me right =
    lists_as (younger_takers start lines me)
    (λ run. (IsUnended start lines run ⊎ IsAmong run (committed start lines)) × ((is_younger me run && has_ticket run) ≡ true))
    (IsYoungerTaker start lines me)
    (λ run (counts, passed).
    let parts = and_parts (is_younger me run) (has_ticket run) passed in
    record { younger = ltb-true me.age run.age parts.0; counts = counts; taken = taken_from run parts.1 })
    (λ run h. (h.counts, and_from (is_younger me run) (has_ticket run) (lt-ltb me.age run.age h.younger) (ap is_some h.taken.1)))
    (lists_those (unended start lines ++ committed start lines)
    (λ run. IsUnended start lines run ⊎ IsAmong run (committed start lines)) (λ run. is_younger me run && has_ticket run)
    (lists_append (unended start lines) (committed start lines) (IsUnended start lines)
    (λ run. IsAmong run (committed start lines)) (lists_unended start lines right) (lists_self (committed start lines))))

pub lists_older_takers : (start : Start) (lines : List EngineLine) (me : Run) → IsRight start lines
    → Lists (older_takers start lines me) (IsOlderTaker start lines me)
lists_older_takers start lines me right =
    lists_as (older_takers start lines me) (λ run. IsUnended start lines run
    × ((is_older me run && has_ticket run && not (is_sealed run)) ≡ true)) (IsOlderTaker start lines me)
    (λ run (at, passed).
    let parts = and_parts (is_older me run && has_ticket run) (not (is_sealed run)) passed in
    let both = and_parts (is_older me run) (has_ticket run) parts.0 in
    record {
      unended = at;
      older = ltb-true run.age me.age both.0;
      taken = taken_from run both.1;
      open_run =
          open_from run parts.1;
    })
    (λ run h. (
      h.unended,
      and_from (is_older me run && has_ticket run) (not (is_sealed run))
          (and_from (is_older me run) (has_ticket run) (lt-ltb run.age me.age h.older) (ap is_some h.taken.1))
          (ap (λ o. not (is_some o)) h.open_run),
    ))
    (lists_those (unended start lines) (IsUnended start lines) (λ run. is_older me run && has_ticket run && not (is_sealed run))
    (lists_unended start lines right))

-- runs in the way drew their ages
pub drew_younger : (start : Start) (lines : List EngineLine) (me : Run) (act : PlainAct) (run : Run) → AllDrew start lines
    → IsYoungerInTheWay start lines me act run → IsDrawer start lines run
drew_younger start lines me act run drew h = by_way h.conflict
  where
    by_way : (IsUnended start lines run × HasConflict act run) ⊎ (IsAmong run (committed start lines) × HasConflict act run)
        ⊎ (IsAmong run (aborted start lines) × HasReadConflict act run)
        → IsDrawer start lines run
    by_way (inl (at, conflict)) = drew.unended run.tid run at
    by_way (inr (inl (among, conflict))) = each_among (IsDrawer start lines) run (committed start lines) drew.committed among
    by_way (inr (inr (among, conflict))) = each_among (IsDrawer start lines) run (aborted start lines) drew.aborted among

pub drew_taker : (start : Start) (lines : List EngineLine) (me run : Run) → AllDrew start lines → IsYoungerTaker start lines me run
    → IsDrawer start lines run
drew_taker start lines me run drew h = by_way h.counts
  where
    by_way : IsUnended start lines run ⊎ IsAmong run (committed start lines) → IsDrawer start lines run
    by_way (inl at) = drew.unended run.tid run at
    by_way (inr among) = each_among (IsDrawer start lines) run (committed start lines) drew.committed among

-- at most one unended run has written a key
pub one_writer : (start : Start) (lines : List EngineLine) (key : Key) (a b : Run) → IsSound AtBegin start lines
    → IsUnended start lines a → IsUnended start lines b
    → HasWritten key a → HasWritten key b → a.tid ≡ b.tid
one_writer start lines key a b sound at_a at_b wrote_a wrote_b = by_test (same_tid a.tid b.tid) refl
  where
    writes_a : has_write key a.acts ≡ true
    writes_a = among_some (writes key) a.acts wrote_a

    writes_b : has_write key b.acts ≡ true
    writes_b = among_some (writes key) b.acts wrote_b

    apart : IsApart a.acts a.age b.acts b.age → ⊥
    apart (inl (less, clear)) = let none = clear_unwritten a.acts b.acts key clear writes_a in absurd
        (true≢false (sym writes_b ∙ none))
    apart (inr (less, clear)) = let none = clear_unwritten b.acts a.acts key clear writes_b in absurd
        (true≢false (sym writes_a ∙ none))

    by_test : (t : Bool) → same_tid a.tid b.tid ≡ t → a.tid ≡ b.tid
    by_test true is = same_tid-equal a.tid b.tid is
    by_test false is = absurd (apart (sound.apart a.tid b.tid a b is at_a at_b a.age b.age refl refl))

-- at most one unsealed run has the ticket
pub one_taker : (start : Start) (lines : List EngineLine) (me a b : Run) → HasOneTaker start lines → IsOlderTaker start lines me a
    → IsOlderTaker start lines me b → a.tid ≡ b.tid
one_taker start lines me a b one h g = by_test (same_tid a.tid b.tid) refl
  where
    taker : (run : Run) → IsOlderTaker start lines me run → IsTaker run
    taker run t = record { open_run = t.open_run; ticket = t.taken.0; taken = t.taken.1 }

    by_test : (t : Bool) → same_tid a.tid b.tid ≡ t → a.tid ≡ b.tid
    by_test true is = same_tid-equal a.tid b.tid is
    by_test false is = absurd (one.one a.tid b.tid a b is h.unended g.unended (taker a h) (taker b g))

pub timestamp_answers : AlwaysBy Timestamp AnswersByAge
timestamp_answers start lines kind begun right me act =
    let Younger = IsYoungerInTheWay start lines me act in
    let Older = IsOlderWriter start lines me act in
    let grant = granted start lines me act in
    let by_rule = ap (λ k. or_reply (access_stop k start lines me act) grant) kind in
    let drew = all_drew start lines begun right in
    subst (IsInTime Younger Older grant) (sym by_rule)
    (in_time_is Younger Older grant (younger_in_the_way start lines me act) (older_writers start lines me act)
    (lists_younger start lines me act right) (lists_older start lines me act right)
    (λ a b h g. same_age start lines a b (drew_younger start lines me act a drew h) (drew_younger start lines me act b drew g))
    (λ a b h g. one_writer start lines (key_of act) a b (age_sound Timestamp start lines timestamp_by_age kind begun right) h.unended g.unended h.wrote
    g.wrote)
    (granted_is start lines me act))

pub timestamp_takes : AlwaysBy Timestamp TakesByAge
timestamp_takes start lines kind begun right me =
    let Younger = IsYoungerTaker start lines me in
    let Older = IsOlderTaker start lines me in
    let grant = next_ticket start lines in
    let by_rule = ap (λ k. or_reply (ticket_stop k start lines me) grant) kind in
    let drew = all_drew start lines begun right in
    subst (IsInTime Younger Older grant) (sym by_rule)
    (in_time_is Younger Older grant (younger_takers start lines me) (older_takers start lines me)
    (lists_younger_takers start lines me right) (lists_older_takers start lines me right)
    (λ a b h g. same_age start lines a b (drew_taker start lines me a drew h) (drew_taker start lines me b drew g))
    (λ a b h g. one_taker start lines me a b (age_one_taker Timestamp timestamp_by_age start lines kind begun right) h g)
    refl)

pub timestamp_seals : AlwaysBy Timestamp AlwaysSeals
timestamp_seals start lines kind begun right me = ap (λ k. seal_stop k start lines me) kind
