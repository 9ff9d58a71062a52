-- Strict two-phase locking: no two unended runs conflict, and each one reads alone on the table as it stands.
use Rattle.std.proofs.Common.{◌≡◌, ℕ, ◌+◌, ◌<◌, true, false, ◌&&◌, Some, List, [], ◌∷◌, refl, sym, ap, ◌∙◌, subst, arith}
use Rattle.mdb_base.specs.declared.names.Tid.{Tid}
use Rattle.mdb_base.specs.declared.names.Engine.TheVariants.{Locking}
use Rattle.mdb_base.specs.declared.acts.PlainAct.{PlainAct}
use Rattle.mdb_base.specs.declared.acts.PlainAct.TheVariants.{Read, Write}
use Rattle.mdb_base.specs.declared.replies.Reply.{Reply}
use Rattle.mdb_base.specs.Names.{same_tid}
use Rattle.mdb_base.specs.Rows.{look_up}
use Rattle.mdb_base.specs.Words.{inserted}
use Rattle.mdb_base.proofs.ForCallers.{each_all, each_map, same_tid-sym, those_none}
use Rattle.fed_rules.specs.Runs.{Start, EngineLine, Seals, Commits, Run, tid_of, run_at, unended, counter, number, committed, table_of, table, after}
use Rattle.fed_rules.specs.Replies.{AtSealing, access_reply_by, rule, locking, access_reply, seal_number, granted_by, holders, is_other, is_in_the_way}
use Rattle.fed_rules.specs.EngineLines.{IsRight, IsStart}
use Rattle.fed_rules.specs.SerialRuns.{ReadsAlone}
use Rattle.engine_laws.specs.Unended.{EachRun, EachPair, IsClear}
use Rattle.engine_laws.proofs.Tables.{reads_clear, clear_none}
use Rattle.engine_laws.proofs.ByNumber.{is_later, table_inserted}
use Rattle.engine_laws.proofs.Runs.{Own, begins, stays, got, wrote, takes, seals, own, each_run, each_pair, both_ways, each_restored, each_unended, committed_is}
use Rattle.engine_laws.proofs.Restored.{reads_written, each_restored_pair}
use Rattle.engine_laws.proofs.Counted.{IsCounted, counted}
use Rattle.engine_laws.proofs.Sound.{IsSound, Fits, sound_start, sound_next, still_fits, fits_last, clear_restored}
use Rattle.engine_laws.proofs.Granted.{is_grant, wait_die_grants, is_other_run, and_rest, unwritten, untouched, untouched_unwritten, clear_of_write}

-- no unended run has an access of a key that another one wrote, and each reads alone on the table that these runs leave
pub record IsLockedWith (start : Start) (lines : List EngineLine) (runs : List Run) : Type 0 where
  pub clear : EachPair start lines (λ a b. IsClear a.acts b.acts)
  pub now : EachRun start lines (λ r. ReadsAlone r.acts (table_of (look_up start.rows) runs))

abbrev pub IsLocked : Start → List EngineLine → Type 0
IsLocked start lines = IsLockedWith start lines (committed start lines)

-- a granted access finds no other unended run in its way, and is answered by the table
locking_grants : (start : Start) (lines : List EngineLine) → IsRight start lines → start.kind ≡ Locking
    → (tid : Tid) (me : Run) (act : PlainAct) (reply : Reply)
    → run_at start lines tid ≡ Some me → is_grant reply ≡ true → reply ≡ access_reply start lines me act
    → ((u : Tid) (b : Run) → same_tid tid u ≡ false → run_at start lines u ≡ Some b → is_in_the_way act b ≡ false)
    × (reply ≡ granted_by locking start lines me act)
locking_grants start lines right kind tid me act reply at grant is =
    let by_rule = ap (λ k. access_reply_by (rule k) start lines me act) kind in
    let free = wait_die_grants me (holders start lines me act) (granted_by locking start lines me act) reply grant (is ∙ by_rule) in
    let none = those_none (λ run. is_other me run && is_in_the_way act run) (unended start lines) free.0 in (
      λ u b apart was.
          and_rest (is_other me b) (is_in_the_way act b)
          (each_unended start lines right (λ run. (is_other me run && is_in_the_way act run) ≡ false) none u b was)
          (is_other_run start lines right tid u me b apart at was),
      free.1,
    )

-- the line's own run and each other one keep clear of one another
own_clear : (start : Start) (older : List EngineLine) (line : EngineLine) (r : Run) → IsRight start older → start.kind ≡ Locking
    → IsLocked start older
    → Own start older line r → (u : Tid) (b : Run) → same_tid (tid_of line) u ≡ false → run_at start older u ≡ Some b
    → IsClear r.acts b.acts × IsClear b.acts r.acts
own_clear start older line r right kind h (begins free next) u b other was = (clear_none b.acts, tt)
own_clear start older line r right kind h (stays waits at) u b other was =
    both_ways start older (λ a b. IsClear a.acts b.acts) h.clear _ u r b other at was
own_clear start older line r right kind h (got {key = key} run live is) u b other was =
    let old = both_ways start older (λ a b. IsClear a.acts b.acts) h.clear _ u run b other live.0 was in
    let free = (locking_grants start older right kind _ run (Read key) _ live.0 refl is).0 u b other was in
    (old.0, (unwritten key b.acts free, old.1))
own_clear start older line r right kind h (wrote {key = key} {value = value} run live is) u b other was =
    let old = both_ways start older (λ a b. IsClear a.acts b.acts) h.clear _ u run b other live.0 was in
    let free = untouched key value b.acts ((locking_grants start older right kind _ run (Write key value) _ live.0 refl is).0 u b
    other was) in
    (clear_of_write key value run.acts b.acts free old.0, (untouched_unwritten key b.acts free, old.1))
own_clear start older line r right kind h (takes run live is) u b other was =
    both_ways start older (λ a b. IsClear a.acts b.acts) h.clear _ u run b other live.0 was
own_clear start older line r right kind h (seals run live stop next) u b other was =
    both_ways start older (λ a b. IsClear a.acts b.acts) h.clear _ u run b other live.0 was

-- the line's own run reads alone on the table
own_now : (start : Start) (older : List EngineLine) (line : EngineLine) (r : Run) → IsRight start older → start.kind ≡ Locking
    → IsLocked start older
    → Own start older line r → ReadsAlone r.acts (table start older)
own_now start older line r right kind h (begins free next) = tt
own_now start older line r right kind h (stays waits at) = h.now _ r at
own_now start older line r right kind h (got {key = key} {value = value} run live is) =
    let answer = (locking_grants start older right kind _ run (Read key) _ live.0 refl is).1 in
    let read : value ≡ after run.acts (table start older) key = cc in
    (read, h.now _ run live.0)
own_now start older line r right kind h (wrote run live is) = h.now _ run live.0
own_now start older line r right kind h (takes run live is) = h.now _ run live.0
own_now start older line r right kind h (seals run live stop next) = h.now _ run live.0

locked_on : (start : Start) (older : List EngineLine) (line : EngineLine) → IsRight start (line ∷ older) → start.kind ≡ Locking
    → IsLocked start older
    → IsLockedWith start (line ∷ older) (committed start older)
locked_on start older line right kind h = record {
  clear = each_pair start older line (λ a b. IsClear a.acts b.acts) h.clear
      (λ u r b other now was. own_clear start older line r right.1 kind h (own start older line r right.0 now) u b other was);
  now = each_run start older line (λ r. ReadsAlone r.acts (table start older))
      (λ t r other was. h.now t r was)
      (λ r now. own_now start older line r right.1 kind h (own start older line r right.0 now));
}

locked_next : (start : Start) (older : List EngineLine) (line : EngineLine) → IsRight start (line ∷ older) → start.kind ≡ Locking
    → IsLocked start older
    → IsLocked start (line ∷ older)
locked_next start older (Commits tid) right kind h =
    let (run, n, sealed) = right.0 in
    let runs = committed start older in
    let items = look_up start.rows in
    let more : IsLockedWith start (Commits tid ∷ older) (inserted is_later run runs) = record {
      clear = (locked_on start older (Commits tid) right kind h).clear;
      now = each_run start older (Commits tid) (λ r. ReadsAlone r.acts (table_of items (inserted is_later run runs)))
          (λ t r other was.
          reads_clear run.acts r.acts (table_of items runs) (table_of items (inserted is_later run runs))
          (λ key none. sym (table_inserted items is_later run runs key none))
          (h.clear tid t run r other sealed.0 was) (h.now t r was))
          (λ r now. cc);
    } in
    subst (IsLockedWith start (Commits tid ∷ older)) (sym (committed_is start older tid run sealed.0)) more
locked_next start older line right kind h = locked_on start older line right kind h

pub locked : (start : Start) (lines : List EngineLine) → start.kind ≡ Locking → IsStart start → IsRight start lines
    → IsLocked start lines
locked start [] kind begun right = record {
  clear = each_restored_pair (λ a b. IsClear a.acts b.acts) clear_restored start.doubtful begun.apart;
  now = each_restored (λ r. ReadsAlone r.acts (look_up start.rows)) start.doubtful
      (each_all _ (λ kept. reads_written kept.writes (look_up start.rows)) start.doubtful);
}
locked start (line ∷ older) kind begun right = locked_next start older line right kind (locked start older kind begun right.1)

-- a sealed run fits in above all others
own_fits : (start : Start) (older : List EngineLine) (line : EngineLine) (r : Run) (n : ℕ) → start.kind ≡ Locking
    → IsCounted start older → IsLocked start older → IsSound AtSealing start older
    → Own start older line r → r.sealed ≡ Some n → Fits AtSealing start older (tid_of line) r.acts n
own_fits start older line r n kind drawn h sound (begins free next) e = cc
own_fits start older line r n kind drawn h sound (stays waits at) e = still_fits AtSealing start older _ r n sound at e
own_fits start older line r n kind drawn h sound (got run live is) e = let open_run = live.1 in cc
own_fits start older line r n kind drawn h sound (wrote run live is) e = let open_run = live.1 in cc
own_fits start older line r n kind drawn h sound (takes run live is) e = let open_run = live.1 in cc
own_fits start older (Seals tid m) r n kind drawn h sound (seals run live stop next) e =
    let same : m ≡ n = cc in
    let last : n ≡ counter start older + 1 = sym same ∙ next ∙ ap (λ k. seal_number k start older run) kind in
    fits_last AtSealing start older tid run.acts n
    (each_map _ (λ d. number d < n) (λ d was. let kept = was.kept in omega arith) (committed start older) drawn.committed)
    (h.now tid run live.0)
    (λ u b other was k sealed. (
      let kept = ((drawn.unended u b was).sealed k sealed).1 in omega arith,
      h.clear u tid b run (same_tid-sym u tid ∙ other) was live.0,
    ))

pub locking_sound : (start : Start) (lines : List EngineLine) → start.kind ≡ Locking → IsStart start → IsRight start lines
    → IsSound AtSealing start lines
locking_sound start [] kind begun right = sound_start AtSealing start begun
locking_sound start (line ∷ older) kind begun right =
    let sound = locking_sound start older kind begun right.1 in
    let drawn = counted start older begun right.1 in
    let h = locked start older kind begun right.1 in
    sound_next AtSealing start older line right.0 sound (λ run n at sealed. sealed)
    (λ r n mine placed. own_fits start older line r n kind drawn h sound mine placed)
