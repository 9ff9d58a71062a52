-- Backward validation with prepared runs: a live run has read the table as it stands, but for keys that were changed since it began.
use Rattle.std.proofs.Common.{◌≡◌, ℕ, ◌+◌, ◌<◌, Bool, true, false, cond, not, ◌&&◌, Option, Some, None, is_some, List, [], ◌∷◌, map, refl, sym, ap, ◌∙◌, subst, arith}
use Rattle.std.proofs.lemmas.Bool.{and_from, or_parts, or_left, or_right}
use Rattle.mdb_base.specs.declared.names.Tid.{Tid}
use Rattle.mdb_base.specs.declared.names.Key.{Key}
use Rattle.mdb_base.specs.declared.names.Engine.TheVariants.{Validation}
use Rattle.mdb_base.specs.declared.acts.PlainAct.TheVariants.{Read}
use Rattle.mdb_base.specs.declared.replies.Reply.TheVariants as Reply_is
use Rattle.mdb_base.specs.declared.replies.Why.{Why}
use Rattle.mdb_base.specs.Names.{same_tid, same_key}
use Rattle.mdb_base.specs.Rows.{Table, look_up}
use Rattle.mdb_base.specs.Words.{Each, some_of, those, least, greatest, with_some, inserted, is_empty}
use Rattle.mdb_base.proofs.ForCallers.{append_none, each_all, each_map, each_of_map, least_among, least_none, none_some_of, same_key-refl, those_none, those_pass}
use Rattle.fed_rules.specs.Runs.{Start, EngineLine, Begins, Acts, Takes, Seals, Refuses, Commits, Aborts, Access, Got, Wrote, Run, tid_of, restored, run_at, unended, counter, number, committed, committed_since, is_sealed, table_of, table, after}
use Rattle.fed_rules.specs.Replies.{AtSealing, access_reply_by, rule, access_key, validation, granted_by, reads, has_read, has_written, is_other, spoilers, bad_keys, invalid, invalid_at, invalid_by, moved, or_why, seal_stop, seal_number}
use Rattle.fed_rules.specs.EngineLines.{IsRight, IsRightLine, IsStart}
use Rattle.fed_rules.specs.SerialRuns.{ReadsAlone}
use Rattle.engine_laws.specs.Unended.{EachRun, has_write}
use Rattle.engine_laws.proofs.Tables.{after_same}
use Rattle.engine_laws.proofs.ByNumber.{is_later, table_inserted}
use Rattle.engine_laws.proofs.Runs.{may_wait, Own, begins, stays, got, wrote, takes, seals, own, each_run, each_restored, each_unended, committed_is, tid_is}
use Rattle.engine_laws.proofs.Counted.{IsCounted, counted}
use Rattle.engine_laws.proofs.Granted.{is_other_run, and_rest}
use Rattle.engine_laws.proofs.Sound.{IsSound, Fits, sound_start, sound_next, still_fits, fits_last}

-- each read gives what it was answered, but for these keys
abbrev ReadsBut : (Key → Bool) → List Access → Table → Type 0
ReadsBut except [] items = Unit {0}
ReadsBut except (Got key value ∷ acts) items = (except key ≡ false → value ≡ after acts items key) × ReadsBut except acts items
ReadsBut except (Wrote key value ∷ acts) items = ReadsBut except acts items

-- whether a run that committed since this attempt began wrote the key
abbrev changed_since : Start → List EngineLine → Tid → Key → Bool
changed_since start lines tid key = some_of (has_written key) (committed_since start lines tid)

-- each live run has read the table as it stands, but for keys that were changed since it began
abbrev IsFresh : Start → List EngineLine → Type 0
IsFresh start lines = EachRun start lines (λ r. r.sealed ≡ None
    → ReadsBut (changed_since start lines r.tid) r.acts (table start lines))

-- more keys may be left out, and on the others the tables are to agree
reads_but_more : (acts : List Access) (few many : Key → Bool) (T U : Table)
    → ((key : Key) → many key ≡ false → (few key ≡ false) × (T key ≡ U key))
    → ReadsBut few acts T → ReadsBut many acts U
reads_but_more [] few many T U f h = tt
reads_but_more (Got key value ∷ acts) few many T U f h =
    (λ none. h.0 (f key none).0 ∙ after_same acts T U key (f key none).1, reads_but_more acts few many T U f h.1)
reads_but_more (Wrote key value ∷ acts) few many T U f h = reads_but_more acts few many T U f h

-- an access or a taking commits nothing
fresh_still : (start : Start) (older : List EngineLine) (line : EngineLine) (tid : Tid) (acts : List Access)
    → may_wait line ≡ true
    → ReadsBut (changed_since start older tid) acts (table start older)
    → ReadsBut (changed_since start (line ∷ older) tid) acts (table start (line ∷ older))
fresh_still start older (Begins t n) tid acts waits h = cc
fresh_still start older (Acts t act reply) tid acts waits h = h
fresh_still start older (Takes t reply) tid acts waits h = h
fresh_still start older (Seals t n) tid acts waits h = cc
fresh_still start older (Refuses t why) tid acts waits h = cc
fresh_still start older (Commits t) tid acts waits h = cc
fresh_still start older (Aborts t) tid acts waits h = cc

-- what another attempt's line leaves of a live run
fresh_beside : (start : Start) (older : List EngineLine) (line : EngineLine) (tid : Tid) (acts : List Access)
    → IsRightLine start older line → same_tid (tid_of line) tid ≡ false
    → ReadsBut (changed_since start older tid) acts (table start older)
    → ReadsBut (changed_since start (line ∷ older) tid) acts (table start (line ∷ older))
fresh_beside start older (Begins begun n) tid acts right other h =
    let since : committed_since start (Begins begun n ∷ older) tid ≡ committed_since start older tid =
    ap (λ b. cond b [] (committed_since start older tid)) other in
    subst (λ runs. ReadsBut (λ key. some_of (has_written key) runs) acts (table start older)) (sym since) h
fresh_beside start older (Commits ended) tid acts (run, n, sealed) other h =
    let items = look_up start.rows in
    let runs = committed start older in
    let since : committed_since start (Commits ended ∷ older) tid ≡ run ∷ committed_since start older tid =
    ap (λ o. with_some o (committed_since start older tid)) sealed.0 in
    let more : ReadsBut (λ key. some_of (has_written key) (run ∷ committed_since start older tid)) acts
    (table_of items (inserted is_later run runs)) =
    reads_but_more acts (changed_since start older tid) (λ key. some_of (has_written key) (run ∷ committed_since start older tid))
    (table start older) (table_of items (inserted is_later run runs))
    (λ key none.
    let parts = or_parts (has_written key run) (changed_since start older tid key) none in
    (parts.1, sym (table_inserted items is_later run runs key parts.0)))
    h in
    subst (λ xs. ReadsBut (changed_since start (Commits ended ∷ older) tid) acts (table_of items xs))
    (sym (committed_is start older ended run sealed.0))
    (subst (λ xs. ReadsBut (λ key. some_of (has_written key) xs) acts (table_of items (inserted is_later run runs))) (sym since)
    more)
fresh_beside start older line tid acts right other h = h

-- the line's own run
own_fresh : (start : Start) (older : List EngineLine) (line : EngineLine) (r : Run) → start.kind ≡ Validation
    → IsFresh start older → Own start older line r
    → r.sealed ≡ None → ReadsBut (changed_since start (line ∷ older) r.tid) r.acts (table start (line ∷ older))
own_fresh start older line r kind h (begins free next) open_run = tt
own_fresh start older line r kind h (stays waits at) open_run =
    fresh_still start older line r.tid r.acts waits (h _ r at open_run)
own_fresh start older line r kind h (got {key = key} {value = value} run live is) open_run =
    let by_rule = ap (λ k. access_reply_by (rule k) start older run (Read key)) kind in
    let answer : Reply_is.Value value ≡ granted_by validation start older run (Read key) = is ∙ by_rule in
    ((λ none. cc), h _ run live.0 open_run)
own_fresh start older line r kind h (wrote run live is) open_run = h _ run live.0 open_run
own_fresh start older line r kind h (takes run live is) open_run = h _ run live.0 open_run
own_fresh start older line r kind h (seals run live stop next) open_run = cc

pub fresh : (start : Start) (lines : List EngineLine) → start.kind ≡ Validation → IsRight start lines → IsFresh start lines
fresh start [] kind right =
    each_restored (λ r. r.sealed ≡ None → ReadsBut (changed_since start [] r.tid) r.acts (table start [])) start.doubtful
    (each_all (λ kept. (restored kept).sealed ≡ None
    → ReadsBut (changed_since start [] kept.tid) (restored kept).acts (table start [])) (λ kept open_run. cc) start.doubtful)
fresh start (line ∷ older) kind right =
    let h = fresh start older kind right.1 in
    each_run start older line (λ r. r.sealed ≡ None
    → ReadsBut (changed_since start (line ∷ older) r.tid) r.acts (table start (line ∷ older)))
    (λ t r other was open_run.
    fresh_beside start older line r.tid r.acts right.0
    (subst (λ x. same_tid (tid_of line) x ≡ false) (sym (tid_is start older right.1 t r was)) other) (h t r was open_run))
    (λ r now. own_fresh start older line r kind h (own start older line r right.0 now))

pub or_why_none : (a b : Option Why) → or_why a b ≡ None → (a ≡ None) × (b ≡ None)
or_why_none None b e = (refl, e)
or_why_none (Some why) b e = cc

-- a sealing that isn't refused finds no spoiler of any key that the run accessed
no_spoilers : (start : Start) (lines : List EngineLine) (me : Run) → invalid start lines me ≡ None
    → Each (λ access. spoilers start lines me (access_key access) ≡ []) me.acts
no_spoilers start lines me e =
    each_map _ (λ access. spoilers start lines me (access_key access) ≡ [])
    (λ access. empty (spoilers start lines me (access_key access))) me.acts
    (each_of_map (λ key. is_bad key ≡ false) access_key me.acts
    (those_none is_bad (map access_key me.acts) (by_least (least (λ key. key.0) (bad_keys start lines me)) refl e)))
  where
    is_bad : Key → Bool
    is_bad = λ key. not (is_empty (spoilers start lines me key))

    empty : (runs : List Run) → not (is_empty runs) ≡ false → runs ≡ []
    empty [] e = refl
    empty (run ∷ runs) e = cc

    none_greatest : (key : Key) (runs : List Run) → not (is_empty runs) ≡ true → invalid_by key (greatest number runs) ≡ None → ⊥
    none_greatest key [] bad e = cc
    none_greatest key (run ∷ runs) bad e = cc

    by_least : (o : Option Key) → least (λ key. key.0) (bad_keys start lines me) ≡ o → invalid_at start lines me o ≡ None
        → bad_keys start lines me ≡ []
    by_least None is e = least_none (λ key. key.0) (bad_keys start lines me) is
    by_least (Some key) is e =
        absurd (none_greatest key (spoilers start lines me key)
        (least_among (λ k. is_bad k ≡ true) (λ k. k.0) (bad_keys start lines me) key (those_pass is_bad (map access_key me.acts))
        is) e)

-- none of the runs that committed since it began wrote a key that it read
unchanged : (start : Start) (lines : List EngineLine) (me : Run) (key : Key) → spoilers start lines me key ≡ []
    → has_read key me ≡ true → changed_since start lines me.tid key ≡ false
unchanged start lines me key none was_read =
    let parts = append_none (those (λ run. has_read key me && has_written key run) (committed_since start lines me.tid))
    (those (λ run. is_other me run && is_sealed run && has_written key run) (unended start lines)) none in
    none_some_of (has_written key) (committed_since start lines me.tid)
    (each_map _ (λ run. has_written key run ≡ false)
    (λ run failed. and_rest (has_read key me) (has_written key run) failed was_read) (committed_since start lines me.tid)
    (those_none (λ run. has_read key me && has_written key run) (committed_since start lines me.tid) parts.0))

-- no other sealed run wrote a key that it accessed
unwritten_by_sealed : (start : Start) (lines : List EngineLine) → IsRight start lines → (tid : Tid) (me : Run) (key : Key)
    → run_at start lines tid ≡ Some me
    → spoilers start lines me key ≡ [] → (u : Tid) (b : Run) (m : ℕ) → same_tid tid u ≡ false → run_at start lines u ≡ Some b
    → b.sealed ≡ Some m → has_write key b.acts ≡ false
unwritten_by_sealed start lines right tid me key at none u b m other was sealed =
    let test : Run → Bool = λ run. is_other me run && is_sealed run && has_written key run in
    let parts = append_none (those (λ run. has_read key me && has_written key run) (committed_since start lines me.tid))
    (those test (unended start lines)) none in
    let failed = each_unended start lines right (λ run. test run ≡ false) (those_none test (unended start lines) parts.1) u b
    was in
    let both = and_from (is_other me b) (is_sealed b) (is_other_run start lines right tid u me b other at was)
    (ap is_some sealed) in
    and_rest (is_other me b && is_sealed b) (has_written key b) failed both

-- a run has read what it read
reads_here : (key : Key) (value : ℕ) (acts : List Access) → some_of (reads key) (Got key value ∷ acts) ≡ true
reads_here key value acts = or_left (same_key key key) (some_of (reads key) acts) (same_key-refl key)

-- what it read is what it reads alone, where none of it was changed
reads_all : (whole acts : List Access) (except : Key → Bool) (items : Table)
    → ((key : Key) → some_of (reads key) acts ≡ true → some_of (reads key) whole ≡ true)
    → Each (λ access. some_of (reads (access_key access)) whole ≡ true → except (access_key access) ≡ false) acts
    → ReadsBut except acts items → ReadsAlone acts items
reads_all whole [] except items inside none h = tt
reads_all whole (Got key value ∷ acts) except items inside none h = (
  h.0 (none.0 (inside key (reads_here key value acts))),
  reads_all whole acts except items (λ k e. inside k (or_right (same_key key k) (some_of (reads k) acts) e)) none.1 h.1,
)
reads_all whole (Wrote key value ∷ acts) except items inside none h = reads_all whole acts except items inside none.1 h

-- a sealed run fits in above all others
own_fits : (start : Start) (older : List EngineLine) (line : EngineLine) (r : Run) (n : ℕ) → start.kind ≡ Validation
    → IsRight start older → IsCounted start older → IsFresh start older
    → IsSound AtSealing start older → Own start older line r → r.sealed ≡ Some n
    → Fits AtSealing start older (tid_of line) r.acts n
own_fits start older line r n kind right drawn h sound (begins free next) e = cc
own_fits start older line r n kind right drawn h sound (stays waits at) e = still_fits AtSealing start older _ r n sound at e
own_fits start older line r n kind right drawn h sound (got run live is) e = let open_run = live.1 in cc
own_fits start older line r n kind right drawn h sound (wrote run live is) e = let open_run = live.1 in cc
own_fits start older line r n kind right drawn h sound (takes run live is) e = let open_run = live.1 in cc
own_fits start older (Seals tid m) r n kind right drawn h sound (seals run live stop next) e =
    let same : m ≡ n = cc in
    let last : n ≡ counter start older + 1 = sym same ∙ next ∙ ap (λ k. seal_number k start older run) kind in
    let passed = (or_why_none (invalid start older run) (moved start older run.ticket)
    (sym (ap (λ k. seal_stop k start older run) kind) ∙ stop)).0 in
    let none = no_spoilers start older run passed in
    fits_last AtSealing start older tid run.acts n
    (each_map _ (λ d. number d < n) (λ d was. let kept = was.kept in omega arith) (committed start older) drawn.committed)
    (reads_all run.acts run.acts (changed_since start older run.tid) (table start older) (λ key e. e)
    (each_map _ (λ access. has_read (access_key access) run ≡ true
    → changed_since start older run.tid (access_key access) ≡ false)
    (λ access. unchanged start older run (access_key access)) run.acts none)
    (h tid run live.0 live.1))
    (λ u b other was k sealed. (
      let kept = ((drawn.unended u b was).sealed k sealed).1 in omega arith,
      each_map _ (λ access. has_write (access_key access) b.acts ≡ false)
          (λ access free. unwritten_by_sealed start older right tid run (access_key access) live.0 free u b k other was sealed)
          run.acts none,
    ))

pub validation_sound : (start : Start) (lines : List EngineLine) → start.kind ≡ Validation → IsStart start → IsRight start lines
    → IsSound AtSealing start lines
validation_sound start [] kind begun right = sound_start AtSealing start begun
validation_sound start (line ∷ older) kind begun right =
    let sound = validation_sound start older kind begun right.1 in
    let drawn = counted start older begun right.1 in
    let h = fresh start older kind right.1 in
    sound_next AtSealing start older line right.0 sound (λ run n at sealed. sealed)
    (λ r n mine placed. own_fits start older line r n kind right.1 drawn h sound mine placed)
