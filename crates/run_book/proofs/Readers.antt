-- The youngest reader of a key is the youngest of all runs that were granted a read of it: unended, committed and aborted ones.
use Rattle.std.proofs.Common.{◌≡◌, ℕ, ◌⊎◌, Bool, true, false, ◌||◌, cond, Option, Some, None, List, [], ◌∷◌, inl, inr, refl, sym, ap, ◌∙◌, subst, arith}
use Rattle.std.proofs.lemmas.Bool.{cond-true, cases_Bool}
use Rattle.std.proofs.lemmas.Option.{same_Some}
use Rattle.mdb_base.specs.declared.names.Key.{Key}
use Rattle.mdb_base.specs.declared.names.Tid.{Tid}
use Rattle.mdb_base.specs.declared.acts.PlainAct.{PlainAct}
use Rattle.mdb_base.specs.declared.acts.PlainAct.TheVariants.{Read, Write}
use Rattle.mdb_base.specs.declared.replies.Reply.{Reply}
use Rattle.mdb_base.specs.declared.replies.Reply.TheVariants as Reply_is
use Rattle.mdb_base.specs.Names.{same_tid, same_key}
use Rattle.mdb_base.specs.Words.{Each, with_some, map_some}
use Rattle.mdb_base.proofs.ForCallers.{each_all, each_map, same_tid-equal}
use Rattle.fed_rules.specs.Runs.{Start, EngineLine, Begins, Acts, Takes, Seals, Refuses, Commits, Aborts, Got, Run, tid_of, restored, run_at, committed, aborted, gives_up}
use Rattle.fed_rules.specs.Replies.{age_of, has_read}
use Rattle.fed_rules.specs.EngineLines.{IsRightLine, IsRight}
use Rattle.engine_laws.specs.ReplyLaws.{IsUnended, IsAmong}
use Rattle.engine_laws.specs.Unended.{EachRun}
use Rattle.engine_laws.proofs.ForCallers.{Own, begins, each_aborted, each_committed, each_restored, each_run, got, own, read_none, seals, stays, takes, tid_is, wrote}
use Rattle.fed_rules.proofs.ForCallers.{run_at_other, run_at_own}
use Rattle.run_book.specs.declared.rival.Rival.{Rival}
use Rattle.run_book.specs.Rivals.{rival_by}
use Rattle.run_book.specs.Ages.{younger_of}
use Rattle.run_book.specs.AgeLines.{rival_at, read_by, reader}
use Rattle.run_book.proofs.AgeCommits.{among_committed, committed_own}
use Rattle.run_book.proofs.Youngest.{IsUpTo, up_left, up_right, one_of}
use Rattle.run_book.proofs.Outcomes.{Outcome, outcome}

-- where the run has read the key, it isn't younger than this one
abbrev ReadsUpTo : Key → Option Rival → Run → Type 0
ReadsUpTo key o run = has_read key run ≡ true → IsUpTo run.age o

-- no reader is younger
pub record ReadersUpTo (start : Start) (lines : List EngineLine) (key : Key) (o : Option Rival) : Type 0 where
  pub unended : EachRun start lines (λ run. has_read key run ≡ true → IsUpTo run.age o)
  pub committed : Each (λ run. has_read key run ≡ true → IsUpTo run.age o) (committed start lines)
  pub aborted : Each (λ run. has_read key run ≡ true → IsUpTo run.age o) (aborted start lines)

-- the youngest reader only gets younger
read_by-up : (age : ℕ) (reply : Reply) (act : PlainAct) (key : Key) (run o : Option Rival) → IsUpTo age o → IsUpTo age (read_by reply act key run o)
read_by-up age (Reply_is.Value value) (Read k) key run o h = by_test (same_key k key)
  where
    by_test : (b : Bool) → IsUpTo age (cond b (younger_of o run) o)
    by_test true = up_left age o run h
    by_test false = h
read_by-up age (Reply_is.Value value) (Write k v) key run o h = h
read_by-up age Reply_is.Done act key run o h = h
read_by-up age (Reply_is.Ticket n) act key run o h = h
read_by-up age (Reply_is.Wait by) act key run o h = h
read_by-up age (Reply_is.Refused why) act key run o h = h
read_by-up age Reply_is.Unknown act key run o h = h

grows : (age : ℕ) (start : Start) (older : List EngineLine) (line : EngineLine) (key : Key) → IsUpTo age (reader start older key) → IsUpTo age (reader start (line ∷ older) key)
grows age start older (Begins tid n) key h = h
grows age start older (Acts tid act reply) key h = read_by-up age reply act key (rival_at start older tid) (reader start older key) h
grows age start older (Takes tid reply) key h = h
grows age start older (Seals tid n) key h = h
grows age start older (Refuses tid why) key h = h
grows age start older (Commits tid) key h = h
grows age start older (Aborts tid) key h = h

-- the line's own run
own_read : (start : Start) (older : List EngineLine) (line : EngineLine) (key : Key) (r : Run) → EachRun start older (ReadsUpTo key (reader start older key)) → Own start older line r → ReadsUpTo key (reader start (line ∷ older) key) r
own_read start older line key r h (begins free next) read = cc
own_read start older line key r h (stays waits at) read = grows r.age start older line key (h _ r at read)
own_read start older line key r h (got {tid = tid} {key = k} run live is) read = by_key (same_key k key) (h tid run live.0) read
  where
    here : rival_at start older tid ≡ Some (rival_by age_of run)
    here = ap (λ (o : Option Run). map_some (rival_by age_of) o) live.0

    by_key : (b : Bool) → ReadsUpTo key (reader start older key) run → (b || has_read key run) ≡ true →
        IsUpTo run.age (cond b (younger_of (reader start older key) (rival_at start older tid)) (reader start older key))
    by_key true was read =
        subst (λ (o : Option Rival). IsUpTo run.age (younger_of (reader start older key) o)) (sym here)
        (up_right run.age (reader start older key) (Some (rival_by age_of run)) (omega arith))
    by_key false was read = was read
own_read start older line key r h (wrote run live is) read = h _ run live.0 read
own_read start older line key r h (takes run live is) read = h _ run live.0 read
own_read start older line key r h (seals run live stop next) read = h _ run live.0 read

pub readers_up_to : (start : Start) (lines : List EngineLine) (key : Key) → IsRight start lines → ReadersUpTo start lines key (reader start lines key)
readers_up_to start [] key right = record {
  unended = each_restored (ReadsUpTo key None) start.doubtful
      (each_all (λ kept. ReadsUpTo key None (restored kept)) (λ kept read. let none : has_read key (restored kept) ≡ false = read_none key kept.writes in cc) start.doubtful);
  committed = tt;
  aborted = tt;
}
readers_up_to start (line ∷ older) key right =
    let h = readers_up_to start older key right.1 in
    let P : Run → Type 0 = ReadsUpTo key (reader start (line ∷ older) key) in
    let more : (run : Run) → ReadsUpTo key (reader start older key) run → P run = λ run was read. grows run.age start older line key (was read) in
    record {
      unended = each_run start older line P (λ t r other was. more r (h.unended t r was)) (λ r now. own_read start older line key r h.unended (own start older line r right.0 now));
      committed = each_committed start older line P right.0 (λ run n is sealed. more run (h.unended _ run sealed.0)) (each_map _ P more (committed start older) h.committed);
      aborted = each_aborted start older line P (λ run at. more run (h.unended _ run at)) (each_map _ P more (aborted start older) h.aborted);
    }

-- a run that counts for its reads: an unended, a committed or an aborted one
abbrev pub Counts : Start → List EngineLine → Run → Type 0
Counts start lines run = IsUnended start lines run ⊎ IsAmong run (committed start lines) ⊎ IsAmong run (aborted start lines)

-- the rival is a run that counts and has read the key
pub record IsReader (start : Start) (lines : List EngineLine) (key : Key) (rival : Rival) : Type 0 where
  pub run : Run
  pub counts : Counts start lines run
  pub has : has_read key run ≡ true
  pub tid : run.tid ≡ rival.tid
  pub age : run.age ≡ rival.rank

-- a run that counts goes on counting
record CountsOn (start : Start) (lines : List EngineLine) (run : Run) : Type 0 where
  now : Run
  counts : Counts start lines now
  tid : now.tid ≡ run.tid
  age : now.age ≡ run.age
  reads : (key : Key) → has_read key run ≡ true → has_read key now ≡ true

as_now : (start : Start) (lines : List EngineLine) (run : Run) → Counts start lines run → CountsOn start lines run
as_now start lines run counts = record { now = run; counts = counts; tid = refl; age = refl; reads = λ key h. h }

pub among_aborted : (start : Start) (older : List EngineLine) (line : EngineLine) (run : Run) → IsAmong run (aborted start older) → IsAmong run (aborted start (line ∷ older))
among_aborted start older line run among = by_test (gives_up line)
  where
    by_run : (o : Option Run) → IsAmong run (with_some o (aborted start older))
    by_run None = among
    by_run (Some r) = inr among

    by_test : (b : Bool) → IsAmong run (cond b (with_some (run_at start older (tid_of line)) (aborted start older)) (aborted start older))
    by_test true = by_run (run_at start older (tid_of line))
    by_test false = among

-- the run that a line ends
ended_counts : (start : Start) (older : List EngineLine) (line : EngineLine) (run : Run) → IsRightLine start older line → run_at start older (tid_of line) ≡ Some run →
    (line ≡ Commits (tid_of line)) ⊎ (gives_up line ≡ true) → Counts start (line ∷ older) run
ended_counts start older line run right at (inl commits) =
    inr (inl (subst (λ (l : EngineLine). IsAmong run (committed start (l ∷ older))) (sym commits) (committed_own start older (tid_of line) run at)))
ended_counts start older line run right at (inr gives) =
    inr (inr (subst (λ (runs : List Run). IsAmong run runs)
    (sym (cond-true (gives_up line) _ _ gives ∙ ap (λ (o : Option Run). with_some o (aborted start older)) at)) (inl refl)))

counts_on : (start : Start) (older : List EngineLine) (line : EngineLine) (run : Run) → IsRightLine start older line → Counts start older run → CountsOn start (line ∷ older) run
counts_on start older line run right (inr (inl among)) = as_now start (line ∷ older) run (inr (inl (among_committed start older line run right among)))
counts_on start older line run right (inr (inr among)) = as_now start (line ∷ older) run (inr (inr (among_aborted start older line run among)))
counts_on start older line run right (inl at) = elim (cases_Bool (same_tid (tid_of line) run.tid)) [
  | inr other ↦ as_now start (line ∷ older) run (inl (run_at_other start older line run.tid other ∙ at))
  | inl same ↦ own_counts (same_tid-equal (tid_of line) run.tid same)
]
  where
    goes : run_at start older (tid_of line) ≡ Some run → tid_of line ≡ run.tid → Outcome line run → CountsOn start (line ∷ older) run
    goes here is (inl on) =
        let a = on.as_it_was in
        record {
          now = on.now;
          counts = inl (ap (λ (t : Tid). run_at start (line ∷ older) t) (a.tid ∙ sym is) ∙ (run_at_own start older line (Some run) here ∙ on.is));
          tid = a.tid;
          age = a.age;
          reads = a.reads;
        }
    goes here is (inr ended) = as_now start (line ∷ older) run (ended_counts start older line run right here ended)

    own_counts : tid_of line ≡ run.tid → CountsOn start (line ∷ older) run
    own_counts is =
        let here = ap (λ (t : Tid). run_at start older t) is ∙ at in
        goes here is (outcome start older line run right here)

reader_on : (start : Start) (older : List EngineLine) (line : EngineLine) (key : Key) (rival : Rival) → IsRightLine start older line → IsReader start older key rival → IsReader start (line ∷ older) key rival
reader_on start older line key rival right h =
    let on = counts_on start older line h.run right h.counts in
    record { run = on.now; counts = on.counts; has = on.reads key h.has; tid = on.tid ∙ h.tid; age = on.age ∙ h.age }

-- the run that reads
new_reader : (start : Start) (older : List EngineLine) (tid : Tid) (k key : Key) (value : ℕ) (rival : Rival) → IsRight start (Acts tid (Read k) (Reply_is.Value value) ∷ older) → same_key k key ≡ true →
    rival_at start older tid ≡ Some rival → IsReader start (Acts tid (Read k) (Reply_is.Value value) ∷ older) key rival
new_reader start older tid k key value rival right same is =
    let line = Acts tid (Read k) (Reply_is.Value value) in
    let was = right.0.0 in
    let at = right.0.1.0.0 in
    let now : Run = record was { acts = Got k value ∷ was.acts } in
    let there = run_at_own start older line (Some was) at in
    let named = tid_is start older right.1 tid was at in
    let mine : rival_by age_of was ≡ rival = same_Some _ _ (sym (ap (λ (o : Option Run). map_some (rival_by age_of) o) at) ∙ is) in
    record {
      run = now;
      counts = inl (ap (λ (t : Tid). run_at start (line ∷ older) t) named ∙ there);
      has = ap (λ (b : Bool). b || has_read key was) same;
      tid = ap (λ (r : Rival). r.tid) mine;
      age = ap (λ (r : Rival). r.rank) mine;
    }

pub reader_is : (start : Start) (lines : List EngineLine) (key : Key) (rival : Rival) → IsRight start lines → reader start lines key ≡ Some rival → IsReader start lines key rival
reader_is start [] key rival right is = cc
reader_is start (Acts tid act reply ∷ older) key rival right is = by_reply reply act right is (reader_is start older key rival right.1)
  where
    by_reply : (reply : Reply) (act : PlainAct) → IsRight start (Acts tid act reply ∷ older) → read_by reply act key (rival_at start older tid) (reader start older key) ≡ Some rival →
        (reader start older key ≡ Some rival → IsReader start older key rival) → IsReader start (Acts tid act reply ∷ older) key rival
    by_reply (Reply_is.Value value) (Read k) right is rest = by_key (same_key k key) refl is
      where
        by_key : (b : Bool) → same_key k key ≡ b → cond b (younger_of (reader start older key) (rival_at start older tid)) (reader start older key) ≡ Some rival → IsReader start (Acts tid (Read k) (Reply_is.Value value) ∷ older) key rival
        by_key true same is = elim (one_of (reader start older key) (rival_at start older tid) rival is) [
          | inl was ↦ reader_on start older (Acts tid (Read k) (Reply_is.Value value)) key rival right.0 (rest was)
          | inr new ↦ new_reader start older tid k key value rival right same new
        ]
        by_key false apart is = reader_on start older (Acts tid (Read k) (Reply_is.Value value)) key rival right.0 (rest is)
    by_reply (Reply_is.Value value) (Write k v) right is rest = reader_on start older _ key rival right.0 (rest is)
    by_reply Reply_is.Done act right is rest = reader_on start older _ key rival right.0 (rest is)
    by_reply (Reply_is.Ticket n) act right is rest = reader_on start older _ key rival right.0 (rest is)
    by_reply (Reply_is.Wait by) act right is rest = reader_on start older _ key rival right.0 (rest is)
    by_reply (Reply_is.Refused why) act right is rest = reader_on start older _ key rival right.0 (rest is)
    by_reply Reply_is.Unknown act right is rest = reader_on start older _ key rival right.0 (rest is)
reader_is start (Begins tid n ∷ older) key rival right is = reader_on start older _ key rival right.0 (reader_is start older key rival right.1 is)
reader_is start (Takes tid reply ∷ older) key rival right is = reader_on start older _ key rival right.0 (reader_is start older key rival right.1 is)
reader_is start (Seals tid n ∷ older) key rival right is = reader_on start older _ key rival right.0 (reader_is start older key rival right.1 is)
reader_is start (Refuses tid why ∷ older) key rival right is = reader_on start older _ key rival right.0 (reader_is start older key rival right.1 is)
reader_is start (Commits tid ∷ older) key rival right is = reader_on start older _ key rival right.0 (reader_is start older key rival right.1 is)
reader_is start (Aborts tid ∷ older) key rival right is = reader_on start older _ key rival right.0 (reader_is start older key rival right.1 is)
