-- A locking engine through each line: its book, its holders and the ticket's taker.
use Rattle.std.proofs.Common.{◌≡◌, ℕ, Bool, true, false, not, ◌&&◌, ◌||◌, cond, is_some, Option, Some, None, List, [], ◌∷◌, inl, inr, refl, sym, ap, ◌∙◌, subst, arith}
use Rattle.std.proofs.lemmas.Bool.{cases_Bool}
use Rattle.mdb_base.specs.declared.names.Engine.TheVariants.{Locking}
use Rattle.mdb_base.specs.declared.names.Key.{Key}
use Rattle.mdb_base.specs.declared.names.Tid.{Tid}
use Rattle.mdb_base.specs.declared.acts.PlainAct.TheVariants.{Read, Write}
use Rattle.mdb_base.specs.declared.replies.Reply.TheVariants.{Done, Value, Ticket, Wait, Refused, Unknown}
use Rattle.mdb_base.specs.Names.{same_tid, same_key}
use Rattle.mdb_base.proofs.ForCallers.{same_tid-equal}
use Rattle.mdb_base.specs.Words.{some_of}
use Rattle.fed_rules.specs.Runs.{Start, EngineLine, Begins, Acts, Takes, Seals, Refuses, Commits, Aborts, Access, Got, Wrote, Run, tid_of, begun, changed, gives_up, run_at}
use Rattle.fed_rules.specs.Replies.{access_key, reads, writes, has_read, has_written}
use Rattle.fed_rules.specs.EngineLines.{IsRightLine}
use Rattle.engine_laws.proofs.ForCallers.{HasOneTaker, IsTaker, locking_one_taker}
use Rattle.fed_rules.proofs.ForCallers.{run_at_other, run_at_own}
use Rattle.run_book.specs.declared.rival.Rival.{Rival}
use Rattle.run_book.specs.Held.{Held, held_in}
use Rattle.run_book.specs.Book.{grants, drops}
use Rattle.run_book.specs.Keeps.{KeepsRoomy}
use Rattle.run_book.specs.Rivals.{IsOldest}
use Rattle.run_book.proofs.ForCallers.{ages-differ, called_ends, calls_well, run_at-held}
use Rattle.locking_engine.specs.declared.engine.LockingEngine.{LockingEngine}
use Rattle.locking_engine.specs.Holders.{Holders, place_of, held_by}
use Rattle.locking_engine.specs.Stands.{AreHolders, Stands, IsReleased, EndsRun, takes_ticket}
use Rattle.locking_engine.proofs.Holding.{AgesDiffer, DoesSame, does_same, does_as, comes_idle, turn, each_same, holders_same, holders_hold, holders_release, some_is}

-- the oldest that counts stays where each run counts as before
pub oldest_same : (runs now : Tid → Option Run) (counts : Run → Bool) (o : Option Rival) → ((u : Tid) → DoesSame (λ key run. counts run) (runs u) (now u)) → IsOldest runs counts o → IsOldest now counts o
oldest_same runs now counts None same none = λ u run at done. let was = (same u).back.on (record { 0 = 0 }) run at done in none u was.0 was.1 was.2
oldest_same runs now counts (Some r) same h =
    let goes = (same r.tid).on.on (record { 0 = 0 }) h.run h.at h.counts_here in
    record {
      run = goes.0;
      at = goes.1;
      counts_here = goes.2;
      rank = h.rank ∙ sym goes.3;
      below = λ u run at done. let was = (same u).back.on (record { 0 = 0 }) run at done in let le = h.below u was.0 was.1 was.2 in let age = was.3 in omega arith;
    }

-- a line that changes neither accesses nor the taking of the ticket
pub record IsIdle (was now : Option Run) : Type 0 where
  pub reads_same : DoesSame has_read was now
  pub writes_same : DoesSame has_written was now
  pub takes_same : DoesSame (λ key run. takes_ticket run) was now

pub idle_same : (o : Option Run) → IsIdle o o
idle_same o = record { reads_same = does_same has_read o o refl; writes_same = does_same has_written o o refl; takes_same = does_same (λ key run. takes_ticket run) o o refl }

pub idle_begun : (tid : Tid) (n : ℕ) → IsIdle None (Some (begun tid n))
idle_begun tid n = record {
  reads_same = comes_idle has_read (begun tid n) (λ key. refl);
  writes_same = comes_idle has_written (begun tid n) (λ key. refl);
  takes_same = comes_idle (λ key run. takes_ticket run) (begun tid n) (λ key. refl);
}

pub stands_idle : (old new : LockingEngine) (start : Start) (older : List EngineLine) (line : EngineLine) (was now : Option Run) → Stands old start older → run_at start older (tid_of line) ≡ was → changed line was ≡ now → IsIdle was now →
    KeepsRoomy Locking new.book start (line ∷ older) → new.readers ≡ old.readers → new.writers ≡ old.writers → new.taker ≡ old.taker → Stands new start (line ∷ older)
stands_idle old new start older line was now s at is idle keeps rs ws ts = record {
  keeps = keeps;
  readers = subst (λ (m : Holders). AreHolders has_read m (run_at start (line ∷ older))) (sym rs) (holders_same has_read old.readers (run_at start older) _ (each_same has_read start older line was now at is idle.reads_same) s.readers);
  writers = subst (λ (m : Holders). AreHolders has_written m (run_at start (line ∷ older))) (sym ws) (holders_same has_written old.writers (run_at start older) _ (each_same has_written start older line was now at is idle.writes_same) s.writers);
  taker = subst (λ (o : Option Rival). IsOldest (run_at start (line ∷ older)) takes_ticket o) (sym ts) (oldest_same (run_at start older) _ takes_ticket old.taker (each_same (λ key run. takes_ticket run) start older line was now at is idle.takes_same) s.taker);
}

-- an access that is granted
grown : (start : Start) (older : List EngineLine) (line : EngineLine) (was now : Run) → run_at start older (tid_of line) ≡ Some was → changed line (Some was) ≡ Some now → run_at start (line ∷ older) (tid_of line) ≡ Some now
grown start older line was now at is = run_at_own start older line (Some was) at ∙ is

pub stands_read : (old new : LockingEngine) (start : Start) (older : List EngineLine) (tid : Tid) (held : Held) (key : Key) (value : ℕ) → Stands old start older → held_in old.book.book.runs tid ≡ Some held →
    IsRightLine start older (Acts tid (Read key) (Value value)) → new.book.book ≡ grants tid (Got key value) old.book.book → new.readers ≡ held_by (place_of key held.run.age) tid old.readers → new.writers ≡ old.writers → new.taker ≡ old.taker →
    Stands new start (Acts tid (Read key) (Value value) ∷ older)
stands_read old new start older tid held key value s found right book rs ws ts =
    let line = Acts tid (Read key) (Value value) in
    let k = s.keeps.keeps in
    let was = held.run in
    let now : Run = record was { acts = Got key value ∷ was.acts } in
    let at = run_at-held Locking old.book.book start older tid held k found in
    record {
      keeps = calls_well Locking old.book new.book start older line s.keeps right book;
      readers = subst (λ (m : Holders). AreHolders has_read m (run_at start (line ∷ older))) (sym rs)
          (holders_hold has_read old.readers (run_at start older) (run_at start (line ∷ older)) tid key was now (λ u v a b h g e. ages-differ start older u v a b k.starts k.right h g e) s.readers
          at (grown start older line was now at refl) refl (λ q. refl) (λ u e. run_at_other start older line u e));
      writers = subst (λ (m : Holders). AreHolders has_written m (run_at start (line ∷ older))) (sym ws)
          (holders_same has_written old.writers (run_at start older) _ (each_same has_written start older line (Some was) (Some now) at refl (does_as has_written was now (λ q. refl) refl)) s.writers);
      taker = subst (λ (o : Option Rival). IsOldest (run_at start (line ∷ older)) takes_ticket o) (sym ts)
          (oldest_same (run_at start older) _ takes_ticket old.taker (each_same (λ q run. takes_ticket run) start older line (Some was) (Some now) at refl (does_as (λ q run. takes_ticket run) was now (λ q. refl) refl)) s.taker);
    }

pub stands_wrote : (old new : LockingEngine) (start : Start) (older : List EngineLine) (tid : Tid) (held : Held) (key : Key) (value : ℕ) → Stands old start older → held_in old.book.book.runs tid ≡ Some held →
    IsRightLine start older (Acts tid (Write key value) Done) → new.book.book ≡ grants tid (Wrote key value) old.book.book → new.readers ≡ old.readers → new.writers ≡ held_by (place_of key held.run.age) tid old.writers → new.taker ≡ old.taker →
    Stands new start (Acts tid (Write key value) Done ∷ older)
stands_wrote old new start older tid held key value s found right book rs ws ts =
    let line = Acts tid (Write key value) Done in
    let k = s.keeps.keeps in
    let was = held.run in
    let now : Run = record was { acts = Wrote key value ∷ was.acts } in
    let at = run_at-held Locking old.book.book start older tid held k found in
    record {
      keeps = calls_well Locking old.book new.book start older line s.keeps right book;
      readers = subst (λ (m : Holders). AreHolders has_read m (run_at start (line ∷ older))) (sym rs)
          (holders_same has_read old.readers (run_at start older) _ (each_same has_read start older line (Some was) (Some now) at refl (does_as has_read was now (λ q. refl) refl)) s.readers);
      writers = subst (λ (m : Holders). AreHolders has_written m (run_at start (line ∷ older))) (sym ws)
          (holders_hold has_written old.writers (run_at start older) (run_at start (line ∷ older)) tid key was now (λ u v a b h g e. ages-differ start older u v a b k.starts k.right h g e) s.writers
          at (grown start older line was now at refl) refl (λ q. refl) (λ u e. run_at_other start older line u e));
      taker = subst (λ (o : Option Rival). IsOldest (run_at start (line ∷ older)) takes_ticket o) (sym ts)
          (oldest_same (run_at start older) _ takes_ticket old.taker (each_same (λ q run. takes_ticket run) start older line (Some was) (Some now) at refl (does_as (λ q run. takes_ticket run) was now (λ q. refl) refl)) s.taker);
    }

-- a live run with a ticket is the one that takes it
pub taker_is : (run : Run) → takes_ticket run ≡ true → IsTaker run
taker_is run takes = by_parts run.ticket run.sealed refl refl takes
  where
    by_parts : (t s : Option ℕ) → run.ticket ≡ t → run.sealed ≡ s → (is_some t && not (is_some s)) ≡ true → IsTaker run
    by_parts None s e f h = cc
    by_parts (Some n) None e f h = record { open_run = f; ticket = n; taken = e }
    by_parts (Some n) (Some m) e f h = cc

-- the taker leaves, or another run does
pub taker_leaves : (start : Start) (older : List EngineLine) (line : EngineLine) (was : Run) (now : Option Run) (o : Option Rival) → HasOneTaker start older → run_at start older (tid_of line) ≡ Some was → changed line (Some was) ≡ now →
    ((run : Run) → now ≡ Some run → takes_ticket run ≡ false) → IsOldest (run_at start older) takes_ticket o → IsOldest (run_at start (line ∷ older)) takes_ticket (cond (takes_ticket was) None o)
taker_leaves start older line was now o one at is idle taker = by_takes (takes_ticket was) refl
  where
    goes : (x : Option Run) → now ≡ x → takes_ticket was ≡ false → DoesSame (λ q run. takes_ticket run) (Some was) x
    goes None e takes = turn (comes_idle (λ q run. takes_ticket run) was (λ q. takes))
    goes (Some run) e takes = record {
      on = record { on = λ q r h done. let bad : false ≡ true = sym takes ∙ (ap (λ (x : Run). takes_ticket x) (some_is was r h) ∙ done) in cc };
      back = record { on = λ q r h done. let bad : false ≡ true = sym (idle run e) ∙ (ap (λ (x : Run). takes_ticket x) (some_is run r h) ∙ done) in cc };
    }

    by_takes : (b : Bool) → takes_ticket was ≡ b → IsOldest (run_at start (line ∷ older)) takes_ticket (cond b None o)
    by_takes true takes = λ u run here done.
        elim (cases_Bool (same_tid (tid_of line) u)) [
          | inl e ↦
              let mine : now ≡ Some run = sym is ∙ (sym (run_at_own start older line (Some was) at) ∙ (ap (λ (t : Tid). run_at start (line ∷ older) t) (same_tid-equal (tid_of line) u e) ∙ here)) in
              let bad : false ≡ true = sym (idle run mine) ∙ done in cc
          | inr e ↦ one.one (tid_of line) u was run e at (sym (run_at_other start older line u e) ∙ here) (taker_is was takes) (taker_is run done)
        ]
    by_takes false takes =
        oldest_same (run_at start older) (run_at start (line ∷ older)) takes_ticket o (each_same (λ q run. takes_ticket run) start older line (Some was) now at is (goes now refl takes)) taker

-- a run that ends has held no key that it didn't access
read_touched : (key : Key) (acts : List Access) → some_of (reads key) acts ≡ true → some_of (λ access. same_key (access_key access) key) acts ≡ true
read_touched key [] h = cc
read_touched key (Got k value ∷ acts) h = by_test (same_key k key) h (read_touched key acts)
  where
    by_test : (b : Bool) → (b || some_of (reads key) acts) ≡ true → (some_of (reads key) acts ≡ true → some_of (λ access. same_key (access_key access) key) acts ≡ true) → (b || some_of (λ access. same_key (access_key access) key) acts) ≡ true
    by_test true h rest = refl
    by_test false h rest = rest h
read_touched key (Wrote k value ∷ acts) h = later (same_key k key) _ (read_touched key acts h)
  where
    later : (x y : Bool) → y ≡ true → (x || y) ≡ true
    later true y e = refl
    later false y e = e

write_touched : (key : Key) (acts : List Access) → some_of (writes key) acts ≡ true → some_of (λ access. same_key (access_key access) key) acts ≡ true
write_touched key [] h = cc
write_touched key (Wrote k value ∷ acts) h = by_test (same_key k key) h (write_touched key acts)
  where
    by_test : (b : Bool) → (b || some_of (writes key) acts) ≡ true → (some_of (writes key) acts ≡ true → some_of (λ access. same_key (access_key access) key) acts ≡ true) → (b || some_of (λ access. same_key (access_key access) key) acts) ≡ true
    by_test true h rest = refl
    by_test false h rest = rest h
write_touched key (Got k value ∷ acts) h = later (same_key k key) _ (write_touched key acts h)
  where
    later : (x y : Bool) → y ≡ true → (x || y) ≡ true
    later true y e = refl
    later false y e = e

-- a run ends, by commit or otherwise
pub stands_released : (old new : LockingEngine) (start : Start) (older : List EngineLine) (line : EngineLine) (run : Run) → Stands old start older → run_at start older (tid_of line) ≡ Some run → changed line (Some run) ≡ None →
    KeepsRoomy Locking new.book start (line ∷ older) → IsReleased old run new → Stands new start (line ∷ older)
stands_released old new start older line run s at ends keeps released =
    let k = s.keeps.keeps in
    let runs = run_at start older in
    let apart : AgesDiffer runs = λ u v a b h g e. ages-differ start older u v a b k.starts k.right h g e in
    let gone = run_at_own start older line (Some run) at ∙ ends in
    record {
      keeps = keeps;
      readers = holders_release has_read old.readers new.readers runs (run_at start (line ∷ older)) (tid_of line) run apart s.readers at gone (λ u e. run_at_other start older line u e) (λ key h. read_touched key run.acts h) released.readers;
      writers = holders_release has_written old.writers new.writers runs (run_at start (line ∷ older)) (tid_of line) run apart s.writers at gone (λ u e. run_at_other start older line u e) (λ key h. write_touched key run.acts h) released.writers;
      taker = subst (λ (o : Option Rival). IsOldest (run_at start (line ∷ older)) takes_ticket o) (sym released.taker)
          (taker_leaves start older line run None old.taker (locking_one_taker start older k.of_kind k.right) at ends (λ r h. cc) s.taker);
    }

-- the lines that give up a run
gives_none : (line : EngineLine) (run : Run) → gives_up line ≡ true → changed line (Some run) ≡ None
gives_none (Begins tid n) run h = cc
gives_none (Acts tid act (Refused why)) run h = refl
gives_none (Acts tid act (Wait by)) run h = cc
gives_none (Acts tid act (Ticket n)) run h = cc
gives_none (Acts tid act (Value v)) run h = cc
gives_none (Acts tid act Done) run h = cc
gives_none (Acts tid act Unknown) run h = cc
gives_none (Takes tid (Refused why)) run h = refl
gives_none (Takes tid (Wait by)) run h = cc
gives_none (Takes tid (Ticket n)) run h = cc
gives_none (Takes tid (Value v)) run h = cc
gives_none (Takes tid Done) run h = cc
gives_none (Takes tid Unknown) run h = cc
gives_none (Seals tid n) run h = cc
gives_none (Refuses tid why) run h = refl
gives_none (Commits tid) run h = cc
gives_none (Aborts tid) run h = refl

pub ends_run : (old new : LockingEngine) (tid : Tid) (held : Held) → held_in old.book.book.runs tid ≡ Some held → new.book.book ≡ drops tid old.book.book → IsReleased old held.run new → EndsRun old tid new
ends_run old new tid held found book released start older line s right ends =
    let k = s.keeps.keeps in
    let at = ap (λ (t : Tid). run_at start older t) ends.0 ∙ run_at-held Locking old.book.book start older tid held k found in
    let called = called_ends old.book new.book line ends.1 (book ∙ ap (λ (t : Tid). drops t old.book.book) (sym ends.0)) in
    stands_released old new start older line held.run s at (gives_none line held.run ends.1) (calls_well Locking old.book new.book start older line s.keeps right called) released
