-- A locking engine through the lines that draw numbers, wait, or take the ticket.
use Rattle.std.proofs.Common.{◌≡◌, ℕ, ◌+◌, ◌≤◌, ◌⊎◌, Bool, true, false, not, ◌&&◌, cond, is_some, nat_lt, Option, Some, None, IfSome, List, [], ◌∷◌, inl, inr, refl, sym, ap, ◌∙◌, subst, arith}
use Rattle.std.specs.FinMap.{empty}
use Rattle.std.proofs.lemmas.Bool.{cond-true, cond-false, cases_Bool}
use Rattle.mdb_base.specs.declared.names.Engine.{Engine}
use Rattle.mdb_base.specs.declared.names.Engine.TheVariants.{Locking}
use Rattle.mdb_base.specs.declared.names.Key.{Key}
use Rattle.mdb_base.specs.declared.names.Tid.{Tid}
use Rattle.mdb_base.specs.declared.rows.Put.{Put}
use Rattle.mdb_base.specs.declared.acts.PlainAct.{PlainAct}
use Rattle.mdb_base.specs.declared.acts.PlainAct.TheVariants.{Read}
use Rattle.mdb_base.specs.declared.replies.Reply.{Reply}
use Rattle.mdb_base.specs.declared.replies.Reply.TheVariants.{Value, Ticket, Wait, Refused}
use Rattle.mdb_base.specs.declared.replies.Why.TheVariants.{Die}
use Rattle.mdb_base.specs.Names.{same_tid}
use Rattle.mdb_base.specs.Rising.{IsRising}
use Rattle.mdb_base.proofs.ForCallers.{same_tid-equal}
use Rattle.fed_rules.specs.declared.runs.Kept.{Kept}
use Rattle.fed_rules.specs.Runs.{Start, EngineLine, Begins, Acts, Takes, Seals, Run, begun, run_at, has_ticket, is_sealed, counter, published, after}
use Rattle.fed_rules.specs.Replies.{has_read, has_written, seal_stop, seal_number, granted, granted_by, rule, or_reply}
use Rattle.fed_rules.specs.EngineLines.{IsRightLine, IsFree, IsStart}
use Rattle.engine_contract.specs.Calls.{start_from}
use Rattle.engine_laws.proofs.ForCallers.{HasOneTaker, locking_one_taker}
use Rattle.fed_rules.proofs.ForCallers.{run_at_other, run_at_own}
use Rattle.run_book.specs.declared.counters.Counters.{Counters}
use Rattle.run_book.specs.declared.rival.Rival.{Rival}
use Rattle.run_book.specs.Held.{Held, held_in}
use Rattle.run_book.specs.Book.{started, begins, unbegins, tickets, seals, unseals, table_in, taken_by}
use Rattle.run_book.specs.Rivals.{IsOldest}
use Rattle.run_book.proofs.ForCallers.{after-table, calls_well, run_at-held, starts_well, unbegins_well, unseals_well}
use Rattle.locking_engine.specs.declared.engine.LockingEngine.{LockingEngine}
use Rattle.locking_engine.specs.Holders.{Holders, IsStop, with_restored}
use Rattle.locking_engine.specs.Rule.{stop_by}
use Rattle.locking_engine.specs.Stands.{AreHolders, Stands, StopsRun, takes_ticket}
use Rattle.locking_engine.proofs.Holding.{does_as, turn, each_same, holders_same, some_is}
use Rattle.locking_engine.proofs.Lines.{idle_same, idle_begun, stands_idle, oldest_same, taker_leaves, taker_is}
use Rattle.locking_engine.proofs.Restored.{restored_writers, restored_readers, restored_takers}
use Rattle.locking_engine.proofs.Way.{stop_is, ticket_stop_is}

module _ (old : LockingEngine) (start : Start) (older : List EngineLine) (s : Stands old start older) (tid : Tid) (held : Held) (found : held_in old.book.book.runs tid ≡ Some held) where
  pub at : run_at start older tid ≡ Some held.run
  at = run_at-held Locking old.book.book start older tid held s.keeps.keeps found

  -- an access, stopped or granted, is answered by the rule
  pub right_access : (act : PlainAct) (reply : Reply) (stop : Option Reply) → held.run.sealed ≡ None → IsStop old.readers old.writers held.run.age act stop →
      reply ≡ or_reply stop (granted start older held.run act) → IsRightLine start older (Acts tid act reply)
  right_access act reply stop live is answered =
      let k = s.keeps.keeps in
      (held.run, ((at, live), answered ∙ ap (λ (o : Option Reply). or_reply o (granted start older held.run act)) (stop_is start older old.readers old.writers tid held.run act stop k.of_kind k.starts k.right at s.readers s.writers is)))

  pub right_take : (reply : Reply) → held.run.sealed ≡ None → held.run.ticket ≡ None → reply ≡ or_reply (stop_by held.run.age old.taker) (Ticket (published start older + 1)) → IsRightLine start older (Takes tid reply)
  right_take reply live ticketless answered =
      let k = s.keeps.keeps in
      let idle : takes_ticket held.run ≡ false = ap (λ (o : Option ℕ). is_some o && not (is_sealed held.run)) ticketless in
      (held.run, ((at, live, ticketless), answered ∙ ap (λ (o : Option Reply). or_reply o (Ticket (published start older + 1))) (ticket_stop_is start older tid held.run old.taker k.of_kind k.starts k.right at idle s.taker)))

  -- the value of a granted read
  pub right_value : (key : Key) (value : ℕ) → held.run.sealed ≡ None → IsStop old.readers old.writers held.run.age (Read key) None → value ≡ after held.run.acts (table_in old.book.book) key → IsRightLine start older (Acts tid (Read key) (Value value))
  right_value key value live free is =
      let k = s.keeps.keeps in
      right_access (Read key) (Value value) None live free
      (ap (λ (n : ℕ). Value n) (is ∙ after-table Locking old.book.book start older held.run.acts key k) ∙ sym (ap (λ (kind : Engine). granted_by (rule kind) start older held.run (Read key)) k.of_kind))

-- an answer that stops a run is a wait or a death
stop_shape : (age : ℕ) (o : Option Rival) (stop : Reply) → stop_by age o ≡ Some stop → (by : Tid) × ((stop ≡ Wait by) ⊎ (stop ≡ Refused (Die by)))
stop_shape age None stop e = cc
stop_shape age (Some oldest) stop e =
    let is : cond (nat_lt age oldest.rank) (Wait oldest.tid) (Refused (Die oldest.tid)) ≡ stop = cc in
    elim (cases_Bool (nat_lt age oldest.rank)) [
      | inl t ↦ (oldest.tid, inl (sym is ∙ cond-true _ _ _ t))
      | inr f ↦ (oldest.tid, inr (sym is ∙ cond-false _ _ _ f))
    ]

stands_at : (old new : LockingEngine) (start : Start) (lines : List EngineLine) → new ≡ old → Stands old start lines → Stands new start lines
stands_at old new start lines is s = subst (λ (e : LockingEngine). Stands e start lines) (sym is) s

-- an access that is stopped
pub stands_stopped : (old new : LockingEngine) (start : Start) (older : List EngineLine) (tid : Tid) (held : Held) (act : PlainAct) (stop : Reply) → Stands old start older → held_in old.book.book.runs tid ≡ Some held →
    held.run.sealed ≡ None → IsStop old.readers old.writers held.run.age act (Some stop) → StopsRun old tid stop new → Stands new start (Acts tid act stop ∷ older)
stands_stopped old new start older tid held act stop s found live is stopped =
    let right = right_access old start older s tid held found act stop (Some stop) live is refl in
    let shape = stop_shape held.run.age is.0 stop (sym is.2) in
    let here = at old start older s tid held found in
    let Goal : Reply → Type 0 = λ reply. IsRightLine start older (Acts tid act reply) → StopsRun old tid reply new → Stands new start (Acts tid act reply ∷ older) in
    elim shape.1 [
      | inl waits ↦ subst Goal (sym waits)
          (λ r same. stands_at old new start (Acts tid act (Wait shape.0) ∷ older) same
          (stands_idle old old start older (Acts tid act (Wait shape.0)) (Some held.run) (Some held.run) s here refl (idle_same (Some held.run))
          (calls_well Locking old.book old.book start older (Acts tid act (Wait shape.0)) s.keeps r refl) refl refl refl)) right stopped
      | inr dies ↦ subst Goal (sym dies) (λ r ends. ends start older (Acts tid act (Refused (Die shape.0))) s r (refl, refl)) right stopped
    ]

-- the taking of a ticket that is stopped
pub stands_ticket_stopped : (old new : LockingEngine) (start : Start) (older : List EngineLine) (tid : Tid) (held : Held) (stop : Reply) → Stands old start older → held_in old.book.book.runs tid ≡ Some held →
    held.run.sealed ≡ None → held.run.ticket ≡ None → stop_by held.run.age old.taker ≡ Some stop → StopsRun old tid stop new → Stands new start (Takes tid stop ∷ older)
stands_ticket_stopped old new start older tid held stop s found live ticketless is stopped =
    let right = right_take old start older s tid held found stop live ticketless (ap (λ (o : Option Reply). or_reply o (Ticket (published start older + 1))) (sym is)) in
    let shape = stop_shape held.run.age old.taker stop is in
    let here = at old start older s tid held found in
    let Goal : Reply → Type 0 = λ reply. IsRightLine start older (Takes tid reply) → StopsRun old tid reply new → Stands new start (Takes tid reply ∷ older) in
    elim shape.1 [
      | inl waits ↦ subst Goal (sym waits)
          (λ r same. stands_at old new start (Takes tid (Wait shape.0) ∷ older) same
          (stands_idle old old start older (Takes tid (Wait shape.0)) (Some held.run) (Some held.run) s here refl (idle_same (Some held.run))
          (calls_well Locking old.book old.book start older (Takes tid (Wait shape.0)) s.keeps r refl) refl refl refl)) right stopped
      | inr dies ↦ subst Goal (sym dies) (λ r ends. ends start older (Takes tid (Refused (Die shape.0))) s r (refl, refl)) right stopped
    ]

-- a run begins, and its begin is taken back
pub stands_begins : (old new : LockingEngine) (start : Start) (older : List EngineLine) (tid : Tid) (n : ℕ) → Stands old start older → IsFree start older tid → n ≡ old.book.book.counters.counter + 1 →
    new.book.book ≡ begins tid old.book.book → old.book.room ≤ new.book.room → new.readers ≡ old.readers → new.writers ≡ old.writers → new.taker ≡ old.taker → Stands new start (Begins tid n ∷ older)
stands_begins old new start older tid n s free number book room rs ws ts =
    let k = s.keeps.keeps in
    let right : IsRightLine start older (Begins tid n) = (free, number ∙ ap (λ (m : Counters). m.counter + 1) k.counters) in
    stands_idle old new start older (Begins tid n) None (Some (begun tid n)) s free refl (idle_begun tid n) (calls_well Locking old.book new.book start older (Begins tid n) s.keeps right (book, room)) rs ws ts

pub stands_unbegins : (old new : LockingEngine) (start : Start) (older : List EngineLine) (tid : Tid) (n : ℕ) → Stands old start (Begins tid n ∷ older) →
    new.book.book ≡ unbegins tid old.book.book → old.book.room ≤ new.book.room → new.readers ≡ old.readers → new.writers ≡ old.writers → new.taker ≡ old.taker → Stands new start older
stands_unbegins old new start older tid n s book room rs ws ts =
    let line = Begins tid n in
    let free : run_at start older tid ≡ None = s.keeps.keeps.right.0.0 in
    let idle = idle_begun tid n in
    record {
      keeps = unbegins_well Locking old.book new.book start older tid n s.keeps book room;
      readers = subst (λ (m : Holders). AreHolders has_read m (run_at start older)) (sym rs)
          (holders_same has_read old.readers (run_at start (line ∷ older)) (run_at start older) (λ u. turn (each_same has_read start older line None (Some (begun tid n)) free refl idle.reads_same u)) s.readers);
      writers = subst (λ (m : Holders). AreHolders has_written m (run_at start older)) (sym ws)
          (holders_same has_written old.writers (run_at start (line ∷ older)) (run_at start older) (λ u. turn (each_same has_written start older line None (Some (begun tid n)) free refl idle.writes_same u)) s.writers);
      taker = subst (λ (o : Option Rival). IsOldest (run_at start older) takes_ticket o) (sym ts)
          (oldest_same (run_at start (line ∷ older)) (run_at start older) takes_ticket old.taker (λ u. turn (each_same (λ key run. takes_ticket run) start older line None (Some (begun tid n)) free refl idle.takes_same u)) s.taker);
    }

-- a ticket is taken, where nobody else has one
no_taker : (age : ℕ) (o : Option Rival) → stop_by age o ≡ None → o ≡ None
no_taker age None e = refl
no_taker age (Some r) e = cc

live_takes : (run : Run) → has_ticket run ≡ true → run.sealed ≡ None → takes_ticket run ≡ true
live_takes run has live = ap (λ (b : Bool). b && not (is_sealed run)) has ∙ ap (λ (o : Option ℕ). not (is_some o)) live

-- the only taker is the oldest one
only_taker : (runs : Tid → Option Run) (t : Tid) (run : Run) → runs t ≡ Some run → takes_ticket run ≡ true → ((u : Tid) (other : Run) → same_tid t u ≡ false → runs u ≡ Some other → takes_ticket other ≡ true → ⊥) →
    IsOldest runs takes_ticket (Some (record { tid = t; rank = run.age }))
only_taker runs t run here takes alone = record {
  run = run;
  at = here;
  counts_here = takes;
  rank = refl;
  below = λ u other there done. elim (cases_Bool (same_tid t u)) [
    | inl e ↦ let same = ap (λ (r : Run). r.age) (some_is run other (sym here ∙ (ap (λ (x : Tid). runs x) (same_tid-equal t u e) ∙ there))) in omega arith
    | inr e ↦ absurd (alone u other e there done)
  ];
}

pub stands_took : (old new : LockingEngine) (start : Start) (older : List EngineLine) (tid : Tid) (held : Held) (n : ℕ) → Stands old start older → held_in old.book.book.runs tid ≡ Some held →
    held.run.sealed ≡ None → held.run.ticket ≡ None → stop_by held.run.age old.taker ≡ None → n ≡ old.book.book.counters.published + 1 → new.book.book ≡ tickets tid n old.book.book →
    new.readers ≡ old.readers → new.writers ≡ old.writers → new.taker ≡ Some (record { tid = tid; rank = held.run.age }) → Stands new start (Takes tid (Ticket n) ∷ older)
stands_took old new start older tid held n s found live ticketless free number book rs ws ts =
    let k = s.keeps.keeps in
    let line = Takes tid (Ticket n) in
    let was = held.run in
    let now : Run = record was { ticket = Some n } in
    let here = at old start older s tid held found in
    let next : n ≡ published start older + 1 = number ∙ ap (λ (m : Counters). m.published + 1) k.counters in
    let right = right_take old start older s tid held found (Ticket n) live ticketless
    (ap (λ (m : ℕ). Ticket m) next ∙ ap (λ (o : Option Reply). or_reply o (Ticket (published start older + 1))) (sym free)) in
    let none = subst (λ (o : Option Rival). IsOldest (run_at start older) takes_ticket o) (no_taker held.run.age old.taker free) s.taker in
    record {
      keeps = calls_well Locking old.book new.book start older line s.keeps right book;
      readers = subst (λ (m : Holders). AreHolders has_read m (run_at start (line ∷ older))) (sym rs)
          (holders_same has_read old.readers (run_at start older) _ (each_same has_read start older line (Some was) (Some now) here refl (does_as has_read was now (λ q. refl) refl)) s.readers);
      writers = subst (λ (m : Holders). AreHolders has_written m (run_at start (line ∷ older))) (sym ws)
          (holders_same has_written old.writers (run_at start older) _ (each_same has_written start older line (Some was) (Some now) here refl (does_as has_written was now (λ q. refl) refl)) s.writers);
      taker = subst (λ (o : Option Rival). IsOldest (run_at start (line ∷ older)) takes_ticket o) (sym ts)
          (only_taker (run_at start (line ∷ older)) tid now (run_at_own start older line (Some was) here) (live_takes now refl live)
          (λ u other e there done. none u other (sym (run_at_other start older line u e) ∙ there) done));
    }

-- a run is sealed, and its ticket, which is the next one, is published
pub next_ticket : (old : LockingEngine) (start : Start) (older : List EngineLine) (tid : Tid) (held : Held) → Stands old start older → held_in old.book.book.runs tid ≡ Some held → held.run.sealed ≡ None →
    IfSome held.run.ticket (λ t. t ≡ old.book.book.counters.published + 1)
next_ticket old start older tid held s found live =
    let k = s.keeps.keeps in
    let one = locking_one_taker start older k.of_kind k.right in
    let counters = ap (λ (m : Counters). m.published + 1) k.counters in
    by_ticket held.run.ticket (λ t taken. one.next tid held.run (at old start older s tid held found) live t taken ∙ sym counters)
  where
    by_ticket : (o : Option ℕ) → ((t : ℕ) → o ≡ Some t → t ≡ old.book.book.counters.published + 1) → IfSome o (λ t. t ≡ old.book.book.counters.published + 1)
    by_ticket None h = tt
    by_ticket (Some t) h = h t refl

pub stands_sealed : (old new : LockingEngine) (start : Start) (older : List EngineLine) (tid : Tid) (held : Held) (n : ℕ) → Stands old start older → held_in old.book.book.runs tid ≡ Some held → held.run.sealed ≡ None →
    n ≡ old.book.book.counters.counter + 1 → new.book.book ≡ seals tid n old.book.book → old.book.room + taken_by (held_in old.book.book.runs tid) ≤ new.book.room →
    new.readers ≡ old.readers → new.writers ≡ old.writers → new.taker ≡ cond (has_ticket held.run) None old.taker → Stands new start (Seals tid n ∷ older)
stands_sealed old new start older tid held n s found live number book room rs ws ts =
    let k = s.keeps.keeps in
    let line = Seals tid n in
    let was = held.run in
    let now : Run = record was { sealed = Some n } in
    let here = at old start older s tid held found in
    let stop : seal_stop start.kind start older was ≡ None = ap (λ (kind : Engine). seal_stop kind start older was) k.of_kind in
    let drawn : counter start older + 1 ≡ seal_number start.kind start older was = sym (ap (λ (kind : Engine). seal_number kind start older was) k.of_kind) in
    let right : IsRightLine start older line = (was, ((here, live), stop, number ∙ (ap (λ (m : Counters). m.counter + 1) k.counters ∙ drawn))) in
    let takes : takes_ticket was ≡ has_ticket was = ap (λ (o : Option ℕ). has_ticket was && not (is_some o)) live ∙ and_true (has_ticket was) in
    record {
      keeps = calls_well Locking old.book new.book start older line s.keeps right (book, room);
      readers = subst (λ (m : Holders). AreHolders has_read m (run_at start (line ∷ older))) (sym rs)
          (holders_same has_read old.readers (run_at start older) _ (each_same has_read start older line (Some was) (Some now) here refl (does_as has_read was now (λ q. refl) refl)) s.readers);
      writers = subst (λ (m : Holders). AreHolders has_written m (run_at start (line ∷ older))) (sym ws)
          (holders_same has_written old.writers (run_at start older) _ (each_same has_written start older line (Some was) (Some now) here refl (does_as has_written was now (λ q. refl) refl)) s.writers);
      taker = subst (λ (o : Option Rival). IsOldest (run_at start (line ∷ older)) takes_ticket o) (ap (λ (b : Bool). cond b None old.taker) takes ∙ sym ts)
          (taker_leaves start older line was (Some now) old.taker (locking_one_taker start older k.of_kind k.right) here refl
          (λ run is. ap (λ (r : Run). takes_ticket r) (sym (some_is now run is)) ∙ never (has_ticket was)) s.taker);
    }
  where
    and_true : (b : Bool) → (b && true) ≡ b
    and_true true = refl
    and_true false = refl

    never : (b : Bool) → (b && false) ≡ false
    never true = refl
    never false = refl

-- its sealing is taken back
pub stands_unsealed : (old new : LockingEngine) (start : Start) (older : List EngineLine) (tid : Tid) (n : ℕ) (after : Run) → Stands old start (Seals tid n ∷ older) → new.book.book ≡ unseals tid old.book.book →
    old.book.room ≤ new.book.room + taken_by (held_in old.book.book.runs tid) → new.readers ≡ old.readers → new.writers ≡ old.writers →
    run_at start older tid ≡ Some after → new.taker ≡ cond (has_ticket after) (Some (record { tid = tid; rank = after.age })) old.taker → Stands new start older
stands_unsealed old new start older tid n after s book room rs ws here ts =
    let k = s.keeps.keeps in
    let line = Seals tid n in
    let right = k.right.0 in
    let live : after.sealed ≡ None = ap (λ (r : Run). r.sealed) (some_is after right.0 (sym here ∙ right.1.0.0)) ∙ right.1.0.1 in
    let now : Run = record after { sealed = Some n } in
    let one = locking_one_taker start older k.of_kind k.right.1 in
    record {
      keeps = unseals_well Locking old.book new.book start older tid n s.keeps book room;
      readers = subst (λ (m : Holders). AreHolders has_read m (run_at start older)) (sym rs)
          (holders_same has_read old.readers (run_at start (line ∷ older)) (run_at start older) (λ u. turn (each_same has_read start older line (Some after) (Some now) here refl (does_as has_read after now (λ q. refl) refl) u)) s.readers);
      writers = subst (λ (m : Holders). AreHolders has_written m (run_at start older)) (sym ws)
          (holders_same has_written old.writers (run_at start (line ∷ older)) (run_at start older) (λ u. turn (each_same has_written start older line (Some after) (Some now) here refl (does_as has_written after now (λ q. refl) refl) u)) s.writers);
      taker = subst (λ (o : Option Rival). IsOldest (run_at start older) takes_ticket o) (sym ts) (by_ticket one live now here (has_ticket after) refl);
    }
  where
    never : (b : Bool) → (b && false) ≡ false
    never true = refl
    never false = refl

    by_ticket : HasOneTaker start older → after.sealed ≡ None → (now : Run) → run_at start older tid ≡ Some after → (b : Bool) → has_ticket after ≡ b →
        IsOldest (run_at start older) takes_ticket (cond b (Some (record { tid = tid; rank = after.age })) old.taker)
    by_ticket one live now here true has =
        let takes = live_takes after has live in
        only_taker (run_at start older) tid after here takes (λ u other e there done. one.one tid u after other e here there (taker_is after takes) (taker_is other done))
    by_ticket one live now here false has =
        let line = Seals tid n in
        let sealed : Run = record after { sealed = Some n } in
        let idle : takes_ticket after ≡ false = ap (λ (b : Bool). b && not (is_sealed after)) has in
        oldest_same (run_at start (line ∷ older)) (run_at start older) takes_ticket old.taker
        (λ u. turn (each_same (λ key run. takes_ticket run) start older line (Some after) (Some sealed) here refl
        (does_as (λ key run. takes_ticket run) after sealed (λ q. never (has_ticket after) ∙ sym idle) refl) u)) s.taker

-- an epoch starts
pub stands_started : (new : LockingEngine) (rows : List Put) (doubtful : List Kept) (counter published : ℕ) (owner : Option Tid) → IsRising (λ row. row.key.0) rows → IsStart (start_from Locking rows doubtful counter published owner) →
    new.book.book ≡ started rows doubtful (record { counter = counter; published = published; owner = owner }) → new.readers ≡ empty → new.writers ≡ with_restored doubtful empty → new.taker ≡ None →
    Stands new (start_from Locking rows doubtful counter published owner) []
stands_started new rows doubtful c p o rising starts book rs ws ts =
    let start = start_from Locking rows doubtful c p o in
    record {
      keeps = starts_well Locking new.book rows doubtful c p o rising starts book;
      readers = subst (λ (m : Holders). AreHolders has_read m (run_at start [])) (sym rs) (restored_readers doubtful);
      writers = subst (λ (m : Holders). AreHolders has_written m (run_at start [])) (sym ws) (restored_writers doubtful starts.apart);
      taker = subst (λ (x : Option Rival). IsOldest (run_at start []) takes_ticket x) (sym ts) (λ u run there done. let none = restored_takers doubtful u run there in cc);
    }
