-- A timestamp engine through each line: its book, the ages of each key and the takers of the ticket.
use Rattle.std.proofs.Common.{◌≡◌, ℕ, ◌+◌, ◌≤◌, cond, Option, Some, None, IfSome, List, [], ◌∷◌, inl, inr, refl, sym, ap, ◌∙◌, subst, arith}
use Rattle.std.specs.FinMap.{empty, get, get-empty}
use Rattle.std.specs.Ordering.{nat_cmp}
use Rattle.mdb_base.specs.declared.names.Engine.{Engine}
use Rattle.mdb_base.specs.declared.names.Engine.TheVariants.{Timestamp}
use Rattle.mdb_base.specs.declared.names.Key.{Key}
use Rattle.mdb_base.specs.declared.names.Tid.{Tid}
use Rattle.mdb_base.specs.declared.rows.Put.{Put}
use Rattle.mdb_base.specs.declared.acts.PlainAct.{PlainAct}
use Rattle.mdb_base.specs.declared.acts.PlainAct.TheVariants.{Read}
use Rattle.mdb_base.specs.declared.replies.Reply.{Reply}
use Rattle.mdb_base.specs.declared.replies.Reply.TheVariants.{Value, Ticket, Wait, Refused}
use Rattle.mdb_base.specs.declared.replies.Why.TheVariants.{Late}
use Rattle.mdb_base.specs.Rising.{IsRising}
use Rattle.mdb_base.specs.Words.{or_else}
use Rattle.fed_rules.specs.declared.runs.Kept.{Kept}
use Rattle.fed_rules.specs.Runs.{Start, EngineLine, Begins, Acts, Takes, Seals, Run, tid_of, run_at, has_ticket, published, after}
use Rattle.fed_rules.specs.Replies.{age_of, key_of, access_stop, ticket_stop, seal_stop, seal_number, granted, granted_by, rule, or_reply}
use Rattle.fed_rules.specs.EngineLines.{IsRightLine, IsFree, IsStart}
use Rattle.engine_contract.specs.Calls.{start_from}
use Rattle.engine_laws.proofs.ForCallers.{age_one_taker, timestamp_by_age}
use Rattle.run_book.specs.declared.counters.Counters.{Counters}
use Rattle.run_book.specs.Held.{Held, held_in}
use Rattle.run_book.specs.Book.{Book, started, begins, unbegins, unseals, drops, table_in, taken_by}
use Rattle.run_book.specs.Keeps.{Keeps}
use Rattle.run_book.specs.Laws.{IsCalled}
use Rattle.run_book.specs.Rivals.{rival_by}
use Rattle.run_book.proofs.ForCallers.{after-table, called_ends, calls_well, follows_begins, follows_calls, follows_starts, follows_unseals, noted_ends, run_at-held, starts_well, stop_shape, stops_access, stops_taking, unbegins_well, unlisted, unseals_well}
use Rattle.run_book.specs.declared.key_ages.KeyAges.{KeyAges}
use Rattle.run_book.specs.Ages.{Ages, ages_of, no_ages, restored_writer, unwritten}
use Rattle.run_book.specs.Takers.{ByAge, Takers, no_takers, restored_takers, without_taker}
use Rattle.run_book.specs.Stops.{above, below, youngest_against, key_stop, IsTicketStop}
use Rattle.run_book.specs.AgeLines.{KeepsAges}
use Rattle.run_book.specs.AgeLaws.{AreNow, where_written, IsNoted}
use Rattle.timestamp_engine.specs.declared.engine.TimestampEngine.{TimestampEngine}
use Rattle.timestamp_engine.specs.Stands.{Stands, EndsRun, StopsRun}

-- a right line of an unended run, once its call left the book, the ages and the takers so
pub stands_called : (old new : TimestampEngine) (start : Start) (older : List EngineLine) (line : EngineLine) (run : Run) → Stands old start older → IsRightLine start older line → run_at start older (tid_of line) ≡ Some run →
    IsCalled old.book line new.book → IsNoted run old.accesses old.takers line new.accesses new.takers → Stands new start (line ∷ older)
stands_called old new start older line run s right at called noted =
    let k = s.keeps.keeps in
    record {
      keeps = calls_well Timestamp old.book new.book start older line s.keeps right called;
      ages = follows_calls Timestamp timestamp_by_age old.accesses new.accesses old.takers new.takers start older line run k.of_kind k.starts k.right right at s.ages noted;
    }

-- the engine stands for the same lists where it keeps the same
pub stands_same : (old new : TimestampEngine) (start : Start) (lines : List EngineLine) → new.book.book ≡ old.book.book → old.book.room ≤ new.book.room → AreNow new.accesses (ages_of old.accesses) → new.takers ≡ old.takers → Stands old start lines → Stands new start lines
stands_same old new start lines book room ages takers s =
    let had = s.keeps.room in
    record {
      keeps = record { keeps = subst (λ (b : Book). Keeps Timestamp b start lines) (sym book) s.keeps.keeps; room = omega (arith, room) };
      ages = record {
        keys = λ key. ages key ∙ s.ages.keys key;
        unended = ap (λ (t : Takers). t.unended) takers ∙ s.ages.unended;
        live = ap (λ (t : Takers). t.live) takers ∙ s.ages.live;
        committed = ap (λ (t : Takers). t.committed) takers ∙ s.ages.committed;
      };
    }

-- a run that ends otherwise than by commit
pub ends_run : (old new : TimestampEngine) (tid : Tid) (held : Held) → held_in old.book.book.runs tid ≡ Some held → new.book.book ≡ drops tid old.book.book → AreNow new.accesses (where_written held.run unwritten old.accesses) →
    new.takers ≡ without_taker held.run old.takers → EndsRun old tid new
ends_run old new tid held found book ages takers start older line s right ends =
    let at = ap (λ (t : Tid). run_at start older t) ends.0 ∙ run_at-held Timestamp old.book.book start older tid held s.keeps.keeps found in
    stands_called old new start older line held.run s right at (called_ends old.book new.book line ends.1 (book ∙ ap (λ (t : Tid). drops t old.book.book) (sym ends.0)))
    (noted_ends held.run old.accesses new.accesses old.takers new.takers line ends.1 ages takers)

module _ (old : TimestampEngine) (start : Start) (older : List EngineLine) (s : Stands old start older) (tid : Tid) (held : Held) (found : held_in old.book.book.runs tid ≡ Some held) where
  pub at : run_at start older tid ≡ Some held.run
  at = run_at-held Timestamp old.book.book start older tid held s.keeps.keeps found

  -- an access, stopped or granted, is answered by the rule
  pub right_access : (act : PlainAct) (reply : Reply) (stop : Option Reply) → held.run.sealed ≡ None → stop ≡ key_stop (ages_of old.accesses (key_of act)) held.run.age act →
      reply ≡ or_reply stop (granted start older held.run act) → IsRightLine start older (Acts tid act reply)
  right_access act reply stop live is answered =
      let k = s.keeps.keeps in
      let by_rule : stop ≡ access_stop start.kind start older held.run act =
      is ∙ (stops_access Timestamp timestamp_by_age old.accesses old.takers start older held.run act k.of_kind k.starts k.right s.ages
      ∙ sym (ap (λ (kind : Engine). access_stop kind start older held.run act) k.of_kind)) in
      (held.run, ((at, live), answered ∙ ap (λ (o : Option Reply). or_reply o (granted start older held.run act)) by_rule))

  pub right_take : (reply : Reply) (stop : Option Reply) → held.run.sealed ≡ None → held.run.ticket ≡ None → IsTicketStop old.takers held.run.age stop → reply ≡ or_reply stop (Ticket (published start older + 1)) → IsRightLine start older (Takes tid reply)
  right_take reply stop live ticketless is answered =
      let k = s.keeps.keeps in
      let by_rule : stop ≡ ticket_stop start.kind start older held.run =
      stops_taking Timestamp timestamp_by_age old.accesses old.takers start older held.run stop k.of_kind k.starts k.right s.ages is
      ∙ sym (ap (λ (kind : Engine). ticket_stop kind start older held.run) k.of_kind) in
      (held.run, ((at, live, ticketless), answered ∙ ap (λ (o : Option Reply). or_reply o (Ticket (published start older + 1))) by_rule))

  -- the value of a granted read
  pub right_value : (key : Key) (value : ℕ) → held.run.sealed ≡ None → None ≡ key_stop (ages_of old.accesses key) held.run.age (Read key) → value ≡ after held.run.acts (table_in old.book.book) key → IsRightLine start older (Acts tid (Read key) (Value value))
  right_value key value live free is =
      let k = s.keeps.keeps in
      right_access (Read key) (Value value) None live free
      (ap (λ (n : ℕ). Value n) (is ∙ after-table Timestamp old.book.book start older held.run.acts key k) ∙ sym (ap (λ (kind : Engine). granted_by (rule kind) start older held.run (Read key)) k.of_kind))

  -- a run without a ticket that was put among the takers is taken out again
  pub no_taker : held.run.ticket ≡ None → get old.takers.unended held.run.age ≡ None
  no_taker ticketless =
      let k = s.keeps.keeps in
      ap (λ (m : ByAge). get m held.run.age) s.ages.unended ∙ unlisted start older tid held.run k.starts k.right at ticketless

  -- the next ticket is the run's, where it has one
  pub next_ticket : held.run.sealed ≡ None → IfSome held.run.ticket (λ t. t ≡ old.book.book.counters.published + 1)
  next_ticket live =
      let k = s.keeps.keeps in
      let one = age_one_taker Timestamp timestamp_by_age start older k.of_kind k.starts k.right in
      by_ticket held.run.ticket (λ t taken. one.next tid held.run at live t taken ∙ sym (ap (λ (m : Counters). m.published + 1) k.counters))
    where
      by_ticket : (o : Option ℕ) → ((t : ℕ) → o ≡ Some t → t ≡ old.book.book.counters.published + 1) → IfSome o (λ t. t ≡ old.book.book.counters.published + 1)
      by_ticket None h = tt
      by_ticket (Some t) h = h t refl

  -- a sealing, whose serial number is the run's age
  pub right_seal : (n : ℕ) → held.run.sealed ≡ None → n ≡ held.run.age → IsRightLine start older (Seals tid n)
  right_seal n live is =
      let k = s.keeps.keeps in
      let stop : seal_stop start.kind start older held.run ≡ None = ap (λ (kind : Engine). seal_stop kind start older held.run) k.of_kind in
      let number : held.run.age ≡ seal_number start.kind start older held.run = sym (ap (λ (kind : Engine). seal_number kind start older held.run) k.of_kind) in
      (held.run, ((at, live), stop, is ∙ number))

-- an access that is stopped
pub stands_stopped : (old new : TimestampEngine) (start : Start) (older : List EngineLine) (tid : Tid) (held : Held) (act : PlainAct) (stop : Reply) → Stands old start older → held_in old.book.book.runs tid ≡ Some held → held.run.sealed ≡ None →
    Some stop ≡ key_stop (ages_of old.accesses (key_of act)) held.run.age act → StopsRun old tid stop new → Stands new start (Acts tid act stop ∷ older)
stands_stopped old new start older tid held act stop s found live is stopped =
    let ages = ages_of old.accesses (key_of act) in
    let right = right_access old start older s tid held found act stop (Some stop) live is refl in
    let shape = stop_shape (above held.run.age (youngest_against ages act)) (below held.run.age ages.writer) stop (sym is) in
    let here = at old start older s tid held found in
    let Goal : Reply → Type 0 = λ reply. IsRightLine start older (Acts tid act reply) → StopsRun old tid reply new → Stands new start (Acts tid act reply ∷ older) in
    elim shape.1 [
      | inl waits ↦ subst Goal (sym waits)
          (λ r same. subst (λ (e : TimestampEngine). Stands e start (Acts tid act (Wait shape.0) ∷ older)) (sym same)
          (stands_called old old start older (Acts tid act (Wait shape.0)) held.run s r here refl (λ q. refl, refl))) right stopped
      | inr late ↦ subst Goal (sym late) (λ r ends. ends start older (Acts tid act (Refused (Late shape.0))) s r (refl, refl)) right stopped
    ]

-- the taking of a ticket that is stopped
pub stands_ticket_stopped : (old new : TimestampEngine) (start : Start) (older : List EngineLine) (tid : Tid) (held : Held) (stop : Reply) → Stands old start older → held_in old.book.book.runs tid ≡ Some held → held.run.sealed ≡ None → held.run.ticket ≡ None →
    IsTicketStop old.takers held.run.age (Some stop) → StopsRun old tid stop new → Stands new start (Takes tid stop ∷ older)
stands_ticket_stopped old new start older tid held stop s found live ticketless is stopped =
    let right = right_take old start older s tid held found stop (Some stop) live ticketless is refl in
    let shape = stop_shape _ _ stop (sym is.2) in
    let here = at old start older s tid held found in
    let Goal : Reply → Type 0 = λ reply. IsRightLine start older (Takes tid reply) → StopsRun old tid reply new → Stands new start (Takes tid reply ∷ older) in
    elim shape.1 [
      | inl waits ↦ subst Goal (sym waits)
          (λ r same. subst (λ (e : TimestampEngine). Stands e start (Takes tid (Wait shape.0) ∷ older)) (sym same)
          (stands_called old old start older (Takes tid (Wait shape.0)) held.run s r here refl (λ q. refl, refl))) right stopped
      | inr late ↦ subst Goal (sym late) (λ r ends. ends start older (Takes tid (Refused (Late shape.0))) s r (refl, refl)) right stopped
    ]

-- a run begins, and its begin is taken back
pub stands_begins : (old new : TimestampEngine) (start : Start) (older : List EngineLine) (tid : Tid) (n : ℕ) → Stands old start older → IsFree start older tid → n ≡ old.book.book.counters.counter + 1 →
    new.book.book ≡ begins tid old.book.book → old.book.room ≤ new.book.room → new.accesses ≡ old.accesses → new.takers ≡ old.takers → Stands new start (Begins tid n ∷ older)
stands_begins old new start older tid n s free number book room keys ts =
    let k = s.keeps.keeps in
    let right : IsRightLine start older (Begins tid n) = (free, number ∙ ap (λ (m : Counters). m.counter + 1) k.counters) in
    record {
      keeps = calls_well Timestamp old.book new.book start older (Begins tid n) s.keeps right (book, room);
      ages = subst (λ (a : Ages). KeepsAges a new.takers start (Begins tid n ∷ older)) (sym keys)
          (subst (λ (t : Takers). KeepsAges old.accesses t start (Begins tid n ∷ older)) (sym ts) (follows_begins.begins old.accesses old.takers start older tid n s.ages));
    }

pub stands_unbegins : (old new : TimestampEngine) (start : Start) (older : List EngineLine) (tid : Tid) (n : ℕ) → Stands old start (Begins tid n ∷ older) →
    new.book.book ≡ unbegins tid old.book.book → old.book.room ≤ new.book.room → new.accesses ≡ old.accesses → new.takers ≡ old.takers → Stands new start older
stands_unbegins old new start older tid n s book room keys ts = record {
  keeps = unbegins_well Timestamp old.book new.book start older tid n s.keeps book room;
  ages = subst (λ (a : Ages). KeepsAges a new.takers start older) (sym keys)
      (subst (λ (t : Takers). KeepsAges old.accesses t start older) (sym ts) (follows_begins.back old.accesses old.takers start older tid n s.ages));
}

-- a sealing is taken back, with the publication of the run's ticket
pub stands_unsealed : (old new : TimestampEngine) (start : Start) (older : List EngineLine) (tid : Tid) (n : ℕ) (left : Held) → Stands old start (Seals tid n ∷ older) → new.book.book ≡ unseals tid old.book.book →
    old.book.room ≤ new.book.room + taken_by (held_in old.book.book.runs tid) → held_in new.book.book.runs tid ≡ Some left → new.accesses ≡ old.accesses →
    new.takers ≡ record old.takers { live = cond (has_ticket left.run) (Some (rival_by age_of left.run)) old.takers.live } → Stands new start older
stands_unsealed old new start older tid n left s book room here keys ts =
    let k = s.keeps.keeps in
    let keeps = unseals_well Timestamp old.book new.book start older tid n s.keeps book room in
    let run_there = run_at-held Timestamp new.book.book start older tid left keeps.keeps here in
    record {
      keeps = keeps;
      ages = subst (λ (a : Ages). KeepsAges a new.takers start older) (sym keys)
          (follows_unseals Timestamp timestamp_by_age old.accesses old.takers new.takers start older tid n left.run k.of_kind k.starts k.right run_there s.ages ts);
    }

-- an epoch starts
pub stands_started : (new : TimestampEngine) (rows : List Put) (doubtful : List Kept) (counter published : ℕ) (owner : Option Tid) → IsRising (λ row. row.key.0) rows → IsStart (start_from Timestamp rows doubtful counter published owner) →
    new.book.book ≡ started rows doubtful (record { counter = counter; published = published; owner = owner }) → AreNow new.accesses (λ key. record no_ages { writer = restored_writer doubtful key None }) →
    new.takers ≡ record no_takers { unended = restored_takers doubtful empty } → Stands new (start_from Timestamp rows doubtful counter published owner) []
stands_started new rows doubtful c p o rising starts book ages takers = record {
  keeps = starts_well Timestamp new.book rows doubtful c p o rising starts book;
  ages = follows_starts new.accesses new.takers (start_from Timestamp rows doubtful c p o) ages takers;
}

-- nobody accessed a key of a new site
pub none_accessed : (ages : Ages) → ages ≡ empty → (key : Key) → ages_of ages key ≡ no_ages
none_accessed ages is key = ap (λ (m : Ages). ages_of m key) is ∙ ap (λ (o : Option KeyAges). or_else o no_ages) (get-empty nat_cmp key.0)
