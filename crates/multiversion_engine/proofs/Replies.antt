-- Each answer of a multiversion engine is the rule's, and it then stands for the lines with that answer.
use Rattle.std.proofs.Common.{◌≡◌, ℕ, ◌+◌, ◌≤◌, ◌⊎◌, Bool, true, false, cond, Option, Some, None, IfSome, List, ◌∷◌, inl, inr, refl, sym, ap, ◌∙◌, subst}
use Rattle.std.specs.FinMap.{insert}
use Rattle.mdb_base.specs.declared.names.Engine.{Engine}
use Rattle.mdb_base.specs.declared.names.Engine.TheVariants.{Multiversion}
use Rattle.mdb_base.specs.declared.names.Key.{Key}
use Rattle.mdb_base.specs.declared.names.Tid.{Tid}
use Rattle.mdb_base.specs.declared.acts.PlainAct.{PlainAct}
use Rattle.mdb_base.specs.declared.acts.PlainAct.TheVariants.{Read, Write}
use Rattle.mdb_base.specs.declared.replies.Reply.{Reply}
use Rattle.mdb_base.specs.declared.replies.Reply.TheVariants.{Done, Value, Ticket, Wait, Refused}
use Rattle.mdb_base.specs.declared.replies.Why.TheVariants.{Late}
use Rattle.mdb_base.specs.Words.{or_else, greatest}
use Rattle.fed_rules.specs.Runs.{Start, EngineLine, Acts, Takes, Seals, Got, Wrote, Run, run_at, has_ticket, published}
use Rattle.fed_rules.specs.Replies.{age_of, has_written, late_or_wait, wait_for_writer, older_writers, access_stop, ticket_stop, seal_stop, seal_number, granted, granted_by, rule, or_reply, table_before}
use Rattle.fed_rules.specs.EngineLines.{IsRightLine}
use Rattle.engine_laws.proofs.ForCallers.{age_one_taker, multiversion_by_age}
use Rattle.run_book.specs.Ages.{Ages, ages_of, younger_of, with_reader, with_writer}
use Rattle.run_book.specs.Takers.{Takers, with_taker}
use Rattle.run_book.specs.Stops.{above, below, stop_by, youngest_against, writer_stop, IsTicketStop}
use Rattle.run_book.specs.AgeLaws.{AreNow, at_key}
use Rattle.run_book.proofs.ForCallers.{after-own_write, run_at-held, stops_access, stops_reader, stops_taking}
use Rattle.run_book.specs.declared.counters.Counters.{Counters}
use Rattle.run_book.specs.declared.rival.Rival.{Rival}
use Rattle.run_book.specs.Rivals.{rival_by}
use Rattle.run_book.specs.Held.{Held, held_in, own_write}
use Rattle.run_book.specs.Book.{grants, tickets, seals, taken_by}
use Rattle.site_tables.specs.declared.versions.Version.{Version}
use Rattle.multiversion_engine.specs.declared.engine.MultiversionEngine.{MultiversionEngine}
use Rattle.site_tables.specs.Numbers.{number_of}
use Rattle.site_tables.specs.Tables.{value_of}
use Rattle.multiversion_engine.specs.OldVersions.{Olds, place_of}
use Rattle.multiversion_engine.specs.Noted.{with_newest}
use Rattle.multiversion_engine.specs.Versions.{AreVersions, IsThere, IsValueAt, newest}
use Rattle.multiversion_engine.specs.Stands.{Stands, StopsRun, IsOwnOr, IsValueFor, read_stop, write_stop}
use Rattle.multiversion_engine.proofs.Lines.{stands_on}
use Rattle.multiversion_engine.proofs.Versions.{gives_table, versions_noted}

-- a read of an own write passes, and else it waits for the older writer
read_stop-is : (accesses : Ages) (me : Run) (key : Key) (older : Option Run) → writer_stop (ages_of accesses key) me.age ≡ late_or_wait None older → read_stop accesses me key ≡ wait_for_writer (has_written key me) older
read_stop-is accesses me key older is = by_own (has_written key me)
  where
    by_own : (b : Bool) → cond b None (writer_stop (ages_of accesses key) me.age) ≡ wait_for_writer b older
    by_own true = refl
    by_own false = is

-- an answer that stops a run is a wait, or that it is late
abbrev pub IsStop : Reply → Type 0
IsStop stop = (by : Tid) × ((stop ≡ Wait by) ⊎ (stop ≡ Refused (Late by)))

stop_shape : (youngest older : Option Rival) (stop : Reply) → stop_by youngest older ≡ Some stop → IsStop stop
stop_shape None None stop e = cc
stop_shape None (Some older) stop e = (older.tid, inl (let is : Wait older.tid ≡ stop = cc in sym is))
stop_shape (Some youngest) older stop e = (youngest.tid, inr (let is : Refused (Late youngest.tid) ≡ stop = cc in sym is))

pub read_shape : (accesses : Ages) (run : Run) (key : Key) (stop : Reply) → read_stop accesses run key ≡ Some stop → IsStop stop
read_shape accesses run key stop e = by_own (has_written key run) e
  where
    by_own : (b : Bool) → cond b None (writer_stop (ages_of accesses key) run.age) ≡ Some stop → IsStop stop
    by_own true e = cc
    by_own false e = stop_shape None (below run.age (ages_of accesses key).writer) stop e

pub write_shape : (accesses : Ages) (run : Run) (key : Key) (value : ℕ) (stop : Reply) → write_stop accesses run key value ≡ Some stop → IsStop stop
write_shape accesses run key value stop e = stop_shape (above run.age (youngest_against (ages_of accesses key) (Write key value))) (below run.age (ages_of accesses key).writer) stop e

ticket_shape : (takers : Takers) (age : ℕ) (stop : Reply) → IsTicketStop takers age (Some stop) → IsStop stop
ticket_shape takers age stop (o, young, is) = stop_shape (above age (younger_of o takers.committed)) (below age takers.live) stop (sym is)

stands_at : (old new : MultiversionEngine) (start : Start) (lines : List EngineLine) → new ≡ old → Stands old start lines → Stands new start lines
stands_at old new start lines is s = subst (λ (e : MultiversionEngine). Stands e start lines) (sym is) s

-- the newest version of a key is noted
pub olds_noted : (old : MultiversionEngine) (start : Start) (older : List EngineLine) → Stands old start older → (key : Key) (olds : Olds) → olds ≡ with_newest old.book.book key old.olds →
    AreVersions olds start older × IsThere olds key (newest start older key)
olds_noted old start older s key olds is =
    let k = s.keeps.keeps in
    let same : olds ≡ insert old.olds (place_of key (number_of (newest start older key))) (value_of (newest start older key)) =
    is ∙ ap (λ (v : Option Version). insert old.olds (place_of key (number_of v)) (value_of v)) (k.versions key) in
    subst (λ (o : Olds). AreVersions o start older × IsThere o key (newest start older key)) (sym same) (versions_noted old.olds start older key k.starts k.right s.versions)

module _ (old : MultiversionEngine) (start : Start) (older : List EngineLine) (s : Stands old start older) (tid : Tid) (held : Held) (found : held_in old.book.book.runs tid ≡ Some held) where
  pub at : run_at start older tid ≡ Some held.run
  at = run_at-held Multiversion old.book.book start older tid held s.keeps.keeps found

  -- an access, stopped or granted, is answered by the rule
  right_access : (act : PlainAct) (reply : Reply) (stop : Option Reply) → held.run.sealed ≡ None → stop ≡ access_stop Multiversion start older held.run act →
      reply ≡ or_reply stop (granted start older held.run act) → IsRightLine start older (Acts tid act reply)
  right_access act reply stop live is answered =
      let kind = s.keeps.keeps.of_kind in (
        held.run,
        (
          (at, live),
          answered
              ∙ ap (λ (o : Option Reply). or_reply o (granted start older held.run act)) (is ∙ sym (ap (λ (k : Engine). access_stop k start older held.run act) kind)),
        ),
      )

  pub read_is : (key : Key) → read_stop old.accesses held.run key ≡ access_stop Multiversion start older held.run (Read key)
  read_is key =
      let k = s.keeps.keeps in
      read_stop-is old.accesses held.run key (greatest age_of (older_writers start older held.run (Read key)))
      (stops_reader Multiversion multiversion_by_age old.accesses old.takers start older held.run key k.of_kind k.starts k.right s.ages)

  pub write_is : (key : Key) (value : ℕ) → write_stop old.accesses held.run key value ≡ access_stop Multiversion start older held.run (Write key value)
  write_is key value =
      let k = s.keeps.keeps in stops_access Multiversion multiversion_by_age old.accesses old.takers start older held.run (Write key value) k.of_kind k.starts k.right s.ages

  right_take : (reply : Reply) (stop : Option Reply) → held.run.sealed ≡ None → held.run.ticket ≡ None → IsTicketStop old.takers held.run.age stop →
      reply ≡ or_reply stop (Ticket (published start older + 1)) → IsRightLine start older (Takes tid reply)
  right_take reply stop live ticketless is answered =
      let k = s.keeps.keeps in
      let by_rule = stops_taking Multiversion multiversion_by_age old.accesses old.takers start older held.run stop k.of_kind k.starts k.right s.ages is in (
        held.run,
        (
          (at, live, ticketless),
          answered ∙ ap (λ (o : Option Reply). or_reply o (Ticket (published start older + 1)))
              (by_rule ∙ sym (ap (λ (kind : Engine). ticket_stop kind start older held.run) k.of_kind)),
        ),
      )

  -- what a granted read answers
  value_is : (key : Key) (value : ℕ) → IsValueFor old.book.book old.olds held.run key value → Value value ≡ granted start older held.run (Read key)
  value_is key value is =
      let k = s.keeps.keeps in
      ap (λ (n : ℕ). Value n) (by_own (own_write key held.run.acts) is ∙ sym (after-own_write key held.run.acts (table_before start older held.run)))
      ∙ sym (ap (λ (kind : Engine). granted_by (rule kind) start older held.run (Read key)) k.of_kind)
    where
      by_own : (o : Option ℕ) → IsOwnOr o old.book.book old.olds held.run.age key value → value ≡ or_else o (table_before start older held.run key)
      by_own (Some own) is = is
      by_own None is =
          let k = s.keeps.keeps in
          gives_table old.olds start older tid held.run key value k.starts k.right s.versions at (subst (λ (v : Option Version). IsValueAt v old.olds held.run.age key value) (k.versions key) is)

  module _ (new : MultiversionEngine) where
    -- an access that is stopped
    pub stands_stopped : (act : PlainAct) (stop : Reply) → held.run.sealed ≡ None → Some stop ≡ access_stop Multiversion start older held.run act → IsStop stop → StopsRun old tid stop new →
        Stands new start (Acts tid act stop ∷ older)
    stands_stopped act stop live is (by, shape) stopped =
        let right = right_access act stop (Some stop) live is refl in
        let Goal : Reply → Type 0 = λ reply. IsRightLine start older (Acts tid act reply) → StopsRun old tid reply new → Stands new start (Acts tid act reply ∷ older) in
        elim shape [
          | inl waits ↦ subst Goal (sym waits)
              (λ r same. stands_at old new start (Acts tid act (Wait by) ∷ older) same
              (stands_on old old start older (Acts tid act (Wait by)) held.run held.run s r at refl refl refl refl ((λ key. refl), refl) refl s.versions (λ t key value e. cc))) right stopped
          | inr late ↦ subst Goal (sym late) (λ r ends. ends start older (Acts tid act (Refused (Late by))) s r (refl, refl)) right stopped
        ]

    -- the taking of a ticket that is stopped
    pub stands_ticket_stopped : (stop : Reply) → held.run.sealed ≡ None → held.run.ticket ≡ None → IsTicketStop old.takers held.run.age (Some stop) → StopsRun old tid stop new →
        Stands new start (Takes tid stop ∷ older)
    stands_ticket_stopped stop live ticketless is stopped =
        let right = right_take stop (Some stop) live ticketless is refl in
        let shape = ticket_shape old.takers held.run.age stop is in
        let by = shape.0 in
        let Goal : Reply → Type 0 = λ reply. IsRightLine start older (Takes tid reply) → StopsRun old tid reply new → Stands new start (Takes tid reply ∷ older) in
        elim shape.1 [
          | inl waits ↦ subst Goal (sym waits)
              (λ r same. stands_at old new start (Takes tid (Wait by) ∷ older) same
              (stands_on old old start older (Takes tid (Wait by)) held.run held.run s r at refl refl refl refl ((λ key. refl), refl) refl s.versions (λ t key value e. cc))) right stopped
          | inr late ↦ subst Goal (sym late) (λ r ends. ends start older (Takes tid (Refused (Late by))) s r (refl, refl)) right stopped
        ]

    -- a granted read
    pub stands_read : (key : Key) (value : ℕ) → held.run.sealed ≡ None → read_stop old.accesses held.run key ≡ None → IsValueFor old.book.book old.olds held.run key value →
        new.book.book ≡ grants tid (Got key value) old.book.book → AreNow new.accesses (at_key key (with_reader (rival_by age_of held.run)) old.accesses) → new.takers ≡ old.takers → new.unended ≡ old.unended →
        new.olds ≡ old.olds → Stands new start (Acts tid (Read key) (Value value) ∷ older)
    stands_read key value live free is book accesses takers unended olds =
        let right = right_access (Read key) (Value value) None live (sym free ∙ read_is key) (value_is key value is) in
        stands_on old new start older (Acts tid (Read key) (Value value)) held.run (record held.run { acts = Got key value ∷ held.run.acts }) s right at refl refl refl book (accesses, takers) unended
        (subst (λ (o : Olds). AreVersions o start older) (sym olds) s.versions) (λ t k v e. cc)

    -- a granted write, with the version noted that it supersedes
    pub stands_wrote : (key : Key) (value : ℕ) → held.run.sealed ≡ None → write_stop old.accesses held.run key value ≡ None →
        new.book.book ≡ grants tid (Wrote key value) old.book.book → AreNow new.accesses (at_key key (with_writer (rival_by age_of held.run)) old.accesses) → new.takers ≡ old.takers → new.unended ≡ old.unended →
        new.olds ≡ with_newest old.book.book key old.olds → Stands new start (Acts tid (Write key value) Done ∷ older)
    stands_wrote key value live free book accesses takers unended olds =
        let k = s.keeps.keeps in
        let right = right_access (Write key value) Done None live (sym free ∙ write_is key value) refl in
        let noted = olds_noted old start older s key new.olds olds in
        stands_on old new start older (Acts tid (Write key value) Done) held.run (record held.run { acts = Wrote key value ∷ held.run.acts }) s right at refl refl refl book (accesses, takers) unended
        noted.0 (λ t q v e. let same : key ≡ q = cc in subst (λ (x : Key). IsThere new.olds x (newest start older x)) same noted.1)

    -- a ticket taken
    pub stands_took : (n : ℕ) → held.run.sealed ≡ None → held.run.ticket ≡ None → IsTicketStop old.takers held.run.age None → n ≡ old.book.book.counters.published + 1 → new.book.book ≡ tickets tid n old.book.book →
        new.accesses ≡ old.accesses → new.takers ≡ record old.takers { unended = with_taker (rival_by age_of held.run) old.takers.unended; live = Some (rival_by age_of held.run) } → new.unended ≡ old.unended →
        new.olds ≡ old.olds → Stands new start (Takes tid (Ticket n) ∷ older)
    stands_took n live ticketless free number book accesses takers unended olds =
        let k = s.keeps.keeps in
        let next : n ≡ published start older + 1 = number ∙ ap (λ (m : Counters). m.published + 1) k.counters in
        let right = right_take (Ticket n) None live ticketless free (ap (λ (m : ℕ). Ticket m) next) in
        stands_on old new start older (Takes tid (Ticket n)) held.run (record held.run { ticket = Some n }) s right at refl refl refl book
        ((λ q. ap (λ (a : Ages). ages_of a q) accesses), takers) unended (subst (λ (o : Olds). AreVersions o start older) (sym olds) s.versions) (λ t q v e. cc)

    -- a run is sealed by its age
    pub stands_sealed : (n : ℕ) → held.run.sealed ≡ None → n ≡ held.run.age → new.book.book ≡ seals tid n old.book.book → old.book.room + taken_by (held_in old.book.book.runs tid) ≤ new.book.room →
        new.accesses ≡ old.accesses → new.takers ≡ record old.takers { live = cond (has_ticket held.run) None old.takers.live } → new.unended ≡ old.unended → new.olds ≡ old.olds →
        Stands new start (Seals tid n ∷ older)
    stands_sealed n live is book room accesses takers unended olds =
        let k = s.keeps.keeps in
        let stop : seal_stop start.kind start older held.run ≡ None = ap (λ (kind : Engine). seal_stop kind start older held.run) k.of_kind in
        let number : held.run.age ≡ seal_number start.kind start older held.run = sym (ap (λ (kind : Engine). seal_number kind start older held.run) k.of_kind) in
        let right : IsRightLine start older (Seals tid n) = (held.run, ((at, live), stop, is ∙ number)) in
        stands_on old new start older (Seals tid n) held.run (record held.run { sealed = Some n }) s right at refl refl refl (book, room)
        ((λ q. ap (λ (a : Ages). ages_of a q) accesses), takers) unended (subst (λ (o : Olds). AreVersions o start older) (sym olds) s.versions) (λ t q v e. cc)

  -- a run's ticket is the next one to be published
  pub next_ticket : held.run.sealed ≡ None → IfSome held.run.ticket (λ t. t ≡ old.book.book.counters.published + 1)
  next_ticket live =
      let k = s.keeps.keeps in
      let one = age_one_taker Multiversion multiversion_by_age start older k.of_kind k.starts k.right in
      let counters = ap (λ (m : Counters). m.published + 1) k.counters in
      by_ticket held.run.ticket (λ t taken. one.next tid held.run at live t taken ∙ sym counters)
    where
      by_ticket : (o : Option ℕ) → ((t : ℕ) → o ≡ Some t → t ≡ old.book.book.counters.published + 1) → IfSome o (λ t. t ≡ old.book.book.counters.published + 1)
      by_ticket None h = tt
      by_ticket (Some t) h = h t refl
