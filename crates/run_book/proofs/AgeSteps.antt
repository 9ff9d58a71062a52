-- The ages and the takers through each line.
use Rattle.std.proofs.Common.{◌≡◌, ℕ, ◌⊎◌, inl, inr, Bool, true, false, not, ◌&&◌, cond, is_some, Option, Some, None, List, ◌∷◌, refl, sym, ap, ◌∙◌}
use Rattle.std.specs.FinMap.{remove}
use Rattle.std.proofs.lemmas.Option.{same_Some}
use Rattle.mdb_base.specs.declared.names.Engine.{Engine}
use Rattle.mdb_base.specs.declared.names.Key.{Key}
use Rattle.mdb_base.specs.declared.names.Tid.{Tid}
use Rattle.mdb_base.specs.declared.acts.PlainAct.TheVariants.{Read, Write}
use Rattle.mdb_base.specs.declared.replies.Reply.{Reply}
use Rattle.mdb_base.specs.declared.replies.Reply.TheVariants.{Done, Value, Ticket, Wait, Refused, Unknown}
use Rattle.mdb_base.specs.declared.replies.Why.TheVariants.{Late}
use Rattle.mdb_base.specs.Names.{same_key}
use Rattle.mdb_base.specs.Words.{map_some, holds_of}
use Rattle.fed_rules.specs.Runs.{Start, EngineLine, Begins, Acts, Takes, Seals, Refuses, Commits, Aborts, Run, tid_of, run_at, gives_up, has_ticket, is_sealed}
use Rattle.fed_rules.specs.Replies.{age_of, has_written}
use Rattle.fed_rules.specs.EngineLines.{IsStart, IsRight}
use Rattle.engine_laws.proofs.ForCallers.{IsByAge, tid_is}
use Rattle.run_book.specs.declared.rival.Rival.{Rival}
use Rattle.run_book.specs.Rivals.{rival_by}
use Rattle.run_book.specs.declared.key_ages.KeyAges.{KeyAges}
use Rattle.run_book.specs.Ages.{Ages, ages_of, younger_of, with_reader, with_writer, settled, unwritten}
use Rattle.run_book.specs.Takers.{ByAge, Takers, with_taker, takes_ticket, without_taker, with_committed, committed_taker}
use Rattle.run_book.specs.Stops.{stop_by}
use Rattle.run_book.specs.AgeLines.{reader, writer, committed_by, youngest_committed, ages_after, entered_by, left_by, unended_takers, live_taker, KeepsAges}
use Rattle.run_book.specs.AgeLaws.{FollowsBegins, FollowsCalls, FollowsStarts, FollowsUnseals, AreNow, IsNoted, where_written, at_key}
use Rattle.run_book.proofs.Writers.{writer_of}
use Rattle.run_book.proofs.Live.{live_of}

-- a line that says the same as the ones before it
ages_same : (old new : Ages) (was now : Takers) (start : Start) (older : List EngineLine) (line : EngineLine) → ((key : Key) → ages_after start (line ∷ older) key ≡ ages_after start older key) →
    unended_takers start (line ∷ older) ≡ unended_takers start older → live_taker start (line ∷ older) ≡ live_taker start older → youngest_committed has_ticket start (line ∷ older) ≡ youngest_committed has_ticket start older →
    KeepsAges old was start older → AreNow new (ages_of old) → now ≡ was → KeepsAges new now start (line ∷ older)
ages_same old new was now start older line ages unended live top k are is = record {
  keys = λ key. are key ∙ (k.keys key ∙ sym (ages key));
  unended = ap (λ (t : Takers). t.unended) is ∙ (k.unended ∙ sym unended);
  live = ap (λ (t : Takers). t.live) is ∙ (k.live ∙ sym live);
  committed = ap (λ (t : Takers). t.committed) is ∙ (k.committed ∙ sym top);
}

-- the ages of a key that the run of a line may have written, once it ends otherwise than by commit
ended_key : (o : Option Run) (run : Run) (key : Key) (ages : KeyAges) → o ≡ Some run → cond (has_written key run) (unwritten ages) ages ≡ record ages { writer = cond (holds_of (has_written key) o) None ages.writer }
ended_key o run key ages at = by_test (has_written key run) refl
  where
    by_test : (b : Bool) → has_written key run ≡ b → cond b (unwritten ages) ages ≡ record ages { writer = cond (holds_of (has_written key) o) None ages.writer }
    by_test b e = wrote b ∙ ap (λ (x : Bool). let a : KeyAges = record ages { writer = cond x None ages.writer } in a) (sym e ∙ sym (ap (λ (x : Option Run). holds_of (has_written key) x) at))
      where
        wrote : (b : Bool) → cond b (unwritten ages) ages ≡ record ages { writer = cond b None ages.writer }
        wrote true = refl
        wrote false = refl

-- a line that ends its run otherwise than by commit
ages_ended : (old new : Ages) (was now : Takers) (start : Start) (older : List EngineLine) (line : EngineLine) (run : Run) → run_at start older (tid_of line) ≡ Some run →
    ((key : Key) → ages_after start (line ∷ older) key ≡ record (ages_after start older key) { writer = cond (holds_of (has_written key) (run_at start older (tid_of line))) None (writer start older key) }) →
    unended_takers start (line ∷ older) ≡ left_by (run_at start older (tid_of line)) (unended_takers start older) →
    live_taker start (line ∷ older) ≡ cond (holds_of takes_ticket (run_at start older (tid_of line))) None (live_taker start older) →
    youngest_committed has_ticket start (line ∷ older) ≡ youngest_committed has_ticket start older →
    KeepsAges old was start older → AreNow new (where_written run unwritten old) → now ≡ without_taker run was → KeepsAges new now start (line ∷ older)
ages_ended old new was now start older line run at ages unended live top k are is =
    let o = run_at start older (tid_of line) in
    record {
      keys = λ key. are key
          ∙ (ap (λ (a : KeyAges). cond (has_written key run) (unwritten a) a) (k.keys key) ∙ (ended_key o run key (ages_after start older key) at ∙ sym (ages key)));
      unended = ap (λ (t : Takers). t.unended) is ∙ (ap (λ (m : ByAge). remove m run.age) k.unended ∙ (ap (λ (x : Option Run). left_by x (unended_takers start older)) (sym at) ∙ sym unended));
      live = ap (λ (t : Takers). t.live) is ∙ (ap (λ (l : Option Rival). cond (takes_ticket run) None l) k.live ∙ (ap (λ (x : Option Run). cond (holds_of takes_ticket x) None (live_taker start older)) (sym at) ∙ sym live));
      committed = ap (λ (t : Takers). t.committed) is ∙ (k.committed ∙ sym top);
    }

-- a granted access
ages_read : (old new : Ages) (was now : Takers) (start : Start) (older : List EngineLine) (tid : Tid) (key : Key) (value : ℕ) (run : Run) → run_at start older tid ≡ Some run → KeepsAges old was start older →
    AreNow new (at_key key (with_reader (rival_by age_of run)) old) → now ≡ was → KeepsAges new now start (Acts tid (Read key) (Value value) ∷ older)
ages_read old new was now start older tid key value run at k are is = record {
  keys = λ q. are q ∙ (ap (λ (a : KeyAges). cond (same_key key q) (with_reader (rival_by age_of run) a) a) (k.keys q) ∙ (by_key q (same_key key q)
      ∙ ap (λ (o : Option Run). let a : KeyAges = record (ages_after start older q) { read = cond (same_key key q) (younger_of (reader start older q) (map_some (rival_by age_of) o)) (reader start older q) } in a) (sym at)));
  unended = ap (λ (t : Takers). t.unended) is ∙ k.unended;
  live = ap (λ (t : Takers). t.live) is ∙ k.live;
  committed = ap (λ (t : Takers). t.committed) is ∙ k.committed;
}
  where
    by_key : (q : Key) (b : Bool) → cond b (with_reader (rival_by age_of run) (ages_after start older q)) (ages_after start older q)
        ≡ record (ages_after start older q) { read = cond b (younger_of (reader start older q) (Some (rival_by age_of run))) (reader start older q) }
    by_key q true = refl
    by_key q false = refl

ages_wrote : (old new : Ages) (was now : Takers) (start : Start) (older : List EngineLine) (tid : Tid) (key : Key) (value : ℕ) (run : Run) → run_at start older tid ≡ Some run → KeepsAges old was start older →
    AreNow new (at_key key (with_writer (rival_by age_of run)) old) → now ≡ was → KeepsAges new now start (Acts tid (Write key value) Done ∷ older)
ages_wrote old new was now start older tid key value run at k are is = record {
  keys = λ q. are q ∙ (ap (λ (a : KeyAges). cond (same_key key q) (with_writer (rival_by age_of run) a) a) (k.keys q) ∙ (by_key q (same_key key q)
      ∙ ap (λ (o : Option Run). let a : KeyAges = record (ages_after start older q) { writer = cond (same_key key q) (map_some (rival_by age_of) o) (writer start older q) } in a) (sym at)));
  unended = ap (λ (t : Takers). t.unended) is ∙ k.unended;
  live = ap (λ (t : Takers). t.live) is ∙ k.live;
  committed = ap (λ (t : Takers). t.committed) is ∙ k.committed;
}
  where
    by_key : (q : Key) (b : Bool) → cond b (with_writer (rival_by age_of run) (ages_after start older q)) (ages_after start older q)
        ≡ record (ages_after start older q) { writer = cond b (Some (rival_by age_of run)) (writer start older q) }
    by_key q true = refl
    by_key q false = refl

-- a ticket is taken
ages_took : (old new : Ages) (was now : Takers) (start : Start) (older : List EngineLine) (tid : Tid) (n : ℕ) (run : Run) → run_at start older tid ≡ Some run → KeepsAges old was start older → AreNow new (ages_of old) →
    now ≡ record was { unended = with_taker (rival_by age_of run) was.unended; live = Some (rival_by age_of run) } → KeepsAges new now start (Takes tid (Ticket n) ∷ older)
ages_took old new was now start older tid n run at k are is = record {
  keys = λ q. are q ∙ k.keys q;
  unended = ap (λ (t : Takers). t.unended) is
      ∙ (ap (λ (m : ByAge). with_taker (rival_by age_of run) m) k.unended ∙ ap (λ (o : Option Run). entered_by (Ticket n) (map_some (rival_by age_of) o) (unended_takers start older)) (sym at));
  live = ap (λ (t : Takers). t.live) is ∙ ap (λ (o : Option Run). map_some (rival_by age_of) o) (sym at);
  committed = ap (λ (t : Takers). t.committed) is ∙ k.committed;
}

-- a sealing
ages_sealed : (old new : Ages) (was now : Takers) (start : Start) (older : List EngineLine) (tid : Tid) (n : ℕ) (run : Run) → run_at start older tid ≡ Some run → KeepsAges old was start older → AreNow new (ages_of old) →
    now ≡ record was { live = cond (has_ticket run) None was.live } → KeepsAges new now start (Seals tid n ∷ older)
ages_sealed old new was now start older tid n run at k are is = record {
  keys = λ q. are q ∙ k.keys q;
  unended = ap (λ (t : Takers). t.unended) is ∙ k.unended;
  live = ap (λ (t : Takers). t.live) is ∙ (ap (λ (l : Option Rival). cond (has_ticket run) None l) k.live ∙ ap (λ (o : Option Run). cond (holds_of has_ticket o) None (live_taker start older)) (sym at));
  committed = ap (λ (t : Takers). t.committed) is ∙ k.committed;
}

-- the ages of a key that the run of a line may have written, once it commits
settled_key : (o : Option Run) (run : Run) (key : Key) (ages : KeyAges) → o ≡ Some run → (has_written key run ≡ true → ages.writer ≡ Some (rival_by age_of run)) →
    cond (has_written key run) (settled ages) ages ≡ record { read = ages.read; last = committed_by (has_written key) o ages.last; writer = cond (holds_of (has_written key) o) None ages.writer }
settled_key o run key ages at mine =
    by_test (has_written key run) mine
    ∙ ap (λ (x : Option Run). let a : KeyAges = record { read = ages.read; last = committed_by (has_written key) x ages.last; writer = cond (holds_of (has_written key) x) None ages.writer } in a) (sym at)
  where
    by_test : (b : Bool) → (b ≡ true → ages.writer ≡ Some (rival_by age_of run)) →
        cond b (settled ages) ages ≡ record { read = ages.read; last = cond b (younger_of ages.last (Some (rival_by age_of run))) ages.last; writer = cond b None ages.writer }
    by_test true mine = ap (λ (w : Option Rival). let a : KeyAges = record { read = ages.read; last = younger_of ages.last w; writer = None } in a) (mine refl)
    by_test false mine = refl

ages_committed : (kind : Engine) (old new : Ages) (was now : Takers) (start : Start) (older : List EngineLine) (tid : Tid) (run : Run) → IsByAge kind → start.kind ≡ kind → IsStart start → IsRight start older → run_at start older tid ≡ Some run →
    KeepsAges old was start older → AreNow new (where_written run settled old) → now ≡ committed_taker run was → KeepsAges new now start (Commits tid ∷ older)
ages_committed kind old new was now start older tid run by is_kind begun right at k are is =
    let o = run_at start older tid in
    let named = tid_is start older right tid run at in
    record {
      keys = λ key. are key
          ∙ (ap (λ (a : KeyAges). cond (has_written key run) (settled a) a) (k.keys key)
          ∙ settled_key o run key (ages_after start older key) at
          (λ has. writer_of kind start older key tid run by is_kind begun right at has ∙ ap (λ (t : Tid). let r : Rival = record { tid = t; rank = run.age } in Some r) (sym named)));
      unended = ap (λ (t : Takers). t.unended) is ∙ (ap (λ (m : ByAge). remove m run.age) k.unended ∙ ap (λ (x : Option Run). left_by x (unended_takers start older)) (sym at));
      live = ap (λ (t : Takers). t.live) is ∙ (ap (λ (l : Option Rival). cond (takes_ticket run) None l) k.live ∙ ap (λ (x : Option Run). cond (holds_of takes_ticket x) None (live_taker start older)) (sym at));
      committed = ap (λ (t : Takers). t.committed) is ∙ (ap (λ (l : Option Rival). with_committed run l) k.committed ∙ ap (λ (x : Option Run). committed_by has_ticket x (youngest_committed has_ticket start older)) (sym at));
    }

pub follows_calls : (kind : Engine) → IsByAge kind → FollowsCalls kind
follows_calls kind by old new was now start older (Begins tid n) run is_kind begun right line at k noted = absurd noted
follows_calls kind by old new was now start older (Acts tid act (Wait t)) run is_kind begun right line at k noted = ages_same old new was now start older _ (λ key. refl) refl refl refl k noted.0 noted.1
follows_calls kind by old new was now start older (Acts tid act (Refused why)) run is_kind begun right line at k noted = ages_ended old new was now start older _ run at (λ key. refl) refl refl refl k noted.0 noted.1
follows_calls kind by old new was now start older (Acts tid (Read key) (Value value)) run is_kind begun right line at k noted = ages_read old new was now start older tid key value run at k noted.0 noted.1
follows_calls kind by old new was now start older (Acts tid (Write key value) Done) run is_kind begun right line at k noted = ages_wrote old new was now start older tid key value run at k noted.0 noted.1
follows_calls kind by old new was now start older (Acts tid (Read key) Done) run is_kind begun right line at k noted = absurd noted
follows_calls kind by old new was now start older (Acts tid (Read key) (Ticket n)) run is_kind begun right line at k noted = absurd noted
follows_calls kind by old new was now start older (Acts tid (Read key) Unknown) run is_kind begun right line at k noted = absurd noted
follows_calls kind by old new was now start older (Acts tid (Write key v) (Value value)) run is_kind begun right line at k noted = absurd noted
follows_calls kind by old new was now start older (Acts tid (Write key v) (Ticket n)) run is_kind begun right line at k noted = absurd noted
follows_calls kind by old new was now start older (Acts tid (Write key v) Unknown) run is_kind begun right line at k noted = absurd noted
follows_calls kind by old new was now start older (Takes tid (Wait t)) run is_kind begun right line at k noted = ages_same old new was now start older _ (λ key. refl) refl refl refl k noted.0 noted.1
follows_calls kind by old new was now start older (Takes tid (Refused why)) run is_kind begun right line at k noted = ages_ended old new was now start older _ run at (λ key. refl) refl refl refl k noted.0 noted.1
follows_calls kind by old new was now start older (Takes tid (Ticket n)) run is_kind begun right line at k noted = ages_took old new was now start older tid n run at k noted.0 noted.1
follows_calls kind by old new was now start older (Takes tid (Value value)) run is_kind begun right line at k noted = absurd noted
follows_calls kind by old new was now start older (Takes tid Done) run is_kind begun right line at k noted = absurd noted
follows_calls kind by old new was now start older (Takes tid Unknown) run is_kind begun right line at k noted = absurd noted
follows_calls kind by old new was now start older (Seals tid n) run is_kind begun right line at k noted = ages_sealed old new was now start older tid n run at k noted.0 noted.1
follows_calls kind by old new was now start older (Refuses tid why) run is_kind begun right line at k noted = ages_ended old new was now start older _ run at (λ key. refl) refl refl refl k noted.0 noted.1
follows_calls kind by old new was now start older (Commits tid) run is_kind begun right line at k noted = ages_committed kind old new was now start older tid run by is_kind begun right at k noted.0 noted.1
follows_calls kind by old new was now start older (Aborts tid) run is_kind begun right line at k noted = ages_ended old new was now start older _ run at (λ key. refl) refl refl refl k noted.0 noted.1

pub follows_begins : FollowsBegins
follows_begins = record {
  begins = λ ages takers start older tid n k. record { keys = λ key. k.keys key; unended = k.unended; live = k.live; committed = k.committed };
  back = λ ages takers start older tid n k. record { keys = λ key. k.keys key; unended = k.unended; live = k.live; committed = k.committed };
}

pub follows_unseals : (kind : Engine) → IsByAge kind → FollowsUnseals kind
follows_unseals kind by ages was now start older tid n run is_kind begun right at k is = record {
  keys = λ key. k.keys key;
  unended = ap (λ (t : Takers). t.unended) is ∙ k.unended;
  live = ap (λ (t : Takers). t.live) is
      ∙ by_ticket (has_ticket run) refl (k.live ∙ ap (λ (o : Option Run). cond (holds_of has_ticket o) None (live_taker start older)) at);
  committed = ap (λ (t : Takers). t.committed) is ∙ k.committed;
}
  where
    was_live : run.sealed ≡ None
    was_live = ap (λ (r : Run). r.sealed) (same_Some run right.0.0 (sym at ∙ right.0.1.0.0)) ∙ right.0.1.0.1

    by_ticket : (b : Bool) → has_ticket run ≡ b → was.live ≡ cond b None (live_taker start older) → cond b (Some (rival_by age_of run)) was.live ≡ live_taker start older
    by_ticket true has was_is =
        let takes : takes_ticket run ≡ true = ap (λ (b : Bool). b && not (is_sealed run)) has ∙ ap (λ (o : Option ℕ). not (is_some o)) was_live in
        ap (λ (t : Tid). let r : Rival = record { tid = t; rank = run.age } in Some r) (tid_is start older right.1 tid run at)
        ∙ sym (live_of kind start older tid run by is_kind begun right.1 at takes)
    by_ticket false has was_is = was_is

pub follows_starts : FollowsStarts
follows_starts ages takers start are is = record {
  keys = λ key. are key;
  unended = ap (λ (t : Takers). t.unended) is;
  live = ap (λ (t : Takers). t.live) is;
  committed = ap (λ (t : Takers). t.committed) is;
}

-- the lines that end a run otherwise than by commit
pub noted_ends : (run : Run) (old new : Ages) (was now : Takers) (line : EngineLine) → gives_up line ≡ true → AreNow new (where_written run unwritten old) → now ≡ without_taker run was → IsNoted run old was line new now
noted_ends run old new was now (Begins tid n) h are is = cc
noted_ends run old new was now (Acts tid act (Refused why)) h are is = (are, is)
noted_ends run old new was now (Acts tid act (Wait by)) h are is = cc
noted_ends run old new was now (Acts tid act (Ticket n)) h are is = cc
noted_ends run old new was now (Acts tid act (Value v)) h are is = cc
noted_ends run old new was now (Acts tid act Done) h are is = cc
noted_ends run old new was now (Acts tid act Unknown) h are is = cc
noted_ends run old new was now (Takes tid (Refused why)) h are is = (are, is)
noted_ends run old new was now (Takes tid (Wait by)) h are is = cc
noted_ends run old new was now (Takes tid (Ticket n)) h are is = cc
noted_ends run old new was now (Takes tid (Value v)) h are is = cc
noted_ends run old new was now (Takes tid Done) h are is = cc
noted_ends run old new was now (Takes tid Unknown) h are is = cc
noted_ends run old new was now (Seals tid n) h are is = cc
noted_ends run old new was now (Refuses tid why) h are is = (are, is)
noted_ends run old new was now (Commits tid) h are is = cc
noted_ends run old new was now (Aborts tid) h are is = (are, is)

-- an answer that stops a run is a wait, or that it is late
pub stop_shape : (youngest older : Option Rival) (stop : Reply) → stop_by youngest older ≡ Some stop → (by : Tid) × ((stop ≡ Wait by) ⊎ (stop ≡ Refused (Late by)))
stop_shape None None stop e = cc
stop_shape None (Some older) stop e = (older.tid, inl (let is : Wait older.tid ≡ stop = cc in sym is))
stop_shape (Some youngest) older stop e = (youngest.tid, inr (let is : Refused (Late youngest.tid) ≡ stop = cc in sym is))
