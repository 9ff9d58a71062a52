-- A multiversion engine through each line: its book, the ages, the unended runs and the old versions.
use Rattle.std.proofs.Common.{◌≡◌, ℕ, ◌+◌, ◌≤◌, true, false, Option, Some, None, is_some, List, ◌∷◌, refl, sym, ap, ◌∙◌, subst, arith}
use Rattle.std.specs.FinMap.{insert, remove}
use Rattle.mdb_base.specs.declared.names.Engine.TheVariants.{Multiversion}
use Rattle.mdb_base.specs.declared.names.Tid.{Tid}
use Rattle.mdb_base.specs.declared.replies.Reply.TheVariants.{Done, Value, Ticket, Wait, Refused, Unknown}
use Rattle.fed_rules.specs.Runs.{Start, EngineLine, Begins, Acts, Takes, Seals, Refuses, Commits, Aborts, Run, tid_of, begun, changed, gives_up, run_at, counter}
use Rattle.fed_rules.specs.EngineLines.{IsFree, IsRightLine}
use Rattle.engine_laws.proofs.ForCallers.{multiversion_by_age}
use Rattle.run_book.specs.Ages.{Ages, ages_of, unwritten}
use Rattle.run_book.specs.Takers.{Takers, without_taker, ByAge}
use Rattle.run_book.specs.AgeLaws.{AreNow, IsNoted, where_written}
use Rattle.run_book.specs.AgeLines.{KeepsAges}
use Rattle.run_book.proofs.ForCallers.{age-le, ages-differ, calls_well, ends-none, follows_begins, follows_calls, gives_up-ends, run_at-held}
use Rattle.run_book.specs.Held.{Held, held_in}
use Rattle.run_book.specs.Book.{Book, begins, drops, commits}
use Rattle.run_book.specs.Keeps.{Keeps}
use Rattle.run_book.specs.Laws.{IsCalled}
use Rattle.multiversion_engine.specs.declared.engine.MultiversionEngine.{MultiversionEngine}
use Rattle.multiversion_engine.specs.OldVersions.{Olds, Prunes, writes_key}
use Rattle.multiversion_engine.specs.Unended.{AreUnended}
use Rattle.multiversion_engine.specs.Versions.{AreVersions}
use Rattle.multiversion_engine.specs.Stands.{Stands, EndsRun}
use Rattle.multiversion_engine.proofs.Ages.{ChangesOne, unended_on, unended_more, unended_less}
use Rattle.multiversion_engine.proofs.Commits.{versions_commit}
use Rattle.multiversion_engine.proofs.Versions.{is_commit, NotesItsWrite, versions_next}
use Rattle.fed_rules.specs.Runs.{number}
use Rattle.fed_rules.proofs.ForCallers.{run_at_other, run_at_own}

-- a call that changes nothing, but that it may leave more room, and old versions that serve as well
pub stands_kept : (old new : MultiversionEngine) (start : Start) (lines : List EngineLine) → Stands old start lines → new.book.book ≡ old.book.book → old.book.room ≤ new.book.room →
    AreNow new.accesses (ages_of old.accesses) → new.takers ≡ old.takers → new.unended ≡ old.unended → AreVersions new.olds start lines → Stands new start lines
stands_kept old new start lines s book room accesses takers unended versions = record {
  keeps = record { keeps = subst (λ (b : Book). Keeps Multiversion b start lines) (sym book) s.keeps.keeps; room = let had = s.keeps.room in omega arith };
  ages = record {
    keys = λ key. accesses key ∙ s.ages.keys key;
    unended = ap (λ (t : Takers). t.unended) takers ∙ s.ages.unended;
    live = ap (λ (t : Takers). t.live) takers ∙ s.ages.live;
    committed = ap (λ (t : Takers). t.committed) takers ∙ s.ages.committed;
  };
  unended = subst (λ (m : ByAge). AreUnended m (run_at start lines)) (sym unended) s.unended;
  versions = versions;
}

-- one run changes at a line
pub changes : (start : Start) (older : List EngineLine) (line : EngineLine) (was is : Option Run) → run_at start older (tid_of line) ≡ was → changed line was ≡ is →
    ChangesOne (run_at start older) (run_at start (line ∷ older)) (tid_of line) was is
changes start older line was is at to = record { before = at; after = run_at_own start older line was at ∙ to; others = run_at_other start older line }

-- a line through which its run goes on
pub stands_on : (old new : MultiversionEngine) (start : Start) (older : List EngineLine) (line : EngineLine) (run now : Run) → Stands old start older → IsRightLine start older line →
    run_at start older (tid_of line) ≡ Some run → changed line (Some run) ≡ Some now → now.age ≡ run.age → is_commit line ≡ false → IsCalled old.book line new.book →
    IsNoted run old.accesses old.takers line new.accesses new.takers → new.unended ≡ old.unended → AreVersions new.olds start older → NotesItsWrite new.olds start older line → Stands new start (line ∷ older)
stands_on old new start older line run now s right at to aged other called noted unended versions notes =
    let k = s.keeps.keeps in
    record {
      keeps = calls_well Multiversion old.book new.book start older line s.keeps right called;
      ages = follows_calls Multiversion multiversion_by_age old.accesses new.accesses old.takers new.takers start older line run k.of_kind k.starts k.right right at s.ages noted;
      unended = subst (λ (m : ByAge). AreUnended m (run_at start (line ∷ older))) (sym unended)
          (unended_on old.unended (run_at start older) (run_at start (line ∷ older)) (tid_of line) run now (changes start older line (Some run) (Some now) at to) aged s.unended);
      versions = versions_next new.olds start older line k.starts (right, k.right) other notes versions;
    }

-- no other run is of the age of one
pub of_one_age : (old : MultiversionEngine) (start : Start) (older : List EngineLine) (t : Tid) (run : Run) → Stands old start older → run_at start older t ≡ Some run →
    (u : Tid) (other : Run) → run_at start older u ≡ Some other → other.age ≡ run.age → u ≡ t
of_one_age old start older t run s at u other there same = let k = s.keeps.keeps in ages-differ start older u t other run k.starts k.right there at same

-- what the end of a run leaves of the book, the ages and the takers
record EndsSo (old new : MultiversionEngine) (tid : Tid) (run : Run) : Type 0 where
  book : new.book.book ≡ drops tid old.book.book
  accesses : AreNow new.accesses (where_written run unwritten old.accesses)
  takers : new.takers ≡ without_taker run old.takers

-- such a line is one that the book and the ages know
called_ends : (old new : MultiversionEngine) (line : EngineLine) (run : Run) → gives_up line ≡ true → EndsSo old new (tid_of line) run →
    IsCalled old.book line new.book × IsNoted run old.accesses old.takers line new.accesses new.takers × (is_commit line ≡ false)
called_ends old new (Begins tid n) run h so = cc
called_ends old new (Acts tid act (Refused why)) run h so = (so.book, (so.accesses, so.takers), refl)
called_ends old new (Acts tid act (Wait by)) run h so = cc
called_ends old new (Acts tid act (Ticket n)) run h so = cc
called_ends old new (Acts tid act (Value v)) run h so = cc
called_ends old new (Acts tid act Done) run h so = cc
called_ends old new (Acts tid act Unknown) run h so = cc
called_ends old new (Takes tid (Refused why)) run h so = (so.book, (so.accesses, so.takers), refl)
called_ends old new (Takes tid (Wait by)) run h so = cc
called_ends old new (Takes tid (Ticket n)) run h so = cc
called_ends old new (Takes tid (Value v)) run h so = cc
called_ends old new (Takes tid Done) run h so = cc
called_ends old new (Takes tid Unknown) run h so = cc
called_ends old new (Seals tid n) run h so = cc
called_ends old new (Refuses tid why) run h so = (so.book, (so.accesses, so.takers), refl)
called_ends old new (Commits tid) run h so = cc
called_ends old new (Aborts tid) run h so = (so.book, (so.accesses, so.takers), refl)

-- such a line writes nothing
writes_nothing : (olds : Olds) (start : Start) (older : List EngineLine) (line : EngineLine) → gives_up line ≡ true → NotesItsWrite olds start older line
writes_nothing olds start older line up tid key value is = let bad : false ≡ true = sym (ap (λ (l : EngineLine). gives_up l) is) ∙ up in cc

pub ends_run : (old new : MultiversionEngine) (tid : Tid) (held : Held) → held_in old.book.book.runs tid ≡ Some held → new.book.book ≡ drops tid old.book.book →
    AreNow new.accesses (where_written held.run unwritten old.accesses) → new.takers ≡ without_taker held.run old.takers → new.unended ≡ remove old.unended held.run.age → new.olds ≡ old.olds → EndsRun old tid new
ends_run old new tid held found book accesses takers unended olds start older line s right ends =
    let k = s.keeps.keeps in
    let run = held.run in
    let at = ap (λ (t : Tid). run_at start older t) ends.0 ∙ run_at-held Multiversion old.book.book start older tid held k found in
    let so : EndsSo old new (tid_of line) run = record { book = book ∙ ap (λ (t : Tid). drops t old.book.book) (sym ends.0); accesses = accesses; takers = takers } in
    let known = called_ends old new line run ends.1 so in
    record {
      keeps = calls_well Multiversion old.book new.book start older line s.keeps right known.0;
      ages = follows_calls Multiversion multiversion_by_age old.accesses new.accesses old.takers new.takers start older line run k.of_kind k.starts k.right right at s.ages known.1;
      unended = subst (λ (m : ByAge). AreUnended m (run_at start (line ∷ older))) (sym unended)
          (unended_less old.unended (run_at start older) (run_at start (line ∷ older)) (tid_of line) run (changes start older line (Some run) None at (ends-none line (Some run) (gives_up-ends line ends.1)))
          (of_one_age old start older (tid_of line) run s at) s.unended);
      versions = subst (λ (o : Olds). AreVersions o start (line ∷ older)) (sym olds)
          (versions_next old.olds start older line k.starts (right, k.right) known.2 (writes_nothing old.olds start older line ends.1) s.versions);
    }

-- a run begins
pub stands_begins : (old new : MultiversionEngine) (start : Start) (older : List EngineLine) (tid : Tid) (n : ℕ) → Stands old start older → IsFree start older tid → n ≡ old.book.book.counters.counter + 1 →
    new.book.book ≡ begins tid old.book.book → old.book.room ≤ new.book.room → new.accesses ≡ old.accesses → new.takers ≡ old.takers → new.unended ≡ insert old.unended n tid → new.olds ≡ old.olds → Stands new start (Begins tid n ∷ older)
stands_begins old new start older tid n s free number book room accesses takers unended olds =
    let k = s.keeps.keeps in
    let line = Begins tid n in
    let next : n ≡ counter start older + 1 = number ∙ ap (λ m. m.counter + 1) k.counters in
    let right : IsRightLine start older line = (free, next) in
    record {
      keeps = calls_well Multiversion old.book new.book start older line s.keeps right (book, room);
      ages = subst (λ (a : Ages). KeepsAges a new.takers start (line ∷ older)) (sym accesses)
          (subst (λ (t : Takers). KeepsAges old.accesses t start (line ∷ older)) (sym takers) (follows_begins.begins old.accesses old.takers start older tid n s.ages));
      unended = subst (λ (m : ByAge). AreUnended m (run_at start (line ∷ older))) (sym unended)
          (unended_more old.unended (run_at start older) (run_at start (line ∷ older)) tid (begun tid n) (changes start older line None (Some (begun tid n)) free refl)
          (λ u run at. let le = age-le start older u run k.starts k.right at in omega arith) s.unended);
      versions = subst (λ (o : Olds). AreVersions o start (line ∷ older)) (sym olds)
          (versions_next old.olds start older line k.starts (right, k.right) refl (λ t key value is. cc) s.versions);
    }

-- a run commits
pub stands_commits : (old new : MultiversionEngine) (start : Start) (older : List EngineLine) (tid : Tid) (held : Held) → Stands old start older → IsRightLine start older (Commits tid) →
    held_in old.book.book.runs tid ≡ Some held → new.book.book ≡ commits tid old.book.book → IsNoted held.run old.accesses old.takers (Commits tid) new.accesses new.takers →
    new.unended ≡ remove old.unended held.run.age → Prunes new.unended (writes_key held.run.acts) (number held.run) old.olds new.olds → Stands new start (Commits tid ∷ older)
stands_commits old new start older tid held s right found book noted unended pruned =
    let k = s.keeps.keeps in
    let line = Commits tid in
    let run = held.run in
    let at = run_at-held Multiversion old.book.book start older tid held k found in
    let left = subst (λ (m : ByAge). AreUnended m (run_at start (line ∷ older))) (sym unended)
    (unended_less old.unended (run_at start older) (run_at start (line ∷ older)) tid run (changes start older line (Some run) None at refl) (of_one_age old start older tid run s at) s.unended) in
    record {
      keeps = calls_well Multiversion old.book new.book start older line s.keeps right book;
      ages = follows_calls Multiversion multiversion_by_age old.accesses new.accesses old.takers new.takers start older line run k.of_kind k.starts k.right right at s.ages noted;
      unended = left;
      versions = versions_commit old.olds start older tid run k.of_kind k.starts (right, k.right) at s.versions new.olds new.unended pruned
          (λ u r there. ap (λ (o : Option Tid). is_some o) (left.back u r there));
    }
