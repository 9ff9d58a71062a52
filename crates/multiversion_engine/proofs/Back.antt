-- A multiversion engine whose newest begin or sealing is taken back.
use Rattle.std.proofs.Common.{◌≡◌, ℕ, ◌+◌, ◌≤◌, cond, Some, None, List, ◌∷◌, refl, sym, subst}
use Rattle.std.specs.FinMap.{remove}
use Rattle.mdb_base.specs.declared.names.Engine.TheVariants.{Multiversion}
use Rattle.mdb_base.specs.declared.names.Tid.{Tid}
use Rattle.fed_rules.specs.Runs.{Start, EngineLine, Begins, Seals, Run, begun, run_at, has_ticket}
use Rattle.fed_rules.specs.Replies.{age_of}
use Rattle.engine_laws.proofs.ForCallers.{multiversion_by_age}
use Rattle.fed_rules.proofs.ForCallers.{run_at_other, run_at_own}
use Rattle.run_book.specs.Ages.{Ages}
use Rattle.run_book.specs.Takers.{Takers, ByAge}
use Rattle.run_book.specs.AgeLines.{KeepsAges}
use Rattle.run_book.proofs.ForCallers.{ages-differ, follows_begins, follows_unseals, unbegins_well, unseals_well}
use Rattle.run_book.specs.Rivals.{rival_by}
use Rattle.run_book.specs.Held.{held_in}
use Rattle.run_book.specs.Book.{unbegins, unseals, taken_by}
use Rattle.multiversion_engine.specs.declared.engine.MultiversionEngine.{MultiversionEngine}
use Rattle.multiversion_engine.specs.OldVersions.{Olds}
use Rattle.multiversion_engine.specs.Unended.{AreUnended}
use Rattle.multiversion_engine.specs.Versions.{AreVersions}
use Rattle.multiversion_engine.specs.Stands.{Stands}
use Rattle.multiversion_engine.proofs.Ages.{unended_on, unended_less}
use Rattle.multiversion_engine.proofs.TakenBack.{versions_unseal, versions_unbegin}

pub stands_unbegun : (old new : MultiversionEngine) (start : Start) (older : List EngineLine) (tid : Tid) (n : ℕ) → Stands old start (Begins tid n ∷ older) → new.book.book ≡ unbegins tid old.book.book →
    old.book.room ≤ new.book.room → new.accesses ≡ old.accesses → new.takers ≡ old.takers → new.unended ≡ remove old.unended n → new.olds ≡ old.olds → Stands new start older
stands_unbegun old new start older tid n s book room accesses takers unended olds =
    let k = s.keeps.keeps in
    let line = Begins tid n in
    let now = run_at_own start older line None k.right.0.0 in
    record {
      keeps = unbegins_well Multiversion old.book new.book start older tid n s.keeps book room;
      ages = subst (λ (a : Ages). KeepsAges a new.takers start older) (sym accesses)
          (subst (λ (t : Takers). KeepsAges old.accesses t start older) (sym takers) (follows_begins.back old.accesses old.takers start older tid n s.ages));
      unended = subst (λ (m : ByAge). AreUnended m (run_at start older)) (sym unended)
          (unended_less old.unended (run_at start (line ∷ older)) (run_at start older) tid (begun tid n)
          (record { before = now; after = k.right.0.0; others = λ u e. sym (run_at_other start older line u e) })
          (λ u run at same. ages-differ start (line ∷ older) u tid run (begun tid n) k.starts k.right at now same) s.unended);
      versions = subst (λ (o : Olds). AreVersions o start older) (sym olds) (versions_unbegin old.olds start older tid n k.right s.versions);
    }

pub stands_unsealed : (old new : MultiversionEngine) (start : Start) (older : List EngineLine) (tid : Tid) (n : ℕ) (run : Run) → Stands old start (Seals tid n ∷ older) → run_at start older tid ≡ Some run →
    new.book.book ≡ unseals tid old.book.book → old.book.room ≤ new.book.room + taken_by (held_in old.book.book.runs tid) → new.accesses ≡ old.accesses →
    new.takers ≡ record old.takers { live = cond (has_ticket run) (Some (rival_by age_of run)) old.takers.live } → new.unended ≡ old.unended → new.olds ≡ old.olds → Stands new start older
stands_unsealed old new start older tid n run s at book room accesses takers unended olds =
    let k = s.keeps.keeps in
    let line = Seals tid n in
    let sealed : Run = record run { sealed = Some n } in
    record {
      keeps = unseals_well Multiversion old.book new.book start older tid n s.keeps book room;
      ages = subst (λ (a : Ages). KeepsAges a new.takers start older) (sym accesses)
          (follows_unseals Multiversion multiversion_by_age old.accesses old.takers new.takers start older tid n run k.of_kind k.starts k.right at s.ages takers);
      unended = subst (λ (m : ByAge). AreUnended m (run_at start older)) (sym unended)
          (unended_on old.unended (run_at start (line ∷ older)) (run_at start older) tid sealed run
          (record { before = run_at_own start older line (Some run) at; after = at; others = λ u e. sym (run_at_other start older line u e) }) refl s.unended);
      versions = subst (λ (o : Olds). AreVersions o start older) (sym olds) (versions_unseal old.olds start older tid n s.versions);
    }
