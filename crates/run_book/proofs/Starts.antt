-- The book of an epoch that starts.
use Rattle.std.proofs.Common.{◌≡◌, ℕ, Option, Some, None, List, [], ◌∷◌, inl, inr, refl, sym, ap, ◌∙◌}
use Rattle.std.specs.FinMap.{empty, get-empty}
use Rattle.std.proofs.lemmas.Bool.{cond-true, cond-false, cases_Bool}
use Rattle.mdb_base.specs.declared.names.Engine.{Engine}
use Rattle.mdb_base.specs.declared.names.Tid.{Tid}
use Rattle.mdb_base.specs.declared.rows.Put.{Put}
use Rattle.mdb_base.specs.Names.{same_tid, tid_cmp}
use Rattle.mdb_base.specs.Rising.{IsRising}
use Rattle.mdb_base.specs.Words.{Each, map_some}
use Rattle.fed_rules.specs.declared.runs.Kept.{Kept}
use Rattle.fed_rules.specs.Runs.{Run, restored, restored_at}
use Rattle.fed_rules.specs.EngineLines.{IsStart, AreApart, AllApart}
use Rattle.engine_contract.specs.Calls.{start_from}
use Rattle.mdb_base.proofs.ForCallers.{same_tid-equal, same_tid-sym}
use Rattle.run_book.specs.declared.counters.Counters.{Counters}
use Rattle.run_book.specs.Held.{Held, Runs, with_run}
use Rattle.run_book.specs.Book.{with_restored, started}
use Rattle.run_book.specs.Keeps.{Keeps, run_in}
use Rattle.run_book.proofs.Kept.{get-first}
use Rattle.run_book.proofs.RunMaps.{held_in-with_run, held_in-put_other}

-- nothing is restored twice
restored_none : (kept : Kept) (more : List Kept) → Each (AreApart kept) more → restored_at more kept.tid ≡ None
restored_none kept [] apart = refl
restored_none kept (other ∷ more) apart =
    cond-false _ _ _ (same_tid-sym other.tid kept.tid ∙ apart.0.tids) ∙ restored_none kept more apart.1

-- the first of two, where it is there
abbrev pub either_run : Option Run → Option Run → Option Run
either_run None o = o
either_run (Some run) o = Some run

run_in-restored : (counters : Counters) (doubtful : List Kept) (runs : Runs) (u : Tid) → AllApart doubtful → run_in (with_restored counters doubtful runs) u ≡ either_run (restored_at doubtful u) (run_in runs u)
run_in-restored counters [] runs u apart = refl
run_in-restored counters (kept ∷ more) runs u apart =
    let held : Held = record { run = restored kept; counters = counters } in
    let rest = run_in-restored counters more (with_run kept.tid held runs) u apart.1 in
    let mapped = λ (o : Option Held). map_some (λ (h : Held). h.run) o in
    elim (cases_Bool (same_tid kept.tid u)) [
      | inl e ↦
          let none : restored_at more u ≡ None = ap (λ (t : Tid). restored_at more t) (sym (same_tid-equal kept.tid u e)) ∙ restored_none kept more apart.0 in
          rest ∙ (ap (λ (o : Option Run). either_run o (run_in (with_run kept.tid held runs) u)) none
          ∙ (ap mapped (held_in-with_run runs kept.tid u held ∙ cond-true _ _ _ e)
          ∙ sym (ap (λ (o : Option Run). either_run o (run_in runs u)) (cond-true (same_tid kept.tid u) (Some (restored kept)) (restored_at more u) e))))
      | inr e ↦
          rest ∙ (ap (λ (o : Option Held). either_run (restored_at more u) (mapped o)) (held_in-put_other runs kept.tid u held e)
          ∙ sym (ap (λ (o : Option Run). either_run o (run_in runs u)) (cond-false (same_tid kept.tid u) (Some (restored kept)) (restored_at more u) e)))
    ]

or_nothing : (o : Option Run) → either_run o None ≡ o
or_nothing None = refl
or_nothing (Some run) = refl

none_first : (u : Tid) → run_in empty u ≡ None
none_first u = ap (λ (o : Option Held). map_some (λ h. h.run) o) (get-empty tid_cmp u)

-- an epoch starts
pub keeps_starts : (kind : Engine) (rows : List Put) (doubtful : List Kept) (counter published : ℕ) (owner : Option Tid) →
    IsRising (λ row. row.key.0) rows → IsStart (start_from kind rows doubtful counter published owner) →
    Keeps kind (started rows doubtful (record { counter = counter; published = published; owner = owner })) (start_from kind rows doubtful counter published owner) []
keeps_starts kind rows doubtful counter published owner rising starts =
    let counters : Counters = record { counter = counter; published = published; owner = owner } in
    record {
      of_kind = refl;
      starts = starts;
      right = tt;
      rising = rising;
      versions = get-first rows;
      runs = λ u. run_in-restored counters doubtful empty u starts.apart ∙ (ap (either_run (restored_at doubtful u)) (none_first u) ∙ or_nothing (restored_at doubtful u));
      counters = refl;
      before = λ u h n m found sealed noted. cc;
    }
