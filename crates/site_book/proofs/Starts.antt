-- A book that starts follows no lines, and knows who committed.
use Rattle.std.proofs.Common.{◌≡◌, Bool, true, false, cond, is_some, Option, Some, None, List, [], ◌∷◌, map, refl, sym, ap, ◌∙◌}
use Rattle.std.specs.FinMap.{empty, get, insert, get-empty}
use Rattle.mdb_base.specs.declared.names.Tid.{Tid}
use Rattle.mdb_base.specs.Names.{same_tid, tid_cmp}
use Rattle.fed_rules.specs.declared.runs.Kept.{Kept}
use Rattle.fed_rules.specs.Runs.{Run, restored, restored_at}
use Rattle.site_book.specs.declared.progress.Progress.TheVariants as Is
use Rattle.site_book.specs.Book.{Attempts, with_doubtful}
use Rattle.site_book.specs.Follows.{progress_by}
use Rattle.site_book.specs.Laws.{StartsWell}
use Rattle.site_book.proofs.Followed.{get-put_tid}

abbrev tids_of : List Kept → List Tid
tids_of = map (λ (kept : Kept). kept.tid)

doubtful-found : (kepts : List Kept) (m : Attempts) (u : Tid) → get (with_doubtful (tids_of kepts) m) u ≡ cond (is_some (restored_at kepts u)) (Some Is.Sealed) (get m u)
doubtful-found [] m u = refl
doubtful-found (kept ∷ more) m u =
    doubtful-found more (insert m kept.tid Is.Sealed) u
    ∙ (ap (cond (is_some (restored_at more u)) (Some Is.Sealed)) (get-put_tid m kept.tid u Is.Sealed) ∙ by_tests (same_tid kept.tid u) (restored_at more u))
  where
    by_tests : (b : Bool) (o : Option Run) → cond (is_some o) (Some Is.Sealed) (cond b (Some Is.Sealed) (get m u)) ≡ cond (is_some (cond b (Some (restored kept)) o)) (Some Is.Sealed) (get m u)
    by_tests true None = refl
    by_tests true (Some run) = refl
    by_tests false o = refl

-- a restored run is sealed
restored_sealed : (kepts : List Kept) (u : Tid) → progress_by (restored_at kepts u) false ≡ cond (is_some (restored_at kepts u)) (Some Is.Sealed) None
restored_sealed [] u = refl
restored_sealed (kept ∷ more) u = by_test (same_tid kept.tid u) (restored_sealed more u)
  where
    by_test : (b : Bool) → progress_by (restored_at more u) false ≡ cond (is_some (restored_at more u)) (Some Is.Sealed) None →
        progress_by (cond b (Some (restored kept)) (restored_at more u)) false ≡ cond (is_some (cond b (Some (restored kept)) (restored_at more u))) (Some Is.Sealed) None
    by_test true rest = refl
    by_test false rest = rest

pub starts_well : StartsWell
starts_well old new start committed doubtful made listed =
    record {
      attempts = λ u. ap (λ (m : Attempts). get m u) (ap (λ b. b.attempts) made ∙ ap (λ (ds : List Tid). with_doubtful ds empty) listed)
          ∙ (doubtful-found start.doubtful empty u
          ∙ (ap (cond (is_some (restored_at start.doubtful u)) (Some Is.Sealed)) (get-empty tid_cmp u) ∙ sym (restored_sealed start.doubtful u)));
    }
