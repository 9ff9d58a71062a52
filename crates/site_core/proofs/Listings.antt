-- Lists of attempts that are read off a book.
use Rattle.std.proofs.Common.{◌≡◌, ◌↔◌, ℕ, zero, suc, ◌+◌, ◌<◌, Bool, true, false, cond, not, is_some, Option, Some, List, [], ◌∷◌, ◌++◌, length, take, get_or, inl, inr, map, refl, sym, ◌∙◌, ap, subst, add-one, arith}
use Rattle.mdb_base.specs.declared.names.Tid.{Tid}
use Rattle.mdb_base.specs.Names.{same_tid, tid_before}
use Rattle.mdb_base.specs.Words.{Among, Each, map_some}
use Rattle.mdb_base.proofs.ForCallers.{same_tid-equal, same_tid-refl}
use Rattle.fed_rules.specs.declared.runs.Doubt.{Doubt}
use Rattle.fed_rules.specs.Runs.{Start, EngineLine}
use Rattle.fed_rules.specs.SitePast.{SitePast, records}
use Rattle.fed_rules.specs.SiteRecords.{Home, doubt_of}
use Rattle.actor_store.specs.declared.store.Standing.{Standing}
use Rattle.actor_store.specs.declared.store.Standing.TheVariants.{Up, Down, Failing}
use Rattle.actor_store.specs.Store.{is_up}
use Rattle.journal_sums.specs.Starts.{doubt_held}
use Rattle.prepared_state.specs.Book.{IsByTid, doubt_about, stands_before}
use Rattle.site_book.specs.Listing.{AreRising, Lists}
use Rattle.site_core.specs.declared.site.SiteCore.{SiteCore}
use Rattle.site_core.specs.Stands.{IsIn}

-- two tests that agree list the same attempts
pub lists_alike : (test other : Tid → Bool) (tids : List Tid) → ((tid : Tid) → test tid ≡ other tid) → Lists test tids → Lists other tids
lists_alike test other tids same l = record {
  rising = l.rising;
  members = λ tid. ((λ i. sym (same tid) ∙ (l.members tid).0 i), (λ e. (l.members tid).1 (same tid ∙ e)));
}

abbrev tid_of : Doubt → Tid
tid_of doubt = doubt.tid

each_tid : (tid : Tid) (doubts : List Doubt) (first : Doubt) → first.tid ≡ tid → Each (λ later. stands_before first later ≡ true) doubts → Each (λ later. tid_before tid later ≡ true) (map tid_of doubts)
each_tid tid [] first e h = tt
each_tid tid (d ∷ doubts) first e h = (ap (λ t. tid_before t d.tid) (sym e) ∙ h.0, each_tid tid doubts first e h.1)

doubts_rise : (doubts : List Doubt) → IsByTid doubts → AreRising (map tid_of doubts)
doubts_rise [] h = tt
doubts_rise (d ∷ doubts) h = (each_tid d.tid doubts d refl h.0, doubts_rise doubts h.1)

about_found : (tid : Tid) (doubts : List Doubt) → Among (λ listed. listed ≡ tid) (map tid_of doubts) → is_some (doubt_about tid doubts) ≡ true
about_found tid [] i = absurd i
about_found tid (d ∷ doubts) (inl same) = ap (λ b. is_some (cond b (Some d) (doubt_about tid doubts))) (ap (λ t. same_tid t tid) same ∙ same_tid-refl tid)
about_found tid (d ∷ doubts) (inr i) = by_test (same_tid d.tid tid) (about_found tid doubts i)
  where
    by_test : (b : Bool) → is_some (doubt_about tid doubts) ≡ true → is_some (cond b (Some d) (doubt_about tid doubts)) ≡ true
    by_test true e = refl
    by_test false e = e

found_about : (tid : Tid) (doubts : List Doubt) → is_some (doubt_about tid doubts) ≡ true → Among (λ listed. listed ≡ tid) (map tid_of doubts)
found_about tid [] e = cc
found_about tid (d ∷ doubts) e = by_test (same_tid d.tid tid) refl e (found_about tid doubts)
  where
    by_test : (b : Bool) → same_tid d.tid tid ≡ b → is_some (cond b (Some d) (doubt_about tid doubts)) ≡ true → (is_some (doubt_about tid doubts) ≡ true → Among (λ listed. listed ≡ tid) (map tid_of doubts)) → Among (λ listed. listed ≡ tid) (map tid_of (d ∷ doubts))
    by_test true same e rest = inl (same_tid-equal d.tid tid same)
    by_test false same e rest = inr (rest e)

-- the attempts of doubts by rising attempt
pub lists_doubts : (doubts : List Doubt) → IsByTid doubts → Lists (λ tid. is_some (doubt_about tid doubts)) (map (λ (doubt : Doubt). doubt.tid) doubts)
lists_doubts doubts order = record { rising = doubts_rise doubts order; members = λ tid. (about_found tid doubts, found_about tid doubts) }

-- one doubt more
pub tids_more : (doubts : List Doubt) (i : ℕ) (d : Doubt) → i < length doubts → map tid_of (take (i + 1) doubts) ≡ map tid_of (take i doubts) ++ (get_or doubts i d).tid ∷ []
tids_more doubts i d lt = subst (λ k. map tid_of (take k doubts) ≡ map tid_of (take i doubts) ++ (get_or doubts i d).tid ∷ []) (sym (add-one i)) (by_place doubts i lt)
  where
    by_place : (ds : List Doubt) (k : ℕ) → k < length ds → map tid_of (take (suc k) ds) ≡ map tid_of (take k ds) ++ (get_or ds k d).tid ∷ []
    by_place [] k lt = absurd (omega arith)
    by_place (x ∷ ds) zero lt = refl
    by_place (x ∷ ds) (suc k) lt = ap (λ ts. x.tid ∷ ts) (by_place ds k (omega arith))

pub same_doubt : (a b : Doubt) → ◌≡◌ {A = Option Doubt} (Some a) (Some b) → a.tid ≡ b.tid
same_doubt a b e = cc

-- the book of a site that is up
pub book_of : {E : Type 0} (stands : E → Start → List EngineLine → Type 0) (core : SiteCore E) (standing : Standing) (home : Home) (past : SitePast) → false ≡ not (is_up standing)
    → IsIn stands core standing home past → (tid : Tid) → doubt_about tid core.doubts.doubts ≡ map_some doubt_held (doubt_of (records home past) tid)
book_of stands core Up home past e u = u.doubts
book_of stands core Down home past e u = cc
book_of stands core Failing home past e u = cc
