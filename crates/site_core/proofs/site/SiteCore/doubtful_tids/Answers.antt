use Rattle.std.proofs.Common.{is_some, map, ap, sym, subst, ◌∙◌}
use Rattle.std.proofs.lemmas.Result.{IfOk-weaker}
use Rattle.mdb_base.proofs.ForCallers.{some_mapped}
use Rattle.fed_rules.specs.declared.runs.Doubt.{Doubt}
use Rattle.fed_rules.specs.SitePast.{records}
use Rattle.fed_rules.specs.SiteRecords.{doubt_of}
use Rattle.journal_sums.specs.Starts.{doubt_held}
use Rattle.prepared_state.specs.Book.{doubt_about}
use Rattle.site_book.specs.Listing.{Lists}
use Rattle.site_core.proofs.Listings.{book_of, lists_alike, lists_doubts}
use Rattle.site_core.proofs.site.SiteCore.doubtful_tids.Goals as goal

pub returns : goal.returns
returns g c =
    let core = c.args.self.now in
    IfOk-weaker c.tids_of.result _ _
    (λ tids are home past h up.
    subst (Lists (λ tid. is_some (doubt_of (records home past) tid))) (sym are)
    (lists_alike (λ tid. is_some (doubt_about tid core.doubts.doubts)) (λ tid. is_some (doubt_of (records home past) tid)) (map (λ (doubt : Doubt). doubt.tid) core.doubts.doubts)
    (λ tid. ap is_some (book_of g.E.LocalEngine.stands core core.store.standing home past (sym up ∙ h.memory.standing) h.memory.standing_in tid) ∙ some_mapped doubt_held (doubt_of (records home past) tid))
    (lists_doubts core.doubts.doubts c.len.ensures.order)))
    c.tids_of.ensures
