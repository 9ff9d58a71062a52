-- No record with a mark can be lost on the disk of a site, whether it began with an empty disk or goes on from a journal that was found.
use Rattle.std.proofs.Common.{◌≡◌, ℕ, Some, List, [], ◌∷◌, sym, ap, subst, inl, inr, arith}
use Rattle.fed_rules.specs.declared.records.SiteRecord.{SiteRecord}
use Rattle.fed_rules.specs.Disk.{bytes_of}
use Rattle.fed_rules.specs.Found.{Journal}
use Rattle.fed_rules.specs.Reopened.{first_of, opened_site}
use Rattle.fed_rules.specs.SitePast.{SiteHappening, SitePast, disk}
use Rattle.fed_rules.specs.SiteRecords.{Home, site_frame}
use Rattle.fed_rules.specs.Usable.{home_of_first}
use Rattle.fed_rules.proofs.ForCallers.{bytes-more, whole_all}
use Rattle.site_core.specs.Made.{IsGoingOn, IsOpened}
use Rattle.site_core.proofs.ForCallers.{opened_firm, stands_behind, trimmed_off}
use Rattle.session_report.proofs.ForCallers.{IsMarked, IsUnmarked, marked_first, marked_line}

opened_marked : (home : Home) (past : SitePast) → IsOpened home past → IsMarked (disk home past)
opened_marked home past o = subst (λ (p : SitePast). IsMarked (disk home p)) (sym o.is) (by_records o.journal.records o.journal.torn o.is_home)
  where
    by_records : (rs : List SiteRecord) (torn : ℕ) → home_of_first (first_of rs) ≡ Some home → IsMarked (disk home (opened_site (record { records = rs; torn = torn })))
    by_records [] torn is = cc
    by_records (newest ∷ older) torn is =
        let journal : Journal SiteRecord = record { records = newest ∷ older; torn = torn } in
        let d = disk home (opened_site journal) in
        let s = stands_behind home newest older torn in
        let all = ap (bytes_of site_frame) (whole_all site_frame d.synced d.records (omega (arith, s.long, s.synced))) in
        let parts = ap (bytes_of site_frame) s.parts in
        let more = bytes-more (newest ∷ older) (trimmed_off home newest older) in
        record { firm = opened_firm IsUnmarked home journal; trimmed = omega (arith, all, parts, more, s.border) }

pub going_marked : (home : Home) (past : SitePast) → IsGoingOn home past → IsMarked (disk home past)
going_marked home [] made = marked_first home
going_marked home (x ∷ past) (inl opened) = opened_marked home (x ∷ past) opened
going_marked home (x ∷ past) (inr (line, made)) =
    subst (λ (y : SiteHappening). IsMarked (disk home (y ∷ past))) (sym line.is) (marked_line home past x.event (going_marked home past made))
