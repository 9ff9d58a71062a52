-- A Checkpoint behind other records of a site is the Sum of them, also where the first of these is a Checkpoint, read as what it sums.
use Rattle.std.proofs.Common.{◌≡◌, Option, Some, None, List, [], ◌∷◌, ◌++◌, refl, sym, ap, subst, ◌∙◌, inr}
use Rattle.mdb_base.specs.Words.{Each}
use Rattle.presumptions.specs.declared.Decision.TheVariants as Decided
use Rattle.fed_rules.specs.declared.records.SiteRecord.{SiteRecord}
use Rattle.fed_rules.specs.declared.records.SiteRecord.TheVariants.{Setup, Start, Prepared, Ended, Local, Checkpoint}
use Rattle.fed_rules.specs.declared.sums.SiteSum.{SiteSum}
use Rattle.fed_rules.specs.Reopened.{first_of, site_sum_read}
use Rattle.fed_rules.specs.SitePast.{journal, records}
use Rattle.fed_rules.specs.SiteRecords.{Held, Home, doubt_of, installs}
use Rattle.fed_rules.specs.SiteSums.{site_sum, sum_with}
use Rattle.fed_rules.specs.Story.{past_of, story_of}
use Rattle.fed_rules.specs.Usable.{HaveSums, IsSumOfSome, IsWithin, SumsFit, home_of_first, read, OfFronts}
use Rattle.site_history.proofs.ForCallers.{SameDue, StartsWell, all_due, all_say, due_install, first_due, first_order, first_says, foundation, goes_on_in_order, of_events, once_front, order_behind, same_sum, says_sum, sites_serial, sums_behind}
use Rattle.site_history.specs.Records.{BindOnce}
use Rattle.site_history.specs.Sums.{AreSums, ComeInOrder, HeldComes, StaysBelow}
use Rattle.disk_laws.specs.Left.{OfSites, SitesSumsFit}
use Rattle.disk_laws.proofs.SiteLeft.{first_founded, first_is, no_keys, within}
use Rattle.disk_laws.proofs.SiteLists.{is_of_some}
use Rattle.disk_laws.proofs.SiteOnce.{Known, pasts_known, starts_front}
use Rattle.disk_laws.proofs.SiteRead.{Counts, Whole, Behind, counts_as, doubt_read, installs_read}
use Rattle.disk_laws.proofs.SiteWritten.{read_behind, read_founded}

fit_more : (home : Home) (x : SiteRecord) (rest : List SiteRecord) → ((sum : SiteSum) → x ≡ Checkpoint sum → sum ≡ site_sum home (read rest)) → SumsFit home rest
    → SumsFit home (x ∷ rest)
fit_more home x [] is fit = tt
fit_more home (Checkpoint sum) (y ∷ ys) is fit = (is sum refl, fit)
fit_more home (Setup site engine protocol items) (y ∷ ys) is fit = fit
fit_more home (Start e) (y ∷ ys) is fit = fit
fit_more home (Prepared t e n k w) (y ∷ ys) is fit = fit
fit_more home (Ended t d) (y ∷ ys) is fit = fit
fit_more home (Local t n w) (y ∷ ys) is fit = fit

checkpoint_is : (home : Home) (r : SiteRecord) (rs : List SiteRecord) → AreSums home (r ∷ rs) → (sum : SiteSum) → r ≡ Checkpoint sum → sum ≡ site_sum home rs
checkpoint_is home (Checkpoint found) rs s sum e = let same : found ≡ sum = cc in sym same ∙ s.0
checkpoint_is home (Setup site engine protocol items) rs s sum e = cc
checkpoint_is home (Start n) rs s sum e = cc
checkpoint_is home (Prepared t n number k w) rs s sum e = cc
checkpoint_is home (Ended t d) rs s sum e = cc
checkpoint_is home (Local t n w) rs s sum e = cc

-- ---- an untrimmed journal

fit_whole : (home : Home) (newer : List SiteRecord) → AreSums home (newer ++ foundation home) → SumsFit home (newer ++ foundation home)
fit_whole home [] s = tt
fit_whole home (r ∷ newer) s =
    let behind = sums_behind home r (newer ++ foundation home) s in
    fit_more home r (newer ++ foundation home) (λ sum e. checkpoint_is home r (newer ++ foundation home) s sum e ∙ ap (site_sum home) (sym (read_founded home newer)))
    (fit_whole home newer behind)

-- ---- one that a Checkpoint begins

module _ (home : Home) (before : List SiteRecord) (fits : IsWithin (site_sum home before)) (some : IsSumOfSome (site_sum home before)) where
  abbrev first : SiteSum
  first = site_sum home before

  -- its first rows are those of the Checkpoint
  abbrev pub again : Home
  again = record { site = first.site; engine = first.engine; protocol = first.protocol; items = first.rows }

  -- what it is read as, with the set-up below
  abbrev read_as : List SiteRecord
  read_as = site_sum_read first ++ foundation again

  due : (newer : List SiteRecord) → SameDue (newer ++ Checkpoint first ∷ read_as) (newer ++ counts_as first)
  due newer = all_due newer (Checkpoint first ∷ read_as) (counts_as first) (first_due again (Checkpoint first))

  -- what was installed below is below what is installed now
  comes : (held : Option Held) (newer : List SiteRecord) → HeldComes held (installs (newer ++ Checkpoint first ∷ before)) → HeldComes held (installs (newer ++ Checkpoint first ∷ read_as))
  comes None newer h = tt
  comes (Some held) newer h =
      subst (Each (StaysBelow (due_install held))) (sym (due newer).due)
      (installs_read home (StaysBelow (due_install held)) (λ t n. inr (no_keys held.writes)) newer before h)

  order_again : (newer : List SiteRecord) → ComeInOrder (newer ++ Checkpoint first ∷ before) → ComeInOrder (newer ++ Checkpoint first ∷ read_as)
  order_again [] c = (first_order again (Checkpoint first) refl).order
  order_again (Local t n w ∷ newer) c = (
    subst (Each (StaysBelow (record { tid = t; number = n; writes = w }))) (sym (due newer).due)
        (installs_read home (StaysBelow (record { tid = t; number = n; writes = w })) (λ u m. inr (no_keys w)) newer before c.0),
    order_again newer c.1,
  )
  order_again (Ended t Decided.Commit ∷ newer) c = (
    subst (λ o. HeldComes o (installs (newer ++ Checkpoint first ∷ read_as))) (sym ((due newer).doubt t ∙ doubt_read home newer before t))
        (comes (doubt_of (newer ++ Checkpoint first ∷ before) t) newer c.0),
    order_again newer c.1,
  )
  order_again (Ended t Decided.Abort ∷ newer) c = order_again newer c
  order_again (Setup site engine protocol items ∷ newer) c = order_again newer c
  order_again (Start e ∷ newer) c = order_again newer c
  order_again (Prepared t e n k w ∷ newer) c = order_again newer c
  order_again (Checkpoint sum ∷ newer) c = order_again newer c

  -- the records that are read say what all said
  read_says : (newer : List SiteRecord) → ComeInOrder (newer ++ Checkpoint first ∷ before)
      → site_sum again (newer ++ Checkpoint first ∷ site_sum_read first) ≡ site_sum home (newer ++ Checkpoint first ∷ before)
  read_says newer c =
      sym (same_sum again (newer ++ Checkpoint first ∷ read_as) (newer ++ Checkpoint first ∷ site_sum_read first)
      (all_say newer (Checkpoint first ∷ read_as) (Checkpoint first ∷ site_sum_read first) (first_says again (Checkpoint first))))
      ∙ sym (goes_on_in_order again newer (Checkpoint first ∷ read_as) (order_again newer c))
      ∙ ap (λ (s : SiteSum). sum_with s newer) (says_sum again first refl fits some)
      ∙ goes_on_in_order home newer (Checkpoint first ∷ before) c

  pub fit_behind : (newer : List SiteRecord) → AreSums home (newer ++ Checkpoint first ∷ before) → ComeInOrder (newer ++ Checkpoint first ∷ before)
      → SumsFit again (newer ++ Checkpoint first ∷ [])
  fit_behind [] s c = tt
  fit_behind (r ∷ newer) s c =
      let behind = sums_behind home r (newer ++ Checkpoint first ∷ before) s in
      let order = order_behind r (newer ++ Checkpoint first ∷ before) c in
      fit_more again r (newer ++ Checkpoint first ∷ [])
      (λ sum e. checkpoint_is home r (newer ++ Checkpoint first ∷ before) s sum e ∙ sym (read_says newer order) ∙ ap (site_sum again) (sym (read_behind newer first)))
      (fit_behind newer behind order)

fit : (home : Home) (rs js : List SiteRecord) → Counts home rs js → OfFronts (StartsWell home) rs → BindOnce rs → AreSums home rs → ComeInOrder rs → SitesSumsFit home js
fit home rs js (Whole newer e f) starts once s c =
    subst (λ ks. HaveSums (home_of_first (first_of ks)) ks) (sym f)
    (subst (λ o. HaveSums (home_of_first o) (newer ++ foundation home)) (sym (first_founded home newer)) (fit_whole home newer (subst (AreSums home) e s)))
fit home rs js (Behind newer before e f) starts once s c =
    let first = site_sum home before in
    let start = starts_front home newer (Checkpoint first ∷ before) (subst (OfFronts (StartsWell home)) e starts) in
    let own = once_front newer (Checkpoint first ∷ before) (subst BindOnce e once) in
    subst (λ ks. HaveSums (home_of_first (first_of ks)) ks) (sym f)
    (subst (λ o. HaveSums (home_of_first o) (newer ++ Checkpoint first ∷ [])) (sym (first_is (Checkpoint first) newer))
    (fit_behind home before (within home before start.1) (is_of_some home before start.1 own) newer (subst (AreSums home) e s) (subst ComeInOrder e c)))

pub leave_site_sums : OfSites SitesSumsFit
leave_site_sums scenario commands site home declared =
    let past = past_of home.site (story_of scenario commands) in
    let k = of_events Known pasts_known scenario commands site home declared in
    fit home (records home past) (journal home past) k.counts k.starts (sites_serial scenario commands site home declared).once k.sums k.order
