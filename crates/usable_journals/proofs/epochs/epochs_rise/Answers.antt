use Rattle.std.proofs.Common.{List, true, [], ◌≡◌, ◌↔◌, ◌∙◌, ap, reverse, sym, subst}
use Rattle.fed_rules.specs.declared.records.SiteRecord.{SiteRecord}
use Rattle.fed_rules.specs.Usable.{EpochsRise}
use Rattle.usable_journals.proofs.EpochLaws.{empty_rises, front_rises, rise_first}
use Rattle.usable_journals.proofs.SiteReflected.{split}
use Rattle.usable_journals.proofs.epochs.epochs_rise.Goals as goal

pub returns-in_default : goal.returns-in_default
returns-in_default c = empty_rises c.args.records.now c.in_default.ensures.cases

pub returns-then-not-fits : goal.returns-then-not-fits
returns-then-not-fits c = (
  λ e. absurd cc,
  λ all.
      let first = c.in-Some.first.now in
      let newer = c.in-Some.newer.now in
      let parts = ap (λ (rs : List SiteRecord). reverse rs) c.in-Some.ensures.cases.0 ∙ split first newer in
      sym c.if-not-fits.true ∙ c.fits.ensures ∙ (rise_first first).1 (front_rises (reverse newer) [] first (subst EpochsRise parts all)),
)

pub returns : goal.returns
returns c =
    let first = c.in-Some.first.now in
    subst (λ (rs : List SiteRecord). (c.rise_from.result ≡ true) ↔ EpochsRise rs)
    (sym (ap (λ (rs : List SiteRecord). reverse rs) c.in-Some.ensures.cases.0 ∙ split first c.in-Some.newer.now))
    (c.rise_from.ensures first c.first_epoch.ensures ((rise_first first).0 (sym c.fits.ensures ∙ c.if-not-fits.false)))
