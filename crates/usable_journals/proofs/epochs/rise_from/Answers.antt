use Rattle.std.proofs.Common.{◌∙◌, ap, sym}
use Rattle.fed_rules.specs.declared.records.SiteRecord.{SiteRecord}
use Rattle.usable_journals.specs.SiteTests as tests
use Rattle.usable_journals.proofs.EpochLaws.{at_first, fits_at, next_at}
use Rattle.usable_journals.proofs.epochs.rise_from.Goals as goal

pub loop-entry-init : goal.loop-entry-init
loop-entry-init c first is rise = at_first c.args.start first is rise

pub returns-then-not-fits : goal.returns-then-not-fits
returns-then-not-fits c first is rise = (
  λ e. absurd cc,
  λ all.
      sym c.if-not-fits.true ∙ c.fits.ensures ∙ ap (λ (r : SiteRecord). tests.epoch_fits c.loop-entry.epoch r) c.entry-item.is
      ∙ fits_at c.loop-entry.epoch c.args.newer.now c.loop-entry.entry-index c.entry-item.result first c.loop-entry-test.true (c.loop-entry.invariant first is rise) all,
)

pub loop-entry-preserved : goal.loop-entry-preserved
loop-entry-preserved c first is rise =
    next_at c.loop-entry.epoch c.epoch_after-epoch.result c.args.newer.now c.loop-entry.entry-index c.entry-item.result first c.loop-entry-test.true (c.loop-entry.invariant first is rise)
    (ap (λ (r : SiteRecord). tests.epoch_fits c.loop-entry.epoch r) (sym c.entry-item.is) ∙ sym c.fits.ensures ∙ c.if-not-fits.false)
    (c.epoch_after-epoch.ensures ∙ ap (λ (r : SiteRecord). tests.epoch_after c.loop-entry.epoch r) c.entry-item.is)
