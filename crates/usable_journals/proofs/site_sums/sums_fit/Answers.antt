use Rattle.std.proofs.Common.{reverse, refl, sym, ap, subst, ◌∙◌, arith}
use Rattle.fed_rules.specs.declared.records.SiteRecord.{SiteRecord}
use Rattle.usable_journals.specs.SiteReads.{Fits, front_from}
use Rattle.usable_journals.proofs.SiteParts.{at_first, fits_at, next_at, next_before, part, some_records, whole_fit}
use Rattle.usable_journals.proofs.site_sums.sums_fit.Goals as goal

pub loop-place-init : goal.loop-place-init
loop-place-init c = record {
  before = omega arith;
  within = some_records c.args.records.now c.requires;
  at = λ home is. at_first home c.args.records.now is;
}

pub fits-requires : goal.fits-requires
fits-requires c = record { home = c.requires.0; journal = (c.loop-place.invariant.at c.requires.0 c.requires.1).front }

pub returns-then-not-branch : goal.returns-then-not-branch
returns-then-not-branch c home is =
    let xs = c.args.records.now in
    let at = c.loop-place.invariant.at home is in (
      λ e. absurd cc,
      λ all.
          sym c.if-not-branch.true
          ∙ (c.in_ok-fits.ensures home at.front).1
          (subst (λ (e : SiteRecord). Fits home e (reverse (part xs c.loop-place.last c.loop-place.place))) (sym c.index-records-place.is)
          (fits_at home xs c.loop-place.last c.loop-place.place c.index-records-place.result c.loop-place-test.true at all)),
    )

pub loop-place-preserved : goal.loop-place-preserved
loop-place-preserved c =
    let xs = c.args.records.now in
    let last = c.loop-place.last in
    let place = c.loop-place.place in
    let before = c.loop-place.invariant.before in
    record {
      before = next_before c.index-records-place.result place last c.front_behind-last.result before c.front_behind-last.ensures;
      within = omega arith;
      at = λ home is.
          let at = c.loop-place.invariant.at home is in
          next_at home xs last place c.front_behind-last.result c.index-records-place.result (omega (arith, before)) c.loop-place-test.true at
          (subst (λ (e : SiteRecord). Fits home e (reverse (part xs last place))) c.index-records-place.is ((c.in_ok-fits.ensures home at.front).0 c.if-not-branch.false))
          (c.front_behind-last.ensures ∙ ap (λ (e : SiteRecord). front_from e place last) c.index-records-place.is);
    }

pub returns : goal.returns
returns c home is = (
  λ e. whole_fit home c.args.records.now c.loop-place.last c.loop-place.place (omega arith) c.loop-place.invariant.within (c.loop-place.invariant.at home is),
  λ all. refl,
)
