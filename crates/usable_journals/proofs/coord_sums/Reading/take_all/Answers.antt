use Rattle.std.proofs.Common.{[], ◌∷◌, ◌++◌, ◌∙◌, reverse, take, sym, subst}
use Rattle.fed_rules.specs.Usable.{coord_read}
use Rattle.usable_journals.specs.Reads.{Fits, Reads}
use Rattle.usable_journals.proofs.SameLists.{breaks, goes_on, here_stands}
use Rattle.usable_journals.proofs.coord_sums.Reading.take_all.Goals as goal

pub returns-then-not-fits : goal.returns-then-not-fits
returns-then-not-fits c first says stands =
    let far = c.loop-entry.invariant first says stands in
    let i = c.loop-entry.entry-index in
    let entries = c.args.entries.now in (
      λ e. absurd cc,
      λ all.
          sym c.if-not-fits.true
          ∙ (c.fits.ensures c.args.protocols.now (coord_read (reverse (take i entries) ++ first ∷ [])) far.says (here_stands entries i first stands)).1
          (subst (λ e. Fits c.args.protocols.now e (coord_read (reverse (take i entries) ++ first ∷ []))) (sym c.entry-item.is) (breaks c.args.protocols.now entries i c.entry-item.result first c.loop-entry-test.true all)),
    )

pub loop-entry-preserved : goal.loop-entry-preserved
loop-entry-preserved c first says stands =
    let far = c.loop-entry.invariant first says stands in
    let i = c.loop-entry.entry-index in
    let entries = c.args.entries.now in
    let before = coord_read (reverse (take i entries) ++ first ∷ []) in
    let here = (c.fits.ensures c.args.protocols.now before far.says (here_stands entries i first stands)).0 c.if-not-fits.false in
    goes_on c.args.protocols.now c.loop-entry.self c.take.new.self entries i c.entry-item.result first c.loop-entry-test.true stands far
    (subst (λ e. Fits c.args.protocols.now e before) c.entry-item.is here)
    (subst (λ e. Reads c.args.protocols.now c.loop-entry.self c.take.new.self (e ∷ [])) c.entry-item.is c.in_ok-take.ensures)
