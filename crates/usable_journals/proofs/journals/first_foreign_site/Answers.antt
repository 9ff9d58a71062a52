use Rattle.std.proofs.Common.{◌+◌, refl, arith}
use Rattle.usable_journals.proofs.DiskLaws.{least_here, usable_more}
use Rattle.usable_journals.proofs.journals.first_foreign_site.Goals as goal

pub returns-then-not-branch : goal.returns-then-not-branch
returns-then-not-branch c =
    least_here (λ s. s.now) c.args.sites.now c.loop-place.place (c.loop-place.place + 1) c.index-sites-place.result (omega arith) c.index-sites-place.is refl c.loop-place.invariant
    (λ usable. let yes = c.in_ok-is_usable_disk.ensures.1 usable in let false_is = c.if-not-branch.true in cc)

pub loop-place-preserved : goal.loop-place-preserved
loop-place-preserved c =
    usable_more (λ s. s.now) c.args.sites.now c.loop-place.place (c.loop-place.place + 1) c.index-sites-place.result (omega arith) c.index-sites-place.is refl c.loop-place.invariant
    (c.in_ok-is_usable_disk.ensures.0 c.if-not-branch.false)
