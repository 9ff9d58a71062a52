use Rattle.std.proofs.Common.{ap, ◌∙◌}
use Rattle.std.specs.Prelude.{slice_get}
use Rattle.fed_rules.specs.Reopened.{opened_site}
use Rattle.fed_rules.specs.SitePast.{disk}
use Rattle.fed_rules.specs.Usable.{home_of_first}
use Rattle.site_core.proofs.OpenedLaws.{found_first, found_kept, opened_found, stands_opened}
use Rattle.site_core.proofs.site.SiteCore.reopen.Goals as goal

pub found-requires-clause-found : goal.found-requires-clause-found
found-requires-clause-found g c =
    let s = c.requires.found in
    let o = opened_found _ s.home s.journal s.found in
    (o.0, disk s.home (opened_site s.journal), o.1)

pub returns-in-Ok-found-clause-stands : goal.returns-in-Ok-found-clause-stands
returns-in-Ok-found-clause-stands g c home journal f of_kind =
    let image = (g.D.Disk.seen c.args.disk.now).image in
    let o = opened_found image home journal f in
    let kept = found_kept c.in-Ok-found.store journal o.0 (c.in-Ok-found.ensures.keeps o.0 (disk home (opened_site journal)) o.1) in
    let first = found_first g.D.Disk.tells (g.D.Disk.seen c.found.new.disk) c.in-Ok-found.store image home journal f kept in
    let protocol = c.first_protocol-protocol.ensures home (ap (λ l. home_of_first (slice_get l 0)) c.records.ensures ∙ first) in
    stands_opened g.E.LocalEngine.stands g.D.Disk.tells _ image (g.D.Disk.seen c.found.new.disk) home journal f kept c.in-Ok-found.ensures.down of_kind c.new-in-Ok-found.ensures protocol
