use Rattle.std.proofs.Common.{ap, ◌∙◌}
use Rattle.world_recovery.specs.Reopening.{lines_by, of_sites}
use Rattle.world_recovery.proofs.FoundLines.{lines_fit, sites_are}
use Rattle.world_recovery.proofs.reopening.plan_of.Goals as goal

pub of_sites-requires : goal.of_sites-requires
of_sites-requires c =
    let (images, usable) = c.requires in
    lines_fit images c.args.journals.now c.in_ok-lines.lines.items (c.in_ok-lines.ensures ∙ ap lines_by c.as_slice.ensures.value) usable

pub returns : goal.returns
returns c images usable = record {
  scenario = c.of_sites.ensures ∙ ap of_sites (sites_are images c.args.journals.now c.in_ok-lines.lines.items (c.in_ok-lines.ensures ∙ ap lines_by c.as_slice.ensures.value));
  begun = c.in_ok-begun.ensures images;
}
