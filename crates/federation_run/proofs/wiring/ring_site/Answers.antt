use Rattle.std.proofs.Common.{refl, ◌∙◌}
use Rattle.federation_run.proofs.wiring.ring_site.Goals as goal

pub returns : goal.returns
returns c = record {
  at_site = refl;
  at_coordinator = refl;
  to = c.in_ok-to.ensures.pair;
  from = c.in_ok-from.ensures.pair;
  to_script = c.in_ok-to.ensures.script ∙ c.in_ok-script_of.ensures;
  from_script = c.in_ok-from.ensures.script ∙ c.in_ok-script_of-2.ensures;
  taken_none = c.in_ok-to.ensures.taken;
  offered_none = c.in_ok-from.ensures.offered;
  uncounted = c.in_ok-to.ensures.empties;
  new = record { sent_none = c.new.ensures.items; taken_none = c.in_ok-from.ensures.taken; offered_none = c.in_ok-to.ensures.offered };
}
