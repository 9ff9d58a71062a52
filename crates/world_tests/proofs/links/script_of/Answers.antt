use Rattle.std.proofs.Common.{refl}
use Rattle.scripted_link.proofs.ForCallers.{named, skipped}
use Rattle.world_tests.proofs.links.script_of.Goals as goal
use Rattle.world_tests.proofs.links.script_of.Goals.{then-number-ne0+in_ok-push, else-number-ne0}

pub loop-place-preserved : goal.loop-place-preserved
loop-place-preserved c = elim c.if-number-ne0.branch [
  | then-number-ne0+in_ok-push w ↦
      rw w.fates-is (named c.loop-place.fates.items w.push.new.self.items (record { place = c.loop-place.place; fate = w.fate_of.result }) c.loop-place.place c.loop-place.invariant refl w.in_ok-push.ensures.items)
  | else-number-ne0 w ↦ rw w.fates-is (skipped c.loop-place.fates.items c.loop-place.place c.loop-place.invariant)
]
