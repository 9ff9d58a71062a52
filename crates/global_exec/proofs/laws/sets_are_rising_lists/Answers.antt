use Rattle.global_exec.proofs.SetLists.{sets_are_lists}
use Rattle.global_exec.proofs.laws.sets_are_rising_lists.Goals as goal

pub returns : goal.returns
returns c = sets_are_lists
