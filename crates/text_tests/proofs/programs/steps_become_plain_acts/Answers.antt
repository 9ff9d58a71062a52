use Rattle.std.proofs.Common.{refl}
use Rattle.mdb_base.specs.Words.{when}
use Rattle.text_tests.proofs.programs.steps_become_plain_acts.Goals as goal

pub next_act-second-requires-clause-read : goal.next_act-second-requires-clause-read
unfolding when
next_act-second-requires-clause-read g c = rw c.in_ok-program.ensures.program refl

pub next_act-third-requires-clause-read : goal.next_act-third-requires-clause-read
unfolding when
next_act-third-requires-clause-read g c = rw c.in_ok-program.ensures.program refl

pub next_act-end-requires-clause-read : goal.next_act-end-requires-clause-read
unfolding when
next_act-end-requires-clause-read g c = rw c.in_ok-program.ensures.program refl
