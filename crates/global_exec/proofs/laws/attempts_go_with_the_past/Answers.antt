use Rattle.std.proofs.Common.{refl}
use Rattle.mdb_base.specs.declared.replies.Reply.TheVariants.{Wait}
use Rattle.global_exec.proofs.ExecPasts.{answer_of_past, vote_of_past, wait_of_past}
use Rattle.global_exec.proofs.laws.attempts_go_with_the_past.Goals as goal

pub returns-clause-waits : goal.returns-clause-waits
returns-clause-waits c = λ protocols past tid live is site epoch n by x takes once.
    wait_of_past protocols past tid live is site epoch n (Wait by) x takes.event takes.old takes.counts once by refl

pub returns-clause-answers : goal.returns-clause-answers
returns-clause-answers c = λ protocols past tid live is site epoch n reply x takes once answers.
    answer_of_past protocols past tid live is site epoch n reply x takes.event takes.old takes.counts once answers

pub returns-clause-votes : goal.returns-clause-votes
returns-clause-votes c = λ protocols past tid live is site ticket x takes once.
    vote_of_past protocols past tid live is site ticket x takes.event takes.old takes.counts once
