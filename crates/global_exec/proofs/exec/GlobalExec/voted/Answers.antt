use Rattle.std.proofs.Common.{refl, sym, ◌∙◌}
use Rattle.global_exec.specs.Live.{voted}
use Rattle.global_exec.proofs.Named.{replaced-absent}
use Rattle.global_exec.proofs.Written.{missing, named_after, values_after}
use Rattle.global_exec.proofs.exec.GlobalExec.voted.Goals as goal

pub returns-in-None : goal.returns-in-None
returns-in-None c =
    rw c.get_mut.follows.holds-at-none
    (c.self.view_is ∙ sym (replaced-absent c.args.tid (voted c.args.site) c.args.self.now (missing c.args.tid c.of.result c.of.ensures c.self.inside.attempts.entries c.self.invariant c.args.self.now c.self.view_is c.in-None.ensures.value)))

pub invariant_of-self-2 : goal.invariant_of-self-2
invariant_of-self-2 c =
    named_after c.args.tid c.of.result c.of.ensures c.self.inside.attempts.entries c.self.invariant c.args.self.now c.self.view_is c.in-Some.attempt.now c.vote.new.self c.in-Some.ensures.value (c.get_mut.follows.lender c.vote.new.self).entries (c.get_mut.follows.holds c.vote.new.self).0 (voted c.args.site) c.vote.ensures refl

pub returns : goal.returns
returns c =
    values_after c.args.tid c.of.result c.of.ensures c.self.inside.attempts.entries c.self.invariant c.args.self.now c.self.view_is c.in-Some.attempt.now c.vote.new.self c.in-Some.ensures.value (c.get_mut.follows.lender c.vote.new.self).entries (c.get_mut.follows.holds c.vote.new.self).0 (voted c.args.site) c.vote.ensures refl
