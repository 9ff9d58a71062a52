use Rattle.std.proofs.Common.{sym, ◌∙◌}
use Rattle.global_exec.specs.Counted.{after_did}
use Rattle.global_exec.proofs.Keeps.{did_same}
use Rattle.global_exec.proofs.Named.{replaced-absent}
use Rattle.global_exec.proofs.Written.{missing, named_after, values_after}
use Rattle.global_exec.proofs.exec.GlobalExec.take.Goals as goal

pub returns-in-None : goal.returns-in-None
returns-in-None c =
    rw c.get_mut.follows.holds-at-none
    (c.self.view_is ∙ sym (replaced-absent c.args.tid (after_did c.args.site c.args.epoch c.args.n c.args.reply) c.args.self.now (missing c.args.tid c.of.result c.of.ensures c.self.inside.attempts.entries c.self.invariant c.args.self.now c.self.view_is c.in-None.ensures.value)))

pub invariant_of-self-2 : goal.invariant_of-self-2
invariant_of-self-2 c =
    named_after c.args.tid c.of.result c.of.ensures c.self.inside.attempts.entries c.self.invariant c.args.self.now c.self.view_is c.in-Some.attempt.now c.take.new.self c.in-Some.ensures.value (c.get_mut.follows.lender c.take.new.self).entries (c.get_mut.follows.holds c.take.new.self).0 (after_did c.args.site c.args.epoch c.args.n c.args.reply) c.take.ensures (did_same c.args.site c.args.epoch c.args.n c.args.reply c.in-Some.attempt.now)

pub returns : goal.returns
returns c =
    values_after c.args.tid c.of.result c.of.ensures c.self.inside.attempts.entries c.self.invariant c.args.self.now c.self.view_is c.in-Some.attempt.now c.take.new.self c.in-Some.ensures.value (c.get_mut.follows.lender c.take.new.self).entries (c.get_mut.follows.holds c.take.new.self).0 (after_did c.args.site c.args.epoch c.args.n c.args.reply) c.take.ensures (did_same c.args.site c.args.epoch c.args.n c.args.reply c.in-Some.attempt.now)
