use Rattle.std.proofs.Common.{Option, sym, ap, ◌∙◌}
use Rattle.mdb_base.specs.Words.{map_some, or_else}
use Rattle.protocol_table.specs.declared.known.Known.{Known}
use Rattle.protocol_table.specs.declared.ends.VoteEnd.TheVariants as Vote
use Rattle.protocol_table.specs.Ends.{vote_end, after_vote}
use Rattle.protocol_table.proofs.Keeps.{vote_keeps}
use Rattle.protocol_table.proofs.Named.{changed-absent}
use Rattle.protocol_table.proofs.Written.{found, missing, named_after, values_after}
use Rattle.protocol_table.proofs.table.ProtocolTable.vote.Goals as goal

pub returns-in-None-clause-end : goal.returns-in-None-clause-end
returns-in-None-clause-end c =
    sym (ap (λ (o : Option Known). or_else (map_some (vote_end c.args.site c.args.ticket) o) Vote.Ignored) (missing c.args.tid c.of.result c.of.ensures c.self.inside.entries.entries c.self.invariant c.args.self.now c.self.view_is c.in-None.ensures.value))

pub returns-in-None-clause-table : goal.returns-in-None-clause-table
returns-in-None-clause-table c =
    rw c.get_mut.follows.holds-at-none
    (c.self.view_is ∙ sym (changed-absent c.args.tid (after_vote c.args.site c.args.ticket) c.args.self.now (missing c.args.tid c.of.result c.of.ensures c.self.inside.entries.entries c.self.invariant c.args.self.now c.self.view_is c.in-None.ensures.value)))

pub invariant_of-self-2 : goal.invariant_of-self-2
invariant_of-self-2 c =
    named_after c.args.tid c.of.result c.of.ensures c.self.inside.entries.entries c.self.invariant c.args.self.now c.self.view_is c.get_mut.ensures.unique c.in-Some.known.now (c.vote.new.self) c.in-Some.ensures.value (c.get_mut.follows.lender (c.vote.new.self)).entries (c.get_mut.follows.holds (c.vote.new.self)).0 (after_vote c.args.site c.args.ticket) c.vote.ensures.known (vote_keeps c.args.site c.args.ticket c.in-Some.known.now)

pub returns-clause-end : goal.returns-clause-end
returns-clause-end c =
    c.vote.ensures.end
    ∙ sym (ap (λ (o : Option Known). or_else (map_some (vote_end c.args.site c.args.ticket) o) Vote.Ignored) (found c.args.tid c.of.result c.of.ensures c.self.inside.entries.entries c.self.invariant c.args.self.now c.self.view_is c.get_mut.ensures.unique c.in-Some.known.now (c.vote.new.self) c.in-Some.ensures.value (c.get_mut.follows.lender (c.vote.new.self)).entries (c.get_mut.follows.holds (c.vote.new.self)).0 (after_vote c.args.site c.args.ticket) c.vote.ensures.known (vote_keeps c.args.site c.args.ticket c.in-Some.known.now)))

pub returns-clause-table : goal.returns-clause-table
returns-clause-table c =
    values_after c.args.tid c.of.result c.of.ensures c.self.inside.entries.entries c.self.invariant c.args.self.now c.self.view_is c.get_mut.ensures.unique c.in-Some.known.now (c.vote.new.self) c.in-Some.ensures.value (c.get_mut.follows.lender (c.vote.new.self)).entries (c.get_mut.follows.holds (c.vote.new.self)).0 (after_vote c.args.site c.args.ticket) c.vote.ensures.known (vote_keeps c.args.site c.args.ticket c.in-Some.known.now)
