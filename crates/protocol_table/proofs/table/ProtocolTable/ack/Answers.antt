use Rattle.std.proofs.Common.{Option, sym, ap, ◌∙◌}
use Rattle.mdb_base.specs.Words.{map_some, or_else}
use Rattle.protocol_table.specs.declared.known.Known.{Known}
use Rattle.protocol_table.specs.declared.ends.AckEnd.TheVariants as Ack
use Rattle.protocol_table.specs.Attempts.{without}
use Rattle.protocol_table.specs.Ends.{ack_end, after_ack_of}
use Rattle.protocol_table.proofs.Keeps.{ack_keeps}
use Rattle.protocol_table.proofs.Named.{changed-absent, without-changed}
use Rattle.protocol_table.proofs.Written.{found, missing, named_after, values_after}
use Rattle.protocol_table.proofs.table.ProtocolTable.ack.Goals as goal

pub returns-in-None-clause-end : goal.returns-in-None-clause-end
returns-in-None-clause-end c =
    sym (ap (λ (o : Option Known). or_else (map_some (ack_end c.args.site) o) Ack.Ignored) (missing c.args.tid c.of.result c.of.ensures c.self.inside.entries.entries c.self.invariant c.args.self.now c.self.view_is c.in-None.ensures.value))

pub returns-in-None-clause-table : goal.returns-in-None-clause-table
returns-in-None-clause-table c =
    rw c.get_mut.follows.holds-at-none
    (c.self.view_is ∙ sym (changed-absent c.args.tid (after_ack_of c.args.site) c.args.self.now (missing c.args.tid c.of.result c.of.ensures c.self.inside.entries.entries c.self.invariant c.args.self.now c.self.view_is c.in-None.ensures.value)))

pub take_out-requires-clause-named : goal.take_out-requires-clause-named
take_out-requires-clause-named c = named_after c.args.tid c.of.result c.of.ensures c.self.inside.entries.entries c.self.invariant c.args.self.now c.self.view_is c.get_mut.ensures.unique c.in-Some.known.now (c.ack.new.self) c.in-Some.ensures.value (c.get_mut.follows.lender (c.ack.new.self)).entries (c.get_mut.follows.holds (c.ack.new.self)).0 (after_ack_of c.args.site) c.ack.ensures.known (ack_keeps c.args.site c.in-Some.known.now)

pub invariant_of-self-in-Ignored : goal.invariant_of-self-in-Ignored
invariant_of-self-in-Ignored c = named_after c.args.tid c.of.result c.of.ensures c.self.inside.entries.entries c.self.invariant c.args.self.now c.self.view_is c.get_mut.ensures.unique c.in-Some.known.now (c.ack.new.self) c.in-Some.ensures.value (c.get_mut.follows.lender (c.ack.new.self)).entries (c.get_mut.follows.holds (c.ack.new.self)).0 (after_ack_of c.args.site) c.ack.ensures.known (ack_keeps c.args.site c.in-Some.known.now)

pub invariant_of-self-in-Acked : goal.invariant_of-self-in-Acked
invariant_of-self-in-Acked c = named_after c.args.tid c.of.result c.of.ensures c.self.inside.entries.entries c.self.invariant c.args.self.now c.self.view_is c.get_mut.ensures.unique c.in-Some.known.now (c.ack.new.self) c.in-Some.ensures.value (c.get_mut.follows.lender (c.ack.new.self)).entries (c.get_mut.follows.holds (c.ack.new.self)).0 (after_ack_of c.args.site) c.ack.ensures.known (ack_keeps c.args.site c.in-Some.known.now)

pub returns-in-Ignored-clause-end : goal.returns-in-Ignored-clause-end
returns-in-Ignored-clause-end c =
    sym c.in-Ignored.is ∙ c.ack.ensures.end
    ∙ sym (ap (λ (o : Option Known). or_else (map_some (ack_end c.args.site) o) Ack.Ignored) (found c.args.tid c.of.result c.of.ensures c.self.inside.entries.entries c.self.invariant c.args.self.now c.self.view_is c.get_mut.ensures.unique c.in-Some.known.now (c.ack.new.self) c.in-Some.ensures.value (c.get_mut.follows.lender (c.ack.new.self)).entries (c.get_mut.follows.holds (c.ack.new.self)).0 (after_ack_of c.args.site) c.ack.ensures.known (ack_keeps c.args.site c.in-Some.known.now)))

pub returns-in-Acked-clause-end : goal.returns-in-Acked-clause-end
returns-in-Acked-clause-end c =
    sym c.in-Acked.is ∙ c.ack.ensures.end
    ∙ sym (ap (λ (o : Option Known). or_else (map_some (ack_end c.args.site) o) Ack.Ignored) (found c.args.tid c.of.result c.of.ensures c.self.inside.entries.entries c.self.invariant c.args.self.now c.self.view_is c.get_mut.ensures.unique c.in-Some.known.now (c.ack.new.self) c.in-Some.ensures.value (c.get_mut.follows.lender (c.ack.new.self)).entries (c.get_mut.follows.holds (c.ack.new.self)).0 (after_ack_of c.args.site) c.ack.ensures.known (ack_keeps c.args.site c.in-Some.known.now)))

pub returns-in-Forgets-clause-end : goal.returns-in-Forgets-clause-end
returns-in-Forgets-clause-end c =
    sym c.in-Forgets.is ∙ c.ack.ensures.end
    ∙ sym (ap (λ (o : Option Known). or_else (map_some (ack_end c.args.site) o) Ack.Ignored) (found c.args.tid c.of.result c.of.ensures c.self.inside.entries.entries c.self.invariant c.args.self.now c.self.view_is c.get_mut.ensures.unique c.in-Some.known.now (c.ack.new.self) c.in-Some.ensures.value (c.get_mut.follows.lender (c.ack.new.self)).entries (c.get_mut.follows.holds (c.ack.new.self)).0 (after_ack_of c.args.site) c.ack.ensures.known (ack_keeps c.args.site c.in-Some.known.now)))

pub returns-in-Ignored-clause-table : goal.returns-in-Ignored-clause-table
returns-in-Ignored-clause-table c = values_after c.args.tid c.of.result c.of.ensures c.self.inside.entries.entries c.self.invariant c.args.self.now c.self.view_is c.get_mut.ensures.unique c.in-Some.known.now (c.ack.new.self) c.in-Some.ensures.value (c.get_mut.follows.lender (c.ack.new.self)).entries (c.get_mut.follows.holds (c.ack.new.self)).0 (after_ack_of c.args.site) c.ack.ensures.known (ack_keeps c.args.site c.in-Some.known.now)

pub returns-in-Acked-clause-table : goal.returns-in-Acked-clause-table
returns-in-Acked-clause-table c = values_after c.args.tid c.of.result c.of.ensures c.self.inside.entries.entries c.self.invariant c.args.self.now c.self.view_is c.get_mut.ensures.unique c.in-Some.known.now (c.ack.new.self) c.in-Some.ensures.value (c.get_mut.follows.lender (c.ack.new.self)).entries (c.get_mut.follows.holds (c.ack.new.self)).0 (after_ack_of c.args.site) c.ack.ensures.known (ack_keeps c.args.site c.in-Some.known.now)

pub returns-in-Forgets-clause-table : goal.returns-in-Forgets-clause-table
returns-in-Forgets-clause-table c =
    c.take_out.ensures.attempts ∙ ap (without c.args.tid) (values_after c.args.tid c.of.result c.of.ensures c.self.inside.entries.entries c.self.invariant c.args.self.now c.self.view_is c.get_mut.ensures.unique c.in-Some.known.now (c.ack.new.self) c.in-Some.ensures.value (c.get_mut.follows.lender (c.ack.new.self)).entries (c.get_mut.follows.holds (c.ack.new.self)).0 (after_ack_of c.args.site) c.ack.ensures.known (ack_keeps c.args.site c.in-Some.known.now))
    ∙ without-changed c.args.tid (after_ack_of c.args.site) (ack_keeps c.args.site) c.args.self.now
