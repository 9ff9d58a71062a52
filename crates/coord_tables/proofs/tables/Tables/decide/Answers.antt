use Rattle.std.proofs.Common.{List, sym, ap, subst}
use Rattle.protocol_table.specs.declared.known.Known.{Known}
use Rattle.protocol_table.specs.Attempts.{IsUndecided}
use Rattle.coord_tables.specs.declared.tables.Tables.{Tables}
use Rattle.coord_tables.proofs.Decided.{undecided_recorded}
use Rattle.coord_tables.proofs.tables.Tables.decide.Goals as goal

pub decide-forgets-requires : goal.decide-forgets-requires
decide-forgets-requires c =
    subst (λ (ks : List Known). IsUndecided c.args.tid ks) (sym (ap (λ (t : Tables). t.known) c.record_first.ensures)) (undecided_recorded c.args.tid c.args.self.now.known c.args.first c.requires)
