use Rattle.federation_run.proofs.SettledParts.{seated_gather, seated_stand}
use Rattle.federation_run.proofs.settling.gather_all.Goals as goal

pub gather-requires : goal.gather-requires
gather-requires c = seated_gather c.args.scenario c.args.manager c.args.merged.sorted c.args.merged.lines c.of.result c.of.ensures c.of-2.result c.of-2.ensures c.requires

pub returns-clause-lines : goal.returns-clause-lines
returns-clause-lines c = c.gather.ensures.lines

pub returns-clause-stands : goal.returns-clause-stands
returns-clause-stands c =
    seated_stand c.args.scenario c.args.manager c.args.merged.sorted c.args.merged.lines c.of.result c.of.ensures c.of-2.result c.of-2.ensures c.gather.result c.gather.ensures.stands
