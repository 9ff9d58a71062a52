use Rattle.std.proofs.Common.{nat_lt, rules, tests, ◌∙◌}
use Rattle.std.proofs.lemmas.Iterator.{YieldsList-from_slice}
use Rattle.std.proofs.lemmas.Iterator.Adapters.{position_from-zero}
use Rattle.std.proofs.lemmas.Iterator.Search.{position_from_yields_List}
use Rattle.mdb_top.proofs.UsedDisks.{used_place}
use Rattle.mdb_top.proofs.used_disks.first_used.Goals as goal

pub returns : goal.returns
returns g c =
    position_from_yields_List (λ (disk : g.row.D.Denot). nat_lt 0 ((g.D.Disk.seen disk).size)) _ _ _ c.position.ensures.ran (YieldsList-from_slice c.args.disks.now cc) (λ x b q k. search (rules, tests))
    ∙ position_from-zero (λ (disk : g.row.D.Denot). nat_lt 0 ((g.D.Disk.seen disk).size)) c.args.disks.now ∙ used_place g.D.Disk.seen c.args.disks.now
