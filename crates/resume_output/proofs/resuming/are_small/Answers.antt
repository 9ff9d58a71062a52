use Rattle.std.proofs.Common.{nat_le, ◌^◌, rules, tests, sym, ◌∙◌}
use Rattle.std.proofs.lemmas.Iterator.{YieldsList-from_slice}
use Rattle.std.proofs.lemmas.Iterator.Search.{all_from_yields_List}
use Rattle.mdb_base.proofs.ForCallers.{each_of-list_all}
use Rattle.resume_output.proofs.Small.{each_small}
use Rattle.resume_output.proofs.resuming.are_small.Goals as goal

pub returns : goal.returns
returns g c =
    all_from_yields_List (λ (disk : g.row.D.Denot). nat_le (g.D.Disk.seen disk).size (2 ^ 26)) _ _ _ c.all.ensures.ran (YieldsList-from_slice c.args.disks.now cc) (λ x b q k. search (rules, tests))
    ∙ (sym (each_of-list_all (λ (disk : g.row.D.Denot). nat_le (g.D.Disk.seen disk).size (2 ^ 26)) c.args.disks.now) ∙ sym (each_small g.D.Disk.seen c.args.disks.now))
