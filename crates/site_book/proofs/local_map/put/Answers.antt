use Rattle.std.proofs.Common.{ap, ◌∙◌}
use Rattle.std.specs.FinMap.{FinMap, insert}
use Rattle.mdb_base.specs.Names.{tx_cmp}
use Rattle.site_book.proofs.Numbered.{put_number}
use Rattle.site_book.proofs.local_map.put.Goals as goal

pub returns-clause-put : goal.returns-clause-put
returns-clause-put g c =
    put_number c.reach.new.items.items c.args.tx c.args.item c.in_ok-reach.ensures.reached
    ∙ ap (λ (map : FinMap tx_cmp g.row.A.Denot). insert map c.args.tx c.args.item) c.reach.ensures.same
