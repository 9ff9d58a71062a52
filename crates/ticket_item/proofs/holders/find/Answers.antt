use Rattle.std.proofs.Common.{get_or, sym, ◌∙◌}
use Rattle.mdb_base.specs.declared.names.Tid.{Tid}
use Rattle.mdb_base.proofs.ForCallers.{same_tid-sym}
use Rattle.ticket_item.proofs.ByTid.{absent_there, absent_past}
use Rattle.ticket_item.proofs.holders.find.Goals as goal
use Rattle.ticket_item.proofs.holders.find.Goals.{else-place-tids-via-then-place-tids+else-eq, else-place-tids-via-else-place-tids}

abbrev none : Tid
none = record { tx = record { 0 = 0 }; attempt = 0 }

pub returns-else-place-tids-clause-absent : goal.returns-else-place-tids-clause-absent
returns-else-place-tids-clause-absent c =
    let tid = c.args.tid in
    let tids = c.args.tids.now in
    let place = c.place_of-place.result in
    let count = c.place_of-place.ensures.count in
    elim c.else-place-tids.branch [
      | else-place-tids-via-then-place-tids+else-eq w ↦ absent_there tid tids c.requires place count none w.if-place-tids.true (same_tid-sym tid (get_or tids place none) ∙ sym w.eq.ensures ∙ w.if-eq.false)
      | else-place-tids-via-else-place-tids w ↦ absent_past tid tids c.requires place count w.if-place-tids.false
    ]
