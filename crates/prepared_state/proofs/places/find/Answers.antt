use Rattle.std.proofs.Common.{sym, ◌∙◌}
use Rattle.fed_rules.specs.declared.runs.Doubt.{Doubt}
use Rattle.prepared_state.proofs.ByTid.{found_there, absent_there, absent_past}
use Rattle.prepared_state.proofs.places.find.Goals as goal
use Rattle.prepared_state.proofs.places.find.Goals.{else-place-doubts-via-then-place-doubts+else-eq, else-place-doubts-via-else-place-doubts}

abbrev nothing : Doubt
nothing = record { tid = record { tx = record { 0 = 0 }; attempt = 0 }; epoch = 0; ticket = 0 }

pub returns-then-eq-clause-found : goal.returns-then-eq-clause-found
returns-then-eq-clause-found c =
    found_there c.args.tid c.args.doubts.now c.requires c.place_of-place.result c.place_of-place.ensures.count nothing c.if-place-doubts.true (sym c.eq.ensures ∙ c.if-eq.true)

pub returns-else-place-doubts-clause-absent : goal.returns-else-place-doubts-clause-absent
returns-else-place-doubts-clause-absent c =
    let tid = c.args.tid in
    let doubts = c.args.doubts.now in
    let place = c.place_of-place.result in
    let count = c.place_of-place.ensures.count in
    elim c.else-place-doubts.branch [
      | else-place-doubts-via-then-place-doubts+else-eq w ↦ absent_there tid doubts c.requires place count nothing w.if-place-doubts.true (sym w.eq.ensures ∙ w.if-eq.false)
      | else-place-doubts-via-else-place-doubts w ↦ absent_past tid doubts c.requires place count w.if-place-doubts.false
    ]
