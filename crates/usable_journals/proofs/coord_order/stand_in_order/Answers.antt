use Rattle.std.proofs.Common.{Bool, [], ◌∷◌, ◌∙◌, List, ap, reverse, subst, sym}
use Rattle.std.proofs.lemmas.Result.{IfOk-weaker}
use Rattle.fed_rules.specs.declared.records.CoordRecord.{CoordRecord}
use Rattle.fed_rules.specs.Usable.{coord_read}
use Rattle.usable_journals.specs.CoordTests.{in_order}
use Rattle.usable_journals.specs.Recorded.{TakesAll}
use Rattle.usable_journals.proofs.Recording.{broken_first, whole}
use Rattle.usable_journals.proofs.coord_order.stand_in_order.Goals as goal

pub returns-then-not-branch : goal.returns-then-not-branch
returns-then-not-branch c =
    let first = c.in-Some.first.now in
    let newer = c.in-Some.newer.now in
    let a = c.new-recorded.result in
    let b = c.take_first.new.self in
    broken_first a b first newer c.new-recorded.ensures (subst (λ (t : Bool). TakesAll a b (coord_read (first ∷ [])) t) c.if-not-branch.true c.in_ok-take_first.ensures)
    ∙ ap (λ (rs : List CoordRecord). in_order (coord_read (reverse rs))) (sym c.in-Some.ensures.cases.0)

pub returns : goal.returns
returns c =
    let first = c.in-Some.first.now in
    let newer = c.in-Some.newer.now in
    let a = c.new-recorded.result in
    let b = c.take_first.new.self in
    IfOk-weaker c.take_all.result _ _
    (λ fits all.
    whole a b c.take_all.new.self first newer fits c.new-recorded.ensures
    (subst (λ (t : Bool). TakesAll a b (coord_read (first ∷ [])) t) c.if-not-branch.false c.in_ok-take_first.ensures) all
    ∙ ap (λ (rs : List CoordRecord). in_order (coord_read (reverse rs))) (sym c.in-Some.ensures.cases.0)) c.take_all.ensures
