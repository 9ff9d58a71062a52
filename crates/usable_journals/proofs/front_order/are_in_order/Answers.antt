use Rattle.std.proofs.Common.{List, ◌≡◌, ◌↔◌, Bool, true, false, reverse, sym, subst}
use Rattle.std.proofs.lemmas.Result.{IfOk-weaker}
use Rattle.fed_rules.specs.declared.records.SiteRecord.{SiteRecord}
use Rattle.usable_journals.specs.Fronts.{AreInOrder, TakesFirst}
use Rattle.usable_journals.specs.WellRecorded.{IsOfSomeSite}
use Rattle.usable_journals.proofs.FrontWhole.{first_stops, tickets_differ, whole_says}
use Rattle.usable_journals.proofs.front_order.are_in_order.Goals as goal

pub take_first-requires : goal.take_first-requires
take_first-requires c = tickets_differ c.in-Some.first.now c.in-Some.newer.now (subst (λ (rs : List SiteRecord). IsOfSomeSite (reverse rs)) c.in-Some.ensures.cases.0 c.requires)

pub returns-then-not-branch : goal.returns-then-not-branch
returns-then-not-branch c =
    let first = c.in-Some.first.now in
    let newer = c.in-Some.newer.now in
    subst (λ (rs : List SiteRecord). (false ≡ true) ↔ AreInOrder (reverse rs)) (sym c.in-Some.ensures.cases.0)
    (first_stops c.new-front.result c.take_first.new.front first newer c.new-front.ensures (subst (λ (rs : List SiteRecord). IsOfSomeSite (reverse rs)) c.in-Some.ensures.cases.0 c.requires)
    (subst (λ (b : Bool). TakesFirst c.new-front.result c.take_first.new.front first b) c.if-not-branch.true c.in_ok-take_first.ensures))

pub returns : goal.returns
returns c =
    let first = c.in-Some.first.now in
    let newer = c.in-Some.newer.now in
    IfOk-weaker c.take_all.result _ _
    (λ fits all.
    subst (λ (rs : List SiteRecord). (fits ≡ true) ↔ AreInOrder (reverse rs)) (sym c.in-Some.ensures.cases.0)
    (whole_says c.new-front.result c.take_first.new.front c.take_all.new.self first newer fits c.new-front.ensures
    (subst (λ (rs : List SiteRecord). IsOfSomeSite (reverse rs)) c.in-Some.ensures.cases.0 c.requires)
    (subst (λ (b : Bool). TakesFirst c.new-front.result c.take_first.new.front first b) c.if-not-branch.false c.in_ok-take_first.ensures) all)) c.take_all.ensures
