use Rattle.std.proofs.Common.{Bool, true, false, List, [], ◌∷◌, ◌≡◌, ◌↔◌, reverse, sym, subst}
use Rattle.std.proofs.lemmas.Result.{IfOk-weaker}
use Rattle.fed_rules.specs.declared.records.SiteRecord.{SiteRecord}
use Rattle.fed_rules.specs.Usable.{OnceEach, counted}
use Rattle.usable_journals.specs.OnceTold.{TakesAll}
use Rattle.usable_journals.proofs.OnceLaws.{empty_once, says_once, takes_stop, takes_then}
use Rattle.usable_journals.proofs.site_once.are_recorded_once.Goals as goal

pub returns-in_default : goal.returns-in_default
returns-in_default c = empty_once c.args.records.now c.in_default.ensures.cases

pub returns-then-not-branch : goal.returns-then-not-branch
returns-then-not-branch c =
    let first = c.in-Some.first.now in
    let newer = c.in-Some.newer.now in
    let a = c.new-once.result in
    let b = c.take_first.new.self in
    subst (λ (rs : List SiteRecord). (false ≡ true) ↔ OnceEach (counted (reverse rs))) (sym c.in-Some.ensures.cases.0)
    (says_once first newer a b false c.new-once.ensures
    (takes_stop a b b (counted (first ∷ [])) (reverse newer) (subst (λ (t : Bool). TakesAll a b (counted (first ∷ [])) t) c.if-not-branch.true c.in_ok-take_first.ensures)))

pub returns : goal.returns
returns c =
    let first = c.in-Some.first.now in
    let newer = c.in-Some.newer.now in
    let a = c.new-once.result in
    let b = c.take_first.new.self in
    let d = c.take_all.new.self in
    IfOk-weaker c.take_all.result _ _
    (λ fits all.
    subst (λ (rs : List SiteRecord). (fits ≡ true) ↔ OnceEach (counted (reverse rs))) (sym c.in-Some.ensures.cases.0)
    (says_once first newer a d fits c.new-once.ensures
    (takes_then a b d (counted (first ∷ [])) (reverse newer) fits
    (subst (λ (t : Bool). TakesAll a b (counted (first ∷ [])) t) c.if-not-branch.false c.in_ok-take_first.ensures) all))) c.take_all.ensures
