use Rattle.std.proofs.Common.{Bool, true, false, List, [], ◌∷◌, ◌≡◌, ◌↔◌, reverse, sym, subst}
use Rattle.std.proofs.lemmas.Result.{IfOk-weaker}
use Rattle.order_laws.specs.Chains.{Distinct}
use Rattle.fed_rules.specs.declared.records.SiteRecord.{SiteRecord}
use Rattle.fed_rules.specs.Usable as usable
use Rattle.usable_journals.specs.Numbers.{Puts, all_numbers}
use Rattle.usable_journals.proofs.NumberLaws.{empty_has, puts_stop, puts_then, says_differ}
use Rattle.usable_journals.proofs.numbers.numbers_differ.Goals as goal

pub returns-then-not-branch : goal.returns-then-not-branch
returns-then-not-branch c =
    let first = c.in-Some.first.now in
    let newer = c.in-Some.newer.now in
    let a = c.new-numbers.result in
    let b = c.take_first.new.numbers in
    subst (λ (rs : List SiteRecord). (false ≡ true) ↔ Distinct (usable.numbers (reverse rs))) (sym c.in-Some.ensures.cases.0)
    (says_differ first newer a b false (empty_has a c.new-numbers.ensures.empty)
    (puts_stop a b b (usable.numbers (first ∷ [])) (all_numbers (reverse newer)) (subst (λ (t : Bool). Puts a b (usable.numbers (first ∷ [])) t) c.if-not-branch.true c.in_ok-take_first.ensures)))

pub returns : goal.returns
returns c =
    let first = c.in-Some.first.now in
    let newer = c.in-Some.newer.now in
    let a = c.new-numbers.result in
    let b = c.take_first.new.numbers in
    let d = c.take_all.new.numbers in
    IfOk-weaker c.take_all.result _ _
    (λ fits all.
    subst (λ (rs : List SiteRecord). (fits ≡ true) ↔ Distinct (usable.numbers (reverse rs))) (sym c.in-Some.ensures.cases.0)
    (says_differ first newer a d fits (empty_has a c.new-numbers.ensures.empty)
    (puts_then a b d (usable.numbers (first ∷ [])) (all_numbers (reverse newer)) fits
    (subst (λ (t : Bool). Puts a b (usable.numbers (first ∷ [])) t) c.if-not-branch.false c.in_ok-take_first.ensures) all))) c.take_all.ensures
