use Rattle.std.proofs.Common.{List, [], ◌∷◌, ◌++◌, ◌≡◌, ◌↔◌, ◌∙◌, true, ap, reverse, sym, subst}
use Rattle.std.proofs.lemmas.Result.{IfOk-weaker}
use Rattle.fed_rules.specs.declared.records.CoordRecord.{CoordRecord}
use Rattle.fed_rules.specs.Usable.{CoordSumsFit, coord_read}
use Rattle.usable_journals.specs.CoordTests.{in_order}
use Rattle.usable_journals.proofs.SameLists.{empty_fits, first_says, first_stands, reverse_first}
use Rattle.usable_journals.proofs.coord_sums.sums_fit.Goals as goal

pub returns-in_default : goal.returns-in_default
returns-in_default c = empty_fits c.args.protocols.now c.args.records.now c.in_default.ensures.cases

pub returns : goal.returns
returns c =
    let p = c.args.protocols.now in
    let first = c.in-Some.first.now in
    let newer = c.in-Some.newer.now in
    let records = c.args.records.now in
    let split : reverse records ≡ reverse newer ++ first ∷ [] = ap (λ (rs : List CoordRecord). reverse rs) c.in-Some.ensures.cases.0 ∙ reverse_first first newer in
    let stands : in_order (coord_read (reverse newer ++ first ∷ [])) ≡ true = ap (λ (rs : List CoordRecord). in_order (coord_read rs)) (sym split) ∙ c.requires in
    IfOk-weaker c.take_all.result _ _
    (λ fits all.
    subst (λ (rs : List CoordRecord). (fits ≡ true) ↔ CoordSumsFit p rs) (sym split)
    (all first (first_says p c.new-reading.result c.take_first.new.self first (c.new-reading.ensures p) (first_stands newer first stands) c.in_ok-take_first.ensures) stands)) c.take_all.ensures
