use Rattle.std.proofs.Common.{List, ◌∙◌, reverse, sym, subst}
use Rattle.fed_rules.specs.declared.records.SiteRecord.{SiteRecord}
use Rattle.fed_rules.specs.Reopened.{first_of}
use Rattle.fed_rules.specs.Usable.{IsOfSite, SetUpFirst, home_of_first}
use Rattle.usable_journals.proofs.SiteReflected.{alone_back, alone_there, empty_begins, of_site, site_of}
use Rattle.usable_journals.proofs.beginnings.begins_with.Goals as goal

pub returns-in_default : goal.returns-in_default
returns-in_default c = empty_begins c.args.number c.args.records.now c.in_default.ensures.cases

pub returns-then-not-is_of_site : goal.returns-then-not-is_of_site
returns-then-not-is_of_site c = (
  λ e. absurd cc,
  λ h.
      sym c.if-not-is_of_site.true
      ∙ c.is_of_site.ensures.1 (site_of c.args.number c.in-Some.first.now c.in-Some.newer.now
      (subst (λ (rs : List SiteRecord). IsOfSite c.args.number (home_of_first (first_of (reverse rs)))) c.in-Some.ensures.cases.0 h.0)),
)

pub returns : goal.returns
returns c =
    let first = c.in-Some.first.now in
    let newer = c.in-Some.newer.now in (
      λ e. (
        subst (λ (rs : List SiteRecord). IsOfSite c.args.number (home_of_first (first_of (reverse rs)))) (sym c.in-Some.ensures.cases.0)
            (of_site c.args.number first newer (c.is_of_site.ensures.0 c.if-not-is_of_site.false)),
        subst (λ (rs : List SiteRecord). SetUpFirst (reverse rs)) (sym c.in-Some.ensures.cases.0) (alone_there first newer (sym c.none_sets_up.ensures ∙ e)),
      ),
      λ h. c.none_sets_up.ensures ∙ alone_back first newer (subst (λ (rs : List SiteRecord). SetUpFirst (reverse rs)) c.in-Some.ensures.cases.0 h.1),
    )
