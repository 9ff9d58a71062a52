-- What is sent to a site.
use Rattle.std.proofs.Common.{◌≡◌, ◌<◌, false, Option, None, List, [], ◌∷◌, refl, ap, ◌∙◌, arith}
use Rattle.std.proofs.lemmas.Bool.{cond-false, ne_eqb}
use Rattle.mdb_base.specs.declared.names.SiteId.{SiteId}
use Rattle.mdb_base.specs.Names.{same_site}
use Rattle.mdb_base.specs.Words.{Each, map_some}
use Rattle.fed_rules.specs.declared.messages.Sent.{Sent}
use Rattle.fed_rules.specs.Site_of.{message_to}

abbrev pub OverSends : SiteId → List Sent → Type 0
OverSends site sends = Each (λ (sent : Sent). site.0 < sent.site.0) sends

-- nothing is sent to a lesser site
pub none_to : (site : SiteId) (sends : List Sent) → OverSends site sends → message_to site sends ≡ None
none_to site [] h = refl
none_to site (sent ∷ sends) h =
    let more = h.0 in
    let other : same_site sent.site site ≡ false = ne_eqb sent.site.0 site.0 (λ same. omega (arith, same, more)) in
    ap (λ (o : Option Sent). map_some (λ (z : Sent). z.message) o) (cond-false _ _ _ other) ∙ none_to site sends h.1
