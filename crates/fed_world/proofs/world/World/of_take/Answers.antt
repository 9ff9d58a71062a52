use Rattle.std.proofs.Common.{◌≡◌, List, Option, Some, None, slice_get, sym, ap, ◌∙◌}
use Rattle.std.specs.Option.{option_copied}
use Rattle.mdb_base.specs.Words.{item_at}
use Rattle.mdb_base.proofs.ForCallers.{item_at-slice_get}
use Rattle.fed_rules.specs.declared.messages.FromSite.{FromSite}
use Rattle.fed_rules.specs.Story.{sent_from, story_in}
use Rattle.fed_world.specs.Hearers.{to_take}
use Rattle.fed_world.proofs.Lookups.{found_in_slice}
use Rattle.fed_world.proofs.world.World.of_take.Goals as goal

pub returns-in-Some : goal.returns-in-Some
returns-in-Some c session commands r =
    let looked = found_in_slice (λ x. x.now) c.sent_from.result.now c.args.place c.get.result c.get.ensures.lookup.0 c.get.ensures.lookup.1 in
    let there : item_at (sent_from c.args.site (story_in session commands)) c.args.place ≡ Some c.in-Some.message.now =
    item_at-slice_get _ c.args.place ∙ (ap (λ (xs : List FromSite). slice_get xs c.args.place) (sym (c.sent_from.ensures session commands r)) ∙ (sym looked ∙ ap option_copied c.in-Some.is)) in
    ap (λ (o : Option FromSite). to_take c.args.site o) (sym there)

pub returns-in-None : goal.returns-in-None
returns-in-None c session commands r =
    let looked = found_in_slice (λ x. x.now) c.sent_from.result.now c.args.place c.get.result c.get.ensures.lookup.0 c.get.ensures.lookup.1 in
    let there : item_at (sent_from c.args.site (story_in session commands)) c.args.place ≡ None =
    item_at-slice_get _ c.args.place ∙ (ap (λ (xs : List FromSite). slice_get xs c.args.place) (sym (c.sent_from.ensures session commands r)) ∙ (sym looked ∙ ap option_copied c.in-None.is)) in
    ap (λ (o : Option FromSite). to_take c.args.site o) (sym there)
