use Rattle.std.proofs.Common.{length, refl, sym, ap, ◌∙◌, Option, None}
use Rattle.std.proofs.lemmas.Bool.{ltb-false, ltb-true}
use Rattle.std.proofs.lemmas.Option.{slice_get_read}
use Rattle.mdb_base.specs.Words.{or_else}
use Rattle.site_book.proofs.Numbered.{get_number, get_past}
use Rattle.site_book.proofs.local_map.find.Goals as goal

pub returns-in-Some : goal.returns-in-Some
returns-in-Some g c =
    let items = c.args.items.now in
    let n = c.args.tx.0 in
    let at = slice_get_read items (length items) n c.in-Some.item.now refl (ltb-true n (length items) (sym c.in-Some.ensures.lookup.0)) c.in-Some.ensures.lookup.1 in
    sym (get_number items c.args.tx ∙ ap (λ (item : Option (Option g.row.A.Denot)). or_else item None) at)

pub returns-in-None : goal.returns-in-None
returns-in-None g c = sym (get_past c.args.items.now c.args.tx (ltb-false c.args.tx.0 (length c.args.items.now) (sym c.in-None.ensures.lookup.0)))
