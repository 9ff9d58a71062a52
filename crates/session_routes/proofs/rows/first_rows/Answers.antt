use Rattle.std.proofs.Common.{◌≡◌, List, sym, subst, ◌∙◌}
use Rattle.mdb_base.specs.declared.rows.Put.{Put}
use Rattle.mdb_base.specs.Rows.{HaveOwnKeys}
use Rattle.session_routes.specs.Rows.{rows_at}
use Rattle.session_routes.proofs.FirstRows.{own_keys, first_rows_are}
use Rattle.session_routes.proofs.rows.first_rows.Goals as goal

pub sort_rows-requires : goal.sort_rows-requires
sort_rows-requires c =
    let e : c.in_ok-rows.rows.items ≡ rows_at c.args.items.now c.args.site = c.in_ok-rows.ensures in
    let P : List Put → Type 0 = λ rows. HaveOwnKeys rows in
    subst P (sym e) (own_keys c.args.items.now c.args.site c.requires)

pub returns : goal.returns
returns c =
    let e : c.in_ok-rows.rows.items ≡ rows_at c.args.items.now c.args.site = c.in_ok-rows.ensures in
    c.of.ensures ∙ (c.into_items-rows.ensures.items ∙ first_rows_are c.args.items.now c.args.site c.in_ok-rows.rows.items c.sort_rows.result e c.into_items-rows.ensures.rising c.sort_rows.ensures)
