use Rattle.std.proofs.Common.{ap, ◌∙◌, rules}
use Rattle.std.proofs.lemmas.List.Sorted.{IsNonDecreasingBy-from_sort_by_key}
use Rattle.mdb_base.specs.Rows.{value_in}
use Rattle.mdb_base.proofs.RowLaws.{HaveOwnKeys-sorted, IsRising-from_sorted, value_in-sorted}
use Rattle.mdb_base.proofs.rows.sort_rows.Goals as goal

pub of-requires : goal.of-requires
of-requires c =
    let order = IsNonDecreasingBy-from_sort_by_key (λ row. row.key.0) _ c.sort_unstable_by_key.ensures.sorted (λ a r q k. search rules) in
    IsRising-from_sorted _ order (HaveOwnKeys-sorted _ _ c.sort_unstable_by_key.ensures.permutation c.requires)

pub returns : goal.returns
returns c key =
    ap (λ rows. value_in rows key) c.of.ensures ∙ value_in-sorted _ _ c.sort_unstable_by_key.ensures.permutation c.requires key
