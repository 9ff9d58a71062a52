use Rattle.std.proofs.Common.{◌≡◌, rules}
use Rattle.std.proofs.lemmas.Fn.{always_returns_same}
use Rattle.std.proofs.lemmas.List.Sorted.{IsNonDecreasingBy-from_sort_by_key}
use Rattle.session_report.proofs.Ranking.{sorted_marks}
use Rattle.session_report.proofs.orders.by_number.Goals as goal

pub returns : goal.returns
returns c =
    let order = IsNonDecreasingBy-from_sort_by_key (λ mark. mark.number) _ c.in_ok-sort_by_key.ensures.sorted (λ a r q k. search rules) in
    sorted_marks c.args.marks.items _ order (c.in_ok-sort_by_key.ensures.stable (λ mark. mark.number) (always_returns_same _ (λ a r. r ≡ a.0.now.number) _ (λ a r q k. search rules)))
