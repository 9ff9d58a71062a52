use Rattle.std.proofs.Common.{ℕ, nat_lt, ap, ◌∙◌, arith}
use Rattle.std.proofs.lemmas.List.{get_or-replicate}
use Rattle.mdb_base.proofs.ForCallers.{not_below}
use Rattle.ticket_graph.proofs.lowest.Lowest.new.Goals as goal

pub returns : goal.returns
returns c = λ ticket small fits.
    ap (λ (n : ℕ). nat_lt n ticket.ticket) (get_or-replicate 256 ticket.site.0 18446744073709551615 0 small)
    ∙ not_below 18446744073709551615 ticket.ticket (omega arith)
