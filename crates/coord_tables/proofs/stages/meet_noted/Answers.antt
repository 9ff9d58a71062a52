use Rattle.std.proofs.Common.{◌≡◌, ℕ, ◌+◌, None, List, [], ◌∷◌, ◌++◌, get_or, sym, ap, subst, ◌∙◌, append-nil}
use Rattle.mdb_base.specs.declared.names.SiteTicket.{SiteTicket}
use Rattle.ticket_graph.specs.declared.lowest.Lowest.{Lowest}
use Rattle.ticket_graph.specs.Reach.{IsLowest}
use Rattle.coord_tables.specs.Stages.{noted_below, noted_one}
use Rattle.coord_tables.proofs.Noting.{noted_next}
use Rattle.coord_tables.proofs.stages.meet_noted.Goals as goal
use Rattle.coord_tables.proofs.stages.meet_noted.Goals.{in-Some, in_default}

pub loop-place-preserved : goal.loop-place-preserved
loop-place-preserved c =
    let ts = c.args.tickets.now in
    let n = c.loop-place.place in
    elim c.match-tickets-from.branch [
      | in-Some w ↦ λ met h.
          let ks : List SiteTicket = record { site = record { 0 = n }; ticket = w.in-Some.ticket } ∷ [] in
          let is : noted_one n (get_or ts n None) ≡ ks = ap (noted_one n) (ap (λ (m : ℕ). get_or ts m None) (sym c.from.ensures) ∙ w.in-Some.is) in
          subst (λ (l : Lowest). IsLowest l.at (met ++ noted_below (n + 1) ts)) (sym w.lowest-is)
          (noted_next w.meet_one.new.self.at met n ts ks is (w.meet_one.ensures (met ++ noted_below n ts) (c.loop-place.invariant met h)))
      | in_default w ↦ λ met h.
          let is : noted_one n (get_or ts n None) ≡ [] = ap (noted_one n) (ap (λ (m : ℕ). get_or ts m None) (sym c.from.ensures) ∙ w.in_default.is) in
          subst (λ (l : Lowest). IsLowest l.at (met ++ noted_below (n + 1) ts)) (sym w.lowest-is)
          (noted_next c.loop-place.lowest.at met n ts [] is (subst (λ (zs : List SiteTicket). IsLowest c.loop-place.lowest.at zs) (sym (append-nil (met ++ noted_below n ts))) (c.loop-place.invariant met h)))
    ]
