-- Votes and acknowledgements leave an attempt its name, and an Initiation leaves it undecided.
use Rattle.std.proofs.Common.{◌≡◌, ℕ, Bool, true, false, cond, Some, List, [], ◌∷◌, refl, sym, subst}
use Rattle.mdb_base.specs.declared.names.SiteId.{SiteId}
use Rattle.mdb_base.specs.declared.names.Tid.{Tid}
use Rattle.protocol_table.specs.declared.known.Known.{Known}
use Rattle.protocol_table.specs.Attempts.{IsUndecided, LacksDecision, changed, is_of, known_of}
use Rattle.protocol_table.specs.Ends.{initiate, vote_counts, voted, after_vote, ack_counts, acked, after_ack_of}

either : (b : Bool) (one other : Known) → one.tid ≡ other.tid → (cond b one other).tid ≡ other.tid
either true one other same = same
either false one other same = refl

pub vote_keeps : (site : SiteId) (ticket : ℕ) (known : Known) → (after_vote site ticket known).tid ≡ known.tid
vote_keeps site ticket known = either (vote_counts site known) (voted site ticket known) known refl

pub ack_keeps : (site : SiteId) (known : Known) → (after_ack_of site known).tid ≡ known.tid
ack_keeps site known = either (ack_counts site known) (acked site known) known refl

pub initiated_undecided : (tid : Tid) (vs : List Known) → IsUndecided tid vs → IsUndecided tid (changed tid initiate vs)
initiated_undecided tid [] h = h
initiated_undecided tid (v ∷ vs) h = by_test (is_of tid v) refl h (initiated_undecided tid vs)
  where
    by_test : (b : Bool) → is_of tid v ≡ b → LacksDecision (cond b (Some v) (known_of tid vs)) → (IsUndecided tid vs → IsUndecided tid (changed tid initiate vs)) → IsUndecided tid (cond b (initiate v) v ∷ changed tid initiate vs)
    by_test true is h rest =
        subst (λ (b : Bool). LacksDecision (cond b (Some (initiate v)) (known_of tid (changed tid initiate vs)))) (sym is) h
    by_test false is h rest =
        subst (λ (b : Bool). LacksDecision (cond b (Some v) (known_of tid (changed tid initiate vs)))) (sym is) (rest h)
