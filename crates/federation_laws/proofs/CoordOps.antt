-- The operations of an attempt that the coordinator counted, as granted accesses and takings of the ticket, the last one first.
use Rattle.std.proofs.Common.{◌≡◌, ◌⊎◌, suc, Bool, true, false, cond, not, ◌&&◌, Option, Some, None, List, [], ◌∷◌, length, inl, inr, refl, sym, ap, ◌∙◌}
use Rattle.mdb_base.specs.declared.acts.PlainAct.TheVariants.{Read, Write}
use Rattle.mdb_base.specs.declared.names.SiteId.{SiteId}
use Rattle.mdb_base.specs.declared.names.Tid.{Tid}
use Rattle.mdb_base.specs.declared.replies.Reply.{Reply}
use Rattle.mdb_base.specs.declared.replies.Reply.TheVariants as Reply_is
use Rattle.mdb_base.specs.Names.{same_site, same_tid}
use Rattle.mdb_base.specs.Words.{how_many, found, with_some, map_some}
use Rattle.fed_rules.specs.declared.events.CoordEvent.{CoordEvent}
use Rattle.fed_rules.specs.declared.events.CoordEvent.TheVariants as Ev
use Rattle.fed_rules.specs.declared.messages.Due.{Due}
use Rattle.fed_rules.specs.declared.messages.Due.TheVariants as Due_is
use Rattle.fed_rules.specs.declared.messages.FromSite.TheVariants as From
use Rattle.fed_rules.specs.CoordPast.{CoordPast, Counted, begins, counts, outstanding, is_wait, is_ticket, value_in, oldest_first}
use Rattle.fed_rules.specs.Runs.{Access, Got, Wrote}
use Rattle.fed_rules.specs.Story.{value_of}
use Rattle.federation_laws.specs.Accesses.{SiteAccess, at, reads_in}
use Rattle.federation_laws.proofs.Dues.{of_site, count_of, steps_of, reads_of}

-- an operation at a site: a granted access, or the taking of the ticket
pub record Op : Type 0 where
  pub site : SiteId
  pub access : Option Access

-- what the reply to what is outstanding finishes, if anything
abbrev pub finished : Reply → Option Due → Option (Option Access)
finished (Reply_is.Ticket ticket) due = Some None
finished (Reply_is.Value value) (Some (Due_is.Work site epoch n (Read key))) = Some (Some (Got key value))
finished Reply_is.Done (Some (Due_is.Work site epoch n (Write key value))) = Some (Some (Wrote key value))
finished reply due = None

abbrev pub op_at : SiteId → Option Access → Op
op_at site access = record { site = site; access = access }

abbrev pub op_in : CoordPast → Tid → CoordEvent → Option Op
op_in past tid (Ev.Take site (From.Did did epoch n reply)) =
    cond (same_tid did tid) (map_some (op_at site) (finished reply (outstanding past tid site))) None
op_in past tid event = None

-- the operations that counted since the attempt's `go`
abbrev pub ops : CoordPast → Tid → List Op
ops [] tid = []
ops (x ∷ past) tid =
    cond (begins tid x.answer) []
    (cond (counts x.answer) (with_some (op_in past tid x.event) (ops past tid)) (ops past tid))

-- those of one site
abbrev pub ops_at : SiteId → List Op → List (Option Access)
ops_at site [] = []
ops_at site (op ∷ more) = cond (same_site op.site site) (op.access ∷ ops_at site more) (ops_at site more)

abbrev pub access_in : Op → Option SiteAccess
access_in op = map_some (λ access. record { site = op.site; access = access }) op.access

-- the granted accesses among them
abbrev pub accesses : List Op → List SiteAccess
accesses all = found access_in all

-- the granted accesses of a site's operations
abbrev pub granted : List (Option Access) → List Access
granted all = found (λ access. access) all

-- the reply is that of the operation
abbrev pub Matches : Reply → Option Access → Type 0
Matches (Reply_is.Value value) (Some (Got key got)) = value ≡ got
Matches Reply_is.Done (Some (Wrote key value)) = Unit {0}
Matches (Reply_is.Ticket ticket) None = Unit {0}
Matches reply access = ⊥

-- these replies, but for the waits, are those of these operations
abbrev pub Agree : List Counted → List Op → Type 0
Agree [] [] = Unit {0}
Agree [] (op ∷ all) = ⊥
Agree (reply ∷ replies) [] = (is_wait reply.reply ≡ true) × Agree replies []
Agree (reply ∷ replies) (op ∷ all) =
    ((is_wait reply.reply ≡ true) × Agree replies (op ∷ all)) ⊎ ((op.site ≡ reply.site) × Matches reply.reply op.access × Agree replies all)

-- a wait more, and an operation more
pub agree-wait : (reply : Counted) (replies : List Counted) (all : List Op) → is_wait reply.reply ≡ true → Agree replies all → Agree (reply ∷ replies) all
agree-wait reply replies [] w h = (w, h)
agree-wait reply replies (op ∷ all) w h = inl (w, h)

-- how many there are of a site, with one reply more
count-here : (reply : Counted) (replies : List Counted) (site : SiteId) (t : Bool) → same_site reply.site site ≡ t
    → count_of (reply ∷ replies) site ≡ cond t (cond (not (is_wait reply.reply)) (suc (count_of replies site)) (count_of replies site)) (count_of replies site)
count-here reply replies site true e = ap (λ t. how_many (λ (c : Counted). not (is_wait c.reply)) (cond t (reply ∷ of_site replies site) (of_site replies site))) e
count-here reply replies site false e = ap (λ t. how_many (λ (c : Counted). not (is_wait c.reply)) (cond t (reply ∷ of_site replies site) (of_site replies site))) e

pub count-wait : (reply : Counted) (replies : List Counted) (site : SiteId) → is_wait reply.reply ≡ true → count_of (reply ∷ replies) site ≡ count_of replies site
count-wait reply replies site w = by_test (same_site reply.site site) refl
  where
    by_test : (t : Bool) → same_site reply.site site ≡ t → count_of (reply ∷ replies) site ≡ count_of replies site
    by_test true e = count-here reply replies site true e ∙ ap (λ b. cond (not b) (suc (count_of replies site)) (count_of replies site)) w
    by_test false e = count-here reply replies site false e

-- a reply from another site changes nothing here
pub count-elsewhere : (reply : Counted) (replies : List Counted) (site : SiteId) → same_site reply.site site ≡ false → count_of (reply ∷ replies) site ≡ count_of replies site
count-elsewhere reply replies site e = count-here reply replies site false e

pub matches-ends : (reply : Reply) (access : Option Access) → Matches reply access → is_wait reply ≡ false
matches-ends (Reply_is.Value value) access m = refl
matches-ends Reply_is.Done access m = refl
matches-ends (Reply_is.Ticket ticket) access m = refl
matches-ends (Reply_is.Wait by) access m = absurd m
matches-ends (Reply_is.Refused why) access m = absurd m
matches-ends Reply_is.Unknown access m = absurd m

-- the replies of a site that counted, but for waits, are as many as its operations
pub agree-count : (replies : List Counted) (all : List Op) (site : SiteId) → Agree replies all → count_of replies site ≡ length (ops_at site all)
agree-count [] [] site h = refl
agree-count [] (op ∷ all) site h = absurd h
agree-count (reply ∷ replies) [] site h = count-wait reply replies site h.0 ∙ agree-count replies [] site h.1
agree-count (reply ∷ replies) (op ∷ all) site (inl h) = count-wait reply replies site h.0 ∙ agree-count replies (op ∷ all) site h.1
agree-count (reply ∷ replies) (op ∷ all) site (inr h) = by_test (same_site reply.site site) refl (ap (λ s. same_site s site) h.0) (agree-count replies all site h.2)
  where
    by_test : (t : Bool) → same_site reply.site site ≡ t → same_site op.site site ≡ same_site reply.site site → count_of replies site ≡ length (ops_at site all) → count_of (reply ∷ replies) site ≡ length (ops_at site (op ∷ all))
    by_test true e f ih =
        count-here reply replies site true e
        ∙ (ap (λ b. cond (not b) (suc (count_of replies site)) (count_of replies site)) (matches-ends reply.reply op.access h.1)
        ∙ (ap (λ k. suc k) ih ∙ sym (ap (λ t. length (cond t (op.access ∷ ops_at site all) (ops_at site all))) (f ∙ e))))
    by_test false e f ih = count-here reply replies site false e ∙ (ih ∙ sym (ap (λ t. length (cond t (op.access ∷ ops_at site all) (ops_at site all))) (f ∙ e)))

-- the answered steps are as many as the granted accesses
pub agree-steps : (replies : List Counted) (all : List Op) → Agree replies all → steps_of replies ≡ length (accesses all)
agree-steps [] [] h = refl
agree-steps [] (op ∷ all) h = absurd h
agree-steps (reply ∷ replies) [] h = ap (λ b. cond (not b && not (is_ticket reply.reply)) (suc (steps_of replies)) (steps_of replies)) h.0 ∙ agree-steps replies [] h.1
agree-steps (reply ∷ replies) (op ∷ all) (inl h) = ap (λ b. cond (not b && not (is_ticket reply.reply)) (suc (steps_of replies)) (steps_of replies)) h.0 ∙ agree-steps replies (op ∷ all) h.1
agree-steps (reply ∷ replies) (op ∷ all) (inr h) = one reply.reply op.access h.1 (agree-steps replies all h.2)
  where
    one : (r : Reply) (a : Option Access) → Matches r a → steps_of replies ≡ length (accesses all) → cond (not (is_wait r) && not (is_ticket r)) (suc (steps_of replies)) (steps_of replies) ≡ length (with_some (map_some (λ access. record { site = op.site; access = access }) a) (accesses all))
    one (Reply_is.Value value) None m ih = absurd m
    one (Reply_is.Value value) (Some (Got key got)) m ih = ap (λ k. suc k) ih
    one (Reply_is.Value value) (Some (Wrote key v)) m ih = absurd m
    one Reply_is.Done None m ih = absurd m
    one Reply_is.Done (Some (Got key got)) m ih = absurd m
    one Reply_is.Done (Some (Wrote key v)) m ih = ap (λ k. suc k) ih
    one (Reply_is.Ticket ticket) None m ih = ih
    one (Reply_is.Ticket ticket) (Some access) m ih = absurd m
    one (Reply_is.Wait by) a m ih = absurd m
    one (Reply_is.Refused why) a m ih = absurd m
    one Reply_is.Unknown a m ih = absurd m

-- and the values that were answered are those that they read
agree-values : (replies : List Counted) (all : List Op) → Agree replies all → found value_in replies ≡ found (λ x. value_of x.access) (accesses all)
agree-values [] [] h = refl
agree-values [] (op ∷ all) h = absurd h
agree-values (reply ∷ replies) [] h = none reply.reply h.0 (agree-values replies [] h.1)
  where
    none : (r : Reply) → is_wait r ≡ true → found value_in replies ≡ [] → found value_in (record { site = reply.site; epoch = reply.epoch; reply = r } ∷ replies) ≡ []
    none (Reply_is.Wait by) w ih = ih
    none (Reply_is.Value value) w ih = cc
    none Reply_is.Done w ih = ih
    none (Reply_is.Ticket ticket) w ih = ih
    none (Reply_is.Refused why) w ih = ih
    none Reply_is.Unknown w ih = ih
agree-values (reply ∷ replies) (op ∷ all) (inl h) = none reply.reply h.0 (agree-values replies (op ∷ all) h.1)
  where
    none : (r : Reply) → is_wait r ≡ true → found value_in replies ≡ found (λ x. value_of x.access) (accesses (op ∷ all)) → found value_in (record { site = reply.site; epoch = reply.epoch; reply = r } ∷ replies) ≡ found (λ x. value_of x.access) (accesses (op ∷ all))
    none (Reply_is.Wait by) w ih = ih
    none (Reply_is.Value value) w ih = cc
    none Reply_is.Done w ih = ih
    none (Reply_is.Ticket ticket) w ih = ih
    none (Reply_is.Refused why) w ih = ih
    none Reply_is.Unknown w ih = ih
agree-values (reply ∷ replies) (op ∷ all) (inr h) = one reply.reply op.access h.1 (agree-values replies all h.2)
  where
    one : (r : Reply) (a : Option Access) → Matches r a → found value_in replies ≡ found (λ x. value_of x.access) (accesses all)
        → found value_in (record { site = reply.site; epoch = reply.epoch; reply = r } ∷ replies) ≡ found (λ x. value_of x.access) (with_some (map_some (λ access. record { site = op.site; access = access }) a) (accesses all))
    one (Reply_is.Value value) None m ih = absurd m
    one (Reply_is.Value value) (Some (Got key got)) m ih = ap (λ v. v ∷ found value_in replies) m ∙ ap (λ vs. got ∷ vs) ih
    one (Reply_is.Value value) (Some (Wrote key v)) m ih = absurd m
    one Reply_is.Done None m ih = absurd m
    one Reply_is.Done (Some (Got key got)) m ih = absurd m
    one Reply_is.Done (Some (Wrote key v)) m ih = ih
    one (Reply_is.Ticket ticket) None m ih = ih
    one (Reply_is.Ticket ticket) (Some access) m ih = absurd m
    one (Reply_is.Wait by) a m ih = absurd m
    one (Reply_is.Refused why) a m ih = absurd m
    one Reply_is.Unknown a m ih = absurd m

pub agree-reads : (replies : List Counted) (all : List Op) → Agree replies all → reads_of replies ≡ reads_in (accesses all)
agree-reads replies all h = ap oldest_first (agree-values replies all h)

-- a site's accesses are those of its operations
pub at-granted : (site : SiteId) (all : List Op) → at site (accesses all) ≡ granted (ops_at site all)
at-granted site [] = refl
at-granted site (op ∷ all) = one op.access (same_site op.site site) refl (at-granted site all)
  where
    one : (a : Option Access) (t : Bool) → same_site op.site site ≡ t → at site (accesses all) ≡ granted (ops_at site all)
        → at site (with_some (map_some (λ access. record { site = op.site; access = access }) a) (accesses all)) ≡ granted (cond (same_site op.site site) (a ∷ ops_at site all) (ops_at site all))
    one None true e ih = ih ∙ sym (ap (λ t. granted (cond t (None ∷ ops_at site all) (ops_at site all))) e)
    one None false e ih = ih ∙ sym (ap (λ t. granted (cond t (None ∷ ops_at site all) (ops_at site all))) e)
    one (Some access) true e ih =
        ap (λ t. cond t (access ∷ at site (accesses all)) (at site (accesses all))) e
        ∙ (ap (λ rest. access ∷ rest) ih ∙ sym (ap (λ t. granted (cond t (Some access ∷ ops_at site all) (ops_at site all))) e))
    one (Some access) false e ih =
        ap (λ t. cond t (access ∷ at site (accesses all)) (at site (accesses all))) e
        ∙ (ih ∙ sym (ap (λ t. granted (cond t (Some access ∷ ops_at site all) (ops_at site all))) e))
