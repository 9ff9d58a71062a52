-- The undecided attempts that take their tickets, and their sites.
use Rattle.std.proofs.Common.{◌≡◌, Bool, true, false, cond, not, ◌&&◌, Some, None, List, [], ◌∷◌, ◌++◌, ◌⊎◌, inl, inr, map, refl, sym, ap, ap₂, subst, ◌∙◌}
use Rattle.std.specs.Prelude.{reverse}
use Rattle.std.proofs.lemmas.Bool.{cond-true, cond-false}
use Rattle.std.proofs.lemmas.List.{append-nil, reverse-reverse}
use Rattle.mdb_base.specs.declared.names.SiteId.{SiteId}
use Rattle.mdb_base.specs.declared.names.Tid.{Tid}
use Rattle.mdb_base.specs.Names.{same_tid}
use Rattle.mdb_base.specs.Words.{Each, those}
use Rattle.mdb_base.proofs.ForCallers.{each_filtered, reverse_more, same_tid-equal, same_tid-refl, those_append, those_rise}
use Rattle.presumptions.specs.declared.Participant.{Participant}
use Rattle.record_fields.specs.Named as Fields
use Rattle.order_laws.specs.Chains.{In}
use Rattle.order_laws.proofs.ForCallers.{in_reverse, in_those}
use Rattle.fed_rules.specs.CoordPast.{CoordPast, begun_tids, has_sent, in_phase, is_known, is_open, is_take_of, known_decision, oldest_first, others_in_phase, participants, program, sites_of, standing_of, visits}
use Rattle.coord_laws.proofs.ForCallers.{known_begun}
use Rattle.global_exec.specs.Sets.{IsSite, sites_in}
use Rattle.global_exec.specs.declared.policy.SiteSet.{SiteSet}
use Rattle.global_exec.proofs.ForCallers.{sets_are_lists}
use Rattle.fed_rules.proofs.ForCallers.{sites_rise}
use Rattle.coord_tables.specs.declared.stages.Stage.{Stage}
use Rattle.coord_tables.specs.Attempts.{open_tids}
use Rattle.coord_tables.specs.Stages.{AreStagesOf, HasSitesOf, IsStageOf, is_of, others_taking, stage_of}
use Rattle.coord_tables.specs.Terms.{Terms, IsSound}

pub sites_named : (ps : List Participant) → Each (λ p. Fields.IsSite p.site) ps → Each IsSite (map (λ (p : Participant). p.site) ps)
sites_named [] h = tt
sites_named (p ∷ ps) h = (record { first = h.0.least; last = h.0.greatest }, sites_named ps h.1)

-- the sites of an attempt
pub sites_are : (terms : Terms) (past : CoordPast) (tid : Tid) (set : SiteSet) → IsSound terms past → HasSitesOf terms.protocols past tid set → sites_in set ≡ sites_of terms.protocols past tid
sites_are terms past tid set sound h =
    sets_are_lists set (sites_of terms.protocols past tid)
    (sites_rise (participants terms.protocols past tid) (those_rise (λ (p : Participant). p.site.0) (λ (p : Participant). visits p.site (program past tid)) terms.protocols sound.rising))
    (sites_named (participants terms.protocols past tid) (each_filtered (λ (p : Participant). Fields.IsSite p.site) (λ (p : Participant). visits p.site (program past tid)) terms.protocols sound.declared)) h

-- a stage that is found is that of the attempt
pub stage_found : (protocols : List Participant) (past : CoordPast) (tid : Tid) (stages : List Stage) (stage : Stage) → Each (IsStageOf protocols past) stages → stage_of tid stages ≡ Some stage → IsStageOf protocols past stage × (stage.tid ≡ tid)
stage_found protocols past tid [] stage h e = cc
stage_found protocols past tid (s ∷ ss) stage h e = by_test (is_of tid s) refl e (stage_found protocols past tid ss stage h.1) where
  by_test : (b : Bool) → is_of tid s ≡ b → cond b (Some s) (stage_of tid ss) ≡ Some stage → (stage_of tid ss ≡ Some stage → IsStageOf protocols past stage × (stage.tid ≡ tid)) → IsStageOf protocols past stage × (stage.tid ≡ tid)
  by_test true is e rest = let same : s ≡ stage = cc in subst (λ (t : Stage). IsStageOf protocols past t × (t.tid ≡ tid)) same (h.0, same_tid-equal s.tid tid is)
  by_test false is e rest = rest e

pub open_begun : (terms : Terms) (past : CoordPast) (tid : Tid) → IsSound terms past → is_open past tid ≡ true → In tid (begun_tids past)
open_begun terms past tid sound u =
    known_begun terms.protocols terms.policy past sound.made tid (ap (λ b. is_known (standing_of b (known_decision terms.protocols past tid))) u)

none_there : (tid : Tid) (stages : List Stage) → stage_of tid stages ≡ None → In tid (map (λ (s : Stage). s.tid) stages) → ⊥
none_there tid [] e i = i
none_there tid (s ∷ ss) e i = by_test (is_of tid s) refl e i (none_there tid ss) where
  by_test : (b : Bool) → is_of tid s ≡ b → cond b (Some s) (stage_of tid ss) ≡ None → (s.tid ≡ tid) ⊎ In tid (map (λ (t : Stage). t.tid) ss) → (stage_of tid ss ≡ None → In tid (map (λ (t : Stage). t.tid) ss) → ⊥) → ⊥
  by_test true is e i rest = cc
  by_test false is e (inl same) rest = let no : true ≡ false = sym (ap (λ t. same_tid t tid) same ∙ same_tid-refl tid) ∙ is in cc
  by_test false is e (inr j) rest = rest e j

-- an undecided attempt has a stage
pub stage_there : (terms : Terms) (past : CoordPast) (tid : Tid) (stages : List Stage) → IsSound terms past → AreStagesOf terms.protocols past stages → is_open past tid ≡ true → stage_of tid stages ≡ None → ⊥
stage_there terms past tid stages sound s u e =
    let i = in_those (is_open past) tid (begun_tids past) (open_begun terms past tid sound u) u in
    let j = in_reverse (reverse (open_tids past)) tid (subst (In tid) (sym (reverse-reverse (open_tids past))) i) in
    none_there tid stages e (subst (In tid) (sym s.order) j)

abbrev takes_beside : CoordPast → Tid → Tid → Bool
takes_beside past tid t = not (same_tid t tid) && has_sent (is_take_of t) past

-- the others that take their tickets, with their sites
others_mapped : (terms : Terms) (past : CoordPast) (tid : Tid) (stages : List Stage) → IsSound terms past → Each (IsStageOf terms.protocols past) stages
    → map sites_in (map (λ (s : Stage). s.sites) (others_taking tid stages)) ≡ map (sites_of terms.protocols past) (those (takes_beside past tid) (map (λ (s : Stage). s.tid) stages))
others_mapped terms past tid [] sound h = refl
others_mapped terms past tid (s ∷ ss) sound h = by_test (takes_beside past tid s.tid) (ap (λ b. not (same_tid s.tid tid) && b) h.0.takes) (others_mapped terms past tid ss sound h.1) where
  by_test : (b : Bool) → (not (is_of tid s) && s.takes) ≡ b
      → map sites_in (map (λ (t : Stage). t.sites) (others_taking tid ss)) ≡ map (sites_of terms.protocols past) (those (takes_beside past tid) (map (λ (t : Stage). t.tid) ss))
      → map sites_in (map (λ (t : Stage). t.sites) (others_taking tid (s ∷ ss)))
      ≡ map (sites_of terms.protocols past) (cond b (s.tid ∷ those (takes_beside past tid) (map (λ (t : Stage). t.tid) ss)) (those (takes_beside past tid) (map (λ (t : Stage). t.tid) ss)))
  by_test true e rest =
      ap (λ (xs : List Stage). map sites_in (map (λ (t : Stage). t.sites) xs)) (cond-true _ _ _ e)
      ∙ ap₂ (λ (x : List SiteId) xs. x ∷ xs) (sites_are terms past s.tid s.sites sound h.0.sites) rest
  by_test false e rest = ap (λ (xs : List Stage). map sites_in (map (λ (t : Stage). t.sites) xs)) (cond-false _ _ _ e) ∙ rest

turned : (past : CoordPast) (tid : Tid) (ts : List Tid) → those (takes_beside past tid) (reverse (those (is_open past) ts)) ≡ those (λ other. not (same_tid other tid) && in_phase past other) (oldest_first ts)
turned past tid [] = refl
turned past tid (t ∷ ts) = by_test (is_open past t) refl (turned past tid ts) where
  last : Bool → List Tid
  last b = cond (not (same_tid t tid) && (b && has_sent (is_take_of t) past)) (t ∷ []) []

  behind : those (λ other. not (same_tid other tid) && in_phase past other) (oldest_first (t ∷ ts)) ≡ those (λ other. not (same_tid other tid) && in_phase past other) (oldest_first ts) ++ last (is_open past t)
  behind = those_append (λ other. not (same_tid other tid) && in_phase past other) (oldest_first ts) (t ∷ [])

  none : (b : Bool) → cond (b && false) (t ∷ []) [] ≡ []
  none true = refl
  none false = refl

  by_test : (b : Bool) → is_open past t ≡ b
      → those (takes_beside past tid) (reverse (those (is_open past) ts)) ≡ those (λ other. not (same_tid other tid) && in_phase past other) (oldest_first ts)
      → those (takes_beside past tid) (reverse (cond b (t ∷ those (is_open past) ts) (those (is_open past) ts))) ≡ those (λ other. not (same_tid other tid) && in_phase past other) (oldest_first (t ∷ ts))
  by_test true e rest =
      ap (those (takes_beside past tid)) (reverse_more t (those (is_open past) ts))
      ∙ those_append (takes_beside past tid) (reverse (those (is_open past) ts)) (t ∷ [])
      ∙ ap₂ (λ (xs ys : List Tid). xs ++ ys) rest (ap last (sym e))
      ∙ sym behind
  by_test false e rest =
      rest ∙ sym (append-nil _)
      ∙ ap (λ (ys : List Tid). those (λ other. not (same_tid other tid) && in_phase past other) (oldest_first ts) ++ ys) (sym (none (not (same_tid t tid))) ∙ ap last (sym e))
      ∙ sym behind

pub others_are : (terms : Terms) (past : CoordPast) (tid : Tid) (stages : List Stage) → IsSound terms past → AreStagesOf terms.protocols past stages
    → map sites_in (map (λ (s : Stage). s.sites) (others_taking tid stages)) ≡ others_in_phase terms.protocols past tid
others_are terms past tid stages sound s =
    others_mapped terms past tid stages sound s.each
    ∙ ap (λ (ts : List Tid). map (sites_of terms.protocols past) (those (takes_beside past tid) ts)) s.order
    ∙ ap (map (sites_of terms.protocols past)) (turned past tid (begun_tids past))

-- the sites of the attempt whose stage is found
pub sites_of_found : (terms : Terms) (past : CoordPast) (tid : Tid) (stages : List Stage) (stage : Stage) → IsSound terms past → AreStagesOf terms.protocols past stages → stage_of tid stages ≡ Some stage → sites_in stage.sites ≡ sites_of terms.protocols past tid
sites_of_found terms past tid stages stage sound s e =
    let f = stage_found terms.protocols past tid stages stage s.each e in
    sites_are terms past stage.tid stage.sites sound f.0.sites ∙ ap (sites_of terms.protocols past) f.1
