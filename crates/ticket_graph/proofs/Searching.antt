-- The search, attempt by attempt.
use Rattle.std.proofs.Common.{ℕ, zero, suc, ◌+◌, ◌<◌, ◌≤◌, ◌≡◌, ◌==◌, ◌⊎◌, Bool, true, false, cond, ◌||◌, Option, Some, None, List, [], ◌∷◌, ◌++◌, length, slice_get, refl, sym, ap, ◌∙◌, subst, inl, inr, arith, length-append}
use Rattle.std.proofs.lemmas.Bool.Decides.{nat_tests}
use Rattle.std.specs.Ordering.{is_eq}
use Rattle.std.specs.BTreeSet.{BTreeSet, contains}
use Rattle.std.proofs.lemmas.Bool.{and_parts, and_from}
use Rattle.mdb_base.specs.declared.names.SiteId.{SiteId}
use Rattle.mdb_base.specs.declared.names.SiteTicket.{SiteTicket}
use Rattle.mdb_base.specs.declared.names.Tid.{Tid}
use Rattle.mdb_base.specs.Names.{same_tid, same_site, tid_cmp}
use Rattle.mdb_base.specs.Words.{Each, Among, some_of, holds_of}
use Rattle.mdb_base.proofs.ForCallers.{among_some, each_map, same_site-equal, same_site-refl, same_tid-equal, same_tid-refl, slice_get-below, slice_get-front, some_of-push, some_parts}
use Rattle.order_laws.specs.Chains.{In}
use Rattle.order_laws.specs.Tickets.{Ticketed, Precedes, OneEach}
use Rattle.order_laws.proofs.ForCallers.{among_is, bool_is, each_at, is_among, is_eq-tid_cmp, one_image, slice_get-in, some_of_is}
use Rattle.ticket_graph.specs.declared.entries.Entry.{Entry}
use Rattle.ticket_graph.specs.declared.steps.Step.{Step}
use Rattle.ticket_graph.specs.Entries.{entry_cmp, is_ticket, is_entry}
use Rattle.ticket_graph.specs.Steps.{is_reached, IsAbove, IsStepAbove, Follows, IsDone}
use Rattle.ticket_graph.specs.Trail.{IsAt, IsSource, IsEdgeStep, IsTrail, is_reached_tid, IsClosed}
use Rattle.ticket_graph.proofs.StepLemmas.{reached_longer, done_still}
use Rattle.ticket_graph.proofs.TrailLemmas.{source_later}

-- what stands at a place of two lists stands in the first one, or in the second one behind it
got_either : {A : Type 0} (xs ys : List A) (i : ℕ) (x : A) → slice_get (xs ++ ys) i ≡ Some x → (slice_get xs i ≡ Some x) ⊎ ((length xs ≤ i) × In x ys)
got_either [] ys i x h = inr (omega arith, slice_get-in ys i x h)
got_either (z ∷ xs) ys zero x h = inl h
got_either (z ∷ xs) ys (suc i) x h =
    elim (got_either xs ys i x h) [ inl e ↦ inl e | inr r ↦ inr (let k = r.0 in omega arith, r.1) ]

-- the attempt whose ticket an entry is, and the ticket
record IsTicketOf (attempts : List Ticketed) (e : Entry) : Type 0 where
  attempt : Ticketed
  is_attempt : slice_get attempts e.attempt ≡ Some attempt
  ticket : SiteTicket
  has : In ticket attempt.tickets
  site : ticket.site ≡ e.site
  number : ticket.ticket ≡ e.ticket

same_number : (m n : ℕ) → (m == n) ≡ true → m ≡ n
same_number m n e = grind (arith, nat_tests)

entry_of : (attempts : List Ticketed) (e : Entry) (o : Option Ticketed) → slice_get attempts e.attempt ≡ o →
    holds_of (λ a. some_of (is_ticket e) a.tickets) o ≡ true → IsTicketOf attempts e
entry_of attempts e None is h = cc
entry_of attempts e (Some a) is h =
    let t = some_of_is (is_ticket e) a.tickets h in
    let both = and_parts (same_site t.0.site e.site) (t.0.ticket == e.ticket) t.2 in
    record {
      attempt = a;
      is_attempt = is;
      ticket = t.0;
      has = t.1;
      site = same_site-equal t.0.site e.site both.0;
      number = same_number t.0.ticket e.ticket both.1;
    }

entry_is : (attempts : List Ticketed) (e : Entry) → is_entry attempts e ≡ true → IsTicketOf attempts e
entry_is attempts e h = entry_of attempts e (slice_get attempts e.attempt) refl h

number_self : (n : ℕ) → (n == n) ≡ true
number_self n = grind (arith, nat_tests)

-- a ticket of an attempt is an entry
is_an_entry : (attempts : List Ticketed) (place : ℕ) (a : Ticketed) (t : SiteTicket) → slice_get attempts place ≡ Some a → In t a.tickets →
    is_entry attempts (record { site = t.site; ticket = t.ticket; attempt = place }) ≡ true
is_an_entry attempts place a t at i =
    let e : Entry = record { site = t.site; ticket = t.ticket; attempt = place } in
    let found : some_of (is_ticket e) a.tickets ≡ true =
    among_some (is_ticket e) a.tickets (is_among (λ k. is_ticket e k ≡ true) t a.tickets i
    (and_from (same_site t.site t.site) (t.ticket == t.ticket) (same_site-refl t.site) (number_self t.ticket))) in
    ap (holds_of (λ b. some_of (is_ticket e) b.tickets)) at ∙ found

-- the search has reached these steps, and has gone on from those before next
pub record IsSearching (attempts : List Ticketed) (added : Ticketed) (unmet : BTreeSet Entry) (steps : List Step) (next : ℕ) : Type 0 where
  pub trail : IsTrail attempts added steps
  pub entries : (e : Entry) → contains entry_cmp unmet e ≡ true → is_entry attempts e ≡ true
  pub reached : (e : Entry) → is_entry attempts e ≡ true → contains entry_cmp unmet e ≡ false → is_reached steps e.attempt ≡ true
  pub first : Each (IsDone unmet) added.tickets
  pub done : (place : ℕ) (a : Ticketed) → place < next → IsAt attempts steps place a → Each (IsDone unmet) a.tickets
  pub never_back : (place : ℕ) (a : Ticketed) (s : SiteId) → place < next → IsAt attempts steps place a → Precedes a added s → ⊥
  pub within : next ≤ length steps

at_longer : (attempts : List Ticketed) (steps added longer : List Step) (place : ℕ) (a : Ticketed) → longer ≡ steps ++ added → IsAt attempts steps place a → IsAt attempts longer place a
at_longer attempts steps added longer place a e h =
    record { step = h.step; is_step = ap (λ ss. slice_get ss place) e ∙ slice_get-front steps added place h.step h.is_step; is_attempt = h.is_attempt }

source_longer : (attempts : List Ticketed) (new : Ticketed) (steps added longer : List Step) (place : ℕ) (from : Option ℕ) (source : Ticketed) → longer ≡ steps ++ added →
    IsSource attempts new steps place from source → IsSource attempts new longer place from source
source_longer attempts new steps added longer place None source e h = h
source_longer attempts new steps added longer place (Some from) source e h = (h.0, at_longer attempts steps added longer from source e h.1)

new_step : (attempts : List Ticketed) (new : Ticketed) (unmet : BTreeSet Entry) (steps longer : List Step) (from : Option ℕ) (source : Ticketed) (place : ℕ) (step : Step) →
    ((e : Entry) → contains entry_cmp unmet e ≡ true → is_entry attempts e ≡ true) → IsSource attempts new longer place from source →
    (ticket : SiteTicket) → In ticket source.tickets → IsStepAbove unmet from ticket step → IsEdgeStep attempts new longer place step
new_step attempts new unmet steps longer from source place step entries is ticket i s =
    let t = entry_is attempts s.entry (entries s.entry s.was_unmet) in
    record {
      target = t.attempt;
      is_target = ap (λ n. slice_get attempts n) s.goes.attempt ∙ t.is_attempt;
      source = source;
      is_source = subst (λ f. IsSource attempts new longer place f source) (sym s.goes.came) is;
      precedes = record {
        smaller = ticket;
        greater = t.ticket;
        first = i;
        second = t.has;
        there = sym (s.goes.site ∙ s.above.site);
        here = t.site ∙ sym s.goes.site;
        less = let k = s.above.greater in let n = t.number in omega arith;
      };
    }

-- the trail goes on from a source that stands before the new steps
trail_more : (attempts : List Ticketed) (new : Ticketed) (unmet left : BTreeSet Entry) (steps longer : List Step) (from : Option ℕ) (source : Ticketed) →
    IsTrail attempts new steps → ((e : Entry) → contains entry_cmp unmet e ≡ true → is_entry attempts e ≡ true) →
    IsSource attempts new steps (length steps) from source → Follows from source.tickets unmet steps left longer → IsTrail attempts new longer
trail_more attempts new unmet left steps longer from source trail entries is f place step at =
    elim (got_either steps f.added place step (ap (λ ss. slice_get ss place) (sym f.grows) ∙ at)) [
      | inl old ↦
          let way = trail place step old in
          record {
            target = way.target;
            is_target = way.is_target;
            source = way.source;
            precedes = way.precedes;
            is_source = source_longer attempts new steps f.added longer place step.from way.source f.grows way.is_source;
          }
      | inr late ↦
          let a = among_is (λ ticket. IsStepAbove unmet from ticket step) source.tickets
          (each_at (λ s. Among (λ ticket. IsStepAbove unmet from ticket s) source.tickets) step f.added f.each late.1) in
          new_step attempts new unmet steps longer from source place step entries
          (source_longer attempts new steps f.added longer place from source f.grows (source_later attempts new steps (length steps) place from source late.0 is))
          a.0 a.1 a.2
    ]

no_steps : (attempts : List Ticketed) (new : Ticketed) → IsTrail attempts new []
no_steps attempts new place step at = cc

-- from the added attempt
pub search_starts : (attempts : List Ticketed) (added : Ticketed) (unmet left : BTreeSet Entry) (steps longer : List Step) →
    ((e : Entry) → contains entry_cmp unmet e ≡ is_entry attempts e) → steps ≡ [] → Follows None added.tickets unmet steps left longer →
    Each (IsDone left) added.tickets → IsSearching attempts added left longer 0
search_starts attempts added unmet left steps longer all none f done =
    record {
      trail = trail_more attempts added unmet left steps longer None added
          (subst (IsTrail attempts added) (sym none) (no_steps attempts added)) (λ e h. sym (all e) ∙ h) refl f;
      entries = λ e h. sym (all e) ∙ f.others e h;
      reached = λ e h k. f.reached e (all e ∙ h) k;
      first = done;
      done = λ place a below at. absurd (omega arith);
      never_back = λ place a s below at p. absurd (omega arith);
      within = omega arith;
    }

next_or_before : (place next : ℕ) → place < next + 1 → (place < next) ⊎ (place ≡ next)
next_or_before place next h = elim (bool_is (place == next)) [ inl e ↦ inr (same_number place next e) | inr e ↦ inl (grind (arith, nat_tests)) ]

is_the_attempt : (attempts : List Ticketed) (steps : List Step) (place : ℕ) (step : Step) (a b : Ticketed) → slice_get steps place ≡ Some step →
    slice_get attempts step.attempt ≡ Some a → IsAt attempts steps place b → b ≡ a
is_the_attempt attempts steps place step a b at has h =
    let s : h.step ≡ step = some_parts (sym h.is_step ∙ at) in some_parts (sym h.is_attempt ∙ (ap (λ x. slice_get attempts x.attempt) s ∙ has))

at_shorter : (attempts : List Ticketed) (steps added longer : List Step) (place : ℕ) (a : Ticketed) → longer ≡ steps ++ added → place < length steps →
    IsAt attempts longer place a → IsAt attempts steps place a
at_shorter attempts steps added longer place a e h at =
    elim (got_either steps added place at.step (ap (λ ss. slice_get ss place) (sym e) ∙ at.is_step)) [
      | inl k ↦ record { step = at.step; is_step = k; is_attempt = at.is_attempt }
      | inr r ↦ absurd (let k = r.0 in omega arith)
    ]

-- from the attempt of the next step, which has no edge to the added one
pub search_goes_on : (attempts : List Ticketed) (added : Ticketed) (unmet left : BTreeSet Entry) (steps longer : List Step) (next : ℕ) (step : Step) (a : Ticketed) →
    IsSearching attempts added unmet steps next → slice_get steps next ≡ Some step → slice_get attempts step.attempt ≡ Some a →
    ((s : SiteId) → Precedes a added s → ⊥) → Follows (Some next) a.tickets unmet steps left longer → Each (IsDone left) a.tickets →
    IsSearching attempts added left longer (next + 1)
search_goes_on attempts added unmet left steps longer next step a s at has not_back f done =
    let within : next < length steps = slice_get-below steps next step at in
    let here : IsAt attempts steps next a = record { step = step; is_step = at; is_attempt = has } in
    record {
      trail = trail_more attempts added unmet left steps longer (Some next) a s.trail s.entries (within, here) f;
      entries = λ e h. s.entries e (f.others e h);
      reached = λ e h k. elim (bool_is (contains entry_cmp unmet e)) [
        | inl m ↦ f.reached e m k
        | inr m ↦ subst (λ ss. is_reached ss e.attempt ≡ true) (sym f.grows) (reached_longer steps f.added e.attempt (s.reached e h m))
      ];
      first = each_map (IsDone unmet) (IsDone left) (λ t. done_still unmet left t f.others) added.tickets s.first;
      done = λ place b below there.
          let old = at_shorter attempts steps f.added longer place b f.grows (omega arith) there in
          elim (next_or_before place next below) [
            | inl before ↦ each_map (IsDone unmet) (IsDone left) (λ t. done_still unmet left t f.others) b.tickets (s.done place b before old)
            | inr now ↦
                let is : b ≡ a = is_the_attempt attempts steps next step a b at has (subst (λ p. IsAt attempts steps p b) now old) in
                subst (λ x. Each (IsDone left) x.tickets) (sym is) done
          ];
      never_back = λ place b z below there p.
          let old = at_shorter attempts steps f.added longer place b f.grows (omega arith) there in
          elim (next_or_before place next below) [
            | inl before ↦ s.never_back place b z before old p
            | inr now ↦
                let is : b ≡ a = is_the_attempt attempts steps next step a b at has (subst (λ q. IsAt attempts steps q b) now old) in
                not_back z (subst (λ x. Precedes x added z) is p)
          ];
      within = let n = ap length f.grows ∙ length-append steps f.added in omega arith;
    }

in_got : {A : Type 0} (xs : List A) (x : A) → In x xs → (i : ℕ) × (slice_get xs i ≡ Some x)
in_got [] x h = absurd h
in_got (y ∷ ys) x (inl e) = (0, ap (λ z. Some z) e)
in_got (y ∷ ys) x (inr h) = let r = in_got ys x h in (suc r.0, r.1)

-- what an edge leads to from an attempt that is done is reached
edge_reached : (attempts : List Ticketed) (added : Ticketed) (unmet : BTreeSet Entry) (steps : List Step) (next : ℕ) (tids : BTreeSet Tid) →
    IsSearching attempts added unmet steps next → ((t : Tid) → contains tid_cmp tids t ≡ is_reached_tid attempts steps t) →
    (a b : Ticketed) (s : SiteId) → Each (IsDone unmet) a.tickets → In b attempts → Precedes a b s → contains tid_cmp tids b.tid ≡ true
edge_reached attempts added unmet steps next tids search names a b s done i p =
    let at = in_got attempts b i in
    let e : Entry = record { site = p.greater.site; ticket = p.greater.ticket; attempt = at.0 } in
    let entry : is_entry attempts e ≡ true = is_an_entry attempts at.0 b p.greater at.1 p.second in
    let above : IsAbove p.smaller e = record { site = p.here ∙ sym p.there; greater = p.less } in
    let met : contains entry_cmp unmet e ≡ false = each_at (IsDone unmet) p.smaller a.tickets done p.first e above in
    let step = some_of_is (λ st. st.attempt == at.0) steps (search.reached e entry met) in
    let place : step.0.attempt ≡ at.0 = same_number step.0.attempt at.0 step.2 in
    let attempt : slice_get attempts step.0.attempt ≡ Some b = ap (λ n. slice_get attempts n) place ∙ at.1 in
    names b.tid ∙ among_some (λ st. holds_of (λ x. same_tid b.tid x.tid) (slice_get attempts st.attempt)) steps
    (is_among (λ st. holds_of (λ x. same_tid b.tid x.tid) (slice_get attempts st.attempt) ≡ true) step.0 steps step.1
    (ap (holds_of (λ (x : Ticketed). same_tid b.tid x.tid)) attempt ∙ same_tid-refl b.tid))

named_at : (attempts : List Ticketed) (tid : Tid) (o : Option Ticketed) → holds_of (λ a. same_tid tid a.tid) o ≡ true → (a : Ticketed) × (o ≡ Some a) × (tid ≡ a.tid)
named_at attempts tid None h = cc
named_at attempts tid (Some a) h = (a, refl, same_tid-equal tid a.tid h)

-- an attempt that is reached is that of a step
reached_at : (attempts : List Ticketed) (steps : List Step) (tids : BTreeSet Tid) → OneEach attempts →
    ((t : Tid) → contains tid_cmp tids t ≡ is_reached_tid attempts steps t) → (a : Ticketed) → In a attempts → contains tid_cmp tids a.tid ≡ true →
    (place : ℕ) × IsAt attempts steps place a
reached_at attempts steps tids one names a i h =
    let step = some_of_is (λ st. holds_of (λ x. same_tid a.tid x.tid) (slice_get attempts st.attempt)) steps (sym (names a.tid) ∙ h) in
    let b = named_at attempts a.tid (slice_get attempts step.0.attempt) step.2 in
    let is : b.0 ≡ a = one_image (λ (x : Ticketed). x.tid) attempts one b.0 a (slice_get-in attempts step.0.attempt b.0 b.1) i (sym b.2) in
    let at = in_got steps step.0 step.1 in
    (at.0, record { step = step.0; is_step = at.1; is_attempt = b.1 ∙ ap (λ x. Some x) is })

-- where it has gone on from all steps, the reached ones are closed
pub search_ends : (attempts : List Ticketed) (added : Ticketed) (unmet : BTreeSet Entry) (steps : List Step) (next : ℕ) (tids : BTreeSet Tid) → OneEach attempts →
    IsSearching attempts added unmet steps next → length steps ≤ next → ((t : Tid) → contains tid_cmp tids t ≡ is_reached_tid attempts steps t) →
    IsClosed attempts added tids
search_ends attempts added unmet steps next tids one search all names =
    record {
      first = λ b s i p. edge_reached attempts added unmet steps next tids search names added b s search.first i p;
      onward = λ a b s i j h p.
          let at = reached_at attempts steps tids one names a i h in
          let below = slice_get-below steps at.0 at.1.step at.1.is_step in
          edge_reached attempts added unmet steps next tids search names a b s (search.done at.0 a (omega arith) at.1) j p;
      never_back = λ a s i h p.
          let at = reached_at attempts steps tids one names a i h in
          let below = slice_get-below steps at.0 at.1.step at.1.is_step in
          search.never_back at.0 a s (omega arith) at.1 p;
    }

-- the steps of the search stay within the attempts
pub trail_within : (attempts : List Ticketed) (added : Ticketed) (steps : List Step) → IsTrail attempts added steps →
    (place : ℕ) (step : Step) → slice_get steps place ≡ Some step → step.attempt < length attempts
trail_within attempts added steps trail place step at =
    let way = trail place step at in slice_get-below attempts step.attempt way.target way.is_target

or_joined : (a b c d : Bool) → a ≡ d → (cond a true b) ≡ c → c ≡ (b || d)
or_joined true true c d e f = sym f
or_joined true false c d e f = sym f ∙ e
or_joined false true c d e f = sym f
or_joined false false c d e f = sym f ∙ e

-- the names of the attempts of some steps, and of one more
pub one_name : (attempts : List Ticketed) (steps more : List Step) (step : Step) (a : Ticketed) (t : Tid) (had has : Bool) → more ≡ steps ++ step ∷ [] →
    slice_get attempts step.attempt ≡ Some a → had ≡ is_reached_tid attempts steps t → has ≡ cond (is_eq (tid_cmp a.tid t)) true had →
    has ≡ is_reached_tid attempts more t
one_name attempts steps more step a t had has e at f g =
    let test : Step → Bool = λ st. holds_of (λ x. same_tid t x.tid) (slice_get attempts st.attempt) in
    let here : test step ≡ same_tid t a.tid = ap (holds_of (λ (x : Ticketed). same_tid t x.tid)) at in
    let named : is_eq (tid_cmp a.tid t) ≡ test step = is_eq-tid_cmp a.tid t ∙ sym here in
    or_joined (is_eq (tid_cmp a.tid t)) had has (test step) named (sym g)
    ∙ (ap (λ b. b || test step) f ∙ (sym (some_of-push test steps step) ∙ ap (λ ss. is_reached_tid attempts ss t) (sym e)))
