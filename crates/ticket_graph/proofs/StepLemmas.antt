-- Reaching attempts and meeting their entries, one by one.
use Rattle.std.proofs.Common.{ℕ, zero, suc, ◌+◌, ◌<◌, ◌≡◌, ◌==◌, Bool, true, false, cond, Option, Some, List, [], ◌∷◌, ◌++◌, length, get_or, slice_get, slice_set, refl, sym, ap, ◌∙◌, subst, inl, inr, arith, append_assoc, length-append}
use Rattle.std.proofs.lemmas.Bool.Decides.{nat_tests}
use Rattle.std.specs.Ordering.{is_eq}
use Rattle.std.specs.BTreeSet.{BTreeSet, contains, btree_set_len}
use Rattle.std.proofs.lemmas.Bool.{or_left, or_right}
use Rattle.mdb_base.specs.declared.names.SiteTicket.{SiteTicket}
use Rattle.mdb_base.specs.Words.{Each, Among}
use Rattle.mdb_base.proofs.ForCallers.{among_append, among_behind, append_each, each_map, some_of-push}
use Rattle.order_laws.proofs.ForCallers.{among_weaker, bool_is}
use Rattle.ticket_graph.specs.declared.entries.Entry.{Entry}
use Rattle.ticket_graph.specs.declared.steps.Step.{Step}
use Rattle.ticket_graph.specs.Entries.{entry_cmp}
use Rattle.ticket_graph.specs.Steps.{is_reached, IsStepTo, Reaches, Meets, IsAbove, IsStepAbove, Follows, IsDone}

append-nil : {A : Type 0} (xs : List A) → xs ≡ xs ++ []
append-nil [] = refl
append-nil (x ∷ xs) = ap (λ ys. x ∷ ys) (append-nil xs)

-- an attempt that was reached before
pub already : (entry : Entry) (from : Option ℕ) (steps : List Step) → is_reached steps entry.attempt ≡ true → Reaches entry from steps steps
already entry from steps h = record { added = []; grows = append-nil steps; one = omega arith; each = tt; reached = h }

-- the value that an index reads
pub read : {A : Type 0} (xs : List A) (i : ℕ) (x : A) → i < length xs → x ≡ get_or xs i x → slice_get xs i ≡ Some x
read [] i x h e = absurd (omega arith)
read (y ∷ ys) zero x h e = ap (λ z. Some z) (sym e)
read (y ∷ ys) (suc i) x h e = read ys i x (omega arith) e

same_number : (m n : ℕ) → (m == n) ≡ true → m ≡ n
same_number m n e = grind (arith, nat_tests)

number_self : (n : ℕ) → (n == n) ≡ true
number_self n = grind (arith, nat_tests)

set_elsewhere : {A : Type 0} (xs : List A) (i j : ℕ) (v : A) → (i == j) ≡ false → slice_get (slice_set xs i v) j ≡ slice_get xs j
set_elsewhere [] i j v e = refl
set_elsewhere (x ∷ xs) zero zero v e = cc
set_elsewhere (x ∷ xs) zero (suc j) v e = refl
set_elsewhere (x ∷ xs) (suc i) zero v e = refl
set_elsewhere (x ∷ xs) (suc i) (suc j) v e = set_elsewhere xs i j v (grind (arith, nat_tests))

seen_more : (seen : List Bool) (steps longer : List Step) (step : Step) → ((place : ℕ) → slice_get seen place ≡ Some true → is_reached steps place ≡ true) →
    longer ≡ steps ++ step ∷ [] → (place : ℕ) → (b : Bool) → (step.attempt == place) ≡ b →
    slice_get (slice_set seen step.attempt true) place ≡ Some true → is_reached (steps ++ step ∷ []) place ≡ true
seen_more seen steps longer step h e place true f g =
    some_of-push (λ s. s.attempt == place) steps step ∙ or_right (is_reached steps place) (step.attempt == place) f
seen_more seen steps longer step h e place false f g =
    some_of-push (λ s. s.attempt == place) steps step
    ∙ or_left (is_reached steps place) (step.attempt == place) (h place (sym (set_elsewhere seen step.attempt place true f) ∙ g))

-- what is marked as seen is reached, also with one more step and its mark
pub seen_reached : (seen : List Bool) (steps longer : List Step) (step : Step) → ((place : ℕ) → slice_get seen place ≡ Some true → is_reached steps place ≡ true) →
    longer ≡ steps ++ step ∷ [] → (place : ℕ) → slice_get (slice_set seen step.attempt true) place ≡ Some true → is_reached longer place ≡ true
seen_reached seen steps longer step h e place g =
    subst (λ ss. is_reached ss place ≡ true) (sym e) (seen_more seen steps longer step h e place (step.attempt == place) refl g)

same_entry : (a b : Entry) → is_eq (entry_cmp a b) ≡ true → b ≡ a
same_entry a b e = grind (arith, nat_tests)

pub met_before : (new had at : Bool) → new ≡ cond at false had → new ≡ true → had ≡ true
met_before new had true e f = cc
met_before new had false e f = sym e ∙ f

met_now : (new had at : Bool) → new ≡ cond at false had → had ≡ true → new ≡ false → at ≡ true
met_now new had true e f g = refl
met_now new had false e f g = cc

-- one entry taken out of the set
pub meets : (entry : Entry) (unmet left : BTreeSet Entry) → ((e : Entry) → contains entry_cmp left e ≡ cond (is_eq (entry_cmp entry e)) false (contains entry_cmp unmet e)) →
    btree_set_len left + 1 ≡ btree_set_len unmet → Meets entry unmet left
meets entry unmet left h n =
    record {
      others = λ e f. met_before (contains entry_cmp left e) (contains entry_cmp unmet e) (is_eq (entry_cmp entry e)) (h e) f;
      alone = λ e f g. same_entry entry e (met_now (contains entry_cmp left e) (contains entry_cmp unmet e) (is_eq (entry_cmp entry e)) (h e) f g);
      smaller = n;
    }

pub reached_longer : (steps added : List Step) (place : ℕ) → is_reached steps place ≡ true → is_reached (steps ++ added) place ≡ true
reached_longer [] added place h = cc
reached_longer (s ∷ steps) added place h =
    elim (bool_is (s.attempt == place)) [
      | inl e ↦ or_left (s.attempt == place) (is_reached (steps ++ added) place) e
      | inr e ↦ or_right (s.attempt == place) (is_reached (steps ++ added) place) (reached_longer steps added place (rw e at h))
    ]

-- nothing followed yet
pub follows_none : (from : Option ℕ) (tickets : List SiteTicket) (unmet : BTreeSet Entry) (steps : List Step) → Follows from tickets unmet steps unmet steps
follows_none from tickets unmet steps =
    record { added = []; grows = append-nil steps; each = tt; others = λ e h. h; reached = λ e f g. cc; smaller = omega arith }

above_before : (unmet left : BTreeSet Entry) (from : Option ℕ) → ((e : Entry) → contains entry_cmp left e ≡ true → contains entry_cmp unmet e ≡ true) →
    (ticket : SiteTicket) (step : Step) → IsStepAbove left from ticket step → IsStepAbove unmet from ticket step
above_before unmet left from h ticket step s = record { entry = s.entry; was_unmet = h s.entry s.was_unmet; above = s.above; goes = s.goes }

reached_by : (unmet left last : BTreeSet Entry) (steps longer : List Step) (e : Entry) → contains entry_cmp unmet e ≡ true → contains entry_cmp last e ≡ false →
    (contains entry_cmp unmet e ≡ true → contains entry_cmp left e ≡ false → is_reached longer e.attempt ≡ true) →
    (contains entry_cmp left e ≡ true → contains entry_cmp last e ≡ false → is_reached longer e.attempt ≡ true) →
    is_reached longer e.attempt ≡ true
reached_by unmet left last steps longer e f g one two =
    elim (bool_is (contains entry_cmp left e)) [ inl h ↦ two h g | inr h ↦ one f h ]

-- one following after another
pub follows_both : (from : Option ℕ) (tickets : List SiteTicket) (unmet left last : BTreeSet Entry) (steps longer longest : List Step) →
    Follows from tickets unmet steps left longer → Follows from tickets left longer last longest → Follows from tickets unmet steps last longest
follows_both from tickets unmet left last steps longer longest f g =
    record {
      added = f.added ++ g.added;
      grows = g.grows ∙ (ap (λ ss. ss ++ g.added) f.grows ∙ append_assoc steps f.added g.added);
      each =
          append_each (λ step. Among (λ ticket. IsStepAbove unmet from ticket step) tickets) f.added g.added f.each
          (each_map (λ step. Among (λ ticket. IsStepAbove left from ticket step) tickets) (λ step. Among (λ ticket. IsStepAbove unmet from ticket step) tickets)
          (λ step. among_weaker (λ ticket. IsStepAbove left from ticket step) (λ ticket. IsStepAbove unmet from ticket step)
          (λ ticket. above_before unmet left from f.others ticket step) tickets) g.added g.each);
      others = λ e h. f.others e (g.others e h);
      reached = λ e h k. reached_by unmet left last steps longest e h k
          (λ m n. subst (λ ss. is_reached ss e.attempt ≡ true) (sym g.grows) (reached_longer longer g.added e.attempt (f.reached e m n))) (g.reached e);
      smaller = let a = f.smaller in let b = g.smaller in omega arith;
    }

-- of some tickets, and of one more
pub follows_more : (from : Option ℕ) (tickets more : List SiteTicket) (ticket : SiteTicket) (unmet left last : BTreeSet Entry) (steps longer longest : List Step) →
    more ≡ tickets ++ ticket ∷ [] → Follows from tickets unmet steps left longer → Follows from (ticket ∷ []) left longer last longest →
    Follows from more unmet steps last longest
follows_more from tickets more ticket unmet left last steps longer longest e f g =
    subst (λ ts. Follows from ts unmet steps last longest) (sym e)
    (follows_both from (tickets ++ ticket ∷ []) unmet left last steps longer longest
    (record {
      added = f.added;
      grows = f.grows;
      others = f.others;
      reached = f.reached;
      smaller = f.smaller;
      each = each_map _ (λ step. Among (λ t. IsStepAbove unmet from t step) (tickets ++ ticket ∷ []))
          (λ step. among_append (λ t. IsStepAbove unmet from t step) tickets (ticket ∷ [])) f.added f.each;
    })
    (record {
      added = g.added;
      grows = g.grows;
      others = g.others;
      reached = g.reached;
      smaller = g.smaller;
      each = each_map _ (λ step. Among (λ t. IsStepAbove left from t step) (tickets ++ ticket ∷ []))
          (λ step. among_behind (λ t. IsStepAbove left from t step) tickets (ticket ∷ [])) g.added g.each;
    }))

above_each : (unmet : BTreeSet Entry) (from : Option ℕ) (ticket : SiteTicket) (entry : Entry) → contains entry_cmp unmet entry ≡ true → IsAbove ticket entry →
    (added : List Step) → Each (IsStepTo entry from) added → Each (λ step. Among (λ t. IsStepAbove unmet from t step) (ticket ∷ [])) added
above_each unmet from ticket entry h above [] e = tt
above_each unmet from ticket entry h above (s ∷ added) e =
    (inl (record { entry = entry; was_unmet = h; above = above; goes = e.0 }), above_each unmet from ticket entry h above added e.1)

-- an entry above the ticket that is met
pub follows_one : (from : Option ℕ) (ticket : SiteTicket) (entry : Entry) (unmet left : BTreeSet Entry) (steps longer : List Step) →
    contains entry_cmp unmet entry ≡ true → IsAbove ticket entry → Meets entry unmet left → Reaches entry from steps longer →
    Follows from (ticket ∷ []) unmet steps left longer
follows_one from ticket entry unmet left steps longer h above m r =
    record {
      added = r.added;
      grows = r.grows;
      each = above_each unmet from ticket entry h above r.added r.each;
      others = m.others;
      reached = λ e f g. subst (λ x. is_reached longer x.attempt ≡ true) (sym (m.alone e f g)) r.reached;
      smaller = let a = m.smaller in let b = r.one in let n = ap length r.grows ∙ length-append steps r.added in omega arith;
    }

-- a ticket that is done stays done
pub done_still : (unmet left : BTreeSet Entry) (ticket : SiteTicket) → ((e : Entry) → contains entry_cmp left e ≡ true → contains entry_cmp unmet e ≡ true) →
    IsDone unmet ticket → IsDone left ticket
done_still unmet left ticket h d e above =
    elim (bool_is (contains entry_cmp left e)) [ inl f ↦ let g = h e f in let k = d e above in cc | inr f ↦ f ]

-- the tickets that are done, and one more
pub done_more : (tickets more : List SiteTicket) (ticket : SiteTicket) (unmet left : BTreeSet Entry) → more ≡ tickets ++ ticket ∷ [] →
    ((e : Entry) → contains entry_cmp left e ≡ true → contains entry_cmp unmet e ≡ true) →
    Each (IsDone unmet) tickets → IsDone left ticket → Each (IsDone left) more
done_more tickets more ticket unmet left e h done one =
    subst (Each (IsDone left)) (sym e)
    (append_each (IsDone left) tickets (ticket ∷ [])
    (each_map (IsDone unmet) (IsDone left) (λ t. done_still unmet left t h) tickets done) (one, tt))

-- the item at a place within the list, whatever stands for the others
pub here : {A : Type 0} (xs : List A) (i : ℕ) (d : A) → i < length xs → slice_get xs i ≡ Some (get_or xs i d)
here [] i d h = absurd (omega arith)
here (y ∷ ys) zero d h = refl
here (y ∷ ys) (suc i) d h = here ys i d (omega arith)
