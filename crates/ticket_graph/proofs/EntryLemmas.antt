-- The set of the tickets of all attempts, ticket by ticket and attempt by attempt.
use Rattle.std.proofs.Common.{ℕ, zero, suc, ◌+◌, ◌<◌, ◌≡◌, ◌==◌, Bool, true, false, cond, ◌&&◌, ◌||◌, List, [], ◌∷◌, ◌++◌, length, take, get_or, slice_get, refl, sym, ap, ◌∙◌, arith}
use Rattle.std.proofs.lemmas.Bool.Decides.{nat_tests}
use Rattle.std.proofs.lemmas.List.{take_more, length-take}
use Rattle.std.specs.Ordering.{is_eq}
use Rattle.mdb_base.specs.declared.names.SiteTicket.{SiteTicket}
use Rattle.mdb_base.specs.Words.{some_of, holds_of}
use Rattle.mdb_base.proofs.ForCallers.{some_of-push, suc_not_zero}
use Rattle.order_laws.specs.Tickets.{Ticketed}
use Rattle.ticket_graph.specs.declared.entries.Entry.{Entry}
use Rattle.ticket_graph.specs.Entries.{entry_cmp, is_ticket, is_entry}

-- the entry of a ticket
pub is_eq-entry_cmp : (t : SiteTicket) (place : ℕ) (e : Entry) →
    is_eq (entry_cmp (record { site = t.site; ticket = t.ticket; attempt = place }) e) ≡ ((e.attempt == place) && is_ticket e t)
is_eq-entry_cmp t place e = grind (arith, nat_tests)

join : (has new had was place some one : Bool) → new ≡ (place && one) → has ≡ cond new true had → had ≡ (was || (place && some)) →
    has ≡ (was || (place && (some || one)))
join has new had true place some one e f g = rw (f, g) (always new)
  where
    always : (b : Bool) → cond b true true ≡ true
    always true = refl
    always false = refl
join has new had false true some one e f g = rw (f, g, e) (either one some)
  where
    either : (a b : Bool) → cond a true b ≡ (b || a)
    either true true = refl
    either true false = refl
    either false true = refl
    either false false = refl
join has new had false false some one e f g = rw (f, g, e) refl

-- one more ticket of the attempt
pub one_ticket : (tickets : List SiteTicket) (i place : ℕ) (d : SiteTicket) (e : Entry) (has had was : Bool) → i < length tickets →
    has ≡ cond (is_eq (entry_cmp (record { site = (get_or tickets i d).site; ticket = (get_or tickets i d).ticket; attempt = place }) e)) true had →
    had ≡ (was || ((e.attempt == place) && some_of (is_ticket e) (take i tickets))) →
    has ≡ (was || ((e.attempt == place) && some_of (is_ticket e) (take (i + 1) tickets)))
one_ticket tickets i place d e has had was h f g =
    let t = get_or tickets i d in
    let more : some_of (is_ticket e) (take (i + 1) tickets) ≡ (some_of (is_ticket e) (take i tickets) || is_ticket e t) =
    ap (some_of (is_ticket e)) (take_more tickets i d h) ∙ some_of-push (is_ticket e) (take i tickets) t in
    rw more (join has (is_eq (entry_cmp (record { site = t.site; ticket = t.ticket; attempt = place }) e)) had was (e.attempt == place)
    (some_of (is_ticket e) (take i tickets)) (is_ticket e t) (is_eq-entry_cmp t place e) f g)

no_zero : (n : ℕ) → (0 == suc n) ≡ false
no_zero n = grind (arith, nat_tests)

suc-both : (m n : ℕ) → (suc m == suc n) ≡ (m == n)
suc-both m n = grind (arith, nat_tests)

or_no : (b c d : Bool) → d ≡ false → b ≡ (b || (d && c))
or_no true c d e = refl
or_no false c d e = rw e refl

-- a test of the item at a place of a list with one more item
pub look-push : {A : Type 0} (f : A → Bool) (xs : List A) (y : A) (j : ℕ) →
    holds_of f (slice_get (xs ++ y ∷ []) j) ≡ (holds_of f (slice_get xs j) || ((j == length xs) && f y))
look-push f [] y zero = refl
look-push f [] y (suc j) = or_no false (f y) (suc j == 0) (suc_not_zero j)
look-push f (x ∷ xs) y zero = or_no (f x) (f y) (0 == suc (length xs)) (no_zero (length xs))
look-push f (x ∷ xs) y (suc j) = look-push f xs y j ∙ ap (λ b. holds_of f (slice_get xs j) || (b && f y)) (sym (suc-both j (length xs)))

-- one more attempt
pub one_attempt : (attempts : List Ticketed) (i : ℕ) (a : Ticketed) (e : Entry) (has had : Bool) → i < length attempts → get_or attempts i a ≡ a →
    has ≡ (had || ((e.attempt == i) && some_of (is_ticket e) a.tickets)) → had ≡ is_entry (take i attempts) e → has ≡ is_entry (take (i + 1) attempts) e
one_attempt attempts i a e has had h at f g =
    let test : Ticketed → Bool = λ b. some_of (is_ticket e) b.tickets in
    let size : length (take i attempts) ≡ i = omega (arith, length-take i attempts) in
    let more : take (i + 1) attempts ≡ take i attempts ++ a ∷ [] = take_more attempts i a h ∙ ap (λ b. take i attempts ++ b ∷ []) at in
    let look : is_entry (take (i + 1) attempts) e ≡ (is_entry (take i attempts) e || ((e.attempt == i) && some_of (is_ticket e) a.tickets)) =
    ap (λ xs. is_entry xs e) more ∙ (look-push test (take i attempts) a e.attempt ∙ ap (λ n. is_entry (take i attempts) e || ((e.attempt == n) && test a)) size) in
    f ∙ (ap (λ b. b || ((e.attempt == i) && some_of (is_ticket e) a.tickets)) g ∙ sym look)
