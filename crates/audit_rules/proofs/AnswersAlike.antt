-- Answers with the same numbers are the same.
use Rattle.std.proofs.Common.{◌≡◌, ℕ, zero, suc, Bool, true, false, Option, Some, None, List, [], ◌∷◌, ◌&&◌, ◌==◌, refl, sym, ap, ◌∙◌, arith}
use Rattle.mdb_base.specs.declared.names.Tid.{Tid}
use Rattle.mdb_base.specs.declared.replies.Edge.{Edge}
use Rattle.mdb_base.specs.declared.replies.Reply.{Reply}
use Rattle.mdb_base.specs.declared.replies.Reply.TheVariants as Reply_is
use Rattle.mdb_base.specs.declared.replies.Why.{Why}
use Rattle.mdb_base.specs.declared.replies.Why.TheVariants as Because
use Rattle.mdb_base.specs.Words.{item_at, map_some}
use Rattle.mdb_base.proofs.ForCallers.{some_parts}
use Rattle.presumptions.specs.declared.Decision.{Decision}
use Rattle.presumptions.specs.declared.Decision.TheVariants as Decided
use Rattle.fed_rules.specs.declared.answers.Answer.{Answer}
use Rattle.fed_rules.specs.declared.answers.Answer.TheVariants as Say
use Rattle.fed_rules.specs.declared.answers.Cause.{Cause}
use Rattle.fed_rules.specs.declared.answers.Cause.TheVariants as For
use Rattle.fed_rules.specs.declared.commands.Place.{Place}
use Rattle.audit_rules.specs.Same.{same_numbers, numbers, why_numbers, reply_numbers, no_numbers, decision_number, flag_number, edges_numbers, cause_numbers, same_answer, same_places}

pub numbers_alike : (ms ns : List ℕ) → same_numbers ms ns ≡ true → ms ≡ ns
numbers_alike [] [] e = refl
numbers_alike [] (n ∷ ns) e = cc
numbers_alike (m ∷ ms) [] e = cc
numbers_alike (m ∷ ms) (n ∷ ns) e = by_head (m == n) refl e (λ g. numbers_alike ms ns g) where
  by_head : (b : Bool) → (m == n) ≡ b → (b && same_numbers ms ns) ≡ true → (same_numbers ms ns ≡ true → ms ≡ ns) → m ∷ ms ≡ n ∷ ns
  by_head true f g rest = let h : m ≡ n = grind arith in ap (λ x. x ∷ ms) h ∙ ap (λ xs. n ∷ xs) (rest g)
  by_head false f g rest = cc

pub numbers_self : (ns : List ℕ) → same_numbers ns ns ≡ true
numbers_self [] = refl
numbers_self (n ∷ ns) = let h : (n == n) ≡ true = grind arith in ap (λ b. b && same_numbers ns ns) h ∙ numbers_self ns

-- an answer, or a part of one, again from its numbers
only : {A : Type 0} → A → List ℕ → Option A
only x [] = Some x
only x (n ∷ ns) = None

with_one : {A : Type 0} → (ℕ → A) → List ℕ → Option A
with_one f [] = None
with_one f (n ∷ []) = Some (f n)
with_one f (n ∷ m ∷ ns) = None

with_two : {A : Type 0} → (ℕ → ℕ → A) → List ℕ → Option A
with_two f [] = None
with_two f (m ∷ ns) = with_one (f m) ns

with_three : {A : Type 0} → (ℕ → ℕ → ℕ → A) → List ℕ → Option A
with_three f [] = None
with_three f (m ∷ ns) = with_two (f m) ns

first_two : {A : Type 0} → (ℕ → ℕ → List ℕ → Option A) → List ℕ → Option A
first_two f [] = None
first_two f (m ∷ []) = None
first_two f (m ∷ n ∷ ns) = f m n ns

named : ℕ → ℕ → Tid
named t a = record { tx = record { 0 = t }; attempt = a }

with_tid : {A : Type 0} → (Tid → A) → List ℕ → Option A
with_tid f ns = with_two (λ t a. f (named t a)) ns

by_reader : {A : Type 0} → Option (List ℕ → Option A) → List ℕ → Option A
by_reader None rest = None
by_reader (Some reader) rest = reader rest

-- what reads the rest, by the number in front
behind : {A : Type 0} → List (List ℕ → Option A) → List ℕ → Option A
behind table [] = None
behind table (n ∷ rest) = by_reader (item_at table n) rest

whys : List (List ℕ → Option Why)
whys = with_tid Because.Die ∷ with_tid Because.Late ∷ with_three (λ t a k. Because.Invalid (named t a) (record { 0 = k })) ∷ with_tid Because.TicketMoved ∷ []

read_why : List ℕ → Option Why
read_why = behind whys

replies : List (List ℕ → Option Reply)
replies =
    only Reply_is.Done ∷ with_one Reply_is.Value ∷ with_one Reply_is.Ticket ∷ with_tid Reply_is.Wait ∷ only Reply_is.Unknown
    ∷ (λ ns. map_some Reply_is.Refused (read_why ns)) ∷ []

read_reply : List ℕ → Option Reply
read_reply = behind replies

nos : List (List ℕ → Option (Option Why))
nos = only None ∷ (λ ns. map_some Some (read_why ns)) ∷ []

decision : ℕ → Decision
decision zero = Decided.Commit
decision (suc n) = Decided.Abort

flag : ℕ → Bool
flag zero = false
flag (suc n) = true

read_edges : List ℕ → Option (List Edge)
read_edges [] = Some []
read_edges (a ∷ []) = None
read_edges (a ∷ b ∷ []) = None
read_edges (a ∷ b ∷ c ∷ []) = None
read_edges (a ∷ b ∷ c ∷ d ∷ []) = None
read_edges (a ∷ b ∷ c ∷ d ∷ e ∷ ns) =
    map_some (λ edges. record { from = named a b; to = named c d; site = record { 0 = e } } ∷ edges) (read_edges ns)

causes : List (List ℕ → Option (Option Cause))
causes =
    only None ∷ only (Some For.Late) ∷ with_three (λ s t a. Some (For.Dies (record { 0 = s }) (named t a)))
    ∷ with_three (λ s t a. Some (For.TooLate (record { 0 = s }) (named t a))) ∷ with_one (λ s. Some (For.Unknown (record { 0 = s })))
    ∷ with_one (λ s. Some (For.No (record { 0 = s }))) ∷ (λ ns. map_some (λ edges. Some (For.Cycle edges)) (read_edges ns)) ∷ []

answers : List (List ℕ → Option Answer)
answers =
    only Say.None ∷ only Say.Down ∷ only Say.Idle ∷ only Say.Spent ∷ only Say.End ∷ only Say.Unfinished ∷ only Say.Unbegun ∷ only Say.Ended
    ∷ only Say.Set ∷ only Say.Awake ∷ only Say.Only ∷ only Say.Defers ∷ only Say.Ignored ∷ only Say.TookWaits ∷ only Say.Voted
    ∷ only Say.Acked ∷ only Say.Forgets ∷ only Say.Undecided ∷ only Say.Initiates ∷ only Say.Large ∷ only Say.Checked
    ∷ with_tid Say.Committed ∷ with_tid Say.Running ∷ with_tid Say.Begun ∷ with_tid Say.Aborted ∷ with_tid Say.Unheld ∷ with_tid Say.Asks
    ∷ with_tid Say.Dropped ∷ with_two (λ k v. Say.Read (record { 0 = k }) v) ∷ with_two (λ k v. Say.Wrote (record { 0 = k }) v)
    ∷ with_tid Say.Waits ∷ with_tid Say.Dies ∷ with_tid Say.Late ∷ with_three (λ t a k. Say.Invalid (named t a) (record { 0 = k }))
    ∷ with_three (λ t a n. Say.Sealed (named t a) n) ∷ with_one Say.Stopped
    ∷ first_two (λ t a ns. map_some (Say.Did (named t a)) (read_reply ns))
    ∷ with_three (λ t a n. Say.VotesYes (named t a) n) ∷ first_two (λ t a ns. map_some (Say.VotesNo (named t a)) (behind nos ns))
    ∷ with_three (λ t a d. Say.Settles (named t a) (decision d)) ∷ with_one (λ d. Say.Answers (decision d))
    ∷ with_one (λ d. Say.Presumes (decision d))
    ∷ first_two (λ d f ns. map_some (λ cause. Say.Decides (decision d) cause (flag f)) (behind causes ns))
    ∷ with_two Say.UpSite ∷ with_one Say.UpCoord ∷ []

read_answer : List ℕ → Option Answer
read_answer = behind answers

opened : Unit {0}
unfolding only with_one with_two with_three first_two named with_tid behind by_reader whys read_why replies read_reply nos decision flag read_edges causes answers read_answer
opened = tt

why_again : (why : Why) → read_why (why_numbers why) ≡ Some why
unfolding opened
why_again (Because.Die by) = refl
why_again (Because.Late by) = refl
why_again (Because.Invalid by key) = refl
why_again (Because.TicketMoved by) = refl

reply_again : (reply : Reply) → read_reply (reply_numbers reply) ≡ Some reply
unfolding opened
reply_again Reply_is.Done = refl
reply_again (Reply_is.Value value) = refl
reply_again (Reply_is.Ticket ticket) = refl
reply_again (Reply_is.Wait by) = refl
reply_again Reply_is.Unknown = refl
reply_again (Reply_is.Refused why) = ap (map_some Reply_is.Refused) (why_again why)

no_again : (why : Option Why) → behind nos (no_numbers why) ≡ Some why
unfolding opened
no_again None = refl
no_again (Some why) = ap (map_some Some) (why_again why)

decision_again : (d : Decision) → decision (decision_number d) ≡ d
unfolding opened
decision_again Decided.Commit = refl
decision_again Decided.Abort = refl

flag_again : (b : Bool) → flag (flag_number b) ≡ b
unfolding opened
flag_again false = refl
flag_again true = refl

edges_again : (edges : List Edge) → read_edges (edges_numbers edges) ≡ Some edges
unfolding opened
edges_again [] = refl
edges_again (edge ∷ edges) = ap (map_some (λ es. edge ∷ es)) (edges_again edges)

cause_again : (cause : Option Cause) → behind causes (cause_numbers cause) ≡ Some cause
unfolding opened
cause_again None = refl
cause_again (Some For.Late) = refl
cause_again (Some (For.Dies site by)) = refl
cause_again (Some (For.TooLate site by)) = refl
cause_again (Some (For.Unknown site)) = refl
cause_again (Some (For.No site)) = refl
cause_again (Some (For.Cycle edges)) = ap (map_some (λ es. Some (For.Cycle es))) (edges_again edges)

answer_again : (a : Answer) → read_answer (numbers a) ≡ Some a
unfolding opened
answer_again Say.None = refl
answer_again Say.Down = refl
answer_again Say.Idle = refl
answer_again Say.Spent = refl
answer_again Say.End = refl
answer_again Say.Unfinished = refl
answer_again Say.Unbegun = refl
answer_again Say.Ended = refl
answer_again Say.Set = refl
answer_again Say.Awake = refl
answer_again Say.Only = refl
answer_again Say.Defers = refl
answer_again Say.Ignored = refl
answer_again Say.TookWaits = refl
answer_again Say.Voted = refl
answer_again Say.Acked = refl
answer_again Say.Forgets = refl
answer_again Say.Undecided = refl
answer_again Say.Initiates = refl
answer_again Say.Large = refl
answer_again Say.Checked = refl
answer_again (Say.Committed tid) = refl
answer_again (Say.Running tid) = refl
answer_again (Say.Begun tid) = refl
answer_again (Say.Aborted tid) = refl
answer_again (Say.Unheld tid) = refl
answer_again (Say.Asks tid) = refl
answer_again (Say.Dropped tid) = refl
answer_again (Say.Waits tid) = refl
answer_again (Say.Dies tid) = refl
answer_again (Say.Late tid) = refl
answer_again (Say.Read key value) = refl
answer_again (Say.Wrote key value) = refl
answer_again (Say.Invalid by key) = refl
answer_again (Say.Sealed tid number) = refl
answer_again (Say.Stopped kept) = refl
answer_again (Say.Did tid reply) = ap (map_some (Say.Did tid)) (reply_again reply)
answer_again (Say.VotesYes tid ticket) = refl
answer_again (Say.VotesNo tid why) = ap (map_some (Say.VotesNo tid)) (no_again why)
answer_again (Say.Settles tid d) = ap (λ e. Some (Say.Settles tid e)) (decision_again d)
answer_again (Say.Answers d) = ap (λ e. Some (Say.Answers e)) (decision_again d)
answer_again (Say.Presumes d) = ap (λ e. Some (Say.Presumes e)) (decision_again d)
answer_again (Say.Decides d cause forgets) =
    ap (map_some (λ c. Say.Decides (decision (decision_number d)) c (flag (flag_number forgets)))) (cause_again cause)
    ∙ ap (λ e. Some (Say.Decides e cause (flag (flag_number forgets)))) (decision_again d)
    ∙ ap (λ b. Some (Say.Decides d cause b)) (flag_again forgets)
answer_again (Say.UpSite epoch doubtful) = refl
answer_again (Say.UpCoord known) = refl

-- answers that the test takes for the same are the same, and each is the same as itself
pub answers_alike : (a b : Answer) → same_answer a b ≡ true → a ≡ b
answers_alike a b e = some_parts (sym (answer_again a) ∙ ap read_answer (numbers_alike (numbers a) (numbers b) e) ∙ answer_again b)

pub answers_self : (a : Answer) → same_answer a a ≡ true
answers_self a = numbers_self (numbers a)

-- so it is of places
pub places_alike : (ps qs : List Place) → same_places ps qs ≡ true → ps ≡ qs
places_alike [] [] e = refl
places_alike [] (q ∷ qs) e = cc
places_alike (p ∷ ps) [] e = cc
places_alike (p ∷ ps) (q ∷ qs) e = by_site (p.site.0 == q.site.0) refl e (λ g. places_alike ps qs g) where
  by_place : p.site.0 ≡ q.site.0 → (b : Bool) → (p.place == q.place) ≡ b → (b && same_places ps qs) ≡ true → (same_places ps qs ≡ true → ps ≡ qs) → p ∷ ps ≡ q ∷ qs
  by_place s true f g rest =
      let i : p.place ≡ q.place = grind arith in
      let one : p ≡ q = ap (λ n. record { site = record { 0 = n }; place = p.place }) s ∙ ap (λ n. record { site = q.site; place = n }) i in
      ap (λ x. x ∷ ps) one ∙ ap (λ xs. q ∷ xs) (rest g)
  by_place s false f g rest = cc

  by_site : (b : Bool) → (p.site.0 == q.site.0) ≡ b → (b && (p.place == q.place) && same_places ps qs) ≡ true → (same_places ps qs ≡ true → ps ≡ qs) → p ∷ ps ≡ q ∷ qs
  by_site true f g rest = by_place (grind arith) (p.place == q.place) refl g rest
  by_site false f g rest = cc

pub places_self : (ps : List Place) → same_places ps ps ≡ true
places_self [] = refl
places_self (p ∷ ps) =
    let s : (p.site.0 == p.site.0) ≡ true = grind arith in
    let i : (p.place == p.place) ≡ true = grind arith in
    ap (λ b. b && (p.place == p.place) && same_places ps ps) s ∙ ap (λ b. b && same_places ps ps) i ∙ places_self ps
