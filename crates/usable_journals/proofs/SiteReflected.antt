-- The tests of a site's journal say what its rules say.
use Rattle.std.proofs.Common.{ℕ, ◌+◌, length, take, drop, get_or, ◌<◌, ◌≤◌, ◌^◌, ◌≡◌, true, false, not, nat_lt, ◌↔◌, Option, Some, None, List, [], ◌∷◌, ◌++◌, reverse, refl, sym, ap, subst, ◌∙◌, arith, lt-ltb, ltb-true}
use Rattle.std.specs.Prelude.{max}
use Rattle.std.proofs.lemmas.List.{reverse-append}
use Rattle.mdb_base.specs.Words.{Each, each_of}
use Rattle.mdb_base.proofs.ForCallers.{each_map, is_true_both, is_true_parts, some_parts}
use Rattle.fed_rules.specs.declared.records.SiteRecord.{SiteRecord}
use Rattle.fed_rules.specs.declared.records.SiteRecord.TheVariants.{Setup, Start, Prepared, Ended, Local, Checkpoint}
use Rattle.fed_rules.specs.Reopened.{first_of, home_by, oldest}
use Rattle.fed_rules.specs.SiteRecords.{Held}
use Rattle.fed_rules.specs.Usable.{IsBelow, IsHeldBelow, IsOfSite, SetUpFirst, TicketsRise, home_of_first, tickets}
use Rattle.usable_journals.specs.SiteTests as tests
use Rattle.usable_journals.specs.SiteTests.{member_of, sets_up}
use Rattle.usable_journals.proofs.Recording.{reverse_more, reverse_rest}
use Rattle.usable_journals.proofs.Reflected.{Says, Tells, says_each, tells_each}

-- ---- in range

number_there : (n : ℕ) → tests.is_some_number n ≡ true → (1 ≤ n) × (n < 2 ^ 62)
number_there n e =
    let both = is_true_parts (nat_lt 0 n) (nat_lt n (2 ^ 62)) e in
    let some = ltb-true 0 n both.0 in
    (omega (arith, some), ltb-true n (2 ^ 62) both.1)

number_back : (n : ℕ) → 1 ≤ n → n < 2 ^ 62 → tests.is_some_number n ≡ true
number_back n some low = is_true_both (nat_lt 0 n) (nat_lt n (2 ^ 62)) (lt-ltb 0 n (omega (arith, some))) (lt-ltb n (2 ^ 62) low)

held_there : (held : Held) → tests.held_is_below held ≡ true → IsHeldBelow held
held_there held e =
    let one = is_true_parts (tests.is_some_number held.number) _ e in
    let two = is_true_parts (tests.is_some_number held.ticket) (tests.is_early held.epoch) one.1 in
    let number = number_there held.number one.0 in
    let ticket = number_there held.ticket two.0 in
    (number.0, number.1, ticket.0, ticket.1, ltb-true held.epoch (2 ^ 31) two.1)

held_back : (held : Held) → IsHeldBelow held → tests.held_is_below held ≡ true
held_back held h =
    is_true_both (tests.is_some_number held.number) _ (number_back held.number h.0 h.1)
    (is_true_both (tests.is_some_number held.ticket) (tests.is_early held.epoch) (number_back held.ticket h.2 h.3) (lt-ltb held.epoch (2 ^ 31) h.4))

held_tells : Tells tests.held_is_below IsHeldBelow
held_tells = record { there = held_there; back = held_back }

below_there : (r : SiteRecord) → tests.is_below r ≡ true → IsBelow r
below_there (Setup site engine protocol items) e = tt
below_there (Start epoch) e = ltb-true epoch (2 ^ 31) e
below_there (Prepared tid epoch number ticket writes) e = held_there (record { tid = tid; epoch = epoch; number = number; ticket = ticket; writes = writes }) e
below_there (Ended tid decision) e = tt
below_there (Local tid number writes) e = number_there number e
below_there (Checkpoint sum) e =
    let one = is_true_parts (tests.is_early sum.epoch) _ e in
    let two = is_true_parts (nat_lt sum.counter (2 ^ 62)) _ one.1 in
    let three = is_true_parts (nat_lt sum.published (2 ^ 62)) (each_of tests.held_is_below sum.doubtful) two.1 in
    (ltb-true sum.epoch (2 ^ 31) one.0, ltb-true sum.counter (2 ^ 62) two.0, ltb-true sum.published (2 ^ 62) three.0, (tells_each tests.held_is_below IsHeldBelow held_tells).there sum.doubtful three.1)

below_back : (r : SiteRecord) → IsBelow r → tests.is_below r ≡ true
below_back (Setup site engine protocol items) h = refl
below_back (Start epoch) h = lt-ltb epoch (2 ^ 31) h
below_back (Prepared tid epoch number ticket writes) h = held_back (record { tid = tid; epoch = epoch; number = number; ticket = ticket; writes = writes }) h
below_back (Ended tid decision) h = refl
below_back (Local tid number writes) h = number_back number h.0 h.1
below_back (Checkpoint sum) h =
    is_true_both (tests.is_early sum.epoch) _ (lt-ltb sum.epoch (2 ^ 31) h.0)
    (is_true_both (nat_lt sum.counter (2 ^ 62)) _ (lt-ltb sum.counter (2 ^ 62) h.1)
    (is_true_both (nat_lt sum.published (2 ^ 62)) (each_of tests.held_is_below sum.doubtful) (lt-ltb sum.published (2 ^ 62) h.2) ((tells_each tests.held_is_below IsHeldBelow held_tells).back sum.doubtful h.3)))

pub below_says : (records : List SiteRecord) → Says tests.is_below IsBelow records
below_says records = says_each tests.is_below IsBelow (record { there = below_there; back = below_back }) records

-- ---- a set-up stands first alone

pub first_is : (newer : List SiteRecord) (first : SiteRecord) → first_of (newer ++ first ∷ []) ≡ Some first
first_is [] first = refl
first_is (x ∷ newer) first = ap (λ (r : SiteRecord). Some r) (last x newer)
  where
    last : (y : SiteRecord) (ys : List SiteRecord) → oldest y (ys ++ first ∷ []) ≡ first
    last y [] = refl
    last y (z ∷ zs) = last z zs

abbrev NoSetUp : SiteRecord → Type 0
NoSetUp r = not (sets_up r) ≡ true

set_up_there : (newer : List SiteRecord) (first : SiteRecord) → Each NoSetUp newer → SetUpFirst (newer ++ first ∷ [])
set_up_there [] first none = tt
set_up_there (x ∷ newer) first none = next x newer none.0 (set_up_there newer first none.1)
  where
    next : (r : SiteRecord) (rs : List SiteRecord) → NoSetUp r → SetUpFirst (rs ++ first ∷ []) → SetUpFirst (r ∷ (rs ++ first ∷ []))
    next (Setup site engine protocol items) rs no_one rest = absurd cc
    next (Start epoch) [] no_one rest = rest
    next (Start epoch) (y ∷ rs) no_one rest = rest
    next (Prepared tid epoch number ticket writes) [] no_one rest = rest
    next (Prepared tid epoch number ticket writes) (y ∷ rs) no_one rest = rest
    next (Ended tid decision) [] no_one rest = rest
    next (Ended tid decision) (y ∷ rs) no_one rest = rest
    next (Local tid number writes) [] no_one rest = rest
    next (Local tid number writes) (y ∷ rs) no_one rest = rest
    next (Checkpoint sum) [] no_one rest = rest
    next (Checkpoint sum) (y ∷ rs) no_one rest = rest

set_up_back : (newer : List SiteRecord) (first : SiteRecord) → SetUpFirst (newer ++ first ∷ []) → Each NoSetUp newer
set_up_back [] first all = tt
set_up_back (x ∷ newer) first all = (here x newer all, set_up_back newer first (rest x newer all))
  where
    here : (r : SiteRecord) (rs : List SiteRecord) → SetUpFirst (r ∷ (rs ++ first ∷ [])) → NoSetUp r
    here (Setup site engine protocol items) [] h = absurd h
    here (Setup site engine protocol items) (y ∷ rs) h = absurd h
    here (Start epoch) rs h = refl
    here (Prepared tid epoch number ticket writes) rs h = refl
    here (Ended tid decision) rs h = refl
    here (Local tid number writes) rs h = refl
    here (Checkpoint sum) rs h = refl

    rest : (r : SiteRecord) (rs : List SiteRecord) → SetUpFirst (r ∷ (rs ++ first ∷ [])) → SetUpFirst (rs ++ first ∷ [])
    rest (Setup site engine protocol items) [] h = absurd h
    rest (Setup site engine protocol items) (y ∷ rs) h = absurd h
    rest (Start epoch) [] h = h
    rest (Start epoch) (y ∷ rs) h = h
    rest (Prepared tid epoch number ticket writes) [] h = h
    rest (Prepared tid epoch number ticket writes) (y ∷ rs) h = h
    rest (Ended tid decision) [] h = h
    rest (Ended tid decision) (y ∷ rs) h = h
    rest (Local tid number writes) [] h = h
    rest (Local tid number writes) (y ∷ rs) h = h
    rest (Checkpoint sum) [] h = h
    rest (Checkpoint sum) (y ∷ rs) h = h

plain_tells : Tells (λ (r : SiteRecord). not (sets_up r)) NoSetUp
plain_tells = record { there = λ r e. e; back = λ r e. e }

-- the first record is of the site, and no other one is a set-up
pub record Begins (number : ℕ) (records : List SiteRecord) : Type 0 where
  pub first : IsOfSite number (home_of_first (first_of (reverse records)))
  pub alone : SetUpFirst (reverse records)

pub split : (first : SiteRecord) (newer : List SiteRecord) → reverse (first ∷ newer) ≡ reverse newer ++ first ∷ []
split first newer = reverse-append (first ∷ []) newer

pub of_site : (number : ℕ) (first : SiteRecord) (newer : List SiteRecord) → IsOfSite number (home_by first) → IsOfSite number (home_of_first (first_of (reverse (first ∷ newer))))
of_site number first newer is = subst (λ o. IsOfSite number (home_of_first o)) (sym (ap first_of (split first newer) ∙ first_is (reverse newer) first)) is

pub site_of : (number : ℕ) (first : SiteRecord) (newer : List SiteRecord) → IsOfSite number (home_of_first (first_of (reverse (first ∷ newer)))) → IsOfSite number (home_by first)
site_of number first newer is = subst (λ o. IsOfSite number (home_of_first o)) (ap first_of (split first newer) ∙ first_is (reverse newer) first) is

pub alone_there : (first : SiteRecord) (newer : List SiteRecord) → each_of (λ (r : SiteRecord). not (sets_up r)) newer ≡ true → SetUpFirst (reverse (first ∷ newer))
alone_there first newer e = subst SetUpFirst (sym (split first newer)) (set_up_there (reverse newer) first ((says_each _ _ plain_tells newer).there e))

pub alone_back : (first : SiteRecord) (newer : List SiteRecord) → SetUpFirst (reverse (first ∷ newer)) → each_of (λ (r : SiteRecord). not (sets_up r)) newer ≡ true
alone_back first newer s = (says_each _ _ plain_tells newer).back (set_up_back (reverse newer) first (subst SetUpFirst (split first newer) s))

pub empty_begins : (number : ℕ) (records : List SiteRecord) → length records ≡ 0 →
    (false ≡ true) ↔ (IsOfSite number (home_of_first (first_of (reverse records))) × SetUpFirst (reverse records))
empty_begins number [] none = (λ e. absurd cc, λ h. absurd h.0)
empty_begins number (x ∷ records) none = absurd (omega (arith, none))

-- ---- lists of records that are walked over, the oldest first

-- one more record
pub walks_on : {A : Type 0} (P : List A → Type 0) (Q : A → List A → Type 0) → ((x : A) (xs : List A) → Q x xs → P xs → P (x ∷ xs)) → (xs : List A) (n : ℕ) (d : A) → n < length xs →
    P (reverse (take n xs)) → Q (get_or xs n d) (reverse (take n xs)) → P (reverse (take (n + 1) xs))
walks_on P Q more xs n d within before here = subst P (sym (reverse_more xs n d within)) (more (get_or xs n d) (reverse (take n xs)) here before)

front_walked : {A : Type 0} (P : List A → Type 0) (Q : A → List A → Type 0) → ((x : A) (xs : List A) → P (x ∷ xs) → Q x xs × P xs) → (newer older : List A) → P (newer ++ older) → P older
front_walked P Q parts [] older all = all
front_walked P Q parts (x ∷ newer) older all = front_walked P Q parts newer older (parts x (newer ++ older) all).1

-- what holds of all holds at each record
pub walked : {A : Type 0} (P : List A → Type 0) (Q : A → List A → Type 0) → ((x : A) (xs : List A) → P (x ∷ xs) → Q x xs × P xs) → (xs : List A) (n : ℕ) (d : A) → n < length xs →
    P (reverse xs) → Q (get_or xs n d) (reverse (take n xs))
walked P Q parts xs n d within all =
    (parts (get_or xs n d) (reverse (take n xs))
    (subst P (reverse_more xs n d within) (front_walked P Q parts (reverse (drop (n + 1) xs)) (reverse (take (n + 1) xs)) (subst P (reverse_rest xs (n + 1)) all)))).0

-- ---- tickets rise

-- the greatest of these, and else none of them is greater
abbrev IsUpTo : Option ℕ → ℕ → Type 0
IsUpTo None t = ⊥
IsUpTo (Some f) t = t ≤ f

up_more : (floor : Option ℕ) (n t : ℕ) → IsUpTo floor t → IsUpTo (Some (tests.greater_of floor n)) t
up_more None n t h = absurd h
up_more (Some f) n t h = omega (arith, h)

up_itself : (floor : Option ℕ) (n : ℕ) → IsUpTo (Some (tests.greater_of floor n)) n
up_itself None n = omega arith
up_itself (Some f) n = omega arith

floor_top : (rs : List SiteRecord) → Each (IsUpTo (tests.floor_of rs)) (tickets rs)
floor_top [] = tt
floor_top (Prepared tid epoch number ticket writes ∷ rs) =
    (up_itself (tests.floor_of rs) ticket, each_map (IsUpTo (tests.floor_of rs)) (IsUpTo (Some (tests.greater_of (tests.floor_of rs) ticket))) (λ t h. up_more (tests.floor_of rs) ticket t h) (tickets rs) (floor_top rs))
floor_top (Checkpoint sum ∷ rs) =
    (up_itself (tests.floor_of rs) sum.published, each_map (IsUpTo (tests.floor_of rs)) (IsUpTo (Some (tests.greater_of (tests.floor_of rs) sum.published))) (λ t h. up_more (tests.floor_of rs) sum.published t h) (tickets rs) (floor_top rs))
floor_top (Setup site engine protocol items ∷ rs) = floor_top rs
floor_top (Start epoch ∷ rs) = floor_top rs
floor_top (Ended tid decision ∷ rs) = floor_top rs
floor_top (Local tid number writes ∷ rs) = floor_top rs

-- a bound of all is one of the floor
floor_least : (rs : List SiteRecord) (n : ℕ) → Each (λ t. t < n) (tickets rs) → (f : ℕ) → tests.floor_of rs ≡ Some f → f < n
floor_least [] n h f is = absurd cc
floor_least (Prepared tid epoch number ticket writes ∷ rs) n h f is = by_floor (tests.floor_of rs) refl (floor_least rs n h.1)
  where
    by_floor : (o : Option ℕ) → tests.floor_of rs ≡ o → ((g : ℕ) → tests.floor_of rs ≡ Some g → g < n) → f < n
    by_floor None e rest = let same : f ≡ ticket = some_parts (sym is ∙ ap (λ p. Some (tests.greater_of p ticket)) e) in let low = h.0 in omega (arith, same, low)
    by_floor (Some g) e rest = let same : f ≡ max g ticket = some_parts (sym is ∙ ap (λ p. Some (tests.greater_of p ticket)) e) in let low = h.0 in let below = rest g e in omega (arith, same, low, below)
floor_least (Checkpoint sum ∷ rs) n h f is = by_floor (tests.floor_of rs) refl (floor_least rs n h.1)
  where
    by_floor : (o : Option ℕ) → tests.floor_of rs ≡ o → ((g : ℕ) → tests.floor_of rs ≡ Some g → g < n) → f < n
    by_floor None e rest = let same : f ≡ sum.published = some_parts (sym is ∙ ap (λ p. Some (tests.greater_of p sum.published)) e) in let low = h.0 in omega (arith, same, low)
    by_floor (Some g) e rest = let same : f ≡ max g sum.published = some_parts (sym is ∙ ap (λ p. Some (tests.greater_of p sum.published)) e) in let low = h.0 in let below = rest g e in omega (arith, same, low, below)
floor_least (Setup site engine protocol items ∷ rs) n h f is = floor_least rs n h f is
floor_least (Start epoch ∷ rs) n h f is = floor_least rs n h f is
floor_least (Ended tid decision ∷ rs) n h f is = floor_least rs n h f is
floor_least (Local tid number writes ∷ rs) n h f is = floor_least rs n h f is

-- what a record asks of those before it
abbrev pub TicketFits : SiteRecord → List SiteRecord → Type 0
TicketFits (Prepared tid epoch number ticket writes) older = Each (λ before. before < ticket) (tickets older)
TicketFits other older = Unit {0}

pub ticket_there : (entry : SiteRecord) (older : List SiteRecord) → tests.ticket_fits (tests.floor_of older) entry ≡ true → TicketFits entry older
ticket_there (Prepared tid epoch number ticket writes) older e = by_floor (tests.floor_of older) e (floor_top older)
  where
    below : (f : ℕ) → nat_lt f ticket ≡ true → (t : ℕ) → t ≤ f → t < ticket
    below f g t h = let low = ltb-true f ticket g in omega (arith, low, h)

    by_floor : (o : Option ℕ) → tests.is_over o ticket ≡ true → Each (IsUpTo o) (tickets older) → Each (λ before. before < ticket) (tickets older)
    by_floor None g top = each_map (IsUpTo None) (λ before. before < ticket) (λ t h. absurd h) (tickets older) top
    by_floor (Some f) g top = each_map (IsUpTo (Some f)) (λ before. before < ticket) (λ t h. below f g t h) (tickets older) top
ticket_there (Setup site engine protocol items) older e = tt
ticket_there (Start epoch) older e = tt
ticket_there (Ended tid decision) older e = tt
ticket_there (Local tid number writes) older e = tt
ticket_there (Checkpoint sum) older e = tt

pub ticket_back : (entry : SiteRecord) (older : List SiteRecord) → TicketFits entry older → tests.ticket_fits (tests.floor_of older) entry ≡ true
ticket_back (Prepared tid epoch number ticket writes) older h = by_floor (tests.floor_of older) refl
  where
    by_floor : (o : Option ℕ) → tests.floor_of older ≡ o → tests.is_over o ticket ≡ true
    by_floor None e = refl
    by_floor (Some f) e = lt-ltb f ticket (floor_least older ticket h f e)
ticket_back (Setup site engine protocol items) older h = refl
ticket_back (Start epoch) older h = refl
ticket_back (Ended tid decision) older h = refl
ticket_back (Local tid number writes) older h = refl
ticket_back (Checkpoint sum) older h = refl

pub tickets_more : (entry : SiteRecord) (older : List SiteRecord) → TicketFits entry older → TicketsRise older → TicketsRise (entry ∷ older)
tickets_more (Prepared tid epoch number ticket writes) older h rest = (h, rest)
tickets_more (Setup site engine protocol items) older h rest = rest
tickets_more (Start epoch) older h rest = rest
tickets_more (Ended tid decision) older h rest = rest
tickets_more (Local tid number writes) older h rest = rest
tickets_more (Checkpoint sum) older h rest = rest

pub tickets_parts : (entry : SiteRecord) (older : List SiteRecord) → TicketsRise (entry ∷ older) → TicketFits entry older × TicketsRise older
tickets_parts (Prepared tid epoch number ticket writes) older h = (h.0, h.1)
tickets_parts (Setup site engine protocol items) older h = (tt, h)
tickets_parts (Start epoch) older h = (tt, h)
tickets_parts (Ended tid decision) older h = (tt, h)
tickets_parts (Local tid number writes) older h = (tt, h)
tickets_parts (Checkpoint sum) older h = (tt, h)
