-- A draft has one part for each line that it took, and so only so many lines can be taken.
use Rattle.std.proofs.Common.{◌≡◌, ℕ, suc, ◌+◌, ◌*◌, ◌≤◌, Bool, true, false, ◌&&◌, eqb, ltb, leb, IsTrue, List, [], ◌∷◌, ◌++◌, length, Option, Some, None, refl, ap, subst, arith, inl, inr}
use Rattle.std.proofs.lemmas.Bool.{leb-true, eqb-true, lt-ltb, or_cases}
use Rattle.std.proofs.lemmas.List.{length-append}
use Rattle.mdb_base.specs.declared.names.SiteId.{SiteId}
use Rattle.mdb_base.specs.declared.names.Tx.{Tx}
use Rattle.mdb_base.specs.declared.acts.Step.{Step}
use Rattle.mdb_base.specs.Names.{same_tx}
use Rattle.mdb_base.specs.Words.{some_of, each_of, how_many}
use Rattle.fed_rules.specs.declared.commands.Command.{Command}
use Rattle.fed_rules.specs.declared.scenario.SiteLine.{SiteLine}
use Rattle.fed_rules.specs.declared.scenario.ItemLine.{ItemLine}
use Rattle.fed_rules.specs.declared.scenario.TxLine.{TxLine}
use Rattle.fed_rules.specs.declared.scenario.LinkLine.{LinkLine}
use Rattle.fed_rules.specs.declared.scenario.StopLine.{StopLine}
use Rattle.fed_rules.specs.Plans.{AreSites, AreItems, AreTransactions, AreStops, most_items, most_links, most_stops, is_between, is_declared, is_actor, is_transaction, is_stop, declares, has_site, stops_actor, one_row, one_message}
use Rattle.scenario_text.specs.declared.draft.Draft.{Draft}
use Rattle.scenario_text.specs.declared.entry.Entry.{Entry}
use Rattle.scenario_text.specs.declared.entry.Entry.TheVariants as says
use Rattle.scenario_text.specs.CommandLines.{command_line}
use Rattle.scenario_text.specs.Drafts.{most_commands, with_site, with_item, as_program, with_transaction, with_link, with_stop, with_command, with_setting, with_entry}
use Rattle.scenario_text.specs.Kept.{IsDraft}
use Rattle.scenario_text.specs.Pieces.{TextLine, words_of}
use Rattle.scenario_text.specs.Texts.{entry_of, whole_line, with_line}
use Rattle.scenario_text.proofs.CountLemmas.{length_by_number, once_each}
use Rattle.scenario_text.proofs.ListLemmas.{first, second, each_of-weaker}
use Rattle.scenario_text.proofs.Readings.{Reads, reads_ok, reads_err, reads_bind, reads_any, reads_all, reads_by, reads_unless}

abbrev of_setting : {A : Type 0} → Option A → ℕ
of_setting None = 0
of_setting (Some x) = 1

abbrev of_flag : Bool → ℕ
of_flag true = 1
of_flag false = 0

-- how many lines a draft took
abbrev pub size : Draft → ℕ
size d =
    length d.sites + length d.items + length d.transactions + of_setting d.clients + of_setting d.turns + of_setting d.tries + of_setting d.conservative + length d.links + length d.stops + of_flag d.in_commands + length d.commands

-- ---- one more for each line

one_more : {A : Type 0} (xs : List A) (y : A) → length (xs ++ y ∷ []) ≡ suc (length xs)
one_more xs y = omega (arith, length-append xs (y ∷ []))

site_sized : (line : SiteLine) (lines : List SiteLine) → Reads (λ more. length more ≡ suc (length lines)) (with_site line lines)
unfolding with_site
site_sized line lines = reads_unless (some_of (declares line.site) lines) _ _ (λ new. reads_ok _ (one_more lines line))

item_sized : (line : ItemLine) (lines : List ItemLine) → Reads (λ more. length more ≡ suc (length lines)) (with_item line lines)
unfolding with_item
item_sized line lines =
    reads_unless (some_of (one_row line) lines) _ _ (λ new.
    reads_unless (leb most_items (how_many (has_site line.site) lines)) _ _ (λ room. reads_ok _ (one_more lines line)))

transaction_sized : (tx : Tx) (home : Option SiteId) (steps : List Step) (lines : List TxLine) → Reads (λ more. length more ≡ suc (length lines)) (with_transaction tx home steps lines)
unfolding with_transaction
transaction_sized tx home steps lines =
    reads_unless (some_of (λ line. same_tx line.tx tx) lines) _ _ (λ new.
    reads_bind (as_program steps) (reads_any _) (λ program p. reads_ok _ (one_more lines (record { tx = tx; home = home; program = program }))))

link_sized : (line : LinkLine) (lines : List LinkLine) → Reads (λ more. length more ≡ suc (length lines)) (with_link line lines)
unfolding with_link
link_sized line lines =
    reads_unless (some_of (one_message line) lines) _ _ (λ new.
    reads_unless (leb most_links (length lines)) _ _ (λ room. reads_ok _ (one_more lines line)))

stop_sized : (line : StopLine) (lines : List StopLine) → Reads (λ more. length more ≡ suc (length lines)) (with_stop line lines)
unfolding with_stop
stop_sized line lines = reads_unless (leb most_stops (how_many (stops_actor line.actor) lines)) _ _ (λ room. reads_ok _ (one_more lines line))

command_sized : (c : Command) (cs : List Command) → Reads (λ more. length more ≡ suc (length cs)) (with_command c cs)
unfolding with_command
command_sized c cs = reads_unless (leb most_commands (length cs)) _ _ (λ room. reads_ok _ (one_more cs c))

setting_sized : {A : Type 0} (x : A) (old : Option A) → Reads (λ more. of_setting more ≡ suc (of_setting old)) (with_setting x old)
unfolding with_setting
setting_sized x None = reads_ok _ refl
setting_sized x (Some y) = reads_err _

-- where the commands have begun, the line isn't one that begins them
abbrev Follows : Draft → Entry → Type 0
Follows d says.Commands = d.in_commands ≡ false
Follows d e = Unit {0}

entry_sized : (e : Entry) (d : Draft) → Follows d e → Reads (λ more. size more ≡ suc (size d)) (with_entry e d)
unfolding with_entry
entry_sized (says.Site line) d f = reads_bind (with_site line d.sites) (site_sized line d.sites) (λ lines h. reads_ok _ (omega (arith, h)))
entry_sized (says.Item line) d f = reads_bind (with_item line d.items) (item_sized line d.items) (λ lines h. reads_ok _ (omega (arith, h)))
entry_sized (says.Transaction tx home steps) d f =
    reads_bind (with_transaction tx home steps d.transactions) (transaction_sized tx home steps d.transactions) (λ lines h. reads_ok _ (omega (arith, h)))
entry_sized (says.Clients n) d f = reads_bind (with_setting n d.clients) (setting_sized n d.clients) (λ o h. reads_ok _ (omega (arith, h)))
entry_sized (says.Turns n) d f = reads_bind (with_setting n d.turns) (setting_sized n d.turns) (λ o h. reads_ok _ (omega (arith, h)))
entry_sized (says.Tries n) d f = reads_bind (with_setting n d.tries) (setting_sized n d.tries) (λ o h. reads_ok _ (omega (arith, h)))
entry_sized (says.Policy c) d f = reads_bind (with_setting c d.conservative) (setting_sized c d.conservative) (λ o h. reads_ok _ (omega (arith, h)))
entry_sized (says.Link line) d f = reads_bind (with_link line d.links) (link_sized line d.links) (λ lines h. reads_ok _ (omega (arith, h)))
entry_sized (says.Stop line) d f = reads_bind (with_stop line d.stops) (stop_sized line d.stops) (λ lines h. reads_ok _ (omega (arith, h)))
entry_sized says.Commands d f = reads_ok _ (let flag : of_flag d.in_commands ≡ 0 = ap of_flag f in omega (arith, flag))
entry_sized (says.Command c) d f = reads_bind (with_command c d.commands) (command_sized c d.commands) (λ cs h. reads_ok _ (omega (arith, h)))

before_commands : (d : Draft) (e : Entry) → d.in_commands ≡ false → Follows d e
before_commands d (says.Site line) h = tt
before_commands d (says.Item line) h = tt
before_commands d (says.Transaction tx home steps) h = tt
before_commands d (says.Clients n) h = tt
before_commands d (says.Turns n) h = tt
before_commands d (says.Tries n) h = tt
before_commands d (says.Policy conservative) h = tt
before_commands d (says.Link line) h = tt
before_commands d (says.Stop line) h = tt
before_commands d says.Commands h = h
before_commands d (says.Command c) h = tt

entry_follows : (with_commands : Bool) (d : Draft) (words : List (List ℕ)) → Reads (Follows d) (entry_of with_commands d words)
unfolding entry_of
entry_follows with_commands d words =
    reads_by d.in_commands _ _ (λ begun. reads_bind (command_line d.sites words) (reads_any _) (λ c p. reads_ok _ tt))
    (λ before. reads_all _ (λ e. before_commands d e before))

pub line_sized : (with_commands : Bool) (line : TextLine) (d : Draft) → Reads (λ more. size more ≡ suc (size d)) (with_line with_commands line d)
unfolding with_line
line_sized with_commands line d =
    reads_bind (whole_line line) (reads_any _) (λ bytes p.
    reads_bind (entry_of with_commands d (words_of bytes)) (entry_follows with_commands d (words_of bytes)) (λ e f. entry_sized e d f))

-- ---- how large a draft can be

below_nine : (n : ℕ) → IsTrue (is_between 1 8 n) → IsTrue (ltb n 9)
below_nine n h = let most = leb-true n 8 (second (leb 1 n) (leb n 8) h) in lt-ltb n 9 (omega arith)

declared_low : (sites : List SiteLine) (site : SiteId) → IsTrue (each_of (λ line. is_between 1 8 line.site.0) sites) → IsTrue (is_declared sites site) → IsTrue (ltb site.0 9)
declared_low [] site range there = absurd cc
declared_low (line ∷ lines) site range there =
    elim (or_cases (eqb line.site.0 site.0) _ there) [
      | inl here ↦
          let same : line.site.0 ≡ site.0 = eqb-true _ _ here in
          subst (λ n. IsTrue (ltb n 9)) same (below_nine line.site.0 (first (is_between 1 8 line.site.0) _ range))
      | inr later ↦ declared_low lines site (second (is_between 1 8 line.site.0) _ range) later
    ]

actor_low : (sites : List SiteLine) (actor : ℕ) → IsTrue (each_of (λ line. is_between 1 8 line.site.0) sites) → IsTrue (is_actor sites actor) → IsTrue (ltb actor 9)
actor_low sites actor range there =
    elim (or_cases (eqb actor 0) _ there) [
      | inl here ↦ (let none : actor ≡ 0 = eqb-true _ _ here in lt-ltb actor 9 (omega arith))
      | inr declared ↦ declared_low sites (record { 0 = actor }) range declared
    ]

setting_few : {A : Type 0} (o : Option A) → of_setting o ≤ 1
setting_few None = omega arith
setting_few (Some x) = omega arith

flag_few : (b : Bool) → of_flag b ≤ 1
flag_few true = omega arith
flag_few false = omega arith

sites_few : (sites : List SiteLine) → AreSites sites → length sites ≤ 9
sites_few sites kept =
    let low = each_of-weaker (λ line. is_between 1 8 line.site.0) (λ line. ltb line.site.0 9) (λ line. below_nine line.site.0) sites kept.range in
    let few = length_by_number (λ line. line.site.0) 1 9 sites low (λ k. once_each (λ line. line.site.0) k sites kept.differ) in
    omega (arith, few)

items_few : (sites : List SiteLine) (items : List ItemLine) → AreSites sites → AreItems sites items → length items ≤ 9 * most_items
items_few sites items declared kept =
    let low = each_of-weaker (λ line. is_declared sites line.site) (λ line. ltb line.site.0 9) (λ line. declared_low sites line.site declared.range) items kept.declared in
    length_by_number (λ line. line.site.0) most_items 9 items low (λ k. kept.few (record { 0 = k }))

transactions_few : (sites : List SiteLine) (lines : List TxLine) → AreTransactions sites lines → length lines ≤ 1025
transactions_few sites lines kept =
    let low = each_of-weaker (is_transaction sites) (λ line. ltb line.tx.0 1025) (λ line h.
    let most = leb-true line.tx.0 1024 (second (leb 1 line.tx.0) (leb line.tx.0 1024) (first (is_between 1 1024 line.tx.0) _ h)) in
    lt-ltb line.tx.0 1025 (omega arith)) lines kept.in_place in
    let few = length_by_number (λ line. line.tx.0) 1 1025 lines low (λ k. once_each (λ line. line.tx.0) k lines kept.differ) in
    omega (arith, few)

stops_few : (sites : List SiteLine) (stops : List StopLine) → AreSites sites → AreStops sites stops → length stops ≤ 9 * most_stops
stops_few sites stops declared kept =
    let low = each_of-weaker (is_stop sites) (λ line. ltb line.actor 9) (λ line h.
    actor_low sites line.actor declared.range (first (is_actor sites line.actor) _ (first (is_actor sites line.actor && is_between 1 1000 line.calls) _ h))) stops kept.range in
    length_by_number (λ line. line.actor) most_stops 9 stops low kept.few

-- no draft takes more than 108,111 lines
pub size_few : (d : Draft) → IsDraft d → size d ≤ 108111
size_few d kept =
    let z = kept.scenario in
    omega (arith, sites_few d.sites z.sites, items_few d.sites d.items z.sites z.items, transactions_few d.sites d.transactions z.transactions, setting_few d.clients, setting_few d.turns, setting_few d.tries, setting_few d.conservative, z.links.few, stops_few d.sites d.stops z.sites z.stops, flag_few d.in_commands, kept.commands.few)
