-- A draft keeps with each line that it takes what a scenario keeps.
use Rattle.std.proofs.Common.{◌≡◌, ℕ, suc, ◌<◌, ◌≤◌, Bool, true, false, cond, ◌&&◌, ◌||◌, eqb, leb, ltb, IsTrue, List, [], ◌∷◌, ◌++◌, length, Option, Some, None, Result, Ok, Err, refl, ap, subst, ◌∙◌, arith, inl, inr}
use Rattle.std.specs.Str.{bytes_eq}
use Rattle.std.specs.Prelude.{codes, is_some, ◌==◌}
use Rattle.std.proofs.lemmas.Bool.{leb-false, ltb-false, eqb-true, cases_Bool}
use Rattle.std.proofs.lemmas.List.{length-append}
use Rattle.mdb_base.specs.declared.names.SiteId.{SiteId}
use Rattle.mdb_base.specs.declared.names.Tx.{Tx}
use Rattle.mdb_base.specs.declared.acts.Step.{Step}
use Rattle.mdb_base.specs.Names.{same_site, same_key, same_tx}
use Rattle.mdb_base.specs.Programs.{IsProgram, bad_register, most_steps}
use Rattle.mdb_base.specs.Words.{some_of, each_of, how_many, or_else}
use Rattle.mdb_base.proofs.ForCallers.{each_pushed, is_true_both, no_number, some_of-push}
use Rattle.fed_rules.specs.declared.commands.Command.{Command}
use Rattle.fed_rules.specs.declared.scenario.SiteLine.{SiteLine}
use Rattle.fed_rules.specs.declared.scenario.ItemLine.{ItemLine}
use Rattle.fed_rules.specs.declared.scenario.TxLine.{TxLine}
use Rattle.fed_rules.specs.declared.scenario.LinkLine.{LinkLine}
use Rattle.fed_rules.specs.declared.scenario.StopLine.{StopLine}
use Rattle.fed_rules.specs.Plans.{AreSites, AreItems, AreTransactions, AreLinks, AreStops, most_items, most_links, most_stops, is_between, is_declared, is_in_place, is_transaction, is_link, is_stop, declares, has_site, stops_actor, one_site, one_row, one_transaction, one_message, same_way}
use Rattle.scenario_text.specs.declared.bad.BadWhy.{BadWhy}
use Rattle.scenario_text.specs.declared.bad.BadLine.{BadLine}
use Rattle.scenario_text.specs.declared.draft.Draft.{Draft}
use Rattle.scenario_text.specs.declared.entry.Entry.{Entry}
use Rattle.scenario_text.specs.declared.entry.Entry.TheVariants as says
use Rattle.scenario_text.specs.Drafts.{most_commands, default_clients, default_turns, default_tries, no_draft, with_site, with_item, as_program, with_transaction, with_link, with_stop, with_command, with_setting, with_entry}
use Rattle.scenario_text.specs.Kept.{IsEntry, IsTransaction, IsDraft, AreCommands, is_command}
use Rattle.scenario_text.specs.Reads.{counted}
use Rattle.scenario_text.specs.CommandLines.{command_line}
use Rattle.scenario_text.specs.Pieces.{TextLine, lines, words_of, first_word, only_one}
use Rattle.scenario_text.specs.Texts.{entry_of, whole_line, with_line, with_lines, numbered, draft_of}
use Rattle.scenario_text.proofs.EntryLemmas.{command_line_reads, scenario_line_reads}
use Rattle.scenario_text.proofs.ListLemmas.{some_of-same, how_many-push, second, each_of-weaker, each_of-more, all_differ-more}
use Rattle.scenario_text.proofs.Readings.{Reads, reads_ok, reads_err, reads_bind, reads_any, reads_unless, reads_either}
use Rattle.scenario_text.proofs.MoreSites.{Declares, transaction_more, link_more, stop_more, command_more}

-- ---- one more line of each kind

or_first : (a b : Bool) → IsTrue a → IsTrue (a || b)
or_first true b h = refl
or_first false b h = absurd cc

grown : (sites : List SiteLine) (line : SiteLine) → Declares sites (sites ++ line ∷ [])
grown sites line site h = some_of-push (declares site) sites line ∙ or_first _ _ h

sites_more : (sites : List SiteLine) (line : SiteLine) → AreSites sites → IsTrue (is_between 1 8 line.site.0) → some_of (declares line.site) sites ≡ false → AreSites (sites ++ line ∷ [])
sites_more sites line kept range new = record {
  range = each_of-more (λ l. is_between 1 8 l.site.0) sites line kept.range range;
  differ = all_differ-more one_site sites line kept.differ new;
}

items_at : (sites more : List SiteLine) (items : List ItemLine) → Declares sites more → AreItems sites items → AreItems more items
items_at sites more items grows kept = record {
  declared = each_of-weaker (λ l. is_declared sites l.site) (λ l. is_declared more l.site) (λ l. grows l.site) items kept.declared;
  differ = kept.differ;
  few = kept.few;
}

transactions_at : (sites more : List SiteLine) (lines : List TxLine) → Declares sites more → AreTransactions sites lines → AreTransactions more lines
transactions_at sites more lines grows kept = record {
  in_place = each_of-weaker (is_transaction sites) (is_transaction more) (transaction_more sites more grows) lines kept.in_place;
  differ = kept.differ;
  programs = kept.programs;
}

links_at : (sites more : List SiteLine) (links : List LinkLine) → Declares sites more → AreLinks sites links → AreLinks more links
links_at sites more links grows kept = record {
  range = each_of-weaker (is_link sites) (is_link more) (link_more sites more grows) links kept.range;
  differ = kept.differ;
  few = kept.few;
}

stops_at : (sites more : List SiteLine) (stops : List StopLine) → Declares sites more → AreStops sites stops → AreStops more stops
stops_at sites more stops grows kept = record {
  range = each_of-weaker (is_stop sites) (is_stop more) (stop_more sites more grows) stops kept.range;
  few = kept.few;
}

-- a count that a limit bounds stays within it with one item more
few_more : {A : Type 0} (most : ℕ) (test : A → Bool) (xs : List A) (y : A) → how_many test xs ≤ most → (IsTrue (test y) → how_many test xs < most) → how_many test (xs ++ y ∷ []) ≤ most
few_more most test xs y few room =
    elim (cases_Bool (test y)) [
      | inl of_it ↦
          let n = how_many-push test xs y ∙ ap (λ b. cond b (suc (how_many test xs)) (how_many test xs)) of_it in
          omega (arith, n, room of_it)
      | inr other ↦
          let n = how_many-push test xs y ∙ ap (λ b. cond b (suc (how_many test xs)) (how_many test xs)) other in
          omega (arith, n, few)
    ]

same_number : (a b : ℕ) → eqb a b ≡ eqb b a
same_number a b = grind arith

row_flips : (a b : ItemLine) → one_row a b ≡ one_row b a
row_flips a b =
    ap (λ t. t && same_key a.put.key b.put.key) (same_number a.site.0 b.site.0) ∙ ap (λ t. same_site b.site a.site && t) (same_number a.put.key.0 b.put.key.0)

same_way-flips : (a b : Bool) → same_way a b ≡ same_way b a
same_way-flips true true = refl
same_way-flips true false = refl
same_way-flips false true = refl
same_way-flips false false = refl

message_flips : (a b : LinkLine) → one_message a b ≡ one_message b a
message_flips a b =
    ap (λ t. t && same_site a.site b.site && (a.place == b.place)) (same_way-flips a.to b.to)
    ∙ ap (λ t. same_way b.to a.to && t && (a.place == b.place)) (same_number a.site.0 b.site.0)
    ∙ ap (λ t. same_way b.to a.to && same_site b.site a.site && t) (same_number a.place b.place)

items_more : (sites : List SiteLine) (items : List ItemLine) (line : ItemLine) → AreItems sites items → IsTrue (is_declared sites line.site)
    → some_of (one_row line) items ≡ false → leb most_items (how_many (has_site line.site) items) ≡ false → AreItems sites (items ++ line ∷ [])
items_more sites items line kept there new room = record {
  declared = each_of-more (λ l. is_declared sites l.site) items line kept.declared there;
  differ = all_differ-more one_row items line kept.differ (some_of-same (λ l. one_row l line) (one_row line) (λ l. row_flips l line) items ∙ new);
  few = λ site. few_more most_items (has_site site) items line (kept.few site) (λ same.
      let here : line.site.0 ≡ site.0 = eqb-true _ _ same in
      let count : how_many (has_site line.site) items ≡ how_many (has_site site) items = ap (λ n. how_many (has_site (record { 0 = n })) items) here in
      omega (arith, leb-false most_items (how_many (has_site line.site) items) room, count));
}

links_more : (sites : List SiteLine) (links : List LinkLine) (line : LinkLine) → AreLinks sites links → IsTrue (is_link sites line)
    → some_of (one_message line) links ≡ false → leb most_links (length links) ≡ false → AreLinks sites (links ++ line ∷ [])
links_more sites links line kept range new room = record {
  range = each_of-more (is_link sites) links line kept.range range;
  differ = all_differ-more one_message links line kept.differ (some_of-same (λ l. one_message l line) (one_message line) (λ l. message_flips l line) links ∙ new);
  few = omega (arith, length-append links (line ∷ []), leb-false most_links (length links) room);
}

stops_more : (sites : List SiteLine) (stops : List StopLine) (line : StopLine) → AreStops sites stops → IsTrue (is_stop sites line)
    → leb most_stops (how_many (stops_actor line.actor) stops) ≡ false → AreStops sites (stops ++ line ∷ [])
stops_more sites stops line kept range room = record {
  range = each_of-more (is_stop sites) stops line kept.range range;
  few = λ actor. few_more most_stops (stops_actor actor) stops line (kept.few actor) (λ same.
      let here : line.actor ≡ actor = eqb-true _ _ same in
      let count : how_many (stops_actor line.actor) stops ≡ how_many (stops_actor actor) stops = ap (λ n. how_many (stops_actor n) stops) here in
      omega (arith, leb-false most_stops (how_many (stops_actor line.actor) stops) room, count));
}

program_reads : (steps : List Step) → 0 < length steps → Reads (λ program. IsProgram program × (program ≡ steps)) (as_program steps)
unfolding as_program
program_reads steps some =
    reads_unless (is_some (bad_register 0 0 steps)) _ _ (λ hold.
    reads_unless (ltb most_steps (length steps)) _ _ (λ room.
    reads_ok steps (record { some = some; few = ltb-false most_steps (length steps) room; registers = no_number _ hold }, refl)))

transactions_more : (sites : List SiteLine) (lines : List TxLine) (line : TxLine) → AreTransactions sites lines → IsTrue (is_transaction sites line) → IsProgram line.program
    → some_of (λ l. same_tx l.tx line.tx) lines ≡ false → AreTransactions sites (lines ++ line ∷ [])
transactions_more sites lines line kept in_place program new = record {
  in_place = each_of-more (is_transaction sites) lines line kept.in_place in_place;
  differ = all_differ-more one_transaction lines line kept.differ new;
  programs = each_pushed (λ l. IsProgram l.program) lines line kept.programs program;
}

-- ---- a draft with one line more

site_added : (d : Draft) (line : SiteLine) → IsDraft d → IsTrue (is_between 1 8 line.site.0) → Reads IsDraft (with_entry (says.Site line) d)
unfolding with_entry with_site
site_added d line kept range =
    let z = kept.scenario in
    let more = d.sites ++ line ∷ [] in
    let grows = grown d.sites line in
    reads_bind (with_site line d.sites) {f = λ lines. Ok (record d { sites = lines })}
    (reads_unless {P = λ lines. IsDraft (record d { sites = lines })} (some_of (declares line.site) d.sites) _ _ (λ new. reads_ok more (record {
      scenario = record {
        sites = sites_more d.sites line z.sites range new;
        items = items_at d.sites more d.items grows z.items;
        transactions = transactions_at d.sites more d.transactions grows z.transactions;
        clients = z.clients;
        turns = z.turns;
        tries = z.tries;
        links = links_at d.sites more d.links grows z.links;
        stops = stops_at d.sites more d.stops grows z.stops;
      };
      commands = record { range = each_of-weaker (is_command d.sites) (is_command more) (command_more d.sites more grows) d.commands kept.commands.range; few = kept.commands.few };
    })))
    (λ lines good. reads_ok _ good)

item_added : (d : Draft) (line : ItemLine) → IsDraft d → IsTrue (is_declared d.sites line.site) → Reads IsDraft (with_entry (says.Item line) d)
unfolding with_entry with_item
item_added d line kept there =
    let z = kept.scenario in
    reads_bind (with_item line d.items) {f = λ lines. Ok (record d { items = lines })}
    (reads_unless {P = λ lines. AreItems d.sites lines} (some_of (one_row line) d.items) _ _ (λ new.
    reads_unless (leb most_items (how_many (has_site line.site) d.items)) _ _ (λ room.
    reads_ok _ (items_more d.sites d.items line z.items there new room))))
    (λ lines good. reads_ok _ (record {
      scenario = record { sites = z.sites; items = good; transactions = z.transactions; clients = z.clients; turns = z.turns; tries = z.tries; links = z.links; stops = z.stops };
      commands = kept.commands;
    }))

transaction_added : (d : Draft) (tx : Tx) (home : Option SiteId) (steps : List Step) → IsDraft d → IsTransaction d.sites tx home steps → Reads IsDraft (with_entry (says.Transaction tx home steps) d)
unfolding with_entry with_transaction
transaction_added d tx home steps kept entry =
    let z = kept.scenario in
    reads_bind (with_transaction tx home steps d.transactions) {f = λ lines. Ok (record d { transactions = lines })}
    (reads_unless {P = λ lines. AreTransactions d.sites lines} (some_of (λ l. same_tx l.tx tx) d.transactions) _ _ (λ new.
    reads_bind (as_program steps) (program_reads steps entry.some) (λ program good.
    let places : IsTrue (each_of (is_in_place d.sites home) program) = ap (each_of (is_in_place d.sites home)) good.1 ∙ entry.places in
    reads_ok _ (transactions_more d.sites d.transactions (record { tx = tx; home = home; program = program }) z.transactions (is_true_both _ _ entry.number places) good.0 new))))
    (λ lines good. reads_ok _ (record {
      scenario = record { sites = z.sites; items = z.items; transactions = good; clients = z.clients; turns = z.turns; tries = z.tries; links = z.links; stops = z.stops };
      commands = kept.commands;
    }))

link_added : (d : Draft) (line : LinkLine) → IsDraft d → IsTrue (is_link d.sites line) → Reads IsDraft (with_entry (says.Link line) d)
unfolding with_entry with_link
link_added d line kept range =
    let z = kept.scenario in
    reads_bind (with_link line d.links) {f = λ lines. Ok (record d { links = lines })}
    (reads_unless {P = λ lines. AreLinks d.sites lines} (some_of (one_message line) d.links) _ _ (λ new.
    reads_unless (leb most_links (length d.links)) _ _ (λ room. reads_ok _ (links_more d.sites d.links line z.links range new room))))
    (λ lines good. reads_ok _ (record {
      scenario = record { sites = z.sites; items = z.items; transactions = z.transactions; clients = z.clients; turns = z.turns; tries = z.tries; links = good; stops = z.stops };
      commands = kept.commands;
    }))

stop_added : (d : Draft) (line : StopLine) → IsDraft d → IsTrue (is_stop d.sites line) → Reads IsDraft (with_entry (says.Stop line) d)
unfolding with_entry with_stop
stop_added d line kept range =
    let z = kept.scenario in
    reads_bind (with_stop line d.stops) {f = λ lines. Ok (record d { stops = lines })}
    (reads_unless {P = λ lines. AreStops d.sites lines} (leb most_stops (how_many (stops_actor line.actor) d.stops)) _ _ (λ room.
    reads_ok _ (stops_more d.sites d.stops line z.stops range room)))
    (λ lines good. reads_ok _ (record {
      scenario = record { sites = z.sites; items = z.items; transactions = z.transactions; clients = z.clients; turns = z.turns; tries = z.tries; links = z.links; stops = good };
      commands = kept.commands;
    }))

setting_reads : {A : Type 0} (x : A) (old : Option A) → Reads (λ o. o ≡ Some x) (with_setting x old)
unfolding with_setting
setting_reads x None = reads_ok _ refl
setting_reads x (Some y) = reads_err _

set_is : (low high default n : ℕ) (o : Option ℕ) → o ≡ Some n → IsTrue (is_between low high n) → IsTrue (is_between low high (or_else o default))
set_is low high default n o e h = ap (λ p. is_between low high (or_else p default)) e ∙ h

clients_added : (d : Draft) (n : ℕ) → IsDraft d → IsTrue (is_between 1 16 n) → Reads IsDraft (with_entry (says.Clients n) d)
unfolding with_entry
clients_added d n kept range =
    let z = kept.scenario in
    reads_bind (with_setting n d.clients) (setting_reads n d.clients) (λ o good. reads_ok _ (record {
      scenario = record { sites = z.sites; items = z.items; transactions = z.transactions; clients = set_is 1 16 default_clients n o good range; turns = z.turns; tries = z.tries; links = z.links; stops = z.stops };
      commands = kept.commands;
    }))

turns_added : (d : Draft) (n : ℕ) → IsDraft d → IsTrue (is_between 1 100000 n) → Reads IsDraft (with_entry (says.Turns n) d)
unfolding with_entry
turns_added d n kept range =
    let z = kept.scenario in
    reads_bind (with_setting n d.turns) (setting_reads n d.turns) (λ o good. reads_ok _ (record {
      scenario = record { sites = z.sites; items = z.items; transactions = z.transactions; clients = z.clients; turns = set_is 1 100000 default_turns n o good range; tries = z.tries; links = z.links; stops = z.stops };
      commands = kept.commands;
    }))

tries_added : (d : Draft) (n : ℕ) → IsDraft d → IsTrue (is_between 1 16 n) → Reads IsDraft (with_entry (says.Tries n) d)
unfolding with_entry
tries_added d n kept range =
    let z = kept.scenario in
    reads_bind (with_setting n d.tries) (setting_reads n d.tries) (λ o good. reads_ok _ (record {
      scenario = record { sites = z.sites; items = z.items; transactions = z.transactions; clients = z.clients; turns = z.turns; tries = set_is 1 16 default_tries n o good range; links = z.links; stops = z.stops };
      commands = kept.commands;
    }))

command_added : (d : Draft) (c : Command) → IsDraft d → IsTrue (is_command d.sites c) → Reads IsDraft (with_entry (says.Command c) d)
unfolding with_entry with_command
command_added d c kept good =
    let z = kept.scenario in
    reads_bind (with_command c d.commands) {f = λ cs. Ok (record d { commands = cs })}
    (reads_unless {P = AreCommands d.sites} (leb most_commands (length d.commands)) _ _ (λ room. reads_ok _ (record {
      range = each_of-more (is_command d.sites) d.commands c kept.commands.range good;
      few = omega (arith, length-append d.commands (c ∷ []), leb-false most_commands (length d.commands) room);
    })))
    (λ cs more. reads_ok _ (record {
      scenario = record { sites = z.sites; items = z.items; transactions = z.transactions; clients = z.clients; turns = z.turns; tries = z.tries; links = z.links; stops = z.stops };
      commands = more;
    }))

-- how tickets are taken, and whether the commands have begun, change nothing of what a draft keeps
said : (d : Draft) (conservative : Option Bool) (in_commands : Bool) → IsDraft d → IsDraft (record d { conservative = conservative; in_commands = in_commands })
said d conservative in_commands kept =
    let z = kept.scenario in
    record {
      scenario = record { sites = z.sites; items = z.items; transactions = z.transactions; clients = z.clients; turns = z.turns; tries = z.tries; links = z.links; stops = z.stops };
      commands = kept.commands;
    }

policy_added : (d : Draft) (conservative : Bool) → IsDraft d → Reads IsDraft (with_entry (says.Policy conservative) d)
unfolding with_entry
policy_added d conservative kept = reads_bind (with_setting conservative d.conservative) (reads_any _) (λ o p. reads_ok _ (said d o d.in_commands kept))

commands_begun : (d : Draft) → IsDraft d → Reads IsDraft (with_entry says.Commands d)
unfolding with_entry
commands_begun d kept = reads_ok _ (said d d.conservative true kept)

pub entry_added : (e : Entry) (d : Draft) → IsDraft d → IsEntry d.sites e → Reads IsDraft (with_entry e d)
entry_added (says.Site line) d kept h = site_added d line kept h
entry_added (says.Item line) d kept h = item_added d line kept (second (is_between 1 8 line.site.0) _ h)
entry_added (says.Transaction tx home steps) d kept h = transaction_added d tx home steps kept h
entry_added (says.Clients n) d kept h = clients_added d n kept h
entry_added (says.Turns n) d kept h = turns_added d n kept h
entry_added (says.Tries n) d kept h = tries_added d n kept h
entry_added (says.Policy conservative) d kept h = policy_added d conservative kept
entry_added (says.Link line) d kept h = link_added d line kept h
entry_added (says.Stop line) d kept h = stop_added d line kept (second (leb line.actor 8) _ h)
entry_added says.Commands d kept h = commands_begun d kept
entry_added (says.Command c) d kept h = command_added d c kept h

pub nothing_kept : IsDraft no_draft
nothing_kept = record {
  scenario = record {
    sites = record { range = refl; differ = refl };
    items = record { declared = refl; differ = refl; few = λ site. omega arith };
    transactions = record { in_place = refl; differ = refl; programs = tt };
    clients = refl;
    turns = refl;
    tries = refl;
    links = record { range = refl; differ = refl; few = omega arith };
    stops = record { range = refl; few = λ actor. omega arith };
  };
  commands = record { range = refl; few = omega arith };
}

-- ---- lines

pub entry_reads : (with_commands : Bool) (d : Draft) (words : List (List ℕ)) → Reads (IsEntry d.sites) (entry_of with_commands d words)
unfolding entry_of
entry_reads with_commands d words =
    reads_either d.in_commands _ _ (reads_bind (command_line d.sites words) (command_line_reads d.sites words) (λ c good. reads_ok _ good))
    (reads_either (with_commands && bytes_eq (first_word words) (codes "commands")) _ _
    (reads_bind (counted (only_one words)) (reads_any _) (λ w p. reads_ok _ tt)) (scenario_line_reads d.sites words))

-- what a line that was read says fits the draft
pub entry_fits : (with_commands : Bool) (d : Draft) (words : List (List ℕ)) (e : Entry) → entry_of with_commands d words ≡ Ok e → IsEntry d.sites e
entry_fits with_commands d words e h = (entry_reads with_commands d words).value e h

pub line_added : (with_commands : Bool) (line : TextLine) (d : Draft) → IsDraft d → Reads IsDraft (with_line with_commands line d)
unfolding with_line
line_added with_commands line d kept =
    reads_bind (whole_line line) (reads_any _) (λ bytes p.
    reads_bind (entry_of with_commands d (words_of bytes)) (entry_reads with_commands d (words_of bytes)) (λ e good. entry_added e d kept good))

by_line : (number : ℕ) (next : Draft → Result Draft BadLine) (r : Result Draft BadWhy) (e : Draft) → Reads IsDraft r
    → ((d : Draft) → IsDraft d → next d ≡ Ok e → IsDraft e) → numbered number r next ≡ Ok e → IsDraft e
by_line number next (Ok d) e good goes_on h = goes_on d (good.value d refl) h
by_line number next (Err why) e good goes_on h = absurd cc

lines_added : (with_commands : Bool) (number : ℕ) (lines : List TextLine) (d e : Draft) → IsDraft d → with_lines with_commands number lines d ≡ Ok e → IsDraft e
unfolding with_lines
lines_added with_commands number [] d e kept h = (let same : d ≡ e = cc in subst IsDraft same kept)
lines_added with_commands number (line ∷ lines) d e kept h =
    by_line number (with_lines with_commands (suc number) lines) (with_line with_commands line d) e (line_added with_commands line d kept)
    (λ more good go. lines_added with_commands (suc number) lines more e good go) h

-- what a text that reads well says keeps all that a scenario keeps
pub draft_kept : (with_commands : Bool) (text : List ℕ) (d : Draft) → draft_of with_commands text ≡ Ok d → IsDraft d
unfolding draft_of
draft_kept with_commands text d h = lines_added with_commands 1 (lines text) no_draft d nothing_kept h
