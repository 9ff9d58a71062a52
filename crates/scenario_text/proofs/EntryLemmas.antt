-- A line that reads well keeps its ranges and names declared sites.
use Rattle.std.proofs.Common.{◌≡◌, ℕ, suc, ◌-◌, ◌^◌, ◌<◌, Bool, true, false, ◌&&◌, eqb, leb, IsTrue, List, [], ◌∷◌, length, Option, Some, None, refl, ap, subst, arith}
use Rattle.std.specs.Prelude.{codes, nat_le}
use Rattle.std.specs.Str.{bytes_eq}
use Rattle.mdb_base.specs.declared.names.SiteId.{SiteId}
use Rattle.mdb_base.specs.Words.{each_of}
use Rattle.mdb_base.proofs.ForCallers.{is_true_both}
use Rattle.fed_rules.specs.declared.scenario.SiteLine.{SiteLine}
use Rattle.fed_rules.specs.Plans.{is_between, is_declared, is_actor, is_in_place, is_fate}
use Rattle.scenario_text.specs.CommandLines.{tx_argument, tid_argument, message_argument, attempt_argument, actor_argument, halt_line, trip_line, actor_command, command_line}
use Rattle.scenario_text.specs.Kept.{IsEntry, is_tx, is_tid, is_command}
use Rattle.scenario_text.specs.Names.{is_number, decimal, number_in, key_of, value_of, tx_of, site_number, site_of, actor_of, tid_of, engine_of, protocol_of, policy_of, hold_of, fate_of, way_of}
use Rattle.scenario_text.specs.Pieces.{pieces, cut_at, only_two, only_three, only_four, only_five, first_and_more, first_word, dot, slash, colon}
use Rattle.scenario_text.specs.Reads.{counted, spelled}
use Rattle.scenario_text.specs.ScenarioLines.{site_line, item_line, local_line, global_line, clients_line, turns_line, tries_line, policy_line, link_line, stop_line, scenario_line}
use Rattle.scenario_text.specs.Steps.{act_of, is_misspelled, global_step, step_of, steps_of}
use Rattle.scenario_text.proofs.Readings.{Reads, reads_ok, reads_err, reads_bind, reads_any, reads_if, reads_unless, reads_either}

-- ---- words

pub number_reads : (low high : ℕ) (word : List ℕ) → Reads (λ n. IsTrue (is_between low high n)) (number_in low high word)
unfolding number_in
number_reads low high word =
    reads_if (is_number word) _ _ (λ number. reads_if (is_between low high (decimal 0 word)) _ _ (λ range. reads_ok (decimal 0 word) range))

second : (a b : Bool) → IsTrue (a && b) → IsTrue b
second true b p = p
second false b p = absurd cc

-- a number of which the least one is 0
number_upto : (high : ℕ) (word : List ℕ) → Reads (λ n. IsTrue (nat_le n high)) (number_in 0 high word)
number_upto high word = record { value = λ n e. second (leb 0 n) (leb n high) ((number_reads 0 high word).value n e) }

tx_reads : (word : List ℕ) → Reads (λ tx. IsTrue (is_tx tx)) (tx_of word)
unfolding tx_of
tx_reads word = reads_bind (number_in 1 1024 word) (number_reads 1 1024 word) (λ n range. reads_ok _ range)

site_number_reads : (word : List ℕ) → Reads (λ site. IsTrue (is_between 1 8 site.0)) (site_number word)
unfolding site_number
site_number_reads word = reads_bind (number_in 1 8 word) (number_reads 1 8 word) (λ n range. reads_ok _ range)

site_reads : (sites : List SiteLine) (word : List ℕ) → Reads (λ site. IsTrue (is_between 1 8 site.0 && is_declared sites site)) (site_of sites word)
unfolding site_of
site_reads sites word =
    reads_bind (site_number word) (site_number_reads word) (λ site range. reads_if (is_declared sites site) _ _ (λ declared. reads_ok site (is_true_both _ _ range declared)))

declared_reads : (sites : List SiteLine) (word : List ℕ) → Reads (λ site. IsTrue (is_declared sites site)) (site_of sites word)
declared_reads sites word = record { value = λ site e. second (is_between 1 8 site.0) (is_declared sites site) ((site_reads sites word).value site e) }

actor_reads : (sites : List SiteLine) (word : List ℕ) → Reads (λ actor. IsTrue (nat_le actor 8 && is_actor sites actor)) (actor_of sites word)
unfolding actor_of
actor_reads sites word =
    reads_bind (number_in 0 8 word) (number_upto 8 word) (λ actor range. reads_if (is_actor sites actor) _ _ (λ declared. reads_ok actor (is_true_both _ _ range declared)))

declared_actor : (sites : List SiteLine) (word : List ℕ) → Reads (λ actor. IsTrue (is_actor sites actor)) (actor_of sites word)
declared_actor sites word = record { value = λ actor e. second (nat_le actor 8) (is_actor sites actor) ((actor_reads sites word).value actor e) }

tid_reads : (word : List ℕ) → Reads (λ tid. IsTrue (is_tid tid)) (tid_of word)
unfolding tid_of
tid_reads word =
    reads_bind (spelled (only_two (pieces dot word))) (reads_any _) (λ parts p.
    reads_bind (tx_of parts.0) (tx_reads parts.0) (λ tx range.
    reads_bind (number_in 0 31 parts.1) (number_upto 31 parts.1) (λ attempt few. reads_ok _ (is_true_both _ _ range few))))

hold_reads : (word : List ℕ) → Reads (λ fate. IsTrue (is_fate fate)) (hold_of word)
unfolding hold_of
hold_reads word =
    reads_bind (spelled (only_two (pieces colon word))) (reads_any _) (λ parts p.
    reads_if (bytes_eq parts.0 (codes "hold")) _ _ (λ name. reads_bind (number_in 1 64 parts.1) (number_reads 1 64 parts.1) (λ n range. reads_ok _ range)))

fate_reads : (word : List ℕ) → Reads (λ fate. IsTrue (is_fate fate)) (fate_of word)
unfolding fate_of
fate_reads word =
    reads_either (bytes_eq word (codes "drop")) _ _ (reads_ok _ refl)
    (reads_either (bytes_eq word (codes "twice")) _ _ (reads_ok _ refl) (hold_reads word))

-- ---- steps

same_self : (n : ℕ) → eqb n n ≡ true
same_self n = grind arith

step_reads : (sites : List SiteLine) (home : Option SiteId) (word : List ℕ)
    → ((site : SiteId) → home ≡ Some site → IsTrue (is_declared sites site)) → Reads (λ step. IsTrue (is_in_place sites home step)) (step_of sites home word)
unfolding step_of global_step
step_reads sites (Some home) word declared =
    reads_bind (act_of word) (reads_any _) (λ act p. reads_ok _ (is_true_both _ _ (declared home refl) (same_self home.0)))
step_reads sites None word declared =
    reads_bind (spelled (cut_at slash word)) (reads_any _) (λ parts p.
    reads_unless (is_misspelled (act_of parts.1)) _ _ (λ form.
    reads_bind (site_of sites parts.0) (declared_reads sites parts.0) (λ site there.
    reads_bind (act_of parts.1) (reads_any _) (λ act q. reads_ok _ there))))

steps_reads : (sites : List SiteLine) (home : Option SiteId) (words : List (List ℕ))
    → ((site : SiteId) → home ≡ Some site → IsTrue (is_declared sites site))
    → Reads (λ steps. IsTrue (each_of (is_in_place sites home) steps) × (length steps ≡ length words)) (steps_of sites home words)
unfolding steps_of
steps_reads sites home [] declared = reads_ok _ (refl, refl)
steps_reads sites home (word ∷ words) declared =
    reads_bind (step_of sites home word) (step_reads sites home word declared) (λ step here.
    reads_bind (steps_of sites home words) (steps_reads sites home words declared) (λ steps there.
    reads_ok _ (is_true_both _ _ here there.0, ap suc there.1)))

more_reads : (words : List (List ℕ)) → Reads (λ w. 0 < length w.1) (counted (first_and_more words))
unfolding first_and_more
more_reads [] = reads_err _
more_reads (a ∷ []) = reads_err _
more_reads (a ∷ b ∷ more) = reads_ok _ (omega arith)

-- ---- lines of a scenario

site_line_reads : (sites : List SiteLine) (words : List (List ℕ)) → Reads (IsEntry sites) (site_line words)
unfolding site_line
site_line_reads sites words =
    reads_bind (counted (only_four words)) (reads_any _) (λ w p.
    reads_bind (site_number w.1) (site_number_reads w.1) (λ site range.
    reads_bind (engine_of w.2) (reads_any _) (λ engine q.
    reads_bind (protocol_of w.3) (reads_any _) (λ protocol r. reads_ok _ range))))

item_line_reads : (sites : List SiteLine) (words : List (List ℕ)) → Reads (IsEntry sites) (item_line sites words)
unfolding item_line
item_line_reads sites words =
    reads_bind (counted (only_four words)) (reads_any _) (λ w p.
    reads_bind (site_of sites w.1) (site_reads sites w.1) (λ site declared.
    reads_bind (key_of w.2) (reads_any _) (λ key q.
    reads_bind (value_of w.3) (reads_any _) (λ value r. reads_ok _ declared))))

some_site : (a b : SiteId) → Some a ≡ Some b → a ≡ b
some_site a b e = cc

local_line_reads : (sites : List SiteLine) (words : List (List ℕ)) → Reads (IsEntry sites) (local_line sites words)
unfolding local_line
local_line_reads sites words =
    reads_bind (counted (first_and_more words)) (reads_any _) (λ w p.
    reads_bind (counted (first_and_more w.1)) (reads_any _) (λ v q.
    reads_bind (counted (first_and_more v.1)) (more_reads v.1) (λ u some.
    reads_bind (tx_of v.0) (tx_reads v.0) (λ tx number.
    reads_bind (site_of sites u.0) (declared_reads sites u.0) (λ home there.
    reads_bind (steps_of sites (Some home) u.1) (steps_reads sites (Some home) u.1 (λ site e. subst (λ s. IsTrue (is_declared sites s)) (some_site home site e) there)) (λ steps good.
    reads_ok _ (record { number = number; places = good.0; some = omega (arith, good.1) })))))))

global_line_reads : (sites : List SiteLine) (words : List (List ℕ)) → Reads (IsEntry sites) (global_line sites words)
unfolding global_line
global_line_reads sites words =
    reads_bind (counted (first_and_more words)) (reads_any _) (λ w p.
    reads_bind (counted (first_and_more w.1)) (more_reads w.1) (λ v some.
    reads_bind (tx_of v.0) (tx_reads v.0) (λ tx number.
    reads_bind (steps_of sites None v.1) (steps_reads sites None v.1 (λ site e. absurd cc)) (λ steps good.
    reads_ok _ (record { number = number; places = good.0; some = omega (arith, good.1) })))))

clients_line_reads : (sites : List SiteLine) (words : List (List ℕ)) → Reads (IsEntry sites) (clients_line words)
unfolding clients_line
clients_line_reads sites words =
    reads_bind (counted (only_two words)) (reads_any _) (λ w p. reads_bind (number_in 1 16 w.1) (number_reads 1 16 w.1) (λ n range. reads_ok _ range))

turns_line_reads : (sites : List SiteLine) (words : List (List ℕ)) → Reads (IsEntry sites) (turns_line words)
unfolding turns_line
turns_line_reads sites words =
    reads_bind (counted (only_two words)) (reads_any _) (λ w p. reads_bind (number_in 1 100000 w.1) (number_reads 1 100000 w.1) (λ n range. reads_ok _ range))

tries_line_reads : (sites : List SiteLine) (words : List (List ℕ)) → Reads (IsEntry sites) (tries_line words)
unfolding tries_line
tries_line_reads sites words =
    reads_bind (counted (only_two words)) (reads_any _) (λ w p. reads_bind (number_in 1 16 w.1) (number_reads 1 16 w.1) (λ n range. reads_ok _ range))

policy_line_reads : (sites : List SiteLine) (words : List (List ℕ)) → Reads (IsEntry sites) (policy_line words)
unfolding policy_line
policy_line_reads sites words =
    reads_bind (counted (only_two words)) (reads_any _) (λ w p. reads_bind (policy_of w.1) (reads_any _) (λ conservative q. reads_ok _ tt))

link_line_reads : (sites : List SiteLine) (words : List (List ℕ)) → Reads (IsEntry sites) (link_line sites words)
unfolding link_line
link_line_reads sites words =
    reads_bind (counted (only_five words)) (reads_any _) (λ w p.
    reads_bind (way_of w.1) (reads_any _) (λ to q.
    reads_bind (site_of sites w.2) (declared_reads sites w.2) (λ site there.
    reads_bind (number_in 0 65535 w.3) (number_upto 65535 w.3) (λ place few.
    reads_bind (fate_of w.4) (fate_reads w.4) (λ fate good. reads_ok _ (is_true_both _ _ (is_true_both _ _ there few) good))))))

stop_line_reads : (sites : List SiteLine) (words : List (List ℕ)) → Reads (IsEntry sites) (stop_line sites words)
unfolding stop_line
stop_line_reads sites words =
    reads_bind (counted (only_four words)) (reads_any _) (λ w p.
    reads_bind (actor_of sites w.1) (actor_reads sites w.1) (λ actor there.
    reads_bind (number_in 1 1000 w.2) (number_reads 1 1000 w.2) (λ calls range.
    reads_bind (number_in 0 65535 w.3) (number_upto 65535 w.3) (λ cut few.
    reads_ok _ (is_true_both _ _ (first (nat_le actor 8) _ there) (is_true_both _ _ (is_true_both _ _ (second (nat_le actor 8) _ there) range) few))))))
  where
    first : (a b : Bool) → IsTrue (a && b) → IsTrue a
    first true b p = refl
    first false b p = absurd cc

pub scenario_line_reads : (sites : List SiteLine) (words : List (List ℕ)) → Reads (IsEntry sites) (scenario_line sites words)
unfolding scenario_line
scenario_line_reads sites words =
    let first = first_word words in
    reads_either (bytes_eq first (codes "site")) _ _ (site_line_reads sites words)
    (reads_either (bytes_eq first (codes "item")) _ _ (item_line_reads sites words)
    (reads_either (bytes_eq first (codes "local")) _ _ (local_line_reads sites words)
    (reads_either (bytes_eq first (codes "global")) _ _ (global_line_reads sites words)
    (reads_either (bytes_eq first (codes "clients")) _ _ (clients_line_reads sites words)
    (reads_either (bytes_eq first (codes "turns")) _ _ (turns_line_reads sites words)
    (reads_either (bytes_eq first (codes "tries")) _ _ (tries_line_reads sites words)
    (reads_either (bytes_eq first (codes "policy")) _ _ (policy_line_reads sites words)
    (reads_either (bytes_eq first (codes "link")) _ _ (link_line_reads sites words)
    (reads_either (bytes_eq first (codes "stop")) _ _ (stop_line_reads sites words) (reads_err _))))))))))

-- ---- commands

tx_argument_reads : (words : List (List ℕ)) → Reads (λ tx. IsTrue (is_tx tx)) (tx_argument words)
unfolding tx_argument
tx_argument_reads words = reads_bind (counted (only_two words)) (reads_any _) (λ w p. tx_reads w.1)

tid_argument_reads : (words : List (List ℕ)) → Reads (λ tid. IsTrue (is_tid tid)) (tid_argument words)
unfolding tid_argument
tid_argument_reads words = reads_bind (counted (only_two words)) (reads_any _) (λ w p. tid_reads w.1)

message_argument_reads : (sites : List SiteLine) (words : List (List ℕ)) → Reads (λ m. IsTrue (is_declared sites m.0)) (message_argument sites words)
unfolding message_argument
message_argument_reads sites words =
    reads_bind (counted (only_three words)) (reads_any _) (λ w p.
    reads_bind (site_of sites w.1) (declared_reads sites w.1) (λ site there.
    reads_bind (number_in 0 (2 ^ 32 - 1) w.2) (reads_any _) (λ place q. reads_ok _ there)))

attempt_argument_reads : (sites : List SiteLine) (words : List (List ℕ)) → Reads (λ a. IsTrue (is_declared sites a.0 && is_tid a.1)) (attempt_argument sites words)
unfolding attempt_argument
attempt_argument_reads sites words =
    reads_bind (counted (only_three words)) (reads_any _) (λ w p.
    reads_bind (site_of sites w.1) (declared_reads sites w.1) (λ site there.
    reads_bind (tid_of w.2) (tid_reads w.2) (λ tid good. reads_ok _ (is_true_both _ _ there good))))

actor_argument_reads : (sites : List SiteLine) (words : List (List ℕ)) → Reads (λ actor. IsTrue (is_actor sites actor)) (actor_argument sites words)
unfolding actor_argument
actor_argument_reads sites words = reads_bind (counted (only_two words)) (reads_any _) (λ w p. declared_actor sites w.1)

halt_line_reads : (sites : List SiteLine) (words : List (List ℕ)) → Reads (λ c. IsTrue (is_command sites c)) (halt_line sites words)
unfolding halt_line
halt_line_reads sites words =
    reads_bind (counted (only_three words)) (reads_any _) (λ w p.
    reads_bind (actor_of sites w.1) (declared_actor sites w.1) (λ actor there.
    reads_bind (number_in 0 65535 w.2) (number_upto 65535 w.2) (λ cut few. reads_ok _ (is_true_both _ _ there few))))

trip_line_reads : (sites : List SiteLine) (words : List (List ℕ)) → Reads (λ c. IsTrue (is_command sites c)) (trip_line sites words)
unfolding trip_line
trip_line_reads sites words =
    reads_bind (counted (only_four words)) (reads_any _) (λ w p.
    reads_bind (actor_of sites w.1) (declared_actor sites w.1) (λ actor there.
    reads_bind (number_in 0 1000 w.2) (number_upto 1000 w.2) (λ calls some.
    reads_bind (number_in 0 65535 w.3) (number_upto 65535 w.3) (λ cut few. reads_ok _ (is_true_both _ _ (is_true_both _ _ there some) few)))))

actor_command_reads : (sites : List SiteLine) (words : List (List ℕ)) → Reads (λ c. IsTrue (is_command sites c)) (actor_command sites words)
unfolding actor_command
actor_command_reads sites words =
    let first = first_word words in
    let messages = message_argument_reads sites words in
    let attempts = attempt_argument_reads sites words in
    let actors = actor_argument_reads sites words in
    reads_either (bytes_eq first (codes "give")) _ _ (reads_bind (message_argument sites words) messages (λ m there. reads_ok _ there))
    (reads_either (bytes_eq first (codes "take")) _ _ (reads_bind (message_argument sites words) messages (λ m there. reads_ok _ there))
    (reads_either (bytes_eq first (codes "ask")) _ _ (reads_bind (attempt_argument sites words) attempts (λ a there. reads_ok _ there))
    (reads_either (bytes_eq first (codes "drop")) _ _ (reads_bind (attempt_argument sites words) attempts (λ a there. reads_ok _ there))
    (reads_either (bytes_eq first (codes "halt")) _ _ (halt_line_reads sites words)
    (reads_either (bytes_eq first (codes "trip")) _ _ (trip_line_reads sites words)
    (reads_either (bytes_eq first (codes "back")) _ _ (reads_bind (actor_argument sites words) actors (λ actor there. reads_ok _ there))
    (reads_either (bytes_eq first (codes "check")) _ _ (reads_bind (actor_argument sites words) actors (λ actor there. reads_ok _ there)) (reads_err _))))))))

pub command_line_reads : (sites : List SiteLine) (words : List (List ℕ)) → Reads (λ c. IsTrue (is_command sites c)) (command_line sites words)
unfolding command_line
command_line_reads sites words =
    let first = first_word words in
    let number = tx_argument_reads words in
    let attempt = tid_argument_reads words in
    reads_either (bytes_eq first (codes "begin")) _ _ (reads_bind (tx_argument words) number (λ tx good. reads_ok _ good))
    (reads_either (bytes_eq first (codes "step")) _ _ (reads_bind (tx_argument words) number (λ tx good. reads_ok _ good))
    (reads_either (bytes_eq first (codes "commit")) _ _ (reads_bind (tx_argument words) number (λ tx good. reads_ok _ good))
    (reads_either (bytes_eq first (codes "abort")) _ _ (reads_bind (tx_argument words) number (λ tx good. reads_ok _ good))
    (reads_either (bytes_eq first (codes "fate")) _ _ (reads_bind (tx_argument words) number (λ tx good. reads_ok _ good))
    (reads_either (bytes_eq first (codes "go")) _ _ (reads_bind (tx_argument words) number (λ tx good. reads_ok _ good))
    (reads_either (bytes_eq first (codes "again")) _ _ (reads_bind (tid_argument words) attempt (λ tid good. reads_ok _ good))
    (reads_either (bytes_eq first (codes "late")) _ _ (reads_bind (tid_argument words) attempt (λ tid good. reads_ok _ good))
    (actor_command_reads sites words))))))))
