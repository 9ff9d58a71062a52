-- The places of a line and their words.
use Rattle.std.proofs.Common.{◌≡◌, ℕ, IsTrue, List, [], ◌∷◌, map, Some, refl, sym, ap, ◌∙◌, subst}
use Rattle.std.proofs.lemmas.Option.{none-some, same_Some}
use Rattle.std.proofs.lemmas.Bool.{false≢true, eqb-true}
use Rattle.mdb_base.specs.Words.{each_of}
use Rattle.mdb_base.specs.declared.names.SiteId.{SiteId}
use Rattle.mdb_base.proofs.ForCallers.{is_true_both, is_true_parts}
use Rattle.fed_rules.specs.declared.commands.Command.{Command}
use Rattle.fed_rules.specs.declared.commands.Command.TheVariants as Ask
use Rattle.fed_rules.specs.declared.commands.Place.{Place}
use Rattle.fed_rules.specs.declared.answers.Answer.{Answer}
use Rattle.fed_rules.specs.declared.answers.Answer.TheVariants as Say
use Rattle.line_text.specs.declared.word.Keyword.TheVariants as Key
use Rattle.line_text.specs.declared.word.Word.{Word}
use Rattle.line_text.specs.declared.word.Word.TheVariants.{Plain, Number, Sent}
use Rattle.line_text.specs.Fits.{is_one_of, sending_site, places_fit}
use Rattle.line_text.specs.Range.{is_large, is_small, is_site, is_tid, is_place, command_in_range}
use Rattle.line_text.specs.Spelling.{place_word, sends_words}
use Rattle.trace_lines.specs.Reading.{sent_of, site_sent, places_of}
use Rattle.trace_lines.proofs.Pieces.{AreWords}
use Rattle.trace_lines.proofs.Guards.{from_guard, from_map, small_large}

-- there is one place, of this site
one_of : (site : SiteId) (sent : Place) (more : List Place) → IsTrue (is_one_of (Some site) (sent ∷ more)) → (more ≡ []) × (sent.site ≡ site)
one_of site sent [] h = (refl, ap (λ (n : ℕ). record { 0 = n }) (eqb-true sent.site.0 site.0 h))
one_of site sent (next ∷ more) h = absurd (false≢true h)

give_one : (site : SiteId) (place : ℕ) (answer : Answer) (sent : Place) (more : List Place) → IsTrue (is_one_of (sending_site (Ask.Give site place) answer) (sent ∷ more)) → (more ≡ []) × (sent.site ≡ site)
give_one site place (Say.Did tid reply) sent more h = one_of site sent more h
give_one site place (Say.VotesYes tid ticket) sent more h = one_of site sent more h
give_one site place (Say.VotesNo tid why) sent more h = one_of site sent more h
give_one site place (Say.Settles tid decision) sent more h = one_of site sent more h
give_one site place (Say.Unheld tid) sent more h = one_of site sent more h
give_one site place answer sent more h = absurd (false≢true h)

ask_one : (site : SiteId) (tid : _) (answer : Answer) (sent : Place) (more : List Place) → IsTrue (is_one_of (sending_site (Ask.Ask site tid) answer) (sent ∷ more)) → (more ≡ []) × (sent.site ≡ site)
ask_one site tid (Say.Asks same) sent more h = one_of site sent more h
ask_one site tid answer sent more h = absurd (false≢true h)

-- the place of a site is read again
site_again : (site : SiteId) (sent : Place) (more : List Place) → (more ≡ []) × (sent.site ≡ site) → IsTrue (is_place sent) → site_sent site (Number sent.place ∷ map (λ (p : Place). Number p.place) more) ≡ Some (sent ∷ more)
site_again site sent [] one h =
    let small = (is_true_parts (is_site sent.site) (is_small sent.place) h).1 in
    rw small (ap (λ (s : SiteId). Some (record { site = s; place = sent.place } ∷ [])) (sym one.1))
site_again site sent (next ∷ more) one h = cc

sent_again : (places : List Place) → sent_of (map Sent places) ≡ Some places
sent_again [] = refl
sent_again (sent ∷ places) = rw (sent_again places) refl

-- the words of places are read as them
pub places_again : (command : Command) (answer : Answer) (sent : Place) (more : List Place) → IsTrue (places_fit command answer (sent ∷ more)) → IsTrue (each_of is_place (sent ∷ more))
    → places_of command (map (place_word command) (sent ∷ more)) ≡ Some (sent ∷ more)
places_again (Ask.Give site place) answer sent more h k = site_again site sent more (give_one site place answer sent more h) (is_true_parts (is_place sent) (each_of is_place more) k).0
places_again (Ask.Ask site tid) answer sent more h k = site_again site sent more (ask_one site tid answer sent more h) (is_true_parts (is_place sent) (each_of is_place more) k).0
places_again command answer sent more h k = sent_again (sent ∷ more)

-- places and their words
place_is_word : (sent : Place) → IsTrue (is_place sent) → IsTrue (is_large sent.place)
place_is_word sent h = small_large sent.place (is_true_parts (is_site sent.site) (is_small sent.place) h).1

numbers_are_words : (places : List Place) → IsTrue (each_of is_place places) → AreWords (map (λ (sent : Place). Number sent.place) places)
numbers_are_words [] h = tt
numbers_are_words (sent ∷ places) h = let t = is_true_parts (is_place sent) (each_of is_place places) h in (place_is_word sent t.0, numbers_are_words places t.1)

sent_are_words : (places : List Place) → IsTrue (each_of is_place places) → AreWords (map Sent places)
sent_are_words [] h = tt
sent_are_words (sent ∷ places) h = let t = is_true_parts (is_place sent) (each_of is_place places) h in (t.0, sent_are_words places t.1)

places_are_words : (command : Command) (places : List Place) → IsTrue (each_of is_place places) → AreWords (map (place_word command) places)
places_are_words (Ask.Give site place) places h = numbers_are_words places h
places_are_words (Ask.Ask site tid) places h = numbers_are_words places h
places_are_words command places h = sent_are_words places h

-- the numbers of places are below 2 ^ 64
pub sends_is_words : (command : Command) (places : List Place) → IsTrue (each_of is_place places) → AreWords (sends_words command places)
sends_is_words command [] h = tt
sends_is_words command (sent ∷ more) h = (refl, places_are_words command (sent ∷ more) h)

-- the places are spelled by these words behind `sends`, and their numbers are in range
abbrev pub ArePlacesOf : Command → List Word → List Place → Type 0
ArePlacesOf command words places = (Plain Key.Sends ∷ words ≡ sends_words command places) × IsTrue (each_of is_place places)

site_found : (command : Command) (site : SiteId) → ((place : ℕ) → place_word command (record { site = site; place = place }) ≡ Number place) → (words : List Word) (places : List Place) → IsTrue (is_site site) → site_sent site words ≡ Some places → ArePlacesOf command words places
site_found command site number (Number n ∷ []) places h e =
    from_guard (is_small n) n (λ place. record { site = site; place = place } ∷ []) places (ArePlacesOf command (Number n ∷ [])) e
    (λ small. (ap (λ w. Plain Key.Sends ∷ w ∷ []) (sym (number n)), is_true_both _ _ (is_true_both _ _ h small) refl))
site_found command site number words places h e = absurd (none-some places e)

sent_found : (words : List Word) (places : List Place) → AreWords words → sent_of words ≡ Some places → (words ≡ map Sent places) × IsTrue (each_of is_place places)
sent_found [] places h e = subst (λ places. ([] ≡ map Sent places) × IsTrue (each_of is_place places)) (same_Some _ places e) (refl, refl)
sent_found (Sent sent ∷ words) places h e =
    from_map (sent_of words) (λ more. sent ∷ more) places (λ places. (Sent sent ∷ words ≡ map Sent places) × IsTrue (each_of is_place places)) e
    (λ more d. let rest = sent_found words more h.1 d in (ap (λ ws. Sent sent ∷ ws) rest.0, is_true_both _ _ h.0 rest.1))
sent_found words places h e = absurd (none-some places e)

-- words that the places of a coordinator's line have
behind_sends : (word : Word) (words : List Word) (places : List Place) → word ∷ words ≡ map Sent places → (sends : List Place → List Word) → ((sent : Place) (more : List Place) → sends (sent ∷ more) ≡ Plain Key.Sends ∷ map Sent (sent ∷ more)) → Plain Key.Sends ∷ word ∷ words ≡ sends places
behind_sends word words [] e sends s = cc
behind_sends word words (sent ∷ more) e sends s = ap (λ ws. Plain Key.Sends ∷ ws) e ∙ sym (s sent more)

-- what is read as places is spelled by these words
pub places_found : (command : Command) (words : List Word) (places : List Place) → IsTrue (command_in_range command) → AreWords words → places_of command words ≡ Some places → ArePlacesOf command words places
places_found command [] places k h e = absurd (none-some places e)
places_found (Ask.Give site place) (word ∷ words) places k h e = site_found (Ask.Give site place) site (λ n. refl) (word ∷ words) places (is_true_parts (is_site site) (is_small place) k).0 e
places_found (Ask.Ask site tid) (word ∷ words) places k h e = site_found (Ask.Ask site tid) site (λ n. refl) (word ∷ words) places (is_true_parts (is_site site) (is_tid tid) k).0 e
places_found command (word ∷ words) places k h e =
    let found = sent_found (word ∷ words) places h e in
    (behind_sends word words places found.0 (sends_words command) (λ sent more. refl), found.1)
