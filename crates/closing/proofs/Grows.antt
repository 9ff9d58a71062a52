-- Each step of closing adds commands, and which ones.
use Rattle.std.proofs.Common.{◌≡◌, ℕ, not, is_some, Some, List, [], ◌∷◌, ◌++◌, map, refl, sym, ◌∙◌, ap, ap₂}
use Rattle.mdb_base.specs.declared.names.SiteId.{SiteId}
use Rattle.mdb_base.specs.declared.names.Tid.{Tid}
use Rattle.mdb_base.specs.Words.{those}
use Rattle.fed_rules.specs.declared.commands.Command.{Command}
use Rattle.fed_rules.specs.declared.commands.Command.TheVariants as Cmd
use Rattle.fed_rules.specs.declared.commands.Place.{Place}
use Rattle.fed_rules.specs.Closing as rules
use Rattle.fed_rules.specs.Closing.{ask_site, clear_site, deliver, for_each, in_doubt_at, inquire, known, last_sends, live, send_again, take_answers, taken, undecided}
use Rattle.fed_rules.specs.CoordPast as Coordinator
use Rattle.fed_rules.specs.Happenings.{is_down}
use Rattle.fed_rules.specs.Scenarios.{home_of, sites}
use Rattle.fed_rules.specs.Sessions.{Session}
use Rattle.fed_rules.specs.SitePast.{is_local, trip}
use Rattle.fed_rules.specs.Story.{Story, past_of, story_in}
use Rattle.closing.specs.declared.actors.SiteTids.{SiteTids}
use Rattle.closing.specs.Steps.{AreDoubtful, asks_all, back_of, clearing_at, clearing_of, disarm_of, give_of, last_sends_given, late_of, only_of, take_of, with_commands}
use Rattle.closing.proofs.Loops.{each_extends}
use Rattle.closing.proofs.Towards.{Extends, extends_here, extends_one, extends_twice}

-- ---- what stands behind the commands before

pushes_extend : {A : Type 0} (f : A → Command) (xs : List A) (commands : List Command) → Extends (for_each (λ x more. f x ∷ more) xs commands) commands
pushes_extend f = each_extends (λ x more. f x ∷ more) (λ x commands. extends_one (f x) commands)

takes_extend : (places : List Place) (commands : List Command) → Extends (take_answers places commands) commands
takes_extend [] commands = extends_here commands
takes_extend (place ∷ places) commands =
    let one = Cmd.Take place.site place.place ∷ commands in
    extends_twice commands one (take_answers places one) (takes_extend places one) (extends_one (Cmd.Take place.site place.place) commands)

module _ (session : Session) where
  pub taken_grows : (commands : List Command) → Extends (taken session commands) commands
  taken_grows commands = takes_extend (last_sends session commands) commands

  pub last_sends_grow : (commands : List Command) → Extends (last_sends_given session commands) commands
  last_sends_grow commands = pushes_extend (λ (place : Place). Cmd.Give place.site place.place) (last_sends session commands) commands

  pub deliver_grows : (place : Place) (commands : List Command) → Extends (deliver session place commands) commands
  deliver_grows place commands =
      let one = Cmd.Give place.site place.place ∷ commands in
      extends_twice commands one (taken session one) (taken_grows one) (extends_one (Cmd.Give place.site place.place) commands)

  pub send_again_grows : (tid : Tid) (commands : List Command) → Extends (send_again session tid commands) commands
  send_again_grows tid commands =
      let one = Cmd.Again tid ∷ commands in
      extends_twice commands one (for_each (deliver session) (last_sends session one) one) (each_extends (deliver session) deliver_grows (last_sends session one) one) (extends_one (Cmd.Again tid) commands)

  pub inquire_grows : (site : SiteId) (tid : Tid) (commands : List Command) → Extends (inquire session site tid commands) commands
  inquire_grows site tid commands =
      let one = Cmd.Ask site tid ∷ commands in
      let asked = taken session one in
      extends_twice commands asked (last_sends_given session asked) (last_sends_grow asked) (extends_twice commands one asked (taken_grows one) (extends_one (Cmd.Ask site tid) commands))

  pub disarm_grows : (commands : List Command) → Extends (rules.disarm session commands) commands
  disarm_grows commands =
      pushes_extend (λ actor. Cmd.Trip actor 0 0) (rules.actors (λ past. is_some (Coordinator.trip past)) (λ past. is_some (trip past)) session.plan (story_in session commands)) commands

  pub bring_up_grows : (commands : List Command) → Extends (rules.bring_up session commands) commands
  bring_up_grows commands =
      pushes_extend (λ actor. Cmd.Back actor) (rules.actors (λ past. is_down past) (λ past. is_down past) session.plan (story_in session commands)) commands

  pub give_up_grows : (commands : List Command) → Extends (rules.give_up session commands) commands
  give_up_grows commands = pushes_extend (λ tid. Cmd.Late tid) (undecided (story_in session commands)) commands

  clear_site_grows : (story : Story) (site : SiteId) (commands : List Command) → Extends (clear_site session.plan story site commands) commands
  clear_site_grows story site commands =
      let aborts = for_each (λ tid more. Cmd.Abort tid.tx ∷ more) (those (is_local (past_of site story)) (live session.plan story site)) commands in
      extends_twice commands aborts (clear_site session.plan story site commands)
      (pushes_extend (λ tid. Cmd.Drop site tid) (those (λ tid. not (is_local (past_of site story) tid)) (live session.plan story site)) aborts)
      (pushes_extend (λ (tid : Tid). Cmd.Abort tid.tx) (those (is_local (past_of site story)) (live session.plan story site)) commands)

  pub clear_grows : (commands : List Command) → Extends (rules.clear session commands) commands
  clear_grows commands = each_extends (clear_site session.plan (story_in session commands)) (clear_site_grows (story_in session commands)) (sites session.plan) commands

  pub end_known_grows : (commands : List Command) → Extends (rules.end_known session commands) commands
  end_known_grows commands = each_extends (send_again session) send_again_grows (known session.plan (story_in session commands)) commands

  ask_site_grows : (story : Story) (site : SiteId) (commands : List Command) → Extends (ask_site session story site commands) commands
  ask_site_grows story site commands = each_extends (inquire session site) (inquire_grows site) (in_doubt_at (home_of session.plan site) story) commands

  pub ask_all_grows : (commands : List Command) → Extends (rules.ask_all session commands) commands
  ask_all_grows commands = each_extends (ask_site session (story_in session commands)) (ask_site_grows (story_in session commands)) (sites session.plan) commands

-- ---- which commands they are

pub pushes_are : {A : Type 0} (f : A → Command) (xs : List A) (commands : List Command) → with_commands (map f xs) commands ≡ for_each (λ x more. f x ∷ more) xs commands
pushes_are f [] commands = refl
pushes_are f (x ∷ xs) commands = pushes_are f xs (f x ∷ commands)

pub takes_are : (places : List Place) (commands : List Command) → with_commands (map take_of places) commands ≡ take_answers places commands
takes_are [] commands = refl
takes_are (place ∷ places) commands = takes_are places (Cmd.Take place.site place.place ∷ commands)

-- what was sent is taken by these commands, and given by these
pub takes_made : (session : Session) (commands now items : List Command) (places sent : List Place) → now ≡ items → items ≡ map take_of places → places ≡ sent → sent ≡ last_sends session commands
    → with_commands now commands ≡ taken session commands
takes_made session commands now items places sent e f g h =
    ap (λ more. with_commands more commands) (e ∙ (f ∙ ap (map take_of) (g ∙ h))) ∙ takes_are (last_sends session commands) commands

pub gives_made : (session : Session) (commands now items : List Command) (places sent : List Place) → now ≡ items → items ≡ map give_of places → places ≡ sent → sent ≡ last_sends session commands
    → with_commands now commands ≡ last_sends_given session commands
gives_made session commands now items places sent e f g h =
    ap (λ more. with_commands more commands) (e ∙ (f ∙ ap (map give_of) (g ∙ h))) ∙ pushes_are give_of (last_sends session commands) commands

-- where one has an item alone, there is no other
only_one : {A : Type 0} (xs : List A) (x : A) → Some x ≡ only_of xs → xs ≡ x ∷ []
only_one [] x e = cc
only_one (y ∷ []) x e = let same : y ≡ x = cc in ap (λ z. z ∷ []) same
only_one (y ∷ z ∷ xs) x e = cc

-- the only message that was sent is taken by this command
pub take_made : (session : Session) (commands : List Command) (place : Place) → Some place ≡ only_of (last_sends session commands)
    → with_commands (take_of place ∷ []) commands ≡ taken session commands
take_made session commands place e =
    takes_made session commands (take_of place ∷ []) (take_of place ∷ []) (place ∷ []) (place ∷ []) refl refl refl
    (sym (only_one (last_sends session commands) place e))

with_both : (xs ys commands : List Command) → with_commands (xs ++ ys) commands ≡ with_commands ys (with_commands xs commands)
with_both [] ys commands = refl
with_both (x ∷ xs) ys commands = with_both xs ys (x ∷ commands)

module _ (session : Session) (story : Story) where
  one_site : (site : SiteId) (commands : List Command) → with_commands (clearing_at session.plan story site) commands ≡ clear_site session.plan story site commands
  one_site site commands =
      let locals = those (is_local (past_of site story)) (live session.plan story site) in
      let others = those (λ tid. not (is_local (past_of site story) tid)) (live session.plan story site) in
      with_both (map (λ (tid : Tid). Cmd.Abort tid.tx) locals) (map (λ tid. Cmd.Drop site tid) others) commands
      ∙ (ap (with_commands (map (λ tid. Cmd.Drop site tid) others)) (pushes_are (λ (tid : Tid). Cmd.Abort tid.tx) locals commands)
      ∙ pushes_are (λ tid. Cmd.Drop site tid) others (for_each (λ tid more. Cmd.Abort tid.tx ∷ more) locals commands))

  -- the commands that end what is live
  pub clearing_is : (at : List SiteId) (commands : List Command) → with_commands (clearing_of session.plan story at) commands ≡ for_each (clear_site session.plan story) at commands
  clearing_is [] commands = refl
  clearing_is (site ∷ at) commands =
      with_both (clearing_at session.plan story site) (clearing_of session.plan story at) commands
      ∙ (ap (with_commands (clearing_of session.plan story at)) (one_site site commands) ∙ clearing_is at (clear_site session.plan story site commands))

  -- and those that ask
  pub asking_is : (at : List SiteId) (all : List SiteTids) (commands : List Command) → AreDoubtful session.plan story at all → asks_all all session commands ≡ for_each (ask_site session story) at commands
  asking_is [] [] commands are = refl
  asking_is [] (a ∷ all) commands are = cc
  asking_is (site ∷ at) [] commands are = cc
  asking_is (site ∷ at) (a ∷ all) commands are =
      let first : ◌≡◌ {A = SiteId × List Tid} (a.site, a.tids.items) (site, in_doubt_at (home_of session.plan site) story) = cc in
      let same_site : a.site ≡ site = ap (λ (p : SiteId × List Tid). p.0) first in
      let same_tids : a.tids.items ≡ in_doubt_at (home_of session.plan site) story = ap (λ (p : SiteId × List Tid). p.1) first in
      ap₂ (λ s tids. for_each (λ (b : SiteTids). for_each (inquire session b.site) b.tids.items) all (for_each (inquire session s) tids commands)) same_site same_tids
      ∙ asking_is at all (ask_site session story site commands) cc

-- the commands of the first steps
module _ (session : Session) (commands now items : List Command) where
  pub disarm_made : (xs found : List ℕ) → now ≡ items → items ≡ map disarm_of xs → xs ≡ found
      → found ≡ rules.actors (λ past. is_some (Coordinator.trip past)) (λ past. is_some (trip past)) session.plan (story_in session commands) → with_commands now commands ≡ rules.disarm session commands
  disarm_made xs found e f g h = ap (λ more. with_commands more commands) (e ∙ (f ∙ ap (map disarm_of) (g ∙ h)))
      ∙ pushes_are disarm_of (rules.actors (λ past. is_some (Coordinator.trip past)) (λ past. is_some (trip past)) session.plan (story_in session commands)) commands

  pub bring_up_made : (xs found : List ℕ) → now ≡ items → items ≡ map back_of xs → xs ≡ found
      → found ≡ rules.actors (λ past. is_down past) (λ past. is_down past) session.plan (story_in session commands) → with_commands now commands ≡ rules.bring_up session commands
  bring_up_made xs found e f g h = ap (λ more. with_commands more commands) (e ∙ (f ∙ ap (map back_of) (g ∙ h)))
      ∙ pushes_are back_of (rules.actors (λ past. is_down past) (λ past. is_down past) session.plan (story_in session commands)) commands

  pub give_up_made : (xs found : List Tid) → now ≡ items → items ≡ map late_of xs → xs ≡ found → found ≡ undecided (story_in session commands) → with_commands now commands ≡ rules.give_up session commands
  give_up_made xs found e f g h = ap (λ more. with_commands more commands) (e ∙ (f ∙ ap (map late_of) (g ∙ h)))
      ∙ pushes_are late_of (undecided (story_in session commands)) commands
