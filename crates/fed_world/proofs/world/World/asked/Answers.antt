use Rattle.std.proofs.Common.{refl}
use Rattle.fed_rules.specs.declared.commands.Command.TheVariants as Cmd
use Rattle.fed_rules.specs.Story.{story_in}
use Rattle.fed_world.proofs.SessionRuns.{none_sent}
use Rattle.fed_world.specs.declared.asks.Asked.TheVariants.{Coordinator}
use Rattle.global_manager.specs.declared.asks.CoordAsk.TheVariants as Coord
use Rattle.fed_world.proofs.Asking.{abort_asked, again_asked, ask_asked, asked_same, back_asked, begin_asked, check_asked, commit_asked, drop_asked, fate_asked, give_asked, go_asked, halt_asked, late_asked, step_asked, take_asked, trip_asked}
use Rattle.fed_world.proofs.world.World.asked.Goals as goal

pub returns-in-Begin : goal.returns-in-Begin
returns-in-Begin c session commands r =
    asked_same _ _ c.args.command.now (Cmd.Begin c.in-Begin.tx) session (story_in session commands) (c.of_local.ensures session commands r) c.in-Begin.is (begin_asked session (story_in session commands) c.in-Begin.tx)

pub returns-in-Step : goal.returns-in-Step
returns-in-Step c session commands r =
    asked_same _ _ c.args.command.now (Cmd.Step c.in-Step.tx) session (story_in session commands) (c.of_local-in-Step.ensures session commands r) c.in-Step.is (step_asked session (story_in session commands) c.in-Step.tx)

pub returns-in-Commit : goal.returns-in-Commit
returns-in-Commit c session commands r =
    asked_same _ _ c.args.command.now (Cmd.Commit c.in-Commit.tx) session (story_in session commands) (c.of_local-in-Commit.ensures session commands r) c.in-Commit.is (commit_asked session (story_in session commands) c.in-Commit.tx)

pub returns-in-Abort : goal.returns-in-Abort
returns-in-Abort c session commands r =
    asked_same _ _ c.args.command.now (Cmd.Abort c.in-Abort.tx) session (story_in session commands) (c.of_local-in-Abort.ensures session commands r) c.in-Abort.is (abort_asked session (story_in session commands) c.in-Abort.tx)

pub returns-in-Fate : goal.returns-in-Fate
returns-in-Fate c session commands r =
    asked_same _ _ c.args.command.now (Cmd.Fate c.in-Fate.tx) session (story_in session commands) (c.of_fate.ensures session commands r) c.in-Fate.is (fate_asked session (story_in session commands) c.in-Fate.tx)

pub returns-in-Go : goal.returns-in-Go
returns-in-Go c session commands r =
    asked_same (Coordinator (Coord.Go c.in-Go.tx)) (Coordinator (Coord.Go c.in-Go.tx)) c.args.command.now (Cmd.Go c.in-Go.tx) session (story_in session commands) refl c.in-Go.is (go_asked session (story_in session commands) c.in-Go.tx)

pub returns-in-Again : goal.returns-in-Again
returns-in-Again c session commands r =
    asked_same (Coordinator (Coord.Again c.in-Again.tid)) (Coordinator (Coord.Again c.in-Again.tid)) c.args.command.now (Cmd.Again c.in-Again.tid) session (story_in session commands) refl c.in-Again.is (again_asked session (story_in session commands) c.in-Again.tid)

pub returns-in-Late : goal.returns-in-Late
returns-in-Late c session commands r =
    asked_same (Coordinator (Coord.Late c.in-Late.tid)) (Coordinator (Coord.Late c.in-Late.tid)) c.args.command.now (Cmd.Late c.in-Late.tid) session (story_in session commands) refl c.in-Late.is (late_asked session (story_in session commands) c.in-Late.tid)

pub returns-in-Give : goal.returns-in-Give
returns-in-Give c session commands r =
    asked_same _ _ c.args.command.now (Cmd.Give c.in-Give.site c.in-Give.place) session (story_in session commands) (c.of_give.ensures session commands r) c.in-Give.is (give_asked session (story_in session commands) c.in-Give.site c.in-Give.place)

pub returns-in-Take : goal.returns-in-Take
returns-in-Take c session commands r =
    asked_same _ _ c.args.command.now (Cmd.Take c.in-Take.site c.in-Take.place) session (story_in session commands) (c.of_take.ensures session commands r) c.in-Take.is (take_asked session (story_in session commands) c.in-Take.site c.in-Take.place (λ none. none_sent session r.has.begins commands c.in-Take.site none))

pub returns-in-Ask : goal.returns-in-Ask
returns-in-Ask c session commands r =
    asked_same _ _ c.args.command.now (Cmd.Ask c.in-Ask.site c.in-Ask.tid) session (story_in session commands) (c.of_site.ensures session commands r) c.in-Ask.is (ask_asked session (story_in session commands) c.in-Ask.site c.in-Ask.tid)

pub returns-in-Drop : goal.returns-in-Drop
returns-in-Drop c session commands r =
    asked_same _ _ c.args.command.now (Cmd.Drop c.in-Drop.site c.in-Drop.tid) session (story_in session commands) (c.of_site-in-Drop.ensures session commands r) c.in-Drop.is (drop_asked session (story_in session commands) c.in-Drop.site c.in-Drop.tid)

pub returns-in-Halt : goal.returns-in-Halt
returns-in-Halt c session commands r =
    asked_same _ _ c.args.command.now (Cmd.Halt c.in-Halt.actor c.in-Halt.cut) session (story_in session commands) (c.of_actor.ensures session commands r) c.in-Halt.is (halt_asked session (story_in session commands) c.in-Halt.actor c.in-Halt.cut)

pub returns-in-Trip : goal.returns-in-Trip
returns-in-Trip c session commands r =
    asked_same _ _ c.args.command.now (Cmd.Trip c.in-Trip.actor c.in-Trip.calls c.in-Trip.cut) session (story_in session commands) (c.of_actor-in-Trip.ensures session commands r) c.in-Trip.is (trip_asked session (story_in session commands) c.in-Trip.actor c.in-Trip.calls c.in-Trip.cut)

pub returns-in-Back : goal.returns-in-Back
returns-in-Back c session commands r =
    asked_same _ _ c.args.command.now (Cmd.Back c.in-Back.actor) session (story_in session commands) (c.of_actor-in-Back.ensures session commands r) c.in-Back.is (back_asked session (story_in session commands) c.in-Back.actor)

pub returns-in-Check : goal.returns-in-Check
returns-in-Check c session commands r =
    asked_same _ _ c.args.command.now (Cmd.Check c.in-Check.actor) session (story_in session commands) (c.of_actor-in-Check.ensures session commands r) c.in-Check.is (check_asked session (story_in session commands) c.in-Check.actor)
