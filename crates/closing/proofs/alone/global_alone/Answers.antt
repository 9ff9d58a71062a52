use Rattle.std.proofs.Common.{◌≡◌, ℕ, suc, ◌+◌, ◌-◌, ◌*◌, ◌<◌, ◌∷◌, ◌++◌, List, length, map, drop, get_or, refl, ◌∙◌, ap, arith}
use Rattle.std.proofs.lemmas.List.{drop_all}
use Rattle.std.proofs.lemmas.Result.{err_from_is_err_and}
use Rattle.mdb_base.specs.declared.acts.Step.{Step}
use Rattle.mdb_base.specs.declared.names.Tx.{Tx}
use Rattle.fed_rules.specs.declared.commands.Command.{Command}
use Rattle.fed_rules.specs.declared.commands.Command.TheVariants as Cmd
use Rattle.fed_rules.specs.declared.commands.Place.{Place}
use Rattle.fed_rules.specs.declared.scenario.Scenario.{Scenario}
use Rattle.fed_rules.specs.Closing as rules
use Rattle.fed_rules.specs.Closing.{deliver_all, last_sends}
use Rattle.fed_rules.specs.Sessions.{fresh}
use Rattle.closing.specs.Alone.{delivered_next}
use Rattle.fed_world.specs.Worlds.{HasRoom}
use Rattle.closing.specs.Towards.{Fits}
use Rattle.closing.proofs.Deliveries.{all_delivered, delivers_grow, fuel_spent, delivery_begins, next_grows, delivery_rest}
use Rattle.fed_world.proofs.ForCallers.{failed_later}
use Rattle.closing.proofs.Towards.{Extends, extends_here, extends_one, extends_twice, fails_at, fails_within, fits_less, room_one, short_here, short_within}
use Rattle.closing.proofs.World.{has_lines}
use Rattle.closing.proofs.alone.global_alone.Goals as goal

abbrev one : Tx → List Command → List Command
one tx commands = Cmd.Go tx ∷ commands

first : (scenario : Scenario) (tx : Tx) (steps : List Step) (commands : List Command) → Extends (rules.global_alone scenario tx steps commands) (one tx commands)
first scenario tx steps commands = delivers_grow scenario (4 * length steps) (last_sends (fresh scenario) (one tx commands)) (one tx commands)

room : (scenario : Scenario) (tx : Tx) (steps : List Step) (commands : List Command) → Fits (fresh scenario) (rules.global_alone scenario tx steps commands) → HasRoom (fresh scenario) commands
room scenario tx steps commands fits = room_one (fresh scenario) (Cmd.Go tx) commands (fits_less (fresh scenario) (rules.global_alone scenario tx steps commands) (one tx commands) (first scenario tx steps commands) fits)

-- at first all are left, and then one less
all_left : (n : ℕ) → n - 0 ≡ n
all_left n = omega arith

one_less : (n k : ℕ) → k < n → n - k ≡ suc (n - (k + 1))
one_less n k lt = omega (arith, lt)

pub apply-requires-clause-stood : goal.apply-requires-clause-stood
apply-requires-clause-stood g c =
    let r = c.requires.stood in
    record { session = fresh r.session; commands = r.commands; stood = r.stood; holds = room r.session c.args.tx c.args.steps.now r.commands r.holds }

pub returns-in_err-apply-clause-failed : goal.returns-in_err-apply-clause-failed
returns-in_err-apply-clause-failed g c =
    let p = err_from_is_err_and c.from_residual.result c.from_residual.ensures.1 in
    rw (p.1, p.2) (λ scenario commands s fits.
    let tx = c.args.tx in
    let steps = c.args.steps.now in
    fails_within g.D.Disk.seen g.D.Disk.tells c.apply.new.self (map g.D.Disk.seen c.apply.new.disks.items) (fresh scenario) c.in_err-apply.field-0.0 (rules.global_alone scenario tx steps commands) (one tx commands) commands commands
    (first scenario tx steps commands) (extends_here commands)
    _ _ refl (fails_at g.D.Disk.seen g.D.Disk.tells c.apply.new.self (map g.D.Disk.seen c.apply.new.disks.items) (fresh scenario) c.in_err-apply.field-0.0 (Cmd.Go tx) commands c.args.world.now c.args.disks.now.items s c.in_err-apply.ensures.cause
    (c.in_err-apply.ensures.failed (fresh scenario) commands s (room scenario tx steps commands fits))))

pub returns-in_default-clause-failed : goal.returns-in_default-clause-failed
returns-in_default-clause-failed g c scenario commands s fits =
    let tx = c.args.tx in
    let steps = c.args.steps.now in
    let whole = rules.global_alone scenario tx steps commands in
    short_within g.D.Disk.tells c.apply.new.self (map g.D.Disk.seen c.apply.new.disks.items) (fresh scenario) whole whole (one tx commands) commands (extends_here whole) (extends_one (Cmd.Go tx) commands)
    (short_here g.D.Disk.tells c.apply.new.self (map g.D.Disk.seen c.apply.new.disks.items) (fresh scenario) whole (one tx commands) (first scenario tx steps commands)
    (c.in_ok-apply.ensures.applied (fresh scenario) commands s (room scenario tx steps commands fits)))

pub loop-next-init : goal.loop-next-init
loop-next-init g c = record {
  stands = λ scenario commands s fits.
      let next = c.in_ok-apply.ensures.applied (fresh scenario) commands s (room scenario c.args.tx c.args.steps.now commands fits) in
      record {
        mid = one c.args.tx commands;
        stood = next;
        rest = ap (λ n. deliver_all scenario n c.in-Ok.places.items (one c.args.tx commands)) (all_left (4 * length c.args.steps.now))
            ∙ ap (λ ps. deliver_all scenario (4 * length c.args.steps.now) ps (one c.args.tx commands)) (c.in-Ok.ensures (fresh scenario) (one c.args.tx commands) (has_lines _ _ _ _ _ next));
        on = extends_one (Cmd.Go c.args.tx) commands;
      };
  calm = c.in_ok-apply.ensures.cause;
}

-- the numbers of one message more fit
next_fits : (scenario : Scenario) (tx : Tx) (steps : List Step) (commands mid : List Command) (places : List Place) (n : ℕ) (place : Place) → n < length places → place ≡ get_or places n place → n < 4 * length steps
    → deliver_all scenario (4 * length steps - n) (drop n places) mid ≡ rules.global_alone scenario tx steps commands → Fits (fresh scenario) (rules.global_alone scenario tx steps commands) → Fits (fresh scenario) (delivered_next place scenario mid)
next_fits scenario tx steps commands mid places n place lt is few rest fits =
    fits_less (fresh scenario) (rules.global_alone scenario tx steps commands) (delivered_next place scenario mid)
    (delivery_begins scenario places n (4 * length steps - n) (4 * length steps - (n + 1)) place mid (rules.global_alone scenario tx steps commands) lt is (one_less (4 * length steps) n few) rest) fits

pub deliver_next-requires-clause-stood : goal.deliver_next-requires-clause-stood
deliver_next-requires-clause-stood g c =
    let r = c.requires.stood in
    let tx = c.args.tx in
    let steps = c.args.steps.now in
    let w = c.loop-next.invariant.stands r.session r.commands r.stood r.holds in
    let n = c.loop-next.next in
    record {
      session = r.session;
      commands = w.mid;
      stood = w.stood;
      holds = next_fits r.session tx steps r.commands w.mid c.loop-next.places.items n c.index-place.result.now (omega (arith, c.loop-next.places.ok.0, c.len.ensures, c.if-next-len.false)) c.index-place.ensures c.loop-next-test.true w.rest r.holds;
    }

pub returns-then-next-len-clause-done : goal.returns-then-next-len-clause-done
returns-then-next-len-clause-done g c scenario commands s fits =
    all_delivered g.D.Disk.tells c.loop-next.world (map g.D.Disk.seen c.loop-next.disks.items) scenario (4 * length c.args.steps.now - c.loop-next.next) (drop c.loop-next.next c.loop-next.places.items) (rules.global_alone scenario c.args.tx c.args.steps.now commands) commands
    (drop_all c.loop-next.next c.loop-next.places.items (omega (arith, c.loop-next.places.ok.0, c.len.ensures, c.if-next-len.true))) (c.loop-next.invariant.stands scenario commands s fits)

pub returns-in_err-sent-clause-failed : goal.returns-in_err-sent-clause-failed
returns-in_err-sent-clause-failed g c =
    let p = err_from_is_err_and c.from_residual-in_err-sent.result c.from_residual-in_err-sent.ensures.1 in
    rw (p.1, p.2) (λ scenario commands s fits.
    let tx = c.args.tx in
    let steps = c.args.steps.now in
    let w = c.loop-next.invariant.stands scenario commands s fits in
    let n = c.loop-next.next in
    let place = c.index-place.result.now in
    let whole = rules.global_alone scenario tx steps commands in
    fails_within g.D.Disk.seen g.D.Disk.tells c.deliver_next.new.world (map g.D.Disk.seen c.deliver_next.new.disks.items) (fresh scenario) c.in_err-sent.field-0.0 whole (delivered_next place scenario w.mid) w.mid commands
    (delivery_begins scenario c.loop-next.places.items n (4 * length steps - n) (4 * length steps - (n + 1)) c.index-place.result.now w.mid whole (omega (arith, c.loop-next.places.ok.0, c.len.ensures, c.if-next-len.false)) c.index-place.ensures (one_less (4 * length steps) n c.loop-next-test.true) w.rest) w.on
    _ _ c.loop-next.invariant.calm (c.in_err-sent.ensures.failed scenario w.mid w.stood (next_fits scenario tx steps commands w.mid c.loop-next.places.items n c.index-place.result.now (omega (arith, c.loop-next.places.ok.0, c.len.ensures, c.if-next-len.false)) c.index-place.ensures c.loop-next-test.true w.rest fits)))

pub returns-in_err-sent-clause-cause : goal.returns-in_err-sent-clause-cause
returns-in_err-sent-clause-cause g c =
    let p = err_from_is_err_and c.from_residual-in_err-sent.result c.from_residual-in_err-sent.ensures.1 in
    rw (p.1, p.2) (failed_later c.in_err-sent.field-0.0 _ _ _ c.loop-next.invariant.calm c.in_err-sent.ensures.cause)

pub returns-in_default-extend_from_slice-clause-failed : goal.returns-in_default-extend_from_slice-clause-failed
returns-in_default-extend_from_slice-clause-failed g c scenario commands s fits =
    let tx = c.args.tx in
    let steps = c.args.steps.now in
    let w = c.loop-next.invariant.stands scenario commands s fits in
    let n = c.loop-next.next in
    let place = c.index-place.result.now in
    let whole = rules.global_alone scenario tx steps commands in
    let next = delivered_next place scenario w.mid in
    let begins = delivery_begins scenario c.loop-next.places.items n (4 * length steps - n) (4 * length steps - (n + 1)) c.index-place.result.now w.mid whole (omega (arith, c.loop-next.places.ok.0, c.len.ensures, c.if-next-len.false)) c.index-place.ensures (one_less (4 * length steps) n c.loop-next-test.true) w.rest in
    let stood = c.in_ok-sent.ensures.done scenario w.mid w.stood (next_fits scenario tx steps commands w.mid c.loop-next.places.items n c.index-place.result.now (omega (arith, c.loop-next.places.ok.0, c.len.ensures, c.if-next-len.false)) c.index-place.ensures c.loop-next-test.true w.rest fits) in
    short_within g.D.Disk.tells c.deliver_next.new.world (map g.D.Disk.seen c.deliver_next.new.disks.items) (fresh scenario) whole whole next commands (extends_here whole) (extends_twice commands w.mid next (next_grows scenario place w.mid) w.on)
    (short_here g.D.Disk.tells c.deliver_next.new.world (map g.D.Disk.seen c.deliver_next.new.disks.items) (fresh scenario) whole next begins stood)

pub returns-in_default-extend_from_slice-clause-cause : goal.returns-in_default-extend_from_slice-clause-cause
returns-in_default-extend_from_slice-clause-cause g c =
    c.in_ok-sent.ensures.cause ∙ c.loop-next.invariant.calm

pub loop-next-preserved : goal.loop-next-preserved
loop-next-preserved g c =
    let tx = c.args.tx in
    let steps = c.args.steps.now in
    let n = c.loop-next.next in
    let places = c.loop-next.places.items in
    let place = c.index-place.result.now in
    record {
      stands = λ scenario commands s fits.
          let w = c.loop-next.invariant.stands scenario commands s fits in
          let whole = rules.global_alone scenario tx steps commands in
          let few = next_fits scenario tx steps commands w.mid places n c.index-place.result.now (omega (arith, c.loop-next.places.ok.0, c.len.ensures, c.if-next-len.false)) c.index-place.ensures c.loop-next-test.true w.rest fits in
          record {
            mid = delivered_next place scenario w.mid;
            stood = c.in_ok-sent.ensures.done scenario w.mid w.stood few;
            rest = delivery_rest scenario places n (4 * length steps - n) (4 * length steps - (n + 1)) c.index-place.result.now w.mid whole (omega (arith, c.loop-next.places.ok.0, c.len.ensures, c.if-next-len.false)) c.index-place.ensures (one_less (4 * length steps) n c.loop-next-test.true) w.rest
                c.in_ok-sent.sent c.extend_from_slice.new.self.items (c.in_ok-sent.ensures.sent scenario w.mid w.stood few) (c.in-Ok-extend_from_slice.ensures.items ∙ ap (λ ps. places ++ ps) c.as_slice.ensures);
            on = extends_twice commands w.mid (delivered_next place scenario w.mid) (next_grows scenario place w.mid) w.on;
          };
      calm = c.in_ok-sent.ensures.cause ∙ c.loop-next.invariant.calm;
    }

pub returns-clause-done : goal.returns-clause-done
returns-clause-done g c scenario commands s fits =
    fuel_spent g.D.Disk.tells c.loop-next.world (map g.D.Disk.seen c.loop-next.disks.items) scenario (4 * length c.args.steps.now - c.loop-next.next) (drop c.loop-next.next c.loop-next.places.items) (rules.global_alone scenario c.args.tx c.args.steps.now commands) commands
    (omega (arith, c.loop-next-test.false)) (c.loop-next.invariant.stands scenario commands s fits)

pub returns-then-next-len-clause-cause : goal.returns-then-next-len-clause-cause
returns-then-next-len-clause-cause g c = c.loop-next.invariant.calm

pub returns-clause-cause : goal.returns-clause-cause
returns-clause-cause g c = c.loop-next.invariant.calm
