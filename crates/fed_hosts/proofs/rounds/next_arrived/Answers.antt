use Rattle.std.proofs.Common.{◌≡◌, ◌≤◌, ℕ, length, sym, ◌∙◌, subst, arith}
use Rattle.fed_hosts.specs.CoordTurns.{begins_at}
use Rattle.fed_hosts.specs.Rounds.{HasComeFrom, HaveGivenNone}
use Rattle.fed_hosts.proofs.CoordPassed.{begins_there, begins_anew, passed_high, round_some}
use Rattle.fed_hosts.proofs.Polled.{polled_through, round_none}
use Rattle.fed_hosts.proofs.rounds.next_arrived.Goals as goal
use Rattle.fed_hosts.proofs.rounds.next_arrived.Goals.{then-from-all, else-from-all}

pub returns-in-Some-clause-passed : goal.returns-in-Some-clause-passed
returns-in-Some-clause-passed c =
    let old = c.args.ports.now.items in
    let all : c.len-all.result ≡ length old = omega (arith, c.len-all.ensures, c.args.ports.now.ok.0) in
    let begin : c.if-from-all.middle ≡ begins_at (length old) c.args.from =
    elim c.if-from-all.branch [ then-from-all w ↦ w.middle-is ∙ sym (begins_there (length old) c.args.from (omega (arith, all, w.if-from-all.true))) | else-from-all w ↦ w.middle-is ∙ sym (begins_anew (length old) c.args.from (omega (arith, all, w.if-from-all.false))) ] in
    let place = c.in-Some.arrived.place in
    let new = c.first_between.new.ports.items in
    passed_high c.args.from place old new c.in-Some.ensures.polled.count
    (subst (λ (n : ℕ). HasComeFrom n (length old) place old new) begin (subst (λ (n : ℕ). HasComeFrom c.if-from-all.middle n place old new) all c.in-Some.ensures.came))

pub returns-in-None-clause-polled : goal.returns-in-None-clause-polled
returns-in-None-clause-polled c =
    polled_through c.first_between-in-None.result c.args.ports.now.items c.first_between.new.ports.items c.first_between-in-None.new.ports.items c.in-None.ensures.polled c.first_between-in-None.ensures.polled

pub returns-in-None-clause-passed : goal.returns-in-None-clause-passed
returns-in-None-clause-passed c =
    let old = c.args.ports.now.items in
    let mid = c.first_between.new.ports.items in
    let all : c.len-all.result ≡ length old = omega (arith, c.len-all.ensures, c.args.ports.now.ok.0) in
    let begin : c.if-from-all.middle ≡ begins_at (length old) c.args.from =
    elim c.if-from-all.branch [ then-from-all w ↦ w.middle-is ∙ sym (begins_there (length old) c.args.from (omega (arith, all, w.if-from-all.true))) | else-from-all w ↦ w.middle-is ∙ sym (begins_anew (length old) c.args.from (omega (arith, all, w.if-from-all.false))) ] in
    let first = subst (λ (n : ℕ). HaveGivenNone c.if-from-all.middle n old mid) all c.in-None.ensures.none in
    round_some c.first_between-in-None.result c.args.from c.if-from-all.middle old mid c.first_between-in-None.new.ports.items begin c.in-None.ensures.polled.count c.first_between-in-None.ensures.polled first
    c.first_between-in-None.ensures.came

pub returns-in-None-clause-none : goal.returns-in-None-clause-none
returns-in-None-clause-none c =
    let old = c.args.ports.now.items in
    let mid = c.first_between.new.ports.items in
    let all : c.len-all.result ≡ length old = omega (arith, c.len-all.ensures, c.args.ports.now.ok.0) in
    let within : c.if-from-all.middle ≤ length old =
    elim c.if-from-all.branch [ then-from-all w ↦ omega (arith, all, w.middle-is, w.if-from-all.true) | else-from-all w ↦ omega (arith, w.middle-is) ] in
    let first = subst (λ (n : ℕ). HaveGivenNone c.if-from-all.middle n old mid) all c.in-None.ensures.none in
    round_none c.first_between-in-None.result c.if-from-all.middle (length old) old mid c.first_between-in-None.new.ports.items within c.first_between-in-None.ensures.polled first c.first_between-in-None.ensures.none
