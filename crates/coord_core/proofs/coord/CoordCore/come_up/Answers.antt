use Rattle.std.proofs.Common.{◌≡◌, ◌≤◌, ◌^◌, List, length, map, refl, sym, ap, subst, ◌∙◌, arith}
use Rattle.mdb_base.specs.Words.{how_many}
use Rattle.fed_rules.specs.declared.sums.CoordSum.{CoordSum}
use Rattle.fed_rules.specs.CoordPast.{records}
use Rattle.fed_rules.specs.CoordRecords.{is_kept, recorded}
use Rattle.protocol_table.specs.declared.known.Known.{Known}
use Rattle.protocol_table.specs.declared.known.Restored.{Restored}
use Rattle.protocol_table.specs.Attempts.{AreApart, restored}
use Rattle.actor_store.specs.Store.{stored, uncounted}
use Rattle.actor_store.proofs.ForCallers.{from_done, from_failed, from_stopped}
use Rattle.coord_tables.specs.Starting.{BeginWith, kept_by}
use Rattle.coord_core.proofs.Backs.{back_done, back_failed, back_records, back_stopped, up_line}
use Rattle.coord_core.proofs.Checks.{sum_is}
use Rattle.coord_core.proofs.Starts.{begin_serving, kept_apart, known_count, known_few}
use Rattle.coord_core.proofs.coord.CoordCore.come_up.Goals as goal

pub restart-requires : goal.restart-requires
restart-requires g c =
    let m = c.requires.may in
    let is = sum_is g.P.TakePolicy.policy c.args.self.now m.terms m.past c.records.result.now c.in-Ok.sum m.stood.holds c.records.ensures c.in-Ok.ensures in
    record { apart = subst (λ (s : CoordSum). AreApart (map (λ (kept : Restored). kept.tid) (kept_by s))) (sym is) (kept_apart m.terms m.past m.stood.holds.sound m.stood.stored.behind.written) }

pub overflow_cast-known : goal.overflow_cast-known
overflow_cast-known g c =
    let m = c.requires.may in
    let is = sum_is g.P.TakePolicy.policy c.args.self.now m.terms m.past c.records.result.now c.in-Ok.sum m.stood.holds c.records.ensures c.in-Ok.ensures in
    let few : length (map restored (kept_by c.in-Ok.sum)) ≤ 2 ^ 20 =
    subst (λ (s : CoordSum). length (map restored (kept_by s)) ≤ 2 ^ 20) (sym is) (known_few m.terms m.past m.stood.holds.sound m.stood.stored.behind.written) in
    let count : c.len-known.result ≡ length (map restored (kept_by c.in-Ok.sum)) = c.len-known.ensures.count ∙ ap (λ (ks : List Known). length ks) c.in-Ok-restart.ensures.known in
    omega (arith, count, few)

pub returns-in-Ok-open-clause-answered : goal.returns-in-Ok-open-clause-answered
returns-in-Ok-open-clause-answered g c = λ terms past k can.
    let old = c.args.self.now in
    let is = sum_is g.P.TakePolicy.policy old terms past c.records.result.now c.in-Ok.sum k.holds c.records.ensures c.in-Ok.ensures in
    let begins = subst (λ (s : CoordSum). BeginWith s c.restart.new.self) is c.in-Ok-restart.ensures in
    let n = c.len-known.result in
    let count : n ≡ how_many (is_kept terms.protocols (records past)) (recorded (records past)) =
    c.len-known.ensures.count ∙ ap (λ (ks : List Known). length ks) begins.known ∙ known_count terms past k.holds.sound k.stored.behind.written in
    back_done g.P.TakePolicy.policy g.D.Disk.tells old (record old { tables = c.restart.new.self; store = c.open.new.self }) (g.D.Disk.seen c.args.disk.now) (g.D.Disk.seen c.open.new.disk) terms past k c.requires.down
    n count refl refl refl c.silent.result (from_done k.stored (c.in-Ok-open.ensures.ends _ _ _ k.stored.behind)) c.in-Ok-open.ensures.standing
    (begin_serving terms past k.holds.sound k.stored.behind.written (up_line n past) refl (back_records n past) c.restart.new.self begins) c.silent.ensures.answer c.silent.ensures.sends
    (uncounted (stored old.store)) (c.in-Ok-open.ensures.called _ _ _ k.stored.behind)

pub returns-in-Err-Stopped-clause-answered : goal.returns-in-Err-Stopped-clause-answered
returns-in-Err-Stopped-clause-answered g c = λ terms past k can.
    let old = c.args.self.now in
    let is = sum_is g.P.TakePolicy.policy old terms past c.records.result.now c.in-Ok.sum k.holds c.records.ensures c.in-Ok.ensures in
    let begins = subst (λ (s : CoordSum). BeginWith s c.restart.new.self) is c.in-Ok-restart.ensures in
    let n = c.len-known.result in
    let count : n ≡ how_many (is_kept terms.protocols (records past)) (recorded (records past)) =
    c.len-known.ensures.count ∙ ap (λ (ks : List Known). length ks) begins.known ∙ known_count terms past k.holds.sound k.stored.behind.written in
    let told = rw c.in-Err-Stopped.field-0-is at (c.in-Err-Stopped.ensures.ends _ _ _ k.stored.behind) in
    let ends = from_stopped k.stored told in
    let stop = rw c.in-Err-Stopped.field-0-is at (c.in-Err-Stopped.ensures.called _ _ _ k.stored.behind) in
    back_stopped g.P.TakePolicy.policy g.D.Disk.tells old (record old { tables = c.restart.new.self; store = c.open.new.self }) (g.D.Disk.seen c.args.disk.now) (g.D.Disk.seen c.open.new.disk) terms past k c.requires.down
    n count refl refl refl c.silent-in-Err-Stopped.result c.in-Err-Stopped.kept ends c.in-Err-Stopped.ensures.down c.silent-in-Err-Stopped.ensures.answer c.silent-in-Err-Stopped.ensures.sends
    (uncounted (stored old.store)) stop

pub returns-in-Err-Failed-clause-failed : goal.returns-in-Err-Failed-clause-failed
returns-in-Err-Failed-clause-failed g c = λ terms past k can.
    let old = c.args.self.now in
    let is = sum_is g.P.TakePolicy.policy old terms past c.records.result.now c.in-Ok.sum k.holds c.records.ensures c.in-Ok.ensures in
    let begins = subst (λ (s : CoordSum). BeginWith s c.restart.new.self) is c.in-Ok-restart.ensures in
    let n = c.len-known.result in
    let count : n ≡ how_many (is_kept terms.protocols (records past)) (recorded (records past)) =
    c.len-known.ensures.count ∙ ap (λ (ks : List Known). length ks) begins.known ∙ known_count terms past k.holds.sound k.stored.behind.written in
    let told = rw c.in-Err-Failed.field-0-is at (c.in-Err-Failed.ensures.ends _ _ _ k.stored.behind) in
    let ends = from_failed k.stored told in
    let few = rw c.in-Err-Failed.field-0-is at (c.in-Err-Failed.ensures.called _ _ _ k.stored.behind) in
    back_failed g.P.TakePolicy.policy g.D.Disk.tells old (record old { tables = c.restart.new.self; store = c.open.new.self }) (g.D.Disk.seen c.args.disk.now) (g.D.Disk.seen c.open.new.disk) terms past k c.requires.down
    n count refl refl refl ends c.in-Err-Failed.ensures.down (uncounted (stored old.store)) few
