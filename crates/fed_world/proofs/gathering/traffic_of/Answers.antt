use Rattle.std.proofs.Common.{List, length, refl, sym, ap, subst, ◌∙◌, rules}
use Rattle.std.proofs.lemmas.Iterator.Adapters.{YieldsList-from_vec}
use Rattle.std.proofs.lemmas.Iterator.Consumers.{YieldsList-end}
use Rattle.session_report.specs.declared.session.Channel.{Channel}
use Rattle.session_routes.specs.declared.traffic.Traffic.{Traffic}
use Rattle.fed_world.specs.Gathering.{AreTraffic}
use Rattle.fed_world.proofs.Gathered.{map_self, traffic_more}
use Rattle.fed_world.proofs.gathering.traffic_of.Goals as goal

pub returns-in_err-traffic : goal.returns-in_err-traffic
returns-in_err-traffic c = search rules

pub same-channels : goal.same-channels
same-channels c = refl

pub loop-channel-init : goal.loop-channel-init
loop-channel-init c = record {
  count = ap (λ (ts : List Traffic). length ts) c.in_ok-traffic.ensures.items;
  each = λ place x y at got. cc;
}

pub loop-channel-preserved : goal.loop-channel-preserved
loop-channel-preserved c =
    traffic_more c.loop-channel.yielded c.loop-channel.traffic.items c.push.new.self.items c.in-Some.channel c.traffic_in.result c.loop-channel.invariant c.traffic_in.ensures c.in_ok-push.ensures.items

pub returns-in_err-push : goal.returns-in_err-push
returns-in_err-push c = search rules

pub returns : goal.returns
returns c =
    let gives = c.into_iter-channel-iterator.ensures.into_iter_gives in
    let t =
    YieldsList-end (YieldsList-from_vec {s = c.into_iter-channel-iterator.result} c.into_items-channel-items.result.items gives.0 (gives.1 ∙ c.into_items-channel-items.result.ok.0)) c.loop-channel.yielded
    c.loop-channel.channel-iterator c.loop-channel.yielded_by c.next.result c.next.new.self c.in-None.is c.next.ensures.steps in
    subst (λ (zs : List Channel). AreTraffic zs c.loop-channel.traffic.items) (sym (map_self c.loop-channel.yielded) ∙ (t.0 ∙ c.into_items-channel-items.ensures)) c.loop-channel.invariant
