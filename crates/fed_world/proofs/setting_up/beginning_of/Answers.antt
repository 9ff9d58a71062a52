use Rattle.std.proofs.Common.{◌≡◌, List, length, ap, subst, ◌∙◌}
use Rattle.mdb_base.specs.declared.names.SiteId.{SiteId}
use Rattle.fed_rules.specs.Scenarios.{sites}
use Rattle.fed_world.specs.SettingUp.{IsNewChannel, IsNewMarks}
use Rattle.fed_world.proofs.setting_up.beginning_of.Goals as goal

pub returns : goal.returns
returns c =
    let to : c.as_slice.result.now ≡ sites c.args.scenario.now = c.as_slice.ensures.value ∙ c.in_ok-declared.ensures.declared in
    let of : c.as_slice-2.result.now ≡ sites c.args.scenario.now = c.as_slice-2.ensures.value ∙ c.in_ok-declared.ensures.declared in
    record {
      routed = c.in_ok-routes.ensures;
      all_channels = c.in_ok-traffic.ensures.count ∙ ap (λ (zs : List SiteId). length zs) to;
      channels = subst (λ (zs : List SiteId). IsNewChannel zs c.in_ok-traffic.traffic.items) to c.in_ok-traffic.ensures.each;
      all_marks = c.in_ok-marks.ensures.count ∙ ap (λ (zs : List SiteId). length zs) of;
      marks = subst (λ (zs : List SiteId). IsNewMarks zs c.in_ok-marks.marks.items) of c.in_ok-marks.ensures.each;
    }
