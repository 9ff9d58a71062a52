-- What either policy answers.
use Rattle.fed_rules.specs.Policies.{Policy, always, conservatively}
use Rattle.conservative_take.specs.declared.any_policy.AnyPolicy.{AnyPolicy}
use Rattle.conservative_take.specs.declared.any_policy.AnyPolicy.TheVariants.{Always, Conservative}

-- the test of the policy that it is
abbrev pub policy_is : AnyPolicy → Policy
policy_is Always = always
policy_is Conservative = conservatively
