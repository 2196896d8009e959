use Rattle.std.proofs.Common.{◌<◌, length, get_or, sym, ap, ◌∙◌, arith}
use Rattle.std.proofs.lemmas.List.{get_or-map}
use Rattle.scheme.specs.Models.{policy_of}
use Rattle.scheme.proofs.Lists.{count_of}
use Rattle.record.specs.Systems.{no_policy}
use Rattle.record.proofs.record.uses.Use.policy.Goals as goal

pub returns : goal.returns
returns c =
    let p = c.args.self.now.mv.policy in
    let slice = c.policies.result.now in
    let inside : p < length slice = omega (arith, count_of policy_of _ _ c.policies.ensures.list, c.args.self.now.within.policy) in
    ap policy_of c.index-policies-self.is
    ∙ sym (get_or-map policy_of slice p c.index-policies-self.result no_policy inside)
    ∙ ap (λ l. get_or l p no_policy) c.policies.ensures.list
