use Rattle.std.proofs.Common.{sym, ◌∙◌, subst}
use Rattle.record.specs.Schemes.{scheme_of}
use Rattle.record.specs.Numbers.{NumbersStates}
use Rattle.record.proofs.Dimensions.{states_counted}
use Rattle.record.proofs.Numbered.{numbers_states}
use Rattle.record.proofs.record.system.SchemeWalk.states.Goals as goal

pub returns-clause-numbers_the_states : goal.returns-clause-numbers_the_states
returns-clause-numbers_the_states c =
    let s = c.args.self.now in
    subst (NumbersStates (scheme_of s)) (sym (c.states.ensures ∙ states_counted s)) (numbers_states (scheme_of s))
