use Rattle.std.proofs.Common.{ltb, sym, ap, ◌∙◌, arith}
use Rattle.std.proofs.lemmas.Bool.{cond-true, cond-false, and_left, and_from, lt-ltb, le-ltb}
use Rattle.std.specs.Option.{option_map}
use Rattle.scheme.specs.Sizes.{sizes_of}
use Rattle.scheme.specs.Counts.{state_count, move_count}
use Rattle.record.specs.declared.moves.Move.{Move}
use Rattle.record.specs.declared.record.Scheme.{Scheme}
use Rattle.record.specs.States.{number, state_from}
use Rattle.record.specs.Moves.{move_at}
use Rattle.record.specs.Systems.{object_count, state_after}
use Rattle.record.specs.Schemes.{scheme_of}
use Rattle.record.proofs.Accepting.{some_cond}
use Rattle.record.proofs.Dimensions.{states_counted}
use Rattle.record.proofs.record.Scheme.next_state.Goals as goal

pub returns-then-state-states : goal.returns-then-state-states
returns-then-state-states c =
    let m = scheme_of c.args.self.now in
    sym (cond-false _ _ _ (and_left _ _ (le-ltb c.args.state (state_count m) (omega (arith, states_counted c.args.self.now)))))

pub apply-requires-clause-state : goal.apply-requires-clause-state
apply-requires-clause-state c =
    rw c.in_ok-this_use.ensures.here (omega (arith, states_counted c.args.self.now))

pub returns : goal.returns
returns c =
    let m = scheme_of c.args.self.now in
    let x = c.args.state in
    let v = c.args.mv in
    let is = some_cond (ltb v (move_count m)) (move_at (object_count m) v) c.in_ok-this_use.this_use.mv c.in_ok-this_use.ensures.value in
    c.apply.ensures
    ∙ ap (λ (s : Scheme). option_map (number (sizes_of (scheme_of s))) (state_after (scheme_of s) c.in_ok-this_use.this_use.mv (state_from (sizes_of (scheme_of s)) (object_count (scheme_of s)) x))) c.in_ok-this_use.ensures.here
    ∙ ap (λ (e : Move). option_map (number (sizes_of m)) (state_after m e (state_from (sizes_of m) (object_count m) x))) is.1
    ∙ sym (cond-true _ _ _ (and_from _ _ (lt-ltb x (state_count m) (omega (arith, states_counted c.args.self.now))) is.0))
