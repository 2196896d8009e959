use Rattle.std.proofs.Common.{◌≡◌, ℕ, ◌^◌, ◌<◌, ◌≢◌, Some, Option, sym, ap, ◌∙◌, arith}
use Rattle.std.specs.Option.{option_map}
use Rattle.scheme.specs.Sizes.{sizes_of, size_states}
use Rattle.scheme.specs.Counts.{state_count}
use Rattle.enforcement.specs.declared.pair.Pair.{Pair}
use Rattle.enforcement.specs.Coded.{enforced_pair}
use Rattle.enforcement.specs.Enforcement.{enforced}
use Rattle.record.specs.declared.moves.Move.{Move}
use Rattle.record.specs.declared.record.Scheme.{Scheme}
use Rattle.record.specs.States.{number, state_from}
use Rattle.record.specs.Moves.{InScheme}
use Rattle.record.specs.Numberings.{Dimensions, dimensions_of, pair_at}
use Rattle.record.specs.Systems.{object_count, policy_at, state_after}
use Rattle.record.specs.Schemes.{scheme_of}
use Rattle.record.proofs.Dimensions.{dimensions, states_counted}
use Rattle.record.proofs.Exchanging.{code_kept}
use Rattle.record.proofs.Stepping.{Enforced, enforce_fails, enforce_succeeds, exchanged_twice}
use Rattle.record.proofs.record.uses.Use.apply.Goals as goal

-- what the policy of a move makes of the two codes in a state
abbrev answer_to : Scheme → Move → Pair → Option Pair
answer_to self mv p =
    enforced_pair (dimensions_of self.numbering).sizes (policy_at (scheme_of self) mv.policy).predicates (policy_at (scheme_of self) mv.policy).actions p

subject_below : (self : Scheme) (mv : Move) → InScheme (scheme_of self) mv → mv.subject < (dimensions_of self.numbering).objects
subject_below self mv h = omega (arith, h.subject, self.numbered)

object_below : (self : Scheme) (mv : Move) → InScheme (scheme_of self) mv → mv.object < (dimensions_of self.numbering).objects
object_below self mv h = omega (arith, h.object, self.numbered)

-- the state after a move, said of the numbering and of the scheme
after_move : (self : Scheme) (x : ℕ) (mv : Move)
    → option_map (number (dimensions_of self.numbering).sizes) (enforced (dimensions_of self.numbering).sizes (policy_at (scheme_of self) mv.policy).predicates (policy_at (scheme_of self) mv.policy).actions mv.subject mv.object (state_from (dimensions_of self.numbering).sizes (dimensions_of self.numbering).objects x))
    ≡ option_map (number (sizes_of (scheme_of self))) (state_after (scheme_of self) mv (state_from (sizes_of (scheme_of self)) (object_count (scheme_of self)) x))
after_move self x mv =
    ap (λ (d : Dimensions). option_map (number d.sizes) (enforced d.sizes (policy_at (scheme_of self) mv.policy).predicates (policy_at (scheme_of self) mv.policy).actions mv.subject mv.object (state_from d.sizes d.objects x)))
    (dimensions self)

done : (self : Scheme) (x : ℕ) (mv : Move) (before after : Pair) → InScheme (scheme_of self) mv → mv.subject ≢ mv.object
    → before ≡ pair_at (dimensions_of self.numbering).sizes x mv.subject mv.object → Some after ≡ answer_to self mv before
    → Enforced (dimensions_of self.numbering).sizes (dimensions_of self.numbering).objects (policy_at (scheme_of self) mv.policy).predicates (policy_at (scheme_of self) mv.policy).actions x mv.subject mv.object after
done self x mv before after within apart is e =
    enforce_succeeds (dimensions_of self.numbering).sizes (dimensions_of self.numbering).objects _ _ x mv.subject mv.object after
    (subject_below self mv within) (object_below self mv within) apart (e ∙ ap (answer_to self mv) is)

pub returns-in_err-after : goal.returns-in_err-after
returns-in_err-after c =
    let self = c.args.self.now.scheme.now in
    let mv = c.args.self.now.mv in
    c.from_residual.ensures
    ∙ enforce_fails (dimensions_of self.numbering).sizes (dimensions_of self.numbering).objects (policy_at (scheme_of self) mv.policy).predicates (policy_at (scheme_of self) mv.policy).actions c.args.state mv.subject mv.object
    (subject_below self mv c.args.self.now.within) (object_below self mv c.args.self.now.within) c.requires.apart (c.in_err-after.ensures ∙ ap (answer_to self mv) c.codes_in-before.ensures)
    ∙ after_move self c.args.state mv

known : (self : Scheme) (x : ℕ) → x < state_count (scheme_of self) → x < size_states (dimensions_of self.numbering).sizes ^ (dimensions_of self.numbering).objects
known self x h = omega (arith, states_counted self)

pub exchange-half-requires : goal.exchange-half-requires
exchange-half-requires c =
    let self = c.args.self.now.scheme.now in
    let made = done self c.args.state c.args.self.now.mv c.codes_in-before.result c.in_ok-after.after c.args.self.now.within c.requires.apart c.codes_in-before.ensures c.in_ok-after.ensures in
    record {
      state = known self c.args.state c.requires.state;
      object = subject_below self c.args.self.now.mv c.args.self.now.within;
      old = ap (λ (p : Pair). p.subject) c.codes_in-before.ensures;
      new = made.subject;
    }

pub exchange-requires : goal.exchange-requires
exchange-requires c =
    let self = c.args.self.now.scheme.now in
    let mv = c.args.self.now.mv in
    let made = done self c.args.state mv c.codes_in-before.result c.in_ok-after.after c.args.self.now.within c.requires.apart c.codes_in-before.ensures c.in_ok-after.ensures in
    record {
      state = c.exchange-half.ensures.below;
      object = object_below self mv c.args.self.now.within;
      old = ap (λ (p : Pair). p.object) c.codes_in-before.ensures
          ∙ code_kept (dimensions_of self.numbering).sizes (dimensions_of self.numbering).objects c.args.state c.exchange-half.result mv.subject mv.object c.in_ok-after.after.subject
          (subject_below self mv c.args.self.now.within) (object_below self mv c.args.self.now.within) (λ e. c.requires.apart (sym e)) c.exchange-half.ensures.value;
      new = made.object;
    }

pub returns : goal.returns
returns c =
    let self = c.args.self.now.scheme.now in
    let mv = c.args.self.now.mv in
    let made = done self c.args.state mv c.codes_in-before.result c.in_ok-after.after c.args.self.now.within c.requires.apart c.codes_in-before.ensures c.in_ok-after.ensures in
    ap Some (exchanged_twice (dimensions_of self.numbering).sizes (dimensions_of self.numbering).objects c.args.state mv.subject mv.object c.in_ok-after.after.subject c.in_ok-after.after.object c.exchange-half.result c.exchange.result c.exchange-half.ensures.value c.exchange.ensures.value)
    ∙ made.state
    ∙ after_move self c.args.state mv
