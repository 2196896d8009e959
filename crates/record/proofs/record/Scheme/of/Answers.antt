use Rattle.std.proofs.Common.{◌≡◌, ◌*◌, ◌<◌, map, length, sym, ap, ◌∙◌, subst}
use Rattle.std.proofs.lemmas.Bool.{cond-true, cond-false, and_right, and_from}
use Rattle.std.specs.List.{range_with_len}
use Rattle.std.specs.Option.{option_map}
use Rattle.scheme.specs.Sizes.{sizes_of}
use Rattle.scheme.specs.Counts.{state_count}
use Rattle.scheme.specs.Drafts.{draft_of}
use Rattle.scheme.specs.Models.{object_of, policy_of}
use Rattle.scheme.proofs.Lists.{count_of}
use Rattle.enforcement.proofs.Fitting.{none_some}
use Rattle.record.specs.States.{number}
use Rattle.record.specs.Moves.{move_at}
use Rattle.record.specs.Numberings.{Dimensions, dimensions_of, within_bounds, state_of}
use Rattle.record.specs.Systems.{object_count, start_state}
use Rattle.record.specs.Schemes.{scheme_of}
use Rattle.record.proofs.Accepting.{none_cond, some_cond, built, start_is_state, start_number}
use Rattle.record.proofs.Closing.{step_closed}
use Rattle.record.proofs.Digits.{number_below}
use Rattle.record.proofs.record.Scheme.of.Goals as goal

pub returns-in_err-numbering : goal.returns-in_err-numbering
returns-in_err-numbering c =
    let m = draft_of c.args.draft in
    let n = length c.objects-objects.result.now in
    let count : n ≡ object_count m = count_of object_of _ _ c.objects-objects.ensures.list in
    ap (option_map scheme_of) c.from_residual.ensures
    ∙ sym (cond-false _ _ _ (and_right _ _
    (ap (λ k. within_bounds (sizes_of m) k) (sym count)
    ∙ ap (λ ks. within_bounds ks n) (sym c.sizes_in.ensures)
    ∙ none_cond _ _ c.in_err-numbering.ensures)))

pub returns : goal.returns
returns c =
    let m = draft_of c.args.draft in
    let n = length c.objects-objects.result.now in
    let count : n ≡ object_count m = count_of object_of _ _ c.objects-objects.ensures.list in
    sym (cond-true _ _ _ (and_from _ _ (sym c.if-not-is_well_formed.ensures)
    (ap (λ k. within_bounds (sizes_of m) k) (sym count)
    ∙ ap (λ ks. within_bounds ks n) (sym c.sizes_in.ensures)
    ∙ (some_cond _ _ _ c.in_ok-numbering.ensures).0)))

pub returns-in_err-start : goal.returns-in_err-start
returns-in_err-start c =
    let m = draft_of c.args.draft in
    let count : length c.objects-objects.result.now ≡ object_count m = count_of object_of _ _ c.objects-objects.ensures.list in
    let is = built m _ _ (dimensions_of c.in_ok-numbering.numbering) c.sizes_in.ensures count c.in_ok-numbering.ensures in
    absurd (none_some (number (sizes_of m) (start_state m))
    (c.in_err-start.ensures ∙ start_number m (dimensions_of c.in_ok-numbering.numbering) (state_of c.start_in.result) (sym c.if-not-is_well_formed.ensures) is c.start_in.ensures))

pub invariant_of-result : goal.invariant_of-result
invariant_of-result c =
    let m = draft_of c.args.draft in
    let n = length c.objects-objects.result.now in
    let count : n ≡ object_count m = count_of object_of _ _ c.objects-objects.ensures.list in
    let policies : length c.policies-policies.result.now ≡ length m.policies = count_of policy_of _ _ c.policies-policies.ensures.list in
    let formed = sym c.if-not-is_well_formed.ensures in
    let is = built m _ _ (dimensions_of c.in_ok-numbering.numbering) c.sizes_in.ensures count c.in_ok-numbering.ensures in
    let number_is = c.in_ok-start.ensures ∙ start_number m (dimensions_of c.in_ok-numbering.numbering) (state_of c.start_in.result) formed is c.start_in.ensures in
    let start_is : c.in_ok-start.start ≡ number (sizes_of m) (start_state m) = cc in
    record {
      formed = formed;
      sized = ap (λ (d : Dimensions). d.sizes) is;
      numbered = ap (λ (d : Dimensions). d.objects) is;
      started = start_is;
      listed =
          c.moves_of-moves.ensures
          ∙ ap (λ k. map (move_at k) (range_with_len 0 (k * k * length c.policies-policies.result.now))) count
          ∙ ap (λ k. map (move_at (object_count m)) (range_with_len 0 (object_count m * object_count m * k))) policies;
      begun = subst (λ k. k < state_count m) (sym start_is) (number_below (sizes_of m) (object_count m) (start_state m) (start_is_state m formed));
      closed = step_closed m;
    }
