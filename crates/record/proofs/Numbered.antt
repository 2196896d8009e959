-- The counts and the start of a record are those of the states, the moves and the object lines.
use Rattle.std.proofs.Common.{◌≡◌, ℕ, ◌/◌, ◌%◌, ◌*◌, ◌<◌, length, Some, ap, ◌∙◌}
use Rattle.std.proofs.lemmas.Option.{slice_get-map}
use Rattle.std.specs.List.{slice_get}
use Rattle.std.specs.Option.{option_map}
use Rattle.scheme.specs.Models.{ObjectModel, SchemeModel}
use Rattle.scheme.specs.Sizes.{sizes_of}
use Rattle.scheme.specs.Counts.{state_count, move_count}
use Rattle.codes.specs.Objects.{ObjectState, there}
use Rattle.enforcement.specs.Enforcement.{State}
use Rattle.record.specs.declared.record.Scheme.{Scheme}
use Rattle.record.specs.States.{state_from}
use Rattle.record.specs.Systems.{object_count, start_state}
use Rattle.record.specs.Schemes.{scheme_of}
use Rattle.record.specs.Numbers.{NumbersStates, NumbersMoves, StartsAsDeclared}
use Rattle.record.proofs.Accepting.{start_is_state}
use Rattle.record.proofs.Digits.{number_below, state_of_number, is_state, number_of_state}
use Rattle.record.proofs.MoveNumbers.{whole, together}
use Rattle.record.proofs.Leading.{in_scheme}

pub numbers_states : (m : SchemeModel) → NumbersStates m (state_count m)
numbers_states m =
    let ks = sizes_of m in
    let n = object_count m in
    record { below = number_below ks n; each = λ x low. (state_from ks n x, is_state ks n x, number_of_state ks n x low) }

pub numbers_moves : (m : SchemeModel) → NumbersMoves m (move_count m)
numbers_moves m v =
    let n = length m.objects in (
      λ low.
          let parts = in_scheme m v low in
          (v / (n * n), v / n % n, v % n, record { policy = parts.policy; subject = parts.subject; object = parts.object; number = whole n v }),
      λ (p, s, o, is). (together n (length m.policies) p s o v is.policy is.subject is.object is.number).within,
    )

pub starts_as_declared : (s : Scheme) → StartsAsDeclared (scheme_of s) s.start
starts_as_declared s i o is =
    let m = scheme_of s in
    let ks = sizes_of m in
    let n = object_count m in
    let line : ObjectModel → ObjectState = λ (x : ObjectModel). there x.values in
    ap (λ k. slice_get (state_from ks n k) i) s.started
    ∙ ap (λ (t : State). slice_get t i) (state_of_number ks n (start_state m) (start_is_state m s.formed))
    ∙ slice_get-map line m.objects i
    ∙ ap (option_map line) is
