-- The label of the move of a policy on a subject and an object.
use Rattle.std.proofs.Common.{◌≡◌, ℕ, length, Some, ◌∙◌, ap}
use Rattle.std.proofs.lemmas.Bool.{cond-true, lt-ltb}
use Rattle.std.specs.Option.{option_map}
use Rattle.scheme.specs.Models.{SchemeModel}
use Rattle.scheme.specs.Counts.{move_count}
use Rattle.record.specs.Moves.{IsMove}
use Rattle.record.specs.Systems.{policy_at, permission_of, label_of}
use Rattle.record.proofs.MoveNumbers.{together}

pub label_is : (m : SchemeModel) (v p s o : ℕ) → IsMove m v p s o → label_of m v ≡ Some (record { subject = s; object = o; right = (policy_at m p).right })
label_is m v p s o is =
    let t = together (length m.objects) (length m.policies) p s o v is.policy is.subject is.object is.number in
    ap (option_map (permission_of m)) (cond-true _ _ _ (lt-ltb v (move_count m) t.within))
    ∙ (λ i. Some (record { subject = t.subject i; object = t.object i; right = (policy_at m (t.policy i)).right }))
